use Rattle.std.proofs.Common.{◌≡◌, ℕ, ◌+◌, ◌-◌, ◌==◌, true, false, List, length, Some, Result, sym, ap, ◌∙◌, arith}
use Rattle.std.specs.Result.{result_err}
use Rattle.host_commands.specs.Shapes.{Shape}
use Rattle.c_tasks.specs.Disks.{disk_shapes}
use Rattle.c_tasks.proofs.Lists.{IsCut, fault_behind, none_behind, refused_at, too_many}
use Rattle.c_tasks.proofs.making.shapes_fault.Goals as goal

fault_of : {a b : Result (List Shape) ℕ} → a ≡ b → result_err a ≡ result_err b
fault_of same = ap (λ (all : Result (List Shape) ℕ). result_err all) same

pub returns-then-is_empty-clause-fault : goal.returns-then-is_empty-clause-fault
returns-then-is_empty-clause-fault c =
    let n = c.loop-number.number in
    sym (fault_of (none_behind (15 - n) n c.loop-number.rest.now (sym c.is_empty.ensures ∙ c.if-is_empty.true))) ∙ c.loop-number.invariant

pub returns-in-Err-clause-fault : goal.returns-in-Err-clause-fault
returns-in-Err-clause-fault c =
    let n = c.loop-number.number in
    let rest = c.loop-number.rest.now in
    let front = c.split_at.result.0.now in
    let behind = c.split_at.result.1.now in
    let cut : IsCut (15 - n) (15 - (n + 1)) n (n + 1) rest front behind = record {
      count = omega (arith, c.loop-number-test.true);
      numbered = omega arith;
      some = sym c.is_empty.ensures ∙ c.if-is_empty.false;
      first = rw (sym c.first_size.ensures.size) c.split_at.ensures.front;
      others = rw (sym c.first_size.ensures.size) c.split_at.ensures.back;
    } in
    ap (λ (number : ℕ). Some number) c.record_fault.ensures.number
    ∙ sym (fault_of (refused_at (15 - n) (15 - (n + 1)) n (n + 1) rest front behind c.in-Err.fault cut (sym c.disk_asked.ensures ∙ c.in-Err.is)))
    ∙ c.loop-number.invariant

pub loop-number-preserved : goal.loop-number-preserved
loop-number-preserved c =
    let n = c.loop-number.number in
    let rest = c.loop-number.rest.now in
    let front = c.split_at.result.0.now in
    let behind = c.split_at.result.1.now in
    let cut : IsCut (15 - n) (15 - (n + 1)) n (n + 1) rest front behind = record {
      count = omega (arith, c.loop-number-test.true);
      numbered = omega arith;
      some = sym c.is_empty.ensures ∙ c.if-is_empty.false;
      first = rw (sym c.first_size.ensures.size) c.split_at.ensures.front;
      others = rw (sym c.first_size.ensures.size) c.split_at.ensures.back;
    } in
    sym (fault_behind (15 - n) (15 - (n + 1)) n (n + 1) rest front behind c.in_default.field-0 cut (sym c.disk_asked.ensures ∙ c.in_default.is))
    ∙ c.loop-number.invariant

pub returns-then-is_empty-2-clause-fault : goal.returns-then-is_empty-2-clause-fault
returns-then-is_empty-2-clause-fault c =
    let n = c.loop-number.number in
    sym (fault_of (none_behind (15 - n) n c.loop-number.rest.now (sym c.is_empty-2.ensures ∙ c.if-is_empty-2.true))) ∙ c.loop-number.invariant

pub returns-else-is_empty-2-clause-fault : goal.returns-else-is_empty-2-clause-fault
returns-else-is_empty-2-clause-fault c =
    let n = c.loop-number.number in
    let rest = c.loop-number.rest.now in
    let end : 15 - n ≡ 0 = omega (arith, c.loop-number-test.false) in
    sym (fault_of (ap (λ (k : ℕ). disk_shapes k n rest) end ∙ too_many n rest (sym c.is_empty-2.ensures ∙ c.if-is_empty-2.false)))
    ∙ c.loop-number.invariant
