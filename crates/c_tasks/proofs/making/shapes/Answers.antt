use Rattle.std.proofs.Common.{◌≡◌, ℕ, ◌+◌, ◌-◌, ◌≤◌, ◌==◌, true, false, List, [], ◌∷◌, ◌++◌, length, Result, Ok, sym, ap, ◌∙◌, arith}
use Rattle.std.proofs.lemmas.List.{append-nil, length-append}
use Rattle.host_commands.specs.Shapes.{Shape}
use Rattle.c_tasks.specs.Disks.{disk_shapes}
use Rattle.c_tasks.proofs.Lists.{IsCut, joined, joined_behind, none_behind}
use Rattle.c_tasks.proofs.making.shapes.Goals as goal

-- where no byte is left, those so far are all
all_there : (before : List Shape) (more number : ℕ) (rest records : List ℕ) → (length rest == 0) ≡ true
    → joined before (disk_shapes more number rest) ≡ disk_shapes 15 0 records → disk_shapes 15 0 records ≡ Ok before
all_there before more number rest records none all =
    sym all ∙ ap (λ (behind : Result (List Shape) ℕ). joined before behind) (none_behind more number rest none)
    ∙ ap (λ (items : List Shape). Ok items) (append-nil before)

pub returns-then-is_empty-clause-shapes : goal.returns-then-is_empty-clause-shapes
returns-then-is_empty-clause-shapes c =
    let l = c.loop-number in
    all_there l.shapes.items (15 - l.number) l.number l.rest.now c.args.records.now (sym c.is_empty.ensures ∙ c.if-is_empty.true) l.invariant.0

pub loop-number-preserved : goal.loop-number-preserved
loop-number-preserved c =
    let n = c.loop-number.number in
    let items = c.loop-number.shapes.items in
    let rest = c.loop-number.rest.now in
    let front = c.split_at.result.0.now in
    let behind = c.split_at.result.1.now in
    let pushed = c.in_ok-push.ensures.items in
    let cut : IsCut (15 - n) (15 - (n + 1)) n (n + 1) rest front behind = record {
      count = omega (arith, c.loop-number-test.true);
      numbered = omega arith;
      some = sym c.is_empty.ensures ∙ c.if-is_empty.false;
      first = rw (sym c.first_size.ensures.size) c.split_at.ensures.front;
      others = rw (sym c.first_size.ensures.size) c.split_at.ensures.back;
    } in (
      ap (λ (all : List Shape). joined all (disk_shapes (15 - (n + 1)) (n + 1) behind)) pushed
          ∙ sym (joined_behind items (15 - n) (15 - (n + 1)) n (n + 1) rest front behind c.in-Ok.shape cut (sym c.disk_asked.ensures ∙ c.in-Ok.is))
          ∙ c.loop-number.invariant.0,
      omega (arith, ap length pushed, length-append items (c.in-Ok.shape ∷ []), c.loop-number.invariant.1),
    )

pub returns-then-is_empty-2-clause-shapes : goal.returns-then-is_empty-2-clause-shapes
returns-then-is_empty-2-clause-shapes c =
    let l = c.loop-number in
    all_there l.shapes.items (15 - l.number) l.number l.rest.now c.args.records.now (sym c.is_empty-2.ensures ∙ c.if-is_empty-2.true) l.invariant.0
