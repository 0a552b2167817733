use Rattle.std.proofs.Common.{arith, rules, ℕ, ◌≤◌, ◌∙◌, length, take}
use Rattle.byte_io.proofs.Parts.{on_err_so}
use Rattle.byte_io.proofs.Reading.{fewer_more, gave_more}
use Rattle.byte_io.proofs.whole.drop_bytes.Goals as goal

pub loop-left-preserved : goal.loop-left-preserved
loop-left-preserved g c =
    let l = c.loop-left in
    let few : c.in_ok-read.read ≤ l.left = search rules in
    record {
      bound = omega arith;
      bytes = gave_more _ _ _ c.args.count l.left c.in_ok-read.read c.read_whole.new.buffer l.invariant.bound few
          c.in_ok-read.ensures.bound l.invariant.bytes c.in_ok-read.ensures.bytes;
      same = c.read_whole.ensures.same ∙ l.invariant.same;
    }

pub returns-then-read-part-clause-bytes : goal.returns-then-read-part-clause-bytes
returns-then-read-part-clause-bytes g c =
    let l = c.loop-left in
    let few : c.in_ok-read.read ≤ l.left = search rules in
    gave_more _ _ _ c.args.count l.left c.in_ok-read.read c.read_whole.new.buffer l.invariant.bound few
    c.in_ok-read.ensures.bound l.invariant.bytes c.in_ok-read.ensures.bytes

pub returns-in_err-read-clause-few : goal.returns-in_err-read-clause-few
returns-in_err-read-clause-few g c =
    let l = c.loop-left in
    let part : ℕ = length (take c.min-part.result l.chunk) in
    let few : part ≤ l.left = search rules in
    on_err_so c.from_residual.result (fewer_more _ _ _ c.args.count l.left part l.invariant.bound few l.invariant.bytes c.in_err-read.ensures.few)
