use Rattle.std.proofs.Common.{rules}
use Rattle.byte_io.proofs.Parts.{appends_more, began_at, on_err_so}
use Rattle.byte_io.proofs.outputs.write_all.Goals as goal

pub loop-done-preserved : goal.loop-done-preserved
loop-done-preserved g c =
    let l = c.loop-done in
    record {
      bound = search rules;
      wrote = appends_more _ _ _ l.done c.in_ok-done.field-0 c.args.bytes.now l.invariant.wrote c.in_ok-done.ensures.bytes;
    }

pub returns-in_err-done-clause-front : goal.returns-in_err-done-clause-front
returns-in_err-done-clause-front g c =
    on_err_so c.from_residual.result (began_at _ _ _ c.loop-done.done c.args.bytes.now c.loop-done.invariant.wrote c.in_err-done.ensures.bytes)
