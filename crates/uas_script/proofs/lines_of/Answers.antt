use Rattle.std.proofs.Common.{sym, ◌∙◌, ◌+◌, arith}
use Rattle.uas_script.proofs.Lines.{read_at, faulty_at, ended_at}
use Rattle.uas_script.proofs.lines_of.Goals as goal

pub returns-in-Err : goal.returns-in-Err
returns-in-Err c =
    let l = c.loop-index in
    sym (l.invariant ∙ faulty_at (λ piece. piece.now) c.args.clients c.args.tags l.lines.items (l.index + 1) c.args.pieces.now l.index _ c.in-Err.fault
    (omega arith) (sym c.in_ok-line.ensures ∙ c.in-Err.is))

pub loop-index-preserved : goal.loop-index-preserved
loop-index-preserved c =
    let l = c.loop-index in
    let read = read_at (λ piece. piece.now) c.args.clients c.args.tags l.lines.items (l.index + 1) c.args.pieces.now l.index _ c.in-Ok.line (omega arith)
    (sym c.in_ok-line.ensures ∙ c.in-Ok.is) in
    rw c.in_ok-push_some-in-Ok.ensures (l.invariant ∙ read)

pub returns : goal.returns
returns c =
    let l = c.loop-index in
    sym (l.invariant ∙ ended_at (λ piece. piece.now) c.args.clients c.args.tags l.lines.items (l.index + 1) l.index c.args.pieces.now (omega arith))
