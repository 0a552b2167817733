use Rattle.std.proofs.Common.{◌≡◌, drop, fold, map}
use Rattle.draw_run.specs.picture.Points.{start}
use Rattle.draw_run.proofs.Rows.{with_row}
use Rattle.draw_run.proofs.picture.painter.push_rows.Given as goal

abbrev pub invariant-loop-line : goal.invariant-loop-line
invariant-loop-line l =
    fold (with_row l.clients l.tags) (l.point, l.text.items) (map (λ line. line.now) (drop l.line-index l.lines))
    ≡ fold (with_row l.clients l.tags) (start, l.fn.text.items) (map (λ line. line.now) l.lines)
