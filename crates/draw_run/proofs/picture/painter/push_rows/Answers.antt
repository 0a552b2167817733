use Rattle.std.proofs.Common.{ℕ, List, ap, drop, map}
use Rattle.std.proofs.lemmas.List.{drop_all}
use Rattle.draw_run.specs.declared.picture.Point.{Point}
use Rattle.draw_run.specs.picture.Picture.{last, rows_of}
use Rattle.draw_run.specs.picture.Points.{start}
use Rattle.draw_run.proofs.Rows.{all_rows}
use Rattle.draw_run.proofs.picture.painter.push_rows.Goals as goal

pub returns-clause-rows : goal.returns-clause-rows
unfolding rows_of
returns-clause-rows c =
    let l = c.loop-line in
    ap (λ (at : Point × List ℕ). at.1)
    (all_rows c.args.clients c.args.tags start l.point c.args.text.now.items l.text.items (map (λ line. line.now) c.args.lines.now)
    (map (λ line. line.now) (drop l.line-index c.args.lines.now))
    (ap (map (λ line. line.now)) (drop_all l.line-index c.args.lines.now c.loop-line-test.false)) l.invariant)

pub returns-clause-last : goal.returns-clause-last
unfolding last
returns-clause-last c =
    let l = c.loop-line in
    ap (λ (at : Point × List ℕ). at.0)
    (all_rows c.args.clients c.args.tags start l.point c.args.text.now.items l.text.items (map (λ line. line.now) c.args.lines.now)
    (map (λ line. line.now) (drop l.line-index c.args.lines.now))
    (ap (map (λ line. line.now)) (drop_all l.line-index c.args.lines.now c.loop-line-test.false)) l.invariant)
