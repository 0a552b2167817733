use Rattle.std.proofs.Common.{◌∙◌, ◌-◌, ap, sym, arith}
use Rattle.line_objects.specs.Objects.{is_marked}
use Rattle.line_objects.proofs.Marks.{last-here, left-whole, none-behind, none-here}
use Rattle.line_objects.proofs.decoded.last_mark.Goals as goal

pub loop-place-init : goal.loop-place-init
loop-place-init c = none-behind c.args.line.now

pub returns-then-is_marked-clause-place : goal.returns-then-is_marked-clause-place
returns-then-is_marked-clause-place c =
    sym (last-here c.loop-place.place (c.loop-place.place - 1) c.args.line.now (omega arith) (omega arith)
    (sym (ap is_marked (left-whole (c.loop-place.place - 1) c.args.line.now)) ∙ (sym c.is_marked.ensures.here ∙ c.if-is_marked.true)) c.loop-place.invariant)

pub loop-place-preserved : goal.loop-place-preserved
loop-place-preserved c =
    none-here c.loop-place.place (c.loop-place.place - 1) c.args.line.now (omega arith)
    (sym (ap is_marked (left-whole (c.loop-place.place - 1) c.args.line.now)) ∙ (sym c.is_marked.ensures.here ∙ c.if-is_marked.false))
    c.loop-place.invariant
