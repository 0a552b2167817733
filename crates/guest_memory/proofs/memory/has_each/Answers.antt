use Rattle.std.proofs.Common.{sym, ap, ◌∙◌}
use Rattle.std.specs.Prelude.{is_some, not}
use Rattle.guest_memory.specs.Held.{held}
use Rattle.guest_memory.specs.Ranges.{lacks, lacking}
use Rattle.guest_memory.proofs.memory.has_each.Goals as goal

pub returns-then-is_none : goal.returns-then-is_none
returns-then-is_none g c = sym (ap is_some (lacks (held g.P.Piece.part c.args.pieces.now) c.args.at c.args.count c.loop-i.i c.loop-i-test.true
    (sym c.byte_ahead.ensures ∙ lacking c.byte_ahead.result (c.is_none.ensures ∙ ap not c.if-is_none.true))))
