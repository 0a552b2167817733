use Rattle.std.proofs.Common.{◌+◌, length, arith, sym, ap, ◌∙◌, get_or, [], ◌∷◌}
use Rattle.std.specs.Prelude.{is_some}
use Rattle.guest_memory.specs.Held.{held}
use Rattle.std.proofs.lemmas.Option.{slice_get-get_or}
use Rattle.guest_memory.specs.Bytes.{written}
use Rattle.guest_memory.specs.Ranges.{there_each, written_next, written_there, written_nothing}
use Rattle.guest_memory.specs.Several.{below_end}
use Rattle.guest_memory.proofs.memory.write_each.Goals as goal

pub loop-i-init : goal.loop-i-init
loop-i-init g c = sym (written_nothing (held g.P.Piece.part c.args.pieces.now) c.args.at)

pub overflow_add-at : goal.overflow_add-at
overflow_add-at g c = omega (
  arith,
  below_end g.P.Piece.part g.met.P.Piece.ends c.args.pieces.now (c.args.at + c.loop-i.i)
      (there_each (held g.P.Piece.part c.args.pieces.now) c.args.at (length c.args.bytes.now) c.requires c.loop-i.i c.loop-i-test.true),
)

pub set-requires : goal.set-requires
set-requires g c = ap (λ m. is_some (m (c.args.at + c.loop-i.i))) c.loop-i.invariant
    ∙ written_there (held g.P.Piece.part c.args.pieces.now) c.args.at _ (c.args.at + c.loop-i.i)
    (there_each (held g.P.Piece.part c.args.pieces.now) c.args.at (length c.args.bytes.now) c.requires c.loop-i.i c.loop-i-test.true)

pub loop-i-preserved : goal.loop-i-preserved
loop-i-preserved g c =
    let bytes = c.args.bytes.now in
    c.set.ensures ∙ ap (λ m. written m (c.args.at + c.loop-i.i) (get_or bytes c.loop-i.i 0 ∷ [])) c.loop-i.invariant
    ∙ written_next (held g.P.Piece.part c.args.pieces.now) c.args.at bytes c.loop-i.i (get_or bytes c.loop-i.i 0) c.loop-i-test.true
    (slice_get-get_or bytes c.loop-i.i 0 c.loop-i-test.true)
