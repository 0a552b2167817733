use Rattle.std.proofs.Common.{◌+◌, ◌^◌, sym, inl, inr}
use Rattle.std.proofs.lemmas.Bool.{cases_lt}
use Rattle.guest_memory.specs.Several.{held_ends}
use Rattle.guest_memory.proofs.memory.byte_ahead.Goals as goal

pub returns-in-None : goal.returns-in-None
returns-in-None g c = elim (cases_lt (c.args.at + c.args.ahead) (2 ^ 64)) [
  | inl below ↦ absurd (c.in-None.ensures below)
  | inr past ↦ sym (held_ends g.P.Piece.part g.met.P.Piece.ends c.args.pieces.now (c.args.at + c.args.ahead) past)
]
