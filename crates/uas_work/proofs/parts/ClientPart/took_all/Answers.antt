use Rattle.std.proofs.Common.{sym, ◌∙◌, arith}
use Rattle.uas_work.proofs.Taking.{placed_own}
use Rattle.uas_work.proofs.parts.ClientPart.took_all.Goals as goal

pub took_one-requires-clause-tag : goal.took_one-requires-clause-tag
took_one-requires-clause-tag g c =
    let part = c.loop-slot.invariant.0 in
    placed_own c.tags.result c.from-client.result c.loop-slot.self.seat.tags c.loop-slot.self.seat.client c.loop-slot.slot c.tag_of-tag.result
    c.tag_of-tag.ensures (c.tags.ensures.tags ∙ part.as_many) (c.from-client.ensures ∙ (sym c.loop-slot.invariant.1 ∙ sym part.number))
    (omega (arith, c.loop-slot-test.true, c.requires.tags, c.tags.ensures.tags, part.as_many, part.own.2))
