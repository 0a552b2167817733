use Rattle.std.proofs.Common.{refl, sym, ◌∙◌}
use Rattle.uas_work.proofs.Taking.{issued_own}
use Rattle.uas_work.proofs.parts.ClientPart.posted.Goals as goal

pub is_free-requires : goal.is_free-requires
is_free-requires c =
    (issued_own c.args.self.now.tags.tags c.args.self.now.tags.held.client c.args.self.now.seat.tags c.args.self.now.seat.client c.in-Ok.tag
    (sym c.requires.part.as_many) (c.requires.part.number ∙ sym c.requires.part.tags) c.in-Ok.ensures.least_tag.above c.in-Ok.ensures.least_tag.below).0

pub post-requires-clause-tag : goal.post-requires-clause-tag
post-requires-clause-tag c =
    (issued_own c.args.self.now.tags.tags c.args.self.now.tags.held.client c.args.self.now.seat.tags c.args.self.now.seat.client c.in-Ok.tag
    (sym c.requires.part.as_many) (c.requires.part.number ∙ sym c.requires.part.tags) c.in-Ok.ensures.least_tag.above c.in-Ok.ensures.least_tag.below).0

pub post-requires-clause-ask : goal.post-requires-clause-ask
post-requires-clause-ask c = (
  refl,
  (issued_own c.args.self.now.tags.tags c.args.self.now.tags.held.client c.args.self.now.seat.tags c.args.self.now.seat.client c.in-Ok.tag
      (sym c.requires.part.as_many) (c.requires.part.number ∙ sym c.requires.part.tags) c.in-Ok.ensures.least_tag.above c.in-Ok.ensures.least_tag.below).1,
)
