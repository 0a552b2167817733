use Rattle.uas_profile.proofs.TagLaws.{slot-of_some}
use Rattle.uas_profile.proofs.tags.slot_of.Goals as goal

pub returns : goal.returns
returns c = rw c.from.ensures (slot-of_some c.args.tags c.args.tag c.requires.tag)
