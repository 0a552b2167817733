use Rattle.uas_profile.proofs.TagLaws.{client-of_some}
use Rattle.uas_profile.proofs.tags.client_of.Goals as goal

pub returns : goal.returns
returns c = rw c.from.ensures (client-of_some c.args.tags c.args.tag c.requires.tag)
