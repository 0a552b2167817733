-- A look at a context finds its ring's end.
use Rattle.guest_profile.proofs.Contexts.{end_is_looked}
use Rattle.guest_profile.proofs.ring_laws.ends_are_found.Goals as goal

pub returns : goal.returns
returns c = end_is_looked
