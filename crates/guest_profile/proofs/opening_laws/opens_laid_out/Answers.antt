-- A memory that is laid out.
use Rattle.guest_profile.proofs.Opening.{contexts_are_alike, opening_is_laid}
use Rattle.guest_profile.proofs.opening_laws.opens_laid_out.Goals as goal

pub returns : goal.returns
returns c = record { laid = opening_is_laid; contexts = contexts_are_alike }
