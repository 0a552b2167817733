-- A step of a data-in stream.
use Rattle.guest_profile.proofs.DataIn.{chunks_are_given}
use Rattle.guest_profile.proofs.DataLinks.{in_links_are_followed}
use Rattle.guest_profile.proofs.data_laws.chunks_in_agree.Goals as goal

pub returns : goal.returns
returns c = record { given = chunks_are_given; link = in_links_are_followed }
