-- A step of a data-out stream.
use Rattle.guest_profile.proofs.DataLinks.{out_links_are_followed}
use Rattle.guest_profile.proofs.DataOut.{chunks_are_taken}
use Rattle.guest_profile.proofs.data_laws.chunks_out_agree.Goals as goal

pub returns : goal.returns
returns c = record { taken = chunks_are_taken; link = out_links_are_followed }
