-- What the host does leaves a memory laid out.
use Rattle.guest_profile.proofs.Host.{event_is_taken, items_are_freed}
use Rattle.guest_profile.proofs.HostLast.{trb_is_put_last}
use Rattle.guest_profile.proofs.LaidFrames.{laid_written}
use Rattle.guest_profile.proofs.LaidRings.{trb_is_put}
use Rattle.guest_profile.proofs.opening_laws.host_keeps_layout.Goals as goal

pub returns : goal.returns
returns c = record { put = trb_is_put; last = trb_is_put_last; written = laid_written; freed = items_are_freed; taken = event_is_taken }
