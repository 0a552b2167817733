-- Both consumers find the same on a ring.
use Rattle.guest_profile.proofs.Rings.{front_is_fetched, item_is_passed, link_is_followed}
use Rattle.guest_profile.proofs.Words.{trbs_are_read}
use Rattle.guest_profile.proofs.ring_laws.consumers_agree.Goals as goal

pub returns : goal.returns
returns c = record { front = front_is_fetched; trb = trbs_are_read; passed = item_is_passed; link = link_is_followed }
