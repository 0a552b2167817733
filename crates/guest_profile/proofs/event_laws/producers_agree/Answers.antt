-- An event is posted where the profile's ring has its next one.
use Rattle.guest_profile.proofs.Events.{event_is_posted, events_are_alike, room_is_counted}
use Rattle.guest_profile.proofs.event_laws.producers_agree.Goals as goal

pub returns : goal.returns
returns c = record { alike = events_are_alike; posted = event_is_posted; room = room_is_counted }
