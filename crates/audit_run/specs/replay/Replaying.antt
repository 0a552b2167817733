-- What the replay of a saved log comes to.
use Rattle.std.specs.Prelude.{◌≡◌, ℕ, ◌+◌, if◌then◌else◌, List, [], ◌∷◌, length, map, take, slice_get, Option, Some, None, is_some, Result, Ok, Err}
use Rattle.shared_machine.specs.declared.Step.{Step}
use Rattle.shared_machine.specs.Shared.{Shared, due, opening, shared_step}
use Rattle.shared_machine.specs.Replay.{replay}
use Rattle.uas_log.specs.Booking.{first_maps, replies_of}
use Rattle.log_text.specs.declared.SavedReply.{SavedReply}
use Rattle.log_text.specs.Kept.{with_client}
use Rattle.log_text.specs.Plain.{Plain}
use Rattle.uas_work.specs.Booked.{BookedState}
use Rattle.audit_run.specs.declared.replay.ReplayFault.{ReplayFault}
use Rattle.audit_run.specs.declared.replay.ReplayFault.TheVariants.{NotDue, Refused, OtherReplies, NoMemory}

-- STEPS

-- The first of these steps that isn't due in its turn, or is refused, where the first of them has this number. Of [Event] from the
-- opening with number 3 it is NotDue 3.
unfoldable pub first_fault : ℕ → Shared → List Step → Option ReplayFault
first_fault number state [] = None
first_fault number state (step ∷ steps) =
    if due state step
    then (if is_some (shared_step state step).1.refused then Some (Refused number) else first_fault (number + 1) (shared_step state step).0 steps)
    else Some (NotDue number)

-- the first fault of a log's steps, on a new bus of its units and its number of tags
abbrev pub steps_fault : Plain → Option ReplayFault
steps_fault log = first_fault 0 (opening log.tags (map first_maps log.units)) log.steps

-- a fault of steps is the first one; want of memory can always be
abbrev pub StopsBy : Option ReplayFault → ReplayFault → Type 0
StopsBy first (NotDue number) = first ≡ Some (NotDue number)
StopsBy first (Refused number) = first ≡ Some (Refused number)
StopsBy first (OtherReplies number) = ⊥
StopsBy first NoMemory = Unit {0}

-- REPLIES

-- the replies of the replay of a log's steps, each with the client whose tag it brings back
abbrev pub replayed_replies : Plain → List SavedReply
replayed_replies log = map (with_client log.tags) (replies_of (replay log.tags (map first_maps log.units) log.steps).1)

-- two lists differ at this place, or one of them has nothing there, and are alike before it
pub record DifferFirst {T : Type 0} (place : ℕ) (one other : List T) : Type 0 where
  pub alike : take place one ≡ take place other
  pub differ : slice_get one place ≡ slice_get other place → ⊥

-- THE REPLAY

-- A booked bus whose log is this one: the same number of tags, units, steps and replies. No step was refused, and the replies are those
-- that come of the steps.
pub record IsReplayOf (log : Plain) (booked : BookedState) : Type 0 where
  pub tags : booked.log.tags ≡ log.tags
  pub units : booked.log.units ≡ log.units
  pub steps : booked.log.steps ≡ log.steps
  pub faultless : steps_fault log ≡ None
  pub told : replayed_replies log ≡ log.replies
  pub replies : map (with_client log.tags) booked.log.replies ≡ log.replies
  pub limit : booked.limit ≡ length log.steps

-- What a replay answers: by the first fault of the steps, then by the first difference of the replies, else the booked bus.
abbrev pub IsReplayed : Plain → Result BookedState ReplayFault → Type 0
IsReplayed log (Ok booked) = IsReplayOf log booked
IsReplayed log (Err (NotDue number)) = steps_fault log ≡ Some (NotDue number)
IsReplayed log (Err (Refused number)) = steps_fault log ≡ Some (Refused number)
IsReplayed log (Err (OtherReplies number)) = (steps_fault log ≡ None) × DifferFirst number (replayed_replies log) log.replies
IsReplayed log (Err NoMemory) = Unit {0}

-- A log replays: each of its steps is due and accepted in its turn, and its replies are those that come of them.
pub record Replays (log : Plain) : Type 0 where
  pub faultless : steps_fault log ≡ None
  pub told : replayed_replies log ≡ log.replies
