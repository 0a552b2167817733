-- Where a step of the world of rings is due, and what its outcome is, told from rings, device and host alone.
use Rattle.std.specs.Prelude.{◌≡◌, ℕ, suc, Bool, true, false, nat_lt, List, [], ◌∷◌, length, Some, None, is_some}
use Rattle.uas_profile.specs.declared.Pipe.{Pipe}
use Rattle.uas_profile.specs.declared.Pipe.TheVariants.{Status, DataIn, DataOut}
use Rattle.uas_target.specs.declared.Phase.{Phase}
use Rattle.uas_target.specs.declared.Phase.TheVariants.{Absent, Gives, Takes, Ends}
use Rattle.uas_target.specs.Device.{answered, wanted}
use Rattle.uas_profile.specs.declared.Place.{Place}
use Rattle.uas_host.specs.State.{client_of}
use Rattle.uas_host.specs.Retirement.{retirement_for}
use Rattle.uas_profile.specs.Tags.{place_of}
use Rattle.xhci_ctl.specs.Own.{IsOwnCommandFront, IsOwnDataFront, IsOwnStatusFront}
use Rattle.xhci_ctl.specs.Pipes.{has_pending, is_armed}
use Rattle.shared_machine.specs.declared.Completion.{Completion}
use Rattle.shared_machine.specs.declared.Mark.{Mark}
use Rattle.shared_machine.specs.declared.Mark.TheVariants.{Carry, Move, Send, Quiet}
use Rattle.shared_machine.specs.declared.Outcome.{Outcome}
use Rattle.shared_machine.specs.declared.Step.{Step}
use Rattle.shared_machine.specs.declared.Step.TheVariants.{CommandPipe, Data, Status as StatusStep, Engine, Event, Retire, Take}
use Rattle.shared_machine.specs.Part.{event_place}
use Rattle.shared_machine.specs.declared.Retirement.{Retirement}
use Rattle.shared_machine.specs.Shared.{Shared, due, is_some_of, ringing, shared_step}
use Rattle.machine_invariant.specs.Matched.{IsMatched}
use Rattle.bus_core.specs.World.{World}
use Rattle.bus_core.specs.Fits.{Fits}

-- WHERE A STEP IS DUE

-- the command pipe's ring has a pending TRB
abbrev pub command_is_due : World → Bool
command_is_due world = has_pending world.lines.command

-- a data stream is armed, and the device moves data on it
abbrev pub data_due_by : World → ℕ → Phase → Bool
data_due_by world tag Absent = false
data_due_by world tag (Gives size) = is_armed world.controller world.lines DataIn tag
data_due_by world tag (Takes size) = is_armed world.controller world.lines DataOut tag
data_due_by world tag Ends = false

abbrev pub data_is_due_on : World → ℕ → Bool
data_is_due_on world tag = data_due_by world tag (wanted world.device tag)

-- the status stream is armed, and the device has its answer
abbrev pub status_due_by : World → ℕ → Phase → Bool
status_due_by world tag Absent = false
status_due_by world tag (Gives size) = false
status_due_by world tag (Takes size) = false
status_due_by world tag Ends = is_armed world.controller world.lines Status tag

abbrev pub status_is_due_on : World → ℕ → Bool
status_is_due_on world tag = status_due_by world tag (wanted world.device tag)

-- an event is pending; a reply is ready
abbrev pub event_is_due : World → Bool
event_is_due world = nat_lt 0 (length world.lines.events.pending)

abbrev pub take_is_due : World → ℕ → Bool
take_is_due world client = is_some_of (client_of world.host client).ready.items

-- the controller's command ring has a pending TRB
abbrev pub engine_is_due : World → Bool
engine_is_due world = has_pending world.lines.engine

-- the host may begin to retire the tag's TD on a pipe
abbrev pub retire_is_due_on : World → Pipe → ℕ → Bool
retire_is_due_on world pipe tag = is_some (retirement_for world.host pipe tag)

pub record CommandDue (state : Shared) (world : World) : Type 0 where
  pub due : due state CommandPipe ≡ command_is_due world
  pub own : IsOwnCommandFront world.lines world.frames

pub record DataDue (state : Shared) (world : World) (tag : ℕ) : Type 0 where
  pub due : due state (Data tag) ≡ data_is_due_on world tag
  pub own : IsOwnDataFront world.controller world.lines world.frames tag (wanted world.device tag)

pub record StatusDue (state : Shared) (world : World) (tag : ℕ) : Type 0 where
  pub due : due state (StatusStep tag) ≡ status_is_due_on world tag
  pub own : IsOwnStatusFront world.controller world.lines world.frames tag (wanted world.device tag) (answered world.device tag)

abbrev pub CommandsAreDue : Type 0
CommandsAreDue = (state : Shared) (world : World) → Fits state world → CommandDue state world

abbrev pub DataAreDue : Type 0
DataAreDue = (state : Shared) (world : World) (tag : ℕ) → Fits state world → DataDue state world tag

abbrev pub StatusesAreDue : Type 0
StatusesAreDue = (state : Shared) (world : World) (tag : ℕ) → Fits state world → StatusDue state world tag

abbrev pub EventsAreDue : Type 0
EventsAreDue = (state : Shared) (world : World) → Fits state world → due state Event ≡ event_is_due world

abbrev pub TakesAreDue : Type 0
TakesAreDue = (state : Shared) (world : World) (client : ℕ) → Fits state world → due state (Take client) ≡ take_is_due world client

abbrev pub EnginesAreDue : Type 0
EnginesAreDue = (state : Shared) (world : World) → Fits state world → due state Engine ≡ engine_is_due world

abbrev pub RetirementsAreDue : Type 0
RetirementsAreDue =
    (state : Shared) (world : World) (pipe : Pipe) (tag : ℕ) → Fits state world → due state (Retire pipe tag) ≡ retire_is_due_on world pipe tag

-- OUTCOMES

-- a step that acted for a client, without a reply
abbrev pub marked : ℕ → Mark → Outcome
marked client mark = record { acted = true; owner = Some client; mark = mark; reply = None; refused = None; doors = [] }

abbrev pub CommandsAreMarked : Type 0
CommandsAreMarked =
    (state : Shared) (place : Place) (rest : List Place) → IsMatched state → state.messages ≡ place ∷ rest
    → (shared_step state CommandPipe).1 ≡ marked place.client (Carry (suc place.slot))

-- a step of a tag's stream
abbrev pub StreamsAreMarked : (ℕ → Step) → (ℕ → Mark) → Type 0
StreamsAreMarked step mark =
    (state : Shared) (tag : ℕ) (place : Place) → IsMatched state → place_of state.tags (length state.parts) tag ≡ Some place → due state (step tag) ≡ true
    → (shared_step state (step tag)).1 ≡ marked place.client (mark (suc place.slot))

abbrev pub DataAreMarked : Type 0
DataAreMarked = StreamsAreMarked Data Move

abbrev pub StatusesAreMarked : Type 0
StatusesAreMarked = StreamsAreMarked StatusStep Send

abbrev pub EventsAreQuiet : Type 0
EventsAreQuiet =
    (state : Shared) (done : Completion) (rest : List Completion) → IsMatched state → state.events ≡ done ∷ rest
    → (shared_step state Event).1 ≡ ringing (event_place done).client (shared_step state Event).1.doors

-- the engine is the retirement's
abbrev pub EnginesAreMarked : Type 0
EnginesAreMarked =
    (state : Shared) (retirement : Retirement) → IsMatched state → state.retirement ≡ Some retirement → due state Engine ≡ true
    → (shared_step state Engine).1 ≡ marked retirement.place.client Quiet

-- a retirement rings the controller's own doorbell
abbrev pub RetirementsAreMarked : Type 0
RetirementsAreMarked =
    (state : Shared) (pipe : Pipe) (tag : ℕ) (place : Place) → place_of state.tags (length state.parts) tag ≡ Some place → due state (Retire pipe tag) ≡ true
    → (shared_step state (Retire pipe tag)).1 ≡ ringing place.client (0 ∷ [])
