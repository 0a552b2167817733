-- What is tested before a step looks at its ring, and what a TRB that isn't a Normal one asks for.
use Rattle.std.specs.Prelude.{ℕ, ◌-◌, ◌==◌, Bool, true, false, not, if◌then◌else◌, Option, Some, None, option_map}
use Rattle.guest_memory.specs.Bytes.{Memory}
use Rattle.guest_memory.specs.declared.rings.context.Home.{Home}
use Rattle.guest_memory.specs.declared.rings.context.Front.{Front}
use Rattle.guest_memory.specs.declared.rings.context.Found.{Found}
use Rattle.guest_memory.specs.declared.rings.context.Found.TheVariants.{WrongKind, NotYet, Item}
use Rattle.guest_memory.specs.declared.rings.trb.PipeTrb.{PipeTrb}
use Rattle.guest_memory.specs.declared.rings.trb.PipeTrb.TheVariants.{Normal, Link, NoOp, EventData, Foreign}
use Rattle.guest_memory.specs.declared.rings.event.Event.{Event}
use Rattle.guest_memory.specs.rings.Ends.{looked}
use Rattle.guest_memory.specs.rings.Events.{EventEnd, has_room}
use Rattle.guest_pipes.specs.declared.acted.Acted.{Acted}
use Rattle.guest_pipes.specs.declared.acted.Acted.TheVariants.{Off, Idle, Full}
use Rattle.guest_pipes.specs.declared.consumer.EndpointState.{EndpointState}
use Rattle.guest_pipes.specs.declared.consumer.EndpointState.TheVariants.{Disabled, Running, Halted, Stopped, Error}
use Rattle.guest_pipes.specs.declared.consumer.Consumer.{Consumer}
use Rattle.guest_pipes.specs.Progress.{code_of}
use Rattle.guest_pipes.specs.Step.{World, about, data_told, erred, has_place, linked, passed, posted}

abbrev pub is_running : EndpointState → Bool
is_running Disabled = false
is_running Running = true
is_running Halted = false
is_running Stopped = false
is_running Error = false

-- two places of the event ring are free, and the event's is there; else the answer of a step that does nothing, or None where the
-- place isn't there
unfoldable pub room_gate : Memory → EventEnd → Option (Option Acted)
room_gate memory events = if not (has_room events) then Some (Some Full) else if has_place memory events then Some None else None

-- the same of a step for a consumer: its endpoint runs and its doorbell is rung
unfoldable pub gate : Memory → EventEnd → Consumer → Option (Option Acted)
gate memory events consumer =
    if not (is_running consumer.state) then Some (Some Off)
    else if not consumer.rung then Some (Some Idle)
    else room_gate memory events

-- a step that nothing holds back, by those tests
abbrev pub through : {S : Type 0} → S → Option (Option Acted) → Option (S × Acted) → Option (S × Acted)
through s None step = None
through s (Some None) step = step
through s (Some (Some acted)) step = Some (s, acted)

-- a refused step leaves the world
abbrev pub after : {S : Type 0} → S → Option (S × Acted) → S × Option Acted
after s None = (s, None)
after s (Some done) = (done.0, Some done.1)

-- what a TRB asks for that isn't a Normal one
abbrev pub took_other : World → Front → PipeTrb → World
took_other w front (Normal pointer length flags) = w
took_other w front (Link pointer toggle flags) = linked w front pointer toggle flags
took_other w front (NoOp flags) = passed w.consumer.progress.ending w front flags
took_other w front (EventData parameter flags) = data_told w front parameter flags
took_other w front Foreign = erred w front

-- what Stop Endpoint posts of a ring whose front TD was begun: Stopped with what is left of a Normal TRB, Stopped - Short Packet
-- with EDTLA where the TD was ending short, Stopped - Length Invalid at another TRB
abbrev pub stop_found : Consumer → ℕ → Found → Event
stop_found consumer place WrongKind = about consumer place 0 27
stop_found consumer place NotYet = about consumer place 0 27
stop_found consumer place (Item (Normal pointer length flags)) = about consumer place (length - consumer.progress.moved) 26
stop_found consumer place (Item (Link pointer toggle flags)) = about consumer place 0 27
stop_found consumer place (Item (NoOp flags)) = about consumer place 0 27
stop_found consumer place (Item (EventData parameter flags)) = about consumer place 0 27
stop_found consumer place (Item Foreign) = about consumer place 0 27

abbrev pub stop_event : Consumer → Front → Event
stop_event consumer front =
    if code_of consumer.progress.ending == 13 then about consumer front.cursor.place consumer.progress.edtla 28
    else stop_found consumer front.cursor.place front.found

abbrev pub stop_told : World → Front → World
stop_told w front = posted w (stop_event w.consumer front) false

-- the same where a byte of the ring's end or of the TRB there may be missing
abbrev pub stop_looked : World → Home → Option World
stop_looked w home = option_map (stop_told w) (looked w.memory home)
