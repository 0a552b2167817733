-- The first range of memory that the next step lacks, by a look at the turns of a round in their order. The look goes on (Ok) behind a turn
-- that isn't due or does nothing, and ends (Err) with a range of which a byte isn't there, or with the turn that acts.
use Rattle.std.specs.Prelude.{ℕ, zero, suc, ◌==◌, nat_le, Bool, true, false, not, ◌&&◌, ◌||◌, if◌then◌else◌, Option, Some, None, is_some, Result, Ok, Err}
use Rattle.guest_memory.specs.Bytes.{Memory}
use Rattle.guest_memory.specs.declared.rings.context.Front.{Front}
use Rattle.guest_memory.specs.declared.rings.wanting.Range.{Range}
use Rattle.guest_memory.specs.rings.Ends.{looked}
use Rattle.guest_memory.specs.rings.Events.{EventEnd, has_room}
use Rattle.guest_memory.specs.rings.Wanted.{missing}
use Rattle.guest_pipes.specs.declared.consumer.Consumer.{Consumer}
use Rattle.guest_pipes.specs.Pipe.{home_of}
use Rattle.guest_pipes.specs.Wanted.{place_range}
use Rattle.guest_tags.specs.declared.buffer.Buffer.{Buffer}
use Rattle.guest_tags.specs.declared.device.Phase.{Phase}
use Rattle.guest_tags.specs.declared.device.Phase.TheVariants.{Absent, Gives, Takes, Ended}
use Rattle.guest_tags.specs.DataIn.{has_chunk}
use Rattle.guest_tags.specs.Wanted.{moving}
use Rattle.guest_tasks.specs.declared.GuestTasks.{GuestTasks}
use Rattle.guest_tasks.specs.Tasks.{tasks_kind}
use Rattle.guest_transfers.specs.declared.control.StreamPipe.{StreamPipe}
use Rattle.guest_transfers.specs.declared.control.StreamPipe.TheVariants.{Status, DataOut, DataIn}
use Rattle.guest_transfers.specs.Orders.{pipe_of}
use Rattle.guest_transfers.specs.State.{TransfersWorld, slot_of}
use Rattle.guest_transfers.specs.Wanted.{command_wanted as pipe_wanted, data_wanted, status_wanted, stray_wanted}
use Rattle.guest_transfers.specs.Silent.{silent_command_wanted, silent_wanted}
use Rattle.marks.specs.Marks.{is_marked}
use Rattle.xhci_control.specs.Wanted.{control_wanted}
use Rattle.xhci_registers.specs.Signals.{detecting}
use Rattle.xhci_slots.specs.Wanted.{tell_wanted}
use Rattle.xhci_machine.specs.declared.Machine.{Machine}
use Rattle.xhci_machine.specs.declared.interrupts.Seen.{Seen}
use Rattle.xhci_machine.specs.declared.interrupts.Seen.TheVariants.{Lacks as LacksEntry, Nothing, Ring}
use Rattle.xhci_machine.specs.declared.states.States.{States}
use Rattle.xhci_machine.specs.declared.wanting.End.{End}
use Rattle.xhci_machine.specs.declared.wanting.End.TheVariants.{Lacks, Acts}
use Rattle.uas_profile.specs.declared.Pipe.TheVariants.{Command}
use Rattle.xhci_machine.specs.Bulk.{bulk_breaks, bulk_wanted}
use Rattle.xhci_machine.specs.Bus.{fault_in, has_bulk, has_no_tags, pipe_fault, stream_fault}
use Rattle.xhci_machine.specs.Contexts.{context_wanted, is_asleep, is_due}
use Rattle.xhci_machine.specs.Interrupter.{seen}
use Rattle.xhci_machine.specs.Lacking.{command_wanted}
use Rattle.xhci_machine.specs.Ring.{has_command, states_of}
use Rattle.xhci_machine.specs.Rounds.{is_stray, ring_on}
use Rattle.xhci_machine.specs.Turns.{same_state}
use Rattle.xhci_machine.specs.Worked.{is_busy, is_gone}

-- A LOOK

abbrev pub Look : Type 0
Look = Result (Unit {0}) End

-- one part of a look, and then another where it goes on
abbrev pub then_look : Look → Look → Look
then_look (Ok done) rest = rest
then_look (Err end) rest = Err end

-- it goes on where nothing is missing
abbrev pub needs : Option Range → Look
needs None = Ok tt
needs (Some range) = Err (Lacks range)

-- the step is of this turn, by what is missing of that
abbrev pub acts : Option Range → Look
acts None = Err Acts
acts (Some range) = Err (Lacks range)

abbrev pub unless : Bool → Look
unless true = Err Acts
unless false = Ok tt

-- whether no range is lacked
abbrev pub lacks_nothing : Look → Bool
lacks_nothing (Ok done) = true
lacks_nothing (Err (Lacks range)) = false
lacks_nothing (Err Acts) = true

-- an event's place
abbrev pub place_wanted : Memory → EventEnd → Option Range
place_wanted memory events = missing memory (place_range events) None

-- the device context before a step that may change an endpoint's state, and then what the step needs
abbrev pub acts_in_context : Memory → Machine → Option Range → Look
acts_in_context memory m wanted = then_look (needs (context_wanted memory m.slot)) (acts wanted)

-- THE TURNS BEFORE THE TAGS'

-- the port's change is told, once the disk was detected
unfoldable pub port_looked : Memory → Machine → EventEnd → Look
port_looked memory m events = if (detecting m.registers).port.owes_event then acts (place_wanted memory events) else Ok tt

-- the command ring: its stop is told, or the command in front is taken
abbrev pub ring_wanted : Memory → Machine → Look
ring_wanted memory m = if m.commands.owes_stop then Err Acts else acts_in_context memory m (command_wanted memory m)

unfoldable pub commands_looked : Memory → Machine → EventEnd → Look
commands_looked memory m events =
    if has_command m then then_look (needs (place_wanted memory events)) (ring_wanted memory m) else Ok tt

-- endpoint 0
unfoldable pub control_looked : Memory → Machine → EventEnd → Look
control_looked memory m events =
    if is_due m.control.consumer then acts_in_context memory m (control_wanted (fault_in m) (record { memory = memory; events = events; pipe = m.control }))
    else Ok tt

abbrev pub transfers_at : Memory → Machine → EventEnd → TransfersWorld GuestTasks
transfers_at memory m events = record { memory = memory; events = events; transfers = m.transfers; device = m.device }

-- the command pipe
abbrev pub command_wanted_by : Option ℕ → Memory → Machine → EventEnd → Option Range
command_wanted_by (Some code) memory m events = silent_command_wanted memory events m.transfers.command m.transfers.home
command_wanted_by None memory m events = pipe_wanted tasks_kind (transfers_at memory m events)

abbrev pub command_pipe_wanted : Memory → Machine → EventEnd → Option Range
command_pipe_wanted memory m events = command_wanted_by (pipe_fault m Command) memory m events

unfoldable pub command_pipe_looked : Memory → Machine → EventEnd → Look
command_pipe_looked memory m events =
    if is_due m.transfers.command then acts_in_context memory m (command_pipe_wanted memory m events) else Ok tt

-- A doorbell that no tag's turn serves. A step of Bulk-Out or Bulk-In may wait, so the look goes on behind one that lacks nothing.
abbrev pub stray_looked_by : Option ℕ → Bool → Memory → Machine → EventEnd → StreamPipe → Look
stray_looked_by (Some code) false memory m events name = acts (silent_wanted memory events (pipe_of m.transfers name))
stray_looked_by None false memory m events name = acts (stray_wanted memory events (pipe_of m.transfers name))
stray_looked_by (Some code) true memory m events name = acts (bulk_wanted (Some code) memory m events name)
stray_looked_by None true memory m events name = if bulk_breaks m name then acts None else needs (bulk_wanted None memory m events name)

unfoldable pub stray_looked : Memory → Machine → EventEnd → StreamPipe → Look
stray_looked memory m events name =
    if is_stray m name
    then then_look (needs (context_wanted memory m.slot)) (stray_looked_by (stream_fault m name) (has_bulk m name) memory m events name)
    else Ok tt

-- A TAG'S TURN

abbrev pub is_giving : Phase → Bool
is_giving Absent = false
is_giving (Gives count) = true
is_giving (Takes count) = false
is_giving (Ended end) = false

abbrev pub is_taking : Phase → Bool
is_taking Absent = false
is_taking (Gives count) = false
is_taking (Takes count) = true
is_taking (Ended end) = false

abbrev pub is_ended : Phase → Bool
is_ended Absent = false
is_ended (Gives count) = false
is_ended (Takes count) = false
is_ended (Ended end) = true

abbrev pub phase_on : Machine → ℕ → Phase
phase_on m tag = tasks_kind.phase m.device tag

abbrev pub has_due_ring : Machine → ℕ → Bool
has_due_ring m tag = is_due (ring_on m DataIn tag) || (is_due (ring_on m DataOut tag) || is_due (ring_on m Status tag))

-- something is left of the chunk; of a task that is gone it is dropped
abbrev pub keeps_chunk : Machine → ℕ → Bool
keeps_chunk m tag = has_chunk (slot_of m.transfers tag).tag && not (is_gone m tag)

-- a step surely acts on what is in front of a ring, but on a buffer with room only where bytes move
abbrev pub acts_on : Consumer → Bool → Option Buffer → Bool
acts_on consumer moves None = true
acts_on consumer moves (Some buffer) = moves || nat_le buffer.length consumer.progress.moved

abbrev pub acts_at : Consumer → Bool → Option Front → Bool
acts_at consumer moves None = false
acts_at consumer moves (Some front) = acts_on consumer moves (moving consumer front)

abbrev pub acts_for : Memory → Machine → StreamPipe → ℕ → Bool → Bool
acts_for memory m name tag moves =
    is_due (ring_on m name tag) && acts_at (ring_on m name tag) moves (looked memory (home_of (pipe_of m.transfers name) tag))

-- data-in moves what is left of a chunk, or the next chunk; data-out what the device takes
abbrev pub acts_in : Memory → Machine → ℕ → Bool
acts_in memory m tag = acts_for memory m DataIn tag (keeps_chunk m tag || is_giving (phase_on m tag))

abbrev pub acts_out : Memory → Machine → ℕ → Bool
acts_out memory m tag = acts_for memory m DataOut tag (is_taking (phase_on m tag))

abbrev pub acts_on_data : Memory → Machine → ℕ → Bool
acts_on_data memory m tag = acts_in memory m tag || acts_out memory m tag

-- an answer waits until the rings of its data are looked at no more
abbrev pub acts_on_status : Memory → Machine → ℕ → Bool
acts_on_status memory m tag =
    acts_for memory m Status tag
    (is_ended (phase_on m tag) && (not (keeps_chunk m tag) && (not (is_due (ring_on m DataIn tag)) && not (is_due (ring_on m DataOut tag)))))

abbrev pub tag_context_wanted : Memory → Machine → ℕ → Option Range
tag_context_wanted memory m tag = if has_due_ring m tag then context_wanted memory m.slot else None

-- a tag's data, and then its status
unfoldable pub tag_looked : Memory → Machine → EventEnd → ℕ → Look
tag_looked memory m events tag =
    then_look (needs (tag_context_wanted memory m tag))
    (then_look (needs (data_wanted tasks_kind (transfers_at memory m events) tag))
    (then_look (unless (acts_on_data memory m tag))
    (then_look (needs (status_wanted tasks_kind (transfers_at memory m events) tag))
    (unless (acts_on_status memory m tag)))))

-- one that has something to do
abbrev pub busy_looked : Memory → Machine → EventEnd → ℕ → Look
busy_looked memory m events tag = if is_busy m tag then tag_looked memory m events tag else Ok tt

-- and is active
abbrev pub active_looked : Memory → Machine → EventEnd → ℕ → Look
active_looked memory m events tag = if is_marked m.device.active tag then busy_looked memory m events tag else Ok tt

-- the tags below one, in their order
unfoldable pub tags_looked : Memory → Machine → EventEnd → ℕ → Look
tags_looked memory m events zero = Ok tt
tags_looked memory m events (suc tag) = then_look (tags_looked memory m events tag) (active_looked memory m events tag)

-- A ROUND

-- the turns of endpoints
unfoldable pub endpoints_looked : Memory → Machine → EventEnd → Look
endpoints_looked memory m events =
    then_look (control_looked memory m events)
    (then_look (command_pipe_looked memory m events)
    (then_look (stray_looked memory m events Status)
    (then_look (stray_looked memory m events DataOut)
    (then_look (stray_looked memory m events DataIn)
    (if has_no_tags m then Ok tt else tags_looked memory m events 241)))))

-- while the port is suspended none of those is due
unfoldable pub turns_looked : Memory → Machine → EventEnd → Look
turns_looked memory m events =
    then_look (port_looked memory m events)
    (then_look (commands_looked memory m events)
    (if is_asleep m then Ok tt else endpoints_looked memory m events))

abbrev pub same_states : States → States → Bool
same_states was now =
    same_state was.control now.control && (same_state was.command now.command && (same_state was.status now.status
    && (same_state was.data_out now.data_out && same_state was.data_in now.data_in)))

-- the device context, where it has yet to be told an endpoint's state
abbrev pub told_wanted : Memory → Machine → Option Range
told_wanted memory m = if same_states m.told (states_of m) then None else tell_wanted (record { memory = memory; slot = m.slot })

-- Event Ring Full Error is still to be posted in the last free place
abbrev pub owes_full : Machine → EventEnd → Bool
owes_full m events = events.free == 1 && not (m.interrupts.told_full && is_some m.interrupts.ring)

-- the turns come where the event ring has room
abbrev pub room_looked : Memory → Machine → EventEnd → Look
room_looked memory m events =
    if owes_full m events then acts (place_wanted memory events)
    else if has_room events then turns_looked memory m events
    else Ok tt

abbrev pub round_looked : Memory → Machine → EventEnd → Look
round_looked memory m events = then_look (needs (told_wanted memory m)) (room_looked memory m events)

-- by the event ring that is seen ahead
abbrev pub ring_looked : Memory → Machine → Seen → Look
ring_looked memory m (LacksEntry range) = Err (Lacks range)
ring_looked memory m Nothing = Ok tt
ring_looked memory m (Ring events) = round_looked memory m events

-- WHAT IS WANTED

abbrev pub wanted_by : Memory → Look → Option Range
wanted_by memory (Ok done) = None
wanted_by memory (Err (Lacks range)) = missing memory range None
wanted_by memory (Err Acts) = None

-- nothing is stepped while R/S is 0
unfoldable pub wanted : Memory → Machine → Option Range
wanted memory m = if m.registers.runs then wanted_by memory (ring_looked memory m (seen memory m.interrupts m.registers)) else None
