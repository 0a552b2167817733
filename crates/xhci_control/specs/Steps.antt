-- A step of endpoint 0: one equation over memory, event ring and pipe; and what the controller's commands make of the pipe.
use Rattle.std.specs.Prelude.{ℕ, ◌+◌, ◌-◌, ◌%◌, ◌^◌, ◌==◌, nat_le, min, Bool, true, false, not, ◌&&◌, ◌||◌, if◌then◌else◌, length as list_length, take, Option, Some, None, option_map}
use Rattle.byteorder.specs.Endian.{little_number}
use Rattle.guest_memory.specs.Bytes.{Memory, bytes_from, is_there}
use Rattle.guest_memory.specs.declared.rings.context.Front.{Front}
use Rattle.guest_memory.specs.declared.rings.context.Found.TheVariants.{NotYet}
use Rattle.guest_memory.specs.declared.rings.context.Home.TheVariants.{Endpoint}
use Rattle.guest_memory.specs.declared.rings.cursor.Cursor.{Cursor}
use Rattle.guest_memory.specs.declared.rings.event.Event.{Event}
use Rattle.guest_memory.specs.declared.rings.event.Event.TheVariants.{Transfer}
use Rattle.guest_memory.specs.declared.rings.trb.Flags.{Flags}
use Rattle.guest_memory.specs.declared.rings.trb.PipeTrb.{PipeTrb}
use Rattle.guest_memory.specs.declared.rings.trb.PipeTrb.TheVariants.{Normal, Link, NoOp, EventData, Foreign}
use Rattle.guest_memory.specs.declared.rings.words.Words.{Words}
use Rattle.guest_memory.specs.rings.Ends.{cursor_in, fetched, looked}
use Rattle.guest_memory.specs.rings.Events.{EventEnd}
use Rattle.guest_pipes.specs.declared.acted.Acted.{Acted}
use Rattle.guest_pipes.specs.declared.acted.Acted.TheVariants.{Emptied, Worked}
use Rattle.guest_pipes.specs.declared.consumer.Consumer.{Consumer}
use Rattle.guest_pipes.specs.declared.consumer.EndpointState.{EndpointState}
use Rattle.guest_pipes.specs.declared.consumer.EndpointState.TheVariants.{Disabled, Running, Halted, Stopped, Error}
use Rattle.guest_pipes.specs.Progress.{code_of, fresh, runs}
use Rattle.guest_pipes.specs.Pipe.{recovered}
use Rattle.guest_pipes.specs.Step.{World, about, data_told, erred, failed, filled, in_state, posted, poured, shortened, skipped, used_up, with_progress}
use Rattle.guest_pipes.specs.Gate.{gate, stop_event, took_other as pipe_took_other}
use Rattle.guest_pipes.specs.Unserved.{stuck}
use Rattle.usb_disk.specs.declared.Setup.{Setup as SetupPacket}
use Rattle.usb_disk.specs.declared.Answer.{Answer}
use Rattle.usb_disk.specs.declared.UsbDisk.{UsbDisk}
use Rattle.usb_disk.specs.Answers.{controlled, halted as disk_halted, reset_disk, reset_of}
use Rattle.uas_profile.specs.declared.Pipe.{Pipe}
use Rattle.xhci_control.specs.declared.pipe.ControlPipe.{ControlPipe}
use Rattle.xhci_control.specs.declared.pipe.Served.{Served}
use Rattle.xhci_control.specs.declared.stage.Stage.{Stage}
use Rattle.xhci_control.specs.declared.stage.Stage.TheVariants.{Setup}
use Rattle.xhci_control.specs.declared.trb.ControlTrb.{ControlTrb}
use Rattle.xhci_control.specs.declared.trb.ControlTrb.TheVariants.{SetupStage, DataStage, StatusStage, Other}
use Rattle.xhci_control.specs.Stages.{advanced, after_setup, behind_data, behind_data_if, directed, is_bulk_reset, is_data, is_restarted, is_setup, left, stalls, takes}
use Rattle.xhci_control.specs.Trbs.{control_in}

-- all that a step may change
pub record ControlWorld : Type 0 where
  pub memory : Memory
  pub events : EventEnd
  pub pipe : ControlPipe

abbrev pub ring_of : ControlWorld → World
ring_of w = record { memory = w.memory; events = w.events; consumer = w.pipe.consumer }

abbrev pub with_ring : ControlWorld → World → ControlWorld
with_ring w ring = record { memory = ring.memory; events = ring.events; pipe = record w.pipe { consumer = ring.consumer } }

abbrev pub in_stage : ControlWorld → Stage → ControlWorld
in_stage w stage = record w { pipe = record w.pipe { stage = stage } }

-- THE PIPE, AND COMMANDS ON IT

abbrev pub consumer_in : EndpointState → Consumer
consumer_in state = record { endpoint = 1; state = state; rung = false; progress = fresh }

abbrev pub opened_over : UsbDisk → ControlPipe
opened_over disk = record { consumer = consumer_in Disabled; home = 0; disk = disk; stage = Setup }

-- over a disk with UAS alone
abbrev pub opened : ControlPipe
opened = opened_over reset_disk

abbrev pub configured : ControlPipe → ℕ → ControlPipe
configured pipe home = record pipe { consumer = consumer_in Running; home = home; stage = Setup }

abbrev pub disabled : ControlPipe → ControlPipe
disabled pipe = record pipe { consumer = consumer_in Disabled; home = 0; stage = Setup }

abbrev pub disk_reset : ControlPipe → ControlPipe
disk_reset pipe = record pipe { disk = reset_of pipe.disk.settings pipe.disk.strings; stage = Setup }

-- the disk halts the endpoint of one of its pipes
abbrev pub pipe_halted : ControlPipe → Pipe → ControlPipe
pipe_halted pipe which = record pipe { disk = disk_halted pipe.disk which }

-- a doorbell starts an endpoint that is stopped
abbrev pub rung_in : EndpointState → ControlPipe → ControlPipe
rung_in Disabled pipe = pipe
rung_in Running pipe = record pipe { consumer = record pipe.consumer { state = Running; rung = true } }
rung_in Halted pipe = pipe
rung_in Stopped pipe = record pipe { consumer = record pipe.consumer { state = Running; rung = true } }
rung_in Error pipe = pipe

abbrev pub stopped : ControlPipe → ControlPipe
stopped pipe = record pipe { consumer = record pipe.consumer { state = Stopped; rung = false } }

-- Set TR Dequeue Pointer, and Reset Endpoint without TSP: what was moved is forgotten, and the control transfer
abbrev pub forgotten : ControlPipe → ControlPipe
forgotten pipe = record pipe { consumer = record pipe.consumer { state = recovered pipe.consumer.state; progress = fresh }; stage = Setup }

abbrev pub halt_reset : Bool → ControlPipe → ControlPipe
halt_reset true pipe = record pipe { consumer = record pipe.consumer { state = Stopped } }
halt_reset false pipe = forgotten (record pipe { consumer = record pipe.consumer { state = Stopped } })

-- STOP ENDPOINT

-- what is left of a Data Stage TRB
abbrev pub left_of : ControlTrb → ℕ → Option ℕ
left_of (SetupStage setup flags) moved = None
left_of (DataStage pointer room to_host flags) moved = Some (room - moved)
left_of (StatusStage flags) moved = None
left_of (Other trb) moved = None

abbrev pub left_in : Consumer → Option (Option Words) → Option ℕ
left_in consumer None = None
left_in consumer (Some None) = None
left_in consumer (Some (Some words)) = left_of (control_in words) consumer.progress.moved

-- What is posted of the ring where its front TD was begun (4.6.9): as of any pipe, but that a Data Stage TRB is as a Normal one.
abbrev pub stop_event_by : Consumer → Front → Option ℕ → Event
stop_event_by consumer front None = stop_event consumer front
stop_event_by consumer front (Some rest) =
    if code_of consumer.progress.ending == 13 then stop_event consumer front else about consumer front.cursor.place rest 26

abbrev pub control_stop_told : ControlWorld → Front → World
control_stop_told w front =
    posted (ring_of w) (stop_event_by w.pipe.consumer front (left_in w.pipe.consumer (fetched w.memory front.cursor))) false

-- None where a byte of the ring's end or of the TRB there isn't there
abbrev pub control_stopped : ControlWorld → Option World
control_stopped w = option_map (control_stop_told w) (looked w.memory (Endpoint w.pipe.home))

-- A TRB

-- a Stall Error, and the endpoint halts
abbrev pub stall_told : ControlWorld → Front → ℕ → World
stall_told w front rest = in_state (posted (ring_of w) (Transfer front.cursor.place rest 6 1 false) false) Halted

unfoldable pub stalled : ControlWorld → Front → ℕ → ControlWorld
stalled w front rest = in_stage (with_ring w (stall_told w front rest)) Setup

-- SET_ADDRESS (USB 3.2, 9.4.6)
abbrev pub sets_address : SetupPacket → Bool
sets_address setup = setup.request_type == 0 && setup.request == 5

abbrev pub told : Acted → Served
told acted = record { acted = acted; restarted = false; bulk_reset = false }

abbrev pub worked : Served
worked = told Worked

-- a request was done, which may have ended something of the disk
abbrev pub told_done : Answer → Served
told_done answer = record { acted = Worked; restarted = is_restarted answer; bulk_reset = is_bulk_reset answer }

-- the disk does what a Setup Stage asks
unfoldable pub asked : ControlWorld → Front → SetupPacket → Flags → ControlWorld × Served
asked w front setup flags =
    let after = controlled w.pipe.disk setup in
    let ring = filled (ring_of w) front flags in (
      record {
        memory = ring.memory;
        events = ring.events;
        pipe = record w.pipe { consumer = ring.consumer; disk = after.0; stage = after_setup after.1 setup.length };
      },
      told_done after.1,
    )

abbrev pub took_setup : ControlWorld → Front → SetupPacket → Flags → ControlWorld × Served
took_setup w front setup flags =
    if sets_address setup then (with_ring w (erred (ring_of w) front), worked) else asked w front setup flags

-- so many bytes of the answer go to an address
unfoldable pub gone_to : ControlWorld → ℕ → ℕ → ControlWorld
gone_to w to count =
    in_stage (with_ring w (poured (with_progress (ring_of w) (record w.pipe.consumer.progress { moved = 0 })) to (take count (left w.pipe.stage))))
    (advanced w.pipe.stage count)

-- a TRB of which so many bytes are left is full, or ends its TD as a short packet
abbrev pub trb_ended : ControlWorld → Front → ℕ → Flags → ControlWorld
trb_ended w front rest flags =
    if rest == 0 then with_ring w (filled (ring_of w) front flags) else with_ring w (shortened (ring_of w) front rest flags)

-- how many bytes of the answer a TRB takes; no answer has more than 121
abbrev pub taken_count : ControlWorld → ℕ → ℕ
taken_count w room = min (min (list_length (left w.pipe.stage)) 121) room

unfoldable pub gave : ControlWorld → Front → ℕ → ℕ → Flags → ControlWorld
gave w front pointer room flags =
    let count = taken_count w room in
    if count == 0 then with_ring w (shortened (ring_of w) front room flags)
    else if is_there w.memory (pointer + 0) count then trb_ended (gone_to w (pointer + 0) count) front (room - count) flags
    else with_ring w (failed (ring_of w) front room flags)

-- so many bytes went to the device, which takes them all: EDTLA counts them (4.11.5.2)
abbrev pub sent : ControlWorld → ℕ → ControlWorld
sent w count =
    let progress = w.pipe.consumer.progress in
    with_ring w (with_progress (ring_of w) (record progress { edtla = (progress.edtla + count) % 2 ^ 24 }))

abbrev pub moved_by : ControlWorld → Front → ℕ → ℕ → Flags → ControlWorld
moved_by w front pointer room flags =
    if not (runs w.pipe.consumer.progress.ending) then with_ring w (skipped (ring_of w) front room flags)
    else if room == 0 || takes w.pipe.stage then with_ring w (filled (ring_of (sent w room)) front flags)
    else gave w front pointer room flags

-- behind the last TRB of a Data Stage the Status Stage is to come
abbrev pub data_ended : Bool → ControlWorld → ControlWorld
data_ended chain w = in_stage w (behind_data chain w.pipe.stage)

abbrev pub moved_data : ControlWorld → Front → ℕ → ℕ → Flags → ControlWorld
moved_data w front pointer room flags = data_ended flags.chain (moved_by w front pointer room flags)

abbrev pub took_data : ControlWorld → Front → ℕ → ℕ → Bool → Flags → ControlWorld
took_data w front pointer room to_host flags =
    if not (is_data w.pipe.stage) then with_ring w (erred (ring_of w) front)
    else if stalls w.pipe.stage then stalled w front room
    else moved_data (in_stage w (directed to_host w.pipe.stage)) front pointer room flags

abbrev pub took_status : ControlWorld → Front → Flags → ControlWorld
took_status w front flags =
    if is_setup w.pipe.stage then with_ring w (erred (ring_of w) front)
    else if stalls w.pipe.stage then stalled w front 0
    else in_stage (with_ring w (filled (ring_of w) front flags)) Setup

-- a Data Stage has begun and isn't over
abbrev pub is_in_data : ControlPipe → Bool
is_in_data pipe = is_data pipe.stage && pipe.consumer.progress.begun

abbrev pub took_normal : ControlWorld → Front → ℕ → ℕ → Flags → ControlWorld
took_normal w front pointer room flags =
    if is_in_data w.pipe && nat_le room 65536 then moved_data w front pointer room flags else with_ring w (erred (ring_of w) front)

abbrev pub took_other : ControlWorld → Front → PipeTrb → ControlWorld
took_other w front (Normal pointer room flags) = took_normal w front pointer room flags
took_other w front (Link pointer toggle flags) = with_ring w (pipe_took_other (ring_of w) front (Link pointer toggle flags))
took_other w front (NoOp flags) = with_ring w (pipe_took_other (ring_of w) front (NoOp flags))
took_other w front (EventData parameter flags) =
    in_stage (with_ring w (data_told (ring_of w) front parameter flags)) (behind_data_if (is_in_data w.pipe) flags.chain w.pipe.stage)
took_other w front Foreign = with_ring w (pipe_took_other (ring_of w) front Foreign)

abbrev pub took : ControlWorld → Front → ControlTrb → ControlWorld × Served
took w front (SetupStage setup flags) = took_setup w front setup flags
took w front (DataStage pointer room to_host flags) = (took_data w front pointer room to_host flags, worked)
took w front (StatusStage flags) = (took_status w front flags, worked)
took w front (Other trb) = (took_other w front trb, worked)

-- WHERE NOTHING ANSWERS ON THE BUS: a TRB that moves bytes is told with what is left of it and this code, the dequeue pointer stays, and the
-- endpoint halts (4.8.3, 4.10.2.3)

abbrev pub stuck_at : ControlWorld → Front → ℕ → ℕ → ControlWorld
stuck_at w front left code = with_ring w (stuck (ring_of w) front left code)

abbrev pub unanswered_other : ControlWorld → Front → ℕ → PipeTrb → ControlWorld
unanswered_other w front code (Normal pointer room flags) = stuck_at w front (room - w.pipe.consumer.progress.moved) code
unanswered_other w front code (Link pointer toggle flags) = took_other w front (Link pointer toggle flags)
unanswered_other w front code (NoOp flags) = took_other w front (NoOp flags)
unanswered_other w front code (EventData parameter flags) = took_other w front (EventData parameter flags)
unanswered_other w front code Foreign = took_other w front Foreign

-- a Setup Stage has eight bytes
abbrev pub unanswered : ControlWorld → Front → ℕ → ControlTrb → ControlWorld
unanswered w front code (SetupStage setup flags) = stuck_at w front 8 code
unanswered w front code (DataStage pointer room to_host flags) = stuck_at w front (room - w.pipe.consumer.progress.moved) code
unanswered w front code (StatusStage flags) = stuck_at w front 0 code
unanswered w front code (Other trb) = unanswered_other w front code trb

-- A STEP, of a bus that has this fault or none

abbrev pub took_by : Option ℕ → ControlWorld → Front → ControlTrb → ControlWorld × Served
took_by None w front trb = took w front trb
took_by (Some code) w front trb = (unanswered w front code trb, worked)

abbrev pub front_at : ℕ → Cursor → Front
front_at home cursor = record { home = Endpoint home; cursor = cursor; found = NotYet }

abbrev pub cursor_at : Memory → ℕ → Option Cursor
cursor_at memory home = option_map cursor_in (option_map (little_number 8) (bytes_from memory home 8))

abbrev pub taken_by : Option ℕ → ControlWorld → Cursor → Option Words → ControlWorld × Served
taken_by fault w cursor None = (with_ring w (used_up (ring_of w)), told Emptied)
taken_by fault w cursor (Some words) = took_by fault w (front_at w.pipe.home cursor) (control_in words)

abbrev pub served_by : Option ℕ → ControlWorld → Option Cursor → Option (ControlWorld × Served)
served_by fault w None = None
served_by fault w (Some cursor) = option_map (taken_by fault w cursor) (fetched w.memory cursor)

abbrev pub through : Option ℕ → ControlWorld → Option (Option Acted) → Option (ControlWorld × Served)
through fault w None = None
through fault w (Some None) = served_by fault w (cursor_at w.memory w.pipe.home)
through fault w (Some (Some acted)) = Some (w, told acted)

-- a refused step leaves the world
abbrev pub after : ControlWorld → Option (ControlWorld × Served) → ControlWorld × Option Served
after w None = (w, None)
after w (Some done) = (done.0, Some done.1)

-- one TRB, where there is one; None where a byte of the controller's own structures isn't there
abbrev pub stepped : Option ℕ → ControlWorld → ControlWorld × Option Served
stepped fault w = after w (through fault w (gate w.memory w.events w.pipe.consumer))
