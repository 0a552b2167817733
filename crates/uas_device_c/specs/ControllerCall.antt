-- What a call of the controller's door makes of the machine, the door and the bytes.
use Rattle.std.specs.Prelude.{ℕ, Bool, not, ◌&&◌, if◌then◌else◌, ◌==◌, nat_le}
use Rattle.std.specs.Prelude.{List, [], ◌∷◌, ◌++◌, length, drop, Option, None, Some, option_map, Result, Ok, Err}
use Rattle.std.specs.Option.{option_map_or}
use Rattle.block_unit.specs.BlockMaps.{BlockMaps}
use Rattle.event_ring.specs.declared.Event.{Event}
use Rattle.event_ring.specs.declared.Event.TheVariants as events
use Rattle.stream_array.specs.Contexts.{has_stream}
use Rattle.uas_profile.specs.declared.Pipe.TheVariants as pipes
use Rattle.uas_profile.specs.declared.TheConstants.{WINDOW_BYTES}
use Rattle.xhci_ctl.specs.declared.Acted.{Acted}
use Rattle.xhci_ctl.specs.declared.Acted.TheVariants.{Acted as ActedOn, Idle}
use Rattle.uas_controller.specs.Calls.{After as CallAfter, context_by, lend_by, put_by, put_commands_by, read_by, reclaim_by, reclaim_commands_by}
use Rattle.uas_controller.specs.Calls.{take_back_by, write_by}
use Rattle.uas_controller.specs.Machine.{MachineState}
use Rattle.uas_controller.specs.Steps.{command_by, data_by, engine_by, event_by, rung, status_by}
use Rattle.uas_controller.specs.declared.Refusal.{Refusal}
use Rattle.uas_controller.specs.declared.Refusal.TheVariants as refusals
use Rattle.c_common.specs.declared.faults.TheConstants.{CONTROLLER_ADDRESS, CONTROLLER_CALL, CONTROLLER_FULL, CONTROLLER_LENGTH, CONTROLLER_LENT}
use Rattle.c_common.specs.declared.faults.TheConstants.{CONTROLLER_NOT_CONSUMED, CONTROLLER_NOT_LENT, CONTROLLER_RANGE, CONTROLLER_RING, CONTROLLER_STEP}
use Rattle.c_common.specs.declared.faults.TheConstants.{CONTROLLER_TAG, CONTROLLER_UNIT, NO_MEMORY}
use Rattle.c_common.specs.Shown.{data_shown}
use Rattle.c_common.specs.declared.shown.ShownFaults.{ShownFaults}
use Rattle.uas_device_c.specs.DeviceCall.{unit_numbered}
use Rattle.c_common.specs.Door.{After, DoorAfter, numbered, refused, with_bytes}
use Rattle.uas_device_c.specs.declared.controller.door.ControllerCall.{ControllerCall}
use Rattle.uas_device_c.specs.declared.controller.door.ControllerCall.TheVariants as calls
use Rattle.uas_device_c.specs.declared.controller.door.ControllerStep.{ControllerStep}
use Rattle.uas_device_c.specs.declared.controller.door.ControllerStep.TheVariants as steps
use Rattle.uas_device_c.specs.declared.controller.door.Ring.{Ring}
use Rattle.uas_device_c.specs.declared.controller.door.Ring.TheVariants.{Of, Commands}
use Rattle.uas_device_c.specs.declared.controller.door.UasControllerDoor.{UasControllerDoor}

-- the number of what a call was refused with
abbrev pub controller_refusal : Refusal → ℕ
controller_refusal refusals.NoRing = CONTROLLER_RING
controller_refusal refusals.Full = CONTROLLER_FULL
controller_refusal refusals.BadAddress = CONTROLLER_ADDRESS
controller_refusal refusals.NoTag = CONTROLLER_TAG
controller_refusal refusals.TooLong = CONTROLLER_LENGTH
controller_refusal refusals.AlreadyLent = CONTROLLER_LENT
controller_refusal refusals.NotLent = CONTROLLER_NOT_LENT
controller_refusal refusals.NotConsumed = CONTROLLER_NOT_CONSUMED

-- a call that answers nothing but its refusal
abbrev pub with_done : UasControllerDoor → CallAfter (Unit {0}) → DoorAfter MachineState UasControllerDoor
with_done door (after, Ok done) = (0, (after, door))
with_done door (after, Err refusal) = refused (controller_refusal refusal) after door

-- RINGS

-- the ring that a door names: 1 status, 2 data in, 3 data out, 4 the command pipe's, of the door's stream, 5 the command ring, of stream 0
abbrev pub ring_numbered : UasControllerDoor → Option Ring
ring_numbered door =
    if door.ring == 5 then (if door.stream == 0 then Some Commands else None)
    else numbered ((1, Of pipes.Status) ∷ (2, Of pipes.DataIn) ∷ (3, Of pipes.DataOut) ∷ (4, Of pipes.Command) ∷ []) door.ring

-- bytes put on a ring
abbrev pub ring_put : MachineState → ℕ → List ℕ → Ring → CallAfter ℕ
ring_put machine stream bytes (Of pipe) = put_by machine pipe stream bytes
ring_put machine stream bytes Commands = put_commands_by machine bytes

abbrev pub with_address : UasControllerDoor → CallAfter ℕ → DoorAfter MachineState UasControllerDoor
with_address door (after, Ok address) = (0, (after, record door { address = address }))
with_address door (after, Err refusal) = refused (controller_refusal refusal) after door

-- PUT (1) of 16 bytes
abbrev pub after_put : MachineState → UasControllerDoor → List ℕ → DoorAfter MachineState UasControllerDoor
after_put machine door bytes =
    if not (length bytes == 16) then refused CONTROLLER_LENGTH machine door
    else option_map_or (λ ring. with_address door (ring_put machine door.stream bytes ring)) (ring_numbered door) (refused CONTROLLER_RING machine door)

-- items of a ring given back
abbrev pub ring_reclaimed : MachineState → ℕ → ℕ → Ring → CallAfter (Unit {0})
ring_reclaimed machine stream address (Of pipe) = reclaim_by machine pipe stream address
ring_reclaimed machine stream address Commands = reclaim_commands_by machine address

-- RECLAIM (9)
abbrev pub after_reclaim : MachineState → UasControllerDoor → DoorAfter MachineState UasControllerDoor
after_reclaim machine door =
    option_map_or (λ ring. with_done door (ring_reclaimed machine door.stream door.address ring)) (ring_numbered door) (refused CONTROLLER_RING machine door)

-- the context of a ring's stream; the command ring has none
abbrev pub ring_context : MachineState → ℕ → Ring → Result (List ℕ) Refusal
ring_context machine stream (Of pipe) = context_by machine pipe stream
ring_context machine stream Commands = Err refusals.NoRing

-- what was asked for is all of the bytes, or why it isn't
abbrev pub with_shown : MachineState → UasControllerDoor → List ℕ → Result (List ℕ) Refusal → After MachineState UasControllerDoor
with_shown machine door bytes (Ok shown) = (0, (machine, (door, shown)))
with_shown machine door bytes (Err refusal) = with_bytes bytes (refused (controller_refusal refusal) machine door)

-- CONTEXT (10) into 16 bytes
abbrev pub after_context : MachineState → UasControllerDoor → List ℕ → After MachineState UasControllerDoor
after_context machine door bytes =
    if not (length bytes == 16) then with_bytes bytes (refused CONTROLLER_LENGTH machine door)
    else option_map_or (λ ring. with_shown machine door bytes (ring_context machine door.stream ring)) (ring_numbered door)
    (with_bytes bytes (refused CONTROLLER_RING machine door))

-- STEPS AND EVENTS

-- DOORBELL (2)
abbrev pub after_doorbell : MachineState → UasControllerDoor → DoorAfter MachineState UasControllerDoor
after_doorbell machine door = (0, (rung machine door.value, door))

-- the step of a number: 1 the command pipe's, 2 data and 3 status of the door's tag, 4 the command ring's
abbrev pub controller_step : ℕ → Option ControllerStep
controller_step = numbered ((1, steps.CommandPipe) ∷ (2, steps.Data) ∷ (3, steps.Status) ∷ (4, steps.Engine) ∷ [])

abbrev pub step_by : MachineState → ℕ → ControllerStep → MachineState × Acted
step_by machine tag steps.CommandPipe = command_by machine
step_by machine tag steps.Data = data_by machine tag
step_by machine tag steps.Status = status_by machine tag
step_by machine tag steps.Engine = engine_by machine

-- the tag is told where the step acted
abbrev pub with_acted : UasControllerDoor → Acted → UasControllerDoor
with_acted door (ActedOn tag) = record door { acted = 1; tag = tag }
with_acted door Idle = record door { acted = 0 }

abbrev pub after_taken : UasControllerDoor → MachineState × Acted → DoorAfter MachineState UasControllerDoor
after_taken door after = (0, (after.0, with_acted door after.1))

-- STEP (3)
abbrev pub after_step_call : MachineState → UasControllerDoor → DoorAfter MachineState UasControllerDoor
after_step_call machine door =
    option_map_or (λ step. after_taken door (step_by machine door.tag step)) (controller_step door.step) (refused CONTROLLER_STEP machine door)

-- an event's fields; a command's event moved nothing on no endpoint
abbrev pub with_event : UasControllerDoor → Option Event → UasControllerDoor
with_event door None = record door { acted = 0 }
with_event door (Some (events.Transfer pointer residual code endpoint slot)) =
    record door { acted = 1; address = pointer; value = residual; kind = 32; code = code; endpoint = endpoint; slot = slot }
with_event door (Some (events.Command pointer code slot)) =
    record door { acted = 1; address = pointer; value = 0; kind = 33; code = code; endpoint = 0; slot = slot }

-- EVENT (4)
abbrev pub after_event : MachineState → UasControllerDoor → DoorAfter MachineState UasControllerDoor
after_event machine door = let after = event_by machine in (0, (after.0, with_event door after.1))

-- BUFFERS

-- WRITE (5)
abbrev pub after_write : MachineState → UasControllerDoor → List ℕ → DoorAfter MachineState UasControllerDoor
after_write machine door bytes = with_done door (write_by machine door.address bytes)

-- READ (6): as many bytes as there are
abbrev pub after_read : MachineState → UasControllerDoor → List ℕ → After MachineState UasControllerDoor
after_read machine door bytes = with_shown machine door bytes (read_by machine door.address (length bytes))

-- a loan copies its bytes, once neither its tag nor its length is refused
abbrev pub copies : UasControllerDoor → List ℕ → Bool
copies door bytes = has_stream door.tag && nat_le (length bytes) WINDOW_BYTES

-- LEND (7): the bytes are copied and the copy is lent. There may be no memory for it: where the call answers so, that is why.
abbrev pub after_lend : ℕ → MachineState → UasControllerDoor → List ℕ → DoorAfter MachineState UasControllerDoor
after_lend number machine door bytes =
    if number == NO_MEMORY && copies door bytes then refused NO_MEMORY machine door else with_done door (lend_by machine door.tag bytes)

-- what was lent stands at the front of the bytes, and its length is told
abbrev pub with_loan : UasControllerDoor → List ℕ → CallAfter (List ℕ) → After MachineState UasControllerDoor
with_loan door bytes (after, Ok lent) = (0, (after, (record door { value = length lent }, lent ++ drop (length lent) bytes)))
with_loan door bytes (after, Err refusal) = with_bytes bytes (refused (controller_refusal refusal) after door)

-- TAKE_BACK (8): the loan goes on where it has more bytes than there are
abbrev pub after_take_back : MachineState → UasControllerDoor → List ℕ → After MachineState UasControllerDoor
after_take_back machine door bytes = with_loan door bytes (take_back_by machine door.tag (length bytes))

-- BLOCKS

-- a look at blocks is refused by these numbers
abbrev pub controller_shown : ShownFaults
controller_shown = record { no_unit = CONTROLLER_UNIT; not_whole = CONTROLLER_LENGTH; beyond = CONTROLLER_RANGE }

-- BLOCKS (11), as a read sees them, and MEDIUM (12)
abbrev pub after_controller_shown : (BlockMaps → List ℕ) → MachineState → UasControllerDoor → List ℕ → After MachineState UasControllerDoor
after_controller_shown blocks machine door bytes =
    let told = data_shown controller_shown (option_map blocks (unit_numbered machine.device.units door.unit)) door.lba bytes in
    (told.0, (machine, (door, told.1)))

-- A CALL

abbrev pub controller_call : ℕ → Option ControllerCall
controller_call =
    numbered ((1, calls.Put) ∷ (2, calls.Doorbell) ∷ (3, calls.Step) ∷ (4, calls.Event) ∷ (5, calls.Write) ∷ (6, calls.Read) ∷ (7, calls.Lend)
    ∷ (8, calls.TakeBack) ∷ (9, calls.Reclaim) ∷ (10, calls.Context) ∷ (11, calls.Blocks) ∷ (12, calls.Medium) ∷ [])

-- what each call makes, where it answers this number
abbrev pub after_controller_named : ℕ → MachineState → UasControllerDoor → List ℕ → ControllerCall → After MachineState UasControllerDoor
after_controller_named number machine door bytes calls.Put = with_bytes bytes (after_put machine door bytes)
after_controller_named number machine door bytes calls.Doorbell = with_bytes bytes (after_doorbell machine door)
after_controller_named number machine door bytes calls.Step = with_bytes bytes (after_step_call machine door)
after_controller_named number machine door bytes calls.Event = with_bytes bytes (after_event machine door)
after_controller_named number machine door bytes calls.Write = with_bytes bytes (after_write machine door bytes)
after_controller_named number machine door bytes calls.Read = after_read machine door bytes
after_controller_named number machine door bytes calls.Lend = with_bytes bytes (after_lend number machine door bytes)
after_controller_named number machine door bytes calls.TakeBack = after_take_back machine door bytes
after_controller_named number machine door bytes calls.Reclaim = with_bytes bytes (after_reclaim machine door)
after_controller_named number machine door bytes calls.Context = after_context machine door bytes
after_controller_named number machine door bytes calls.Blocks = after_controller_shown (λ unit. unit.blocks) machine door bytes
after_controller_named number machine door bytes calls.Medium = after_controller_shown (λ unit. unit.medium) machine door bytes

-- the call that a door names, or that there is no such call
abbrev pub controller_answer : ℕ → MachineState → UasControllerDoor → List ℕ → After MachineState UasControllerDoor
controller_answer number machine door bytes =
    option_map_or (after_controller_named number machine door bytes) (controller_call door.call) (with_bytes bytes (refused CONTROLLER_CALL machine door))
