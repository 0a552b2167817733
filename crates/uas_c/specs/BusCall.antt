-- What a call of the bus's door makes of the bus, the door and the bytes.
use Rattle.std.specs.Prelude.{ℕ, ◌-◌, ◌^◌, Bool, ◌||◌, if◌then◌else◌, ◌==◌, nat_lt}
use Rattle.std.specs.Prelude.{List, [], ◌∷◌, length, slice_get, Option, None, Some, option_map, Result, Ok, Err}
use Rattle.std.specs.Option.{unwrap_or}
use Rattle.block_unit.specs.BlockMaps.{BlockMaps}
use Rattle.shared_machine.specs.Drain.{Drained, drained}
use Rattle.shared_machine.specs.Shared.{Shared, due, shared_step}
use Rattle.shared_machine.specs.declared.Refusal.{Refusal}
use Rattle.shared_machine.specs.declared.Step.{Step}
use Rattle.shared_machine.specs.declared.Step.TheVariants as steps
use Rattle.scsi_cmd.specs.declared.Op.{Op}
use Rattle.scsi_cmd.specs.declared.Reply.{Reply}
use Rattle.scsi_cmd.specs.declared.Task.{Task}
use Rattle.uas_c.specs.ClientCall.{asked_operation, client_fault, not_ticket, pipe_numbered, task_numbered, told_of, with_buffer}
use Rattle.c_common.specs.declared.faults.TheConstants.{BUS_CLIENT, BUS_RANGE, BUS_STEP, CLIENT_CALL, CLIENT_FUNCTION, CLIENT_LENGTH, CLIENT_TICKET}
use Rattle.c_common.specs.declared.faults.TheConstants.{NO_MEMORY, TAGS}
use Rattle.c_common.specs.Units.{units_told}
use Rattle.c_common.specs.declared.units.UasBadBlock.{UasBadBlock}
use Rattle.uas_profile.specs.Tags.{most_clients}
use Rattle.uas_profile.specs.declared.TheConstants.{LEAST_TAGS, MOST_TAGS}
use Rattle.c_common.specs.Shown.{data_shown}
use Rattle.c_common.specs.declared.shown.ShownFaults.{ShownFaults}
use Rattle.c_common.specs.Door.{After, DoorAfter, numbered, refused, with_bytes}
use Rattle.c_common.specs.Bytes.{yes}
use Rattle.uas_c.specs.declared.bus.BusCall.{BusCall}
use Rattle.uas_c.specs.declared.bus.BusCall.TheVariants as calls
use Rattle.uas_c.specs.declared.bus.UasBusDoor.{UasBusDoor}
use Rattle.uas_c.specs.declared.client.ToldReply.{ToldReply}

-- A NEW BUS

-- The number of an answer is right: no such number of tags, else the fault of the units, of which there may be one for each client.
abbrev pub bus_told : ℕ → ℕ → List ℕ → List ℕ → List UasBadBlock → Bool
bus_told number tags counts image bad =
    if nat_lt tags LEAST_TAGS || nat_lt MOST_TAGS tags then number == TAGS else units_told number (most_clients tags) counts image bad

-- SUBMIT AND TASK

-- the host's own refusal, or 0
abbrev pub refusal_told : Option Refusal → ℕ
refusal_told None = 0
refusal_told (Some refusal) = client_fault refusal.fault

-- a submission's step
abbrev pub submitted : Shared → Step → UasBusDoor → DoorAfter Shared UasBusDoor
submitted state step door = let after = shared_step state step in (refusal_told after.1.refused, (after.0, door))

-- a submission of this operation; there may be no memory for the copy of its bytes: where the call answers so, that is why
abbrev pub after_asked : ℕ → Shared → UasBusDoor → List ℕ → Result Op ℕ → DoorAfter Shared UasBusDoor
after_asked number state door bytes (Err fault) = refused fault state door
after_asked number state door bytes (Ok op) =
    if number == NO_MEMORY then refused NO_MEMORY state door
    else submitted state (steps.Submit door.client door.tag door.ticket (record { op = op; buffer = bytes })) door

-- SUBMIT (1): the bytes are the command's buffer
abbrev pub after_submit : ℕ → Shared → UasBusDoor → List ℕ → DoorAfter Shared UasBusDoor
after_submit number state door bytes = after_asked number state door bytes (asked_operation door.ticket door.operation)

-- TASK (2)
abbrev pub after_task : Shared → UasBusDoor → DoorAfter Shared UasBusDoor
after_task state door = if not_ticket door.ticket then refused CLIENT_TICKET state door else of_task (task_numbered door.function door.tag)
  where
    of_task : Option Task → DoorAfter Shared UasBusDoor
    of_task None = refused CLIENT_FUNCTION state door
    of_task (Some task) = submitted state (steps.Task door.client door.ticket task) door

-- STEPS

-- the step that a door names
abbrev pub step_numbered : UasBusDoor → Option Step
step_numbered door =
    if door.step == 6 then option_map (λ pipe. steps.Retire pipe door.tag) (pipe_numbered door.pipe)
    else numbered ((1, steps.CommandPipe) ∷ (2, steps.Data door.tag) ∷ (3, steps.Status door.tag) ∷ (4, steps.Engine) ∷ (5, steps.Event) ∷ []) door.step

-- the door once an outcome's owner was told; a client's number has four bytes
abbrev pub with_owner : UasBusDoor → Option ℕ → UasBusDoor
with_owner door None = record door { has_owner = 0 }
with_owner door (Some owner) =
    if nat_lt owner (2 ^ 32) then record door { has_owner = 1; client = owner } else record door { has_owner = 0 }

-- STEP (3)
abbrev pub after_step : Shared → UasBusDoor → DoorAfter Shared UasBusDoor
after_step state door = of_step (step_numbered door)
  where
    of_step : Option Step → DoorAfter Shared UasBusDoor
    of_step None = refused BUS_STEP state door
    of_step (Some step) =
        let after = shared_step state step in (0, (after.0, record (with_owner door after.1.owner) { acted = yes after.1.acted }))

-- DUE (4): whether a step would act
abbrev pub with_due : Shared → UasBusDoor → Step → DoorAfter Shared UasBusDoor
with_due state door step = (0, (state, record door { acted = yes (due state step) }))

abbrev pub after_due : Shared → UasBusDoor → DoorAfter Shared UasBusDoor
after_due state door = unwrap_or (option_map (with_due state door) (step_numbered door)) (refused BUS_STEP state door)

-- DRAIN (5): how many of so many steps were taken, and whether none is due any more
abbrev pub with_drain : UasBusDoor → Drained → UasBusDoor
with_drain door drain = record door { steps = door.steps - drain.left; acted = yes drain.quiet }

abbrev pub after_drain : Shared → UasBusDoor → DoorAfter Shared UasBusDoor
after_drain state door = let drain = drained state door.steps in (0, (drain.state, with_drain door drain))

-- REPLIES

-- the door once a reply was told
abbrev pub with_reply : UasBusDoor → ToldReply → UasBusDoor
with_reply door told = record door {
  acted = 1;
  reply = told.kind;
  tag = told.tag;
  ticket = told.ticket;
  status = told.status;
  sense_length = told.sense_length;
  sense = told.sense;
  length = told.length;
}

-- REPLY (7): the client's oldest; refused where there is no room for the longest buffer, 128 blocks
abbrev pub after_reply : Shared → UasBusDoor → List ℕ → After Shared UasBusDoor
after_reply state door bytes =
    if nat_lt (length bytes) 65536 then with_bytes bytes (refused CLIENT_LENGTH state door)
    else (let after = shared_step state (steps.Take door.client) in of_reply after.0 after.1.reply)
  where
    of_reply : Shared → Option Reply → After Shared UasBusDoor
    of_reply after None = (0, (after, (record door { acted = 0 }, bytes)))
    of_reply after (Some reply) = (0, (after, (with_reply door (told_of door.sense reply), with_buffer bytes reply)))

-- BLOCKS

-- a look at blocks is refused by these numbers
abbrev pub bus_shown : ShownFaults
bus_shown = record { no_unit = BUS_CLIENT; not_whole = CLIENT_LENGTH; beyond = BUS_RANGE }

-- the unit of a client
abbrev pub unit_of : Shared → ℕ → Option BlockMaps
unit_of state client = option_map (λ part. part.unit) (slice_get state.parts client)

-- BLOCKS (8), as a read sees them, and MEDIUM (9)
abbrev pub after_bus_shown : (BlockMaps → List ℕ) → Shared → UasBusDoor → List ℕ → After Shared UasBusDoor
after_bus_shown blocks state door bytes =
    let told = data_shown bus_shown (option_map blocks (unit_of state door.client)) door.operation.lba bytes in
    (told.0, (state, (door, told.1)))

-- A CALL

abbrev pub bus_call_numbered : ℕ → Option BusCall
bus_call_numbered =
    numbered ((1, calls.Submit) ∷ (2, calls.Task) ∷ (3, calls.Step) ∷ (4, calls.Due) ∷ (5, calls.Drain) ∷ (7, calls.Reply) ∷ (8, calls.Blocks)
    ∷ (9, calls.Medium) ∷ [])

-- what each call makes, where it answers this number
abbrev pub after_bus_named : ℕ → Shared → UasBusDoor → List ℕ → BusCall → After Shared UasBusDoor
after_bus_named number state door bytes calls.Submit = with_bytes bytes (after_submit number state door bytes)
after_bus_named number state door bytes calls.Task = with_bytes bytes (after_task state door)
after_bus_named number state door bytes calls.Step = with_bytes bytes (after_step state door)
after_bus_named number state door bytes calls.Due = with_bytes bytes (after_due state door)
after_bus_named number state door bytes calls.Drain = with_bytes bytes (after_drain state door)
after_bus_named number state door bytes calls.Reply = after_reply state door bytes
after_bus_named number state door bytes calls.Blocks = after_bus_shown (λ unit. unit.blocks) state door bytes
after_bus_named number state door bytes calls.Medium = after_bus_shown (λ unit. unit.medium) state door bytes

-- the call that a door names, or that there is no such call
abbrev pub bus_answer : ℕ → Shared → UasBusDoor → List ℕ → After Shared UasBusDoor
bus_answer number state door bytes =
    unwrap_or (option_map (after_bus_named number state door bytes) (bus_call_numbered door.call)) (with_bytes bytes (refused CLIENT_CALL state door))
