-- What a call of the device's door makes of the device, the door and the bytes.
use Rattle.std.specs.Prelude.{ℕ, ◌+◌, ◌-◌, ◌*◌, Bool, if◌then◌else◌, ◌==◌, not, ◌&&◌, nat_lt}
use Rattle.std.specs.Prelude.{List, [], ◌∷◌, ◌++◌, length, map, drop, Option, None, Some, is_some, option_map, Result, Ok, Err}
use Rattle.std.specs.List.{find, range_with_len}
use Rattle.std.specs.Option.{unwrap_or}
use Rattle.block_unit.specs.BlockMaps.{BlockMaps}
use Rattle.uas_iu.specs.declared.Iu.{Iu}
use Rattle.uas_iu.specs.Lun.{lun_text}
use Rattle.uas_iu.specs.Units.{unit_size, unit_text}
use Rattle.uas_target.specs.Device.{Device, answered, fits, gave, given, received, reset_device, task_of, took, wanted, without_task}
use Rattle.uas_target.specs.Fields.{addressed}
use Rattle.uas_target.specs.declared.Overlap.{Overlap}
use Rattle.uas_target.specs.declared.Phase.{Phase}
use Rattle.uas_target.specs.declared.Phase.TheVariants.{Absent, Gives, Takes, Ends}
use Rattle.uas_target.specs.declared.Took.{Took}
use Rattle.uas_target.specs.declared.Took.TheVariants.{Began, Dropped}
use Rattle.c_common.specs.Door.{After, DoorAfter, numbered, refused, with_bytes}
use Rattle.c_common.specs.Bytes.{yes}
use Rattle.c_common.specs.Shown.{data_shown}
use Rattle.c_common.specs.declared.shown.ShownFaults.{ShownFaults}
use Rattle.c_common.specs.declared.faults.TheConstants.{DEVICE_CALL, DEVICE_LENGTH, DEVICE_OVERLAP, DEVICE_PHASE, DEVICE_RANGE, DEVICE_UNIT}
use Rattle.uas_device_c.specs.declared.device.UasDeviceDoor.{UasDeviceDoor}
use Rattle.uas_device_c.specs.declared.device.Call.{Call}
use Rattle.uas_device_c.specs.declared.device.Call.TheVariants as calls

-- a look at blocks is refused by these numbers
abbrev pub device_shown : ShownFaults
device_shown = record { no_unit = DEVICE_UNIT; not_whole = DEVICE_LENGTH; beyond = DEVICE_RANGE }

-- the unit of this number
abbrev pub unit_numbered : List BlockMaps → ℕ → Option BlockMaps
unit_numbered units number = if nat_lt number 256 then addressed units (lun_text number) else None

-- WHOSE TASKS A RECEIVE ENDED

-- a tag had a task before and has none after
abbrev pub has_ended : Device → Device → ℕ → Bool
has_ended before after tag = is_some (task_of before tag) && not (is_some (task_of after tag))

-- eight bits as a byte, from this one on, the first at the least bit
abbrev pub byte_from : (ℕ → Bool) → ℕ → ℕ
byte_from test first =
    yes (test first) + 2 * yes (test (first + 1)) + 4 * yes (test (first + 2)) + 8 * yes (test (first + 3)) + 16 * yes (test (first + 4))
    + 32 * yes (test (first + 5)) + 64 * yes (test (first + 6)) + 128 * yes (test (first + 7))

-- 32 bytes of bits: that of tag t is bit t mod 8 of byte t div 8. Worked: where the test holds of 1, 8 and 20 alone, the first three bytes
-- are 2, 1 and 16.
unfoldable pub mask_of : (ℕ → Bool) → List ℕ
mask_of test = map (λ place. byte_from test (8 * place)) (range_with_len 0 32)

-- RECEIVE (1): the bytes are the bytes of a unit
abbrev pub with_took : UasDeviceDoor → List ℕ → Took → UasDeviceDoor
with_took door ended (Began tag) = record door { good = 1; tag = tag; ended = ended }
with_took door ended Dropped = record door { good = 0; ended = ended }

abbrev pub after_receive : Device → UasDeviceDoor → List ℕ → DoorAfter Device UasDeviceDoor
after_receive device door bytes = told (received device bytes)
  where
    told : Device × Result Took Overlap → DoorAfter Device UasDeviceDoor
    told (after, Ok took) = (0, (after, with_took door (mask_of (has_ended device after)) took))
    told (after, Err overlap) = refused DEVICE_OVERLAP after door

-- WANTS (2): the phase, and the bytes of the next chunk
abbrev pub with_phase : UasDeviceDoor → Phase → UasDeviceDoor
with_phase door Absent = record door { phase = 0; length = 0 }
with_phase door (Gives size) = record door { phase = 1; length = size }
with_phase door (Takes size) = record door { phase = 2; length = size }
with_phase door Ends = record door { phase = 3; length = 0 }

abbrev pub after_wants : Device → UasDeviceDoor → DoorAfter Device UasDeviceDoor
after_wants device door = (0, (device, with_phase door (wanted device door.tag)))

-- GIVE (3): the next chunk of a tag that gives
abbrev pub after_give : Device → UasDeviceDoor → List ℕ → After Device UasDeviceDoor
after_give device door bytes = at_phase (wanted device door.tag)
  where
    at_phase : Phase → After Device UasDeviceDoor
    at_phase (Gives size) =
        if size == length bytes
        then (0, (gave device door.tag, (record door { good = yes (is_some (given device door.tag)) }, unwrap_or (given device door.tag) bytes)))
        else with_bytes bytes (refused DEVICE_LENGTH device door)
    at_phase _ = with_bytes bytes (refused DEVICE_PHASE device door)

-- TAKE (4): the next chunk of a tag that takes
abbrev pub after_take : Device → UasDeviceDoor → List ℕ → DoorAfter Device UasDeviceDoor
after_take device door bytes = at_phase (wanted device door.tag)
  where
    at_phase : Phase → DoorAfter Device UasDeviceDoor
    at_phase (Takes size) =
        if size == length bytes then (0, (took device door.tag bytes, record door { good = yes (fits device door.tag) })) else refused DEVICE_LENGTH device door
    at_phase _ = refused DEVICE_PHASE device door

-- STATUS (5): the answer of a tag whose task has ended, at the front of the bytes
abbrev pub after_status : Device → UasDeviceDoor → List ℕ → After Device UasDeviceDoor
after_status device door bytes = put (answered device door.tag)
  where
    put : Option Iu → After Device UasDeviceDoor
    put None = with_bytes bytes (refused DEVICE_PHASE device door)
    put (Some unit) =
        if nat_lt (length bytes) (unit_size unit) then with_bytes bytes (refused DEVICE_LENGTH device door)
        else (0, (device, (record door { length = unit_size unit }, unit_text unit ++ drop (unit_size unit) bytes)))

-- SENT (6): the answer of a tag was sent
abbrev pub after_sent : Device → UasDeviceDoor → DoorAfter Device UasDeviceDoor
after_sent device door = at_phase (wanted device door.tag)
  where
    at_phase : Phase → DoorAfter Device UasDeviceDoor
    at_phase Ends = (0, (without_task device door.tag, door))
    at_phase _ = refused DEVICE_PHASE device door

-- SIZE (7): the blocks of a unit
abbrev pub after_size : Device → UasDeviceDoor → DoorAfter Device UasDeviceDoor
after_size device door = told (unit_numbered device.units door.unit)
  where
    told : Option BlockMaps → DoorAfter Device UasDeviceDoor
    told None = refused DEVICE_UNIT device door
    told (Some unit) = (0, (device, record door { length = unit.count }))

-- BLOCKS (8), as a read sees them, and MEDIUM (9)
abbrev pub after_shown : (BlockMaps → List ℕ) → Device → UasDeviceDoor → List ℕ → After Device UasDeviceDoor
after_shown blocks device door bytes =
    let told = data_shown device_shown (option_map blocks (unit_numbered device.units door.unit)) door.lba bytes in (told.0, (device, (door, told.1)))

-- NEXT (10): the least tag above the door's that has a task
abbrev pub next_task : Device → ℕ → Option ℕ
next_task device tag = find (λ next. is_some (task_of device next)) (range_with_len (tag + 1) (length device.tasks - tag))

abbrev pub with_next : UasDeviceDoor → Option ℕ → UasDeviceDoor
with_next door None = record door { good = 0 }
with_next door (Some next) = record door { good = 1; tag = next }

abbrev pub after_next : Device → UasDeviceDoor → DoorAfter Device UasDeviceDoor
after_next device door = (0, (device, with_next door (next_task device door.tag)))

-- RESET (11)
abbrev pub after_reset : Device → UasDeviceDoor → DoorAfter Device UasDeviceDoor
after_reset device door = (0, (reset_device device, door))

-- the call of a number
abbrev pub call_numbered : ℕ → Option Call
call_numbered =
    numbered ((1, calls.Receive) ∷ (2, calls.Wants) ∷ (3, calls.Give) ∷ (4, calls.Take) ∷ (5, calls.Status) ∷ (6, calls.Sent) ∷ (7, calls.Size)
    ∷ (8, calls.Blocks) ∷ (9, calls.Medium) ∷ (10, calls.Next) ∷ (11, calls.Reset) ∷ [])

-- what each call makes
abbrev pub after_named : Device → UasDeviceDoor → List ℕ → Call → After Device UasDeviceDoor
after_named device door bytes calls.Receive = with_bytes bytes (after_receive device door bytes)
after_named device door bytes calls.Wants = with_bytes bytes (after_wants device door)
after_named device door bytes calls.Give = after_give device door bytes
after_named device door bytes calls.Take = with_bytes bytes (after_take device door bytes)
after_named device door bytes calls.Status = after_status device door bytes
after_named device door bytes calls.Sent = with_bytes bytes (after_sent device door)
after_named device door bytes calls.Size = with_bytes bytes (after_size device door)
after_named device door bytes calls.Blocks = after_shown (λ unit. unit.blocks) device door bytes
after_named device door bytes calls.Medium = after_shown (λ unit. unit.medium) device door bytes
after_named device door bytes calls.Next = with_bytes bytes (after_next device door)
after_named device door bytes calls.Reset = with_bytes bytes (after_reset device door)

-- the call that a door names, or that there is no such call
abbrev pub after_call : Device → UasDeviceDoor → List ℕ → After Device UasDeviceDoor
after_call device door bytes =
    unwrap_or (option_map (after_named device door bytes) (call_numbered door.call)) (with_bytes bytes (refused DEVICE_CALL device door))
