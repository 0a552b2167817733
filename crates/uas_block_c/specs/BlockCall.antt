-- What a call through the door makes of the driver, the door and the bytes.
use Rattle.std.specs.Prelude.{◌≡◌, ◌≢◌, ◌↔◌, ℕ, ◌%◌, not, nat_lt, is_none, if◌then◌else◌, true, false, List, [], ◌∷◌, length, Option, None, Some, Result, Ok, Err, OnErr, OnOk}
use Rattle.c_common.specs.Door.{After, DoorAfter, numbered, refused, with_bytes}
use Rattle.host_layout.specs.declared.layout.Layout.{Layout}
use Rattle.host_layout.specs.Shapes.{bytes_of}
use Rattle.bring_up.specs.declared.bring_up.LendFault.{LendFault}
use Rattle.bring_up.specs.declared.bring_up.LendFault.TheVariants as fault
use Rattle.bring_up.specs.declared.bring_up.Stage.TheVariants.{Wanting}
use Rattle.bring_up.specs.declared.controller.Controller.{Controller}
use Rattle.bring_up.specs.declared.why.Why.{Why}
use Rattle.bring_up.specs.Accesses.{IsInside}
use Rattle.bring_up.specs.Calls.{fits}
use Rattle.bring_up.specs.Lending.{IsShapeFor, WantsBytes, has_reach, is_wanting, lent}
use Rattle.bring_up.specs.States.{refusal_at}
use Rattle.block_driver.specs.declared.BlockDriver.{BlockDriver}
use Rattle.block_driver.specs.declared.replies.Reply.{Reply}
use Rattle.block_driver.specs.Calls.{aborted_driver, answered, asked_access, interrupted, is_asked, next_access, next_layout, next_state, reply_of, reply_taken, restarted_driver, shut_driver, state_of, with_driver}
use Rattle.block_driver.specs.Table.{entry_at, is_outstanding}
use Rattle.block_driver.specs.Submits.{open_disk}
use Rattle.uas_block_c.specs.declared.faults.TheConstants.{BLOCK_CALL, BLOCK_LENGTH, BLOCK_NO_SUCH_TAG, BLOCK_NOT_ASKED, BLOCK_NOT_READY}
use Rattle.uas_block_c.specs.declared.door.Call.{Call}
use Rattle.uas_block_c.specs.declared.door.Call.TheVariants as calls
use Rattle.uas_block_c.specs.declared.door.UasBlockDoor.{UasBlockDoor}
use Rattle.uas_block_c.specs.Numbers.{lend_number, why_number}
use Rattle.uas_block_c.specs.Told.{with_access, with_reply, with_state, with_stored}

-- NEXT (1): the access at the door's time, and what it stores, for which there are 32 bytes
abbrev pub after_next : BlockDriver → UasBlockDoor → List ℕ → After BlockDriver UasBlockDoor
after_next had door bytes =
    if nat_lt (length bytes) 32 then with_bytes bytes (refused BLOCK_CALL had door)
    else (0, (next_state had door.at, (with_access door (next_access had door.at), with_stored bytes (next_access had door.at))))

-- what is told is within the registers, or within the memory that was lent
abbrev pub IsWithin : BlockDriver → ℕ → Type 0
IsWithin had at = IsInside had.ready.device.driver.options.bar_bytes (next_layout had at) (next_access had at)

-- ANSWER (2): what was read. Nothing was told that is answered; or it has other bytes
abbrev pub answer_fault : BlockDriver → List ℕ → ℕ
answer_fault had bytes =
    if not (is_asked had) then BLOCK_NOT_ASKED else if not (fits (asked_access had) bytes) then BLOCK_LENGTH else 0

abbrev pub after_answer : BlockDriver → List ℕ → ℕ × BlockDriver
after_answer had bytes = (answer_fault had bytes, answered had bytes)

-- STATE (4): the bytes that are wanted are those of the memory's shape
abbrev pub IsShown : BlockDriver → UasBlockDoor → UasBlockDoor → Type 0
IsShown had door told =
    (bytes : ℕ) × WantsBytes had.ready.device.driver.options had.ready.device.driver.stage bytes × (told ≡ with_state door (state_of had bytes))

-- LEND (5): memory from the door's address on, as of `BlockDriver::lend`
abbrev pub lent_number : Result (Unit {0}) LendFault → ℕ
lent_number (Ok done) = 0
lent_number (Err fault) = lend_number fault

abbrev pub TakesMemory : BlockDriver → BlockDriver → ℕ → Result (Unit {0}) LendFault → Type 0
TakesMemory had now base result =
    ((result ≡ Err fault.NotAsked) ↔ (is_wanting had.ready.device.driver.stage ≡ false))
    × ((result ≡ Err fault.Alignment) ↔ ((is_wanting had.ready.device.driver.stage ≡ true) × (base % 65536 ≢ 0)))
    × OnErr result (now ≡ had)
    × OnOk result ((c : Controller) × (layout : Layout) × (had.ready.device.driver.stage ≡ Wanting c) × (layout.base ≡ base)
    × IsShapeFor had.ready.device.driver.options c layout.shape × (has_reach had.ready.device.driver.options c base (bytes_of layout.shape) ≡ true)
    × (now.ready.device.driver ≡ lent had.ready.device.driver c layout))
    × (now ≡ with_driver had now.ready.device.driver)

abbrev pub IsLent : BlockDriver → BlockDriver → ℕ → ℕ → Type 0
IsLent had now base number = (result : Result (Unit {0}) LendFault) × (number ≡ lent_number result) × TakesMemory had now base result

-- REPLY (6): that of the lowest tag that has one, with its sense, for which there are 96 bytes
abbrev pub reply_told : UasBlockDoor → List ℕ → Option Reply → UasBlockDoor × List ℕ
reply_told door bytes None = (record door { good = 0 }, bytes)
reply_told door bytes (Some reply) = with_reply door bytes reply

abbrev pub after_reply : BlockDriver → UasBlockDoor → List ℕ → After BlockDriver UasBlockDoor
after_reply had door bytes =
    if nat_lt (length bytes) 96 then with_bytes bytes (refused BLOCK_CALL had door) else (0, (reply_taken had, reply_told door bytes (reply_of had)))

-- RESTART (7): the device is tried again, while a disk is used
abbrev pub after_restart : BlockDriver → ℕ × BlockDriver
after_restart had = (if is_none (open_disk had) then BLOCK_NOT_READY else 0, restarted_driver had)

-- REFUSAL (8): why the device at the door's port isn't used, or 0
abbrev pub why_or_0 : Option Why → ℕ
why_or_0 None = 0
why_or_0 (Some why) = why_number why

abbrev pub after_refusal : BlockDriver → UasBlockDoor → DoorAfter BlockDriver UasBlockDoor
after_refusal had door = (0, (had, record door { code = why_or_0 (refusal_at had.ready.device.driver.stage door.code) }))

-- ABORT (9): the command on the door's tag, where one is out there
abbrev pub after_abort : BlockDriver → ℕ → ℕ × BlockDriver
after_abort had tag = if is_outstanding (entry_at had.blocks.tags tag) then (0, aborted_driver had tag) else (BLOCK_NO_SUCH_TAG, had)

-- SHUT_DOWN (10): while a disk is used
abbrev pub after_shut_down : BlockDriver → ℕ × BlockDriver
after_shut_down had = if is_none (open_disk had) then (BLOCK_NOT_READY, had) else (0, shut_driver had)

-- CALLS

abbrev pub call_numbered : ℕ → Option Call
call_numbered =
    numbered ((1, calls.Next) ∷ (2, calls.Answer) ∷ (3, calls.Interrupted) ∷ (4, calls.State) ∷ (5, calls.Lend) ∷ (6, calls.Reply)
    ∷ (7, calls.Restart) ∷ (8, calls.Refusal) ∷ (9, calls.Abort) ∷ (10, calls.ShutDown) ∷ [])

-- what a call makes of the driver, the door and the bytes, and the number that it answers
abbrev pub Named : Call → BlockDriver → BlockDriver → UasBlockDoor → UasBlockDoor → List ℕ → List ℕ → ℕ → Type 0
Named calls.Next had now door told bytes left number = ((number, (now, (told, left))) ≡ after_next had door bytes) × (number ≡ 0 → IsWithin had door.at)
Named calls.Answer had now door told bytes left number = ((number, now) ≡ after_answer had bytes) × (told ≡ door) × (left ≡ bytes)
Named calls.Interrupted had now door told bytes left number = (number ≡ 0) × (now ≡ interrupted had) × (told ≡ door) × (left ≡ bytes)
Named calls.State had now door told bytes left number = (number ≡ 0) × (now ≡ had) × IsShown had door told × (left ≡ bytes)
Named calls.Lend had now door told bytes left number = IsLent had now door.at number × (told ≡ door) × (left ≡ bytes)
Named calls.Reply had now door told bytes left number = (number, (now, (told, left))) ≡ after_reply had door bytes
Named calls.Restart had now door told bytes left number = ((number, now) ≡ after_restart had) × (told ≡ door) × (left ≡ bytes)
Named calls.Refusal had now door told bytes left number = ((number, (now, told)) ≡ after_refusal had door) × (left ≡ bytes)
Named calls.Abort had now door told bytes left number = ((number, now) ≡ after_abort had door.tag) × (told ≡ door) × (left ≡ bytes)
Named calls.ShutDown had now door told bytes left number = ((number, now) ≡ after_shut_down had) × (told ≡ door) × (left ≡ bytes)

-- a call of a number that is none is refused, and changes nothing
abbrev pub CalledBy : Option Call → BlockDriver → BlockDriver → UasBlockDoor → UasBlockDoor → List ℕ → List ℕ → ℕ → Type 0
CalledBy None had now door told bytes left number = (number, (now, (told, left))) ≡ with_bytes bytes (refused BLOCK_CALL had door)
CalledBy (Some call) had now door told bytes left number = Named call had now door told bytes left number

abbrev pub Called : BlockDriver → BlockDriver → UasBlockDoor → UasBlockDoor → List ℕ → List ℕ → ℕ → Type 0
Called had now door told bytes left number = CalledBy (call_numbered door.call) had now door told bytes left number
