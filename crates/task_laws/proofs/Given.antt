-- What is given of a tag that is settled, and data of the device in both. Cited by the proofs on reads.
use Rattle.std.proofs.Common.{◌≡◌, ℕ, ◌+◌, ◌-◌, ◌≤◌, false, cond, List, ◌++◌, length, take, drop, Option, Some, None, option_and_then, Ok}
use Rattle.std.proofs.Common.{refl, arith, ap, sym, subst, ◌∙◌}
use Rattle.std.specs.Prelude.{nat_lt}
use Rattle.std.specs.Option.{option_map_or}
use Rattle.std.proofs.lemmas.Bool.{le-ltb}
use Rattle.std.proofs.lemmas.List.{take_all}
use Rattle.std.proofs.Math.Seq.{take-append_seam}
use Rattle.arrayvec.specs.ArrayVec.{ArrayVec}
use Rattle.block_unit.specs.BlockMaps.{BlockMaps}
use Rattle.scsi_cmd.specs.Buffers.{with_bytes_at}
use Rattle.scsi_cmd.specs.declared.Op.{Op}
use Rattle.scsi_cmd.specs.declared.Work.TheVariants.{Gives as GivesWork}
use Rattle.scsi_cmd.specs.Laws.{length-with_bytes_at}
use Rattle.device_server.specs.declared.Answer.TheVariants.{Good}
use Rattle.uas_profile.specs.declared.TheConstants.{CHUNK_BYTES}
use Rattle.uas_target.specs.declared.DeviceAnswer.TheVariants.{Status}
use Rattle.uas_target.specs.declared.DeviceTask.{DeviceTask}
use Rattle.uas_target.specs.declared.DeviceTask.TheVariants.{Moving as TargetMoving, Ended as TargetEnded}
use Rattle.uas_target.specs.declared.Phase.TheVariants.{Absent as NoPhase}
use Rattle.uas_target.specs.Device.{Device, task_of, wanted, with_task}
use Rattle.uas_target.specs.Soundness.{counts_of}
use Rattle.uas_target.specs.Tasks.{task_given, task_left, task_wants as target_wants}
use Rattle.uas_tasks.specs.declared.Task.TheVariants.{Giving, Ended}
use Rattle.uas_tasks.specs.declared.Wants.{Wants}
use Rattle.uas_tasks.specs.declared.Wants.TheVariants.{Absent, Asks, Waits, Gives, Takes, Ends}
use Rattle.uas_tasks.specs.Machine as tasks
use Rattle.uas_tasks.specs.Machine.{Machine, next_by, slot_of, with_slot}
use Rattle.uas_tasks.specs.Slots.{SlotState, gave_slot, next_bytes, slot_wants}
use Rattle.uas_tasks.specs.Stale.{held_by}
use Rattle.uas_tasks.proofs.Keeping.{wanted-free}
use Rattle.task_laws.specs.Backed.{Backed, all_given, backed_gave, backed_given, gave_all, settled, settled_by, with_machine}
use Rattle.task_laws.specs.Laws.{IsGives}
use Rattle.task_laws.specs.Same.{Same, SameSlot, work_on}
use Rattle.task_laws.proofs.Cases.{slot_with}
use Rattle.task_laws.proofs.Chunks.{gives_given, gives_left}
use Rattle.task_laws.proofs.Devices.{same_tag, tag_there, with_slot_under-same}
use Rattle.task_laws.proofs.Settling.{gives_asks, waits_asks}
use Rattle.task_laws.proofs.Free.{wanted_rests}
use Rattle.task_laws.proofs.Lists.{IsThere, slot_under-with, with_slot_under-twice}

-- WHAT IS GIVEN OF A SLOT

-- all of it, and what it leaves
abbrev slot_given : SlotState → Wants → Option (List ℕ)
slot_given slot Absent = None
slot_given slot Asks = None
slot_given slot Waits = None
slot_given slot (Gives bytes) = Some (next_bytes slot bytes)
slot_given slot (Takes bytes) = None
slot_given slot Ends = None

abbrev slot_gave : SlotState → Wants → SlotState
slot_gave slot Absent = slot
slot_gave slot Asks = slot
slot_gave slot Waits = slot
slot_gave slot (Gives bytes) = gave_slot slot bytes
slot_gave slot (Takes bytes) = slot
slot_gave slot Ends = slot

all_given-slot : (machine : Machine) (tag : ℕ) (slot : SlotState) (wants : Wants) → slot_of machine tag ≡ slot → all_given machine tag wants ≡ slot_given slot wants
all_given-slot machine tag slot Absent is = refl
all_given-slot machine tag slot Asks is = refl
all_given-slot machine tag slot Waits is = refl
all_given-slot machine tag slot (Gives bytes) is = ap (λ s. Some (next_bytes s bytes)) is
all_given-slot machine tag slot (Takes bytes) is = refl
all_given-slot machine tag slot Ends is = refl

gave_all-slot : (machine : Machine) (tag : ℕ) (slot : SlotState) (wants : Wants) → IsThere tag machine.slots →
    gave_all (with_slot machine tag slot) tag wants ≡ with_slot machine tag (slot_gave slot wants)
gave_all-slot machine tag slot Absent here = refl
gave_all-slot machine tag slot Asks here = refl
gave_all-slot machine tag slot Waits here = refl
gave_all-slot machine tag slot (Gives bytes) here =
    let first : Machine = with_slot machine tag slot in
    let by_slots : List SlotState → Machine = λ slots. record { units = machine.units; set = machine.set; slots = slots } in
    ap (λ s. with_slot first tag (gave_slot s bytes)) (slot_under-with machine.slots tag slot here)
    ∙ ap by_slots (with_slot_under-twice machine.slots tag slot (gave_slot slot bytes))
gave_all-slot machine tag slot (Takes bytes) here = refl
gave_all-slot machine tag slot Ends here = refl

-- the device without blocks once its tag is settled
abbrev pub at_slot : Backed → ℕ → SlotState → List BlockMaps → Backed
at_slot backed tag slot maps = record { machine = with_slot backed.machine tag slot; maps = maps }

pub record Gave (backed : Backed) (tag : ℕ) (slot : SlotState) (maps : List BlockMaps) : Type 0 where
  pub gave : backed_gave backed tag ≡ at_slot backed tag (slot_gave slot (slot_wants slot)) maps
  pub given : backed_given backed tag ≡ slot_given slot (slot_wants slot)

gave_settled : (backed : Backed) (tag : ℕ) (slot : SlotState) (maps : List BlockMaps) → option_and_then held_by slot.task ≡ None →
    IsThere tag backed.machine.slots → settled backed tag ≡ at_slot backed tag slot maps → Gave backed tag slot maps
gave_settled backed tag slot maps rests here is =
    let now : Backed = at_slot backed tag slot maps in
    let there : slot_of now.machine tag ≡ slot = slot_under-with backed.machine.slots tag slot here in
    let by_gave : Backed → Backed = λ b. with_machine b (gave_all b.machine tag (tasks.wanted b.machine tag)) in
    let by_given : Backed → Option (List ℕ) = λ b. all_given b.machine tag (tasks.wanted b.machine tag) in
    let wants : tasks.wanted now.machine tag ≡ slot_wants slot =
    wanted_rests now.machine tag (ap (λ (s : SlotState). option_and_then held_by s.task) there ∙ rests) ∙ ap slot_wants there in
    record {
      gave = ap by_gave is ∙ ap (λ w. with_machine now (gave_all now.machine tag w)) wants
          ∙ ap (with_machine now) (gave_all-slot backed.machine tag slot (slot_wants slot) here);
      given = ap by_given is ∙ ap (all_given now.machine tag) wants ∙ all_given-slot now.machine tag slot (slot_wants slot) there;
    }

-- a tag that asks for nothing is settled
unasked_by : (backed : Backed) (tag : ℕ) (wants : Wants) → (wants ≡ Asks → ⊥) →
    settled_by (with_machine backed (next_by backed.machine tag wants).0) (next_by backed.machine tag wants).1 ≡ backed
unasked_by backed tag Absent other = refl
unasked_by backed tag Asks other = absurd (other refl)
unasked_by backed tag Waits other = refl
unasked_by backed tag (Gives bytes) other = refl
unasked_by backed tag (Takes bytes) other = refl
unasked_by backed tag Ends other = refl

pub unasked : (backed : Backed) (tag : ℕ) (slot : SlotState) (wants : Wants) → slot_of backed.machine tag ≡ slot → slot_wants slot ≡ wants → (wants ≡ Asks → ⊥) →
    settled backed tag ≡ backed
unasked backed tag slot wants is wanted other =
    unasked_by backed tag (tasks.wanted backed.machine tag)
    (λ asks. other (sym wanted ∙ sym (ap slot_wants is) ∙ wanted-free (λ w. w ≡ Asks) waits_asks backed.machine tag asks))

pub settled_giving : (backed : Backed) (tag : ℕ) (slot : SlotState) (bytes : ℕ) → slot_of backed.machine tag ≡ slot → slot_wants slot ≡ Gives bytes →
    settled backed tag ≡ at_slot backed tag slot backed.maps
settled_giving backed tag slot bytes is wants =
    let by_slots : List SlotState → Backed = λ slots. record { machine = record { units = backed.machine.units; set = backed.machine.set; slots = slots }; maps = backed.maps } in
    unasked backed tag slot (Gives bytes) is wants (gives_asks bytes)
    ∙ sym (ap by_slots (with_slot_under-same backed.machine.slots tag)) ∙ ap (λ s. at_slot backed tag s backed.maps) is

-- ONE TASK

-- both give this and leave that
abbrev pub GivesAlike : Device → Backed → ℕ → Option DeviceTask → SlotState → Type 0
GivesAlike device backed tag task slot =
    task_of device tag ≡ task → slot_of backed.machine tag ≡ slot → IsGives (option_map_or target_wants task NoPhase) →
    Same (with_task device tag (option_and_then (task_left device.units) task)) (backed_gave backed tag)
    × (backed_given backed tag ≡ option_and_then (task_given device.units) task)

pub some_there : (device : Device) (backed : Backed) (tag : ℕ) (task : DeviceTask) → Same device backed → task_of device tag ≡ Some task →
    IsThere tag backed.machine.slots
some_there device backed tag task same is =
    tag_there device backed tag same (λ none. let no : ◌≡◌ {A = Option DeviceTask} (Some task) None = sym is ∙ none in let it : ⊥ = cc in it)

-- what both come to where one is settled
pub gives_so : (device : Device) (backed : Backed) (tag : ℕ) (slot now : SlotState) (task : Option DeviceTask) (bytes : Option (List ℕ)) →
    option_and_then held_by slot.task ≡ None → Same device backed → IsThere tag backed.machine.slots → settled backed tag ≡ at_slot backed tag slot backed.maps → slot_gave slot (slot_wants slot) ≡ now →
    slot_given slot (slot_wants slot) ≡ bytes → SameSlot (counts_of device.units) task now →
    Same (with_task device tag task) (backed_gave backed tag) × (backed_given backed tag ≡ bytes)
gives_so device backed tag slot now task bytes rests same here is leaves gives both =
    let done : Gave backed tag slot backed.maps = gave_settled backed tag slot backed.maps rests here is in
    let after : backed_gave backed tag ≡ at_slot backed tag now backed.maps = done.gave ∙ ap (λ s. at_slot backed tag s backed.maps) leaves in
    (subst (Same (with_task device tag task)) (sym after) (same_tag device backed tag task now same (λ was. both)), done.given ∙ gives)

-- data of the device
pub data_alike : (device : Device) (backed : Backed) (tag : ℕ) (slot : SlotState) (unit : Option ℕ) (op : Op) (bytes : ArrayVec ℕ) → Same device backed →
    work_on (counts_of device.units) op unit ≡ Ok (GivesWork bytes) → slot.given ≡ bytes.items →
    SameSlot (counts_of device.units) (Some (TargetMoving unit op 0)) (slot_with (Some (Giving unit 0)) slot) →
    GivesAlike device backed tag (Some (TargetMoving unit op 0)) (slot_with (Some (Giving unit 0)) slot)
data_alike device backed tag slot unit op bytes same work told both task_is slot_is gives =
    let here : IsThere tag backed.machine.slots = some_there device backed tag (TargetMoving unit op 0) same task_is in
    let shown : SlotState = slot_with (Some (Giving unit 0)) slot in
    let ended : SlotState = slot_with (Some (Ended unit (Status Good))) slot in
    let size : ℕ = length slot.given - 0 in
    let all : nat_lt (0 + size) (length slot.given) ≡ false = le-ltb (0 + size) (length slot.given) (omega arith) in
    let leaves : gave_slot shown size ≡ ended = ap (λ b. slot_with (Some (cond b (Giving unit (0 + size)) (Ended unit (Status Good)))) slot) all in
    let whole : take size slot.given ≡ slot.given = take_all size slot.given (omega arith) in
    let now : Same (with_task device tag (Some (TargetEnded unit (Status Good)))) (backed_gave backed tag) × (backed_given backed tag ≡ Some bytes.items) =
    gives_so device backed tag shown ended (Some (TargetEnded unit (Status Good))) (Some bytes.items) refl same here (settled_giving backed tag shown size slot_is refl) leaves
    (ap (λ l. Some l) (whole ∙ told)) (record { chunk = refl; room = both.room; out = refl; task = refl }) in (
      subst (λ left. Same (with_task device tag left) (backed_gave backed tag)) (sym (gives_left device.units unit op bytes work)) now.0,
      now.1 ∙ sym (gives_given device.units unit op bytes work),
    )

-- BYTES AT THE FRONT OF THE BUFFER

pub front_read : (list new : List ℕ) (many : ℕ) → many ≡ length new → take many (drop 0 (with_bytes_at list 0 new)) ≡ new
unfolding with_bytes_at
front_read list new many is =
    let rest : List ℕ = drop (0 + length new) list in
    ap (λ n. take n (new ++ rest)) is ∙ take-append_seam new rest

pub room_kept : (list new : List ℕ) → length list ≡ CHUNK_BYTES → length new ≤ CHUNK_BYTES → length (with_bytes_at list 0 new) ≡ CHUNK_BYTES
room_kept list new room small = length-with_bytes_at list 0 new (omega (arith, room, small)) ∙ room
