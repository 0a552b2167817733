-- What a command to a logical unit leaves of both devices. Cited by Received.
use Rattle.std.proofs.Common.{◌≡◌, ℕ, ◌+◌, ◌-◌, ◌*◌, ◌%◌, ◌^◌, ◌<◌, ◌≤◌, Bool, true, false, ◌||◌, cond, List, [], Option, Some, None, IfSome, is_some}
use Rattle.std.proofs.Common.{Result, Ok, Err, refl, arith, ap, sym, subst, ◌∙◌}
use Rattle.std.specs.Prelude.{◌==◌, nat_le, nat_lt, slice_get, slice_set}
use Rattle.std.proofs.lemmas.Bool.{leb-false, ltb-false, ne_eqb, or_parts}
use Rattle.block_unit.specs.BlockMaps.{BlockMaps, blocks_covered, blocks_read, synced, with_attention, with_bytes}
use Rattle.block_unit.specs.Laws.{IsSized, IsSized-synced, synced-count, with_attention-count}
use Rattle.scsi_cmd.specs.declared.Op.{Op}
use Rattle.scsi_cmd.specs.declared.Op.TheVariants.{TestUnitReady, Inquiry, ReadCapacity, Read, Write, Sync, Read16, Write16, ReadCapacity16}
use Rattle.scsi_cmd.specs.declared.Sense.{Sense}
use Rattle.scsi_cmd.specs.Meaning.{op_fault, range_fault}
use Rattle.scsi_cmd.specs.Sense.{out_of_range}
use Rattle.scsi_cmd.specs.Work.{work_asked, work_bytes, work_of}
use Rattle.device_server.specs.declared.Answer.TheVariants.{Check, Good}
use Rattle.device_server.specs.Server.{first_progress, progress_asked, synchronized, unit_asked}
use Rattle.host_commands.specs.Shapes.{Shape}
use Rattle.host_commands.specs.declared.BlockLength.TheVariants.{Bytes512}
use Rattle.host_commands.specs.declared.UnitAttention.{UnitAttention}
use Rattle.host_commands.specs.declared.UnitAttention.TheVariants.{Reset}
use Rattle.host_commands.specs.Laws.{answer_in_profile, in_profile}
use Rattle.host_commands.specs.Profile.{profile_work, profile_works}
use Rattle.uas_profile.specs.declared.TheConstants.{BLOCK_BYTES}
use Rattle.uas_target.specs.declared.DeviceAnswer.TheVariants.{Status}
use Rattle.uas_target.specs.declared.DeviceTask.{DeviceTask}
use Rattle.uas_target.specs.declared.DeviceTask.TheVariants.{Ended as TargetEnded}
use Rattle.uas_target.specs.Device.{Device, task_of}
use Rattle.uas_target.specs.Soundness.{IsSoundTask, counts_of}
use Rattle.uas_target.specs.Tasks.{task_in}
use Rattle.uas_target.proofs.Counts.{slice_get-counts_of}
use Rattle.uas_tasks.specs.declared.Job.{Job}
use Rattle.uas_tasks.specs.declared.JobKind.TheVariants.{Synchronizes}
use Rattle.uas_tasks.specs.declared.LogicalUnit.{LogicalUnit}
use Rattle.uas_tasks.specs.declared.Outcome.TheVariants.{Done}
use Rattle.uas_tasks.specs.declared.Request.TheVariants.{Sync as SyncRequest}
use Rattle.uas_tasks.specs.declared.Stage.TheVariants.{Asking}
use Rattle.uas_tasks.specs.declared.Task.TheVariants.{Blocks, Ended}
use Rattle.uas_tasks.specs.declared.slot.Out.{Out}
use Rattle.uas_tasks.specs.Machine.{slot_of}
use Rattle.uas_tasks.specs.Slots.{SlotState, blocks_synchronized, job_task, started, started_work, with_task}
use Rattle.task_laws.specs.Backed.{Backed, done_soon}
use Rattle.task_laws.specs.Same.{Same, SameSlot, SameUnit}
use Rattle.task_laws.proofs.Begun.{begins_alike, is_sync, shape_with}
use Rattle.task_laws.proofs.Cases.{SameUnit-with, slot_with, unit_with}
use Rattle.task_laws.proofs.Devices.{Found, backed_with, device_with, same_unit_tag, tag_small}
use Rattle.task_laws.proofs.Soon.{backed_at, soon_done, soon_too}
use Rattle.task_laws.proofs.Free.{same_free}
use Rattle.task_laws.proofs.Lists.{IsThere, set_found, slot_at}
use Rattle.task_laws.proofs.Works.{same_work}

-- THE LOGICAL UNIT

-- of this number, with its blocks and its attention
pub record Place (device : Device) (backed : Backed) (number : ℕ) (maps : BlockMaps) (shown : Shape) (attention : Option UnitAttention) : Type 0 where
  pub device_at : slice_get device.units number ≡ Some (with_attention maps (is_some attention))
  pub unit_at : slice_get backed.machine.units number ≡ Some (unit_with maps.count shown attention)
  pub maps_at : slice_get backed.maps number ≡ Some maps
  pub few : maps.count ≤ 2 ^ 32
  pub sized : IsSized maps
  pub reset : IfSome attention (λ found. found ≡ Reset)

abbrev pub found_at : (device : Device) (backed : Backed) (number : ℕ) (maps : BlockMaps) (shown : Shape) (attention : Option UnitAttention) →
    Place device backed number maps shown attention → Found device backed number
found_at device backed number maps shown attention place = record {
  device_unit = with_attention maps (is_some attention);
  unit = unit_with maps.count shown attention;
  maps = maps;
  device_at = place.device_at;
  unit_at = place.unit_at;
  maps_at = place.maps_at;
  same = SameUnit-with maps shown attention place.few place.sized place.reset;
}

-- a command that asks for nothing leaves the blocks as they are, and the attention perhaps not
pub at_once : (device : Device) (backed : Backed) (number : ℕ) (maps : BlockMaps) (shown : Shape) (attention next : Option UnitAttention) (tag : ℕ)
    (task : Option DeviceTask) (slot : SlotState) → Place device backed number maps shown attention → Same device backed →
    IfSome next (λ found. found ≡ Reset) →
    (SameSlot (counts_of device.units) (task_of device tag) (slot_of backed.machine tag) → SameSlot (counts_of device.units) task slot) →
    Same (device_with device number (with_attention maps (is_some next)) tag task) (done_soon (backed_at backed number (unit_with maps.count shown next) tag slot) tag)
at_once device backed number maps shown attention next tag task slot place same reset now =
    let found : Found device backed number = found_at device backed number maps shown attention place in
    let unit : LogicalUnit = unit_with maps.count shown next in
    let both : SameUnit (with_attention maps (is_some next)) unit maps = SameUnit-with maps shown next place.few place.sized reset in
    let kept : slice_set backed.maps number maps ≡ backed.maps = set_found backed.maps number maps place.maps_at in
    let by_maps : List BlockMaps → Backed = λ others. record { machine = (backed_at backed number unit tag slot).machine; maps = others } in
    let after : Device = device_with device number (with_attention maps (is_some next)) tag task in
    soon_too after (backed_at backed number unit tag slot) tag
    (subst (λ others. Same after (by_maps others)) kept
    (same_unit_tag device backed number found (with_attention maps (is_some next)) unit maps tag task slot same both refl now))

-- SYNCHRONIZE CACHE

out_of : (P : Type 0) (sense : Sense) → Some sense ≡ None → P
out_of P sense is = let no : ◌≡◌ {A = Option Sense} (Some sense) None = is in let it : ⊥ = cc in absurd it

within_range : (lba count blocks : ℕ) → range_fault lba count blocks ≡ None → (lba < blocks) × (lba + count ≤ blocks)
within_range lba count blocks =
    elim (nat_le blocks lba || nat_lt blocks (lba + count)) as (λ b. (nat_le blocks lba || nat_lt blocks (lba + count)) ≡ b →
    cond b (Some out_of_range) None ≡ None → (lba < blocks) × (lba + count ≤ blocks)) [
      | true ↦ λ is none. out_of ((lba < blocks) × (lba + count ≤ blocks)) out_of_range none
      | false ↦ λ is none.
          let parts = or_parts (nat_le blocks lba) (nat_lt blocks (lba + count)) is in
          (leb-false blocks lba parts.0, ltb-false blocks (lba + count) parts.1)
    ] refl

-- it names as many blocks in both
same_either : (b : Bool) (n : ℕ) → cond b n n ≡ n
same_either true n = refl
same_either false n = refl

covered_alike : (maps : BlockMaps) (lba count : ℕ) → blocks_covered maps lba (cond (count == 0) (maps.count - lba) count) ≡ blocks_covered maps lba count
unfolding blocks_covered
covered_alike maps lba count =
    elim (count == 0) as (λ b. (count == 0) ≡ b → cond (cond b (maps.count - lba) count == 0) (maps.count - lba) (cond b (maps.count - lba) count) ≡
    cond b (maps.count - lba) count) [
      | true ↦ λ is. same_either (maps.count - lba == 0) (maps.count - lba)
      | false ↦ λ is. ap (λ c. cond c (maps.count - lba) count) is
    ] refl

-- at least one
some_covered : (blocks lba count : ℕ) → lba < blocks → (cond (count == 0) (blocks - lba) count == 0) ≡ false
some_covered blocks lba count less =
    elim (count == 0) as (λ b. (count == 0) ≡ b → (cond b (blocks - lba) count == 0) ≡ false) [
      | true ↦ λ is. ne_eqb (blocks - lba) 0 (λ none. omega arith)
      | false ↦ λ is. is
    ] refl

fits_covered : (blocks lba count : ℕ) → lba < blocks → lba + count ≤ blocks → lba + cond (count == 0) (blocks - lba) count ≤ blocks
fits_covered blocks lba count less fits =
    elim (count == 0) as (λ b. lba + cond b (blocks - lba) count ≤ blocks) [
      | true ↦ omega arith
      | false ↦ fits
    ]

-- and leaves the same on the medium
synced_alike : (maps : BlockMaps) (flag : Bool) (lba count named : ℕ) → blocks_covered maps lba named ≡ blocks_covered maps lba count →
    synced (with_attention maps flag) lba count ≡ with_attention (synced maps lba named) flag
unfolding synced with_attention blocks_read blocks_covered
synced_alike maps flag lba count named covered =
    let named_alike : blocks_covered maps lba count ≡ blocks_covered maps lba named = sym covered in
    λ i. record {
      count = maps.count;
      blocks = maps.blocks;
      medium = with_bytes maps.medium (BLOCK_BYTES * lba) (blocks_read maps lba (named_alike i));
      attention = flag;
      bad = maps.bad;
    }

-- where nothing stood under a tag, its slot has no task
pub free_slot : (device : Device) (backed : Backed) (tag : ℕ) → Same device backed → IsThere tag backed.machine.slots → task_of device tag ≡ None →
    SameSlot (counts_of device.units) None (slot_of backed.machine tag)
free_slot device backed tag same here free =
    subst (λ task. SameSlot (counts_of device.units) task (slot_of backed.machine tag)) free
    (slot_at (counts_of device.units) device.tasks backed.machine.slots tag same.tasks here)

sync_slot : (counts : List ℕ) (number lba named : ℕ) (slot : SlotState) → SameSlot counts None slot → (named == 0) ≡ false →
    with_task slot (Some (job_task number Synchronizes Bytes512 lba named))
    ≡ slot_with (Some (Blocks number (record { kind = Synchronizes; block_bytes = BLOCK_BYTES; lba = lba; count = named; done = 0 }) Asking)) slot
sync_slot counts number lba named slot old some =
    let job : Job = record { kind = Synchronizes; block_bytes = BLOCK_BYTES; lba = lba; count = named; done = 0 } in
    let task : job_task number Synchronizes Bytes512 lba named ≡ Blocks number job Asking =
    ap (λ b. cond b (Ended (Some number) (Status Good)) (Blocks number job Asking)) some in
    λ i. record { chunk = old.chunk i; task = Some (task i); turn = slot.turn; out = old.out i; given = slot.given; bytes = slot.bytes }

-- The device with blocks brings them to the medium as it receives the command, the other asks for it, and that is done soon.
sync_begins : (device : Device) (backed : Backed) (number : ℕ) (maps : BlockMaps) (shown : Shape) (attention : Option UnitAttention) (tag lba count : ℕ) →
    Place device backed number maps shown attention → Same device backed → IsThere tag backed.machine.slots → task_of device tag ≡ None →
    range_fault lba count maps.count ≡ None →
    Same (device_with device number (synced (with_attention maps (is_some attention)) lba count) tag (Some (TargetEnded (Some number) (Status Good))))
    (done_soon (backed_at backed number (unit_with maps.count shown attention) tag
    (with_task (slot_of backed.machine tag)
    (Some (job_task number Synchronizes Bytes512 lba (blocks_synchronized (shape_with maps.count shown) lba count))))) tag)
sync_begins device backed number maps shown attention tag lba count place same here free none =
    let range = within_range lba count maps.count none in
    let named : ℕ = cond (count == 0) (maps.count - lba) count in
    let job : Job = record { kind = Synchronizes; block_bytes = BLOCK_BYTES; lba = lba; count = named; done = 0 } in
    let old : SlotState = slot_of backed.machine tag in
    let slot : SlotState = slot_with (Some (Blocks number job Asking)) old in
    let unit : LogicalUnit = unit_with maps.count shown attention in
    let one : BlockMaps = synced (with_attention maps (is_some attention)) lba count in
    let now : BlockMaps = synced maps lba named in
    let out : Out = record { request = SyncRequest number lba named; len = 0 } in
    let ended : SlotState = slot_with (Some (Ended (Some number) (Status Good))) (record old { turn = (old.turn + 1) % 2 ^ 32 }) in
    let task : Option DeviceTask = Some (TargetEnded (Some number) (Status Good)) in
    let found : Found device backed number = found_at device backed number maps shown attention place in
    let before : SameSlot (counts_of device.units) None old = free_slot device backed tag same here free in
    let is : with_task old (Some (job_task number Synchronizes Bytes512 lba named)) ≡ slot =
    sync_slot (counts_of device.units) number lba named old before (some_covered maps.count lba count range.0) in
    let done : done_soon (backed_at backed number unit tag slot) tag ≡ backed_with backed number unit now tag ended =
    soon_done backed number unit tag slot out maps (now, Done, []) (same_free device backed same) here (tag_small device backed tag same here) refl refl refl refl place.maps_at refl refl in
    let few : now.count ≤ 2 ^ 32 = omega (arith, synced-count maps lba named, place.few) in
    let both : SameUnit one unit now = record {
      blocks = sym (synced-count maps lba named);
      plain = record { read_only = refl; names = refl };
      block_length = refl;
      few = few;
      sized = IsSized-synced maps lba named place.sized (fits_covered maps.count lba count range.0 range.1);
      reset = place.reset;
      same = synced_alike maps (is_some attention) lba count named (covered_alike maps lba count);
    } in
    let settled_same : Same (device_with device number one tag task) (backed_with backed number unit now tag ended) =
    same_unit_tag device backed number found one unit now tag task ended same both (synced-count maps lba named)
    (λ was. record { chunk = refl; room = was.room; out = refl; task = refl }) in
    subst (Same (device_with device number one tag task)) (sym (ap (λ s. done_soon (backed_at backed number unit tag s) tag) is ∙ done)) settled_same

-- A COMMAND WITHOUT AN ATTENTION THAT IS REPORTED

-- nothing else brings blocks to the medium
unsynced : (op : Op) (unit : BlockMaps) (blocks : ℕ) → is_sync op ≡ false → synchronized unit (work_of op blocks) ≡ unit
unsynced (Sync lba count) unit blocks other = let no : ◌≡◌ {A = Bool} true false = other in let it : ⊥ = cc in absurd it
unsynced TestUnitReady unit blocks other = refl
unsynced (Inquiry allocation) unit blocks other = refl
unsynced ReadCapacity unit blocks other = refl
unsynced (Read lba count fua) unit blocks other = refl
unsynced (Write lba count fua) unit blocks other = refl
unsynced (Read16 lba count fua) unit blocks other = refl
unsynced (Write16 lba count fua) unit blocks other = refl
unsynced (ReadCapacity16 allocation) unit blocks other = refl

counted : (device : Device) (backed : Backed) (number : ℕ) (maps : BlockMaps) (shown : Shape) (attention : Option UnitAttention) →
    Place device backed number maps shown attention → slice_get (counts_of device.units) number ≡ Some maps.count
counted device backed number maps shown attention place =
    slice_get-counts_of device.units number (with_attention maps (is_some attention)) place.device_at ∙ ap (λ n. Some n) (with_attention-count maps (is_some attention))

other_begins : (device : Device) (backed : Backed) (number : ℕ) (maps : BlockMaps) (shown : Shape) (attention : Option UnitAttention) (tag : ℕ) (op : Op) →
    is_sync op ≡ false → Place device backed number maps shown attention → Same device backed → IsThere tag backed.machine.slots → task_of device tag ≡ None →
    in_profile (profile_work op (shape_with maps.count shown)) ≡ work_of op maps.count →
    IfSome (task_in (Some number) (Ok op) (first_progress (work_bytes (work_of op maps.count)))) (IsSoundTask (counts_of device.units)) →
    Same (device_with device number (synchronized (with_attention maps (is_some attention)) (work_of op maps.count)) tag
    (task_in (Some number) (Ok op) (first_progress (work_bytes (work_of op maps.count)))))
    (done_soon (backed_at backed number (unit_with maps.count shown attention) tag
    (started_work (slot_of backed.machine tag) number (shape_with maps.count shown) (profile_work op (shape_with maps.count shown)))) tag)
other_begins device backed number maps shown attention tag op other place same here free kept sound =
    let slot : SlotState = slot_of backed.machine tag in
    let after : SlotState = started_work slot number (shape_with maps.count shown) (profile_work op (shape_with maps.count shown)) in
    let task : Option DeviceTask = task_in (Some number) (Ok op) (first_progress (work_bytes (work_of op maps.count))) in
    subst (λ unit. Same (device_with device number unit tag task) (done_soon (backed_at backed number (unit_with maps.count shown attention) tag after) tag))
    (sym (unsynced op (with_attention maps (is_some attention)) maps.count other))
    (at_once device backed number maps shown attention attention tag task after place same place.reset
    (λ was. begins_alike (counts_of device.units) number maps.count shown op slot other (counted device backed number maps shown attention place) kept sound
    (free_slot device backed tag same here free)))

-- what both make of what a CDB asks
pub begins_same : (device : Device) (backed : Backed) (number : ℕ) (maps : BlockMaps) (shown : Shape) (attention : Option UnitAttention) (tag : ℕ)
    (asks : Result Op Sense) → Place device backed number maps shown attention → Same device backed → IsThere tag backed.machine.slots → task_of device tag ≡ None →
    answer_in_profile (profile_works (shape_with maps.count shown) asks) ≡ work_asked maps.count asks →
    ((op : Op) → asks ≡ Ok op → op_fault op maps.count ≡ None) →
    IfSome (task_in (Some number) asks (progress_asked (work_asked maps.count asks))) (IsSoundTask (counts_of device.units)) →
    Same (device_with device number (unit_asked (with_attention maps (is_some attention)) (work_asked maps.count asks)) tag
    (task_in (Some number) asks (progress_asked (work_asked maps.count asks))))
    (done_soon (backed_at backed number (unit_with maps.count shown attention) tag
    (started (slot_of backed.machine tag) number (shape_with maps.count shown) (profile_works (shape_with maps.count shown) asks))) tag)
begins_same device backed number maps shown attention tag (Err sense) place same here free kept faults sound =
    at_once device backed number maps shown attention attention tag (Some (TargetEnded (Some number) (Status (Check sense))))
    (with_task (slot_of backed.machine tag) (Some (Ended (Some number) (Status (Check sense))))) place same place.reset
    (λ was. record { chunk = was.chunk; room = was.room; out = was.out; task = refl })
begins_same device backed number maps shown attention tag (Ok (Sync lba count)) place same here free kept faults sound =
    sync_begins device backed number maps shown attention tag lba count place same here free (faults (Sync lba count) refl)
begins_same device backed number maps shown attention tag (Ok other) place same here free kept faults sound =
    other_begins device backed number maps shown attention tag other refl place same here free
    (same_work (in_profile (profile_work other (shape_with maps.count shown))) (work_of other maps.count) kept) sound
