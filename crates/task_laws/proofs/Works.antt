-- What a task's work says of its bytes and of its unit. Cited by the proofs on each call.
use Rattle.std.proofs.Common.{◌≡◌, ℕ, zero, suc, ◌-◌, ◌*◌, ◌<◌, ◌≤◌, Bool, List, [], ◌∷◌, length, min, Option, Some, None, Result, Ok, Err, refl, arith, ap, ap₂, sym, subst, ◌∙◌}
use Rattle.std.specs.Prelude.{slice_get, IsOk}
use Rattle.std.specs.Option.{option_map_or}
use Rattle.arrayvec.specs.ArrayVec.{ArrayVec}
use Rattle.block_unit.specs.BlockMaps.{BlockMaps}
use Rattle.scsi_cmd.specs.declared.Op.{Op}
use Rattle.scsi_cmd.specs.declared.Op.TheVariants.{TestUnitReady, Inquiry, ReadCapacity, Read, Write, Sync, Read16, Write16, ReadCapacity16}
use Rattle.scsi_cmd.specs.declared.Sense.{Sense}
use Rattle.scsi_cmd.specs.declared.Work.{Work}
use Rattle.scsi_cmd.specs.declared.Work.TheVariants.{Nothing, Gives as GivesWork, Reads as ReadsWork, Writes as WritesWork}
use Rattle.scsi_cmd.specs.Laws.{IsGivenAtOnce-work_of, IsWorkOn-work_of, direction_of-some, direction_of-work, way_of-work_without_unit, work_bytes-work_of, work_bytes-work_without_unit}
use Rattle.scsi_cmd.specs.Meaning.{op_fault}
use Rattle.scsi_cmd.specs.Op.{direction_of, moved_bytes}
use Rattle.scsi_cmd.specs.Sense.{unit_not_supported}
use Rattle.scsi_cmd.specs.Work.{IsGivenAtOnce, IsWorkOn, work_bytes, work_direction, work_of, work_without_unit}
use Rattle.device_server.specs.Server.{chunk_bytes}
use Rattle.uas_profile.specs.declared.TheConstants.{BLOCK_BYTES, CHUNK_BLOCKS, CHUNK_BYTES}
use Rattle.uas_target.specs.declared.DeviceTask.TheVariants.{Moving}
use Rattle.uas_target.specs.declared.Phase.{Phase}
use Rattle.uas_target.specs.declared.Phase.TheVariants.{Gives, Takes}
use Rattle.uas_target.specs.Soundness.{IsOn, IsSoundTask, counts_of}
use Rattle.uas_target.specs.Tasks.{chunk_wanted, wanted_way}
use Rattle.task_laws.specs.Same.{work_on}

-- ITS UNIT

-- the work that there is
work_found : Result Work Sense → Work
work_found (Ok work) = work
work_found (Err sense) = Nothing

pub same_work : (one other : Work) → ◌≡◌ {A = Result Work Sense} (Ok one) (Ok other) → one ≡ other
unfolding work_found
same_work one other is = ap work_found is

-- a task with a work is on a unit that is there
pub record OnUnit (units : List BlockMaps) (number : ℕ) (op : Op) (work : Work) : Type 0 where
  pub unit : BlockMaps
  pub found : slice_get units number ≡ Some unit
  pub does : work_of op unit.count ≡ work

pub on_unit : (units : List BlockMaps) (number : ℕ) (op : Op) (work : Work) → work_on (counts_of units) op (Some number) ≡ Ok work → OnUnit units number op work
on_unit [] number op work is = let no : ◌≡◌ {A = Result Work Sense} (Err unit_not_supported) (Ok work) = is in let it : ⊥ = cc in absurd it
on_unit (unit ∷ units) zero op work is = record { unit = unit; found = refl; does = same_work (work_of op unit.count) work is }
on_unit (unit ∷ units) (suc number) op work is =
    let rest = on_unit units number op work is in
    record { unit = rest.unit; found = rest.found; does = rest.does }

-- which can execute it
on_fault : (units : List BlockMaps) (number : ℕ) (op : Op) (unit : BlockMaps) → slice_get units number ≡ Some unit → IsOn (counts_of units) op (Some number) →
    op_fault op unit.count ≡ None
on_fault [] number op unit found on = absurd on
on_fault (first ∷ units) zero op unit found on =
    let same : ◌≡◌ {A = Option BlockMaps} (Some first) (Some unit) = found in
    let is : first ≡ unit = cc in
    subst (λ (u : BlockMaps). op_fault op u.count ≡ None) is on
on_fault (first ∷ units) (suc number) op unit found on = on_fault units number op unit found on

-- its blocks are on the unit
pub in_range : (units : List BlockMaps) (number chunk : ℕ) (op : Op) (work : Work) (on : OnUnit units number op work) →
    IsSoundTask (counts_of units) (Moving (Some number) op chunk) → IsWorkOn on.unit.count work
in_range units number chunk op work on sound =
    subst (IsWorkOn on.unit.count) on.does (IsWorkOn-work_of op on.unit.count (on_fault units number op on.unit on.found sound.1))

-- ITS BYTES

-- how many, and which way
pub record Moves (op : Op) (work : Work) : Type 0 where
  pub bytes : work_bytes work ≡ moved_bytes op
  pub way : 0 < moved_bytes op → direction_of op ≡ work_direction work
  pub little : IsGivenAtOnce work

pub moves_of : (op : Op) (blocks : ℕ) (work : Work) → work_of op blocks ≡ work → Moves op work
moves_of op blocks work is = record {
  bytes = ap work_bytes (sym is) ∙ work_bytes-work_of op blocks;
  way = λ some. direction_of-work op blocks some ∙ ap work_direction is;
  little = subst IsGivenAtOnce is (IsGivenAtOnce-work_of op blocks);
}

-- on a unit of some number of blocks
counted : (op : Op) (found : Option ℕ) (work : Work) →
    option_map_or {T = ℕ} (λ count. Ok (work_of op count)) found (Err unit_not_supported) ≡ Ok work → Moves op work
counted op None work is = let no : ◌≡◌ {A = Result Work Sense} (Err unit_not_supported) (Ok work) = is in let it : ⊥ = cc in absurd it
counted op (Some count) work is = moves_of op count work (same_work (work_of op count) work is)

-- INQUIRY without a unit
inquiry_little : (op : Op) (work : Work) → work_without_unit op ≡ Ok work → (moved_bytes op ≤ 36)
inquiry_little TestUnitReady work is = omega arith
inquiry_little (Inquiry allocation) work is = omega arith
inquiry_little ReadCapacity work is = omega arith
inquiry_little (Read lba count fua) work is = let no : ◌≡◌ {A = Result Work Sense} (Err unit_not_supported) (Ok work) = is in let it : ⊥ = cc in absurd it
inquiry_little (Write lba count fua) work is = let no : ◌≡◌ {A = Result Work Sense} (Err unit_not_supported) (Ok work) = is in let it : ⊥ = cc in absurd it
inquiry_little (Sync lba count) work is = omega arith
inquiry_little (Read16 lba count fua) work is = let no : ◌≡◌ {A = Result Work Sense} (Err unit_not_supported) (Ok work) = is in let it : ⊥ = cc in absurd it
inquiry_little (Write16 lba count fua) work is = let no : ◌≡◌ {A = Result Work Sense} (Err unit_not_supported) (Ok work) = is in let it : ⊥ = cc in absurd it
inquiry_little (ReadCapacity16 allocation) work is = omega arith

none_moves : (op : Op) (bytes : ArrayVec ℕ) → work_without_unit op ≡ Ok (GivesWork bytes) → Moves op (GivesWork bytes)
none_moves op bytes is =
    let all : length bytes.items ≡ moved_bytes op = work_bytes-work_without_unit op (GivesWork bytes) is in
    let little : moved_bytes op ≤ 36 = inquiry_little op (GivesWork bytes) is in
    record {
      bytes = all;
      way = λ some. direction_of-some op some ∙ way_of-work_without_unit op (subst (λ (works : Result Work Sense). IsOk works) (sym is) refl);
      little = omega (arith, all, little);
    }

pub moves_gives : (counts : List ℕ) (op : Op) (unit : Option ℕ) (bytes : ArrayVec ℕ) → work_on counts op unit ≡ Ok (GivesWork bytes) → Moves op (GivesWork bytes)
moves_gives counts op None bytes is = none_moves op bytes is
moves_gives counts op (Some number) bytes is = counted op (slice_get counts number) (GivesWork bytes) is

pub moves_on : (counts : List ℕ) (op : Op) (number : ℕ) (work : Work) → work_on counts op (Some number) ≡ Ok work → Moves op work
moves_on counts op number work is = counted op (slice_get counts number) work is

-- WHAT IS WANTED OF IT

pub same_takes : (one other : ℕ) → Takes one ≡ Takes other → one ≡ other
same_takes one other is = let same : ◌≡◌ {A = Phase} (Takes one) (Takes other) = is in cc

pub wanted_gives : (op : Op) (bytes : ArrayVec ℕ) → Moves op (GivesWork bytes) → 0 < moved_bytes op → chunk_wanted 0 op ≡ Gives (length bytes.items - 0)
wanted_gives op bytes moves some =
    let little : length bytes.items ≤ 36 = moves.little in
    let all : length bytes.items ≡ moved_bytes op = moves.bytes in
    let size : chunk_bytes (moved_bytes op) 0 ≡ length bytes.items - 0 = omega arith in
    ap₂ wanted_way (moves.way some) size

pub wanted_reads : (op : Op) (lba count chunk : ℕ) → Moves op (ReadsWork lba count) → CHUNK_BYTES * chunk < moved_bytes op →
    chunk_wanted chunk op ≡ Gives (BLOCK_BYTES * min CHUNK_BLOCKS (count - CHUNK_BLOCKS * chunk))
wanted_reads op lba count chunk moves more =
    let all : BLOCK_BYTES * count ≡ moved_bytes op = moves.bytes in
    let some : 0 < moved_bytes op = omega arith in
    let size : chunk_bytes (moved_bytes op) chunk ≡ BLOCK_BYTES * min CHUNK_BLOCKS (count - CHUNK_BLOCKS * chunk) = omega arith in
    ap₂ wanted_way (moves.way some) size

pub wanted_writes : (op : Op) (lba count chunk : ℕ) (through : Bool) → Moves op (WritesWork lba count through) → CHUNK_BYTES * chunk < moved_bytes op →
    chunk_wanted chunk op ≡ Takes (BLOCK_BYTES * min CHUNK_BLOCKS (count - CHUNK_BLOCKS * chunk) - 0)
wanted_writes op lba count chunk through moves more =
    let all : BLOCK_BYTES * count ≡ moved_bytes op = moves.bytes in
    let some : 0 < moved_bytes op = omega arith in
    let size : chunk_bytes (moved_bytes op) chunk ≡ BLOCK_BYTES * min CHUNK_BLOCKS (count - CHUNK_BLOCKS * chunk) - 0 = omega arith in
    ap₂ wanted_way (moves.way some) size
