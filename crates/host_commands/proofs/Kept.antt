-- The profile's set is scsi_cmd's. Cited by the law `profile_is_kept`.
use Rattle.std.proofs.Common.{◌≡◌, ℕ, ◌-◌, ◌^◌, ◌≤◌, ◌++◌, min, Bool, true, false, List, take, length, Result, Ok, Err, refl, sym, subst, arith, ap, ◌∙◌}
use Rattle.std.proofs.lemmas.List.{take_all}
use Rattle.scsi_cmd.specs.declared.Op.{Op}
use Rattle.scsi_cmd.specs.declared.Op.TheVariants.{TestUnitReady, Inquiry, ReadCapacity, Read, Write, Sync, Read16, Write16, ReadCapacity16}
use Rattle.scsi_cmd.specs.declared.Sense.{Sense}
use Rattle.scsi_cmd.specs.Data.{inquiry_bytes}
use Rattle.scsi_cmd.specs.Fields.{four_bytes, eight_bytes, zeros}
use Rattle.scsi_cmd.specs.Meaning.{asked}
use Rattle.scsi_cmd.specs.Work.{asked_without_unit, giving, work_asked, work_asked_without_unit, work_of, work_without_unit}
use Rattle.disk_units.specs.declared.unit.DiskUnit.{DiskUnit}
use Rattle.host_commands.specs.declared.BlockLength.TheVariants.{Bytes512}
use Rattle.host_commands.specs.Data.{named_inquiry}
use Rattle.host_commands.specs.Laws.{ProfileIsKept, ProfileIsKeptOfNone, answer_in_profile, in_profile}
use Rattle.host_commands.specs.Meaning.{asked_of, asked_of_none}
use Rattle.disk_units.specs.Names.{usual_names}
use Rattle.host_commands.specs.Profile.{profile_work, profile_work_of_none, profile_works, profile_works_of_none}
use Rattle.host_commands.specs.Shapes.{IsPlain, Shape, plain_shape}

-- the front of a list has at most all of it
take-front : {T : Type 0} (xs : List T) (most n : ℕ) → length xs ≡ most → take n xs ≡ take (min n most) xs
take-front xs most n long = grind (arith, take_all)

inquiry_bytes-length : (present : Bool) → length (inquiry_bytes present) ≡ 36
unfolding inquiry_bytes
inquiry_bytes-length true = refl
inquiry_bytes-length false = refl

-- the usual names are scsi_cmd's
usual_inquiry : (present : Bool) → named_inquiry present usual_names ≡ inquiry_bytes present
unfolding inquiry_bytes
usual_inquiry present = refl

last_fits : (blocks : ℕ) → blocks ≤ 2 ^ 32 → min (blocks - 1) (2 ^ 32 - 1) ≡ blocks - 1
last_fits blocks most = omega arith

-- the profile tells nothing of what is said in the disk set
work_kept : (op : Op) (blocks serial : ℕ) (disk : DiskUnit) → blocks ≤ 2 ^ 32 →
    in_profile (profile_work op (record (plain_shape blocks Bytes512 serial) { disk = disk })) ≡ work_of op blocks
work_kept TestUnitReady blocks serial disk most = refl
work_kept (Inquiry allocation) blocks serial disk most =
    ap giving (ap (take allocation) (usual_inquiry true) ∙ take-front (inquiry_bytes true) 36 allocation (inquiry_bytes-length true))
work_kept ReadCapacity blocks serial disk most = ap (λ last. giving (four_bytes last ++ four_bytes 512)) (last_fits blocks most)
work_kept (Read lba count fua) blocks serial disk most = refl
work_kept (Write lba count fua) blocks serial disk most = refl
work_kept (Sync lba count) blocks serial disk most = refl
work_kept (Read16 lba count fua) blocks serial disk most = refl
work_kept (Write16 lba count fua) blocks serial disk most = refl
work_kept (ReadCapacity16 allocation) blocks serial disk most =
    ap giving (take-front (eight_bytes (blocks - 1) ++ four_bytes 512 ++ zeros 20) 32 allocation refl)

works_kept : (asks : Result Op Sense) (blocks serial : ℕ) (disk : DiskUnit) → blocks ≤ 2 ^ 32 →
    answer_in_profile (profile_works (record (plain_shape blocks Bytes512 serial) { disk = disk }) asks) ≡ work_asked blocks asks
works_kept (Ok op) blocks serial disk most = ap Ok (work_kept op blocks serial disk most)
works_kept (Err sense) blocks serial disk most = refl

-- a plain shape of short blocks has but its number of blocks, its serial number, and what is said of it in the disk set
plain_is : (shape : Shape) → IsPlain shape → shape.block_length ≡ Bytes512
    → shape ≡ record (plain_shape shape.blocks Bytes512 shape.serial) { disk = shape.disk }
plain_is shape plain short =
    λ i. record { blocks = shape.blocks; block_length = short i; serial = shape.serial; read_only = plain.read_only i; names = plain.names i; disk = shape.disk }

pub profile_kept : ProfileIsKept
unfolding asked_of
profile_kept cdb shape count attention plain short most =
    subst (λ here. answer_in_profile (profile_works here (asked cdb shape.blocks)) ≡ work_asked shape.blocks (asked cdb shape.blocks))
    (sym (plain_is shape plain short)) (works_kept (asked cdb shape.blocks) shape.blocks shape.serial shape.disk most)

work_kept_of_none : (op : Op) → answer_in_profile (profile_work_of_none op) ≡ work_without_unit op
work_kept_of_none TestUnitReady = refl
work_kept_of_none (Inquiry allocation) =
    ap (λ bytes. Ok (giving bytes))
    (ap (take allocation) (usual_inquiry false) ∙ take-front (inquiry_bytes false) 36 allocation (inquiry_bytes-length false))
work_kept_of_none ReadCapacity = refl
work_kept_of_none (Read lba count fua) = refl
work_kept_of_none (Write lba count fua) = refl
work_kept_of_none (Sync lba count) = refl
work_kept_of_none (Read16 lba count fua) = refl
work_kept_of_none (Write16 lba count fua) = refl
work_kept_of_none (ReadCapacity16 allocation) = refl

works_kept_of_none : (asks : Result Op Sense) → answer_in_profile (profile_works_of_none asks) ≡ work_asked_without_unit asks
works_kept_of_none (Ok op) = work_kept_of_none op
works_kept_of_none (Err sense) = refl

pub profile_kept_of_none : ProfileIsKeptOfNone
unfolding asked_of_none
profile_kept_of_none cdb count = works_kept_of_none (asked_without_unit cdb)

pub ruleset kept = (profile_kept, profile_kept_of_none)
