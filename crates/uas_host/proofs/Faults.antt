-- When an operation has too many blocks, by the bytes that it moves.
use Rattle.std.proofs.Common.{◌≡◌, ◌∙◌, ℕ, ◌+◌, ◌*◌, min, arith, refl, sym, inl, inr}
use Rattle.std.specs.Prelude.{nat_lt}
use Rattle.std.proofs.lemmas.Bool.{le-ltb, lt-ltb}
use Rattle.std.proofs.lemmas.Bool.Decides.{leb_tells}
use Rattle.uas_profile.specs.declared.TheConstants.{BLOCK_BYTES, MOST_BLOCKS_MOVED, WINDOW_BYTES}
use Rattle.scsi_cmd.specs.declared.Op.{Op}
use Rattle.scsi_cmd.specs.declared.Op.TheVariants.{TestUnitReady, Inquiry, ReadCapacity, Read, Write, Sync, Read16, Write16, ReadCapacity16}
use Rattle.scsi_cmd.specs.Op.{moved_bytes}
use Rattle.scsi_cmd.specs.Submission.{is_too_long}

-- so many blocks are too many exactly where their bytes are more than a window's
blocks-bytes : (count : ℕ) → nat_lt MOST_BLOCKS_MOVED count ≡ nat_lt WINDOW_BYTES (BLOCK_BYTES * count)
blocks-bytes count =
    elim (leb_tells (MOST_BLOCKS_MOVED + 1) count) [
      | inl more ↦ more.0 ∙ sym (lt-ltb WINDOW_BYTES (BLOCK_BYTES * count) (omega (arith, more.1)))
      | inr most ↦ most.0 ∙ sym (le-ltb WINDOW_BYTES (BLOCK_BYTES * count) (omega (arith, most.1)))
    ]

pub is_too_long-bytes : (op : Op) → is_too_long op ≡ nat_lt WINDOW_BYTES (moved_bytes op)
is_too_long-bytes TestUnitReady = refl
is_too_long-bytes (Inquiry allocation) = sym (le-ltb WINDOW_BYTES (min allocation 36) (omega arith))
is_too_long-bytes ReadCapacity = refl
is_too_long-bytes (Read lba count fua) = blocks-bytes count
is_too_long-bytes (Write lba count fua) = blocks-bytes count
is_too_long-bytes (Sync lba count) = refl
is_too_long-bytes (Read16 lba count fua) = blocks-bytes count
is_too_long-bytes (Write16 lba count fua) = blocks-bytes count
is_too_long-bytes (ReadCapacity16 allocation) = sym (le-ltb WINDOW_BYTES (min allocation 32) (omega arith))

pub ruleset too_long = (is_too_long-bytes)
