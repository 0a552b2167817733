-- A WRITE on its way: what it has written, chunk after chunk. Cited by WriteRuns.
use Rattle.std.proofs.Common.{◌≡◌, ℕ, suc, ◌+◌, ◌*◌, ◌<◌, ◌≤◌, Bool, true, false, cond, List, length, take, drop, refl, arith, ap, ap₂, sym, subst, ◌∙◌, inl, inr}
use Rattle.std.proofs.Common.{length-drop, take_all}
use Rattle.std.specs.Prelude.{nat_lt}
use Rattle.std.proofs.lemmas.Bool.{cases_lt, ltb-true, ltb-false}
use Rattle.block_unit.specs.BlockMaps.{BlockMaps, bytes_from, meets_bad, written}
use Rattle.block_unit.specs.Laws.{IsSized}
use Rattle.scsi_cmd.specs.declared.Op.{Op}
use Rattle.scsi_cmd.specs.declared.Op.TheVariants.{TestUnitReady, Inquiry, ReadCapacity, Read, Write, Sync, Read16, Write16, ReadCapacity16}
use Rattle.scsi_cmd.specs.declared.Work.TheVariants.{Writes}
use Rattle.scsi_cmd.specs.Meaning.{op_fault, transfer_fault}
use Rattle.scsi_cmd.specs.Op.{moved_bytes}
use Rattle.scsi_cmd.specs.Sense.{write_error}
use Rattle.scsi_cmd.specs.Work.{checked_work, reports_attention, work_of}
use Rattle.device_server.specs.declared.Answer.TheVariants.{Good, Check}
use Rattle.device_server.specs.declared.Progress.{Progress}
use Rattle.device_server.specs.declared.Progress.TheVariants.{Moving as MovingOn, Ended as EndedWith}
use Rattle.device_server.specs.Server.{begun, chunk_bytes, meets_bad_chunk, next_progress, progress_after, synchronized, unit_taken}
use Rattle.solo_model.specs.declared.Phase.{Phase}
use Rattle.solo_model.specs.declared.Phase.TheVariants.{Queued, Begun, Sent, Gone}
use Rattle.solo_model.specs.declared.TaskAnswer.{TaskAnswer}
use Rattle.solo_model.specs.declared.TaskAnswer.TheVariants.{WithStatus, WithResponse}
use Rattle.solo_model.specs.declared.TaskProgress.{TaskProgress}
use Rattle.solo_model.specs.declared.TaskProgress.TheVariants.{Moving, Ended}
use Rattle.solo_model.specs.TaggedTask.{buffer_after, of_command, progress_left, unit_after}
use Rattle.uas_profile.specs.declared.TheConstants.{BLOCK_BYTES, CHUNK_BLOCKS, CHUNK_BYTES}
use Rattle.whole_commands.proofs.ChunksWritten.{writes-all}
use Rattle.whole_commands.specs.transfers.Transfers.{blocks_in, chunk_of, chunks_taken}
use Rattle.whole_commands.specs.Writes.{HasItsBytes}
use Rattle.whole_commands.proofs.Bad.{meets_bad-next, meets_bad-no_blocks}
use Rattle.whole_commands.proofs.Begun.{begun-so, transfer-fits}

-- WHERE A WRITE IS, of these bytes, from this unit on which it began to what the unit is now

pub record IsWriting (unit now : BlockMaps) (lba count : ℕ) (through : Bool) (bytes : List ℕ) (chunk : ℕ) : Type 0 where
  pub fits : lba + count ≤ unit.count
  pub more : CHUNK_BLOCKS * chunk < count
  pub good : meets_bad unit lba (blocks_in count chunk) ≡ false
  pub taken : now ≡ chunks_taken unit bytes (Writes lba count through) chunk

abbrev pub HasWritten : BlockMaps → BlockMaps → ℕ → Bool → List ℕ → TaskAnswer → Type 0
HasWritten unit now lba through bytes (WithStatus Good) = now ≡ written unit lba bytes through
HasWritten unit now lba through bytes (WithStatus (Check sense)) = Unit {0}
HasWritten unit now lba through bytes (WithResponse code) = Unit {0}

abbrev pub HasComeTo : BlockMaps → BlockMaps → ℕ → ℕ → Bool → List ℕ → TaskProgress → Type 0
HasComeTo unit now lba count through bytes (Moving chunk) = IsWriting unit now lba count through bytes chunk
HasComeTo unit now lba count through bytes (Ended answer) = HasWritten unit now lba through bytes answer

abbrev pub IsAt : BlockMaps → BlockMaps → ℕ → ℕ → Bool → List ℕ → Phase → Type 0
IsAt unit now lba count through bytes Queued = now ≡ unit
IsAt unit now lba count through bytes (Begun progress) = HasComeTo unit now lba count through bytes progress
IsAt unit now lba count through bytes (Sent answer) = HasWritten unit now lba through bytes answer
IsAt unit now lba count through bytes Gone = Unit {0}

-- ONE CHUNK

-- enough chunks write all
wrote-all : (unit : BlockMaps) (lba count : ℕ) (through : Bool) (bytes : List ℕ) (chunks : ℕ) → IsSized unit → lba + count ≤ unit.count →
    length bytes ≡ BLOCK_BYTES * count → CHUNK_BLOCKS * chunks < count + CHUNK_BLOCKS → count ≤ CHUNK_BLOCKS * chunks →
    meets_bad unit lba (blocks_in count chunks) ≡ false → chunks_taken unit bytes (Writes lba count through) chunks ≡ written unit lba bytes through
wrote-all unit lba count through bytes chunks sized fits size few enough good =
    writes-all unit lba count through bytes chunks sized fits size few good
    ∙ ap (λ part. written unit lba part through) (take_all (BLOCK_BYTES * blocks_in count chunks) bytes (omega (arith, size, enough)))

-- the bytes of a chunk
brought-is : (bytes : List ℕ) (count chunk : ℕ) → length bytes ≡ BLOCK_BYTES * count → CHUNK_BLOCKS * chunk < count →
    bytes_from bytes (CHUNK_BYTES * chunk) (chunk_bytes (BLOCK_BYTES * count) chunk) ≡ chunk_of bytes chunk
unfolding bytes_from
brought-is bytes count chunk size inside = elim (cases_lt (CHUNK_BLOCKS * suc chunk) count) [
  | inl more ↦
      let many : chunk_bytes (BLOCK_BYTES * count) chunk ≡ CHUNK_BYTES = omega arith in
      ap (λ n. take n (drop (CHUNK_BYTES * chunk) bytes)) many
  | inr last ↦
      take_all (chunk_bytes (BLOCK_BYTES * count) chunk) (drop (CHUNK_BYTES * chunk) bytes) (omega (arith, size, length-drop (CHUNK_BYTES * chunk) bytes))
      ∙ sym (take_all CHUNK_BYTES (drop (CHUNK_BYTES * chunk) bytes) (omega (arith, size, length-drop (CHUNK_BYTES * chunk) bytes)))
]

-- a write leaves the bad blocks as they were
written-bad : (unit : BlockMaps) (lba : ℕ) (bytes : List ℕ) (through : Bool) (at many : ℕ) → meets_bad (written unit lba bytes through) at many ≡ meets_bad unit at many
unfolding written meets_bad
written-bad unit lba bytes through at many = refl

-- where no block of the chunk is bad
write-good : (unit now : BlockMaps) (lba count : ℕ) (through : Bool) (bytes : List ℕ) (chunk : ℕ) → IsSized unit →
    length bytes ≡ BLOCK_BYTES * count → IsWriting unit now lba count through bytes chunk → meets_bad_chunk now lba count chunk ≡ false →
    HasComeTo unit (unit_taken now (bytes_from bytes (CHUNK_BYTES * chunk) (chunk_bytes (BLOCK_BYTES * count) chunk)) chunk (Writes lba count through))
    lba count through bytes (of_command (next_progress (BLOCK_BYTES * count) chunk))
write-good unit now lba count through bytes chunk sized size at good =
    let next : BlockMaps = unit_taken now (bytes_from bytes (CHUNK_BYTES * chunk) (chunk_bytes (BLOCK_BYTES * count) chunk)) chunk (Writes lba count through) in
    let taken : next ≡ chunks_taken unit bytes (Writes lba count through) (suc chunk) =
    ap₂ (λ u part. unit_taken u part chunk (Writes lba count through)) at.taken (brought-is bytes count chunk size at.more) in
    let here : meets_bad_chunk unit lba count chunk ≡ false =
    sym (ap (λ u. meets_bad_chunk u lba count chunk) (at.taken ∙ writes-all unit lba count through bytes chunk sized at.fits size (omega (arith, at.more)) at.good)
    ∙ written-bad unit lba _ through _ _) ∙ good in
    let none : meets_bad unit lba (blocks_in count (suc chunk)) ≡ false = meets_bad-next unit lba count chunk at.more at.good here in
    let step : chunk + 1 ≡ suc chunk = omega arith in
    elim (nat_lt (CHUNK_BYTES * (chunk + 1)) (BLOCK_BYTES * count)) as (λ b. nat_lt (CHUNK_BYTES * (chunk + 1)) (BLOCK_BYTES * count) ≡ b →
    HasComeTo unit next lba count through bytes (of_command (cond b (MovingOn (chunk + 1)) (EndedWith Good)))) [
      | true ↦ λ is_more.
          let more : CHUNK_BYTES * (chunk + 1) < BLOCK_BYTES * count = ltb-true _ _ is_more in
          subst (IsWriting unit next lba count through bytes) (sym step) (record { fits = at.fits; more = omega (arith, more); good = none; taken = taken })
      | false ↦ λ is_last.
          let last : BLOCK_BYTES * count ≤ CHUNK_BYTES * (chunk + 1) = ltb-false _ _ is_last in
          taken ∙ wrote-all unit lba count through bytes (suc chunk) sized at.fits size (omega (arith, at.more)) (omega (arith, last)) none
    ] refl

-- whether it meets a bad block or not
write-moves : (unit now : BlockMaps) (lba count : ℕ) (through : Bool) (bytes : List ℕ) (chunk : ℕ) → IsSized unit →
    length bytes ≡ BLOCK_BYTES * count → IsWriting unit now lba count through bytes chunk →
    HasComeTo unit (unit_taken now (bytes_from bytes (CHUNK_BYTES * chunk) (chunk_bytes (BLOCK_BYTES * count) chunk)) chunk (Writes lba count through))
    lba count through bytes (of_command (progress_after now chunk (Writes lba count through)))
write-moves unit now lba count through bytes chunk sized size at =
    let next : BlockMaps = unit_taken now (bytes_from bytes (CHUNK_BYTES * chunk) (chunk_bytes (BLOCK_BYTES * count) chunk)) chunk (Writes lba count through) in
    elim (meets_bad_chunk now lba count chunk) as (λ b. meets_bad_chunk now lba count chunk ≡ b →
    HasComeTo unit next lba count through bytes (of_command (cond b (EndedWith (Check write_error)) (next_progress (BLOCK_BYTES * count) chunk)))) [
      | true ↦ λ bad. tt
      | false ↦ λ good. write-good unit now lba count through bytes chunk sized size at good
    ] refl

-- AN OPERATION THAT MAY BE A WRITE

-- it brings these bytes
pub record IsWrite (unit now : BlockMaps) (lba count : ℕ) (through : Bool) (bytes buffer : List ℕ) (phase : Phase) : Type 0 where
  pub brings : buffer ≡ bytes
  pub whole : length bytes ≡ BLOCK_BYTES * count
  pub at : IsAt unit now lba count through bytes phase

abbrev pub IsWriteAt : BlockMaps → BlockMaps → Op → List ℕ → List ℕ → Phase → Type 0
IsWriteAt unit now TestUnitReady bytes buffer phase = Unit {0}
IsWriteAt unit now (Inquiry allocation) bytes buffer phase = Unit {0}
IsWriteAt unit now ReadCapacity bytes buffer phase = Unit {0}
IsWriteAt unit now (Read lba count fua) bytes buffer phase = Unit {0}
IsWriteAt unit now (Write lba count fua) bytes buffer phase = IsWrite unit now lba count fua bytes buffer phase
IsWriteAt unit now (Sync lba count) bytes buffer phase = Unit {0}
IsWriteAt unit now (Read16 lba count fua) bytes buffer phase = Unit {0}
IsWriteAt unit now (Write16 lba count fua) bytes buffer phase = IsWrite unit now lba count fua bytes buffer phase
IsWriteAt unit now (ReadCapacity16 allocation) bytes buffer phase = Unit {0}

-- as it is submitted
pub write-queued : (unit : BlockMaps) (op : Op) (bytes : List ℕ) → length bytes ≡ moved_bytes op → IsWriteAt unit unit op bytes bytes Queued
write-queued unit TestUnitReady bytes whole = tt
write-queued unit (Inquiry allocation) bytes whole = tt
write-queued unit ReadCapacity bytes whole = tt
write-queued unit (Read lba count fua) bytes whole = tt
write-queued unit (Write lba count fua) bytes whole = record { brings = refl; whole = whole; at = refl }
write-queued unit (Sync lba count) bytes whole = tt
write-queued unit (Read16 lba count fua) bytes whole = tt
write-queued unit (Write16 lba count fua) bytes whole = record { brings = refl; whole = whole; at = refl }
write-queued unit (ReadCapacity16 allocation) bytes whole = tt

-- what it is at once it began
abbrev IsBegun : BlockMaps → ℕ → ℕ → Bool → List ℕ → List ℕ → BlockMaps × Progress → Type 0
IsBegun unit lba count through bytes buffer after = IsWrite unit after.0 lba count through bytes buffer (Begun (of_command after.1))

-- as it begins
begins-so : (unit : BlockMaps) (op : Op) (lba count : ℕ) (through : Bool) (bytes buffer : List ℕ) → IsSized unit →
    synchronized unit (work_of op unit.count) ≡ unit → moved_bytes op ≡ BLOCK_BYTES * count → op_fault op unit.count ≡ transfer_fault lba count unit.count →
    buffer ≡ bytes → length bytes ≡ BLOCK_BYTES * count → (reports : Bool) →
    IsBegun unit lba count through bytes buffer (begun unit reports (checked_work op unit.count))
begins-so unit op lba count through bytes buffer sized still moves range brings whole reports =
    begun-so (IsBegun unit lba count through bytes buffer) unit reports op still (record {
      attention = record { brings = brings; whole = whole; at = tt };
      fault = λ sense. record { brings = brings; whole = whole; at = tt };
      nothing = λ none right. record {
        brings = brings;
        whole = whole;
        at = wrote-all unit lba count through bytes 0 sized (transfer-fits lba count unit.count (sym range ∙ right)) whole (omega (arith, none, moves))
            (omega (arith, none, moves)) (meets_bad-no_blocks unit lba count);
      };
      first = λ some right. record {
        brings = brings;
        whole = whole;
        at = record {
          fits = transfer-fits lba count unit.count (sym range ∙ right);
          more = omega (arith, some, moves);
          good = meets_bad-no_blocks unit lba count;
          taken = refl;
        };
      };
    })

-- where it is once it began
abbrev pub IsWriteOn : BlockMaps → Op → List ℕ → List ℕ → BlockMaps × Progress → Type 0
IsWriteOn unit op bytes buffer after = IsWriteAt unit after.0 op bytes buffer (Begun (of_command after.1))

pub write-begins : (unit now : BlockMaps) (op : Op) (bytes buffer : List ℕ) → IsSized unit → IsWriteAt unit now op bytes buffer Queued →
    IsWriteOn unit op bytes buffer (begun now (reports_attention op) (checked_work op now.count))
write-begins unit now TestUnitReady bytes buffer sized at = tt
write-begins unit now (Inquiry allocation) bytes buffer sized at = tt
write-begins unit now ReadCapacity bytes buffer sized at = tt
write-begins unit now (Read lba count fua) bytes buffer sized at = tt
write-begins unit now (Write lba count fua) bytes buffer sized at =
    subst (λ u. IsBegun unit lba count fua bytes buffer (begun u true (checked_work (Write lba count fua) u.count))) (sym at.at)
    (begins-so unit (Write lba count fua) lba count fua bytes buffer sized refl refl refl at.brings at.whole true)
write-begins unit now (Sync lba count) bytes buffer sized at = tt
write-begins unit now (Read16 lba count fua) bytes buffer sized at = tt
write-begins unit now (Write16 lba count fua) bytes buffer sized at =
    subst (λ u. IsBegun unit lba count fua bytes buffer (begun u true (checked_work (Write16 lba count fua) u.count))) (sym at.at)
    (begins-so unit (Write16 lba count fua) lba count fua bytes buffer sized refl refl refl at.brings at.whole true)
write-begins unit now (ReadCapacity16 allocation) bytes buffer sized at = tt

-- a chunk of it
pub write-chunk : (unit now : BlockMaps) (op : Op) (chunk : ℕ) (bytes buffer : List ℕ) → IsSized unit →
    IsWriteAt unit now op bytes buffer (Begun (Moving chunk)) →
    IsWriteAt unit (unit_after now buffer chunk op) op bytes (buffer_after now buffer chunk op) (Begun (progress_left now chunk op))
write-chunk unit now TestUnitReady chunk bytes buffer sized at = tt
write-chunk unit now (Inquiry allocation) chunk bytes buffer sized at = tt
write-chunk unit now ReadCapacity chunk bytes buffer sized at = tt
write-chunk unit now (Read lba count fua) chunk bytes buffer sized at = tt
write-chunk unit now (Write lba count fua) chunk bytes buffer sized at =
    record {
      brings = at.brings;
      whole = at.whole;
      at = subst (λ b. HasComeTo unit (unit_taken now (bytes_from b (CHUNK_BYTES * chunk) (chunk_bytes (BLOCK_BYTES * count) chunk)) chunk (Writes lba count fua))
          lba count fua bytes (progress_left now chunk (Write lba count fua))) (sym at.brings)
          (write-moves unit now lba count fua bytes chunk sized at.whole at.at);
    }
write-chunk unit now (Sync lba count) chunk bytes buffer sized at = tt
write-chunk unit now (Read16 lba count fua) chunk bytes buffer sized at = tt
write-chunk unit now (Write16 lba count fua) chunk bytes buffer sized at =
    record {
      brings = at.brings;
      whole = at.whole;
      at = subst (λ b. HasComeTo unit (unit_taken now (bytes_from b (CHUNK_BYTES * chunk) (chunk_bytes (BLOCK_BYTES * count) chunk)) chunk (Writes lba count fua))
          lba count fua bytes (progress_left now chunk (Write16 lba count fua))) (sym at.brings)
          (write-moves unit now lba count fua bytes chunk sized at.whole at.at);
    }
write-chunk unit now (ReadCapacity16 allocation) chunk bytes buffer sized at = tt

-- its answer is handed over
pub write-sent : (unit now : BlockMaps) (op : Op) (bytes buffer : List ℕ) (answer : TaskAnswer) → IsWriteAt unit now op bytes buffer (Begun (Ended answer)) →
    IsWriteAt unit now op bytes buffer (Sent answer)
write-sent unit now TestUnitReady bytes buffer answer at = tt
write-sent unit now (Inquiry allocation) bytes buffer answer at = tt
write-sent unit now ReadCapacity bytes buffer answer at = tt
write-sent unit now (Read lba count fua) bytes buffer answer at = tt
write-sent unit now (Write lba count fua) bytes buffer answer at = record { brings = at.brings; whole = at.whole; at = at.at }
write-sent unit now (Sync lba count) bytes buffer answer at = tt
write-sent unit now (Read16 lba count fua) bytes buffer answer at = tt
write-sent unit now (Write16 lba count fua) bytes buffer answer at = record { brings = at.brings; whole = at.whole; at = at.at }
write-sent unit now (ReadCapacity16 allocation) bytes buffer answer at = tt

-- and is a GOOD
pub write-good_is : (unit now : BlockMaps) (op : Op) (bytes buffer : List ℕ) → IsWriteAt unit now op bytes buffer (Sent (WithStatus Good)) →
    HasItsBytes unit op bytes now
write-good_is unit now TestUnitReady bytes buffer at = tt
write-good_is unit now (Inquiry allocation) bytes buffer at = tt
write-good_is unit now ReadCapacity bytes buffer at = tt
write-good_is unit now (Read lba count fua) bytes buffer at = tt
write-good_is unit now (Write lba count fua) bytes buffer at = at.at
write-good_is unit now (Sync lba count) bytes buffer at = tt
write-good_is unit now (Read16 lba count fua) bytes buffer at = tt
write-good_is unit now (Write16 lba count fua) bytes buffer at = at.at
write-good_is unit now (ReadCapacity16 allocation) bytes buffer at = tt
