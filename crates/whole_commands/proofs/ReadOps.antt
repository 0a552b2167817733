-- An operation that may be a READ, from its submission to its answer. Cited by ReadRuns.
use Rattle.std.proofs.Common.{◌≡◌, ℕ, ◌*◌, ◌<◌, Bool, List, length, None, refl, arith, ap, sym, ◌∙◌}
use Rattle.std.proofs.lemmas.List.{nil_from_length}
use Rattle.block_unit.specs.BlockMaps.{BlockMaps, blocks_read, bytes_from, with_attention}
use Rattle.block_unit.specs.Laws.{IsSized}
use Rattle.scsi_cmd.specs.declared.Op.{Op}
use Rattle.scsi_cmd.specs.declared.Op.TheVariants.{TestUnitReady, Inquiry, ReadCapacity, Read, Write, Sync, Read16, Write16, ReadCapacity16}
use Rattle.scsi_cmd.specs.declared.Sense.{Sense}
use Rattle.scsi_cmd.specs.declared.Work.TheVariants.{Reads}
use Rattle.scsi_cmd.specs.Meaning.{op_fault, transfer_fault}
use Rattle.scsi_cmd.specs.Op.{moved_bytes}
use Rattle.scsi_cmd.specs.Work.{checked_work, work_of}
use Rattle.device_server.specs.declared.Answer.TheVariants.{Good, Check}
use Rattle.device_server.specs.declared.Progress.{Progress}
use Rattle.device_server.specs.Server.{begun, chunk_given, progress_after, synchronized}
use Rattle.solo_model.specs.declared.Phase.{Phase}
use Rattle.solo_model.specs.declared.Phase.TheVariants.{Queued, Begun, Sent}
use Rattle.solo_model.specs.declared.TaskAnswer.{TaskAnswer}
use Rattle.solo_model.specs.declared.TaskAnswer.TheVariants.{WithStatus}
use Rattle.solo_model.specs.declared.TaskProgress.TheVariants.{Moving, Ended}
use Rattle.solo_model.specs.TaggedTask.{buffer_after, of_command, progress_left, unit_after}
use Rattle.uas_profile.specs.declared.TheConstants.{BLOCK_BYTES}
use Rattle.whole_commands.specs.Labels.{KeepsBlocks}
use Rattle.whole_commands.specs.Reads.{AreItsBlocks}
use Rattle.whole_commands.proofs.Bad.{meets_bad-no_blocks}
use Rattle.whole_commands.proofs.Begun.{begun-so, transfer-fits}
use Rattle.whole_commands.proofs.Reading.{IsAt, IsRead, chunk_given-attention, filled, progress_after-attention, read-moves}

-- where an operation is that may be a READ
abbrev pub IsReadAt : BlockMaps → Op → List ℕ → Phase → Type 0
IsReadAt unit TestUnitReady buffer phase = Unit {0}
IsReadAt unit (Inquiry allocation) buffer phase = Unit {0}
IsReadAt unit ReadCapacity buffer phase = Unit {0}
IsReadAt unit (Read lba count fua) buffer phase = (length buffer ≡ BLOCK_BYTES * count) × IsAt unit lba count buffer phase
IsReadAt unit (Write lba count fua) buffer phase = Unit {0}
IsReadAt unit (Sync lba count) buffer phase = Unit {0}
IsReadAt unit (Read16 lba count fua) buffer phase = (length buffer ≡ BLOCK_BYTES * count) × IsAt unit lba count buffer phase
IsReadAt unit (Write16 lba count fua) buffer phase = Unit {0}
IsReadAt unit (ReadCapacity16 allocation) buffer phase = Unit {0}

-- as it is submitted
pub read-queued : (unit : BlockMaps) (op : Op) (buffer : List ℕ) → length buffer ≡ moved_bytes op → IsReadAt unit op buffer Queued
read-queued unit TestUnitReady buffer whole = tt
read-queued unit (Inquiry allocation) buffer whole = tt
read-queued unit ReadCapacity buffer whole = tt
read-queued unit (Read lba count fua) buffer whole = (whole, tt)
read-queued unit (Write lba count fua) buffer whole = tt
read-queued unit (Sync lba count) buffer whole = tt
read-queued unit (Read16 lba count fua) buffer whole = (whole, tt)
read-queued unit (Write16 lba count fua) buffer whole = tt
read-queued unit (ReadCapacity16 allocation) buffer whole = tt

-- a READ goes on, and any other operation does
read-on : (unit : BlockMaps) (op : Op) (buffer later : List ℕ) (from to : Phase) → ((lba count : ℕ) → moved_bytes op ≡ BLOCK_BYTES * count →
    op_fault op unit.count ≡ transfer_fault lba count unit.count → (length buffer ≡ BLOCK_BYTES * count) × IsAt unit lba count buffer from →
    (length later ≡ BLOCK_BYTES * count) × IsAt unit lba count later to) → IsReadAt unit op buffer from → IsReadAt unit op later to
read-on unit TestUnitReady buffer later from to goes at = tt
read-on unit (Inquiry allocation) buffer later from to goes at = tt
read-on unit ReadCapacity buffer later from to goes at = tt
read-on unit (Read lba count fua) buffer later from to goes at = goes lba count refl refl at
read-on unit (Write lba count fua) buffer later from to goes at = tt
read-on unit (Sync lba count) buffer later from to goes at = tt
read-on unit (Read16 lba count fua) buffer later from to goes at = goes lba count refl refl at
read-on unit (Write16 lba count fua) buffer later from to goes at = tt
read-on unit (ReadCapacity16 allocation) buffer later from to goes at = tt

-- a fault ends it
read-checked : (unit : BlockMaps) (op : Op) (buffer : List ℕ) (sense : Sense) → IsReadAt unit op buffer Queued →
    IsReadAt unit op buffer (Begun (Ended (WithStatus (Check sense))))
read-checked unit op buffer sense at = read-on unit op buffer buffer _ _ (λ lba count moves range here. here) at

-- a READ of no blocks ends at once
nothing-read : (unit : BlockMaps) (lba count : ℕ) (buffer : List ℕ) → length buffer ≡ BLOCK_BYTES * count → BLOCK_BYTES * count ≡ 0 → buffer ≡ blocks_read unit lba count
unfolding blocks_read bytes_from
nothing-read unit lba count buffer whole none =
    nil_from_length buffer (whole ∙ none) ∙ sym (nil_from_length (blocks_read unit lba count) (ap (λ n. length (bytes_from unit.blocks (BLOCK_BYTES * lba) n)) none))

read-nothing : (unit : BlockMaps) (op : Op) (buffer : List ℕ) → IsReadAt unit op buffer Queued → moved_bytes op ≡ 0 →
    IsReadAt unit op buffer (Begun (Ended (WithStatus Good)))
read-nothing unit op buffer at none =
    read-on unit op buffer buffer _ _ (λ lba count moves range here. (here.0, nothing-read unit lba count buffer here.0 (sym moves ∙ none))) at

-- it comes to its first chunk
read-first : (unit : BlockMaps) (op : Op) (buffer : List ℕ) → IsReadAt unit op buffer Queued → 0 < moved_bytes op → op_fault op unit.count ≡ None →
    IsReadAt unit op buffer (Begun (Moving 0))
read-first unit op buffer at some none =
    read-on unit op buffer buffer _ _ (λ lba count moves range here. (
      here.0,
      record {
        fits = transfer-fits lba count unit.count (sym range ∙ none);
        more = omega (arith, some, moves);
        good = meets_bad-no_blocks unit lba count;
        bytes = refl;
      },
    )) at

-- nothing of it synchronizes
pub keeps-synchronized : (unit : BlockMaps) (op : Op) (blocks : ℕ) → KeepsBlocks op → synchronized unit (work_of op blocks) ≡ unit
keeps-synchronized unit TestUnitReady blocks keeps = refl
keeps-synchronized unit (Inquiry allocation) blocks keeps = refl
keeps-synchronized unit ReadCapacity blocks keeps = refl
keeps-synchronized unit (Read lba count fua) blocks keeps = refl
keeps-synchronized unit (Write lba count fua) blocks keeps = refl
keeps-synchronized unit (Sync lba count) blocks keeps = absurd keeps
keeps-synchronized unit (Read16 lba count fua) blocks keeps = refl
keeps-synchronized unit (Write16 lba count fua) blocks keeps = refl
keeps-synchronized unit (ReadCapacity16 allocation) blocks keeps = refl

-- but for its attention a unit is as this one
abbrev pub IsSame : BlockMaps → BlockMaps → Type 0
IsSame unit now = now ≡ with_attention unit now.attention

-- what it is at once it began
abbrev pub IsReadOn : BlockMaps → Op → List ℕ → BlockMaps × Progress → Type 0
IsReadOn unit op buffer after = IsSame unit after.0 × IsReadAt unit op buffer (Begun (of_command after.1))

pub read-begins : (unit : BlockMaps) (flag : Bool) (op : Op) (buffer : List ℕ) → KeepsBlocks op → IsReadAt unit op buffer Queued → (reports : Bool) →
    IsReadOn unit op buffer (begun (with_attention unit flag) reports (checked_work op (with_attention unit flag).count))
unfolding with_attention
read-begins unit flag op buffer keeps at reports =
    begun-so (IsReadOn unit op buffer) (with_attention unit flag) reports op (keeps-synchronized (with_attention unit flag) op (with_attention unit flag).count keeps) (record {
      attention = (refl, read-checked unit op buffer _ at);
      fault = λ sense. (refl, read-checked unit op buffer sense at);
      nothing = λ none right. (refl, read-nothing unit op buffer at none);
      first = λ some right. (refl, read-first unit op buffer at some right);
    })

-- a chunk of it
chunk-read : (unit : BlockMaps) (flag : Bool) (lba count chunk : ℕ) (buffer : List ℕ) → IsSized unit →
    (length buffer ≡ BLOCK_BYTES * count) × IsAt unit lba count buffer (Begun (Moving chunk)) →
    IsRead unit lba count (filled buffer chunk (chunk_given (with_attention unit flag) chunk (Reads lba count)))
    (progress_after (with_attention unit flag) chunk (Reads lba count))
chunk-read unit flag lba count chunk buffer sized at =
    rw (chunk_given-attention unit flag lba count chunk, progress_after-attention unit flag lba count chunk)
    (read-moves unit lba count chunk buffer sized at.0 at.1)

-- the unit stays, and the task is where it is next
abbrev pub IsChunkRead : BlockMaps → BlockMaps → Op → ℕ → List ℕ → Type 0
IsChunkRead unit now op chunk buffer =
    (unit_after now buffer chunk op ≡ now) × IsReadAt unit op (buffer_after now buffer chunk op) (Begun (progress_left now chunk op))

pub read-chunk : (unit : BlockMaps) (flag : Bool) (op : Op) (chunk : ℕ) (buffer : List ℕ) → IsSized unit → KeepsBlocks op →
    IsReadAt unit op buffer (Begun (Moving chunk)) → IsChunkRead unit (with_attention unit flag) op chunk buffer
read-chunk unit flag TestUnitReady chunk buffer sized keeps at = (refl, tt)
read-chunk unit flag (Inquiry allocation) chunk buffer sized keeps at = (refl, tt)
read-chunk unit flag ReadCapacity chunk buffer sized keeps at = (refl, tt)
read-chunk unit flag (Read lba count fua) chunk buffer sized keeps at =
    let now = chunk-read unit flag lba count chunk buffer sized at in (refl, (now.whole, now.come))
read-chunk unit flag (Write lba count fua) chunk buffer sized keeps at = absurd keeps
read-chunk unit flag (Sync lba count) chunk buffer sized keeps at = absurd keeps
read-chunk unit flag (Read16 lba count fua) chunk buffer sized keeps at =
    let now = chunk-read unit flag lba count chunk buffer sized at in (refl, (now.whole, now.come))
read-chunk unit flag (Write16 lba count fua) chunk buffer sized keeps at = absurd keeps
read-chunk unit flag (ReadCapacity16 allocation) chunk buffer sized keeps at = (refl, tt)

-- its answer is handed over
pub read-sent : (unit : BlockMaps) (op : Op) (buffer : List ℕ) (answer : TaskAnswer) → IsReadAt unit op buffer (Begun (Ended answer)) →
    IsReadAt unit op buffer (Sent answer)
read-sent unit op buffer answer at = read-on unit op buffer buffer _ _ (λ lba count moves range here. here) at

-- and is a GOOD
pub read-good : (unit : BlockMaps) (op : Op) (buffer : List ℕ) → IsReadAt unit op buffer (Sent (WithStatus Good)) → AreItsBlocks unit op buffer
read-good unit TestUnitReady buffer at = tt
read-good unit (Inquiry allocation) buffer at = tt
read-good unit ReadCapacity buffer at = tt
read-good unit (Read lba count fua) buffer at = at.1
read-good unit (Write lba count fua) buffer at = tt
read-good unit (Sync lba count) buffer at = tt
read-good unit (Read16 lba count fua) buffer at = at.1
read-good unit (Write16 lba count fua) buffer at = tt
read-good unit (ReadCapacity16 allocation) buffer at = tt

-- the unit itself
pub same-attention : (unit : BlockMaps) → IsSame unit unit
unfolding with_attention
same-attention unit = refl
