-- A READ on its way: what its buffer has, chunk after chunk. Cited by ReadRuns.
use Rattle.std.proofs.Common.{◌≡◌, ℕ, suc, ◌+◌, ◌*◌, ◌<◌, ◌≤◌, Bool, true, false, cond, List, [], ◌++◌, length, take, drop, Option, Some, None, refl, arith, ap, sym, subst, ◌∙◌}
use Rattle.std.proofs.Common.{append-nil, append_assoc, length-append, length-take-le}
use Rattle.std.proofs.Math.Seq.{take-append_seam}
use Rattle.std.proofs.lemmas.List.{drop_all}
use Rattle.std.specs.Option.{option_map_or}
use Rattle.std.specs.Prelude.{nat_lt, unwrap_or}
use Rattle.std.proofs.lemmas.Bool.{ltb-true, ltb-false}
use Rattle.block_unit.specs.BlockMaps.{BlockMaps, blocks_read, meets_bad, with_attention}
use Rattle.block_unit.specs.Laws.{IsSized, length-bytes_from}
use Rattle.scsi_cmd.specs.Buffers.{with_bytes_at}
use Rattle.scsi_cmd.specs.Laws.{length-with_bytes_at}
use Rattle.scsi_cmd.specs.declared.Work.TheVariants.{Reads}
use Rattle.scsi_cmd.specs.Sense.{unrecovered_read_error}
use Rattle.device_server.specs.declared.Answer.TheVariants.{Good, Check}
use Rattle.device_server.specs.declared.Progress.{Progress}
use Rattle.device_server.specs.declared.Progress.TheVariants.{Moving as MovingOn, Ended as EndedWith}
use Rattle.device_server.specs.Server.{chunk_blocks, chunk_given, meets_bad_chunk, next_progress, progress_after}
use Rattle.solo_model.specs.declared.Phase.{Phase}
use Rattle.solo_model.specs.declared.Phase.TheVariants.{Queued, Begun, Sent, Gone}
use Rattle.solo_model.specs.declared.TaskAnswer.{TaskAnswer}
use Rattle.solo_model.specs.declared.TaskAnswer.TheVariants.{WithStatus, WithResponse}
use Rattle.solo_model.specs.declared.TaskProgress.{TaskProgress}
use Rattle.solo_model.specs.declared.TaskProgress.TheVariants.{Moving, Ended}
use Rattle.solo_model.specs.TaggedTask.{of_command}
use Rattle.uas_profile.specs.declared.TheConstants.{BLOCK_BYTES, CHUNK_BLOCKS, CHUNK_BYTES}
use Rattle.whole_commands.proofs.ChunksRead.{reads-all}
use Rattle.whole_commands.specs.transfers.Transfers.{blocks_in, chunks_given}
use Rattle.whole_commands.proofs.Bad.{meets_bad-next}

-- WHERE A READ IS

-- its first chunks are in its buffer
pub record IsMoving (unit : BlockMaps) (lba count : ℕ) (buffer : List ℕ) (chunk : ℕ) : Type 0 where
  pub fits : lba + count ≤ unit.count
  pub more : CHUNK_BLOCKS * chunk < count
  pub good : meets_bad unit lba (blocks_in count chunk) ≡ false
  pub bytes : take (CHUNK_BYTES * chunk) buffer ≡ chunks_given unit (Reads lba count) chunk

-- with GOOD all of it is
abbrev pub HasEnded : BlockMaps → ℕ → ℕ → List ℕ → TaskAnswer → Type 0
HasEnded unit lba count buffer (WithStatus Good) = buffer ≡ blocks_read unit lba count
HasEnded unit lba count buffer (WithStatus (Check sense)) = Unit {0}
HasEnded unit lba count buffer (WithResponse code) = Unit {0}

abbrev pub HasComeTo : BlockMaps → ℕ → ℕ → List ℕ → TaskProgress → Type 0
HasComeTo unit lba count buffer (Moving chunk) = IsMoving unit lba count buffer chunk
HasComeTo unit lba count buffer (Ended answer) = HasEnded unit lba count buffer answer

abbrev pub IsAt : BlockMaps → ℕ → ℕ → List ℕ → Phase → Type 0
IsAt unit lba count buffer Queued = Unit {0}
IsAt unit lba count buffer (Begun progress) = HasComeTo unit lba count buffer progress
IsAt unit lba count buffer (Sent answer) = HasEnded unit lba count buffer answer
IsAt unit lba count buffer Gone = Unit {0}

-- ONE CHUNK

-- an attention is nothing to a chunk
pub chunk_given-attention : (unit : BlockMaps) (flag : Bool) (lba count chunk : ℕ) →
    chunk_given (with_attention unit flag) chunk (Reads lba count) ≡ chunk_given unit chunk (Reads lba count)
unfolding with_attention meets_bad blocks_read
chunk_given-attention unit flag lba count chunk = refl

pub progress_after-attention : (unit : BlockMaps) (flag : Bool) (lba count chunk : ℕ) →
    progress_after (with_attention unit flag) chunk (Reads lba count) ≡ progress_after unit chunk (Reads lba count)
unfolding with_attention meets_bad
progress_after-attention unit flag lba count chunk = refl

-- the buffer with what a chunk gave
abbrev pub filled : List ℕ → ℕ → Option (List ℕ) → List ℕ
filled buffer chunk given = option_map_or (λ bytes. with_bytes_at buffer (CHUNK_BYTES * chunk) bytes) given buffer

-- a READ after a chunk
pub record IsRead (unit : BlockMaps) (lba count : ℕ) (buffer : List ℕ) (progress : Progress) : Type 0 where
  pub whole : length buffer ≡ BLOCK_BYTES * count
  pub come : HasComeTo unit lba count buffer (of_command progress)

length-read : (unit : BlockMaps) (lba count chunk : ℕ) → IsSized unit → lba + count ≤ unit.count → CHUNK_BLOCKS * chunk < count →
    length (blocks_read unit (lba + CHUNK_BLOCKS * chunk) (chunk_blocks count chunk)) ≡ BLOCK_BYTES * chunk_blocks count chunk
unfolding blocks_read
length-read unit lba count chunk sized fits more =
    length-bytes_from unit.blocks (BLOCK_BYTES * (lba + CHUNK_BLOCKS * chunk)) (BLOCK_BYTES * chunk_blocks count chunk) (omega (arith, sized.blocks, fits, more))

-- a chunk behind those before it
filled-is : (unit : BlockMaps) (lba count chunk : ℕ) (buffer given : List ℕ) → length buffer ≡ BLOCK_BYTES * count → IsMoving unit lba count buffer chunk →
    with_bytes_at buffer (CHUNK_BYTES * chunk) given
    ≡ (chunks_given unit (Reads lba count) chunk ++ given) ++ drop (CHUNK_BYTES * chunk + length given) buffer
unfolding with_bytes_at
filled-is unit lba count chunk buffer given whole at =
    ap (λ front. front ++ (given ++ drop (CHUNK_BYTES * chunk + length given) buffer)) at.bytes
    ∙ sym (append_assoc (chunks_given unit (Reads lba count) chunk) given (drop (CHUNK_BYTES * chunk + length given) buffer))

-- how long the chunks before it are
length-before : (unit : BlockMaps) (lba count chunk : ℕ) (buffer : List ℕ) → length buffer ≡ BLOCK_BYTES * count → IsMoving unit lba count buffer chunk →
    length (chunks_given unit (Reads lba count) chunk) ≡ CHUNK_BYTES * chunk
length-before unit lba count chunk buffer whole at =
    ap length (sym at.bytes) ∙ length-take-le (CHUNK_BYTES * chunk) buffer (omega (arith, whole, at.more))

-- this chunk is given
given-next : (unit : BlockMaps) (lba count chunk : ℕ) → meets_bad_chunk unit lba count chunk ≡ false →
    chunks_given unit (Reads lba count) (suc chunk)
    ≡ chunks_given unit (Reads lba count) chunk ++ blocks_read unit (lba + CHUNK_BLOCKS * chunk) (chunk_blocks count chunk)
given-next unit lba count chunk good =
    ap (λ b. chunks_given unit (Reads lba count) chunk ++ unwrap_or (cond b None (Some (blocks_read unit (lba + CHUNK_BLOCKS * chunk) (chunk_blocks count chunk)))) []) good

-- where no block of the chunk is bad
read-good : (unit : BlockMaps) (lba count chunk : ℕ) (buffer given : List ℕ) → IsSized unit → length buffer ≡ BLOCK_BYTES * count →
    IsMoving unit lba count buffer chunk → meets_bad_chunk unit lba count chunk ≡ false →
    given ≡ blocks_read unit (lba + CHUNK_BLOCKS * chunk) (chunk_blocks count chunk) →
    IsRead unit lba count (with_bytes_at buffer (CHUNK_BYTES * chunk) given) (next_progress (BLOCK_BYTES * count) chunk)
read-good unit lba count chunk buffer given sized whole at good is =
    let before : List ℕ = chunks_given unit (Reads lba count) chunk in
    let front : List ℕ = chunks_given unit (Reads lba count) (suc chunk) in
    let rest : List ℕ = drop (CHUNK_BYTES * chunk + length given) buffer in
    let long : length given ≡ BLOCK_BYTES * chunk_blocks count chunk = ap length is ∙ length-read unit lba count chunk sized at.fits at.more in
    let joined : before ++ given ≡ front = ap (λ bytes. before ++ bytes) is ∙ sym (given-next unit lba count chunk good) in
    let now : with_bytes_at buffer (CHUNK_BYTES * chunk) given ≡ front ++ rest =
    filled-is unit lba count chunk buffer given whole at ∙ ap (λ bytes. bytes ++ rest) joined in
    let front_long : length front ≡ CHUNK_BYTES * chunk + length given =
    ap length (sym joined) ∙ omega (arith, length-append before given, length-before unit lba count chunk buffer whole at) in
    let none : meets_bad unit lba (blocks_in count (suc chunk)) ≡ false = meets_bad-next unit lba count chunk at.more at.good good in
    let step : chunk + 1 ≡ suc chunk = omega arith in
    record {
      whole = length-with_bytes_at buffer (CHUNK_BYTES * chunk) given (omega (arith, long, whole, at.more)) ∙ whole;
      come = elim (nat_lt (CHUNK_BYTES * (chunk + 1)) (BLOCK_BYTES * count)) as (λ b. nat_lt (CHUNK_BYTES * (chunk + 1)) (BLOCK_BYTES * count) ≡ b →
          HasComeTo unit lba count (with_bytes_at buffer (CHUNK_BYTES * chunk) given) (of_command (cond b (MovingOn (chunk + 1)) (EndedWith Good)))) [
            | true ↦ λ is_more.
                let more : CHUNK_BYTES * (chunk + 1) < BLOCK_BYTES * count = ltb-true _ _ is_more in
                let size : length front ≡ CHUNK_BYTES * suc chunk = omega (arith, front_long, long, more) in
                subst (IsMoving unit lba count (with_bytes_at buffer (CHUNK_BYTES * chunk) given)) (sym step) (record {
                  fits = at.fits;
                  more = omega (arith, more);
                  good = none;
                  bytes = ap (take (CHUNK_BYTES * suc chunk)) now ∙ ap (λ n. take n (front ++ rest)) (sym size) ∙ take-append_seam front rest;
                })
            | false ↦ λ is_last.
                let last : BLOCK_BYTES * count ≤ CHUNK_BYTES * (chunk + 1) = ltb-false _ _ is_last in
                let nothing : rest ≡ [] = drop_all (CHUNK_BYTES * chunk + length given) buffer (omega (arith, whole, long, last, at.more)) in
                let whole_count : blocks_in count (suc chunk) ≡ count = omega (arith, last) in
                now ∙ ap (λ bytes. front ++ bytes) nothing ∙ append-nil front ∙ reads-all unit lba count (suc chunk) none ∙ ap (blocks_read unit lba) whole_count
          ] refl;
    }

-- whether it meets a bad block or not
pub read-moves : (unit : BlockMaps) (lba count chunk : ℕ) (buffer : List ℕ) → IsSized unit → length buffer ≡ BLOCK_BYTES * count →
    IsMoving unit lba count buffer chunk →
    IsRead unit lba count (filled buffer chunk (chunk_given unit chunk (Reads lba count))) (progress_after unit chunk (Reads lba count))
read-moves unit lba count chunk buffer sized whole at =
    elim (meets_bad_chunk unit lba count chunk) as (λ b. meets_bad_chunk unit lba count chunk ≡ b →
    IsRead unit lba count (filled buffer chunk (cond b None (Some (blocks_read unit (lba + CHUNK_BLOCKS * chunk) (chunk_blocks count chunk)))))
    (cond b (EndedWith (Check unrecovered_read_error)) (next_progress (BLOCK_BYTES * count) chunk))) [
      | true ↦ λ bad. record { whole = whole; come = tt }
      | false ↦ λ good. read-good unit lba count chunk buffer _ sized whole at good refl
    ] refl
