-- The chunks of a READ in turn give its blocks. Cited by the law of reads.
use Rattle.std.proofs.Common.{◌≡◌, ℕ, zero, suc, ◌+◌, ◌*◌, ◌<◌, ◌≤◌, Bool, true, false, List, [], ◌++◌, take, drop, cond, Some, None, refl, arith, ap, ap₂, sym, ◌∙◌, inl, inr}
use Rattle.std.proofs.Common.{take-add, drop-drop}
use Rattle.std.specs.Prelude.{min, unwrap_or}
use Rattle.std.proofs.lemmas.Bool.{cases_lt}
use Rattle.std.proofs.lemmas.List.{append-nil}
use Rattle.block_unit.specs.BlockMaps.{BlockMaps, blocks_read, bytes_from, meets_bad}
use Rattle.scsi_cmd.specs.declared.Work.TheVariants.{Reads}
use Rattle.scsi_cmd.specs.Sense.{unrecovered_read_error}
use Rattle.device_server.specs.declared.Answer.TheVariants.{Check}
use Rattle.device_server.specs.declared.Progress.TheVariants.{Ended}
use Rattle.device_server.specs.Server.{chunk_blocks, next_progress}
use Rattle.uas_profile.specs.declared.TheConstants.{BLOCK_BYTES, CHUNK_BLOCKS}
use Rattle.whole_commands.specs.transfers.Transfers.{ReadsGiveAll, ReadsStopAtBad, blocks_in, chunks_given}
use Rattle.whole_commands.proofs.Chunks.{chunk-good, chunks-good}

-- bytes from one place on, and then those from where these end
parts-joined : (xs : List ℕ) (place few more : ℕ) → take few (drop place xs) ++ take more (drop (place + few) xs) ≡ take (few + more) (drop place xs)
parts-joined xs place few more =
    ap (λ rest. take few (drop place xs) ++ take more rest) (ap (λ n. drop n xs) (omega arith) ∙ sym (drop-drop few place xs))
    ∙ sym (take-add few more (drop place xs))

-- the blocks up to a chunk, and then its own
blocks-joined : (unit : BlockMaps) (lba count chunk : ℕ)
    → blocks_read unit lba (blocks_in count chunk) ++ blocks_read unit (lba + CHUNK_BLOCKS * chunk) (chunk_blocks count chunk)
    ≡ blocks_read unit lba (blocks_in count (suc chunk))
unfolding blocks_read bytes_from
blocks-joined unit lba count chunk =
    let at : ℕ = BLOCK_BYTES * lba in
    let few : ℕ = BLOCK_BYTES * blocks_in count chunk in
    let more : ℕ = BLOCK_BYTES * chunk_blocks count chunk in
    let all : few + more ≡ BLOCK_BYTES * blocks_in count (suc chunk) = omega arith in
    elim (cases_lt (CHUNK_BLOCKS * chunk) count) [
      | inl inside ↦
          let next : BLOCK_BYTES * (lba + CHUNK_BLOCKS * chunk) ≡ at + few = omega arith in
          ap (λ n. take few (drop at unit.blocks) ++ take more (drop n unit.blocks)) next
          ∙ parts-joined unit.blocks at few more
          ∙ ap (λ n. take n (drop at unit.blocks)) all
      | inr past ↦
          let none : more ≡ 0 = omega arith in
          let same : few ≡ BLOCK_BYTES * blocks_in count (suc chunk) = omega arith in
          ap (λ n. take few (drop at unit.blocks) ++ take n (drop (BLOCK_BYTES * (lba + CHUNK_BLOCKS * chunk)) unit.blocks)) none
          ∙ append-nil (take few (drop at unit.blocks))
          ∙ ap (λ n. take n (drop at unit.blocks)) same
    ]

pub reads-all : ReadsGiveAll
unfolding blocks_read bytes_from
reads-all unit lba count zero none =
    let nothing : 0 ≡ BLOCK_BYTES * blocks_in count zero = omega arith in
    ap (λ n. take n (drop (BLOCK_BYTES * lba) unit.blocks)) nothing
reads-all unit lba count (suc chunk) none =
    ap₂ (λ front part. front ++ part) (reads-all unit lba count chunk (chunks-good unit lba count chunk none))
    (ap (λ b. unwrap_or (cond b None (Some (blocks_read unit (lba + CHUNK_BLOCKS * chunk) (chunk_blocks count chunk)))) []) (chunk-good unit lba count chunk none))
    ∙ blocks-joined unit lba count chunk

pub read-stops : ReadsStopAtBad
read-stops unit lba count chunk bad = (
  ap (λ b. chunks_given unit (Reads lba count) chunk ++ unwrap_or (cond b None (Some (blocks_read unit (lba + CHUNK_BLOCKS * chunk) (chunk_blocks count chunk)))) []) bad
      ∙ append-nil (chunks_given unit (Reads lba count) chunk),
  ap (λ b. cond b (Ended (Check unrecovered_read_error)) (next_progress (BLOCK_BYTES * count) chunk)) bad,
)
