-- What users of the definitions know without opening them.
use Rattle.std.proofs.Common.{◌≡◌, ℕ, ◌+◌, ◌*◌, ◌<◌, ◌≤◌, Bool, true, false, not, ◌&&◌, is_some, cond, List, Some, None, Result, Ok, Err}
use Rattle.std.proofs.Common.{refl, arith, sym, subst, ◌∙◌}
use Rattle.std.specs.Prelude.{nat_lt, ◌==◌}
use Rattle.std.proofs.lemmas.Bool.{ltb-true, ltb-false, eqb-true, eqb-false}
use Rattle.block_unit.specs.BlockMaps.{BlockMaps, with_attention, blocks_read, written}
use Rattle.block_unit.specs.Laws.{written-count, synced-count, with_attention-count}
use Rattle.uas_profile.specs.declared.Direction.TheVariants.{Nothing as NoWay, ToHost, ToDevice}
use Rattle.scsi_cmd.specs.declared.Op.{Op}
use Rattle.scsi_cmd.specs.declared.Sense.{Sense}
use Rattle.scsi_cmd.specs.declared.Work.{Work}
use Rattle.scsi_cmd.specs.declared.Work.TheVariants.{Nothing, Gives, Reads, Writes, Synchronizes}
use Rattle.scsi_cmd.specs.Laws.{IsGivenAtOnce-work_of, checked-none, checked-some, work_bytes-work_of}
use Rattle.scsi_cmd.specs.Meaning.{checked, op_fault}
use Rattle.scsi_cmd.specs.Op.{moved_bytes}
use Rattle.scsi_cmd.specs.Sense.{reset_occurred, unrecovered_read_error, write_error}
use Rattle.scsi_cmd.specs.Work.{IsGivenAtOnce, checked_work, work_asked, work_bytes, work_direction, work_of}
use Rattle.device_server.specs.declared.Answer.TheVariants.{Good, Check}
use Rattle.device_server.specs.declared.Progress.{Progress}
use Rattle.device_server.specs.declared.Progress.TheVariants.{Moving, Ended}
use Rattle.device_server.specs.Server.{HasChunk, begun, chunk_blocks, chunk_fits, chunk_given, chunk_moved, first_progress}
use Rattle.device_server.specs.Server.{meets_bad_chunk, next_progress, progress_after, progress_after_blocks, progress_asked, synchronized}
use Rattle.device_server.specs.Server.{unit_asked, unit_taken}
use Rattle.uas_profile.specs.declared.TheConstants.{BLOCK_BYTES, CHUNK_BLOCKS, CHUNK_BYTES}

-- THE NUMBER OF BLOCKS

pub synchronized-count : (unit : BlockMaps) (work : Work) → (synchronized unit work).count ≡ unit.count
synchronized-count unit Nothing = refl
synchronized-count unit (Gives bytes) = refl
synchronized-count unit (Reads lba count) = refl
synchronized-count unit (Writes lba count through) = refl
synchronized-count unit (Synchronizes lba count) = synced-count unit lba count

pub unit_taken-count : (unit : BlockMaps) (bytes : List ℕ) (chunk : ℕ) (work : Work) → (unit_taken unit bytes chunk work).count ≡ unit.count
unit_taken-count unit bytes chunk Nothing = refl
unit_taken-count unit bytes chunk (Gives given) = refl
unit_taken-count unit bytes chunk (Reads lba count) = refl
unit_taken-count unit bytes chunk (Writes lba count through) =
    elim (meets_bad_chunk unit lba count chunk) as (λ b. (cond b unit (written unit (lba + CHUNK_BLOCKS * chunk) bytes through)).count ≡ unit.count) [
      | true ↦ refl
      | false ↦ written-count unit (lba + CHUNK_BLOCKS * chunk) bytes through
    ]
unit_taken-count unit bytes chunk (Synchronizes lba count) = refl

pub begun-count : (unit : BlockMaps) (reports : Bool) (asked : Result Work Sense) → (begun unit reports asked).0.count ≡ unit.count
begun-count unit reports asked =
    elim (reports && unit.attention) as (λ b.
    (cond {A = BlockMaps × Progress} b (with_attention unit false, Ended (Check reset_occurred))
    (unit_asked unit asked, progress_asked asked)).0.count ≡ unit.count) [
      | true ↦ with_attention-count unit false
      | false ↦ elim asked as (λ asks. (unit_asked unit asks).count ≡ unit.count) [
        | Ok work ↦ synchronized-count unit work
        | Err sense ↦ refl
      ]
    ]

pub ruleset counts = (synchronized-count, unit_taken-count, written-count, synced-count, with_attention-count)

-- WHAT A COMMAND THAT BEGAN IS AT

-- whatever holds of an end, and of the first chunk where there are bytes, holds of what is asked without a fault
progress_of_checked : (P : Progress → Type 0) (op : Op) (blocks : ℕ) → ((sense : Sense) → P (Ended (Check sense))) → (moved_bytes op ≡ 0 → P (Ended Good)) →
    (0 < moved_bytes op → op_fault op blocks ≡ None → P (Moving 0)) → P (progress_asked (checked_work op blocks))
progress_of_checked P op blocks check good moves =
    elim (op_fault op blocks) as (λ fault. op_fault op blocks ≡ fault → P (progress_asked (checked_work op blocks))) [
      | None ↦ λ none.
          let found : P (first_progress (moved_bytes op)) =
          elim (moved_bytes op == 0) as (λ b. (moved_bytes op == 0) ≡ b → P (cond b (Ended Good) (Moving 0))) [
            | true ↦ λ empty. good (eqb-true (moved_bytes op) 0 empty)
            | false ↦ λ some. let apart : moved_bytes op ≡ 0 → ⊥ = eqb-false (moved_bytes op) 0 some in moves (omega arith) none
          ] refl in
          let asked : checked op blocks ≡ Ok op = checked-none op blocks none in
          subst (λ (asks : Result Op Sense). P (progress_asked (work_asked blocks asks))) (sym asked)
          (subst (λ n. P (first_progress n)) (sym (work_bytes-work_of op blocks)) found)
      | Some sense ↦ λ some.
          subst (λ (asks : Result Op Sense). P (progress_asked (work_asked blocks asks))) (sym (checked-some op blocks sense some)) (check sense)
    ] refl

-- a command that begins has ended, or is at its first chunk
pub begun_progress : (P : Progress → Type 0) (unit : BlockMaps) (reports : Bool) (op : Op) → ((sense : Sense) → P (Ended (Check sense))) →
    (moved_bytes op ≡ 0 → P (Ended Good)) →
    (0 < moved_bytes op → op_fault op unit.count ≡ None → P (Moving 0)) → P (begun unit reports (checked_work op unit.count)).1
begun_progress P unit reports op check good moves =
    elim (reports && unit.attention) as (λ b.
    P (cond {A = BlockMaps × Progress} b (with_attention unit false, Ended (Check reset_occurred))
    (unit_asked unit (checked_work op unit.count), progress_asked (checked_work op unit.count))).1) [
      | true ↦ check reset_occurred
      | false ↦ progress_of_checked P op unit.count check good moves
    ]

pub HasChunk-begun : (unit : BlockMaps) (reports : Bool) (op : Op) → HasChunk unit.count op (begun unit reports (checked_work op unit.count)).1
HasChunk-begun unit reports op = begun_progress (HasChunk unit.count op) unit reports op (λ sense. tt) (λ empty. tt) (λ some none. (omega arith, none))

-- WHAT A CHUNK LEAVES

next_of : (P : Progress → Type 0) (bytes chunk : ℕ) → (CHUNK_BYTES * (chunk + 1) < bytes → P (Moving (chunk + 1))) → (bytes ≤ CHUNK_BYTES * (chunk + 1) → P (Ended Good)) →
    P (next_progress bytes chunk)
next_of P bytes chunk more last =
    elim (nat_lt (CHUNK_BYTES * (chunk + 1)) bytes) as (λ b. nat_lt (CHUNK_BYTES * (chunk + 1)) bytes ≡ b → P (cond b (Moving (chunk + 1)) (Ended Good))) [
      | true ↦ λ is. more (ltb-true _ _ is)
      | false ↦ λ is. last (ltb-false _ _ is)
    ] refl

after_blocks : (P : Progress → Type 0) (unit : BlockMaps) (lba count chunk : ℕ) (sense : Sense) →
    (CHUNK_BYTES * (chunk + 1) < BLOCK_BYTES * count → P (Moving (chunk + 1))) → (BLOCK_BYTES * count ≤ CHUNK_BYTES * (chunk + 1) → P (Ended Good)) →
    ((sense : Sense) → P (Ended (Check sense))) → P (progress_after_blocks unit lba count chunk sense)
after_blocks P unit lba count chunk sense more last check =
    elim (meets_bad_chunk unit lba count chunk) as (λ b. P (cond b (Ended (Check sense)) (next_progress (BLOCK_BYTES * count) chunk))) [
      | true ↦ check sense
      | false ↦ next_of P (BLOCK_BYTES * count) chunk more last
    ]

after_work : (P : Progress → Type 0) (unit : BlockMaps) (chunk : ℕ) (work : Work) → IsGivenAtOnce work →
    (CHUNK_BYTES * (chunk + 1) < work_bytes work → P (Moving (chunk + 1))) → (work_bytes work ≤ CHUNK_BYTES * (chunk + 1) → P (Ended Good)) →
    ((sense : Sense) → P (Ended (Check sense))) → P (progress_after unit chunk work)
after_work P unit chunk Nothing little more last check = last (omega arith)
after_work P unit chunk (Gives bytes) little more last check = last (omega arith)
after_work P unit chunk (Reads lba count) little more last check = after_blocks P unit lba count chunk unrecovered_read_error more last check
after_work P unit chunk (Writes lba count through) little more last check = after_blocks P unit lba count chunk write_error more last check
after_work P unit chunk (Synchronizes lba count) little more last check = last (omega arith)

-- after a chunk a command moves the next one where bytes are left, or has ended
pub after_chunk : (P : Progress → Type 0) (unit : BlockMaps) (chunk : ℕ) (op : Op) (blocks : ℕ) →
    (CHUNK_BYTES * (chunk + 1) < moved_bytes op → P (Moving (chunk + 1))) → (moved_bytes op ≤ CHUNK_BYTES * (chunk + 1) → P (Ended Good)) →
    ((sense : Sense) → P (Ended (Check sense))) → P (progress_after unit chunk (work_of op blocks))
after_chunk P unit chunk op blocks more last check =
    after_work P unit chunk (work_of op blocks) (IsGivenAtOnce-work_of op blocks) (λ is. more (omega (arith, work_bytes-work_of op blocks)))
    (λ is. last (omega (arith, work_bytes-work_of op blocks))) check

pub HasChunk-after : (unit : BlockMaps) (chunk : ℕ) (op : Op) (blocks : ℕ) → op_fault op unit.count ≡ None →
    HasChunk unit.count op (progress_after unit chunk (work_of op blocks))
HasChunk-after unit chunk op blocks none = after_chunk (HasChunk unit.count op) unit chunk op blocks (λ more. (more, none)) (λ last. tt) (λ sense. tt)

-- A CHUNK THAT IS GIVEN OR TAKEN

moved_next : (bytes chunk : ℕ) → chunk_moved (next_progress bytes chunk) ≡ true
moved_next bytes chunk = elim (nat_lt (CHUNK_BYTES * (chunk + 1)) bytes) as (λ b. chunk_moved (cond b (Moving (chunk + 1)) (Ended Good)) ≡ true) [
  | true ↦ refl
  | false ↦ refl
]

-- blocks are moved where none of them is bad
moved_blocks : (unit : BlockMaps) (lba count chunk : ℕ) (sense : Sense) →
    chunk_moved (progress_after_blocks unit lba count chunk sense) ≡ not (meets_bad_chunk unit lba count chunk)
moved_blocks unit lba count chunk sense =
    elim (meets_bad_chunk unit lba count chunk) as (λ b. chunk_moved (cond b (Ended (Check sense)) (next_progress (BLOCK_BYTES * count) chunk)) ≡ not b) [
      | true ↦ refl
      | false ↦ moved_next (BLOCK_BYTES * count) chunk
    ]

given_blocks : (unit : BlockMaps) (lba count chunk : ℕ) → not (meets_bad_chunk unit lba count chunk) ≡ is_some (chunk_given unit chunk (Reads lba count))
given_blocks unit lba count chunk =
    elim (meets_bad_chunk unit lba count chunk) as
    (λ b. not b ≡ is_some {T = List ℕ} (cond b None (Some (blocks_read unit (lba + CHUNK_BLOCKS * chunk) (chunk_blocks count chunk))))) [
      | true ↦ refl
      | false ↦ refl
    ]

-- a chunk to the host changes no block, and met no bad one where it gives bytes
pub record IsGiven (unit : BlockMaps) (chunk : ℕ) (work : Work) : Type 0 where
  pub unit_same : (bytes : List ℕ) → unit_taken unit bytes chunk work ≡ unit
  pub moved : chunk_moved (progress_after unit chunk work) ≡ is_some (chunk_given unit chunk work)

pub chunk_to_host : (unit : BlockMaps) (chunk : ℕ) (work : Work) → work_direction work ≡ ToHost → IsGiven unit chunk work
chunk_to_host unit chunk Nothing way = let no : NoWay ≡ ToHost = way in let it : ⊥ = cc in absurd it
chunk_to_host unit chunk (Gives bytes) way = record { unit_same = λ bytes. refl; moved = refl }
chunk_to_host unit chunk (Reads lba count) way = record {
  unit_same = λ bytes. refl;
  moved = moved_blocks unit lba count chunk unrecovered_read_error ∙ given_blocks unit lba count chunk;
}
chunk_to_host unit chunk (Writes lba count through) way = let no : ToDevice ≡ ToHost = way in let it : ⊥ = cc in absurd it
chunk_to_host unit chunk (Synchronizes lba count) way = let no : NoWay ≡ ToHost = way in let it : ⊥ = cc in absurd it

pub chunk_moved-given : (unit : BlockMaps) (chunk : ℕ) (work : Work) → work_direction work ≡ ToHost →
    chunk_moved (progress_after unit chunk work) ≡ is_some (chunk_given unit chunk work)
chunk_moved-given unit chunk work way = (chunk_to_host unit chunk work way).moved

-- a chunk to the device gives nothing, and met no bad block where it fits
pub record IsTaken (unit : BlockMaps) (chunk : ℕ) (work : Work) : Type 0 where
  pub none : chunk_given unit chunk work ≡ None
  pub moved : chunk_moved (progress_after unit chunk work) ≡ chunk_fits unit chunk work

pub chunk_to_device : (unit : BlockMaps) (chunk : ℕ) (work : Work) → work_direction work ≡ ToDevice → IsTaken unit chunk work
chunk_to_device unit chunk Nothing way = let no : NoWay ≡ ToDevice = way in let it : ⊥ = cc in absurd it
chunk_to_device unit chunk (Gives bytes) way = let no : ToHost ≡ ToDevice = way in let it : ⊥ = cc in absurd it
chunk_to_device unit chunk (Reads lba count) way = let no : ToHost ≡ ToDevice = way in let it : ⊥ = cc in absurd it
chunk_to_device unit chunk (Writes lba count through) way = record { none = refl; moved = moved_blocks unit lba count chunk write_error }
chunk_to_device unit chunk (Synchronizes lba count) way = let no : NoWay ≡ ToDevice = way in let it : ⊥ = cc in absurd it

pub chunk_moved-fits : (unit : BlockMaps) (chunk : ℕ) (work : Work) → work_direction work ≡ ToDevice →
    chunk_moved (progress_after unit chunk work) ≡ chunk_fits unit chunk work
chunk_moved-fits unit chunk work way = (chunk_to_device unit chunk work way).moved
