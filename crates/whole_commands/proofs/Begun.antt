-- How an operation begins that doesn't synchronize, and what its range is. Cited by Reading and Writing.
use Rattle.std.proofs.Common.{◌≡◌, ℕ, ◌+◌, ◌<◌, ◌≤◌, Bool, true, false, ◌&&◌, cond, Some, None, Result, Ok, refl, arith, sym, subst}
use Rattle.std.specs.Prelude.{nat_lt, nat_le, ◌==◌, ◌||◌}
use Rattle.std.proofs.lemmas.Bool.{eqb-true, eqb-false, ltb-false, or_parts}
use Rattle.std.proofs.lemmas.Option.{none-some}
use Rattle.block_unit.specs.BlockMaps.{BlockMaps, with_attention}
use Rattle.scsi_cmd.specs.declared.Op.{Op}
use Rattle.scsi_cmd.specs.declared.Sense.{Sense}
use Rattle.scsi_cmd.specs.Laws.{checked-none, checked-some, work_bytes-work_of}
use Rattle.scsi_cmd.specs.Meaning.{checked, op_fault, range_fault, transfer_fault}
use Rattle.scsi_cmd.specs.Op.{moved_bytes}
use Rattle.scsi_cmd.specs.Sense.{invalid_field_in_cdb, out_of_range, reset_occurred}
use Rattle.scsi_cmd.specs.Work.{checked_work, work_asked, work_bytes, work_of}
use Rattle.uas_profile.specs.declared.TheConstants.{MOST_BLOCKS_MOVED}
use Rattle.device_server.specs.declared.Answer.TheVariants.{Good, Check}
use Rattle.device_server.specs.declared.Progress.{Progress}
use Rattle.device_server.specs.declared.Progress.TheVariants.{Moving, Ended}
use Rattle.device_server.specs.Server.{begun, first_progress, progress_asked, synchronized, unit_asked}

-- What is so of every beginning: an attention that ends it, a fault, nothing to move, or the first chunk.
pub record HoldsOfBeginnings (P : BlockMaps × Progress → Type 0) (unit : BlockMaps) (op : Op) : Type 0 where
  pub attention : P (with_attention unit false, Ended (Check reset_occurred))
  pub fault : (sense : Sense) → P (unit, Ended (Check sense))
  pub nothing : moved_bytes op ≡ 0 → op_fault op unit.count ≡ None → P (unit, Ended Good)
  pub first : 0 < moved_bytes op → op_fault op unit.count ≡ None → P (unit, Moving 0)

-- a work that doesn't synchronize begins on the unit as it is
asked-so : (P : BlockMaps × Progress → Type 0) (unit : BlockMaps) (op : Op) → synchronized unit (work_of op unit.count) ≡ unit →
    HoldsOfBeginnings P unit op → P (unit_asked unit (checked_work op unit.count), progress_asked (checked_work op unit.count))
asked-so P unit op still holds =
    elim (op_fault op unit.count) as (λ fault. op_fault op unit.count ≡ fault →
    P (unit_asked unit (checked_work op unit.count), progress_asked (checked_work op unit.count))) [
      | None ↦ λ none.
          let found : P (unit, first_progress (moved_bytes op)) =
          elim (moved_bytes op == 0) as (λ b. (moved_bytes op == 0) ≡ b → P (unit, cond b (Ended Good) (Moving 0))) [
            | true ↦ λ empty. holds.nothing (eqb-true (moved_bytes op) 0 empty) none
            | false ↦ λ some. let apart : moved_bytes op ≡ 0 → ⊥ = eqb-false (moved_bytes op) 0 some in holds.first (omega arith) none
          ] refl in
          let asks : checked op unit.count ≡ Ok op = checked-none op unit.count none in
          subst (λ (asked : Result Op Sense). P (unit_asked unit (work_asked unit.count asked), progress_asked (work_asked unit.count asked))) (sym asks)
          (subst (λ now. P (now, first_progress (work_bytes (work_of op unit.count)))) (sym still)
          (subst (λ n. P (unit, first_progress n)) (sym (work_bytes-work_of op unit.count)) found))
      | Some sense ↦ λ some.
          subst (λ (asked : Result Op Sense). P (unit_asked unit (work_asked unit.count asked), progress_asked (work_asked unit.count asked)))
          (sym (checked-some op unit.count sense some)) (holds.fault sense)
    ] refl

pub begun-so : (P : BlockMaps × Progress → Type 0) (unit : BlockMaps) (reports : Bool) (op : Op) → synchronized unit (work_of op unit.count) ≡ unit →
    HoldsOfBeginnings P unit op → P (begun unit reports (checked_work op unit.count))
begun-so P unit reports op still holds =
    elim (reports && unit.attention) as (λ b.
    P (cond {A = BlockMaps × Progress} b (with_attention unit false, Ended (Check reset_occurred))
    (unit_asked unit (checked_work op unit.count), progress_asked (checked_work op unit.count)))) [
      | true ↦ holds.attention
      | false ↦ asked-so P unit op still holds
    ]

-- blocks without a fault are on the unit
range-fits : (lba count blocks : ℕ) → range_fault lba count blocks ≡ None → lba + count ≤ blocks
range-fits lba count blocks = elim (nat_le blocks lba || nat_lt blocks (lba + count)) as
    (λ b. (nat_le blocks lba || nat_lt blocks (lba + count)) ≡ b → cond b (Some out_of_range) None ≡ None → lba + count ≤ blocks) [
      | true ↦ λ is none. absurd (none-some out_of_range (sym none))
      | false ↦ λ is none. ltb-false blocks (lba + count) (or_parts _ _ is).1
    ] refl

pub transfer-fits : (lba count blocks : ℕ) → transfer_fault lba count blocks ≡ None → lba + count ≤ blocks
transfer-fits lba count blocks = elim (nat_lt MOST_BLOCKS_MOVED count) as
    (λ b. cond b (Some invalid_field_in_cdb) (range_fault lba count blocks) ≡ None → lba + count ≤ blocks) [
      | true ↦ λ none. absurd (none-some invalid_field_in_cdb (sym none))
      | false ↦ range-fits lba count blocks
    ]
