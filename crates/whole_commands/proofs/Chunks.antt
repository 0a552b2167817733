-- Which blocks of a command are bad, chunk by chunk. Cited by ChunksRead and ChunksWritten.
use Rattle.std.proofs.Common.{◌≡◌, ℕ, suc, ◌+◌, ◌-◌, ◌*◌, ◌<◌, ◌≤◌, Bool, true, false, List, [], ◌∷◌, refl, arith, ap, sym, subst, ◌∙◌, inl, inr}
use Rattle.std.specs.Prelude.{min}
use Rattle.std.specs.List.{list_any}
use Rattle.std.proofs.lemmas.Bool.{cases_Bool, cases_lt, and_from, and_parts, le-leb, leb-true, lt-ltb, ltb-true, or_from, or_parts, true≢false}
use Rattle.block_unit.specs.BlockMaps.{BlockMaps, covers, meets_bad}
use Rattle.device_server.specs.Server.{chunk_blocks}
use Rattle.uas_profile.specs.declared.TheConstants.{CHUNK_BLOCKS}
use Rattle.whole_commands.specs.transfers.Transfers.{blocks_in}

-- where no element passes one test, none passes another that asks for more
list_any-within : (p q : ℕ → Bool) (xs : List ℕ) → ((x : ℕ) → q x ≡ true → p x ≡ true) → list_any p xs ≡ false → list_any q xs ≡ false
list_any-within p q [] within none = refl
list_any-within p q (x ∷ xs) within none =
    let parts : (p x ≡ false) × (list_any p xs ≡ false) = or_parts (p x) (list_any p xs) none in
    or_from (q x) (list_any q xs)
    (elim (cases_Bool (q x)) [
      | inl passes ↦ absurd (true≢false (sym (within x passes) ∙ parts.0))
      | inr fails ↦ fails
    ])
    (list_any-within p q xs within parts.1)

-- fewer blocks among these
pub meets_bad-within : (unit : BlockMaps) (lba many from few : ℕ) → lba ≤ from → from + few ≤ lba + many → meets_bad unit lba many ≡ false
    → meets_bad unit from few ≡ false
unfolding meets_bad covers
meets_bad-within unit lba many from few after before none =
    list_any-within (covers lba many) (covers from few) unit.bad (λ block inside.
    let parts : (_ ≡ true) × (_ ≡ true) = and_parts _ _ inside in
    and_from _ _ (le-leb lba block (omega (arith, leb-true from block parts.0))) (lt-ltb block (lba + many) (omega (arith, ltb-true block (from + few) parts.1)))) none

-- the blocks up to a chunk
pub blocks_in-suc : (count chunk : ℕ) → blocks_in count (suc chunk) ≡ blocks_in count chunk + chunk_blocks count chunk
blocks_in-suc count chunk = omega arith

-- no blocks meet a bad one
covers-none : (from x : ℕ) → covers from 0 x ≡ false
unfolding covers
covers-none from x = elim (cases_Bool (covers from 0 x)) [
  | inl inside ↦ absurd (omega (arith, leb-true from x (and_parts _ _ inside).0, ltb-true x (from + 0) (and_parts _ _ inside).1))
  | inr outside ↦ outside
]

covers-none_of : (from : ℕ) (xs : List ℕ) → list_any (covers from 0) xs ≡ false
covers-none_of from [] = refl
covers-none_of from (x ∷ xs) = or_from (covers from 0 x) (list_any (covers from 0) xs) (covers-none from x) (covers-none_of from xs)

pub meets_bad-none : (unit : BlockMaps) (from : ℕ) → meets_bad unit from 0 ≡ false
unfolding meets_bad
meets_bad-none unit from = covers-none_of from unit.bad

-- a chunk of a command of which no block up to its end is bad
pub chunk-good : (unit : BlockMaps) (lba count chunk : ℕ) → meets_bad unit lba (blocks_in count (suc chunk)) ≡ false
    → meets_bad unit (lba + CHUNK_BLOCKS * chunk) (chunk_blocks count chunk) ≡ false
chunk-good unit lba count chunk none = elim (cases_lt (CHUNK_BLOCKS * chunk) count) [
  | inl inside ↦ meets_bad-within unit lba (blocks_in count (suc chunk)) (lba + CHUNK_BLOCKS * chunk) (chunk_blocks count chunk) (omega arith) (omega arith) none
  | inr past ↦
      let nothing : chunk_blocks count chunk ≡ 0 = omega arith in
      rw nothing (meets_bad-none unit (lba + CHUNK_BLOCKS * chunk))
]

-- nor is one of those before it
pub chunks-good : (unit : BlockMaps) (lba count chunk : ℕ) → meets_bad unit lba (blocks_in count (suc chunk)) ≡ false
    → meets_bad unit lba (blocks_in count chunk) ≡ false
chunks-good unit lba count chunk none = meets_bad-within unit lba (blocks_in count (suc chunk)) lba (blocks_in count chunk) (omega arith) (omega arith) none
