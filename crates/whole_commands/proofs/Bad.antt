-- Which blocks are bad, chunk after chunk. Cited by Reading and Writing.
use Rattle.std.proofs.Common.{◌≡◌, ℕ, suc, ◌+◌, ◌*◌, ◌<◌, ◌≤◌, true, false, List, [], ◌∷◌, refl, arith, sym, ◌∙◌, inl, inr}
use Rattle.std.specs.List.{list_any}
use Rattle.std.proofs.lemmas.Bool.{cases_Bool, cases_lt, and_from, and_parts, le-leb, leb-true, lt-ltb, ltb-true, or_from, or_parts, true≢false}
use Rattle.block_unit.specs.BlockMaps.{BlockMaps, covers, meets_bad}
use Rattle.device_server.specs.Server.{chunk_blocks, meets_bad_chunk}
use Rattle.uas_profile.specs.declared.TheConstants.{CHUNK_BLOCKS}
use Rattle.whole_commands.specs.transfers.Transfers.{blocks_in}

-- a block of these and those is one of these or one of those
covers-either : (lba few more block : ℕ) → covers lba few block ≡ false → covers (lba + few) more block ≡ false → covers lba (few + more) block ≡ false
unfolding covers
covers-either lba few more block these those = elim (cases_Bool (covers lba (few + more) block)) [
  | inr outside ↦ outside
  | inl inside ↦
      let parts : (_ ≡ true) × (_ ≡ true) = and_parts _ _ inside in
      let low : lba ≤ block = leb-true lba block parts.0 in
      let high : block < lba + (few + more) = ltb-true block (lba + (few + more)) parts.1 in
      elim (cases_lt block (lba + few)) [
        | inl first ↦ absurd (true≢false (sym (and_from _ _ (le-leb lba block low) (lt-ltb block (lba + few) first)) ∙ these))
        | inr second ↦ absurd (true≢false (sym (and_from _ _ (le-leb (lba + few) block second) (lt-ltb block (lba + few + more) (omega (arith, high)))) ∙ those))
      ]
]

covers-neither : (lba few more : ℕ) (bad : List ℕ) → list_any (covers lba few) bad ≡ false → list_any (covers (lba + few) more) bad ≡ false →
    list_any (covers lba (few + more)) bad ≡ false
covers-neither lba few more [] these those = refl
covers-neither lba few more (block ∷ bad) these those =
    let first : (covers lba few block ≡ false) × (list_any (covers lba few) bad ≡ false) = or_parts (covers lba few block) (list_any (covers lba few) bad) these in
    let second : (covers (lba + few) more block ≡ false) × (list_any (covers (lba + few) more) bad ≡ false) =
    or_parts (covers (lba + few) more block) (list_any (covers (lba + few) more) bad) those in
    or_from (covers lba (few + more) block) (list_any (covers lba (few + more)) bad)
    (covers-either lba few more block first.0 second.0) (covers-neither lba few more bad first.1 second.1)

-- no blocks meet a bad one
covers-none : (from block : ℕ) → covers from 0 block ≡ false
unfolding covers
covers-none from block = elim (cases_Bool (covers from 0 block)) [
  | inl inside ↦ absurd (omega (arith, leb-true from block (and_parts _ _ inside).0, ltb-true block (from + 0) (and_parts _ _ inside).1))
  | inr outside ↦ outside
]

pub meets_bad-no_blocks : (unit : BlockMaps) (from count : ℕ) → meets_bad unit from (blocks_in count 0) ≡ false
unfolding meets_bad
meets_bad-no_blocks unit from count = none-of unit.bad
  where
    none-of : (bad : List ℕ) → list_any (covers from (blocks_in count 0)) bad ≡ false
    none-of [] = refl
    none-of (block ∷ bad) =
        let nothing : blocks_in count 0 ≡ 0 = omega arith in
        or_from (covers from (blocks_in count 0) block) (list_any (covers from (blocks_in count 0)) bad) (rw nothing (covers-none from block)) (none-of bad)

-- one more chunk
pub meets_bad-next : (unit : BlockMaps) (lba count chunk : ℕ) → CHUNK_BLOCKS * chunk < count → meets_bad unit lba (blocks_in count chunk) ≡ false →
    meets_bad_chunk unit lba count chunk ≡ false → meets_bad unit lba (blocks_in count (suc chunk)) ≡ false
unfolding meets_bad
meets_bad-next unit lba count chunk inside before here =
    let few : blocks_in count chunk ≡ CHUNK_BLOCKS * chunk = omega (arith, inside) in
    let all : blocks_in count (suc chunk) ≡ CHUNK_BLOCKS * chunk + chunk_blocks count chunk = omega (arith, inside) in
    rw all (covers-neither lba (CHUNK_BLOCKS * chunk) (chunk_blocks count chunk) unit.bad (rw (← few) before) here)
