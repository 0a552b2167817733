-- Where the numbers below the first block end in a rising list, one look tells whether the blocks meet it.
use Rattle.std.proofs.Common.{◌≡◌, ℕ, ◌+◌, ◌<◌, ◌≤◌, true, false, List, length, get_or, sym, ◌∙◌, arith, inl, inr}
use Rattle.std.proofs.Math.Dec.{ltb}
use Rattle.std.proofs.lemmas.Bool.{cases_lt, cases_Bool, and_from, and_left, and_right, le-leb, lt-leb, le-ltb, ltb-true, ltb-false}
use Rattle.std.proofs.lemmas.List.Elements.{All-from_get_or}
use Rattle.std.proofs.lemmas.List.Folds.{list_any_at, list_any_none}
use Rattle.std.specs.List.{list_any}
use Rattle.std.proofs.lemmas.List.Sorted.{IsPartitionedBy-ltb}
use Rattle.std.proofs.lemmas.Map.Keys.{non_decreasing_from_sorted, sorted_from_strictly_increasing}
use Rattle.std.specs.List.Sorted.{IsNonDecreasing, IsPartitionPoint, IsPartitionedBy, IsStrictlyIncreasing}
use Rattle.block_unit.specs.BlockMaps.{covers}

-- numbers that rise, each once, have those below the first block in front
pub rising_numbers : (numbers bad : List ℕ) (lba : ℕ) → numbers ≡ bad → IsStrictlyIncreasing bad
    → IsNonDecreasing numbers × IsPartitionedBy (λ block. ltb block lba) numbers
rising_numbers numbers bad lba same rising =
    let rises : IsNonDecreasing numbers = rw same (non_decreasing_from_sorted _ (sorted_from_strictly_increasing _ rising)) in
    (rises, IsPartitionedBy-ltb (λ n. n) numbers lba rises)

module _ (bad : List ℕ) (lba many next : ℕ) (point : IsPartitionPoint (λ block. ltb block lba ≡ true) (λ block. ltb block lba ≡ false) bad next) where
  -- the numbers before the point are too small
  covers-before : (i : ℕ) → i < next → covers lba many (get_or bad i 0) ≡ false
  unfolding covers
  covers-before i before =
      let small : get_or bad i 0 < lba = ltb-true _ _ (point.0 i 0 (omega arith) before) in
      and_left _ _ (lt-leb lba (get_or bad i 0) small)

  pub list_any-covers_past : length bad ≤ next → list_any (covers lba many) bad ≡ false
  list_any-covers_past past =
      list_any_none (covers lba many) bad (All-from_get_or (λ block. covers lba many block ≡ false) bad 0 (λ i within. covers-before i (omega arith)))

  pub list_any-covers_at : IsNonDecreasing bad → next < length bad → list_any (covers lba many) bad ≡ ltb (get_or bad next 0) (lba + many)
  unfolding covers
  list_any-covers_at rises within =
      let from : lba ≤ get_or bad next 0 = ltb-false _ _ (point.1 next 0 (omega arith) within) in
      elim (cases_Bool (ltb (get_or bad next 0) (lba + many))) [
        | inl among ↦ list_any_at (covers lba many) bad next 0 within (and_from _ _ (le-leb lba (get_or bad next 0) from) among) ∙ sym among
        | inr beyond ↦
            let end : lba + many ≤ get_or bad next 0 = ltb-false _ _ beyond in
            list_any_none (covers lba many) bad (All-from_get_or (λ block. covers lba many block ≡ false) bad 0 (λ i inside. elim (cases_lt i next) [
              | inl before ↦ covers-before i before
              | inr after ↦
                  let later : get_or bad next 0 ≤ get_or bad i 0 = rises next i 0 after inside in
                  and_right _ _ (le-ltb (get_or bad i 0) (lba + many) (omega arith))
            ])) ∙ sym beyond
      ]
