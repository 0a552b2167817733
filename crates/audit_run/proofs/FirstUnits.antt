-- A unit that a text tells is the unit of its image.
use Rattle.std.proofs.Common.{◌≡◌, ℕ, zero, suc, ◌+◌, ◌<◌, false, List, [], ◌∷◌, filter, length, map, refl, arith, ap, sym, ◌∙◌}
use Rattle.std.specs.Prelude.{All, slice_index_or}
use Rattle.std.specs.List.{AllByRecursion}
use Rattle.std.proofs.Math.Dec.{ltb}
use Rattle.std.proofs.lemmas.Bool.{lt-ltb}
use Rattle.block_unit.specs.BlockMaps.{BlockMaps, bad_below, block_count, imaged}
use Rattle.block_unit.proofs.Rising.{RisesFrom, RisesFrom-weaker, filter-rising}
use Rattle.uas_log.specs.declared.FirstUnit.{FirstUnit}
use Rattle.uas_log.specs.Booking.{first_maps}
use Rattle.log_text.specs.Text.{AreRising, UnitFits}
use Rattle.uas_work.specs.Booked.{IsNew}

-- numbers that rise below a limit
rises : (least limit : ℕ) (numbers : List ℕ) → AreRising least limit numbers → RisesFrom least numbers
rises least limit [] all = tt
rises least limit (number ∷ rest) all =
    (all.0, RisesFrom-weaker (suc number) (number + 1) rest (omega arith) (rises (number + 1) limit rest all.2))

-- are all below it
below-limit : (least limit : ℕ) (numbers : List ℕ) → AreRising least limit numbers → filter (λ x. ltb x limit) numbers ≡ numbers
below-limit least limit [] all = refl
below-limit least limit (number ∷ rest) all = rw (lt-ltb number limit all.1, below-limit (number + 1) limit rest all.2) refl

rising-bad : (count : ℕ) (bad : List ℕ) → AreRising 0 count bad → bad_below count bad ≡ bad
unfolding bad_below
rising-bad count bad all = sym (filter-rising 0 count count bad (omega arith) (rises 0 count bad all)) ∙ below-limit 0 count bad all

pub imaged-first : (first : FirstUnit) → UnitFits first → imaged first.blocks first.bad ≡ first_maps first
unfolding imaged
imaged-first first fits =
    ap (λ (bad : List ℕ). record { count = block_count first.blocks; blocks = first.blocks; medium = first.blocks; attention = false; bad = bad })
    (rising-bad (block_count first.blocks) first.bad fits.rising)

-- all of them are as new
new-at : (firsts : List FirstUnit) (k : ℕ) (other : BlockMaps) → k < length (map first_maps firsts) → IsNew (slice_index_or (map first_maps firsts) k other)
new-at [] k other within = absurd (omega arith)
new-at (first ∷ rest) zero other within = record { medium = refl; attention = refl }
new-at (first ∷ rest) (suc k) other within = new-at rest k other (omega arith)

pub all-new : (firsts : List FirstUnit) → All IsNew (map first_maps firsts)
all-new firsts k other within = new-at firsts k other within

-- each of them fits
pub fits-at : (firsts : List FirstUnit) (k : ℕ) (first : FirstUnit) → AllByRecursion UnitFits firsts → k < length firsts
    → first ≡ slice_index_or firsts k first → UnitFits first
fits-at [] k first all within is = absurd (omega arith)
fits-at (one ∷ rest) zero first all within is = rw is all.0
fits-at (one ∷ rest) (suc k) first all within is = fits-at rest k first all.1 (omega arith) is
