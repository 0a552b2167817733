-- What keeps the number of blocks of a unit.
use Rattle.std.proofs.Common.{◌≡◌, ℕ, zero, suc, List, [], ◌∷◌, Option, Some, None, map, take, drop, length, ◌++◌, ◌≤◌, slice_set, true, refl, ap, ◌∙◌}
use Rattle.std.proofs.lemmas.List.{append-nil, take_all, drop_all}
use Rattle.std.proofs.Math.Seq.{map-set_same}
use Rattle.std.specs.Prelude.{slice_index_or, slice_get, option_map}
use Rattle.block_unit.specs.BlockMaps.{BlockMaps, with_attention}
use Rattle.block_unit.specs.Laws.{written-count}
use Rattle.uas_target.specs.Soundness.{counts_of}

pub ruleset counts = (written-count)

-- a unit of as many blocks may stand in the place of another
pub counts_of-set : (units : List BlockMaps) (number : ℕ) (before after : BlockMaps) → after.count ≡ (slice_index_or units number before).count →
    counts_of (slice_set units number after) ≡ counts_of units
counts_of-set units number before after same = map-set_same (λ unit. unit.count) units number after before same

-- units with an attention have as many blocks
pub counts_of-attention : (units : List BlockMaps) → counts_of (map (λ unit. with_attention unit true) units) ≡ counts_of units
unfolding with_attention
counts_of-attention [] = refl
counts_of-attention (unit ∷ units) = ap (λ rest. unit.count ∷ rest) (counts_of-attention units)

-- so many units changed, of which there are no more
pub map-all : (f : BlockMaps → BlockMaps) (units now : List BlockMaps) (many : ℕ) → now ≡ map f (take many units) ++ drop many units →
    length units ≤ many → now ≡ map f units
map-all f units now many is all =
    is ∙ ap (λ front. map f front ++ drop many units) (take_all many units all) ∙ ap (λ rest. map f units ++ rest) (drop_all many units all)
    ∙ append-nil (map f units)

-- how many blocks a unit has is counted under its number
pub slice_get-counts_of : (units : List BlockMaps) (number : ℕ) (unit : BlockMaps) → slice_get units number ≡ Some unit →
    slice_get (counts_of units) number ≡ Some unit.count
slice_get-counts_of [] number unit is = let no : ◌≡◌ {A = Option BlockMaps} None (Some unit) = is in cc
slice_get-counts_of (first ∷ units) zero unit is = ap (option_map (λ (u : BlockMaps). u.count)) is
slice_get-counts_of (first ∷ units) (suc number) unit is = slice_get-counts_of units number unit is
