-- A new bus has a part for each unit.
use Rattle.std.proofs.Common.{◌≡◌, ℕ, suc, List, [], ◌∷◌, length, refl, ap}
use Rattle.block_unit.specs.BlockMaps.{BlockMaps}
use Rattle.shared_machine.specs.Shared.{new_parts}

pub length-new_parts : (number : ℕ) (units : List BlockMaps) → length (new_parts number units) ≡ length units
length-new_parts number [] = refl
length-new_parts number (unit ∷ units) = ap suc (length-new_parts (suc number) units)
