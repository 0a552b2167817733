-- What lines come to is 0 or 1.
use Rattle.std.proofs.Common.{◌≤◌, ℕ, Bool, true, false, if◌then◌else◌, List, arith}
use Rattle.block_unit.specs.BlockMaps.{BlockMaps}
use Rattle.uas_script.specs.declared.Line.{Line}
use Rattle.uas_replay.specs.Told.{told, whole_run}

bit-most : (failed : Bool) → (if failed then 1 else 0) ≤ 1
bit-most true = omega arith
bit-most false = omega arith

pub told-most : (tags : ℕ) (units : List BlockMaps) (lines : List Line) → (told tags units lines).1 ≤ 1
unfolding told
told-most tags units lines = bit-most (whole_run tags units lines).failed
