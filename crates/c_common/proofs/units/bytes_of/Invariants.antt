use Rattle.std.proofs.Common.{◌≡◌, ◌*◌, ◌^◌, ◌≤◌, take}
use Rattle.std.specs.Prelude.{sum}
use Rattle.c_common.proofs.units.bytes_of.Given as goal

abbrev pub invariant-loop-count : goal.invariant-loop-count
invariant-loop-count l = (l.bytes ≡ 512 * sum (take l.count-index l.blocks)) × (l.bytes ≤ 2 ^ 41 * l.count-index)
