use Rattle.std.proofs.Common.{◌≡◌, ℕ, map, take}
use Rattle.std.proofs.Math.Dec.{eqb}
use Rattle.std.specs.List.{list_any}
use Rattle.uas_profile.specs.Doors.{stream_in}
use Rattle.marks.specs.Marks.{is_marked}
use Rattle.shared_machine.proofs.doorbells.Doorbells.resumed.Given as goal

-- the streams of the values so far are marked, and no other
abbrev pub invariant-loop-value : goal.invariant-loop-value
invariant-loop-value l = (stream : ℕ) → is_marked l.streams stream ≡ list_any (eqb stream) (map stream_in (take l.value-index l.values))
