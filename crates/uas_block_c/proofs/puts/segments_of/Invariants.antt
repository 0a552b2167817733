use Rattle.std.proofs.Common.{◌≡◌, length, map, take}
use Rattle.uas_block_c.specs.Puts.{segment_of}
use Rattle.uas_block_c.proofs.puts.segments_of.Given as goal

-- there is room for all, and at its front are the segments so far
abbrev pub invariant-loop-i : goal.invariant-loop-i
invariant-loop-i l = (length l.lent ≡ 127) × (take l.i l.lent ≡ map segment_of (take l.i l.segments))
