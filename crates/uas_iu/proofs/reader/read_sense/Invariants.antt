use Rattle.std.proofs.Common.{◌≡◌, take}
use Rattle.uas_iu.proofs.reader.read_sense.Given as goal

abbrev pub invariant-loop-byte : goal.invariant-loop-byte
invariant-loop-byte l = l.sense.items ≡ take l.byte-index l.byte-items
