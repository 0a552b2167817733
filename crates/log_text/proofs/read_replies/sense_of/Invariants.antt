use Rattle.std.proofs.Common.{◌≡◌, take}
use Rattle.log_text.proofs.read_replies.sense_of.Given as goal

abbrev pub invariant-loop-byte : goal.invariant-loop-byte
invariant-loop-byte l = l.sense.items ≡ take l.byte-index l.bytes
