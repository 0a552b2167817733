use Rattle.std.proofs.Common.{◌≡◌, take}
use Rattle.log_records.specs.checksum.Division.{with_bytes}
use Rattle.log_records.proofs.checksum.Checksum.add.Given as goal

abbrev pub invariant-loop-byte : goal.invariant-loop-byte
invariant-loop-byte l = l.self-inside.remainder ≡ with_bytes l.initial.self-inside.remainder (take l.byte-index l.bytes)
