use Rattle.std.proofs.Common.{◌≡◌, ◌++◌, drop}
use Rattle.std.specs.Prelude.{flat_map}
use Rattle.line_objects.specs.Objects.{byte_text}
use Rattle.line_objects.proofs.values.push_escaped.Given as goal

-- the bytes that are left bring now what all of them brought at first
abbrev pub invariant-loop-byte : goal.invariant-loop-byte
invariant-loop-byte l = l.fn.text.items ++ flat_map byte_text l.bytes ≡ l.text.items ++ flat_map byte_text (drop l.byte-index l.bytes)
