use Rattle.std.proofs.Common.{◌≡◌, ℕ, ◌||◌, List, ◌++◌, drop}
use Rattle.uas_decode.specs.Runs.{decoded_from, refused_from}
use Rattle.uas_decode.proofs.run.Lines.take.Given as goal

-- the bytes that are left do to the lines now what all of them did at first
abbrev pub invariant-loop-byte : goal.invariant-loop-byte
invariant-loop-byte l = record {
  text : (rest : List ℕ) → l.fn.self.text.items ++ decoded_from l.fn.self.line.items (l.bytes ++ rest)
      ≡ l.self.text.items ++ decoded_from l.self.line.items (drop l.byte-index l.bytes ++ rest);
  refused : (rest : List ℕ) → (l.fn.self.refused || refused_from l.fn.self.line.items (l.bytes ++ rest))
      ≡ (l.self.refused || refused_from l.self.line.items (drop l.byte-index l.bytes ++ rest));
}
