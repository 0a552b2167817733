use Rattle.std.proofs.Common.{◌≡◌, ℕ, List, ◌++◌, drop}
use Rattle.line_objects.specs.Objects.{objects_from}
use Rattle.line_objects.proofs.telling.Teller.take.Given as goal

-- the bytes that are left do now what all of them did at first
abbrev pub invariant-loop-byte : goal.invariant-loop-byte
invariant-loop-byte l = record {
  form : l.self.form ≡ l.fn.self.form;
  text : (rest : List ℕ) → l.fn.self.text.items ++ objects_from l.fn.self.form l.fn.self.line.items (l.bytes ++ rest)
      ≡ l.self.text.items ++ objects_from l.fn.self.form l.self.line.items (drop l.byte-index l.bytes ++ rest);
}
