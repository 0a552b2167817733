use Rattle.std.proofs.Common.{◌≡◌, ℕ, List, ◌++◌, drop}
use Rattle.line_colours.specs.Colours.{coloured_from}
use Rattle.line_colours.proofs.colouring.Painter.take.Given as goal

-- the bytes that are left do now what all of them did at first
abbrev pub invariant-loop-byte : goal.invariant-loop-byte
invariant-loop-byte l = (rest : List ℕ) → l.fn.self.text.items ++ coloured_from l.fn.self.line.items (l.bytes ++ rest)
    ≡ l.self.text.items ++ coloured_from l.self.line.items (drop l.byte-index l.bytes ++ rest)
