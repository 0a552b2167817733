use Rattle.std.proofs.Common.{◌≡◌, ℕ, ◌<◌}
use Rattle.std.specs.Prelude.{slice_index}
use Rattle.std.specs.Int.{bit_at}
use Rattle.marks.proofs.Marks.is_empty.Given as goal

-- no bit of the words so far is set
abbrev pub invariant-loop-word : goal.invariant-loop-word
invariant-loop-word g l = (k bit : ℕ) → k < l.word-index → bit < 64 → bit_at (slice_index l.self k) bit ≡ 0
