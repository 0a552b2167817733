use Rattle.std.proofs.Common.{◌≡◌, []}
use Rattle.std.specs.Prelude.{replicate}
use Rattle.uas_replay.proofs.replay.opening.opening_notes.Given as goal

abbrev pub invariant-loop : goal.invariant-loop
invariant-loop l = l.notes.items ≡ replicate l.counter []
