use Rattle.std.proofs.Common.{◌≡◌, ℕ, ◌+◌, ◌%◌, ◌<◌}
use Rattle.uas_profile.specs.declared.TheConstants.{EVENT_RING_PLACES}
use Rattle.uas_trace.specs.Written.{newest_place}
use Rattle.uas_trace.proofs.events.newest_event.Given as goal

-- the newest event stands at none of the places that were passed
abbrev pub invariant-loop-passed : goal.invariant-loop-passed
invariant-loop-passed l = (k : ℕ) → k < l.passed → (l.first + k) % EVENT_RING_PLACES ≡ newest_place l.lines.events → ⊥
