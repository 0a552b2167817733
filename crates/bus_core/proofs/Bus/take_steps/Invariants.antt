use Rattle.std.proofs.Common.{◌≡◌, ◌++◌, ◌+◌, ◌≤◌, vec_len, vec_capacity}
use Rattle.std.specs.Vec.Iter.{into_iter_items, into_iter_len}
use Rattle.shared_machine.specs.Bus.{AllTicketed}
use Rattle.shared_machine.specs.Replay.{replayed}
use Rattle.bus_core.proofs.Bus.take_steps.Given as goal

-- the outcomes so far, and those of the steps that are left
abbrev pub invariant-loop-step : goal.invariant-loop-step
invariant-loop-step l = record {
  after : (replayed l.self (into_iter_items l.rest)).0 ≡ (replayed l.initial.self (into_iter_items l.initial.rest)).0;
  outcomes : l.outcomes.items ++ (replayed l.self (into_iter_items l.rest)).1 ≡ (replayed l.initial.self (into_iter_items l.initial.rest)).1;
  ticketed : AllTicketed (into_iter_items l.rest);
  room : vec_len l.outcomes + into_iter_len l.rest ≤ vec_capacity l.outcomes;
}

abbrev pub decreases-loop-step : goal.decreases-loop-step
decreases-loop-step l = into_iter_len l.rest
