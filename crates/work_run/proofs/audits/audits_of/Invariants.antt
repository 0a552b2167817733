use Rattle.std.proofs.Common.{◌≡◌, ℕ, ◌<◌, false, [], get_or, length}
use Rattle.work_run.specs.Audits.{IsToldOf}
use Rattle.work_run.proofs.audits.audits_of.Given as goal

abbrev pub invariant-loop-client : goal.invariant-loop-client
invariant-loop-client l = record {
  many : length l.audits.items ≡ l.client;
  each : (k : ℕ) → k < l.client → IsToldOf l.log l.depth l.rounds k (get_or l.replies k []) (get_or l.audits.items k false);
}
