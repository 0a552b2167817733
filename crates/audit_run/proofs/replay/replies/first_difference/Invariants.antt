use Rattle.std.proofs.Common.{◌≡◌, ◌≤◌, length, map, take}
use Rattle.log_text.specs.Kept.{with_client}
use Rattle.audit_run.proofs.replay.replies.first_difference.Given as goal

abbrev pub invariant-loop-at : goal.invariant-loop-at
invariant-loop-at l = record {
  within : l.at ≤ length l.saved;
  alike : map (with_client l.tags) (take l.at l.replayed) ≡ take l.at l.saved;
}
