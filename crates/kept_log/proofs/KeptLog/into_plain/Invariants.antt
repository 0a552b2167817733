use Rattle.std.proofs.Common.{◌≡◌}
use Rattle.kept_log.specs.Saved.{acted_steps, given_replies}
use Rattle.kept_log.proofs.KeptLog.into_plain.Given as goal

abbrev pub invariant-loop-entry : goal.invariant-loop-entry
invariant-loop-entry l = record { steps : l.steps.items ≡ acted_steps l.yielded; replies : l.replies.items ≡ given_replies l.yielded }
