use Rattle.std.proofs.Common.{◌≡◌, ◌+◌, ◌-◌, ◌*◌, ◌^◌, ◌≤◌, ◌++◌, length}
use Rattle.kept_log.specs.Form.{head_text}
use Rattle.kept_log.specs.Parts.{HasTaken}
use Rattle.kept_log.proofs.Placed.{step_so_far}
use Rattle.kept_log.proofs.Seen.{left_over}
use Rattle.kept_log.proofs.parts.records.Given as goal

abbrev pub invariant-loop-entry : goal.invariant-loop-entry
invariant-loop-entry g l = record {
  taken : HasTaken (head_text l.tags l.units.items ++ l.fn.window.bytes) (g.S.Source.left l.fn.source) (g.S.Source.left l.source) l.tags l.units.items l.entries.items l.at l.sum l.window;
  step : l.step ≡ step_so_far l.wanted l.tags l.units.items l.entries.items;
  near : l.at ≤ 2 ^ 63 + 131308 * length l.entries.items;
  same : g.S.Source.can_fail l.source ≡ g.S.Source.can_fail l.fn.source;
  stays : g.S.Source.is_there l.source ≡ g.S.Source.is_there l.fn.source;
}

abbrev pub decreases-loop-entry : goal.decreases-loop-entry
decreases-loop-entry g l = (2 ^ 32 - length l.entries.items) * 2 ^ 66 + left_over l.window
