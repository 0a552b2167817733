use Rattle.std.proofs.Common.{◌≡◌, rules, subst}
use Rattle.log_text.specs.Text.{IsWithin, Saved}
use Rattle.log_text.proofs.migration.copied.Goals as goal

pub invariant_of-result : goal.invariant_of-result
invariant_of-result c =
    let log : Saved = record { version = c.log.inside.version; units = c.log.inside.units; steps = c.log.inside.steps; replies = c.log.inside.replies } in
    let copy : Saved = record { version = c.log.inside.version; units = c.from_vec.result; steps = c.from_vec-2.result; replies = c.from_vec-3.result } in
    let same : log ≡ copy = search rules in
    subst IsWithin same c.log.invariant
