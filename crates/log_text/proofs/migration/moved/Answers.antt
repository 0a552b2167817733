use Rattle.std.proofs.Common.{◌≡◌, ◌≤◌, length, rules, subst}
use Rattle.log_text.specs.declared.Version.TheVariants.{Second}
use Rattle.log_text.specs.Migration.{moved_log}
use Rattle.log_text.specs.Text.{IsWithin, Saved}
use Rattle.log_text.proofs.Migrated.{moved_within}
use Rattle.log_text.proofs.migration.moved.Goals as goal

pub invariant_of-result : goal.invariant_of-result
invariant_of-result c =
    let log : Saved = record { version = c.log.inside.version; units = c.log.inside.units; steps = c.log.inside.steps; replies = c.log.inside.replies } in
    let new : Saved = record { version = Second; units = c.from_vec.result; steps = c.from_vec-2.result; replies = c.from_vec-3.result } in
    let same : moved_log log ≡ new = search rules in
    let few : length log.units ≤ 15 = search rules in
    subst IsWithin same (moved_within log few c.log.invariant)
