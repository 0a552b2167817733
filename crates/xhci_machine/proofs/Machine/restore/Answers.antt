use Rattle.std.proofs.Common.{◌≡◌, ◌≤◌, rules, length, map, ap, subst, sym, ◌∙◌}
use Rattle.std.proofs.lemmas.List.{length-map}
use Rattle.uas_profile.specs.declared.TheConstants.{MAX_UNITS}
use Rattle.uas_tasks.specs.declared.LogicalUnit.{LogicalUnit}
use Rattle.uas_tasks.specs.Soundness.{shapes_of}
use Rattle.xhci_machine.proofs.Machine.restore.Goals as goal

-- as many shapes as there are logical units
pub load-requires-clause-units : goal.load-requires-clause-units
load-requires-clause-units c =
    let units = c.args.self.now.device.tasks.units in
    let same : c.as_slice.result.now ≡ shapes_of units = search rules in
    let most : length units ≤ MAX_UNITS = search rules in
    subst (λ n. n ≤ MAX_UNITS) (sym (ap length same ∙ length-map units (λ (unit : LogicalUnit). unit.shape))) most
