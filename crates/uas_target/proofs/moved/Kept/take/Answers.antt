use Rattle.std.proofs.Common.{◌≡◌, Some, ap, sym, ◌∙◌}
use Rattle.uas_target.specs.declared.DeviceTask.TheVariants.{Moving}
use Rattle.uas_target.proofs.Counts.{counts_of-set}
use Rattle.uas_target.proofs.Sound.{left_sound}
use Rattle.uas_target.proofs.moved.Kept.take.Goals as goal

pub returns-in-Moving-Some-default-default-clause-counts : goal.returns-in-Moving-Some-default-default-clause-counts
returns-in-Moving-Some-default-default-clause-counts c =
    counts_of-set c.args.units.now c.in-Moving-Some-default-default.number c.index-units-number.result c.take_at-progress.new.unit
    c.take_at-progress.ensures.count

pub returns-in-Moving-Some-default-default-clause-sound : goal.returns-in-Moving-Some-default-default-clause-sound
returns-in-Moving-Some-default-default-clause-sound c =
    let arm = c.in-Moving-Some-default-default in
    let same =
    counts_of-set c.args.units.now arm.number c.index-units-number.result c.take_at-progress.new.unit c.take_at-progress.ensures.count
    in
    let unit_is = rw arm.is at arm.unit-is in
    let now : c.args.self.now ≡ Moving (Some arm.number) arm.op arm.chunk =
    sym c.self.view_is ∙ arm.is ∙ ap (λ unit. Moving unit arm.op arm.chunk) unit_is
    in
    rw (same, c.go_on.ensures, now, c.take_at-progress.ensures.progress)
    (left_sound c.args.units.now arm.number arm.chunk arm.op c.index-units-number.result (rw now at c.requires.sound).1)
