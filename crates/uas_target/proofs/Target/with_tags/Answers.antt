use Rattle.uas_target.proofs.Sound.{opening_sound}
use Rattle.uas_target.proofs.Target.with_tags.Goals as goal

pub invariant_of-result : goal.invariant_of-result
invariant_of-result c =
    rw c.in_ok-new.ensures.tasks
    (opening_sound c.args.units.items c.args.units.len c.args.tags c.args.units.ok.0 c.requires.some c.requires.most c.requires.tags)
