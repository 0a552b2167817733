use Rattle.std.proofs.Common.{ap, sym, ◌∙◌}
use Rattle.std.specs.Option.{option_copied}
use Rattle.uas_target.proofs.Sound.{held_left}
use Rattle.uas_target.proofs.Target.wants.Goals as goal

pub wants-requires : goal.wants-requires
wants-requires c = record {
  left =
      held_left c.self.inside.units.items c.self.inside.tasks c.args.tag c.in-Some.kept.now c.self.invariant
      (sym c.kept.ensures.task ∙ ap option_copied c.in-Some.is);
}
