use Rattle.std.proofs.Common.{◌*◌, ◌≤◌, arith, subst, ◌∙◌}
use Rattle.uas_profile.specs.declared.TheConstants.{STREAMS}
use Rattle.bus_core.specs.World.{world_of}
use Rattle.bus_core.proofs.common.Stepped.{IsOpened, opened}
use Rattle.bus_core.proofs.common.WholeSteps.{opening-after}
use Rattle.bus_core.proofs.RingBus.with_tags.Goals as goal
use Rattle.bus_core.proofs.RingBus.with_tags.Goals.{After-new-3}

-- what was made reads as the opening state
made : (c : After-new-3) → IsOpened c.args.tags c.args.units.items
    (world_of c.in_ok-host.host c.new-3.result c.in_ok-target.target c.in_ok-lines.lines c.in_ok-frames.frames)
made c =
    opened c.args.tags c.args.units.items c.len.result c.in_ok-host.host c.new-3.result c.in_ok-target.target c.in_ok-lines.lines c.in_ok-frames.frames
    (omega (arith, c.args.units.ok.0, c.requires.some)) (omega (arith, c.args.units.ok.0, c.requires.most))
    (subst (λ n. n * c.args.tags ≤ STREAMS) c.args.units.ok.0 c.requires.streams) (c.len.ensures ∙ c.args.units.ok.0)
    c.in_ok-host.ensures c.new-3.ensures c.in_ok-target.ensures c.in_ok-frames.ensures c.in_ok-lines.ensures c.stand.ensures.host c.stand.ensures.lines
    c.stand.ensures.frames

pub invariant_of-result : goal.invariant_of-result
invariant_of-result c = (made (goal.at.invariant_of-result c).After-new-3).fits

pub returns-clause-opening : goal.returns-clause-opening
returns-clause-opening c = (made (goal.at.returns-clause-opening c).After-new-3).opens

pub returns-clause-world : goal.returns-clause-world
returns-clause-world c =
    opening-after c.args.tags c.args.units.items c.len.result c.in_ok-host.host c.new-3.result c.in_ok-target.target c.in_ok-lines.lines c.in_ok-frames.frames
    (c.len.ensures ∙ c.args.units.ok.0) c.in_ok-host.ensures c.new-3.ensures c.in_ok-target.ensures c.in_ok-frames.ensures
