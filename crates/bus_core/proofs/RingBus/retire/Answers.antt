use Rattle.std.proofs.Common.{◌≡◌, arith, ap, length, sym, ◌∙◌}
use Rattle.uas_host.specs.Retirement.{retirement_for}
use Rattle.shared_machine.specs.declared.Step.TheVariants.{Retire}
use Rattle.bus_core.specs.Owners.{owner_of}
use Rattle.shared_machine.specs.Shared.{ringing}
use Rattle.bus_core.specs.World.{world_of}
use Rattle.bus_core.specs.WorldSteps.{rung_all}
use Rattle.bus_core.specs.Decoded.{decoded}
use Rattle.bus_core.proofs.common.BusFields.{fits-in, world_in}
use Rattle.bus_core.proofs.retire.EngineStepped.{begun-cleared, begun_as, few-begun, retire-taken}
use Rattle.bus_core.proofs.common.Taken.{IsTaken}
use Rattle.bus_core.specs.WholeStep.{retire_after}
use Rattle.bus_core.proofs.common.WholeSteps.{retire-begun}
use Rattle.bus_core.proofs.RingBus.retire.Goals as goal
use Rattle.bus_core.proofs.RingBus.retire.Goals.{After-stand, then-began, else-began}

pub single-requires : goal.single-requires
single-requires c =
    let few = few-begun (world_in c.self.inside)
    c.args.pipe c.retire-began.new.self c.retire-began.new.lines c.retire-began.new.doors.items c.retire-began.result
    (retirement_for c.self.inside.host c.args.pipe c.args.tag)
    (begun-cleared (world_in c.self.inside)
    c.args.pipe c.retire-began.new.self c.retire-began.new.lines c.clear.new.self c.retire-began.new.doors c.retire-began.result
    (retirement_for c.self.inside.host c.args.pipe c.args.tag) c.clear.ensures c.retire-began.ensures) in
    omega (arith, ap length c.deref-then-began.ensures.0, few)

-- the retirement is the shared machine's
retirement : (c : After-stand) → IsTaken (decoded c.args.self.now) (Retire c.args.pipe c.args.tag)
    (world_of c.retire-began.new.self (rung_all c.self.inside.controller c.retire-began.new.doors.items) c.self.inside.target
    c.retire-began.new.lines c.self.inside.frames)
    (begun_as (decoded c.args.self.now).tags c.args.tag c.retire-began.new.doors.items c.retire-began.result)
retirement c =
    retire-taken (decoded c.args.self.now) (world_in c.self.inside)
    c.args.pipe c.args.tag c.retire-began.new.self c.retire-began.new.lines c.retire-began.new.doors.items c.retire-began.result
    (fits-in c.self.inside c.self.view_is c.self.invariant)
    (begun-cleared (world_in c.self.inside)
    c.args.pipe c.retire-began.new.self c.retire-began.new.lines c.clear.new.self c.retire-began.new.doors c.retire-began.result
    (retirement_for c.self.inside.host c.args.pipe c.args.tag) c.clear.ensures c.retire-began.ensures)
    c.stand.ensures.host c.stand.ensures.lines

pub invariant_of-self : goal.invariant_of-self
invariant_of-self c = rw (c.ring.ensures, c.deref.ensures.0) (retirement (goal.at.invariant_of-self c).After-stand).fits

pub returns-clause-shared : goal.returns-clause-shared
returns-clause-shared c =
    let number : c.tags-tags.result ≡ (decoded c.args.self.now).tags =
    c.tags-tags.ensures.tags ∙ (fits-in c.self.inside c.self.view_is c.self.invariant).tags in
    let told : c.if-began.result ≡ begun_as (decoded c.args.self.now).tags c.args.tag c.retire-began.new.doors.items c.retire-began.result =
    elim c.if-began.branch [
      | then-began w ↦ w.result-is ∙ w.ringing.ensures ∙ ap (λ owner. ringing owner w.single.result) (w.owner_of.ensures ∙ ap (λ t. owner_of t c.args.tag) number)
          ∙ ap (ringing (owner_of (decoded c.args.self.now).tags c.args.tag)) (w.single.ensures ∙ w.deref-then-began.ensures.0)
          ∙ ap (begun_as (decoded c.args.self.now).tags c.args.tag c.retire-began.new.doors.items) (sym w.if-began.true)
      | else-began w ↦ w.result-is ∙ w.idle.ensures ∙ ap (begun_as (decoded c.args.self.now).tags c.args.tag c.retire-began.new.doors.items) (sym w.if-began.false)
    ] in
    rw (told, c.ring.ensures, c.deref.ensures.0) (retirement (goal.at.returns-clause-shared c).After-stand).shared

pub returns-clause-world : goal.returns-clause-world
returns-clause-world c =
    rw (c.ring.ensures, c.deref.ensures.0)
    (retire-begun (world_in c.self.inside)
    c.args.pipe c.args.tag c.retire-began.new.self c.retire-began.new.lines c.retire-began.new.doors.items c.retire-began.result
    (begun-cleared (world_in c.self.inside)
    c.args.pipe c.retire-began.new.self c.retire-began.new.lines c.clear.new.self c.retire-began.new.doors c.retire-began.result
    (retirement_for c.self.inside.host c.args.pipe c.args.tag) c.clear.ensures c.retire-began.ensures)
    ∙ ap (λ world. retire_after world c.args.pipe c.args.tag) c.self.view_is)
