use Rattle.std.proofs.Common.{◌≡◌, ℕ, false, ◌⊎◌, inl, inr, sym, ap, ◌∙◌}
use Rattle.uas_target.specs.declared.Phase.{Phase}
use Rattle.uas_target.specs.declared.Phase.TheVariants.{Absent, Ends}
use Rattle.shared_machine.specs.declared.Step.TheVariants.{Data}
use Rattle.shared_machine.specs.Shared.{due}
use Rattle.bus_core.specs.World.{World}
use Rattle.bus_core.specs.WorldDue.{data_due_by}
use Rattle.bus_core.specs.Decoded.{decoded}
use Rattle.bus_core.proofs.common.BusFields.{fits-in, world_in}
use Rattle.bus_core.proofs.chunks.DataDue.{data_due}
use Rattle.bus_core.proofs.RingBus.data_is_due.Goals as goal
use Rattle.bus_core.proofs.RingBus.data_is_due.Goals.{After-wants}

-- what the device wants tells whether the step is due
due_as-wanted : (c : After-wants) → data_due_by (world_in c.self.inside) c.args.tag c.wants.result ≡ due (decoded c.args.self.now) (Data c.args.tag)
due_as-wanted c =
    ap (data_due_by (world_in c.self.inside) c.args.tag) c.wants.ensures.phase
    ∙ sym (data_due (decoded c.args.self.now) (world_in c.self.inside) c.args.tag (fits-in c.self.inside c.self.view_is c.self.invariant)).due

pub returns-in-Gives : goal.returns-in-Gives
returns-in-Gives c =
    c.armed.ensures.armed ∙ ap (data_due_by (world_in c.self.inside) c.args.tag) (sym c.in-Gives.is)
    ∙ due_as-wanted (goal.at.returns-in-Gives c).After-wants

pub returns-in-Takes : goal.returns-in-Takes
returns-in-Takes c =
    c.armed-in-Takes.ensures.armed ∙ ap (data_due_by (world_in c.self.inside) c.args.tag) (sym c.in-Takes.is)
    ∙ due_as-wanted (goal.at.returns-in-Takes c).After-wants

-- the device moves no data
unmoving : (world : World) (tag : ℕ) (wants : Phase) → (wants ≡ Absent) ⊎ (wants ≡ Ends) → false ≡ data_due_by world tag wants
unmoving world tag wants (inl is) = ap (data_due_by world tag) (sym is)
unmoving world tag wants (inr is) = ap (data_due_by world tag) (sym is)

pub returns-in-Absent : goal.returns-in-Absent
returns-in-Absent c =
    unmoving (world_in c.self.inside) c.args.tag c.wants.result c.in-Absent.is ∙ due_as-wanted (goal.at.returns-in-Absent c).After-wants
