use Rattle.std.proofs.Common.{◌≡◌, ℕ, false, ◌⊎◌, inl, inr, sym, ap, ◌∙◌}
use Rattle.uas_target.specs.declared.Phase.{Phase}
use Rattle.uas_target.specs.declared.Phase.TheVariants.{Absent, Gives, Takes}
use Rattle.bus_core.specs.World.{World}
use Rattle.bus_core.specs.WorldDue.{status_due_by}
use Rattle.bus_core.specs.Decoded.{decoded}
use Rattle.bus_core.proofs.common.BusFields.{fits-in, world_in}
use Rattle.bus_core.proofs.status.StatusFits.{statuses_due}
use Rattle.bus_core.proofs.RingBus.status_is_due.Goals as goal

pub returns-in-Ends : goal.returns-in-Ends
returns-in-Ends c =
    c.armed.ensures.armed ∙ ap (status_due_by (world_in c.self.inside) c.args.tag) (sym c.in-Ends.is ∙ c.wants.ensures.phase)
    ∙ sym (statuses_due (decoded c.args.self.now) (world_in c.self.inside) c.args.tag (fits-in c.self.inside c.self.view_is c.self.invariant)).due

-- the device has no answer yet
unready : (world : World) (tag : ℕ) (wants : Phase) → (wants ≡ Absent) ⊎ (((size : ℕ) × (wants ≡ Gives size)) ⊎ ((size : ℕ) × (wants ≡ Takes size)))
    → false ≡ status_due_by world tag wants
unready world tag wants (inl is) = ap (status_due_by world tag) (sym is)
unready world tag wants (inr (inl is)) = ap (status_due_by world tag) (sym is.1)
unready world tag wants (inr (inr is)) = ap (status_due_by world tag) (sym is.1)

pub returns-in-Absent : goal.returns-in-Absent
returns-in-Absent c =
    unready (world_in c.self.inside) c.args.tag c.wants.result c.in-Absent.is
    ∙ ap (status_due_by (world_in c.self.inside) c.args.tag) c.wants.ensures.phase
    ∙ sym (statuses_due (decoded c.args.self.now) (world_in c.self.inside) c.args.tag (fits-in c.self.inside c.self.view_is c.self.invariant)).due
