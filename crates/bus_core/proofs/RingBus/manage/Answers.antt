use Rattle.std.proofs.Common.{arith, ap, length, ◌∙◌}
use Rattle.bus_core.specs.Owners.{managed_as}
use Rattle.bus_core.specs.World.{world_of}
use Rattle.bus_core.specs.WorldSteps.{rung_all}
use Rattle.bus_core.specs.Decoded.{decoded}
use Rattle.bus_core.proofs.common.BusFields.{fits-in, world_in}
use Rattle.bus_core.proofs.submit.TaskSubmitting.{tasks-fit}
use Rattle.bus_core.proofs.submit.TaskSubmitted.{IsManaged, managed-on, cleared, few-rung}
use Rattle.bus_core.specs.WholeStep.{task_after}
use Rattle.bus_core.proofs.common.WholeSteps.{task-answered}
use Rattle.bus_core.proofs.RingBus.manage.Goals as goal
use Rattle.bus_core.proofs.RingBus.manage.Goals.{After-stand}

pub task-managed-requires-clause-room : goal.task-managed-requires-clause-room
task-managed-requires-clause-room c = λ none.
    (tasks-fit (decoded c.args.self.now) (world_in c.self.inside) c.args.client c.args.ticket c.args.task
    (fits-in c.self.inside c.self.view_is c.self.invariant) c.requires none).room

-- the task management is the shared machine's
management : (c : After-stand) → IsManaged (decoded c.args.self.now) c.args.client c.args.ticket c.args.task
    (world_of c.task-managed.new.self (rung_all c.self.inside.controller c.task-managed.new.doors.items) c.self.inside.target
    c.task-managed.new.lines c.task-managed.new.frames)
    (managed_as c.args.client c.task-managed.new.doors.items c.task-managed.result)
management c =
    managed-on (decoded c.args.self.now) (world_in c.self.inside) c.args.client c.args.ticket c.args.task
    c.task-managed.new.self c.task-managed.new.lines c.task-managed.new.frames c.task-managed.new.doors.items c.task-managed.result
    (fits-in c.self.inside c.self.view_is c.self.invariant) c.requires
    (cleared (world_in c.self.inside) c.args.client c.args.ticket c.args.task c.task-managed.new.self c.task-managed.new.lines c.task-managed.new.frames
    c.clear.new.self c.task-managed.new.doors c.task-managed.result _ c.clear.ensures c.task-managed.ensures)
    c.stand.ensures.host c.stand.ensures.lines c.stand.ensures.frames

pub invariant_of-self : goal.invariant_of-self
invariant_of-self c = rw (c.ring.ensures, c.deref.ensures.0) (management (goal.at.invariant_of-self c).After-stand).fits

pub returns-clause-shared : goal.returns-clause-shared
returns-clause-shared c =
    rw (c.managed.ensures, c.single.ensures, c.deref-2.ensures.0, c.ring.ensures, c.deref.ensures.0)
    (management (goal.at.returns-clause-shared c).After-stand).shared

pub returns-clause-world : goal.returns-clause-world
returns-clause-world c =
    rw (c.ring.ensures, c.deref.ensures.0)
    (task-answered (world_in c.self.inside) c.args.client c.args.ticket c.args.task
    c.task-managed.new.self c.task-managed.new.lines c.task-managed.new.frames c.task-managed.new.doors.items c.task-managed.result _
    (cleared (world_in c.self.inside) c.args.client c.args.ticket c.args.task c.task-managed.new.self c.task-managed.new.lines c.task-managed.new.frames
    c.clear.new.self c.task-managed.new.doors c.task-managed.result _ c.clear.ensures c.task-managed.ensures)
    ∙ ap (λ world. task_after world c.args.client c.args.ticket c.args.task) c.self.view_is)

pub single-requires : goal.single-requires
single-requires c =
    let few = few-rung (world_in c.self.inside) c.args.client c.args.ticket c.args.task
    c.task-managed.new.self c.task-managed.new.lines c.task-managed.new.frames c.task-managed.new.doors.items c.task-managed.result _
    (cleared (world_in c.self.inside) c.args.client c.args.ticket c.args.task c.task-managed.new.self c.task-managed.new.lines c.task-managed.new.frames
    c.clear.new.self c.task-managed.new.doors c.task-managed.result _ c.clear.ensures c.task-managed.ensures) in
    omega (arith, ap length c.deref-2.ensures.0, few)
