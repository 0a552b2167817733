use Rattle.std.proofs.Common.{sym, ◌∙◌}
use Rattle.uas_driver.proofs.Rooms.{task-room-for}
use Rattle.uas_driver.proofs.Driver.task.Goals as goal

pub task_to_host-requires-clause-room : goal.task_to_host-requires-clause-room
task_to_host-requires-clause-room c =
    rw (← c.self.view_is) (λ none. task-room-for c.self.inside.host c.self.inside.lines c.args.client c.args.ticket c.args.task
    (sym c.lacks_task_room.ensures ∙ c.if-lacks_task_room.false) none)
