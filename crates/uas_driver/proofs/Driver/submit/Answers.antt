use Rattle.std.proofs.Common.{sym, ◌∙◌}
use Rattle.uas_driver.proofs.Rooms.{room-for}
use Rattle.uas_driver.proofs.Driver.submit.Goals as goal

pub submit_to_host-requires-clause-room : goal.submit_to_host-requires-clause-room
submit_to_host-requires-clause-room c = λ none.
    rw c.lacks_room.ensures.same
    (room-for c.self.inside.host c.self.inside.lines c.self.inside.frames c.args.client c.args.tag c.args.ticket c.args.command c.sound.ensures
    (sym c.lacks_room.ensures.room ∙ c.if-lacks_room.false) none)
