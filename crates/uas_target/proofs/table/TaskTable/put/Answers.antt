use Rattle.std.proofs.Common.{rules, tests, ℕ, ◌-◌, ◌<◌, length, length-set, Some}
use Rattle.uas_target.proofs.Places.{MarksHeld-set}
use Rattle.uas_target.proofs.table.TaskTable.put.Goals as goal

pub invariant_of-self : goal.invariant_of-self
invariant_of-self c =
    let place : ℕ = c.from-place.result - 1 in
    let within : place < length c.self.inside.places.items = search (rules, tests, c.requires.least, c.requires.most, c.from-place.ensures) in (
      rw (length-set c.self.inside.places.items place (Some c.of.result)) c.self.invariant.0,
      MarksHeld-set c.self.inside.marks c.set.new.self c.self.inside.places.items place (Some c.of.result) within
          c.set.ensures.here c.set.ensures.others c.self.invariant.1,
    )
