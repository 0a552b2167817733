use Rattle.std.proofs.Common.{length, ◌-◌, length-set}
use Rattle.uas_target.proofs.Places.{IsRead, MarksHeld-kept, takes_read}
use Rattle.uas_target.proofs.table.TaskTable.take.Goals as goal

pub take_held-requires-clause-wanted : goal.take_held-requires-clause-wanted
take_held-requires-clause-wanted c =
    let found =
    takes_read c.self.inside.places.items c.args.self.now c.args.tag c.from.result (length c.args.bytes.now) c.index_mut.result.now c.self.view_is
    c.from.ensures c.requires.wanted c.index_mut.ensures.value
    in
    rw (← found.under) c.requires.wanted

pub take_held-requires-clause-sound : goal.take_held-requires-clause-sound
take_held-requires-clause-sound c =
    let found =
    takes_read c.self.inside.places.items c.args.self.now c.args.tag c.from.result (length c.args.bytes.now) c.index_mut.result.now c.self.view_is
    c.from.ensures c.requires.wanted c.index_mut.ensures.value
    in
    rw (← found.under) c.requires.sound

-- what was read at the tag's place is its task
read : (c : goal.After-units-1) → IsRead c.self.inside.places.items c.args.self.now c.args.tag (c.from.result - 1) c.index_mut.result.now
read c =
    takes_read c.self.inside.places.items c.args.self.now c.args.tag c.from.result (length c.args.bytes.now) c.index_mut.result.now c.self.view_is
    c.from.ensures c.requires.wanted c.index_mut.ensures.value

pub invariant_of-self : goal.invariant_of-self
invariant_of-self c = (
  rw (length-set c.self.inside.places.items (c.from.result - 1) c.take_held.new.held) c.self.invariant.0,
  MarksHeld-kept c.self.inside.marks c.self.inside.places.items (c.from.result - 1) c.index_mut.result.now c.take_held.new.held (read c).within (read c).at
      c.take_held.ensures.held c.self.invariant.1,
)

pub returns-clause-good : goal.returns-clause-good
returns-clause-good c = rw (read c).under c.take_held.ensures.good

pub returns-clause-units : goal.returns-clause-units
returns-clause-units c = rw (read c).under c.take_held.ensures.units

pub returns-clause-sound : goal.returns-clause-sound
returns-clause-sound c = rw ((read c).under, ← c.take_held.ensures.task) c.take_held.ensures.sound
