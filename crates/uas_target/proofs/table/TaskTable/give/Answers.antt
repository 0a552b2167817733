use Rattle.std.proofs.Common.{length, ◌-◌, length-set}
use Rattle.uas_target.proofs.Places.{IsRead, MarksHeld-kept, gives_read}
use Rattle.uas_target.proofs.table.TaskTable.give.Goals as goal

pub give_held-requires-clause-wanted : goal.give_held-requires-clause-wanted
give_held-requires-clause-wanted c =
    let found =
    gives_read c.self.inside.places.items c.args.self.now c.args.tag c.from.result (length c.args.bytes.now) c.index_mut.result.now c.self.view_is
    c.from.ensures c.requires.wanted c.index_mut.ensures.value
    in
    rw (← found.under) c.requires.wanted

pub give_held-requires-clause-sound : goal.give_held-requires-clause-sound
give_held-requires-clause-sound c =
    let found =
    gives_read c.self.inside.places.items c.args.self.now c.args.tag c.from.result (length c.args.bytes.now) c.index_mut.result.now c.self.view_is
    c.from.ensures c.requires.wanted c.index_mut.ensures.value
    in
    rw (← found.under) c.requires.sound

-- what was read at the tag's place is its task
read : (c : goal.After-slice_known-2-1) → IsRead c.self.inside.places.items c.args.self.now c.args.tag (c.from.result - 1) c.index_mut.result.now
read c =
    gives_read c.self.inside.places.items c.args.self.now c.args.tag c.from.result (length c.args.bytes.now) c.index_mut.result.now c.self.view_is
    c.from.ensures c.requires.wanted c.index_mut.ensures.value

pub invariant_of-self : goal.invariant_of-self
invariant_of-self c = (
  rw (length-set c.self.inside.places.items (c.from.result - 1) c.give_held.new.held) c.self.invariant.0,
  MarksHeld-kept c.self.inside.marks c.self.inside.places.items (c.from.result - 1) c.index_mut.result.now c.give_held.new.held (read c).within (read c).at
      c.give_held.ensures.held c.self.invariant.1,
)

pub returns-clause-good : goal.returns-clause-good
returns-clause-good c = rw (read c).under c.give_held.ensures.good

pub returns-clause-bytes : goal.returns-clause-bytes
returns-clause-bytes c = rw (read c).under c.give_held.ensures.bytes

pub returns-clause-sound : goal.returns-clause-sound
returns-clause-sound c = rw ((read c).under, ← c.give_held.ensures.task) c.give_held.ensures.sound
