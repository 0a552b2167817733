use Rattle.std.proofs.Common.{◌≡◌, ◌∙◌, length, arith, length-set}
use Rattle.std.specs.Prelude.{option_map}
use Rattle.uas_host.specs.Seen.{doomed}
use Rattle.uas_host.proofs.Changing.{changed-next, first_changed-end}
use Rattle.uas_host.proofs.seen.leave_doomed_over.Goals as goal

pub loop-slot-preserved : goal.loop-slot-preserved
loop-slot-preserved c = record {
  places = length-set c.loop-slot.entries c.loop-slot.slot c.leave_held_over.new.held ∙ c.loop-slot.invariant.places;
  initial = c.loop-slot.invariant.initial;
  now = changed-next (option_map (doomed c.args.noted.now)) c.args.entries.now c.loop-slot.entries c.loop-slot.slot _ c.leave_held_over.new.held
      (omega (arith, c.loop-slot-test.true, c.loop-slot.invariant.initial)) c.loop-slot.invariant.now c.leave_held_over.ensures;
}

pub returns : goal.returns
returns c =
    let loop = c.loop-slot in
    let long : loop.slot ≡ length c.args.entries.now = omega (arith, loop.invariant.initial, loop.auto.slot-end, c.loop-slot-test.false) in
    first_changed-end (option_map (doomed c.args.noted.now)) c.args.entries.now loop.entries loop.slot long loop.invariant.now
