use Rattle.std.proofs.Common.{◌≤◌, ◌∙◌, ap, arith, get_or, length}
use Rattle.std.specs.Prelude.{map, option_map}
use Rattle.std.proofs.lemmas.List.{append-nil, take_all, drop_all}
use Rattle.std.proofs.lemmas.List.Edits.{map_over_more}
use Rattle.solo_model.specs.TaggedTask.{after_notes}
use Rattle.solo_model.proofs.machine.heed_all.Goals as goal

pub loop-task-preserved : goal.loop-task-preserved
loop-task-preserved c =
    let now = get_or c.loop-task.tasks c.loop-task.task-index in
    rw c.heed.ensures (map_over_more (option_map (after_notes c.args.noted.now)) c.args.tasks.now c.loop-task.tasks c.loop-task.task-index
    (now c.task-item.result) c.loop-task-test.true c.loop-task.invariant (ap now c.task-item.is))

pub returns : goal.returns
returns c =
    let xs = c.args.tasks.now in
    let i = c.loop-task.task-index in
    let end : length xs ≤ i = omega (arith, c.loop-task-test.false, c.loop-task.auto.task-index-end) in
    c.loop-task.invariant ∙ rw (take_all i xs end, drop_all i xs end) (append-nil (map (option_map (after_notes c.args.noted.now)) xs))
