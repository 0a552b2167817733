use Rattle.std.proofs.Common.{◌≡◌, ◌∙◌, ap, arith, length, take, length-take-le, ◌++◌}
use Rattle.std.specs.Prelude.{option_map, option_to_list}
use Rattle.std.proofs.Math.Seq.{take-length}
use Rattle.solo_model.specs.TaggedTask.{TaggedTask}
use Rattle.solo_model.specs.Solo.{tickets_of}
use Rattle.solo_model.proofs.Filtered.{filtered-length, filtered-more}
use Rattle.solo_model.proofs.machine.tickets_in.Goals as goal

pub note-requires : goal.note-requires
note-requires c =
    omega (
      arith,
      ap length c.loop-task.invariant,
      filtered-length (option_map (λ (task : TaggedTask). task.ticket)) (take c.loop-task.task-index c.args.tasks.now),
      length-take-le c.loop-task.task-index c.args.tasks.now,
      c.loop-task-test.true,
      c.requires,
    )

pub loop-task-preserved : goal.loop-task-preserved
loop-task-preserved c =
    filtered-more (option_map (λ (task : TaggedTask). task.ticket)) c.loop-task.task-index c.args.tasks.now c.task-item.result c.note.new.tickets.items
    c.ticket_of.result c.loop-task-test.true (c.note.ensures ∙ ap (λ before. before ++ option_to_list c.ticket_of.result) c.loop-task.invariant)
    (c.ticket_of.ensures ∙ ap (option_map (λ (task : TaggedTask). task.ticket)) c.task-item.is)

pub returns : goal.returns
returns c =
    let end : c.loop-task.task-index ≡ length c.args.tasks.now = omega (arith, c.loop-task-test.false, c.loop-task.auto.task-index-end) in
    c.loop-task.invariant ∙ ap (λ at. tickets_of (take at c.args.tasks.now)) end ∙ ap tickets_of (take-length c.args.tasks.now)
