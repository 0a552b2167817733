use Rattle.std.proofs.Common.{◌≡◌, refl, ap, sym, ◌∙◌}
use Rattle.std.specs.Prelude.{is_some, true}
use Rattle.solo_model.specs.Soundness.{IsSound}
use Rattle.solo_model.specs.TaggedTask.{reply_of}
use Rattle.scsi_cmd.specs.Laws.{AllHeld-set, held_at-read, answered-held}
use Rattle.solo_model.proofs.machine.settle_at.Goals as goal

pub returns-in-Some-clause-sound : goal.returns-in-Some-clause-sound
returns-in-Some-clause-sound c = λ count all. rw c.in-Some.ensures.after (AllHeld-set (IsSound count) c.args.tasks.now c.args.slot _ all tt)

pub returns-in-Some-clause-tasks : goal.returns-in-Some-clause-tasks
returns-in-Some-clause-tasks c =
    let given : is_some c.reply.result ≡ true =
    ap is_some c.reply.ensures
    ∙ answered-held (reply_of c.args.tag) c.args.tasks.now c.args.slot _ c.in-Some.task _ c.requires.slot
    (c.has_reply.ensures c.args.tag) c.if-not-has_reply.false
    (held_at-read _ _ _ _ c.requires.slot (sym c.take.ensures.value ∙ c.in-Some.is)) in
    rw (given, c.in-Some.ensures.after) refl
