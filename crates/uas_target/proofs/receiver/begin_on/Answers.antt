use Rattle.std.proofs.Common.{sym, ◌∙◌}
use Rattle.scsi_cmd.specs.Laws.{asked_in_range}
use Rattle.uas_target.proofs.Sound.{begun_sound}
use Rattle.uas_target.proofs.receiver.begin_on.Goals as goal

pub work_asked-work-requires-clause-range : goal.work_asked-work-requires-clause-range
work_asked-work-requires-clause-range c = λ op is.
    rw (c.blocks-3.ensures.count, ← c.blocks-2.ensures.count) (asked_in_range _ _ op (sym c.parse-asked.ensures ∙ is))

pub returns-clause-sound : goal.returns-clause-sound
returns-clause-sound c = λ counts is.
    rw (
      c.task_in.ensures,
      c.begin-progress.ensures.progress,
      c.cdb_reports_attention.ensures,
      c.work_asked-work.ensures.work,
      c.parse-asked.ensures,
      c.blocks-3.ensures.count,
      c.blocks-2.ensures.count,
    )
    (begun_sound counts c.args.number c.args.unit.now c.args.cdb.now is)
