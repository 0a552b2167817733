use Rattle.std.proofs.Common.{ap, sym, ◌∙◌}
use Rattle.std.specs.Prelude.{slice_index}
use Rattle.uas_tasks.specs.Machine.{executed_on}
use Rattle.uas_tasks.proofs.Tasks.execute.Goals as goal

pub returns-in-None : goal.returns-in-None
returns-in-None c =
    let none = rw (c.deref.ensures.value) at c.in-None.ensures.none in
    c.execute_nowhere.ensures (slice_index c.args.lun.now 1)
    ∙ rw (← c.self.view_is) (sym (ap (executed_on _ c.args.tag (slice_index c.args.lun.now 1) c.args.cdb.now) none))
