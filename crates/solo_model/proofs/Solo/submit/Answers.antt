use Rattle.std.proofs.Common.{true, ap, sym, ◌∙◌, length-set}
use Rattle.std.specs.Prelude.{is_some}
use Rattle.solo_model.specs.Soundness.{IsSound}
use Rattle.scsi_cmd.specs.Laws.{AllHeld-set, submit_fault-none}
use Rattle.solo_model.specs.Laws.{IsSound-queued}
use Rattle.solo_model.proofs.Solo.submit.Goals as goal

pub invariant_of-self : goal.invariant_of-self
invariant_of-self c = record {
  number = c.self.invariant.number;
  places = simp length-set c.self.invariant.places;
  tasks =
      AllHeld-set (IsSound c.self.inside.unit.count) c.self.inside.tasks _ _ c.self.invariant.tasks
      (IsSound-queued _ _ _ _ c.new.ensures
      (submit_fault-none true c.is_some-in_use.result c.self.inside.least_ticket c.args.ticket c.args.command (ap is_some (sym c.submit_fault.ensures) ∙ sym c.is_some.ensures ∙ c.if-is_some.false)));
}
