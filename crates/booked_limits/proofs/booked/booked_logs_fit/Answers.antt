-- The log of a bus is true, its operations were read, and its units are units.
use Rattle.std.proofs.Common.{List, ap, subst, ◌∙◌}
use Rattle.std.specs.List.{AllByRecursion}
use Rattle.shared_machine.specs.Shared.{Shared}
use Rattle.shared_machine.specs.declared.Step.{Step}
use Rattle.uas_log.specs.declared.Log.{Log}
use Rattle.booked_limits.specs.Fitting.{AreUnits, HasFields}
use Rattle.booked_limits.proofs.BookedLogs.{booked-fits}
use Rattle.booked_limits.proofs.FineLogs.{fitting-logs-save}
use Rattle.booked_limits.proofs.booked.booked_logs_fit.Goals as goal

pub returns : goal.returns
returns c =
    let steps = c.as_slice.ensures ∙ ap (λ (log : Log). log.steps) c.log-log.ensures.log in
    let fields : AllByRecursion HasFields c.args.booked.now.log.steps =
    subst (λ (list : List Step). AllByRecursion HasFields list) steps c.have_fields.ensures in
    let units : AreUnits c.args.booked.now.bus.parts = subst (λ (state : Shared). AreUnits state.parts) c.bus-bus.ensures c.are_units.ensures in
    let fits = booked-fits c.args.booked.now c.log-log.ensures.booked fields units in
    record { fits = fits; savable = λ sixteen. fitting-logs-save c.args.booked.now.log c.log-log.ensures.booked.log sixteen fits }
