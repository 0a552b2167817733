use Rattle.std.proofs.Common.{sym, subst}
use Rattle.std.specs.Prelude.{All}
use Rattle.uas_work.specs.Booked.{IsNew}
use Rattle.work_run.proofs.Units.{units_new}
use Rattle.work_run.proofs.run.booked.Goals as goal

pub with_tags-requires-clause-fresh : goal.with_tags-requires-clause-fresh
with_tags-requires-clause-fresh c = subst (All IsNew) (sym c.in_ok-units.ensures) (units_new c.args.load.clients)
