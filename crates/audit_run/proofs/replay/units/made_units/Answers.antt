-- Units that a text tells are as new, and each fits.
use Rattle.std.proofs.Common.{All, List, map, arith, ap, sym, subst, ◌∙◌}
use Rattle.std.proofs.lemmas.List.{take_all}
use Rattle.block_unit.specs.BlockMaps.{BlockMaps}
use Rattle.uas_log.specs.Booking.{first_maps}
use Rattle.uas_work.specs.Booked.{IsNew}
use Rattle.audit_run.proofs.FirstUnits.{all-new}
use Rattle.audit_run.proofs.replay.units.made_units.Goals as goal

pub returns-clause-fresh : goal.returns-clause-fresh
returns-clause-fresh c =
    let firsts = c.args.firsts.now in
    let is = c.loop-first.invariant ∙ ap (map first_maps) (take_all c.loop-first.first-index firsts (omega arith)) in
    subst (λ (units : List BlockMaps). All IsNew units) (sym is) (all-new firsts)
