use Rattle.std.proofs.Common.{ap, sym, ◌∙◌, ◌&&◌}
use Rattle.std.specs.Prelude.{is_none}
use Rattle.uas_host.specs.Retirement.{is_left_over_on}
use Rattle.bus_core.specs.Decoded.{decoded}
use Rattle.bus_core.proofs.common.BusFields.{fits-in, world_in}
use Rattle.bus_core.proofs.retire.EngineDue.{none-there, retire-due}
use Rattle.bus_core.proofs.RingBus.retire_is_due.Goals as goal

pub returns-then-is_none : goal.returns-then-is_none
returns-then-is_none c =
    c.is_left_over.ensures
    ∙ ap (λ b. b && is_left_over_on c.self.inside.host c.args.pipe c.args.tag)
    (none-there c.retirement.result c.if-is_none.ensures ∙ ap (λ r. is_none r) c.retirement.ensures)
    ∙ sym (retire-due (decoded c.args.self.now) (world_in c.self.inside) c.args.pipe c.args.tag (fits-in c.self.inside c.self.view_is c.self.invariant))
