use Rattle.std.proofs.Common.{◌∙◌, ap}
use Rattle.tag_desk.specs.declared.remains.Left.{Left}
use Rattle.tag_desk.proofs.Finding.{clients_in_order, pumps_in_order}
use Rattle.uas_work.proofs.Closing.{none_held}
use Rattle.uas_work.proofs.workers.closed.Goals as goal

pub close-requires-clause-clients : goal.close-requires-clause-clients
close-requires-clause-clients c = clients_in_order _ _ c.requires.clients

pub close-requires-clause-pumps : goal.close-requires-clause-pumps
close-requires-clause-pumps c = pumps_in_order _ _ c.requires.pumps

-- no claim is out, so none is left
pub returns-in-Ok : goal.returns-in-Ok
returns-in-Ok c =
    ap (λ (left : Left). left.held) c.in-Ok.ensures.left
    ∙ none_held c.args.desk c.args.seats.clients.items c.args.seats.pumps.items c.requires.some c.requires.pumps c.requires.home
