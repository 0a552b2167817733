use Rattle.std.proofs.Common.{◌<◌, arith, length, None}
use Rattle.std.proofs.lemmas.List.{get_or_default}
use Rattle.uas_host.proofs.Changing.{tickets-next}
use Rattle.uas_host.proofs.tasks.command_tickets.Goals as goal

pub loop-slot-preserved : goal.loop-slot-preserved
loop-slot-preserved c =
    let entries = c.args.entries.now in
    let slot = c.loop-slot.slot in
    let within : slot < length entries = omega (arith, c.loop-slot-test.true, c.type_inv.entries) in
    record {
      tickets = tickets-next entries slot c.loop-slot.tickets.items c.push_ticket.new.tickets.items _ within
          (get_or_default entries slot _ None within) c.loop-slot.invariant.tickets c.push_ticket.ensures.tickets;
      most = omega (arith, c.push_ticket.ensures.most, c.loop-slot.invariant.most);
    }
