use Rattle.std.proofs.Common.{◌≡◌, ◌*◌}
use Rattle.tag_desk.specs.declared.rule.View.TheVariants.{Dealer}
use Rattle.tag_desk.specs.Seats.{AreServersBelow, AreNewCustomers}
use Rattle.tag_desk.proofs.Desk.deal_all.Given as goal

abbrev pub invariant-loop-client : goal.invariant-loop-client
invariant-loop-client l = record {
  table : l.dealer.table_id ≡ l.self.table;
  next : l.dealer.me.0 ≡ Dealer (l.self.tags * l.client);
  servers : AreServersBelow l.self (l.self.tags * l.client) l.servers.items;
  customers : AreNewCustomers l.self.table l.self.tags l.client l.customers.items;
}
