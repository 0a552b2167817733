use Rattle.std.proofs.Common.{◌≡◌, ℕ, ◌+◌, ◌<◌, length, get_or}
use Rattle.tag_desk.specs.declared.rule.View.TheVariants.{Dealer}
use Rattle.tag_desk.specs.Seats.{ClientLine, AreServersBelow, new_line}
use Rattle.tag_desk.proofs.Desk.deal_client.Given as goal

abbrev pub invariant-loop-k : goal.invariant-loop-k
invariant-loop-k l = record {
  table : l.dealer.table_id ≡ l.self.table;
  next : l.dealer.me.0 ≡ Dealer (l.first + l.k);
  servers : AreServersBelow l.self (l.first + l.k) l.servers.items;
  count : length l.lines.items ≡ l.k;
  lines : (k : ℕ) (d : ClientLine) → k < length l.lines.items → get_or l.lines.items k d ≡ new_line l.self.table (l.first + k);
}
