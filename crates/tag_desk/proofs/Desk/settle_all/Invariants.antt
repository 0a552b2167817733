use Rattle.std.proofs.Common.{◌≡◌, ℕ, ◌-◌, ◌*◌, ◌<◌, ◌≤◌}
use Rattle.tag_desk.specs.Left.{HasEachPumpOf, HasNumber, client_number, seat_of, work_line, client_view, standing, left_below, so_far, HasRoom}
use Rattle.tag_desk.proofs.Desk.settle_all.Given as goal

-- the tags of the clients below this one are settled; the seats and the lines of the others are as they were
abbrev pub invariant-loop-client : goal.invariant-loop-client
invariant-loop-client l = record {
  seats : (c : ℕ) → l.client ≤ c → seat_of l.clients.items c ≡ seat_of l.fn.seats.clients.items c;
  there : (c : ℕ) → l.client ≤ c → c < l.self.clients → HasNumber client_number l.clients.items c;
  pumps : HasEachPumpOf l.self l.pumps.items;
  others : (t : ℕ) → l.self.tags * l.client ≤ t → work_line l.self l.pumps.items t ≡ work_line l.self l.fn.seats.pumps.items t;
  lists : so_far l.lists ≡ left_below (λ t. standing (client_view l.self.tags l.fn.seats.clients.items t) (work_line l.self l.fn.seats.pumps.items t))
      (l.self.tags * l.client);
  room : HasRoom (l.self.tags * l.self.clients - l.self.tags * l.client) l.lists;
}
