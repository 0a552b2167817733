use Rattle.std.proofs.Common.{◌≡◌, ℕ, ◌<◌, length, get_or}
use Rattle.tag_desk.specs.Seats.{Server, IsServerBelow}
use Rattle.tag_desk.proofs.Desk.bare_servers.Given as goal

abbrev pub invariant-loop-pump : goal.invariant-loop-pump
invariant-loop-pump l = record {
  count : length l.servers.items ≡ l.pump;
  servers : (p : ℕ) (d : Server) → p < length l.servers.items → IsServerBelow l.self 0 p (get_or l.servers.items p d);
}
