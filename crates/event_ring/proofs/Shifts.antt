-- An event ring without its first event.
use Rattle.std.proofs.Common.{ℕ, ◌+◌, ◌<◌, ◌==◌, length-drop, ap, arith}
use Rattle.std.proofs.Math.Nat.{mod-lt}
use Rattle.std.proofs.lemmas.List.Elements.{All-drop}
use Rattle.event_ring.specs.Events.{Events, IsRing, IsShifted, IsWritable, taken}
use Rattle.ring_ends.specs.TurnLaws.{place_shift, turn_shift}

-- it is a ring again
pub IsRing-taken : (n : ℕ) (r : Events) → IsRing n r → IsRing n (taken n r)
IsRing-taken n r ring =
    let most = ring.most_places in
    let least = ring.least_places in
    let size = length-drop 1 r.pending in
    let room = ring.room_left in
    record {
      least_places = least;
      most_places = most;
      at_below = mod-lt (r.at + 1) (omega arith);
      room_left = omega arith;
      writable = All-drop IsWritable 1 r.pending ring.writable;
    }

-- its events stand where they stood
pub IsShifted-taken : (n : ℕ) (r : Events) (i : ℕ) → 0 < n → IsShifted n r (taken n r) i
IsShifted-taken n r i places = record {
  place = place_shift n r.at 1 i;
  cycle = ap (λ (turns : ℕ). turns == 0) (turn_shift n r.at 1 i places);
}
