use Rattle.std.proofs.Common.{◌≡◌, ℕ, ◌+◌, ◌<◌, length, sum_by, All}
use Rattle.door_board.specs.Counts.{fresh_rings, collections, times_rung, times_taken, Sitting}
use Rattle.door_board.proofs.Board.gather.Given as goal

-- the first seat has what the seats that were joined to it had
abbrev pub invariant-loop-seat : goal.invariant-loop-seat
invariant-loop-seat l = record {
  table : l.first.table_id ≡ l.self.table;
  some : 0 < l.first.me.0.shares;
  shares : l.first.me.0.shares + length l.seats.items ≡ length l.fn.seats.items;
  fresh : (place : ℕ) → times_rung place l.first.me.0.fresh + sum_by (fresh_rings place) l.seats.items ≡ sum_by (fresh_rings place) l.fn.seats.items;
  taken : (place : ℕ) → times_taken place l.first.me.0.hauls + sum_by (collections place) l.seats.items ≡ sum_by (collections place) l.fn.seats.items;
  own : All (λ (seat : Sitting). seat.table ≡ l.self.table) l.seats.items;
}

abbrev pub decreases-loop-seat : goal.decreases-loop-seat
decreases-loop-seat l = goal.left-loop-seat l
