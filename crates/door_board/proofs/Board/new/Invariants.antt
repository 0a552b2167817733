use Rattle.std.proofs.Common.{◌≡◌, ◌+◌, ◌-◌, vec_len, All, []}
use Rattle.door_board.specs.Counts.{unused_seat}
use Rattle.door_board.specs.Rule.{past}
use Rattle.door_board.proofs.Board.new.Given as goal

-- before each turn the first seat has the shares that weren't dealt
abbrev pub invariant-loop : goal.invariant-loop
invariant-loop l = record {
  table : l.first.table_id ≡ l.table.shared.table_id;
  view : l.first.me ≡ (past (l.seats + 1 - l.counter), []);
  dealt : vec_len l.dealt + 1 ≡ l.counter;
  unused : All (λ seat. seat ≡ unused_seat l.table.shared.table_id) l.dealt.items;
}
