use Rattle.std.proofs.Common.{◌≡◌, length, All, None}
use Rattle.tag_desk.proofs.WorkSeat.serving_none.Given as goal

abbrev pub invariant-loop : goal.invariant-loop
invariant-loop l = record {
  count : length l.lines.items ≡ l.counter;
  none : All (λ line. line ≡ None) l.lines.items;
}
