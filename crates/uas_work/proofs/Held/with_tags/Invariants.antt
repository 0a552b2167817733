use Rattle.std.proofs.Common.{◌≡◌, length, All, None}
use Rattle.uas_work.proofs.Held.with_tags.Given as goal

abbrev pub invariant-loop : goal.invariant-loop
invariant-loop l = record {
  count : length l.claims.items ≡ l.counter;
  none : All (λ claim. claim ≡ None) l.claims.items;
}
