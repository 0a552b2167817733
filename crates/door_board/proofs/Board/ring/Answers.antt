use Rattle.std.proofs.Common.{◌≡◌, ◌*◌, ◌+◌, ◌/◌, ◌%◌, ◌^◌, ◌==◌, sym, ap, ◌∙◌, subst, arith}
use Rattle.std.proofs.lemmas.Nat.{one_shl}
use Rattle.std.specs.Int.RustNames.{bit_or, bit_and}
use Rattle.std.specs.Int.{bit_at}
use Rattle.door_board.specs.contracts.Seat.{the_view}
use Rattle.door_board.proofs.Totals.{same_bit, clear_found}
use mathlib.Core.Option.{none}
use Rattle.atomic_table.specs.Table.{step, Allows}
use Rattle.door_board.specs.Counts.{MadeBoard, Sitting, rang}
use Rattle.door_board.specs.Rule.{IsCounted, Rings}
use Rattle.door_board.proofs.Steps.{ring_allowed}
use Rattle.door_board.proofs.Board.ring.Goals as goal

pub fetch_or-found-requires : goal.fetch_or-found-requires
fetch_or-found-requires c =
    let seats = c.self.inside.table.shared.key in
    let slots = c.self.inside.table.shared.table_id.slots in
    let seat = c.seat.inside.seat in
    let word = c.args.place / 64 in
    let k = c.args.place % 64 in
    let bit : 1 * 2 ^ k % 18446744073709551616 ≡ 2 ^ k = one_shl k 64 (omega arith) in
    let allowed = ring_allowed seats slots seat.id word k seat.me c.seat.invariant.0 (omega arith) (omega arith) in (
      ap (λ (v : Sitting). v.table) c.seat.view_is ∙ c.requires.own ∙ sym (ap (λ (v : MadeBoard). v.table) c.self.view_is),
      omega arith,
      subst (λ b. Allows (IsCounted seats) slots seat.id seat.me word (λ n. bit_or n b) (Rings (step slots word b 0 none) seat.me)) (sym bit) allowed,
    )

pub returns : goal.returns
returns c =
    let found = c.fetch_or-found.result in
    let told = c.fetch_or-found.ensures in
    let old = c.seat.inside.seat in
    let new = c.fetch_or-found.new.seat in
    let place = c.args.place in
    let k = place % 64 in
    let bit = 1 * 2 ^ k % 18446744073709551616 in
    let j = told.2.0 in
    let was : Sitting = record { table = old.table_id; fresh = old.me.0.fresh; merged = old.me.0.merged; hauls = old.me.0.hauls } in
    let here : 64 * (place / 64) + j ≡ place = omega (arith, same_bit bit j k told.2.2 (one_shl k 64 (omega arith))) in
    let stepped : the_view (record { seat = new }) ≡ rang was (64 * (place / 64) + j) (bit_at found j == 0) =
    λ i. record { table = told.0 i; fresh = (told.2.3 i).0.fresh; merged = (told.2.3 i).0.merged; hauls = (told.2.3 i).0.hauls } in
    stepped ∙ ap (λ p. rang was p (bit_at found j == 0)) here ∙ ap (rang was place) (clear_found found bit k j (one_shl k 64 (omega arith)) told.2.2)
    ∙ ap (λ v. rang v place (bit_and found bit == 0)) c.seat.view_is
