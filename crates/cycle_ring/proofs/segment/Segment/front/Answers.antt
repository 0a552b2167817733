-- The consumer's end is at the first pending item, if there is one.
use Rattle.std.proofs.Common.{◌≡◌, ℕ, ◌+◌, ◌-◌, ◌*◌, ◌<◌, List, length, Some, slice_get, refl, sym, ap, ◌∙◌, arith}
use Rattle.std.specs.Prelude.{option_and_then}
use Rattle.xhci_trb.specs.declared.Trb.{Trb}
use Rattle.std.proofs.lemmas.Bool.{false≢true}
use Rattle.std.proofs.lemmas.Option.{option_and_then_some, slice_get_within}
use Rattle.cycle_ring.specs.Items.{Item, known_of}
use Rattle.cycle_ring.specs.Segment.{items_before}
use Rattle.cycle_ring.proofs.Consumers.{within-consumer}
use Rattle.cycle_ring.proofs.segment.Segment.front.Goals as goal

pub trb_at-requires : goal.trb_at-requires
trb_at-requires g c = omega (arith, within-consumer g.row.N c.args.self.now c.args.end c.requires)

pub pointer-requires : goal.pointer-requires
pointer-requires g c = omega (arith, within-consumer g.row.N c.args.self.now c.args.end c.requires)

pub returns-in_err-trb : goal.returns-in_err-trb
returns-in_err-trb g c =
    let r = c.args.self.now in
    let k = items_before g.row.N r c.args.end in
    let within : k < g.row.N - 1 = omega (arith, c.requires.ring.consumed, c.requires.ring.room_left, c.requires.ring.least_places) in
    let none = sym c.in_err-trb.was ∙ c.trb_at.ensures k within c.requires.stands in
    rw (c.from_residual.ensures) (record {
      front = rw (← none) refl;
      pending = λ some. absurd (false≢true some);
    })

pub returns : goal.returns
returns g c =
    let r = c.args.self.now in
    let k = items_before g.row.N r c.args.end in
    let within : k < g.row.N - 1 = omega (arith, c.requires.ring.consumed, c.requires.ring.room_left, c.requires.ring.least_places) in
    let some = sym c.in_ok-trb.was ∙ c.trb_at.ensures k within c.requires.stands in
    let pointer = c.pointer.ensures ∙ ap (λ (place : ℕ). r.base + 16 * place) c.requires.stands.place in
    record {
      front = rw (← some, pointer) refl;
      pending = λ _. known_within r.put k c.in_ok-trb.trb (sym some);
    }
  where
    known_within : (put : List Item) (k : ℕ) (trb : Trb) → option_and_then known_of (slice_get put k) ≡ Some trb → k < length put
    known_within put k trb is = option_and_then_some known_of (slice_get put k) trb is (λ item there known. slice_get_within put k item there)
