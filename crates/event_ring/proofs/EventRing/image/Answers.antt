-- The bytes at a place whose event is pending are its text.
use Rattle.std.proofs.Common.{◌≡◌, ℕ, ◌+◌, ◌%◌, ◌<◌, ◌≤◌, Some, length, refl, sym, ap, ◌∙◌, arith, inl, inr, Bool, true, false}
use Rattle.std.proofs.lemmas.Bool.{cases_lt, false≢true}
use Rattle.std.proofs.Math.Nat.{mod-lt}
use Rattle.std.proofs.lemmas.Option.{slice_get_past}
use Rattle.ring_ends.specs.declared.End.{End}
use Rattle.ring_ends.specs.Counted.{distance, turn_bit, IsEnd}
use Rattle.ring_ends.specs.EndLaws.{distance-ahead, distance-place}
use Rattle.event_ring.proofs.Segment.{text-pending}
use Rattle.event_ring.proofs.EventRing.image.Goals.{else-place-via-then-place+else-is_pending, else-place-via-else-place}
use Rattle.event_ring.proofs.EventRing.image.Goals as goal

pub returns-then-is_pending-clause-event : goal.returns-then-is_pending-clause-event
returns-then-is_pending-clause-event g c k within at =
    let pending = c.is_pending.ensures.0 c.if-is_pending.true in
    let same = ap (distance g.row.E (c.args.self.now.at % g.row.E)) at ∙ distance-ahead g.row.E c.args.self.now.at k within in
    let here : End = record { place = c.args.place; cycle = turn_bit g.row.E (c.args.self.now.at + k) } in
    let is : IsEnd g.row.E (c.args.self.now.at + k) here = record { place = at; cycle = refl } in
    let segment = rw c.self.view_is at c.self.invariant in
    let event = text-pending g.row.E _ _ _ here _ k _ segment is (omega (arith, pending, same)) c.if-place.true c.index.ensures in
    rw (event.1) (ap Some event.2)

pub returns-then-is_pending-clause-in_use : goal.returns-then-is_pending-clause-in_use
returns-then-is_pending-clause-in_use g c some =
    let r = c.args.self.now in
    let pending = c.is_pending.ensures.0 c.if-is_pending.true in
    (distance g.row.E (r.at % g.row.E) c.args.place, (pending, sym (distance-place g.row.E r.at c.args.place c.if-place.true).1))

pub returns-clause-event : goal.returns-clause-event
returns-clause-event g c k within at =
    let r = c.args.self.now in
    let same = ap (distance g.row.E (r.at % g.row.E)) at ∙ distance-ahead g.row.E r.at k within in
    let there : (r.at + k) % g.row.E < g.row.E = mod-lt (r.at + k) (omega arith) in
    elim c.else-place.branch [
      | else-place-via-then-place+else-is_pending w ↦
          let behind : length r.pending ≤ k =
          past (length r.pending) k (λ less. true_false (w.is_pending.ensures.1 (omega (arith, same, less))) w.if-is_pending.false) in
          rw (slice_get_past r.pending k behind) refl
      | else-place-via-else-place w ↦ absurd (omega (arith, at, w.if-place.false))
    ]
  where
    past : (a b : ℕ) → (b < a → ⊥) → a ≤ b
    past a b never = elim (cases_lt b a) [ inl less ↦ absurd (never less) | inr more ↦ more ]

    true_false : {b : Bool} → b ≡ true → b ≡ false → ⊥
    true_false t f = false≢true (sym f ∙ t)
