-- The events of a ring that aren't freed, once another is posted.
use Rattle.std.proofs.Common.{◌≡◌, ℕ, ◌+◌, ◌-◌, ◌*◌, ◌%◌, ◌<◌, ◌≤◌, ◌==◌, ◌⊎◌, Bool, true, false, refl, sym, ap, ◌∙◌, arith, inl, inr}
use Rattle.std.specs.Prelude.{not, if◌then◌else◌}
use Rattle.std.proofs.Math.Nat.{add-mod_left, mod-eq_of_lt}
use Rattle.std.proofs.lemmas.Bool.{cases_lt, eq-eqb, leb-true, ne_eqb}
use Rattle.guest_memory.specs.Ranges.{out_before, out_behind}
use Rattle.guest_memory.specs.rings.Events.{EventEnd, enqueued, free_by}
use Rattle.td_laws.specs.Unfreed.{IsFreedTo, IsUnfreed, Between, ToTheEnd, FromTheStart}
use Rattle.td_laws.specs.NotOvertaken.{NewRingIsFreed, NextIsFreed, PostsKeepUnfreed}

pub next_is_freed : NextIsFreed
next_is_freed ring dequeue place (Between from below) k inside =
    out_before (ring.base + 16 * ring.place) 16 (ring.base + 16 * place + k) (omega arith)
next_is_freed ring dequeue place (ToTheEnd before from below) k inside =
    out_behind (ring.base + 16 * ring.place) 16 (ring.base + 16 * place + k) (omega arith)
next_is_freed ring dequeue place (FromTheStart before below) k inside =
    out_before (ring.base + 16 * ring.place) 16 (ring.base + 16 * place + k) (omega arith)

-- how many places are free, by which of the two is first
free_ahead : (ring : EventEnd) (dequeue : ℕ) → dequeue ≤ ring.place → ring.place < ring.places
    → free_by ring dequeue ≡ dequeue + ring.places - ring.place - 1
unfolding free_by
free_ahead ring dequeue first inside = mod-eq_of_lt (omega arith)

free_behind : (ring : EventEnd) (dequeue : ℕ) → ring.place < dequeue → dequeue < ring.places → free_by ring dequeue ≡ dequeue - ring.place - 1
unfolding free_by
free_behind ring dequeue first inside =
    let e : dequeue + ring.places - ring.place - 1 ≡ ring.places + (dequeue - ring.place - 1) = omega arith in
    ap (λ (n : ℕ). n % ring.places) e ∙ add-mod_left ring.places (dequeue - ring.place - 1) ∙ mod-eq_of_lt (omega arith)

pub new_ring_is_freed : NewRingIsFreed
new_ring_is_freed base places some =
    let ring : EventEnd = record { base = base; places = places; place = 0; cycle = true; free = places - 1; asks = false } in
    let is : free_by ring 0 ≡ 0 + places - 0 - 1 = free_ahead ring 0 (omega arith) (omega (arith, some)) in
    let same : places - 1 ≡ 0 + places - 0 - 1 = omega arith in
    record { enqueue_inside = omega (arith, some); dequeue_inside = omega (arith, some); counted = same ∙ sym is }

-- the producer one place on, or at the segment's start
record IsNext (old new : EventEnd) : Type 0 where
  places : new.places ≡ old.places
  free : new.free ≡ old.free - 1
  place : ((old.place + 1 ≡ old.places) × (new.place ≡ 0)) ⊎ ((old.place + 1 < old.places) × (new.place ≡ old.place + 1))

enqueued_next : (ring : EventEnd) (quiet : Bool) → ring.place < ring.places → IsNext ring (enqueued ring quiet)
unfolding enqueued
enqueued_next ring quiet inside = record {
  places = same_places (ring.place + 1 == ring.places);
  free = refl;
  place = elim (cases_lt (ring.place + 1) ring.places) [
    | inl on ↦
        let other : (ring.place + 1 == ring.places) ≡ false = ne_eqb (ring.place + 1) ring.places (λ e. absurd (omega (arith, e))) in
        inr (on, ap place_by other)
    | inr end ↦
        let last : ring.place + 1 ≡ ring.places = omega arith in
        inl (last, ap place_by (eq-eqb (ring.place + 1) ring.places last))
  ];
}
  where
    place_by : Bool → ℕ
    place_by end = (if end then record ring { place = 0; cycle = not ring.cycle } else record ring { place = ring.place + 1 }).place

    same_places : (end : Bool) → (if end then record ring { place = 0; cycle = not ring.cycle } else record ring { place = ring.place + 1 }).places ≡ ring.places
    same_places true = refl
    same_places false = refl

pub enqueued_base : (ring : EventEnd) (quiet : Bool) → (enqueued ring quiet).base ≡ ring.base
unfolding enqueued
enqueued_base ring quiet = by_end (ring.place + 1 == ring.places)
  where
    by_end : (end : Bool) → (if end then record ring { place = 0; cycle = not ring.cycle } else record ring { place = ring.place + 1 }).base ≡ ring.base
    by_end true = refl
    by_end false = refl

module _ (old new : EventEnd) (dequeue : ℕ) (freed : IsFreedTo old dequeue) (room : 2 ≤ old.free) (next : IsNext old new) where
  new_inside : new.place < new.places
  new_inside = elim (next.place) [ inl end ↦ omega (arith, next.places, freed.enqueue_inside, end.1) | inr on ↦ omega (arith, next.places, on.0, on.1) ]

  counts : IsFreedTo new dequeue
  counts = record {
    enqueue_inside = new_inside;
    dequeue_inside = omega (arith, freed.dequeue_inside, next.places);
    counted = elim (cases_lt old.place dequeue) [
      | inl first ↦
          let was : old.free ≡ dequeue - old.place - 1 = freed.counted ∙ free_behind old dequeue first freed.dequeue_inside in
          elim (next.place) [
            | inl end ↦ absurd (omega (arith, end.0, freed.dequeue_inside))
            | inr on ↦
                let before : new.place < dequeue = omega (arith, on.1) in
                let is = free_behind new dequeue before (omega (arith, freed.dequeue_inside, next.places)) in
                let e : new.free ≡ dequeue - new.place - 1 = omega (arith, next.free, on.1) in
                e ∙ sym is
          ]
      | inr from ↦
          let was : old.free ≡ dequeue + old.places - old.place - 1 = freed.counted ∙ free_ahead old dequeue from freed.enqueue_inside in
          elim (next.place) [
            | inl end ↦
                let before : new.place < dequeue = omega (arith, end.0, end.1) in
                let is = free_behind new dequeue before (omega (arith, freed.dequeue_inside, next.places)) in
                let e : new.free ≡ dequeue - new.place - 1 = omega (arith, next.free, end.0, end.1) in
                e ∙ sym is
            | inr on ↦
                let behind : dequeue ≤ new.place = omega (arith, on.1) in
                let is = free_ahead new dequeue behind new_inside in
                let e : new.free ≡ dequeue + new.places - new.place - 1 = omega (arith, next.free, next.places, on.0, on.1) in
                e ∙ sym is
          ]
    ];
  }

  -- where the dequeue place is first the next one isn't yet reached
  ahead : old.place < dequeue → (old.place + 1 < old.places) × (new.place ≡ old.place + 1) × (new.place < dequeue)
  ahead first =
      let was : old.free ≡ dequeue - old.place - 1 = freed.counted ∙ free_behind old dequeue first freed.dequeue_inside in
      elim (next.place) [
        | inl end ↦ absurd (omega (arith, end.0, freed.dequeue_inside))
        | inr on ↦ (on.0, on.1, omega (arith, on.1))
      ]

  -- and where the segment's end is, the dequeue place isn't the first
  behind_start : dequeue ≤ old.place → old.place + 1 ≡ old.places → 2 ≤ dequeue
  behind_start from end =
      let was : old.free ≡ dequeue + old.places - old.place - 1 = freed.counted ∙ free_ahead old dequeue from freed.enqueue_inside in
      omega arith

  others : (place : ℕ) → IsUnfreed old dequeue place → IsUnfreed new dequeue place
  others place (Between from below) = elim (next.place) [
    | inl end ↦
        let two = behind_start (omega arith) end.0 in
        ToTheEnd (omega (arith, end.1)) from (omega (arith, end.0, next.places))
    | inr on ↦ Between from (omega (arith, on.1))
  ]
  others place (ToTheEnd before from below) = let on = ahead before in ToTheEnd on.2 from (omega (arith, next.places))
  others place (FromTheStart before below) = let on = ahead before in FromTheStart on.2 (omega (arith, on.1))

  itself : IsUnfreed new dequeue old.place
  itself = elim (cases_lt old.place dequeue) [
    | inl first ↦ let on = ahead first in FromTheStart on.2 (omega (arith, on.1))
    | inr from ↦ elim (next.place) [
      | inl end ↦
          let two = behind_start from end.0 in
          ToTheEnd (omega (arith, end.1)) from (omega (arith, end.0, next.places))
      | inr on ↦ Between from (omega (arith, on.1))
    ]
  ]

pub posts_keep_unfreed : PostsKeepUnfreed
posts_keep_unfreed ring quiet dequeue freed room =
    let next = enqueued_next ring quiet freed.enqueue_inside in
    let two : 2 ≤ ring.free = leb-true 2 ring.free room in
    record {
      itself = itself ring (enqueued ring quiet) dequeue freed two next;
      others = others ring (enqueued ring quiet) dequeue freed two next;
      counts = counts ring (enqueued ring quiet) dequeue freed two next;
    }
