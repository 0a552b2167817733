-- The engine's commands, and what a ring has once all its consumed TRBs are freed.
use Rattle.std.proofs.Common.{◌≡◌, ℕ, zero, suc, Bool, true, false, ◌-◌, ◌<◌, List, [], ◌∷◌, take, drop, Option, Some, None, IsSome, refl, sym}
use Rattle.std.proofs.Common.{arith, ap, ◌∙◌, inl, inr}
use Rattle.std.specs.Prelude.{nat_lt, slice_get, slice_set, option_and_then, option_map}
use Rattle.std.proofs.lemmas.Bool.{cases_Bool, ltb-true, ltb-false}
use Rattle.std.proofs.lemmas.Option.{none-some, same_Some}
use Rattle.uas_profile.specs.declared.TheConstants.{ENGINE_RING_PLACES}
use Rattle.xhci_trb.specs.declared.Trb.{Trb}
use Rattle.cycle_ring.specs.Ring.{IsConsumed, NamedItemsHaveAddressesOf, consumed_item, item_at, pointer_of, reclaimed}
use Rattle.cycle_ring.specs.Items.{Item, ItemRing, foreign, known, known_consumed_at, known_of, known_oldest_of}
use Rattle.uas_profile.specs.declared.Pipe.{Pipe}
use Rattle.uas_profile.specs.declared.Pipe.TheVariants.{Command, Status, DataIn, DataOut}
use Rattle.uas_profile.specs.Pipes.{HasStreams}
use Rattle.stream_array.specs.Map.{HasRing, places_of}
use Rattle.stream_array.specs.Rings.{ChangedRingIsThere, IsLines, LinesState, ring_of, with_ring}
use Rattle.uas_host.specs.Retirement.{emptied, trbs_before, with_first_freed}
use Rattle.uas_host.proofs.Reclaiming.{reclaimed_further}

-- THE ENGINE'S COMMAND AT AN ADDRESS

no-item : (r : ItemRing) (item : ℕ) → nat_lt item r.got ≡ false → IsSome (option_and_then known_of (consumed_item r item)) → ⊥
no-item r item above is = let none : ◌≡◌ {A = Bool} false true = rw above at is in cc

item-below : (r : ItemRing) (item : ℕ) → IsSome (option_and_then known_of (consumed_item r item)) → item < r.got
item-below r item is =
    elim (cases_Bool (nat_lt item r.got)) as (λ _. item < r.got) [
      | inl below ↦ ltb-true item r.got below
      | inr above ↦ absurd (no-item r item above is)
    ]

pub engine-item : NamedItemsHaveAddressesOf Item → (r : ItemRing) (pointer : ℕ) → IsSome (known_consumed_at ENGINE_RING_PLACES r pointer) →
    (item : ℕ) × (item_at ENGINE_RING_PLACES r pointer ≡ Some item) × IsConsumed ENGINE_RING_PLACES r item pointer
engine-item named r pointer is =
    elim (item_at ENGINE_RING_PLACES r pointer) as (λ o. item_at ENGINE_RING_PLACES r pointer ≡ o → IsSome (option_and_then known_of (option_and_then (consumed_item r) o)) →
    (item : ℕ) × (item_at ENGINE_RING_PLACES r pointer ≡ Some item) × IsConsumed ENGINE_RING_PLACES r item pointer) [
      | None ↦ λ none found. absurd (cc)
      | Some item ↦ λ some found. (item, some, (item-below r item found, (named ENGINE_RING_PLACES item pointer r (omega arith) some).1))
    ] refl is

-- A RING FREED TRB BY TRB

set_twice : (rings : List ItemRing) (at : ℕ) (one other : ItemRing) → slice_set (slice_set rings at one) at other ≡ slice_set rings at other
set_twice [] at one other = refl
set_twice (ring ∷ rest) zero one other = refl
set_twice (ring ∷ rest) (suc at) one other = ap (λ rings. ring ∷ rings) (set_twice rest at one other)

ring_twice : (pipe : Pipe) (lines : LinesState) (stream : ℕ) (one other : ItemRing) →
    with_ring (with_ring lines pipe stream one) pipe stream other ≡ with_ring lines pipe stream other
ring_twice Command lines stream one other = refl
ring_twice Status lines stream one other = ap (λ rings. record lines { status = rings }) (set_twice lines.status (stream - 1) one other)
ring_twice DataIn lines stream one other = ap (λ rings. record lines { data_in = rings }) (set_twice lines.data_in (stream - 1) one other)
ring_twice DataOut lines stream one other = ap (λ rings. record lines { data_out = rings }) (set_twice lines.data_out (stream - 1) one other)

-- the lines with the first TRB of a ring freed
abbrev first_freed : LinesState → Pipe → ℕ → LinesState
first_freed lines pipe stream = with_ring lines pipe stream (reclaimed (places_of pipe) 1 (ring_of lines pipe stream))

freed_further : (lines : LinesState) (pipe : Pipe) (stream more : ℕ) → HasStreams pipe →
    ring_of (first_freed lines pipe stream) pipe stream ≡ reclaimed (places_of pipe) 1 (ring_of lines pipe stream) →
    with_first_freed (first_freed lines pipe stream) pipe stream more ≡ with_first_freed lines pipe stream (suc more)
freed_further lines pipe stream zero has there = refl
freed_further lines pipe stream (suc more) has there =
    ap (λ ring. with_ring (first_freed lines pipe stream) pipe stream (reclaimed (places_of pipe) (suc more) ring)) there
    ∙ (ring_twice pipe lines stream (reclaimed (places_of pipe) 1 (ring_of lines pipe stream))
    (reclaimed (places_of pipe) (suc more) (reclaimed (places_of pipe) 1 (ring_of lines pipe stream)))
    ∙ ap (with_ring lines pipe stream) (reclaimed_further (places_of pipe) (ring_of lines pipe stream) (suc more)))

before_first : (put : List Item) (got : ℕ) (trb : Trb) → 0 < got → slice_get put 0 ≡ Some (known trb)
    → trbs_before (take got put) ≡ suc (trbs_before (take (got - 1) (drop 1 put)))
before_first [] got trb some is = absurd (none-some (known trb) is)
before_first (first ∷ rest) zero trb some is = absurd (omega arith)
before_first (first ∷ rest) (suc got) trb some is =
    let same : first ≡ known trb = same_Some first (known trb) is in let less : suc got - 1 ≡ got = omega arith in rw (same, less) refl

-- the first consumed TRB is freed, and all are at last
pub emptied-step : ChangedRingIsThere → (lines : LinesState) (pipe : Pipe) (stream : ℕ) (trb : Trb) → IsLines lines → HasRing pipe stream
    → HasStreams pipe → 0 < (ring_of lines pipe stream).got → slice_get (ring_of lines pipe stream).put 0 ≡ Some (known trb)
    → emptied (with_ring lines pipe stream (reclaimed (places_of pipe) 1 (ring_of lines pipe stream))) pipe stream ≡ emptied lines pipe stream
emptied-step changed lines pipe stream trb is ring has some first =
    let there = changed lines pipe stream (reclaimed (places_of pipe) 1 (ring_of lines pipe stream)) is ring in
    ap (λ (ring : ItemRing). with_first_freed (first_freed lines pipe stream) pipe stream (trbs_before (take ring.got ring.put))) there
    ∙ (freed_further lines pipe stream (trbs_before (take ((ring_of lines pipe stream).got - 1) (drop 1 (ring_of lines pipe stream).put))) has there
    ∙ ap (with_first_freed lines pipe stream) (sym (before_first (ring_of lines pipe stream).put (ring_of lines pipe stream).got trb some first)))

-- where no TRB is the oldest, none is freed
none-first : (put : List Item) (got pointer : ℕ)
    → ◌≡◌ {A = Option (ℕ × Trb)} None (option_map (λ trb. (pointer, trb)) (option_and_then known_of (slice_get put 0))) → trbs_before (take got put) ≡ 0
none-first put zero pointer none = refl
none-first [] (suc got) pointer none = refl
none-first (known trb ∷ rest) (suc got) pointer none = absurd (none-some (pointer, trb) none)
none-first (foreign bytes ∷ rest) (suc got) pointer none = refl

pub none-freed : (n : ℕ) (ring : ItemRing) → None ≡ known_oldest_of n ring → trbs_before (take ring.got ring.put) ≡ 0
none-freed n ring none =
    elim (cases_Bool (nat_lt 0 ring.got)) as (λ _. trbs_before (take ring.got ring.put) ≡ 0) [
      | inl some ↦
          let found : ◌≡◌ {A = Option (ℕ × Trb)} None (option_map (λ trb. (pointer_of n ring 0, trb)) (option_and_then known_of (slice_get ring.put 0))) =
          rw some at none in
          none-first ring.put ring.got (pointer_of n ring 0) found
      | inr none_left ↦
          let zeroth : ring.got ≡ 0 = omega (arith, ltb-false 0 ring.got none_left) in ap (λ n. trbs_before (take n ring.put)) zeroth
    ]

pub emptied-none : (lines : LinesState) (pipe : Pipe) (stream : ℕ)
    → trbs_before (take (ring_of lines pipe stream).got (ring_of lines pipe stream).put) ≡ 0 → emptied lines pipe stream ≡ lines
emptied-none lines pipe stream none = ap (with_first_freed lines pipe stream) none
