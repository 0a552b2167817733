-- Where a ring's consumer's end may stand, and the ring that has it there. `engine::move_dequeue` cites it.
use Rattle.std.proofs.Common.{◌≡◌, ℕ, ◌-◌, ◌<◌, ◌≤◌, ◌⊎◌, ◌↔◌, Bool, true, false, nat_le, length, Option, None, Some, option_and_then}
use Rattle.std.proofs.Common.{Result, Ok, Err, refl, sym, arith, inl, inr}
use Rattle.std.specs.Prelude.{IsOk, OnErr, is_some}
use Rattle.std.specs.Option.{option_map_or}
use Rattle.std.specs.Result.{is_ok}
use Rattle.std.proofs.lemmas.Bool.{cases_Bool, cases_eq, le-leb, leb-true}
use Rattle.cycle_ring.specs.Ring.{IsEnqueuePlace, IsPending, AddressesNameItemsOf, NamedItemsHaveAddressesOf, pointer_of, cycle_of, item_at}
use Rattle.cycle_ring.specs.Items.{Item, ItemRing, IsItemRing}
use Rattle.xhci_ctl.specs.Engine.{is_state, dequeued_to, dequeued_at}

-- item k is pending or at the enqueue place, and this is its address and its Cycle bit
pub record StandsAt (n : ℕ) (ring : ItemRing) (k pointer : ℕ) (cycle : Bool) : Type 0 where
  pub consumed : ring.got ≤ k
  pub put : k ≤ length ring.put
  pub address : pointer ≡ pointer_of n ring k
  pub state : cycle ≡ cycle_of n ring k

is_state-same : (state cycle : Bool) → state ≡ cycle → is_state state cycle ≡ true
is_state-same true cycle same = sym same
is_state-same false cycle same = rw (← same) refl

is_state-only : (state cycle : Bool) → is_state state cycle ≡ true → state ≡ cycle
is_state-only true cycle is = sym is
is_state-only false true is = absurd (cc)
is_state-only false false is = refl

pub dequeued-stands : (named : AddressesNameItemsOf Item) (n k pointer : ℕ) (ring : ItemRing) (cycle : Bool) → IsItemRing n ring
    → StandsAt n ring k pointer cycle → dequeued_at n ring pointer cycle ≡ Some (record ring { got = k })
dequeued-stands named n k pointer ring cycle is stands =
    let below : k < n - 1 = omega (arith, is.least_places, is.room_left, stands.put) in
    let item : item_at n ring pointer ≡ Some k = rw stands.address (named n k ring is.least_places below) in
    rw (
      item,
      le-leb ring.got k stands.consumed,
      le-leb k (length ring.put) stands.put,
      is_state-same cycle (cycle_of n ring k) stands.state,
    ) refl

-- an item that the end can't stand at
dequeued_to-none : (n k : ℕ) (ring : ItemRing) (cycle : Bool)
    → (ring.got ≤ k → k ≤ length ring.put → cycle ≡ cycle_of n ring k → ⊥) → dequeued_to n ring cycle k ≡ None
dequeued_to-none n k ring cycle nowhere =
    elim (cases_Bool (nat_le ring.got k)) as (λ _. dequeued_to n ring cycle k ≡ None) [
      | inr before ↦ rw before refl
      | inl behind ↦ elim (cases_Bool (nat_le k (length ring.put))) as (λ _. dequeued_to n ring cycle k ≡ None) [
        | inr past ↦ rw (behind, past) refl
        | inl within ↦ elim (cases_Bool (is_state cycle (cycle_of n ring k))) as (λ _. dequeued_to n ring cycle k ≡ None) [
          | inr other ↦ rw (behind, within, other) refl
          | inl same ↦
              absurd (nowhere (leb-true ring.got k behind) (leb-true k (length ring.put) within) (is_state-only cycle (cycle_of n ring k) same))
        ]
      ]
    ]

dequeued-none_at : (n pointer : ℕ) (ring : ItemRing) (cycle : Bool) (item : Option ℕ)
    → ((k : ℕ) → item ≡ Some k → dequeued_to n ring cycle k ≡ None) → option_and_then (dequeued_to n ring cycle) item ≡ None
dequeued-none_at n pointer ring cycle None none = refl
dequeued-none_at n pointer ring cycle (Some k) none = none k refl

pub dequeued-none : (only : NamedItemsHaveAddressesOf Item) (n pointer : ℕ) (ring : ItemRing) (cycle : Bool) → IsItemRing n ring
    → ((k : ℕ) → StandsAt n ring k pointer cycle → ⊥) → dequeued_at n ring pointer cycle ≡ None
dequeued-none only n pointer ring cycle is nowhere =
    dequeued-none_at n pointer ring cycle (item_at n ring pointer)
    (λ k at.
    dequeued_to-none n k ring cycle
    (λ consumed put state.
    nowhere k (record { consumed = consumed; put = put; address = (only n k pointer ring is.least_places at).1; state = state })))

-- a ring's consumer's end is pending, or at the enqueue place
stands-pending : (n k pointer : ℕ) (ring : ItemRing) (cycle : Bool) → IsPending n ring k pointer cycle → StandsAt n ring k pointer cycle
stands-pending n k pointer ring cycle pending =
    record { consumed = pending.0; put = omega (arith, pending.1); address = pending.2; state = pending.3 }

stands-enqueue : (n pointer : ℕ) (ring : ItemRing) (cycle : Bool) → IsItemRing n ring → IsEnqueuePlace n ring pointer cycle
    → StandsAt n ring (length ring.put) pointer cycle
stands-enqueue n pointer ring cycle is place =
    record { consumed = is.consumed; put = omega arith; address = place.0; state = place.1 }

abbrev pub MayStand : ℕ → ItemRing → ℕ → Bool → Type 0
MayStand n ring pointer cycle = IsEnqueuePlace n ring pointer cycle ⊎ ((k : ℕ) × IsPending n ring k pointer cycle)

-- which of the two a place is
may-stand : (n k pointer : ℕ) (ring : ItemRing) (cycle : Bool) → StandsAt n ring k pointer cycle → MayStand n ring pointer cycle
may-stand n k pointer ring cycle stands =
    elim (cases_eq k (length ring.put)) as (λ _. MayStand n ring pointer cycle) [
      | inl last ↦ inl (rw last at stands.address, rw last at stands.state)
      | inr other ↦ inr (k, (stands.consumed, omega (arith, stands.put), stands.address, stands.state))
    ]

-- What a call that moves the end tells, against the ring that has it there: old and new lines, and what putting a ring there makes.
pub moved-dequeued : {L T E : Type 0} (named : AddressesNameItemsOf Item) (only : NamedItemsHaveAddressesOf Item) (n pointer : ℕ) (ring : ItemRing)
    (cycle : Bool) (old new : L) (set : ItemRing → L) (result : Result T E) → IsItemRing n ring → (IsOk result ↔ MayStand n ring pointer cycle)
    → (IsEnqueuePlace n ring pointer cycle → new ≡ set (record ring { got = length ring.put }))
    → ((k : ℕ) → IsPending n ring k pointer cycle → new ≡ set (record ring { got = k })) → OnErr result (new ≡ old)
    → (is_ok result ≡ is_some (dequeued_at n ring pointer cycle)) × (new ≡ option_map_or set (dequeued_at n ring pointer cycle) old)
moved-dequeued named only n pointer ring cycle old new set (Ok value) is accepted enqueue pending refused =
    elim (accepted.0 refl) as (λ _. (true ≡ is_some (dequeued_at n ring pointer cycle))
    × (new ≡ option_map_or set (dequeued_at n ring pointer cycle) old)) [
      | inl place ↦
          let there = dequeued-stands named n (length ring.put) pointer ring cycle is (stands-enqueue n pointer ring cycle is place) in
          rw there (refl, enqueue place)
      | inr (k, stands) ↦
          let there = dequeued-stands named n k pointer ring cycle is (stands-pending n k pointer ring cycle stands) in
          rw there (refl, pending k stands)
    ]
moved-dequeued named only n pointer ring cycle old new set (Err error) is accepted enqueue pending refused =
    let nowhere =
    dequeued-none only n pointer ring cycle is
    (λ k stands. let other : false ≡ true = accepted.1 (may-stand n k pointer ring cycle stands) in absurd (cc)) in
    rw nowhere (refl, refused)
