-- A consumer's end that is moved to a pending item, whatever the item's Cycle bit, and one behind it.
use Rattle.std.proofs.Common.{◌≡◌, ℕ, ◌+◌, ◌-◌, ◌<◌, ◌≤◌, ◌↔◌, Bool, true, false, nat_le, nat_lt, length, Option, None, Some, option_and_then}
use Rattle.std.proofs.Common.{Result, Ok, Err, refl, ap, ◌∙◌, arith, inl, inr}
use Rattle.std.specs.Prelude.{IsOk, OnErr, is_some}
use Rattle.std.specs.Option.{option_map_or}
use Rattle.std.specs.Result.{is_ok}
use Rattle.std.proofs.lemmas.Bool.{cases_Bool, false≢true, le-leb, leb-true, lt-ltb, ltb-true}
use Rattle.std.proofs.lemmas.List.{set-set}
use Rattle.cycle_ring.specs.Ring.{IsPending, AddressesNameItemsOf, NamedItemsHaveAddressesOf, cycle_of, item_at}
use Rattle.cycle_ring.specs.Items.{Item, ItemRing, IsItemRing}
use Rattle.uas_profile.specs.declared.Pipe.{Pipe}
use Rattle.uas_profile.specs.declared.Pipe.TheVariants.{Command, Status, DataIn, DataOut}
use Rattle.stream_array.specs.Map.{HasRing}
use Rattle.stream_array.specs.Rings.{ChangedRingIsThere, IsLines, LinesState, ring_of, with_ring}
use Rattle.uas_driver.specs.Settled.{pending_place, pending_to}

-- PENDING ITEMS

-- an item is pending at an address, with this Cycle bit
abbrev pub HasPending : ℕ → ItemRing → ℕ → Bool → Type 0
HasPending n ring pointer cycle = (k : ℕ) × IsPending n ring k pointer cycle

pending-some : (named : AddressesNameItemsOf Item) (n k pointer : ℕ) (ring : ItemRing) (cycle : Bool) → IsItemRing n ring
    → IsPending n ring k pointer cycle → pending_place n ring pointer ≡ Some k
pending-some named n k pointer ring cycle is pending =
    let below : k < n - 1 = omega (arith, is.least_places, is.room_left, pending.1) in
    let item : item_at n ring pointer ≡ Some k = rw pending.2 (named n k ring is.least_places below) in
    rw (item, le-leb ring.got k pending.0, lt-ltb k (length ring.put) pending.1) refl

-- of an address with no pending item of either Cycle bit
pending_to-none : (ring : ItemRing) (k : ℕ) → (ring.got ≤ k → k < length ring.put → ⊥) → pending_to ring k ≡ None
pending_to-none ring k nowhere =
    elim (cases_Bool (nat_le ring.got k)) as (λ _. pending_to ring k ≡ None) [
      | inr before ↦ rw before refl
      | inl behind ↦ elim (cases_Bool (nat_lt k (length ring.put))) as (λ _. pending_to ring k ≡ None) [
        | inr past ↦ rw (behind, past) refl
        | inl within ↦ absurd (nowhere (leb-true ring.got k behind) (ltb-true k (length ring.put) within))
      ]
    ]

none_at : (ring : ItemRing) (item : Option ℕ) → ((k : ℕ) → item ≡ Some k → pending_to ring k ≡ None)
    → option_and_then (pending_to ring) item ≡ None
none_at ring None none = refl
none_at ring (Some k) none = none k refl

-- a Cycle bit is one of two
one-of : (n pointer : ℕ) (ring : ItemRing) (cycle : Bool) → (HasPending n ring pointer false → ⊥) → (HasPending n ring pointer true → ⊥)
    → HasPending n ring pointer cycle → ⊥
one-of n pointer ring false low high = low
one-of n pointer ring true low high = high

pending-none : (only : NamedItemsHaveAddressesOf Item) (n pointer : ℕ) (ring : ItemRing) → IsItemRing n ring
    → (HasPending n ring pointer false → ⊥) → (HasPending n ring pointer true → ⊥) → pending_place n ring pointer ≡ None
pending-none only n pointer ring is low high =
    none_at ring (item_at n ring pointer) (λ k at.
    pending_to-none ring k (λ behind within.
    one-of n pointer ring (cycle_of n ring k) low high (k, (behind, within, (only n k pointer ring is.least_places at).1, refl))))

-- BOTH TRIES

-- a call that was refused
pub refused-told : {T E : Type 0} (result : Result T E) (P : Type 0) → is_ok result ≡ false → OnErr result P → P
refused-told (Ok value) P is told = absurd (cc)
refused-told (Err error) P is told = told

pub refused-nowhere : {T E : Type 0} (result : Result T E) (P : Type 0) → is_ok result ≡ false → (IsOk result ↔ P) → P → ⊥
refused-nowhere (Ok value) P is accepted there = absurd (cc)
refused-nowhere (Err error) P is accepted there = false≢true (accepted.1 there)

-- What the second try tells once the first was refused: old and new lines, and what putting a ring there makes.
pub stood : {L T E : Type 0} (named : AddressesNameItemsOf Item) (only : NamedItemsHaveAddressesOf Item) (n pointer : ℕ) (ring : ItemRing)
    (old new : L) (put : ItemRing → L) (result : Result T E) → IsItemRing n ring → (HasPending n ring pointer false → ⊥)
    → (IsOk result ↔ HasPending n ring pointer true)
    → ((k : ℕ) → IsPending n ring k pointer true → new ≡ put (record ring { got = k })) → OnErr result (new ≡ old)
    → (is_ok result ≡ is_some (pending_place n ring pointer))
    × (new ≡ option_map_or (λ k. put (record ring { got = k })) (pending_place n ring pointer) old)
stood named only n pointer ring old new put (Ok value) is low accepted moved refused =
    let there = accepted.0 refl in
    rw (pending-some named n there.0 pointer ring true is there.1) (refl, moved there.0 there.1)
stood named only n pointer ring old new put (Err error) is low accepted moved refused =
    rw (pending-none only n pointer ring is low (λ there. false≢true (accepted.1 there))) (refl, refused)

-- ONE BEHIND

-- a ring that is put twice
with_ring-with_ring : (lines : LinesState) (pipe : Pipe) (stream : ℕ) (first second : ItemRing)
    → with_ring (with_ring lines pipe stream first) pipe stream second ≡ with_ring lines pipe stream second
with_ring-with_ring lines Command stream first second = refl
with_ring-with_ring lines Status stream first second = ap (λ rings. record lines { status = rings }) (set-set lines.status (stream - 1) first second)
with_ring-with_ring lines DataIn stream first second = ap (λ rings. record lines { data_in = rings }) (set-set lines.data_in (stream - 1) first second)
with_ring-with_ring lines DataOut stream first second = ap (λ rings. record lines { data_out = rings }) (set-set lines.data_out (stream - 1) first second)

-- the lines with a ring's consumer's end at item k, and one behind it
abbrev pub at_item : LinesState → Pipe → ℕ → ℕ → LinesState
at_item lines pipe stream k = with_ring lines pipe stream (record (ring_of lines pipe stream) { got = k })

abbrev pub one_on : LinesState → Pipe → ℕ → LinesState
one_on lines pipe stream = with_ring lines pipe stream (record (ring_of lines pipe stream) { got = (ring_of lines pipe stream).got + 1 })

one_on-at_item : (changed : ChangedRingIsThere) (lines : LinesState) (pipe : Pipe) (stream k : ℕ) → IsLines lines → HasRing pipe stream
    → one_on (at_item lines pipe stream k) pipe stream ≡ at_item lines pipe stream (k + 1)
one_on-at_item changed lines pipe stream k sound has =
    let ring : ItemRing = record (ring_of lines pipe stream) { got = k } in
    ap (λ (now : ItemRing). with_ring (at_item lines pipe stream k) pipe stream (record now { got = now.got + 1 })) (changed lines pipe stream ring sound has)
    ∙ with_ring-with_ring lines pipe stream ring (record ring { got = k + 1 })

pub passed : (changed : ChangedRingIsThere) (lines now after : LinesState) (pipe : Pipe) (stream : ℕ) (place : Option ℕ) → IsLines lines
    → HasRing pipe stream → is_some place ≡ true → now ≡ option_map_or (at_item lines pipe stream) place lines → after ≡ one_on now pipe stream
    → after ≡ option_map_or (λ k. at_item lines pipe stream (k + 1)) place lines
passed changed lines now after pipe stream None sound has some stands is = absurd (cc)
passed changed lines now after pipe stream (Some k) sound has some stands is =
    is ∙ ap (λ (there : LinesState). one_on there pipe stream) stands ∙ one_on-at_item changed lines pipe stream k sound has
