-- A ring of n places of which the last is a Link (xHCI 1.2, 4.9 and 4.11), as a counted list.
use Rattle.std.specs.Prelude.{◌≡◌, ℕ, ◌+◌, ◌-◌, ◌*◌, ◌/◌, ◌%◌, ◌^◌, ◌<◌, ◌≤◌, ◌⊎◌, Bool, true, false, List, [], ◌∷◌, length, drop, Option}
use Rattle.std.specs.Prelude.{Some, None, slice_get, option_map, option_and_then, ◌==◌, not, nat_lt, nat_le, if◌then◌else◌, All}
use Rattle.xhci_trb.specs.declared.Trb.{Trb}
use Rattle.xhci_trb.specs.declared.Trb.TheVariants.{Normal, Link, StopEndpoint, SetDequeue}
use Rattle.xhci_trb.specs.Text.{HasText, has_chain, text}
use Rattle.ring_ends.specs.Counted.{distance}

-- Where the ring starts, the counted place of the first item that isn't reclaimed (below 2 (n - 1), so
-- that it has a place and a turn), the items put and not reclaimed, and how many of them are consumed.
pub record RingOf (A : Type 0) : Type 0 where
  pub base : ℕ
  pub at : ℕ
  pub put : List A
  pub got : ℕ

-- a ring of TRBs
abbrev pub Ring : Type 0
Ring = RingOf Trb

-- a ring of zeros at its first place, both cycle states 1 (4.9.2)
abbrev pub opening : {A : Type 0} → ℕ → RingOf A
opening base = record { base = base; at = 0; put = []; got = 0 }

-- The place of item k: the Link's place n - 1 is stepped over.
-- Worked: n = 20 and at = 16: items 0, 1, 2 stand at 16, 17, 18, item 3 at 0.
abbrev pub place_of : {A : Type 0} → ℕ → RingOf A → ℕ → ℕ
place_of n r k = (r.at + k) % (n - 1)

-- the Cycle bit of item k: 1 on even turns (4.9.2.2)
abbrev pub cycle_of : {A : Type 0} → ℕ → RingOf A → ℕ → Bool
cycle_of n r k = (r.at + k) / (n - 1) % 2 == 0

-- the address of item k
abbrev pub pointer_of : {A : Type 0} → ℕ → RingOf A → ℕ → ℕ
pointer_of n r k = r.base + 16 * place_of n r k

-- the first pending item and its address
abbrev pub front_of : {A : Type 0} → ℕ → RingOf A → Option (ℕ × A)
front_of n r = option_map (λ item. (pointer_of n r r.got, item)) (slice_get r.put r.got)

-- the first m items are freed
abbrev pub reclaimed : {A : Type 0} → ℕ → ℕ → RingOf A → RingOf A
reclaimed n m r = record r { at = (r.at + m) % (2 * (n - 1)); put = drop m r.put; got = r.got - m }

-- item i of the new ring is item m + i of the old one: same address, same Cycle bit
pub record IsShifted {A : Type 0} (n m : ℕ) (old new : RingOf A) (i : ℕ) : Type 0 where
  pub pointer : pointer_of n new i ≡ pointer_of n old (m + i)
  pub cycle : cycle_of n new i ≡ cycle_of n old (m + i)

-- item k is consumed, and this is its address
abbrev pub IsConsumed : {A : Type 0} → ℕ → RingOf A → ℕ → ℕ → Type 0
IsConsumed n r k pointer = (k < r.got) × (pointer ≡ pointer_of n r k)

-- item k is pending, and this is its address and its Cycle bit
abbrev pub IsPending : {A : Type 0} → ℕ → RingOf A → ℕ → ℕ → Bool → Type 0
IsPending n r k pointer cycle =
    (r.got ≤ k) × (k < length r.put) × (pointer ≡ pointer_of n r k) × (cycle ≡ cycle_of n r k)

-- the enqueue place and the Cycle bit that its item will have
abbrev pub IsEnqueuePlace : {A : Type 0} → ℕ → RingOf A → ℕ → Bool → Type 0
IsEnqueuePlace n r pointer cycle = (pointer ≡ pointer_of n r (length r.put)) × (cycle ≡ cycle_of n r (length r.put))

-- a Link behind an item: back to the first place, Toggle Cycle, the Chain bit of the item before it
abbrev pub link_with : ℕ → Bool → Trb
link_with base chain = Link base true chain false

-- the Link behind a TRB
abbrev pub link_behind : Ring → Trb → Trb
link_behind r trb = link_with r.base (has_chain trb)

-- the bytes of item k, where it is there, by those of an item
abbrev pub image_by : {A : Type 0} → (A → Bool → List ℕ) → ℕ → RingOf A → ℕ → Option (List ℕ)
image_by look n r k = option_map (λ item. look item (cycle_of n r k)) (slice_get r.put k)

-- the bytes of the Link behind item k, where that is there, by an item's Chain bit: the Cycle bit is that of item k
abbrev pub link_image_by : {A : Type 0} → (A → Bool) → ℕ → RingOf A → ℕ → Option (List ℕ)
link_image_by chain n r k = image_by (λ item cycle. text (link_with r.base (chain item)) cycle) n r k

-- the same of TRBs
abbrev pub item_image : ℕ → Ring → ℕ → Option (List ℕ)
item_image n r k = image_by text n r k

abbrev pub link_image : ℕ → Ring → ℕ → Option (List ℕ)
link_image n r k = link_image_by has_chain n r k

-- item k is at this place, or is the last before the Link and this is the Link's place
abbrev pub IsInUse : {A : Type 0} → ℕ → RingOf A → ℕ → ℕ → Type 0
IsInUse n r k place =
    (k < length r.put) × ((place ≡ place_of n r k) ⊎ ((place ≡ n - 1) × (place_of n r k ≡ n - 2)))

abbrev pub IsNormal : Trb → Type 0
IsNormal (Normal pointer length td_size flags) = Unit {0}
IsNormal _ = ⊥

abbrev pub IsCommand : Trb → Type 0
IsCommand (StopEndpoint endpoint slot) = Unit {0}
IsCommand (SetDequeue pointer cycle stream endpoint slot) = Unit {0}
IsCommand _ = ⊥

-- Normal TRBs of which all have the Chain bit but the last, which hasn't (4.11)
abbrev pub IsChain : List Trb → Type 0
IsChain [] = ⊥
IsChain (trb ∷ []) = IsNormal trb × (has_chain trb ≡ false)
IsChain (trb ∷ next ∷ rest) = (IsNormal trb × (has_chain trb ≡ true)) × IsChain (next ∷ rest)

abbrev pub IsOneCommand : List Trb → Type 0
IsOneCommand (trb ∷ []) = IsCommand trb
IsOneCommand _ = ⊥

-- a transfer TD, or the TD of one command (4.11)
abbrev pub IsTd : List Trb → Type 0
IsTd trbs = IsChain trbs ⊎ IsOneCommand trbs

-- what holds of every ring of n places, and this of each item
pub record IsRingOf {A : Type 0} (HasBytes : A → Type 0) (n : ℕ) (r : RingOf A) : Type 0 where
  pub least_places : 4 ≤ n
  pub most_places : n ≤ 256
  pub base_aligned : r.base % 16 ≡ 0
  pub base_below : r.base < 2 ^ 63
  pub at_below : r.at < 2 * (n - 1)
  pub consumed : r.got ≤ length r.put
  pub room_left : length r.put ≤ n - 2
  pub texts : All HasBytes r.put

-- a ring of TRBs
abbrev pub IsRing : ℕ → Ring → Type 0
IsRing n r = IsRingOf HasText n r

-- The item that stands, or would stand, at this place, on a turn of that many places whose first item stands at `first`.
-- Worked: of 19 places and the first item at 16, place 18 has item 2 and place 0 item 3.
abbrev pub item_in : ℕ → ℕ → ℕ → ℕ
item_in turn first place = distance turn first place

-- the same by an address: none below the ring, inside a place, at the Link's or past it
abbrev pub item_at : {A : Type 0} → ℕ → RingOf A → ℕ → Option ℕ
item_at n r pointer =
    if nat_lt pointer r.base then None
    else (if not ((pointer - r.base) % 16 == 0) then None
    else (if nat_le (n - 1) ((pointer - r.base) / 16) then None
    else Some (item_in (n - 1) (r.at % (n - 1)) ((pointer - r.base) / 16))))

-- the consumed item at an address, while it isn't reclaimed
abbrev pub consumed_item : {A : Type 0} → RingOf A → ℕ → Option A
consumed_item r k = if nat_lt k r.got then slice_get r.put k else None

abbrev pub consumed_at : {A : Type 0} → ℕ → RingOf A → ℕ → Option A
consumed_at n r pointer = option_and_then (consumed_item r) (item_at n r pointer)

-- the first item that isn't reclaimed, once it is consumed, and its address
abbrev pub oldest_of : {A : Type 0} → ℕ → RingOf A → Option (ℕ × A)
oldest_of n r = option_map (λ item. (pointer_of n r 0, item)) (consumed_item r 0)

-- the address of each item of a turn names that item, and an address that names an item is that item's
abbrev pub AddressesNameItemsOf : Type 0 → Type 0
AddressesNameItemsOf A = (n k : ℕ) (r : RingOf A) → 4 ≤ n → k < n - 1 → item_at n r (pointer_of n r k) ≡ Some k

abbrev pub NamedItemsHaveAddressesOf : Type 0 → Type 0
NamedItemsHaveAddressesOf A =
    (n k pointer : ℕ) (r : RingOf A) → 4 ≤ n → item_at n r pointer ≡ Some k → (k < n - 1) × (pointer ≡ pointer_of n r k)

abbrev pub AddressesNameItems : Type 0
AddressesNameItems = AddressesNameItemsOf Trb

abbrev pub NamedItemsHaveAddresses : Type 0
NamedItemsHaveAddresses = NamedItemsHaveAddressesOf Trb
