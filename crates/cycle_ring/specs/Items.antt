-- What stands at a ring's places: TRBs, and bytes that are none, which the ring holds as it was given them (xHCI 1.2, 4.9.2 and 6.4).
use Rattle.std.specs.Prelude.{◌≡◌, ◌≢◌, ℕ, ◌+◌, ◌*◌, ◌/◌, ◌<◌, Bool, false, List, ◌++◌, length, map, Option, Some, None}
use Rattle.std.specs.Prelude.{slice_get, slice_index, slice_set, option_map, option_and_then}
use Rattle.xhci_trb.specs.declared.Trb.{Trb}
use Rattle.xhci_trb.specs.declared.TrbFault.{TrbFault}
use Rattle.xhci_trb.specs.Words.{words_in}
use Rattle.xhci_trb.specs.Text.{HasText, bit, fault_in, has_chain, text}
use Rattle.xhci_trb.specs.Reader.{trb_in, cycle_in}
use Rattle.ring_ends.specs.Held.{Form, chain_in}
use Rattle.cycle_ring.specs.Ring.{RingOf, Ring, IsRingOf, IsRing, pointer_of, cycle_of, front_of, reclaimed, consumed_item, consumed_at, oldest_of}
use Rattle.cycle_ring.specs.Ring.{image_by, link_image_by, item_image, link_image}

-- a TRB, or 16 bytes with Cycle bit 0 that are no TRB's text
pub data Item : Type 0 where
  known : Trb → Item
  foreign : List ℕ → Item

-- The same bytes with this Cycle bit: bit 0 of byte 12, the low byte of the control word.
-- Worked: byte 12 = 11h with Cycle bit 0 is 10h, and 10h with Cycle bit 1 is 11h.
unfoldable pub stamped : List ℕ → Bool → List ℕ
stamped bytes cycle = slice_set bytes 12 (slice_index bytes 12 / 2 * 2 + bit cycle)

-- the bytes of an item with a Cycle bit
abbrev pub item_text : Item → Bool → List ℕ
item_text (known trb) cycle = text trb cycle
item_text (foreign bytes) cycle = stamped bytes cycle

-- the item that bytes with this fault are
abbrev pub item_with : Option TrbFault → List ℕ → Item
item_with None bytes = known (trb_in (words_in bytes))
item_with (Some fault) bytes = foreign (stamped bytes false)

-- the item that bytes are read as, whatever their Cycle bit
unfoldable pub item_read : List ℕ → Item
item_read bytes = item_with (fault_in (words_in bytes)) bytes

-- a TRB's text is that TRB, and bytes are the same item with either Cycle bit
abbrev pub TextsAreTheirTrbs : Type 0
TextsAreTheirTrbs = (trb : Trb) (cycle : Bool) → HasText trb → item_read (text trb cycle) ≡ known trb

abbrev pub AnyCycleBitIsRead : Type 0
AnyCycleBitIsRead = (bytes : List ℕ) (cycle : Bool) → length bytes ≡ 16 → item_read (stamped bytes cycle) ≡ item_read bytes

-- the form of an item
abbrev pub item_form : Form Item
item_form = record { look = item_text; read = item_read }

-- bytes that a ring holds and that are no TRB's text
pub record IsForeign (bytes : List ℕ) : Type 0 where
  pub size : length bytes ≡ 16
  pub below : (k : ℕ) → slice_index bytes k < 256
  pub cycle : cycle_in (words_in bytes) ≡ false
  pub fault : fault_in (words_in bytes) ≢ None

-- an item that has bytes
abbrev pub HasBytes : Item → Type 0
HasBytes (known trb) = HasText trb
HasBytes (foreign bytes) = IsForeign bytes

-- an item's Chain bit (4.11): of foreign bytes what stands at its place, bit 4 of their control word
abbrev pub item_chain : Item → Bool
item_chain (known trb) = has_chain trb
item_chain (foreign bytes) = chain_in (words_in bytes)

-- the TRB of an item that is one
abbrev pub known_of : Item → Option Trb
known_of (known trb) = Some trb
known_of (foreign bytes) = None

-- a ring of items
abbrev pub ItemRing : Type 0
ItemRing = RingOf Item

abbrev pub IsItemRing : ℕ → ItemRing → Type 0
IsItemRing n r = IsRingOf HasBytes n r

-- the first pending item and its address, where it is a TRB
abbrev pub known_front_of : ℕ → ItemRing → Option (ℕ × Trb)
known_front_of n r = option_map (λ trb. (pointer_of n r r.got, trb)) (option_and_then known_of (slice_get r.put r.got))

-- the bytes of the first pending item and its address, whatever it is
abbrev pub raw_front_of : ℕ → ItemRing → Option (ℕ × List ℕ)
raw_front_of n r = option_map (λ item. (pointer_of n r r.got, item_text item (cycle_of n r r.got))) (slice_get r.put r.got)

-- the consumed item at an address, while it isn't reclaimed, where it is a TRB
abbrev pub known_consumed_at : ℕ → ItemRing → ℕ → Option Trb
known_consumed_at n r pointer = option_and_then known_of (consumed_at n r pointer)

-- the Chain bit of the consumed item at an address, while it isn't reclaimed, whatever it is
abbrev pub chain_consumed_at : ℕ → ItemRing → ℕ → Option Bool
chain_consumed_at n r pointer = option_map item_chain (consumed_at n r pointer)

-- the first item that isn't reclaimed, once it is consumed, and its address, where it is a TRB
abbrev pub known_oldest_of : ℕ → ItemRing → Option (ℕ × Trb)
known_oldest_of n r = option_map (λ trb. (pointer_of n r 0, trb)) (option_and_then known_of (consumed_item r 0))

-- the bytes of item k, and of the Link behind it
abbrev pub raw_image : ℕ → ItemRing → ℕ → Option (List ℕ)
raw_image n r k = image_by item_text n r k

abbrev pub raw_link_image : ℕ → ItemRing → ℕ → Option (List ℕ)
raw_link_image n r k = link_image_by item_chain n r k

-- the TRB of an item, and any one of foreign bytes
abbrev pub trb_of : Item → Trb
trb_of (known trb) = trb
trb_of (foreign bytes) = trb_in (words_in bytes)

-- a ring as a ring of TRBs, and that its items are TRBs
abbrev pub trb_ring : ItemRing → Ring
trb_ring r = record { base = r.base; at = r.at; put = map trb_of r.put; got = r.got }

abbrev pub AreTrbs : ItemRing → Type 0
AreTrbs r = r.put ≡ map known (map trb_of r.put)

-- where all items are TRBs, what is said of items is what is said of TRBs
pub record AgreesOn (n : ℕ) (r : ItemRing) : Type 0 where
  pub ring : IsItemRing n r → IsRing n (trb_ring r)
  pub item : (k : ℕ) (trb : Trb) → slice_get r.put k ≡ Some (known trb) → slice_get (trb_ring r).put k ≡ Some trb
  pub front : known_front_of n r ≡ front_of n (trb_ring r)
  pub consumed : (pointer : ℕ) → known_consumed_at n r pointer ≡ consumed_at n (trb_ring r) pointer
  pub chain : (pointer : ℕ) → chain_consumed_at n r pointer ≡ option_map has_chain (consumed_at n (trb_ring r) pointer)
  pub oldest : known_oldest_of n r ≡ oldest_of n (trb_ring r)
  pub image : (k : ℕ) → raw_image n r k ≡ item_image n (trb_ring r) k
  pub link : (k : ℕ) → raw_link_image n r k ≡ link_image n (trb_ring r) k

abbrev pub TrbRingsAgree : Type 0
TrbRingsAgree = (n : ℕ) (r : ItemRing) → AreTrbs r → AgreesOn n r

-- they stay TRBs beside TRBs that are put, and where the first ones are freed
abbrev pub TrbsArePut : Type 0
TrbsArePut =
    (r : ItemRing) (trbs : List Trb) → AreTrbs r
    → AreTrbs (record r { put = r.put ++ map known trbs })
    × (trb_ring (record r { put = r.put ++ map known trbs }) ≡ record (trb_ring r) { put = (trb_ring r).put ++ trbs })

abbrev pub TrbsAreFreed : Type 0
TrbsAreFreed =
    (n m : ℕ) (r : ItemRing) → AreTrbs r
    → AreTrbs (reclaimed n m r) × (trb_ring (reclaimed n m r) ≡ reclaimed n m (trb_ring r))
