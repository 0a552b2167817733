-- A memory that holds a ring of the profile's, and where a consumer stands on it that reads that memory (xHCI 1.2, 4.9.2 and 4.11.5).
use Rattle.std.specs.Prelude.{◌≡◌, ℕ, ◌+◌, ◌-◌, ◌*◌, ◌/◌, ◌%◌, ◌<◌, ◌⊎◌, ◌==◌, Bool, true, false, not, List, [], length, Some, slice_get, slice_index_or, option_map}
use Rattle.xhci_trb.specs.declared.Trb.{Trb}
use Rattle.xhci_trb.specs.declared.Trb.TheVariants.{Normal as NormalTrb, Link as LinkTrb, StopEndpoint, SetDequeue, TransferEvent, CommandEvent}
use Rattle.xhci_trb.specs.declared.TrbFlags.{TrbFlags}
use Rattle.xhci_trb.specs.Text.{HasText, text}
use Rattle.cycle_ring.specs.Ring.{pointer_of, place_of, cycle_of, link_with}
use Rattle.cycle_ring.specs.Items.{ItemRing, IsItemRing, item_text}
use Rattle.cycle_ring.specs.Segment.{HoldsItems}
use Rattle.guest_memory.specs.Bytes.{Memory, bytes_from}
use Rattle.guest_memory.specs.declared.rings.cursor.Cursor.{Cursor}
use Rattle.guest_memory.specs.declared.rings.words.Words.{Words}
use Rattle.guest_memory.specs.declared.rings.trb.Flags.{Flags}
use Rattle.guest_memory.specs.declared.rings.trb.PipeTrb.{PipeTrb}
use Rattle.guest_memory.specs.declared.rings.trb.PipeTrb.TheVariants.{Normal, Link, Foreign}
use Rattle.guest_memory.specs.rings.Words.{words_in}
use Rattle.guest_memory.specs.rings.Trbs.{trb_in}
use Rattle.guest_memory.specs.rings.Ends.{behind, fetched, followed}

-- THE RING IN MEMORY

-- the places of a segment stand in memory, 16 bytes each, from its first byte on
abbrev pub HasPlaces : Memory → ℕ → List (List ℕ) → Type 0
HasPlaces memory base places = (k : ℕ) → k < length places → bytes_from memory (base + 16 * k) 16 ≡ Some (slice_index_or places k [])

-- memory holds a ring of n places: at each the 16 bytes that its segment has, items with the Cycle bits of their turns, and the Link
pub record HoldsRing (n : ℕ) (r : ItemRing) (memory : Memory) : Type 0 where
  pub ring : IsItemRing n r
  pub places : List (List ℕ)
  pub items : HoldsItems n r.base places r.at r.put
  pub there : HasPlaces memory r.base places

-- THE CONSUMER'S END

-- the dequeue pointer and the cycle state of a consumer that comes to item k
abbrev pub cursor_at : ℕ → ItemRing → ℕ → Cursor
cursor_at n r k = record { place = pointer_of n r k; cycle = cycle_of n r k }

-- of one that is still at the Link before that item: it came there with the other cycle state
abbrev pub cursor_at_link : ℕ → ItemRing → ℕ → Cursor
cursor_at_link n r k = record { place = r.base + 16 * (n - 1); cycle = not (cycle_of n r k) }

-- The Link before item k stands in memory as the consumer's own: it leads to the first place, and toggles the cycle state.
pub record IsBeforeLink (n : ℕ) (r : ItemRing) (k : ℕ) (memory : Memory) : Type 0 where
  pub first : place_of n r k ≡ 0
  pub chain : Bool
  pub link : bytes_from memory (r.base + 16 * (n - 1)) 16 ≡ Some (text (link_with r.base chain) (not (cycle_of n r k)))

-- a consumer stands at item k, or at the Link before it
abbrev pub StandsAt : ℕ → ItemRing → ℕ → Memory → Cursor → Type 0
StandsAt n r k memory cursor = (cursor ≡ cursor_at n r k) ⊎ ((cursor ≡ cursor_at_link n r k) × IsBeforeLink n r k memory)

-- LAWS

-- What stands where a consumer at the dequeue place looks: the first pending item, its 16 bytes as words. Where nothing is pending
-- no TRB is there: the Cycle bit isn't the cycle state.
abbrev pub FrontIsFetched : Type 0
FrontIsFetched =
    (n : ℕ) (r : ItemRing) (memory : Memory) → HoldsRing n r memory
    → fetched memory (cursor_at n r r.got) ≡ Some (option_map (λ item. words_in (item_text item (cycle_of n r r.got))) (slice_get r.put r.got))

-- the flags of a Normal TRB: of control bits 6:1 and 9 those that a pipe looks at
abbrev pub flags_of : TrbFlags → Flags
flags_of flags = record {
  chain = flags.0 / 8 % 2 == 1;
  ioc = flags.0 / 16 % 2 == 1;
  isp = flags.0 / 2 % 2 == 1;
  bei = flags.0 / 64 % 2 == 1;
  idt = flags.0 / 32 % 2 == 1;
}

-- the flags of a Link
abbrev pub link_flags : Bool → Bool → Flags
link_flags chain ioc = record { chain = chain; ioc = ioc; isp = false; bei = false; idt = false }

-- what a TRB is on a pipe's ring
abbrev pub pipe_trb : Trb → PipeTrb
pipe_trb (NormalTrb pointer length td_size flags) = Normal pointer length (flags_of flags)
pipe_trb (LinkTrb pointer toggle chain ioc) = Link pointer toggle (link_flags chain ioc)
pipe_trb (StopEndpoint endpoint slot) = Foreign
pipe_trb (SetDequeue pointer cycle stream endpoint slot) = Foreign
pipe_trb (TransferEvent pointer residual code endpoint slot) = Foreign
pipe_trb (CommandEvent pointer code slot) = Foreign

-- both read the same TRB in the same bytes, with either Cycle bit
abbrev pub TrbsAreRead : Type 0
TrbsAreRead = (trb : Trb) (cycle : Bool) → HasText trb → trb_in (words_in (text trb cycle)) ≡ pipe_trb trb

-- Behind an item a consumer stands at the next one, or at the Link before it, where that is on the next turn.
abbrev pub ItemIsPassed : Type 0
ItemIsPassed =
    (n : ℕ) (r : ItemRing) (memory : Memory) → HoldsRing n r memory → r.got < length r.put
    → StandsAt n r (r.got + 1) memory (behind (cursor_at n r r.got))

-- A consumer at the Link finds it, and where it leads the consumer is at the item.
pub record FollowsLink (n : ℕ) (r : ItemRing) (k : ℕ) (memory : Memory) : Type 0 where
  pub chain : Bool
  pub words : Words
  pub found : fetched memory (cursor_at_link n r k) ≡ Some (Some words)
  pub link : trb_in words ≡ Link r.base true (link_flags chain false)
  pub leads : followed (cursor_at_link n r k) r.base true ≡ cursor_at n r k

abbrev pub LinkIsFollowed : Type 0
LinkIsFollowed = (n : ℕ) (r : ItemRing) (k : ℕ) (memory : Memory) → HoldsRing n r memory → IsBeforeLink n r k memory → FollowsLink n r k memory
