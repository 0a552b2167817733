-- What a step finds in front of a ring, over a memory that is laid out.
use Rattle.std.proofs.Common.{◌≡◌, ℕ, ◌+◌, ◌-◌, ◌*◌, ◌%◌, ◌<◌, Bool, true, false, List, length as list_length, Option, Some, None, ap, ◌∙◌, arith}
use Rattle.std.proofs.Math.Nat.{mod-lt}
use Rattle.uas_profile.specs.declared.TheConstants.{EVENT_RING, EVENT_RING_PLACES}
use Rattle.xhci_trb.specs.declared.Trb.TheVariants.{Normal as NormalTrb}
use Rattle.xhci_trb.specs.declared.TrbFlags.{TrbFlags}
use Rattle.xhci_trb.specs.Text.{HasText}
use Rattle.cycle_ring.specs.Ring.{cycle_of, place_of}
use Rattle.cycle_ring.specs.Items.{IsItemRing, ItemRing, known}
use Rattle.cycle_ring.proofs.Held.{bytes_of_item}
use Rattle.stream_array.specs.Rings.{LinesState}
use Rattle.frame_store.specs.declared.TagBuffers.{TagBuffers}
use Rattle.guest_memory.specs.Bytes.{Memory}
use Rattle.guest_memory.specs.declared.rings.cursor.Cursor.{Cursor}
use Rattle.guest_memory.specs.declared.rings.context.Home.{Home}
use Rattle.guest_memory.specs.declared.rings.context.Found.{Found}
use Rattle.guest_memory.specs.declared.rings.context.Found.TheVariants.{Item, NotYet}
use Rattle.guest_memory.specs.declared.rings.context.Front.{Front}
use Rattle.guest_memory.specs.declared.rings.trb.PipeTrb.{PipeTrb}
use Rattle.guest_memory.specs.declared.rings.trb.PipeTrb.TheVariants.{Normal, Link}
use Rattle.guest_memory.specs.rings.Ends.{looked}
use Rattle.guest_memory.specs.rings.Events.{EventEnd, enqueue_pointer}
use Rattle.guest_pipes.specs.Gate.{gate}
use Rattle.guest_pipes.specs.Progress.{fresh}
use Rattle.guest_profile.specs.Rings.{FollowsLink, HoldsRing, cursor_at, cursor_at_link, flags_of, link_flags}
use Rattle.guest_profile.specs.Contexts.{IsDequeue}
use Rattle.guest_profile.specs.Layout.{IsAtItem, IsAtLink, IsLaid, Layout}
use Rattle.guest_pipes.specs.declared.progress.Progress.{Progress}
use Rattle.guest_profile.specs.Data.{IsDataInFront}
use Rattle.guest_profile.proofs.InStep.{data_consumer}
use Rattle.guest_profile.specs.Ready.{HasRoom, IsTdInFront, rung_consumer}
use Rattle.guest_profile.proofs.Words.{trbs_are_read}
use Rattle.guest_profile.proofs.Rings.{item_fetched, link_is_followed, none_fetched}
use Rattle.guest_profile.proofs.Contexts.{end_is_looked}
use Rattle.guest_profile.proofs.Events.{room_is_counted}
use Rattle.guest_profile.proofs.TdStep.{gate-open}

-- an item's address, and the Link's, are dequeue pointers
dequeue_item : (n : ℕ) (r : ItemRing) (k : ℕ) → IsItemRing n r → IsDequeue (cursor_at n r k)
dequeue_item n r k ring =
    let least = ring.least_places in
    let below : place_of n r k < n - 1 = mod-lt (r.at + k) (omega arith) in
    (omega (arith, ring.base_aligned), omega (arith, ring.base_below, ring.most_places, below))

dequeue_link : (n : ℕ) (r : ItemRing) (k : ℕ) → IsItemRing n r → IsDequeue (cursor_at_link n r k)
dequeue_link n r k ring = (omega (arith, ring.base_aligned), omega (arith, ring.base_below, ring.most_places))

-- what a look finds by a cursor
abbrev pub found_with : Home → Cursor → Found → Option Front
found_with home cursor found = Some (record { home = home; cursor = cursor; found = found })

pub looked_td : (n : ℕ) (r : ItemRing) (memory : Memory) (home : Home) (pointer length td_size : ℕ) (flags : TrbFlags) → HoldsRing n r memory
    → IsAtItem n r home memory → IsTdInFront r pointer length td_size flags
    → looked memory home ≡ found_with home (cursor_at n r r.got) (Item (Normal pointer length (flags_of flags)))
looked_td n r memory home pointer length td_size flags holds at td =
    let trb = NormalTrb pointer length td_size flags in
    let has : HasText trb = bytes_of_item r.put r.got (known trb) holds.ring.texts td.front in
    end_is_looked memory home (cursor_at n r r.got) _ at (dequeue_item n r r.got holds.ring) (item_fetched n r memory holds r.got (known trb) td.front)
    ∙ ap (λ (t : PipeTrb). found_with home (cursor_at n r r.got) (Item t)) (trbs_are_read trb (cycle_of n r r.got) has)

-- the same of a data TRB
pub looked_data : (n : ℕ) (r : ItemRing) (memory : Memory) (home : Home) (pointer length td_size : ℕ) (flags : TrbFlags) → HoldsRing n r memory
    → IsAtItem n r home memory → IsDataInFront r pointer length td_size flags
    → looked memory home ≡ found_with home (cursor_at n r r.got) (Item (Normal pointer length (flags_of flags)))
looked_data n r memory home pointer length td_size flags holds at td =
    let trb = NormalTrb pointer length td_size flags in
    let has : HasText trb = bytes_of_item r.put r.got (known trb) holds.ring.texts td.front in
    end_is_looked memory home (cursor_at n r r.got) _ at (dequeue_item n r r.got holds.ring) (item_fetched n r memory holds r.got (known trb) td.front)
    ∙ ap (λ (t : PipeTrb). found_with home (cursor_at n r r.got) (Item t)) (trbs_are_read trb (cycle_of n r r.got) has)

pub looked_none : (n : ℕ) (r : ItemRing) (memory : Memory) (home : Home) → HoldsRing n r memory → IsAtItem n r home memory → r.got ≡ list_length r.put
    → looked memory home ≡ found_with home (cursor_at n r r.got) NotYet
looked_none n r memory home holds at all =
    let ring = holds.ring in
    end_is_looked memory home (cursor_at n r r.got) None at (dequeue_item n r r.got ring)
    (none_fetched n r memory holds r.got (omega (arith, all)) (omega (arith, all, ring.room_left, ring.least_places)))

pub looked_link : (n : ℕ) (r : ItemRing) (memory : Memory) (home : Home) → HoldsRing n r memory → IsAtLink n r home memory
    → (chain : Bool) × (looked memory home ≡ found_with home (cursor_at_link n r r.got) (Item (Link r.base true (link_flags chain false))))
looked_link n r memory home holds at =
    let follows : FollowsLink n r r.got memory = link_is_followed n r r.got memory holds at.before in (
      follows.chain,
      end_is_looked memory home (cursor_at_link n r r.got) (Some follows.words) at.kept (dequeue_link n r r.got holds.ring) follows.found
          ∙ ap (λ (t : PipeTrb). found_with home (cursor_at_link n r r.got) (Item t)) follows.link,
    )

-- a step of a consumer that is rung goes on where both have room
pub gate_data : (layout : Layout) (lines : LinesState) (frames : List TagBuffers) (memory : Memory) (end : EventEnd) (endpoint : ℕ) (progress : Progress)
    → IsLaid layout lines frames memory end → HasRoom lines → gate memory end (data_consumer endpoint progress) ≡ Some None
gate_data layout lines frames memory end endpoint progress laid room =
    let is = laid.producer in
    let below : (lines.events.at + list_length lines.events.pending) % EVENT_RING_PLACES < EVENT_RING_PLACES =
    mod-lt (lines.events.at + list_length lines.events.pending) (omega arith) in
    let there = laid.events.there end.place (omega (arith, laid.events.events.size, is.place, below)) in
    let at : EVENT_RING + 16 * end.place ≡ enqueue_pointer end = omega (arith, is.base_is) in
    gate-open memory end endpoint progress _ (room_is_counted EVENT_RING_PLACES EVENT_RING lines.events end is (omega (arith, room))) (rw at at there)

pub gate_laid : (layout : Layout) (lines : LinesState) (frames : List TagBuffers) (memory : Memory) (end : EventEnd) (endpoint : ℕ)
    → IsLaid layout lines frames memory end → HasRoom lines → gate memory end (rung_consumer endpoint) ≡ Some None
gate_laid layout lines frames memory end endpoint laid room = gate_data layout lines frames memory end endpoint fresh laid room
