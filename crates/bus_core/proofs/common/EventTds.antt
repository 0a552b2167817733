-- The TD that the host finds for each event that waits: the one that the event is of. The address of an item of a ring
-- finds that item, and an event's address is of the last TRB of its TD. Cited by the events' proofs and by reading back.
use Rattle.std.proofs.Common.{◌≡◌, ℕ, zero, suc, ◌+◌, ◌-◌, ◌*◌, ◌/◌, ◌%◌, ◌<◌, ◌≤◌, Bool, true, false, List, [], ◌∷◌, ◌++◌, length, length-append, Option, Some}
use Rattle.std.proofs.Common.{None, refl, arith, ap, sym, subst, ◌∙◌}
use Rattle.std.specs.Prelude.{◌==◌, nat_lt, is_some, slice_get, option_map, option_and_then, if◌then◌else◌}
use Rattle.std.proofs.Math.Nat.{mod-lt}
use Rattle.std.proofs.lemmas.Bool.{lt-ltb, le-ltb, le-leb, ltb-true, eqb-true, ne_eqb, false≢true, and_parts}
use Rattle.std.proofs.lemmas.Option.{none-some, slice_get-map, slice_get_within}
use Rattle.std.proofs.lemmas.List.{length-map}
use Rattle.xhci_trb.specs.declared.Trb.{Trb}
use Rattle.xhci_trb.specs.declared.Trb.TheVariants.{Normal}
use Rattle.xhci_trb.specs.Text.{has_chain}
use Rattle.cycle_ring.specs.Ring.{place_of as place_on, pointer_of, item_at, consumed_item}
use Rattle.cycle_ring.specs.Items.{Item, ItemRing, known_consumed_at, known, known_of}
use Rattle.cycle_ring.proofs.Names.{item_at-pointer_of}
use Rattle.event_ring.specs.declared.Event.{Event}
use Rattle.event_ring.specs.declared.Event.TheVariants.{Transfer}
use Rattle.uas_profile.specs.declared.Pipe.{Pipe}
use Rattle.uas_profile.specs.declared.Pipe.TheVariants.{Command, Status, DataIn, DataOut}
use Rattle.uas_profile.specs.declared.TheConstants.{STREAMS, STREAM_RING_PLACES, COMMAND_RING_PLACES, CHUNK_BYTES, STATUS_BYTES, WINDOW_BYTES, COMMAND_BUFFERS, BUFFER_SPAN, SLOT, SUCCESS, SHORT_PACKET}
use Rattle.stream_array.specs.Map.{HasRing, places_of, ring_base, spot_at}
use Rattle.stream_array.specs.Rings.{LinesState, IsLines, ring_of, stream_ring}
use Rattle.stream_array.proofs.Spots.{spot_at-address}
use Rattle.frame_store.specs.Buffers.{held_for}
use Rattle.scsi_cmd.specs.Laws.{direction_of-goes}
use Rattle.uas_profile.specs.declared.Direction.{Direction}
use Rattle.uas_profile.specs.declared.Direction.TheVariants.{Nothing, ToHost, ToDevice}
use Rattle.scsi_cmd.specs.declared.Request.{Request}
use Rattle.scsi_cmd.specs.declared.Request.TheVariants.{Execute, Manage}
use Rattle.uas_profile.specs.TdStates.{is_pending}
use Rattle.uas_profile.specs.declared.Place.{Place}
use Rattle.uas_profile.specs.Tags.{tag_of}
use Rattle.uas_host.specs.Tds.{status_buffer_of, window_of, data_trb, data_trbs, data_trb_count, data_td, status_td}
use Rattle.uas_host.specs.Events.{command_tag, ended_td, ended_on, ended_at}
use Rattle.xhci_ctl.specs.Steps.{endpoint_of}
use Rattle.shared_machine.specs.declared.Td.{Td}
use Rattle.shared_machine.specs.declared.Completion.TheVariants.{CommandDone, DataDone, StatusDone}
use Rattle.shared_machine.specs.Td.{Entry, is_awaited, data_trbs as trbs_of}
use Rattle.shared_machine.specs.Bus.{IsPlace}
use Rattle.shared_machine.specs.Shared.{Shared, request_direction}
use Rattle.machine_invariant.specs.Matched.{under, request_bytes, carried_places, data_events, status_events, pipe_places, awaits_data, IsMatchedEntry, IsOwnEvent}
use Rattle.bus_core.specs.World.{World, cell_at}
use Rattle.bus_core.specs.Cells.{HoldsTrbs, HoldsIn, HoldsTd, HoldsData, data_in_td, data_out_td, FitsCell, FitsHeld}
use Rattle.bus_core.specs.Fits.{command_item, command_trb, data_event, Fits, FitsPart, last_pointer, status_event, unit_len}
use Rattle.bus_core.proofs.common.DataTrbs.{length-data_trbs}
use Rattle.machine_invariant.proofs.MatchedPlaces.{IsFound, under-found}
use Rattle.machine_invariant.proofs.MatchedEntries.{awaited-pends}
use Rattle.machine_invariant.proofs.MatchedBounds.{held-place, matched-room}
use Rattle.machine_invariant.proofs.MatchedSteps.{matched-held}
use Rattle.machine_invariant.proofs.MatchedNext.{times-member, own-event}
use Rattle.bus_core.proofs.common.Framing.{found}
use Rattle.uas_profile.proofs.TagLaws.{tags-within}

-- AN ITEM OF A RING

places-some : (pipe : Pipe) → 4 ≤ places_of pipe
places-some Command = omega arith
places-some Status = omega arith
places-some DataIn = omega arith
places-some DataOut = omega arith

-- the address of an item is that of its place
pub spot_at-item : (pipe : Pipe) (stream k : ℕ) (ring : ItemRing) → HasRing pipe stream → ring.base ≡ ring_base pipe stream
    → spot_at (pointer_of (places_of pipe) ring k) ≡ Some (pipe, stream, place_on (places_of pipe) ring k)
spot_at-item pipe stream k ring there base =
    let some : 4 ≤ places_of pipe = places-some pipe in
    let below : place_on (places_of pipe) ring k < places_of pipe - 1 = mod-lt (ring.at + k) (omega arith) in
    spot_at-address (pointer_of (places_of pipe) ring k) pipe stream (place_on (places_of pipe) ring k) (there, omega arith)
    (ap (λ b. b + 16 * place_on (places_of pipe) ring k) base)

-- a consumed item is found at its address
pub consumed_at-item : (n k : ℕ) (ring : ItemRing) (trb : Trb) → 4 ≤ n → k < n - 1 → k < ring.got → slice_get ring.put k ≡ Some (known trb)
    → known_consumed_at n ring (pointer_of n ring k) ≡ Some trb
consumed_at-item n k ring trb some below taken is =
    ap (λ o. option_and_then known_of (option_and_then (consumed_item ring) o)) (item_at-pointer_of n k ring some below)
    ∙ ap (λ b. option_and_then known_of (if b then slice_get ring.put k else None)) (lt-ltb k ring.got taken) ∙ ap (option_and_then known_of) is

-- and the TD that it ends
pub ended_at-item : (lines : LinesState) (pipe : Pipe) (stream k : ℕ) (trb : Trb) → IsLines lines → HasRing pipe stream → k < places_of pipe - 1
    → k < (ring_of lines pipe stream).got → slice_get (ring_of lines pipe stream).put k ≡ Some (known trb)
    → ended_at lines (pointer_of (places_of pipe) (ring_of lines pipe stream) k) ≡ ended_td pipe stream trb
ended_at-item lines pipe stream k trb sound there below taken is =
    let pointer : ℕ = pointer_of (places_of pipe) (ring_of lines pipe stream) k in
    ap (option_and_then (ended_on lines pointer)) (spot_at-item pipe stream k (ring_of lines pipe stream) there (sound.base pipe stream there))
    ∙ ap (option_and_then (ended_td pipe stream)) (consumed_at-item (places_of pipe) k (ring_of lines pipe stream) trb (places-some pipe) below taken is)

-- THE COMMAND PIPE

-- the TRB of a command names the tag's command buffer
pub command_tag-trb : (tags : ℕ) (place : Place) → tag_of tags place ≤ STREAMS → command_tag (command_trb tags place) ≡ Some (tag_of tags place)
command_tag-trb tags place most =
    let reach : nat_lt (COMMAND_BUFFERS + BUFFER_SPAN * tag_of tags place) COMMAND_BUFFERS ≡ false = le-ltb (COMMAND_BUFFERS + BUFFER_SPAN * tag_of tags place) COMMAND_BUFFERS (omega arith) in
    let whole : (COMMAND_BUFFERS + BUFFER_SPAN * tag_of tags place - COMMAND_BUFFERS) % BUFFER_SPAN ≡ 0 = omega arith in
    let tag : (COMMAND_BUFFERS + BUFFER_SPAN * tag_of tags place - COMMAND_BUFFERS) / BUFFER_SPAN ≡ tag_of tags place = omega arith in
    rw (reach, whole, tag, lt-ltb 0 (tag_of tags place) (omega arith), le-leb (tag_of tags place) STREAMS most) refl

pub ended_at-command : (tags : ℕ) (lines : LinesState) (k : ℕ) (place : Place) → IsLines lines → tag_of tags place ≤ STREAMS → k < COMMAND_RING_PLACES - 1 → k < lines.command.got
    → slice_get lines.command.put k ≡ Some (command_item tags place)
    → ended_at lines (pointer_of COMMAND_RING_PLACES lines.command k) ≡ Some (record { pipe = Command; tag = tag_of tags place })
ended_at-command tags lines k place sound most below taken is =
    ended_at-item lines Command 0 k (command_trb tags place) sound refl below taken is
    ∙ ap (λ t. option_map (λ tag. record { pipe = Command; tag = tag }) t) (command_tag-trb tags place most)

-- THE STREAMS

-- A stream's ring has one TD, of which all TRBs were taken; the last one ends it.
pub record IsSpent (ring : ItemRing) : Type 0 where
  pub trb : Trb
  pub some : 0 < length ring.put
  pub most : length ring.put < STREAM_RING_PLACES
  pub taken : ring.got ≡ length ring.put
  pub last : slice_get ring.put (length ring.put - 1) ≡ Some (known trb)
  pub ends : has_chain trb ≡ false

-- the item of its last TRB is found by the address
pub item_at-last_pointer : (ring : ItemRing) → IsSpent ring → item_at STREAM_RING_PLACES ring (last_pointer ring) ≡ Some (length ring.put - 1)
item_at-last_pointer ring spent =
    let some = spent.some in
    let most = spent.most in
    item_at-pointer_of STREAM_RING_PLACES (length ring.put - 1) ring (omega arith) (omega arith)

ended_at-last_trb : (lines : LinesState) (pipe : Pipe) (tag : ℕ) → IsLines lines → HasRing pipe tag → STREAM_RING_PLACES ≤ places_of pipe
    → (spent : IsSpent (ring_of lines pipe tag))
    → ended_at lines (pointer_of (places_of pipe) (ring_of lines pipe tag) (length (ring_of lines pipe tag).put - 1)) ≡ ended_td pipe tag spent.trb
ended_at-last_trb lines pipe tag sound there many spent =
    let some = spent.some in
    let most = spent.most in
    let taken = spent.taken in
    ended_at-item lines pipe tag (length (ring_of lines pipe tag).put - 1) spent.trb sound there (omega arith) (omega arith) spent.last

pub ended_at-status : (lines : LinesState) (tag : ℕ) → IsLines lines → HasRing Status tag → IsSpent (stream_ring lines.status tag)
    → ended_at lines (last_pointer (stream_ring lines.status tag)) ≡ Some (record { pipe = Status; tag = tag })
ended_at-status lines tag sound there spent =
    ended_at-last_trb lines Status tag sound there (omega arith) spent ∙ ap (λ b. if b then None else Some (record { pipe = Status; tag = tag })) spent.ends

pub ended_at-data_in : (lines : LinesState) (tag : ℕ) → IsLines lines → HasRing DataIn tag → IsSpent (stream_ring lines.data_in tag)
    → ended_at lines (last_pointer (stream_ring lines.data_in tag)) ≡ Some (record { pipe = DataIn; tag = tag })
ended_at-data_in lines tag sound there spent =
    ended_at-last_trb lines DataIn tag sound there (omega arith) spent ∙ ap (λ b. if b then None else Some (record { pipe = DataIn; tag = tag })) spent.ends

pub ended_at-data_out : (lines : LinesState) (tag : ℕ) → IsLines lines → HasRing DataOut tag → IsSpent (stream_ring lines.data_out tag)
    → ended_at lines (last_pointer (stream_ring lines.data_out tag)) ≡ Some (record { pipe = DataOut; tag = tag })
ended_at-data_out lines tag sound there spent =
    ended_at-last_trb lines DataOut tag sound there (omega arith) spent ∙ ap (λ b. if b then None else Some (record { pipe = DataOut; tag = tag })) spent.ends

-- WHOLE TDS

pub spent-status : (ring : ItemRing) (tag : ℕ) → HoldsTrbs ring (status_td tag) 1 → IsSpent ring
spent-status ring tag holds =
    let long : length ring.put ≡ 1 = ap (λ (ts : List Item). length ts) holds.0 in
    record {
      trb = Normal (status_buffer_of tag) STATUS_BYTES 0 (record { 0 = 18 });
      some = omega (arith, long);
      most = omega (arith, long);
      taken = holds.1 ∙ sym long;
      last = ap (λ (ts : List Item). slice_get ts (length ts - 1)) holds.0;
      ends = refl;
    }

-- the last of some data TRBs has no CH
record EndsAt (at : ℕ) (trbs : List Trb) : Type 0 where
  trb : Trb
  last : slice_get trbs at ≡ Some trb
  ends : has_chain trb ≡ false

data_trbs-end : (more pointer left : ℕ) → EndsAt more (data_trbs (suc more) pointer left)
data_trbs-end zero pointer left = record { trb = data_trb pointer left 0; last = refl; ends = refl }
data_trbs-end (suc more) pointer left =
    let rest = data_trbs-end more (pointer + CHUNK_BYTES) (left - CHUNK_BYTES) in
    record { trb = rest.trb; last = rest.last; ends = rest.ends }

pub spent-data : (ring : ItemRing) (tag bytes : ℕ) → 0 < bytes → bytes ≤ WINDOW_BYTES → HoldsTrbs ring (data_td tag bytes) (data_trb_count bytes) → IsSpent ring
spent-data ring tag bytes some most holds =
    let long : length ring.put ≡ data_trb_count bytes =
    ap (λ (ts : List Item). length ts) holds.0 ∙ length-map (data_td tag bytes) known ∙ length-data_trbs (data_trb_count bytes) (window_of tag) bytes in
    let one : data_trb_count bytes ≡ suc (data_trb_count bytes - 1) = omega arith in
    let end : EndsAt (data_trb_count bytes - 1) (data_td tag bytes) =
    subst (λ n. EndsAt (data_trb_count bytes - 1) (data_trbs n (window_of tag) bytes)) (sym one)
    (data_trbs-end (data_trb_count bytes - 1) (window_of tag) bytes) in
    record {
      trb = end.trb;
      some = omega (arith, long);
      most = omega (arith, long);
      taken = holds.1 ∙ sym long;
      last = ap (λ n. slice_get ring.put (n - 1)) long ∙ ap (λ (ts : List Item). slice_get ts (data_trb_count bytes - 1)) holds.0
          ∙ slice_get-map known (data_td tag bytes) (data_trb_count bytes - 1) ∙ ap (option_map known) end.last;
      ends = end.ends;
    }

-- WHAT STANDS SOMEWHERE HAS A CELL THAT FITS IT

pub record HasCell (tags : ℕ) (world : World) (place : Place) (entry : Entry) : Type 0 where
  pub count : ℕ
  pub tag : tag_of tags place ≤ STREAMS
  pub fits : FitsCell tags place.client count place entry (cell_at tags world place)

-- the tags of places are those of streams
pub tag_of-most : (tags clients : ℕ) (place : Place) → clients * tags ≤ STREAMS → IsPlace tags clients place → tag_of tags place ≤ STREAMS
tag_of-most tags clients place few there = omega (arith, (tags-within tags clients place there.client there.slot).1, few)

pub fits-cell : (state : Shared) (world : World) (place : Place) (entry : Entry) → Fits state world → under state.parts place ≡ Some entry
    → HasCell state.tags world place entry
fits-cell state world place entry all is =
    let there : IsPlace state.tags (length state.parts) place = held-place state place entry all.matched is in
    let at : IsFound state.parts place entry = under-found state.parts place entry is in
    let fits : FitsPart state.tags world place.client at.part.unit (found state.tags world state.parts place.client at.part all.clients at.there).held at.part =
    (found state.tags world state.parts place.client at.part all.clients at.there).fits in
    record {
      count = at.part.unit.count;
      tag = tag_of-most state.tags (length state.parts) place all.most_tags there;
      fits = subst (λ held. FitsHeld state.tags place.client at.part.unit.count place held (cell_at state.tags world place)) at.held (fits.cells place.slot there.slot);
    }

-- AN AWAITED TD STANDS WHOLE ON ITS RING

pub holds-awaited : (ring : ItemRing) (trbs : List Trb) (td : Td) (n : ℕ) → HoldsTd ring trbs td → is_awaited td n ≡ true → HoldsTrbs ring trbs n
holds-awaited ring trbs td n holds awaited =
    let taken : td.consumed ≡ n = eqb-true td.consumed n (and_parts (is_pending td.state) (td.consumed == n) awaited).1 in
    let on : HoldsTrbs ring trbs td.consumed = subst (HoldsIn ring trbs td.consumed) (awaited-pends td n awaited) holds in
    (on.0, on.1 ∙ taken)

-- the status TD
pub cell-status_spent : (tags : ℕ) (world : World) (place : Place) (entry : Entry) → HasCell tags world place entry → is_awaited entry.status_td 1 ≡ true
    → IsSpent (stream_ring world.lines.status (tag_of tags place))
cell-status_spent tags world place entry cell awaited =
    spent-status (stream_ring world.lines.status (tag_of tags place)) (tag_of tags place)
    (holds-awaited (stream_ring world.lines.status (tag_of tags place)) (status_td (tag_of tags place)) entry.status_td 1 cell.fits.status awaited)

-- The data TD, on the ring of its direction, while the other data ring is empty. There is no data TD without a direction.
abbrev pub IsSpentBy : ℕ → Direction → World → Place → Type 0
IsSpentBy tags Nothing world place = ⊥
IsSpentBy tags ToHost world place = IsSpent (stream_ring world.lines.data_in (tag_of tags place))
IsSpentBy tags ToDevice world place =
    IsSpent (stream_ring world.lines.data_out (tag_of tags place)) × ((stream_ring world.lines.data_in (tag_of tags place)).put ≡ [])

spent_by : (tags : ℕ) (way : Direction) (world : World) (place : Place) (td : Td) (bytes : ℕ) → (way ≡ Nothing → ⊥) → 0 < bytes → bytes ≤ WINDOW_BYTES
    → HoldsData (cell_at tags world place).data_in (data_td (tag_of tags place) bytes) (data_in_td way (Some td))
    → HoldsData (cell_at tags world place).data_out (data_td (tag_of tags place) bytes) (data_out_td way (Some td))
    → is_awaited td (data_trb_count bytes) ≡ true → IsSpentBy tags way world place
spent_by tags Nothing world place td bytes goes some most on_in on_out awaited = goes refl
spent_by tags ToHost world place td bytes goes some most on_in on_out awaited =
    spent-data (cell_at tags world place).data_in (tag_of tags place) bytes some most
    (holds-awaited (cell_at tags world place).data_in (data_td (tag_of tags place) bytes) td (data_trb_count bytes) on_in awaited)
spent_by tags ToDevice world place td bytes goes some most on_in on_out awaited = (
  spent-data (cell_at tags world place).data_out (tag_of tags place) bytes some most
      (holds-awaited (cell_at tags world place).data_out (data_td (tag_of tags place) bytes) td (data_trb_count bytes) on_out awaited),
  on_in.0,
)

-- bytes that move have a direction
pub moved-goes : (request : Request) → 0 < request_bytes request → request_direction request ≡ Nothing → ⊥
moved-goes (Execute op) some is = direction_of-goes op some is
moved-goes (Manage what noted) some is = absurd (omega (arith, some))

-- a data TD has as many TRBs as its bytes take
pub data_trbs-count : (request : Request) → trbs_of request ≡ data_trb_count (request_bytes request)
data_trbs-count (Execute op) = refl
data_trbs-count (Manage what noted) = refl

data_td_spent : (tags : ℕ) (world : World) (place : Place) (request : Request) (td : Option Td) → request_bytes request ≤ WINDOW_BYTES
    → is_some td ≡ nat_lt 0 (request_bytes request)
    → HoldsData (cell_at tags world place).data_in (data_td (tag_of tags place) (request_bytes request)) (data_in_td (request_direction request) td)
    → HoldsData (cell_at tags world place).data_out (data_td (tag_of tags place) (request_bytes request)) (data_out_td (request_direction request) td)
    → awaits_data (trbs_of request) td ≡ true → IsSpentBy tags (request_direction request) world place
data_td_spent tags world place request None most there on_in on_out awaited = absurd (false≢true awaited)
data_td_spent tags world place request (Some td) most there on_in on_out awaited =
    let some : 0 < request_bytes request = ltb-true 0 (request_bytes request) (sym there) in
    spent_by tags (request_direction request) world place td (request_bytes request) (moved-goes request some) some most on_in on_out
    (subst (λ n. is_awaited td n ≡ true) (data_trbs-count request) awaited)

pub cell-data_spent : (tags : ℕ) (world : World) (place : Place) (entry : Entry) → HasCell tags world place entry → IsMatchedEntry tags place.slot entry
    → awaits_data (trbs_of entry.task.request) entry.data_td ≡ true → IsSpentBy tags (request_direction entry.task.request) world place
cell-data_spent tags world place entry cell matched awaited =
    data_td_spent tags world place entry.task.request entry.data_td matched.small matched.moves cell.fits.data_in cell.fits.data_out awaited

-- THE TEXTS OF EVENTS

-- The text is a Transfer Event of a stream's TD that the host finds, at the last TRB of the stream's ring.
pub record IsStreamText (lines : LinesState) (text : Event) (residual code : ℕ) (pipe : Pipe) (tag : ℕ) : Type 0 where
  pub pointer : ℕ
  pub is : text ≡ Transfer pointer residual code (endpoint_of pipe) SLOT
  pub ended : ended_at lines pointer ≡ Some (record { pipe = pipe; tag = tag })
  pub item : item_at (places_of pipe) (ring_of lines pipe tag) pointer ≡ Some (length (ring_of lines pipe tag).put - 1)

abbrev pub status_text : ℕ → World → Place → Event
status_text tags world place = status_event tags place.slot (stream_ring world.lines.status (tag_of tags place)) (held_for world.frames (tag_of tags place)).status

-- what the unit in the status buffer leaves of its bytes is the residual
abbrev pub status_residual : ℕ → World → Place → ℕ
status_residual tags world place = STATUS_BYTES - unit_len tags place.slot (held_for world.frames (tag_of tags place)).status

abbrev pub IsStatusText : ℕ → World → Place → Type 0
IsStatusText tags world place = IsStreamText world.lines (status_text tags world place) (status_residual tags world place) SHORT_PACKET Status (tag_of tags place)

pub status_text-is : (tags : ℕ) (world : World) (place : Place) (entry : Entry) → IsLines world.lines → HasCell tags world place entry → is_awaited entry.status_td 1 ≡ true
    → IsStatusText tags world place
status_text-is tags world place entry sound cell awaited =
    let spent : IsSpent (stream_ring world.lines.status (tag_of tags place)) = cell-status_spent tags world place entry cell awaited in
    record {
      pointer = last_pointer (stream_ring world.lines.status (tag_of tags place));
      is = refl;
      ended = ended_at-status world.lines (tag_of tags place) sound (omega arith, cell.tag) spent;
      item = item_at-last_pointer (stream_ring world.lines.status (tag_of tags place)) spent;
    }

abbrev pub data_text : ℕ → World → Place → Event
data_text tags world place = data_event (stream_ring world.lines.data_in (tag_of tags place)) (stream_ring world.lines.data_out (tag_of tags place))

-- by the direction, of which there is one
abbrev pub IsDataText : ℕ → Direction → World → Place → Type 0
IsDataText tags Nothing world place = ⊥
IsDataText tags ToHost world place = IsStreamText world.lines (data_text tags world place) 0 SUCCESS DataIn (tag_of tags place)
IsDataText tags ToDevice world place = IsStreamText world.lines (data_text tags world place) 0 SUCCESS DataOut (tag_of tags place)

-- the first data ring is asked whether it has the TD
data_event-which : (data_in data_out : ItemRing) (b : Bool) → (length data_in.put == 0) ≡ b → data_event data_in data_out ≡
    (if b then Transfer (last_pointer data_out) 0 SUCCESS (endpoint_of DataOut) SLOT else Transfer (last_pointer data_in) 0 SUCCESS (endpoint_of DataIn) SLOT)
data_event-which data_in data_out b is =
    ap (λ t. if t then Transfer (last_pointer data_out) 0 SUCCESS (endpoint_of DataOut) SLOT
    else Transfer (last_pointer data_in) 0 SUCCESS (endpoint_of DataIn) SLOT) is

data_text-by : (tags : ℕ) (way : Direction) (world : World) (place : Place) → IsLines world.lines → tag_of tags place ≤ STREAMS → IsSpentBy tags way world place
    → IsDataText tags way world place
data_text-by tags Nothing world place sound most spent = spent
data_text-by tags ToHost world place sound most spent =
    let ring : ItemRing = stream_ring world.lines.data_in (tag_of tags place) in
    let some : 0 < length ring.put = spent.some in
    record {
      pointer = last_pointer ring;
      is = data_event-which ring (stream_ring world.lines.data_out (tag_of tags place)) false (ne_eqb (length ring.put) 0 (λ none. omega (arith, some, none)));
      ended = ended_at-data_in world.lines (tag_of tags place) sound (omega arith, most) spent;
      item = item_at-last_pointer ring spent;
    }
data_text-by tags ToDevice world place sound most spent =
    let ring : ItemRing = stream_ring world.lines.data_out (tag_of tags place) in
    record {
      pointer = last_pointer ring;
      is = data_event-which (stream_ring world.lines.data_in (tag_of tags place)) ring true (ap (λ (ts : List Item). length ts == 0) spent.1);
      ended = ended_at-data_out world.lines (tag_of tags place) sound (omega arith, most) spent.0;
      item = item_at-last_pointer ring spent.0;
    }

pub data_text-is : (tags : ℕ) (world : World) (place : Place) (entry : Entry) → IsLines world.lines → HasCell tags world place entry → IsMatchedEntry tags place.slot entry
    → awaits_data (trbs_of entry.task.request) entry.data_td ≡ true → IsDataText tags (request_direction entry.task.request) world place
data_text-is tags world place entry sound cell matched awaited =
    data_text-by tags (request_direction entry.task.request) world place sound cell.tag (cell-data_spent tags world place entry cell matched awaited)

-- THE TEXTS OF THE EVENTS THAT WAIT

-- where a data event of the place waits, and where a status event does
pub record HasDataText (state : Shared) (world : World) (place : Place) : Type 0 where
  pub entry : Entry
  pub held : under state.parts place ≡ Some entry
  pub text : IsDataText state.tags (request_direction entry.task.request) world place

pub data_text-waits : (state : Shared) (world : World) (place : Place) → Fits state world → 1 ≤ data_events place state.events → HasDataText state world place
data_text-waits state world place all some =
    let own : IsOwnEvent state (DataDone place) = own-event state (DataDone place) all.matched some in
    record {
      entry = own.entry;
      held = own.held;
      text = data_text-is state.tags world place own.entry all.sound.lines (fits-cell state world place own.entry all own.held)
          (matched-held state place own.entry all.matched own.held).here.sound own.awaits;
    }

pub status_text-waits : (state : Shared) (world : World) (place : Place) → Fits state world → 1 ≤ status_events place state.events
    → IsStatusText state.tags world place
status_text-waits state world place all some =
    let own : IsOwnEvent state (StatusDone place) = own-event state (StatusDone place) all.matched some in
    status_text-is state.tags world place own.entry all.sound.lines (fits-cell state world place own.entry all own.held) own.awaits

slice_get-append_left : {T : Type 0} (first second : List T) (at : ℕ) (it : T) → slice_get first at ≡ Some it → slice_get (first ++ second) at ≡ Some it
slice_get-append_left [] second at it is = absurd (none-some it is)
slice_get-append_left (next ∷ rest) second zero it is = is
slice_get-append_left (next ∷ rest) second (suc at) it is = slice_get-append_left rest second at it is

-- the k-th command event is of the k-th TRB in the ring
pub command_text-waits : (state : Shared) (world : World) (k : ℕ) (place : Place) → Fits state world → slice_get (carried_places state.events) k ≡ Some place
    → ended_at world.lines (pointer_of COMMAND_RING_PLACES world.lines.command k) ≡ Some (record { pipe = Command; tag = tag_of state.tags place })
command_text-waits state world k place all is =
    let own : IsOwnEvent state (CommandDone place) =
    own-event state (CommandDone place) all.matched (times-member (carried_places state.events) k place is) in
    let within : k < length (carried_places state.events) = slice_get_within (carried_places state.events) k place is in
    let room : length (pipe_places state) ≤ length state.parts * state.tags = (matched-room state all.matched).pipe in
    let few = all.most_tags in
    let many : length (pipe_places state) ≡ length (carried_places state.events) + length state.messages =
    length-append (carried_places state.events) state.messages in
    let put : slice_get world.lines.command.put k ≡ Some (command_item state.tags place) =
    ap (λ (ts : List Item). slice_get ts k) all.queues.put ∙ slice_get-map (command_item state.tags) (pipe_places state) k
    ∙ ap (option_map (command_item state.tags)) (slice_get-append_left (carried_places state.events) state.messages k place is) in
    ended_at-command state.tags world.lines k place all.sound.lines (tag_of-most state.tags (length state.parts) place few own.there) (omega arith)
    (omega (arith, within, all.queues.got)) put

abbrev pub command_text : World → ℕ → Event
command_text world k = Transfer (pointer_of COMMAND_RING_PLACES world.lines.command k) 0 SUCCESS (endpoint_of Command) SLOT
