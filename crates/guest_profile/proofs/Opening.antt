-- A memory that is laid out, and a command in front over it.
use Rattle.std.proofs.Common.{◌≡◌, ◌≢◌, ℕ, zero, suc, ◌+◌, ◌-◌, ◌*◌, ◌/◌, ◌%◌, ◌^◌, ◌<◌, ◌≤◌, Bool, true, false, [], ◌++◌, length, replicate, Option, Some, slice_get, refl, sym, ap, ◌∙◌, arith, inl, inr}
use Rattle.std.proofs.lemmas.Bool.{le-leb, lt-ltb}
use Rattle.std.proofs.lemmas.List.{get_or-replicate, length-replicate}
use Rattle.std.proofs.lemmas.List.FromFn.{get_or-map-range_with_len, length-map-range_with_len}
use Rattle.uas_profile.specs.declared.Pipe.{Pipe}
use Rattle.uas_profile.specs.declared.Pipe.TheVariants.{Command, Status, DataIn, DataOut}
use Rattle.uas_profile.specs.declared.TheConstants.{COMMAND_BUFFERS, EVENT_RING, EVENT_RING_PLACES, STREAM_ENTRIES, STREAMS}
use Rattle.xhci_trb.specs.Text.{bit as profile_bit, text}
use Rattle.guest_memory.specs.rings.Words.{bit}
use Rattle.cycle_ring.specs.Ring.{opening as opening_ring}
use Rattle.stream_array.specs.declared.Dequeue.{Dequeue}
use Rattle.stream_array.specs.Contexts.{context_text, opening_entry}
use Rattle.guest_memory.specs.Bytes.{Memory, bytes_from, is_in}
use Rattle.guest_memory.specs.Ranges.{from_each, out_behind, out_before, is_in_ahead, same_from, written_beside}
use Rattle.guest_memory.specs.rings.Ends.{pointer_bytes, stream_bytes}
use Rattle.byteorder.specs.Endian.{little_bytes}
use Rattle.uas_profile.specs.declared.TheConstants.{COMMAND_RING_PLACES, STREAM_RING_PLACES}
use Rattle.ring_ends.specs.declared.End.{End}
use Rattle.cycle_ring.specs.Items.{Item, ItemRing}
use Rattle.cycle_ring.proofs.Held.{IsSegment-opening}
use Rattle.stream_array.specs.Map.{HasRing, places_of, ring_base}
use Rattle.stream_array.specs.Contexts.{has_stream}
use Rattle.stream_array.specs.Rings.{IsLines, ring_of}
use Rattle.guest_memory.specs.declared.rings.cursor.Cursor.{Cursor}
use Rattle.guest_memory.specs.declared.rings.context.Home.TheVariants.{Endpoint}
use Rattle.guest_memory.specs.rings.Ends.{home_bytes}
use Rattle.uas_profile.specs.declared.TheConstants.{BUFFER_SPAN, COMMAND_BYTES, STATUS_BUFFERS, STATUS_BYTES}
use Rattle.event_ring.specs.Events.{opening as opening_events}
use Rattle.event_ring.proofs.Segment.{IsSegment-opening as IsSegment-opening_events}
use Rattle.frame_store.specs.declared.Buffer.{Buffer}
use Rattle.frame_store.specs.declared.Buffer.TheVariants.{Command as CommandBuffer, Status as StatusBuffer, Window}
use Rattle.frame_store.specs.declared.TagBuffers.{TagBuffers}
use Rattle.frame_store.specs.declared.Place.{Place}
use Rattle.frame_store.specs.Buffers.{IsWhole, Names, bytes_in, bytes_of, front_of, held_for, no_buffers, opening_buffers}
use Rattle.frame_store.specs.Buffers.{opening as opening_frames}
use Rattle.frame_store.specs.Places.{address_of}
use Rattle.frame_store.proofs.FramesLaws.{replicate_whole}
use Rattle.guest_profile.specs.Events.{HoldsEventRing}
use Rattle.guest_profile.specs.Layout.{HoldsFrames}
use Rattle.uas_iu.specs.Units.{unit_text}
use Rattle.guest_profile.specs.Rings.{HasPlaces, HoldsRing}
use Rattle.guest_profile.specs.Contexts.{HasEnd}
use Rattle.guest_profile.proofs.Ranges.{written-apart, written-read}
use Rattle.guest_profile.proofs.LaidRings.{trb_is_put}
use Rattle.guest_profile.proofs.LaidSteps.{length-home_bytes}
use Rattle.guest_profile.specs.Layout.{AreApart, IsAtItem, IsBeside, contexts_of, contexts_size, kept_at}
use Rattle.guest_profile.specs.Opening.{AnswerIsDue, CommandIsInFront, ContextsAreAlike, OpeningIsLaid, first_cursor, first_answer, first_status_trb, first_trb, opening_end, opening_layout, opening_lines, opening_memory, with_array, zeros}

same_bits : (cycle : Bool) → profile_bit cycle ≡ bit cycle
same_bits true = refl
same_bits false = refl

pub contexts_are_alike : ContextsAreAlike
unfolding stream_bytes
contexts_are_alike dequeue aligned =
    let bits = same_bits dequeue.cycle in
    let number : dequeue.pointer + 2 * 1 + profile_bit dequeue.cycle ≡ 16 * (dequeue.pointer / 16) + 2 * 1 + bit dequeue.cycle = omega arith in
    ap (λ (x : ℕ). little_bytes 8 x ++ replicate 8 0) number

-- zeros in a range of a memory
zero_bytes : (memory : Memory) (at n : ℕ) → ((k : ℕ) → k < n → memory (at + k) ≡ Some 0) → bytes_from memory at n ≡ Some (replicate n 0)
zero_bytes memory at n all = from_each memory at n (replicate n 0) (length-replicate n 0) (λ k below. all k below ∙ sym (get-replicate n k below))
  where
    get-replicate : (n k : ℕ) → k < n → slice_get {X = ℕ} (replicate n 0) k ≡ Some 0
    get-replicate zero k below = absurd (omega (arith, below))
    get-replicate (suc n) zero below = refl
    get-replicate (suc n) (suc k) below = get-replicate n k (omega (arith, below))

-- an address that isn't in an array
array-beside : (memory : Memory) (array : ℕ) (pipe : Pipe) (a : ℕ) → array + 16 * STREAM_ENTRIES ≤ a → with_array memory array pipe a ≡ memory a
unfolding with_array
array-beside memory array pipe a past = let out : is_in array (16 * STREAM_ENTRIES) a ≡ false = out_behind array (16 * STREAM_ENTRIES) a past in rw out refl

array-before : (memory : Memory) (array : ℕ) (pipe : Pipe) (a : ℕ) → a < array → with_array memory array pipe a ≡ memory a
unfolding with_array
array-before memory array pipe a before = let out : is_in array (16 * STREAM_ENTRIES) a ≡ false = out_before array (16 * STREAM_ENTRIES) a before in rw out refl

-- above the contexts all is zeros
pub opening-zero : (a : ℕ) → COMMAND_BUFFERS ≤ a → a < 2 ^ 64 → opening_memory a ≡ Some 0
unfolding zeros pointer_bytes
opening-zero a above below =
    array-beside _ 0x4000 DataOut a (omega arith) ∙ array-beside _ 0x3000 DataIn a (omega arith) ∙ array-beside _ 0x2000 Status a (omega arith)
    ∙ written_beside zeros 0x1000 (pointer_bytes first_cursor) a (out_behind 0x1000 8 a (omega arith)) ∙ rw (lt-ltb a (2 ^ 64) below) refl

pub opening-zeros : (at n : ℕ) → COMMAND_BUFFERS ≤ at → at + n ≤ 2 ^ 64 → bytes_from opening_memory at n ≡ Some (replicate n 0)
opening-zeros at n above below = zero_bytes opening_memory at n (λ k inside. opening-zero (at + k) (omega (arith, above)) (omega (arith, below, inside)))

-- a context of an array
context_in : (memory : Memory) (array : ℕ) (pipe : Pipe) (stream : ℕ) → stream < STREAM_ENTRIES → length (context_text (opening_entry pipe stream)) ≡ 16
    → bytes_from (with_array memory array pipe) (array + 16 * stream) 16 ≡ Some (context_text (opening_entry pipe stream))
unfolding with_array
context_in memory array pipe stream below size =
    from_each (with_array memory array pipe) (array + 16 * stream) 16 (context_text (opening_entry pipe stream)) size (λ k inside.
    let here : is_in array (16 * STREAM_ENTRIES) (array + 16 * stream + k) ≡ true =
    ap (is_in array (16 * STREAM_ENTRIES)) (omega arith) ∙ is_in_ahead array (16 * STREAM_ENTRIES) (16 * stream + k) (omega (arith, below, inside)) in
    let number : (array + 16 * stream + k - array) / 16 ≡ stream = omega (arith, inside) in
    let place : (array + 16 * stream + k - array) % 16 ≡ k = omega (arith, inside) in
    rw (here, number, place) refl)

-- THE LAYOUT

beside_low : (at n : ℕ) → at + n ≤ COMMAND_BUFFERS → IsBeside at n
beside_low at n low = record { buffers = inl low; rings = inl (omega (arith, low)); windows = inl (omega (arith, low)) }

opening_beside : (pipe : Pipe) → IsBeside (contexts_of opening_layout pipe) (contexts_size pipe)
opening_beside Command = beside_low _ _ (omega arith)
opening_beside Status = beside_low _ _ (omega arith)
opening_beside DataIn = beside_low _ _ (omega arith)
opening_beside DataOut = beside_low _ _ (omega arith)

opening_apart : (pipe other : Pipe) → pipe ≢ other
    → AreApart (contexts_of opening_layout pipe) (contexts_size pipe) (contexts_of opening_layout other) (contexts_size other)
opening_apart Command Command differs = absurd (differs refl)
opening_apart Command Status differs = inl (omega arith)
opening_apart Command DataIn differs = inl (omega arith)
opening_apart Command DataOut differs = inl (omega arith)
opening_apart Status Command differs = inr (omega arith)
opening_apart Status Status differs = absurd (differs refl)
opening_apart Status DataIn differs = inl (omega arith)
opening_apart Status DataOut differs = inl (omega arith)
opening_apart DataIn Command differs = inr (omega arith)
opening_apart DataIn Status differs = inr (omega arith)
opening_apart DataIn DataIn differs = absurd (differs refl)
opening_apart DataIn DataOut differs = inl (omega arith)
opening_apart DataOut Command differs = inr (omega arith)
opening_apart DataOut Status differs = inr (omega arith)
opening_apart DataOut DataIn differs = inr (omega arith)
opening_apart DataOut DataOut differs = absurd (differs refl)

-- THE RINGS

opening_ring_of : (pipe : Pipe) (stream : ℕ) → HasRing pipe stream → ring_of opening_lines pipe stream ≡ opening_ring (ring_base pipe stream)
opening_ring_of Command stream has = ap (λ (s : ℕ). opening_ring (ring_base Command s)) (sym has)
opening_ring_of Status stream has = get_or-map-range_with_len (λ s. opening_ring (ring_base Status s)) 1 STREAMS (stream - 1) stream (opening_ring 0) (omega (arith, has)) (omega (arith, has))
opening_ring_of DataIn stream has = get_or-map-range_with_len (λ s. opening_ring (ring_base DataIn s)) 1 STREAMS (stream - 1) stream (opening_ring 0) (omega (arith, has)) (omega (arith, has))
opening_ring_of DataOut stream has = get_or-map-range_with_len (λ s. opening_ring (ring_base DataOut s)) 1 STREAMS (stream - 1) stream (opening_ring 0) (omega (arith, has)) (omega (arith, has))

opening_are_lines : IsLines opening_lines
opening_are_lines = record {
  status = length-map-range_with_len (λ (s : ℕ). opening_ring {A = Item} (ring_base Status s)) 1 STREAMS;
  data_in = length-map-range_with_len (λ (s : ℕ). opening_ring {A = Item} (ring_base DataIn s)) 1 STREAMS;
  data_out = length-map-range_with_len (λ (s : ℕ). opening_ring {A = Item} (ring_base DataOut s)) 1 STREAMS;
  base = λ pipe stream has. ap (λ (r : ItemRing). r.base) (opening_ring_of pipe stream has);
  engine = refl;
}

zero_places : (base n : ℕ) → COMMAND_BUFFERS ≤ base → base + 16 * n ≤ 2 ^ 64 → HasPlaces opening_memory base (replicate n (replicate 16 0))
zero_places base n above below k inside =
    let within : k < n = omega (arith, inside, length-replicate n (replicate {A = ℕ} 16 0)) in
    opening-zeros (base + 16 * k) 16 (omega (arith, above)) (omega (arith, below, within)) ∙ ap Some (sym (get_or-replicate n k (replicate 16 0) [] within))

abbrev first_end : End
first_end = record { place = 0; cycle = true }

opening_holds : (n base : ℕ) → 4 ≤ n → n ≤ 256 → base % 16 ≡ 0 → COMMAND_BUFFERS ≤ base → base < 2 ^ 63 → HoldsRing n (opening_ring base) opening_memory
opening_holds n base least most aligned above below =
    let segment = IsSegment-opening n base first_end least most aligned below refl in
    record {
      ring = segment.ring;
      places = replicate n (replicate 16 0);
      items = segment.holds;
      there = zero_places base n above (omega (arith, most, below));
    }

opening_rings : (pipe : Pipe) (stream : ℕ) → HasRing pipe stream → HoldsRing (places_of pipe) (opening_ring (ring_base pipe stream)) opening_memory
opening_rings Command stream has = opening_holds COMMAND_RING_PLACES (ring_base Command stream) (omega arith) (omega arith) (omega arith) (omega arith) (omega (arith, has))
opening_rings Status stream has = opening_holds STREAM_RING_PLACES (ring_base Status stream) (omega arith) (omega arith) (omega arith) (omega arith) (omega (arith, has))
opening_rings DataIn stream has = opening_holds STREAM_RING_PLACES (ring_base DataIn stream) (omega arith) (omega arith) (omega arith) (omega arith) (omega (arith, has))
opening_rings DataOut stream has = opening_holds STREAM_RING_PLACES (ring_base DataOut stream) (omega arith) (omega arith) (omega arith) (omega arith) (omega (arith, has))

-- THE ENDS

same_place : (place other : ℕ) → place ≡ other → ◌≡◌ {A = Cursor} (record { place = place; cycle = true }) (record { place = other; cycle = true })
same_place place other e = rw e refl

-- what memory has below an array
below_array : (memory : Memory) (array : ℕ) (pipe : Pipe) (at n : ℕ) → at + n ≤ array → bytes_from (with_array memory array pipe) at n ≡ bytes_from memory at n
below_array memory array pipe at n low = same_from (with_array memory array pipe) memory at n (λ k inside. array-before memory array pipe (at + k) (omega (arith, low, inside)))

-- a stream's context in its array
entry_there : (memory : Memory) (array : ℕ) (pipe : Pipe) (stream base : ℕ) → stream < STREAM_ENTRIES → opening_entry pipe stream ≡ Some (record { pointer = base; cycle = true })
    → base % 16 ≡ 0 → bytes_from (with_array memory array pipe) (array + 16 * stream) 16 ≡ Some (stream_bytes 1 (record { place = base; cycle = true }))
unfolding stream_bytes
entry_there memory array pipe stream base below is aligned =
    let alike = contexts_are_alike (record { pointer = base; cycle = true }) aligned in
    let size : length (context_text (opening_entry pipe stream)) ≡ 16 = ap (λ (e : Option Dequeue). length (context_text e)) is ∙ ap length alike in
    context_in memory array pipe stream below size ∙ ap (λ (e : Option Dequeue). Some (context_text e)) is ∙ ap Some alike

stream_entry : (stream : ℕ) → 0 < stream → stream ≤ STREAMS → has_stream stream ≡ true
stream_entry stream some most = rw (lt-ltb 0 stream some, le-leb stream STREAMS most) refl

opening_ends : (pipe : Pipe) (stream : ℕ) → HasRing pipe stream
    → HasEnd opening_memory (kept_at opening_layout pipe stream) (record { place = ring_base pipe stream; cycle = true })
opening_ends Command stream has =
    below_array _ 0x4000 DataOut 0x1000 8 (omega arith) ∙ below_array _ 0x3000 DataIn 0x1000 8 (omega arith) ∙ below_array _ 0x2000 Status 0x1000 8 (omega arith)
    ∙ written-read zeros 0x1000 8 (pointer_bytes first_cursor) (length-home_bytes (Endpoint 0x1000) first_cursor)
    ∙ ap (λ (s : ℕ). Some (pointer_bytes (record { place = ring_base Command s; cycle = true }))) (sym has)
opening_ends Status stream has =
    let streams = stream_entry stream has.0 has.1 in
    below_array _ 0x4000 DataOut (0x2000 + 16 * stream) 16 (omega (arith, has)) ∙ below_array _ 0x3000 DataIn (0x2000 + 16 * stream) 16 (omega (arith, has))
    ∙ entry_there _ 0x2000 Status stream (ring_base Status stream) (omega (arith, has)) (rw streams refl) (omega arith)
opening_ends DataIn stream has =
    let streams = stream_entry stream has.0 has.1 in
    below_array _ 0x4000 DataOut (0x3000 + 16 * stream) 16 (omega (arith, has))
    ∙ entry_there _ 0x3000 DataIn stream (ring_base DataIn stream) (omega (arith, has)) (rw streams refl) (omega arith)
opening_ends DataOut stream has =
    let streams = stream_entry stream has.0 has.1 in
    entry_there _ 0x4000 DataOut stream (ring_base DataOut stream) (omega (arith, has)) (rw streams refl) (omega arith)

opening_items : (pipe : Pipe) (stream : ℕ) → HasRing pipe stream
    → IsAtItem (places_of pipe) (opening_ring (ring_base pipe stream)) (kept_at opening_layout pipe stream) opening_memory
opening_items Command stream has = opening_ends Command stream has ∙ ap (λ (c : Cursor). Some (home_bytes (kept_at opening_layout Command stream) 1 c)) (same_place _ _ (omega arith))
opening_items Status stream has = opening_ends Status stream has ∙ ap (λ (c : Cursor). Some (home_bytes (kept_at opening_layout Status stream) 1 c)) (same_place _ _ (omega arith))
opening_items DataIn stream has = opening_ends DataIn stream has ∙ ap (λ (c : Cursor). Some (home_bytes (kept_at opening_layout DataIn stream) 1 c)) (same_place _ _ (omega arith))
opening_items DataOut stream has = opening_ends DataOut stream has ∙ ap (λ (c : Cursor). Some (home_bytes (kept_at opening_layout DataOut stream) 1 c)) (same_place _ _ (omega arith))

-- EVENTS AND BUFFERS

opening_events_hold : HoldsEventRing EVENT_RING_PLACES EVENT_RING opening_events opening_memory
opening_events_hold =
    let segment = IsSegment-opening_events EVENT_RING_PLACES first_end (omega arith) (omega arith) refl in
    record {
      ring = segment.ring;
      places = replicate EVENT_RING_PLACES (replicate 16 0);
      events = segment.holds;
      there = zero_places EVENT_RING EVENT_RING_PLACES (omega arith) (omega arith);
    }

opening_held : (tag : ℕ) → 1 ≤ tag → tag ≤ STREAMS → held_for opening_frames tag ≡ opening_buffers
unfolding opening_frames
opening_held tag some most = get_or-replicate STREAMS (tag - 1) opening_buffers no_buffers (omega (arith, some, most))

opening_bytes : (buffer : Buffer) → (n : ℕ) × (n ≤ COMMAND_BYTES + STATUS_BYTES) × (bytes_in opening_buffers buffer ≡ replicate n 0)
unfolding opening_buffers
opening_bytes CommandBuffer = (COMMAND_BYTES, omega arith, refl)
opening_bytes StatusBuffer = (STATUS_BYTES, omega arith, refl)
opening_bytes Window = (0, omega arith, refl)

above_map : (buffer : Buffer) (tag : ℕ) → tag ≤ STREAMS → (COMMAND_BUFFERS ≤ address_of (front_of buffer tag)) × (address_of (front_of buffer tag) < 2 ^ 63)
above_map CommandBuffer tag most = (omega arith, omega arith)
above_map StatusBuffer tag most = (omega arith, omega arith)
above_map Window tag most = (omega arith, omega arith)

opening_frames_hold : HoldsFrames opening_frames opening_memory
opening_frames_hold buffer tag some most =
    let zeros_there = opening_bytes buffer in
    let at = above_map buffer tag most in
    let is : bytes_of opening_frames (front_of buffer tag) ≡ replicate zeros_there.0 0 = ap (λ (held : TagBuffers). bytes_in held buffer) (opening_held tag some most) ∙ zeros_there.2 in
    rw (is, length-replicate {A = ℕ} zeros_there.0 0) (opening-zeros (address_of (front_of buffer tag)) zeros_there.0 at.0 (omega (arith, at.1, zeros_there.1)))

whole_opening : IsWhole opening_frames
unfolding opening_frames
whole_opening = replicate_whole

pub opening_is_laid : OpeningIsLaid
opening_is_laid = record {
  layout = record { beside = opening_beside; apart = opening_apart };
  laid = record {
    lines_are = opening_are_lines;
    whole = whole_opening;
    rings = λ pipe stream has. rw (opening_ring_of pipe stream has) (opening_rings pipe stream has);
    ends = λ pipe stream has. rw (opening_ring_of pipe stream has) (inl (opening_items pipe stream has));
    events = opening_events_hold;
    producer = record { base_is = refl; places = refl; place = refl; cycle = refl; free = refl };
    buffers = opening_frames_hold;
  };
}

-- A COMMAND IN FRONT

first_place : Place
first_place = record { tag = 1; buffer = CommandBuffer; offset = 0 }

first_named : Names opening_frames (COMMAND_BUFFERS + BUFFER_SPAN * 1) COMMAND_BYTES first_place
unfolding first_place opening_buffers
first_named = record {
  first_tag = omega arith;
  last_tag = omega arith;
  begins = refl;
  within =
      let size : length (bytes_of opening_frames first_place) ≡ COMMAND_BYTES = ap (λ (held : TagBuffers). length held.command) (opening_held 1 (omega arith) (omega arith)) in
      omega (arith, size);
}

pub command_is_in_front : CommandIsInFront
command_is_in_front = record {
  mirrors = record {
    laid = trb_is_put opening_layout opening_lines opening_frames opening_memory opening_end Command 0 first_trb opening_is_laid.layout opening_is_laid.laid refl
        (omega arith) (omega arith) (((omega arith, omega arith, omega arith, omega arith)), omega arith);
    device = refl;
  };
  ready = record { home = refl; consumer = refl; gathered = refl };
  item = written-apart opening_memory (ring_base Command 0) (text first_trb true) 0x1000 8 (inl (omega arith)) ∙ opening_items Command 0 refl;
  room = omega arith;
  td = record { front = refl; last = refl; told = refl };
  own = ((refl, refl, inr (first_place, first_named)), omega arith);
}

-- AN ANSWER THAT IS DUE

status_place : Place
status_place = record { tag = 1; buffer = StatusBuffer; offset = 0 }

status_named : Names opening_frames (STATUS_BUFFERS + BUFFER_SPAN * 1) STATUS_BYTES status_place
unfolding status_place opening_buffers
status_named = record {
  first_tag = omega arith;
  last_tag = omega arith;
  begins = refl;
  within =
      let size : length (bytes_of opening_frames status_place) ≡ STATUS_BYTES = ap (λ (held : TagBuffers). length held.status) (opening_held 1 (omega arith) (omega arith)) in
      omega (arith, size);
}

answer_short : length (unit_text first_answer) ≤ STATUS_BYTES
unfolding unit_text
answer_short = omega arith

pub answer_is_due : AnswerIsDue
answer_is_due = record {
  mirrors = record {
    laid = trb_is_put opening_layout opening_lines opening_frames opening_memory opening_end Status 1 first_status_trb opening_is_laid.layout opening_is_laid.laid
        (omega arith, omega arith) (omega arith) (omega arith) (((omega arith, omega arith, omega arith, omega arith)), omega arith);
    device = refl;
  };
  ready = record { array = refl; consumer = refl; unit = refl; overlaps = refl };
  first_tag = omega arith;
  last_tag = omega arith;
  item = written-apart opening_memory (ring_base Status 1) (text first_status_trb true) 0x2010 16 (inl (omega arith)) ∙ opening_items Status 1 (omega arith, omega arith);
  room = omega arith;
  td = record { front = refl; last = refl; told = refl };
  answer = refl;
  due = refl;
  own = ((refl, refl, inr (status_place, status_named)), answer_short);
}
