-- Bytes of a buffer are read and written over a memory that is laid out.
use Rattle.std.proofs.Common.{◌≡◌, ◌≢◌, ℕ, ◌+◌, ◌-◌, ◌*◌, ◌<◌, ◌≤◌, ◌⊎◌, List, [], ◌++◌, length, length-append, length-take, length-drop, take, drop, Option, Some, None, slice_get, unwrap_or, option_map, refl, sym, ap, ◌∙◌, arith, inl, inr}
use Rattle.std.proofs.lemmas.Bool.{cases_eq, cases_lt}
use Rattle.std.proofs.lemmas.List.{length-take-le, take-append-le, take_all, get_or-set_other, get_or-set_same}
use Rattle.uas_profile.specs.declared.TheConstants.{EVENT_RING, EVENT_RING_PLACES, STREAMS}
use Rattle.stream_array.specs.Map.{places_of}
use Rattle.stream_array.specs.Rings.{LinesState, ring_of}
use Rattle.guest_memory.specs.rings.Events.{EventEnd}
use Rattle.guest_memory.specs.Parts.{get_drop, get_left, get_right, get_take}
use Rattle.guest_memory.specs.Bytes.{Memory, bytes_from, written}
use Rattle.guest_memory.specs.Ranges.{each_of, from_each, out_before, out_behind, size_of, written_ahead, written_beside}
use Rattle.frame_store.specs.declared.Buffer.{Buffer}
use Rattle.frame_store.specs.declared.Buffer.TheVariants.{Command, Status, Window}
use Rattle.frame_store.specs.declared.Place.{Place}
use Rattle.frame_store.specs.declared.TagBuffers.{TagBuffers}
use Rattle.frame_store.specs.Buffers.{IsNamed, IsWhole, Names, bytes_at, bytes_in, bytes_of, front_of, held_for, no_buffers, start_of, with_bytes, with_held, with_part}
use Rattle.frame_store.specs.Buffers.{written as frames_written}
use Rattle.frame_store.specs.Places.{address_of, base_of, room_of}
use Rattle.frame_store.specs.Splice.{spliced}
use Rattle.frame_store.proofs.FramesLaws.{bytes_of-room, length-spliced, start_of-named, with_held-whole, with_part-sizes, written-named}
use Rattle.guest_profile.specs.Layout.{AreApart, HoldsFrames, IsBeside, IsLaid, IsLayout, Layout, kept_at}
use Rattle.guest_profile.proofs.Ranges.{less_or_more, written-apart}
use Rattle.guest_profile.proofs.Apart.{HoldsEventRing-apart, HoldsRing-apart, KeepsEnd-apart, RingBounds, frame_bounds, kept_beside, ring_bounds}

-- a part of a range that is there
pub part_from : (memory : Memory) (at n offset len : ℕ) (bytes : List ℕ) → bytes_from memory at n ≡ Some bytes → offset + len ≤ n
    → bytes_from memory (at + offset) len ≡ Some (take len (drop offset bytes))
part_from memory at n offset len bytes has within =
    let size = size_of memory at n bytes has in
    from_each memory (at + offset) len (take len (drop offset bytes)) (length-take-le len (drop offset bytes) (omega (arith, size, length-drop offset bytes)))
    (λ k below.
    let e : at + offset + k ≡ at + (offset + k) = omega arith in
    ap memory e ∙ each_of memory at n bytes has (offset + k) (omega (arith, below, within))
    ∙ sym (get_take len (drop offset bytes) k below ∙ get_drop offset bytes k))

-- the bytes of a buffer of which a part was written
spliced-parts : (old : List ℕ) (from : ℕ) (new : List ℕ) → from + length new ≤ length old
    → spliced old from new ≡ take from old ++ (new ++ drop (length new) (drop from old))
spliced-parts old from new fits =
    let longer : length (take from old ++ (new ++ drop (length new) (drop from old))) ≡ length old =
    omega (arith, length-append {A = ℕ}, length-take {A = ℕ}, length-drop {A = ℕ}) in
    take-append-le (length old) (take from old ++ (new ++ drop (length new) (drop from old))) _ (omega (arith, longer))
    ∙ take_all (length old) (take from old ++ (new ++ drop (length new) (drop from old))) (omega (arith, longer))

get-spliced : (old : List ℕ) (from : ℕ) (new : List ℕ) (k : ℕ) → from + length new ≤ length old → k < length old
    → slice_get (spliced old from new) k ≡ slice_get (take from old ++ (new ++ drop (length new) (drop from old))) k
get-spliced old from new k fits below = ap (λ (xs : List ℕ). slice_get xs k) (spliced-parts old from new fits)

pub written_part : (memory : Memory) (at from : ℕ) (old new : List ℕ) → bytes_from memory at (length old) ≡ Some old → from + length new ≤ length old
    → bytes_from (written memory (at + from) new) at (length old) ≡ Some (spliced old from new)
written_part memory at from old new has fits =
    let front : length (take from old) ≡ from = length-take-le from old (omega arith) in
    from_each (written memory (at + from) new) at (length old) (spliced old from new) (length-spliced old from new) (λ k below.
    sym (get-spliced old from new k fits below ∙ elim (cases_lt k from) [
      | inl before ↦ get_left (take from old) _ k (omega arith) ∙ get_take from old k before
          ∙ sym (written_beside memory (at + from) new (at + k) (out_before (at + from) (length new) (at + k) (omega arith))
          ∙ each_of memory at (length old) old has k below)
      | inr behind ↦
          let ahead : k - length (take from old) ≡ k - from = omega arith in
          get_right (take from old) _ k (omega arith) ∙ ap (slice_get (new ++ drop (length new) (drop from old))) ahead
          ∙ elim (cases_lt (k - from) (length new)) [
            | inl inside ↦
                let e : at + k ≡ at + from + (k - from) = omega arith in
                get_left new _ (k - from) inside ∙ sym (ap (written memory (at + from) new) e ∙ written_ahead memory (at + from) new (k - from) inside)
            | inr past ↦
                let e : from + (length new + (k - from - length new)) ≡ k = omega arith in
                get_right new _ (k - from) past ∙ get_drop (length new) (drop from old) (k - from - length new) ∙ get_drop from old (length new + (k - from - length new))
                ∙ ap (slice_get old) e
                ∙ sym (written_beside memory (at + from) new (at + k) (out_behind (at + from) (length new) (at + k) (omega arith))
                ∙ each_of memory at (length old) old has k below)
          ]
    ]))

-- BUFFERS

-- the bytes that an address names stand there
pub named_from : (frames : List TagBuffers) (memory : Memory) (address len : ℕ) → IsWhole frames → HoldsFrames frames memory → IsNamed frames address len
    → bytes_from memory address len ≡ Some (bytes_at frames address len)
unfolding bytes_from
named_from frames memory address len whole holds (inl none) = rw none refl
named_from frames memory address len whole holds (inr (place, named)) = elim (cases_eq len 0) [
  | inl none ↦ rw none refl
  | inr some ↦
      let is : start_of address len ≡ place = start_of-named frames address len place whole named (omega arith) in
      let front : bytes_from memory (address_of (front_of place.buffer place.tag)) (length (bytes_of frames place)) ≡ Some (bytes_of frames place) =
      holds place.buffer place.tag named.first_tag named.last_tag in
      let at : address_of (front_of place.buffer place.tag) + place.offset ≡ address = omega (arith, named.begins) in
      rw is (rw at at (part_from memory (address_of (front_of place.buffer place.tag)) (length (bytes_of frames place)) place.offset len (bytes_of frames place) front named.within))
]

-- a buffer that was changed
changed_buffer : (held : TagBuffers) (buffer : Buffer) (from : ℕ) (new : List ℕ) → bytes_in (with_part held buffer from new) buffer ≡ spliced (bytes_in held buffer) from new
changed_buffer held Command from new = refl
changed_buffer held Status from new = refl
changed_buffer held Window from new = by_lent held.lent
  where
    by_lent : (lent : Option (List ℕ)) → unwrap_or (option_map (λ _. spliced (unwrap_or lent []) from new) lent) [] ≡ spliced (unwrap_or lent []) from new
    by_lent None = refl
    by_lent (Some bytes) = refl

-- and the others of its tag
other_buffer : (held : TagBuffers) (buffer other : Buffer) (from : ℕ) (new : List ℕ) → other ≢ buffer → bytes_in (with_part held buffer from new) other ≡ bytes_in held other
other_buffer held Command Command from new differs = absurd (differs refl)
other_buffer held Status Status from new differs = absurd (differs refl)
other_buffer held Window Window from new differs = absurd (differs refl)
other_buffer held buffer other from new differs = refl

-- two buffers are one, or of different kinds
same_buffer : (a b : Buffer) → (a ≡ b) ⊎ (a ≢ b)
same_buffer Command Command = inl refl
same_buffer Status Status = inl refl
same_buffer Window Window = inl refl
same_buffer a b = inr (λ e. absurd (omega (arith, ap base_of e)))

-- a place's range and its buffer's room
pub record PlaceBounds (place : Place) (len : ℕ) : Type 0 where
  pub first_tag : 1 ≤ place.tag
  pub last_tag : place.tag ≤ STREAMS
  pub inside : place.offset + len ≤ room_of place.buffer

pub place_bounds : (frames : List TagBuffers) (address len : ℕ) (place : Place) → IsWhole frames → Names frames address len place → PlaceBounds place len
place_bounds frames address len place whole named = record {
  first_tag = named.first_tag;
  last_tag = named.last_tag;
  inside = omega (arith, named.within, bytes_of-room frames place whole named.first_tag named.last_tag);
}

-- a buffer is apart from a part of another one
apart_parts : (buffer kind : Buffer) (tag size other offset len : ℕ) → size ≤ room_of buffer → tag ≤ STREAMS → 1 ≤ tag
    → PlaceBounds (record { tag = other; buffer = kind; offset = offset }) len → (buffer ≡ kind → tag ≢ other)
    → AreApart (address_of (front_of buffer tag)) size (address_of (record { tag = other; buffer = kind; offset = offset })) len
apart_parts Command Command tag size other offset len short most some bounds differs = elim (less_or_more tag other (differs refl)) [
  | inl less ↦ inl (omega (arith, bounds.inside))
  | inr more ↦ inr (omega (arith, bounds.inside))
]
apart_parts Command Status tag size other offset len short most some bounds differs = inl (omega (arith, bounds.inside))
apart_parts Command Window tag size other offset len short most some bounds differs = inl (omega (arith, bounds.inside))
apart_parts Status Command tag size other offset len short most some bounds differs = inr (omega (arith, bounds.inside, bounds.last_tag))
apart_parts Status Status tag size other offset len short most some bounds differs = elim (less_or_more tag other (differs refl)) [
  | inl less ↦ inl (omega (arith, bounds.inside))
  | inr more ↦ inr (omega (arith, bounds.inside))
]
apart_parts Status Window tag size other offset len short most some bounds differs = inl (omega (arith, bounds.inside))
apart_parts Window Command tag size other offset len short most some bounds differs = inr (omega (arith, bounds.inside, bounds.last_tag))
apart_parts Window Status tag size other offset len short most some bounds differs = inr (omega (arith, bounds.inside, bounds.last_tag))
apart_parts Window Window tag size other offset len short most some bounds differs = elim (less_or_more tag other (differs refl)) [
  | inl less ↦ inl (omega (arith, bounds.inside))
  | inr more ↦ inr (omega (arith, bounds.inside))
]

-- what stands of a buffer once bytes were written to another one, or to a part of it
buffer_kept : (frames : List TagBuffers) (memory : Memory) (place : Place) (new : List ℕ) (buffer : Buffer) (tag : ℕ) → IsWhole frames
    → HoldsFrames frames memory → PlaceBounds place (length new) → 1 ≤ tag → tag ≤ STREAMS → (buffer ≡ place.buffer → tag ≢ place.tag)
    → bytes_from (written memory (address_of place) new) (address_of (front_of buffer tag)) (length (bytes_of frames (front_of buffer tag)))
    ≡ Some (bytes_of frames (front_of buffer tag))
buffer_kept frames memory place new buffer tag whole holds bounds some most differs =
    written-apart memory (address_of place) new _ _
    (apart_parts buffer place.buffer tag _ place.tag place.offset (length new) (frame_bounds frames buffer tag whole some most) most some bounds differs)
    ∙ holds buffer tag some most

-- the buffers of a tag that was changed, and of another one
held_same : (frames : List TagBuffers) (tag : ℕ) (held : TagBuffers) → IsWhole frames → 1 ≤ tag → tag ≤ STREAMS → held_for (with_held frames tag held) tag ≡ held
held_same frames tag held whole some most = get_or-set_same frames (tag - 1) held no_buffers (omega (arith, whole.tags))

held_other : (frames : List TagBuffers) (tag other : ℕ) (held : TagBuffers) → 1 ≤ tag → 1 ≤ other → other ≢ tag
    → held_for (with_held frames tag held) other ≡ held_for frames other
held_other frames tag other held some also differs = get_or-set_other frames (tag - 1) (other - 1) held no_buffers (λ e. differs (omega (arith, e, some, also)))

HoldsFrames-with : (frames : List TagBuffers) (memory : Memory) (place : Place) (new : List ℕ) → IsWhole frames → HoldsFrames frames memory
    → 1 ≤ place.tag → place.tag ≤ STREAMS → place.offset + length new ≤ length (bytes_of frames place)
    → HoldsFrames (with_bytes frames place new) (written memory (address_of place) new)
HoldsFrames-with frames memory place new whole holds first last within buffer tag some most = elim (cases_eq tag place.tag) [
  | inl same ↦ elim (same_buffer buffer place.buffer) [
    | inl kind ↦
        let is : bytes_of (with_bytes frames place new) (front_of buffer tag) ≡ spliced (bytes_of frames place) place.offset new =
        ap (λ (t : ℕ). bytes_in (held_for (with_bytes frames place new) t) buffer) same
        ∙ ap (λ (h : TagBuffers). bytes_in h buffer) (held_same frames place.tag (with_part (held_for frames place.tag) place.buffer place.offset new) whole first last)
        ∙ ap (bytes_in (with_part (held_for frames place.tag) place.buffer place.offset new)) kind
        ∙ changed_buffer (held_for frames place.tag) place.buffer place.offset new in
        let at : address_of (front_of buffer tag) ≡ address_of (front_of place.buffer place.tag) =
        ap (λ (t : ℕ). address_of (front_of buffer t)) same ∙ ap (λ (b : Buffer). address_of (front_of b place.tag)) kind in
        let from : address_of place ≡ address_of (front_of place.buffer place.tag) + place.offset = omega arith in
        let old = holds place.buffer place.tag first last in
        rw (is, at, from, length-spliced (bytes_of frames place) place.offset new)
        (written_part memory (address_of (front_of place.buffer place.tag)) place.offset (bytes_of frames place) new old within)
    | inr differs ↦
        let is : bytes_of (with_bytes frames place new) (front_of buffer tag) ≡ bytes_of frames (front_of buffer tag) =
        ap (λ (t : ℕ). bytes_in (held_for (with_bytes frames place new) t) buffer) same
        ∙ ap (λ (h : TagBuffers). bytes_in h buffer) (held_same frames place.tag (with_part (held_for frames place.tag) place.buffer place.offset new) whole first last)
        ∙ other_buffer (held_for frames place.tag) place.buffer buffer place.offset new differs
        ∙ ap (λ (t : ℕ). bytes_in (held_for frames t) buffer) (sym same) in
        rw is (buffer_kept frames memory place new buffer tag whole holds bounds some most (λ kind. absurd (differs kind)))
  ]
  | inr other ↦
      let is : bytes_of (with_bytes frames place new) (front_of buffer tag) ≡ bytes_of frames (front_of buffer tag) =
      ap (λ (h : TagBuffers). bytes_in h buffer) (held_other frames place.tag tag (with_part (held_for frames place.tag) place.buffer place.offset new) first some other) in
      rw is (buffer_kept frames memory place new buffer tag whole holds bounds some most (λ _. other))
]
  where
    bounds : PlaceBounds place (length new)
    bounds = record { first_tag = first; last_tag = last; inside = omega (arith, within, bytes_of-room frames place whole first last) }

-- the profile's rings lie apart from its buffers
ring_off_place : (n base : ℕ) (kind : Buffer) (tag offset len : ℕ) → RingBounds n base → PlaceBounds (record { tag = tag; buffer = kind; offset = offset }) len
    → AreApart base (16 * n) (address_of (record { tag = tag; buffer = kind; offset = offset })) len
ring_off_place n base Command tag offset len ring bounds = inr (omega (arith, ring.first, bounds.inside, bounds.last_tag))
ring_off_place n base Status tag offset len ring bounds = inr (omega (arith, ring.first, bounds.inside, bounds.last_tag))
ring_off_place n base Window tag offset len ring bounds = inl (omega (arith, ring.last))

events_off_place : (kind : Buffer) (tag offset len : ℕ) → PlaceBounds (record { tag = tag; buffer = kind; offset = offset }) len
    → AreApart EVENT_RING (16 * EVENT_RING_PLACES) (address_of (record { tag = tag; buffer = kind; offset = offset })) len
events_off_place Command tag offset len bounds = inr (omega (arith, bounds.inside, bounds.last_tag))
events_off_place Status tag offset len bounds = inr (omega (arith, bounds.inside, bounds.last_tag))
events_off_place Window tag offset len bounds = inl (omega arith)

beside_place : (at size : ℕ) (kind : Buffer) (tag offset len : ℕ) → IsBeside at size → PlaceBounds (record { tag = tag; buffer = kind; offset = offset }) len
    → AreApart at size (address_of (record { tag = tag; buffer = kind; offset = offset })) len
beside_place at size Command tag offset len beside bounds = elim beside.buffers [
  | inl before ↦ inl (omega (arith, before))
  | inr behind ↦ inr (omega (arith, behind, bounds.inside, bounds.last_tag))
]
beside_place at size Status tag offset len beside bounds = elim beside.buffers [
  | inl before ↦ inl (omega (arith, before))
  | inr behind ↦ inr (omega (arith, behind, bounds.inside, bounds.last_tag))
]
beside_place at size Window tag offset len beside bounds = elim beside.windows [
  | inl before ↦ inl (omega (arith, before))
  | inr behind ↦ inr (omega (arith, behind, bounds.inside, bounds.last_tag))
]

pub laid_written : (layout : Layout) (lines : LinesState) (frames : List TagBuffers) (memory : Memory) (end : EventEnd) (address len : ℕ) (new : List ℕ) (place : Place)
    → IsLayout layout → IsLaid layout lines frames memory end → Names frames address len place → length new ≡ len
    → IsLaid layout lines (frames_written frames address len new) (written memory address new) end
laid_written layout lines frames memory end address len new place is laid named size =
    let same : frames_written frames address len new ≡ with_bytes frames place new = written-named frames address len new place laid.whole named size in
    let bounds : PlaceBounds place (length new) = rw size (place_bounds frames address len place laid.whole named) in
    rw (same, ← named.begins) (record {
      lines_are = laid.lines_are;
      whole = with_held-whole frames place.tag _ laid.whole named.first_tag
          (with_part-sizes (held_for frames place.tag) place.buffer place.offset new (laid.whole.sizes place.tag named.first_tag named.last_tag));
      rings = λ pipe stream has. HoldsRing-apart memory (address_of place) new (places_of pipe) (ring_of lines pipe stream)
          (ring_off_place (places_of pipe) _ place.buffer place.tag place.offset (length new) (ring_bounds lines pipe stream laid.lines_are has) bounds)
          (laid.rings pipe stream has);
      ends = λ pipe stream has. KeepsEnd-apart memory (address_of place) new (places_of pipe) (ring_of lines pipe stream) (kept_at layout pipe stream)
          ((ring_bounds lines pipe stream laid.lines_are has).least)
          (ring_off_place (places_of pipe) _ place.buffer place.tag place.offset (length new) (ring_bounds lines pipe stream laid.lines_are has) bounds)
          (beside_place _ _ place.buffer place.tag place.offset (length new) (kept_beside layout pipe stream is has) bounds)
          (laid.ends pipe stream has);
      events = HoldsEventRing-apart memory (address_of place) new EVENT_RING_PLACES EVENT_RING lines.events
          (events_off_place place.buffer place.tag place.offset (length new) bounds) laid.events;
      producer = laid.producer;
      buffers = HoldsFrames-with frames memory place new laid.whole laid.buffers named.first_tag named.last_tag (omega (arith, size, named.within));
    })
