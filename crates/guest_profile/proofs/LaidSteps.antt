-- A TRB is consumed with its event, and a Link is followed, over a memory that is laid out.
use Rattle.std.proofs.Common.{◌≡◌, ℕ, ◌+◌, ◌-◌, ◌*◌, ◌<◌, ◌≤◌, Bool, List, length, Some, refl, ap, ◌∙◌, arith, inl, inr}
use Rattle.std.proofs.lemmas.List.{set-get_or}
use Rattle.uas_profile.specs.declared.Pipe.{Pipe}
use Rattle.uas_profile.specs.declared.Pipe.TheVariants.{Command, Status, DataIn, DataOut}
use Rattle.uas_profile.specs.declared.TheConstants.{SLOT}
use Rattle.xhci_trb.specs.Text.{text}
use Rattle.cycle_ring.specs.Ring.{opening, pointer_of}
use Rattle.cycle_ring.specs.Items.{ItemRing}
use Rattle.event_ring.specs.declared.Event.{Event}
use Rattle.event_ring.specs.declared.Event.TheVariants.{Transfer}
use Rattle.event_ring.specs.Events.{IsWritable, trb_of}
use Rattle.stream_array.specs.Map.{HasRing, places_of}
use Rattle.stream_array.specs.Rings.{LinesState, ring_of, with_events, with_ring}
use Rattle.stream_array.proofs.Frames.{with_events-kept}
use Rattle.frame_store.specs.declared.TagBuffers.{TagBuffers}
use Rattle.xhci_ctl.specs.Steps.{completed, endpoint_of}
use Rattle.guest_memory.specs.Bytes.{Memory, written}
use Rattle.guest_memory.specs.declared.rings.cursor.Cursor.{Cursor}
use Rattle.guest_memory.specs.declared.rings.context.Home.{Home}
use Rattle.guest_memory.specs.declared.rings.context.Home.TheVariants.{Stream, Endpoint}
use Rattle.guest_memory.specs.rings.Ends.{behind, home_at, home_bytes, home_size, pointer_bytes, stream_bytes}
use Rattle.guest_memory.specs.rings.Events.{EventEnd, enqueue_pointer, enqueued}
use Rattle.guest_profile.specs.Rings.{HoldsRing, IsBeforeLink, StandsAt, cursor_at}
use Rattle.guest_profile.specs.Events.{with_event}
use Rattle.guest_profile.specs.Contexts.{HasEnd}
use Rattle.guest_profile.specs.Layout.{AreApart, IsLaid, IsLayout, KeepsEnd, Layout, kept_at}
use Rattle.guest_profile.specs.Ready.{HasRoom, told_memory}
use Rattle.guest_profile.proofs.Ranges.{written-read}
use Rattle.guest_profile.proofs.Apart.{IsBeforeLink-apart, kept_beside, ring_beside, ring_bounds}
use Rattle.guest_profile.proofs.LaidEnds.{laid_stood}
use Rattle.guest_profile.proofs.LaidEvents.{laid_posted}
use Rattle.guest_profile.proofs.Rings.{item_is_passed}

-- what is kept of an end
pub length-home_bytes : (home : Home) (cursor : Cursor) → length (home_bytes home 1 cursor) ≡ home_size home
unfolding stream_bytes pointer_bytes
length-home_bytes (Stream at) cursor = refl
length-home_bytes (Endpoint at) cursor = refl

pub HasEnd-written : (memory : Memory) (home : Home) (cursor : Cursor) → HasEnd (written memory (home_at home) (home_bytes home 1 cursor)) home cursor
HasEnd-written memory home cursor = written-read memory (home_at home) (home_size home) (home_bytes home 1 cursor) (length-home_bytes home cursor)

-- where a consumer stands is kept once it is written
pub stands_kept : (n got : ℕ) (r : ItemRing) (memory : Memory) (home : Home) (cursor : Cursor) → 4 ≤ n → AreApart r.base (16 * n) (home_at home) (home_size home)
    → StandsAt n r got memory cursor
    → KeepsEnd n (record r { got = got }) home (written memory (home_at home) (home_bytes home 1 cursor))
stands_kept n got r memory home cursor some apart (inl item) =
    inl (HasEnd-written memory home cursor ∙ ap (λ (c : Cursor). Some (home_bytes home 1 c)) item)
stands_kept n got r memory home cursor some apart (inr link) = inr (record {
  kept = HasEnd-written memory home cursor ∙ ap (λ (c : Cursor). Some (home_bytes home 1 c)) link.0;
  before = rest (IsBeforeLink-apart memory (home_at home) (home_bytes home 1 cursor) n r got some (rw (length-home_bytes home cursor) apart) link.1);
})
  where
    rest : IsBeforeLink n r got (written memory (home_at home) (home_bytes home 1 cursor))
        → IsBeforeLink n (record r { got = got }) got (written memory (home_at home) (home_bytes home 1 cursor))
    rest before = record { first = before.first; chain = before.chain; link = before.link }

-- the event of a TRB that is consumed
abbrev pub trb_event : LinesState → Pipe → ℕ → ℕ → ℕ → Event
trb_event lines pipe stream residual code =
    Transfer (pointer_of (places_of pipe) (ring_of lines pipe stream) (ring_of lines pipe stream).got) residual code (endpoint_of pipe) SLOT

-- posting and consuming, in either order
both_orders : (lines : LinesState) (pipe : Pipe) (stream address residual code : ℕ)
    → completed lines pipe stream address residual code
    ≡ with_ring (with_events lines (with_event lines.events (Transfer address residual code (endpoint_of pipe) SLOT))) pipe stream
    (record (ring_of (with_events lines (with_event lines.events (Transfer address residual code (endpoint_of pipe) SLOT))) pipe stream) {
      got = (ring_of lines pipe stream).got + 1;
    })
both_orders lines Command stream address residual code = refl
both_orders lines Status stream address residual code = refl
both_orders lines DataIn stream address residual code = refl
both_orders lines DataOut stream address residual code = refl

pub laid_completed : (layout : Layout) (lines : LinesState) (frames : List TagBuffers) (memory : Memory) (end : EventEnd) (pipe : Pipe) (stream residual code : ℕ) (quiet : Bool)
    → IsLayout layout → IsLaid layout lines frames memory end → HasRing pipe stream → (ring_of lines pipe stream).got < length (ring_of lines pipe stream).put
    → HasRoom lines → IsWritable (trb_event lines pipe stream residual code)
    → IsLaid layout
    (completed lines pipe stream (pointer_of (places_of pipe) (ring_of lines pipe stream) (ring_of lines pipe stream).got) residual code)
    frames
    (told_memory memory end (trb_event lines pipe stream residual code) (kept_at layout pipe stream)
    (behind (cursor_at (places_of pipe) (ring_of lines pipe stream) (ring_of lines pipe stream).got)))
    (enqueued end quiet)
laid_completed layout lines frames memory end pipe stream residual code quiet is laid has some room writable =
    let event = trb_event lines pipe stream residual code in
    let posted = laid_posted layout lines frames memory end event quiet is laid (omega (arith, room)) writable in
    let same = with_events-kept lines (with_event lines.events event) laid.lines_are in
    let holds : HoldsRing (places_of pipe) (ring_of lines pipe stream) (written memory (enqueue_pointer end) (text (trb_of event) end.cycle)) =
    rw (same.1 pipe stream) at (posted.rings pipe stream has) in
    let cursor = behind (cursor_at (places_of pipe) (ring_of lines pipe stream) (ring_of lines pipe stream).got) in
    let stands = item_is_passed (places_of pipe) (ring_of lines pipe stream) _ holds some in
    let bounds = ring_bounds lines pipe stream laid.lines_are has in
    let kept = stands_kept (places_of pipe) ((ring_of lines pipe stream).got + 1) (ring_of lines pipe stream) _ (kept_at layout pipe stream) cursor bounds.least
    (ring_beside (places_of pipe) _ _ _ bounds (kept_beside layout pipe stream is has)) stands in
    rw (both_orders lines pipe stream (pointer_of (places_of pipe) (ring_of lines pipe stream) (ring_of lines pipe stream).got) residual code)
    (laid_stood layout (with_events lines (with_event lines.events event)) frames _ (enqueued end quiet) pipe stream
    ((ring_of lines pipe stream).got + 1) (home_bytes (kept_at layout pipe stream) 1 cursor) is posted has
    (rw (same.1 pipe stream) (omega (arith, some))) (length-home_bytes (kept_at layout pipe stream) cursor) (rw (same.1 pipe stream) kept))

-- a ring put back where it was
ring_back : (lines : LinesState) (pipe : Pipe) (stream : ℕ) → with_ring lines pipe stream (ring_of lines pipe stream) ≡ lines
ring_back lines Command stream = refl
ring_back lines Status stream = ap (λ (rings : List ItemRing). record lines { status = rings }) (set-get_or lines.status (stream - 1) (opening 0))
ring_back lines DataIn stream = ap (λ (rings : List ItemRing). record lines { data_in = rings }) (set-get_or lines.data_in (stream - 1) (opening 0))
ring_back lines DataOut stream = ap (λ (rings : List ItemRing). record lines { data_out = rings }) (set-get_or lines.data_out (stream - 1) (opening 0))

pub laid_followed : (layout : Layout) (lines : LinesState) (frames : List TagBuffers) (memory : Memory) (end : EventEnd) (pipe : Pipe) (stream : ℕ)
    → IsLayout layout → IsLaid layout lines frames memory end → HasRing pipe stream
    → IsLaid layout lines frames
    (written memory (home_at (kept_at layout pipe stream)) (home_bytes (kept_at layout pipe stream) 1
    (cursor_at (places_of pipe) (ring_of lines pipe stream) (ring_of lines pipe stream).got)))
    end
laid_followed layout lines frames memory end pipe stream is laid has =
    let cursor = cursor_at (places_of pipe) (ring_of lines pipe stream) (ring_of lines pipe stream).got in
    rw (ring_back lines pipe stream) at
    (laid_stood layout lines frames memory end pipe stream (ring_of lines pipe stream).got (home_bytes (kept_at layout pipe stream) 1 cursor) is laid has
    ((laid.rings pipe stream has).ring.consumed) (length-home_bytes (kept_at layout pipe stream) cursor)
    (inl (HasEnd-written memory (kept_at layout pipe stream) cursor)))
