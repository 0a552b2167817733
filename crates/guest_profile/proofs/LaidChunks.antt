-- A data TRB is consumed over a memory that is laid out, with its event or without.
use Rattle.std.proofs.Common.{ℕ, ◌+◌, ◌^◌, ◌<◌, Bool, true, false, if◌then◌else◌, List, length as list_length, arith}
use Rattle.uas_profile.specs.declared.Pipe.{Pipe}
use Rattle.uas_profile.specs.declared.TheConstants.{SUCCESS}
use Rattle.cycle_ring.specs.Ring.{pointer_of}
use Rattle.stream_array.specs.Map.{HasRing, places_of}
use Rattle.stream_array.specs.Rings.{LinesState, ring_of}
use Rattle.frame_store.specs.declared.TagBuffers.{TagBuffers}
use Rattle.xhci_ctl.specs.Steps.{completed, consumed, endpoint_of}
use Rattle.guest_memory.specs.Bytes.{Memory, written}
use Rattle.guest_memory.specs.rings.Ends.{behind, home_at, home_bytes}
use Rattle.guest_memory.specs.rings.Events.{EventEnd}
use Rattle.guest_profile.specs.Rings.{cursor_at}
use Rattle.guest_profile.specs.Layout.{IsLaid, IsLayout, Layout, kept_at}
use Rattle.guest_profile.specs.Ready.{HasRoom}
use Rattle.guest_profile.proofs.Apart.{kept_beside, ring_beside, ring_bounds}
use Rattle.guest_profile.proofs.LaidEnds.{laid_stood}
use Rattle.guest_profile.proofs.LaidSteps.{laid_completed, length-home_bytes, stands_kept}
use Rattle.guest_profile.proofs.Rings.{item_is_passed}
use Rattle.guest_profile.proofs.Commands.{told_same, writable_event}
use Rattle.guest_profile.proofs.InStep.{went_world}

-- a TRB is consumed without an event
pub laid_consumed : (layout : Layout) (lines : LinesState) (frames : List TagBuffers) (memory : Memory) (end : EventEnd) (pipe : Pipe) (stream : ℕ)
    → IsLayout layout → IsLaid layout lines frames memory end → HasRing pipe stream → (ring_of lines pipe stream).got < list_length (ring_of lines pipe stream).put
    → IsLaid layout (consumed lines pipe stream) frames
    (written memory (home_at (kept_at layout pipe stream)) (home_bytes (kept_at layout pipe stream) 1
    (behind (cursor_at (places_of pipe) (ring_of lines pipe stream) (ring_of lines pipe stream).got))))
    end
laid_consumed layout lines frames memory end pipe stream is laid has some =
    let cursor = behind (cursor_at (places_of pipe) (ring_of lines pipe stream) (ring_of lines pipe stream).got) in
    let bounds = ring_bounds lines pipe stream laid.lines_are has in
    let stands = item_is_passed (places_of pipe) (ring_of lines pipe stream) memory (laid.rings pipe stream has) some in
    laid_stood layout lines frames memory end pipe stream ((ring_of lines pipe stream).got + 1) (home_bytes (kept_at layout pipe stream) 1 cursor) is laid has
    (omega (arith, some)) (length-home_bytes (kept_at layout pipe stream) cursor)
    (stands_kept (places_of pipe) ((ring_of lines pipe stream).got + 1) (ring_of lines pipe stream) memory (kept_at layout pipe stream) cursor bounds.least
    (ring_beside (places_of pipe) _ _ _ bounds (kept_beside layout pipe stream is has)) stands)

-- by its Chain bit
pub laid_went : (layout : Layout) (lines : LinesState) (frames : List TagBuffers) (memory : Memory) (end : EventEnd) (pipe : Pipe) (stream edtla : ℕ) (chain quiet : Bool)
    → IsLayout layout → IsLaid layout lines frames memory end → HasRing pipe stream → (ring_of lines pipe stream).got < list_length (ring_of lines pipe stream).put
    → HasRoom lines → endpoint_of pipe < 2 ^ 5
    → IsLaid layout
    (if chain then consumed lines pipe stream
    else completed lines pipe stream (pointer_of (places_of pipe) (ring_of lines pipe stream) (ring_of lines pipe stream).got) 0 SUCCESS)
    frames
    (went_world chain memory end (endpoint_of pipe) (kept_at layout pipe stream) (cursor_at (places_of pipe) (ring_of lines pipe stream) (ring_of lines pipe stream).got) edtla quiet).memory
    (went_world chain memory end (endpoint_of pipe) (kept_at layout pipe stream) (cursor_at (places_of pipe) (ring_of lines pipe stream) (ring_of lines pipe stream).got) edtla quiet).events
laid_went layout lines frames memory end pipe stream edtla true quiet is laid has some room of = laid_consumed layout lines frames memory end pipe stream is laid has some
laid_went layout lines frames memory end pipe stream edtla false quiet is laid has some room of =
    let writable = writable_event (places_of pipe) (ring_of lines pipe stream) (ring_of lines pipe stream).got 0 SUCCESS (endpoint_of pipe)
    ((laid.rings pipe stream has).ring) (omega arith) (omega arith) of in
    let told = told_same memory end (endpoint_of pipe) (kept_at layout pipe stream) (cursor_at (places_of pipe) (ring_of lines pipe stream) (ring_of lines pipe stream).got)
    0 SUCCESS quiet writable in
    rw told (laid_completed layout lines frames memory end pipe stream 0 SUCCESS quiet is laid has some room writable)
