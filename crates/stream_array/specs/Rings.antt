-- All rings between host and controller, and what their stream contexts show (xHCI 1.2, 4.12).
use Rattle.std.specs.Prelude.{◌≡◌, ◌≢◌, ℕ, ◌-◌, ◌<◌, ◌≤◌, List, length, Some, None, slice_index_or, slice_set}
use Rattle.cycle_ring.specs.Ring.{opening, pointer_of, cycle_of}
use Rattle.cycle_ring.specs.Items.{ItemRing}
use Rattle.event_ring.specs.Events.{Events, opening as opening_events}
use Rattle.uas_profile.specs.declared.Pipe.{Pipe}
use Rattle.uas_profile.specs.declared.Pipe.TheVariants.{Command, Status, DataIn, DataOut}
use Rattle.stream_array.specs.declared.Dequeue.{Dequeue}
use Rattle.uas_profile.specs.declared.TheConstants.{STREAMS, STREAM_ENTRIES, STREAM_RING_PLACES, ENGINE_RING}
use Rattle.stream_array.specs.Map.{HasRing, ring_base}
use Rattle.stream_array.specs.Contexts.{Contexts, entry_of}

-- the ring of a stream in the list of its pipe's rings, where stream 1 is the first
abbrev pub stream_ring : List ItemRing → ℕ → ItemRing
stream_ring rings stream = slice_index_or rings (stream - 1) (opening 0)

-- the consumer's end of a stream's ring
abbrev pub consumer_end : ItemRing → Dequeue
consumer_end r = record {
  pointer = pointer_of STREAM_RING_PLACES r r.got;
  cycle = cycle_of STREAM_RING_PLACES r r.got;
}

-- a pipe's contexts show the consumer's end of each ring, and nothing elsewhere
pub record IsShown (shown : List ItemRing) (contexts : Contexts) : Type 0 where
  pub rings : length shown ≡ STREAMS
  pub entries : length contexts ≡ STREAM_ENTRIES
  pub reserved : entry_of contexts 0 ≡ None
  pub ring : (stream : ℕ) → 0 < stream → stream ≤ STREAMS → entry_of contexts stream ≡ Some (consumer_end (stream_ring shown stream))
  pub none : (stream : ℕ) → STREAMS < stream → entry_of contexts stream ≡ None

-- a ring has a pending TRB, or pending foreign bytes
abbrev pub HasPending : ItemRing → Type 0
HasPending r = r.got < length r.put

-- of a pipe's rings, those of the streams from this one on and below another have nothing pending
abbrev pub NonePending : List ItemRing → ℕ → ℕ → Type 0
NonePending rings from end =
    (stream : ℕ) → (0 < stream) × (stream ≤ STREAMS) → from ≤ stream → stream < end → HasPending (stream_ring rings stream) → ⊥

-- The rings: the command pipe's, those of the three pipes with streams, the controller's command ring and
-- the event ring.
pub record LinesState : Type 0 where
  pub command : ItemRing
  pub status : List ItemRing
  pub data_in : List ItemRing
  pub data_out : List ItemRing
  pub engine : ItemRing
  pub events : Events

-- the ring of a pipe and a stream, 0 for the command pipe
abbrev pub ring_of : LinesState → Pipe → ℕ → ItemRing
ring_of l Command stream = l.command
ring_of l Status stream = stream_ring l.status stream
ring_of l DataIn stream = stream_ring l.data_in stream
ring_of l DataOut stream = stream_ring l.data_out stream

-- the streams of a pipe from this one on and below another have nothing pending
abbrev pub NonePendingOn : LinesState → Pipe → ℕ → ℕ → Type 0
NonePendingOn l pipe from end = (stream : ℕ) → HasRing pipe stream → from ≤ stream → stream < end → HasPending (ring_of l pipe stream) → ⊥

-- the same rings but for that one
abbrev pub with_ring : LinesState → Pipe → ℕ → ItemRing → LinesState
with_ring l Command stream r = record l { command = r }
with_ring l Status stream r = record l { status = slice_set l.status (stream - 1) r }
with_ring l DataIn stream r = record l { data_in = slice_set l.data_in (stream - 1) r }
with_ring l DataOut stream r = record l { data_out = slice_set l.data_out (stream - 1) r }

-- the same rings but for the controller's command ring, and but for the event ring
abbrev pub with_engine : LinesState → ItemRing → LinesState
with_engine l r = record l { engine = r }

abbrev pub with_events : LinesState → Events → LinesState
with_events l e = record l { events = e }

-- these contexts show the rings of a pipe with streams
abbrev pub ShowsRings : LinesState → Pipe → Contexts → Type 0
ShowsRings l Command contexts = ⊥
ShowsRings l Status contexts = IsShown l.status contexts
ShowsRings l DataIn contexts = IsShown l.data_in contexts
ShowsRings l DataOut contexts = IsShown l.data_out contexts

-- all rings new, at their addresses
pub record IsOpeningLines (l : LinesState) : Type 0 where
  pub ring : (pipe : Pipe) (stream : ℕ) → HasRing pipe stream → ring_of l pipe stream ≡ opening (ring_base pipe stream)
  pub engine : l.engine ≡ opening ENGINE_RING
  pub events : l.events ≡ opening_events

-- what holds of all rings: they lie where the address map says
pub record IsLines (l : LinesState) : Type 0 where
  pub status : length l.status ≡ STREAMS
  pub data_in : length l.data_in ≡ STREAMS
  pub data_out : length l.data_out ≡ STREAMS
  pub base : (pipe : Pipe) (stream : ℕ) → HasRing pipe stream → (ring_of l pipe stream).base ≡ ring_base pipe stream
  pub engine : l.engine.base ≡ ENGINE_RING

-- Laws of a change of one ring: it is there, and every other ring and context is as it was.
abbrev pub ChangedRingIsThere : Type 0
ChangedRingIsThere =
    (l : LinesState) (pipe : Pipe) (stream : ℕ) (r : ItemRing) → IsLines l → HasRing pipe stream → ring_of (with_ring l pipe stream r) pipe stream ≡ r

abbrev pub OtherRingsAreKept : Type 0
OtherRingsAreKept =
    (l : LinesState) (pipe other : Pipe) (stream another : ℕ) (r : ItemRing) → HasRing pipe stream → HasRing other another
    → (pipe ≡ other → stream ≢ another) → ring_of (with_ring l pipe stream r) other another ≡ ring_of l other another

abbrev pub OtherContextsAreKept : Type 0
OtherContextsAreKept =
    (l : LinesState) (pipe other : Pipe) (stream another : ℕ) (r : ItemRing) (old new : Contexts) → HasRing pipe stream
    → ShowsRings l other old → ShowsRings (with_ring l pipe stream r) other new → (pipe ≡ other → stream ≢ another)
    → entry_of new another ≡ entry_of old another

-- the rings lie where they lay
abbrev pub RingsStayInPlace : Type 0
RingsStayInPlace =
    (l : LinesState) (pipe : Pipe) (stream : ℕ) (r : ItemRing) → IsLines l → HasRing pipe stream → r.base ≡ ring_base pipe stream
    → IsLines (with_ring l pipe stream r)

-- the same of the controller's command ring and of the event ring
abbrev pub EngineLeavesRings : Type 0
EngineLeavesRings =
    (l : LinesState) (r : ItemRing) → IsLines l → r.base ≡ ENGINE_RING
    → IsLines (with_engine l r) × ((pipe : Pipe) (stream : ℕ) → ring_of (with_engine l r) pipe stream ≡ ring_of l pipe stream)

abbrev pub EventsLeaveRings : Type 0
EventsLeaveRings =
    (l : LinesState) (e : Events) → IsLines l
    → IsLines (with_events l e) × ((pipe : Pipe) (stream : ℕ) → ring_of (with_events l e) pipe stream ≡ ring_of l pipe stream)
