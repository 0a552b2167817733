-- A memory that is laid out as the profile lays it out: rings, event ring and buffers at the addresses of its map, and beside them the
-- contexts where the consumers' ends are kept.
use Rattle.std.specs.Prelude.{◌≡◌, ◌≢◌, ℕ, ◌+◌, ◌-◌, ◌*◌, ◌≤◌, ◌⊎◌, List, length, Some}
use Rattle.uas_profile.specs.declared.Pipe.{Pipe}
use Rattle.uas_profile.specs.declared.Pipe.TheVariants.{Command, Status, DataIn, DataOut}
use Rattle.uas_profile.specs.declared.TheConstants.{BUFFER_SPAN, COMMAND_BUFFERS, EVENT_RING, EVENT_RING_PLACES, RINGS, STATUS_BUFFERS, STREAM_ENTRIES, STREAMS, WINDOWS, WINDOW_SPAN}
use Rattle.cycle_ring.specs.Items.{ItemRing}
use Rattle.stream_array.specs.Map.{HasRing, places_of}
use Rattle.stream_array.specs.Rings.{IsLines, LinesState, ring_of}
use Rattle.frame_store.specs.declared.Buffer.{Buffer}
use Rattle.frame_store.specs.declared.TagBuffers.{TagBuffers}
use Rattle.frame_store.specs.Buffers.{IsWhole, bytes_of, front_of}
use Rattle.frame_store.specs.Places.{address_of}
use Rattle.guest_memory.specs.Bytes.{Memory, bytes_from}
use Rattle.guest_memory.specs.declared.rings.context.Home.{Home}
use Rattle.guest_memory.specs.declared.rings.context.Home.TheVariants.{Stream, Endpoint}
use Rattle.guest_memory.specs.rings.Events.{EventEnd}
use Rattle.guest_profile.specs.Rings.{HoldsRing, IsBeforeLink, cursor_at, cursor_at_link}
use Rattle.guest_profile.specs.Contexts.{HasEnd}
use Rattle.guest_profile.specs.Events.{HoldsEventRing, IsProducer}

-- WHERE THE CONTEXTS ARE

-- where a driver put the dequeue pointer of the command pipe's endpoint context, and the arrays of stream contexts
pub record Layout : Type 0 where
  pub command : ℕ
  pub status : ℕ
  pub data_in : ℕ
  pub data_out : ℕ

abbrev pub contexts_of : Layout → Pipe → ℕ
contexts_of layout Command = layout.command
contexts_of layout Status = layout.status
contexts_of layout DataIn = layout.data_in
contexts_of layout DataOut = layout.data_out

abbrev pub contexts_size : Pipe → ℕ
contexts_size Command = 8
contexts_size Status = 16 * STREAM_ENTRIES
contexts_size DataIn = 16 * STREAM_ENTRIES
contexts_size DataOut = 16 * STREAM_ENTRIES

-- where a ring's end is kept
abbrev pub kept_at : Layout → Pipe → ℕ → Home
kept_at layout Command stream = Endpoint layout.command
kept_at layout Status stream = Stream (layout.status + 16 * stream)
kept_at layout DataIn stream = Stream (layout.data_in + 16 * stream)
kept_at layout DataOut stream = Stream (layout.data_out + 16 * stream)

-- two ranges have no byte in common
abbrev pub AreApart : ℕ → ℕ → ℕ → ℕ → Type 0
AreApart a n b m = (a + n ≤ b) ⊎ (b + m ≤ a)

-- how many bytes the map's three parts have: small buffers, rings, windows
abbrev pub buffers_size : ℕ
buffers_size = STATUS_BUFFERS + BUFFER_SPAN * (STREAMS + 1) - COMMAND_BUFFERS

abbrev pub rings_size : ℕ
rings_size = EVENT_RING + 16 * EVENT_RING_PLACES - RINGS

abbrev pub windows_size : ℕ
windows_size = WINDOW_SPAN * (STREAMS + 1)

-- a range has no byte of the profile's map
pub record IsBeside (at n : ℕ) : Type 0 where
  pub buffers : AreApart at n COMMAND_BUFFERS buffers_size
  pub rings : AreApart at n RINGS rings_size
  pub windows : AreApart at n WINDOWS windows_size

-- The contexts are beside the map, and those of two pipes apart.
-- Worked: 1000h for the endpoint context's pointer, and 2000h, 3000h and 4000h for the arrays.
pub record IsLayout (layout : Layout) : Type 0 where
  pub beside : (pipe : Pipe) → IsBeside (contexts_of layout pipe) (contexts_size pipe)
  pub apart : (pipe other : Pipe) → pipe ≢ other → AreApart (contexts_of layout pipe) (contexts_size pipe) (contexts_of layout other) (contexts_size other)

-- WHERE THE CONSUMERS ARE

-- a context keeps the end of a ring's consumer: it is at the first pending item, or at the enqueue place where none is pending
abbrev pub IsAtItem : ℕ → ItemRing → Home → Memory → Type 0
IsAtItem n r home memory = HasEnd memory home (cursor_at n r r.got)

-- or at the Link before it
-- Worked: 255 commands were taken, and the context at 1000h has f1 0f 00 41 and four zeros: at 41000FF0h stands the Link with
-- Cycle bit 1, 00 00 00 41, eight zeros, 03 18 00 00. Once it is followed the context has 00 00 00 41 and four zeros.
pub record IsAtLink (n : ℕ) (r : ItemRing) (home : Home) (memory : Memory) : Type 0 where
  pub kept : HasEnd memory home (cursor_at_link n r r.got)
  pub before : IsBeforeLink n r r.got memory

abbrev pub KeepsEnd : ℕ → ItemRing → Home → Memory → Type 0
KeepsEnd n r home memory = IsAtItem n r home memory ⊎ IsAtLink n r home memory

-- THE WHOLE

-- each tag's buffers stand at their addresses
abbrev pub HoldsFrames : List TagBuffers → Memory → Type 0
HoldsFrames frames memory =
    (buffer : Buffer) (tag : ℕ) → 1 ≤ tag → tag ≤ STREAMS
    → bytes_from memory (address_of (front_of buffer tag)) (length (bytes_of frames (front_of buffer tag))) ≡ Some (bytes_of frames (front_of buffer tag))

-- Memory holds all rings, ends, events and buffers, and the event ring's producer stands behind its last event.
pub record IsLaid (layout : Layout) (lines : LinesState) (frames : List TagBuffers) (memory : Memory) (end : EventEnd) : Type 0 where
  pub lines_are : IsLines lines
  pub whole : IsWhole frames
  pub rings : (pipe : Pipe) (stream : ℕ) → HasRing pipe stream → HoldsRing (places_of pipe) (ring_of lines pipe stream) memory
  pub ends : (pipe : Pipe) (stream : ℕ) → HasRing pipe stream → KeepsEnd (places_of pipe) (ring_of lines pipe stream) (kept_at layout pipe stream) memory
  pub events : HoldsEventRing EVENT_RING_PLACES EVENT_RING lines.events memory
  pub producer : IsProducer EVENT_RING_PLACES EVENT_RING lines.events end
  pub buffers : HoldsFrames frames memory
