-- Stream contexts of a linear primary stream array (xHCI 1.2, 4.12 and 6.2.4).
use Rattle.std.specs.Prelude.{◌≡◌, ℕ, ◌+◌, ◌*◌, ◌^◌, ◌%◌, ◌<◌, ◌≤◌, Bool, true, false, List, ◌++◌, length, replicate, Option, Some, None}
use Rattle.std.specs.Prelude.{slice_index_or, nat_lt, nat_le, ◌&&◌, if◌then◌else◌}
use Rattle.std.specs.Int.{w64, to_le_bytes}
use Rattle.xhci_trb.specs.Text.{bit}
use Rattle.uas_profile.specs.declared.Pipe.{Pipe}
use Rattle.uas_profile.specs.declared.Pipe.TheVariants.{Command}
use Rattle.stream_array.specs.declared.Dequeue.{Dequeue}
use Rattle.uas_profile.specs.declared.TheConstants.{STREAMS, STREAM_ENTRIES}
use Rattle.stream_array.specs.Map.{ring_base}

-- an array's entries: nothing for a stream without a ring
abbrev pub Contexts : Type 0
Contexts = List (Option Dequeue)

-- a stream that has a ring, on a pipe with streams
abbrev pub has_stream : ℕ → Bool
has_stream stream = nat_lt 0 stream && nat_le stream STREAMS

-- the first entries: a ring at its first place with cycle state 1 (4.12)
abbrev pub opening_entry : Pipe → ℕ → Option Dequeue
opening_entry Command stream = None
opening_entry pipe stream =
    if has_stream stream then Some (record { pointer = ring_base pipe stream; cycle = true }) else None

-- the entry of a stream, nothing past the end
abbrev pub entry_of : Contexts → ℕ → Option Dequeue
entry_of contexts stream = slice_index_or contexts stream None

-- an array of this many entries at their first values
pub record IsOpening (pipe : Pipe) (size : ℕ) (contexts : Contexts) : Type 0 where
  pub entries : length contexts ≡ size
  pub entry : (stream : ℕ) → stream < size → entry_of contexts stream ≡ opening_entry pipe stream

-- a stream that may be named: not 0, which is reserved, and in the array
abbrev pub IsStream : ℕ → ℕ → Type 0
IsStream size stream = (0 < stream) × (stream < size)

-- what the controller takes from an entry; that of a stream without a ring is 16 zeros
abbrev pub dequeue_in : Option Dequeue → ℕ × Bool
dequeue_in None = (0, false)
dequeue_in (Some dequeue) = (dequeue.pointer, dequeue.cycle)

-- The 16 bytes of an entry (6.2.4.1): DCS bit 0, SCT 1 in bits 3:1, the dequeue pointer in 63:4, else 0.
-- Worked: 43012030h with cycle state 1 is 33h 20h 01h 43h and twelve zeros.
abbrev pub context_text : Option Dequeue → List ℕ
context_text None = replicate 16 0
context_text (Some dequeue) = to_le_bytes w64 (dequeue.pointer + 2 * 1 + bit dequeue.cycle) ++ replicate 8 0

-- what holds of every array: entry 0 is reserved
pub record IsArray (size : ℕ) (contexts : Contexts) : Type 0 where
  pub least_entries : 2 ≤ size
  pub most_entries : size ≤ STREAM_ENTRIES
  pub entries : length contexts ≡ size
  pub reserved : entry_of contexts 0 ≡ None
  pub aligned : (stream : ℕ) (dequeue : Dequeue) → entry_of contexts stream ≡ Some dequeue
      → (dequeue.pointer < 2 ^ 64) × (dequeue.pointer % 16 ≡ 0)
