-- What a driver's calls make of the machine, and their answers. A refused call leaves the machine as it was; of several refusals it
-- answers the first that holds.
use Rattle.std.specs.Prelude.{ℕ, ◌+◌, ◌-◌, Bool, false, not, ◌&&◌, nat_lt, if◌then◌else◌, List, [], ◌∷◌, ◌++◌, length}
use Rattle.std.specs.Prelude.{Option, None, Some, is_some, option_and_then, slice_get, Result, Ok, Err}
use Rattle.std.specs.Option.{option_map_or}
use Rattle.cycle_ring.specs.Ring.{item_at, pointer_of, reclaimed}
use Rattle.cycle_ring.specs.Items.{ItemRing, item_read, known_of}
use Rattle.uas_profile.specs.declared.Pipe.{Pipe}
use Rattle.uas_profile.specs.declared.Pipe.TheVariants.{Command, Status, DataIn, DataOut}
use Rattle.uas_profile.specs.declared.TheConstants.{ENGINE_RING_PLACES, WINDOW_BYTES}
use Rattle.stream_array.specs.Contexts.{context_text, has_stream}
use Rattle.stream_array.specs.Map.{has_ring, places_of}
use Rattle.stream_array.specs.Rings.{consumer_end, ring_of, with_engine, with_ring}
use Rattle.frame_store.specs.Buffers.{bytes_at, held_for, with_lent, written}
use Rattle.uas_controller.specs.declared.Refusal.{Refusal}
use Rattle.uas_controller.specs.declared.Refusal.TheVariants.{NoRing, Full, BadAddress, NoTag, TooLong, AlreadyLent, NotLent, NotConsumed}
use Rattle.uas_controller.specs.Machine.{MachineState}
use Rattle.uas_controller.specs.Own.{is_named}

-- the machine after a call, and what the call answers
abbrev pub After : Type 0 → Type 0
After Answer = MachineState × Result Answer Refusal

abbrev pub refused : {Answer : Type 0} → MachineState → Refusal → After Answer
refused machine refusal = (machine, Err refusal)

-- BYTES ON A RING

-- the ring has room for one item more, of n places of which one is the Link's and one stays free
abbrev pub has_room : ℕ → ItemRing → Bool
has_room n ring = nat_lt (length ring.put) (n - 2)

-- bytes are put behind the last item, as the item that they are read as with either Cycle bit
abbrev pub with_bytes : ItemRing → List ℕ → ItemRing
with_bytes ring bytes = record ring { put = ring.put ++ item_read bytes ∷ [] }

-- where they then stand
abbrev pub enqueue_pointer : ℕ → ItemRing → ℕ
enqueue_pointer n ring = pointer_of n ring (length ring.put)

-- Any 16 bytes on a ring of a pipe. Worked: the first on the ring of stream 18 of data-in stand at 43012000h.
abbrev pub put_by : MachineState → Pipe → ℕ → List ℕ → After ℕ
put_by machine pipe stream bytes =
    if not (has_ring pipe stream) then refused machine NoRing
    else (if not (has_room (places_of pipe) (ring_of machine.lines pipe stream)) then refused machine Full
    else (
      record machine { lines = with_ring machine.lines pipe stream (with_bytes (ring_of machine.lines pipe stream) bytes) },
      Ok (enqueue_pointer (places_of pipe) (ring_of machine.lines pipe stream)),
    ))

-- the same on the controller's own command ring
abbrev pub put_commands_by : MachineState → List ℕ → After ℕ
put_commands_by machine bytes =
    if not (has_room ENGINE_RING_PLACES machine.lines.engine) then refused machine Full
    else (
      record machine { lines = with_engine machine.lines (with_bytes machine.lines.engine bytes) },
      Ok (enqueue_pointer ENGINE_RING_PLACES machine.lines.engine),
    )

-- PLACES GIVEN BACK

-- the consumed item at an address, by its place among the items that weren't given back
abbrev pub consumed_to : ItemRing → ℕ → Option ℕ
consumed_to ring k = if nat_lt k ring.got then Some k else None

abbrev pub consumed_place : ℕ → ItemRing → ℕ → Option ℕ
consumed_place n ring address = option_and_then (consumed_to ring) (item_at n ring address)

-- the same where that item is a TRB
abbrev pub known_to : ItemRing → ℕ → Option ℕ
known_to ring k = if nat_lt k ring.got && is_some (option_and_then known_of (slice_get ring.put k)) then Some k else None

abbrev pub known_place : ℕ → ItemRing → ℕ → Option ℕ
known_place n ring address = option_and_then (known_to ring) (item_at n ring address)

-- the ring gets its items back, the oldest first, up to the one at an address
abbrev pub reclaim_by : MachineState → Pipe → ℕ → ℕ → After (Unit {0})
reclaim_by machine pipe stream address =
    if not (has_ring pipe stream) then refused machine NoRing
    else option_map_or (λ k. (
      record machine { lines = with_ring machine.lines pipe stream (reclaimed (places_of pipe) (k + 1) (ring_of machine.lines pipe stream)) },
      Ok tt,
    )) (consumed_place (places_of pipe) (ring_of machine.lines pipe stream) address) (refused machine NotConsumed)

abbrev pub reclaim_commands_by : MachineState → ℕ → After (Unit {0})
reclaim_commands_by machine address =
    option_map_or (λ k. (
      record machine { lines = with_engine machine.lines (reclaimed ENGINE_RING_PLACES (k + 1) machine.lines.engine) },
      Ok tt,
    )) (known_place ENGINE_RING_PLACES machine.lines.engine address) (refused machine NotConsumed)

-- CONTEXTS

-- the pipe has streams, and a ring for this one
abbrev pub has_context : Pipe → ℕ → Bool
has_context Command stream = false
has_context Status stream = has_stream stream
has_context DataIn stream = has_stream stream
has_context DataOut stream = has_stream stream

-- a stream's context (6.2.4.1), which shows where the ring's consumer stands
abbrev pub context_by : MachineState → Pipe → ℕ → Result (List ℕ) Refusal
context_by machine pipe stream =
    if has_context pipe stream then Ok (context_text (Some (consumer_end (ring_of machine.lines pipe stream)))) else Err NoRing

-- BUFFERS

-- bytes are written where an address names them
abbrev pub write_by : MachineState → ℕ → List ℕ → After (Unit {0})
write_by machine address bytes =
    if is_named machine.frames address (length bytes)
    then (record machine { frames = written machine.frames address (length bytes) bytes }, Ok tt) else refused machine BadAddress

abbrev pub read_by : MachineState → ℕ → ℕ → Result (List ℕ) Refusal
read_by machine address len = if is_named machine.frames address len then Ok (bytes_at machine.frames address len) else Err BadAddress

-- what is lent for a tag
abbrev pub lent_for : MachineState → ℕ → Option (List ℕ)
lent_for machine tag = (held_for machine.frames tag).lent

abbrev pub lend_by : MachineState → ℕ → List ℕ → After (Unit {0})
lend_by machine tag bytes =
    if not (has_stream tag) then refused machine NoTag
    else (if nat_lt WINDOW_BYTES (length bytes) then refused machine TooLong
    else (if is_some (lent_for machine tag) then refused machine AlreadyLent
    else (record machine { frames = with_lent machine.frames tag (Some bytes) }, Ok tt)))

-- the loan ends, where no more than so many bytes are lent
abbrev pub ended_within : ℕ → MachineState → ℕ → List ℕ → After (List ℕ)
ended_within most machine tag bytes =
    if nat_lt most (length bytes) then refused machine TooLong
    else (record machine { frames = with_lent machine.frames tag None }, Ok bytes)

abbrev pub take_back_by : MachineState → ℕ → ℕ → After (List ℕ)
take_back_by machine tag most =
    if not (has_stream tag) then refused machine NoTag
    else option_map_or (ended_within most machine tag) (lent_for machine tag) (refused machine NotLent)
