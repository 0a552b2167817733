-- The names of the profile's addresses.
use Rattle.std.specs.Prelude.{ℕ, ◌-◌, ◌/◌, ◌%◌, ◌*◌, ◌==◌, nat_lt, ◌&&◌, if◌then◌else◌, List, [], ◌++◌, codes, Option, Some, None, option_map}
use Rattle.std.specs.Fmt.{decimal}
use Rattle.uas_profile.specs.declared.Pipe.{Pipe}
use Rattle.uas_profile.specs.declared.Pipe.TheVariants.{Command, Status, DataIn, DataOut}
use Rattle.uas_profile.specs.declared.TheConstants.{ENGINE_RING, ENGINE_RING_PLACES, EVENT_RING, EVENT_RING_PLACES}
use Rattle.stream_array.specs.Map.{spot_at}
use Rattle.frame_store.specs.declared.Place.{Place}
use Rattle.frame_store.specs.declared.Buffer as buffer_type
use Rattle.frame_store.specs.declared.Buffer.TheVariants as buffer
use Rattle.frame_store.specs.Places.{place_at}
use Rattle.uas_decode.specs.declared.named.Named.{Named}
use Rattle.uas_decode.specs.declared.named.Named.TheVariants as named

-- the place of a ring of so many places, from this base on, at whose first byte an address is
abbrev pub place_in : ℕ → ℕ → ℕ → Option ℕ
place_in base places address =
    if nat_lt address base then None
    else (if ((address - base) % 16 == 0) && nat_lt ((address - base) / 16) places then Some ((address - base) / 16) else None)

-- what stands at an address: a place of a pipe's ring, of the controller's command ring or of the event ring, or a byte that a tag's
-- buffer has room for
abbrev pub in_buffer : Option Place → Option Named
in_buffer place = option_map named.Buffer place

abbrev pub in_events : ℕ → Option ℕ → Option Named
in_events address (Some place) = Some (named.Event place)
in_events address None = in_buffer (place_at address)

abbrev pub in_engine : ℕ → Option ℕ → Option Named
in_engine address (Some place) = Some (named.Engine place)
in_engine address None = in_events address (place_in EVENT_RING EVENT_RING_PLACES address)

abbrev pub in_rings : ℕ → Option (Pipe × ℕ × ℕ) → Option Named
in_rings address (Some at) = Some (named.Ring at.0 at.1 at.2)
in_rings address None = in_engine address (place_in ENGINE_RING ENGINE_RING_PLACES address)

unfoldable pub named_at : ℕ → Option Named
named_at address = in_rings address (spot_at address)

abbrev pub pipe_name : Pipe → List ℕ
pipe_name Command = codes "command"
pipe_name Status = codes "status"
pipe_name DataIn = codes "data-in"
pipe_name DataOut = codes "data-out"

-- the command pipe has one ring, without streams
abbrev pub ring_start : Pipe → ℕ → List ℕ
ring_start Command stream = pipe_name Command ++ codes " pipe ring"
ring_start pipe stream = pipe_name pipe ++ codes " ring of stream " ++ decimal stream

-- By hand: place 3 of stream 18 is `data-in ring of stream 18, place 3`.
unfoldable pub ring_words : Pipe → ℕ → ℕ → List ℕ
ring_words pipe stream place = ring_start pipe stream ++ codes ", place " ++ decimal place

abbrev pub buffer_kind : buffer_type.Buffer → List ℕ
buffer_kind buffer.Command = codes "command buffer"
buffer_kind buffer.Status = codes "status buffer"
buffer_kind buffer.Window = codes "data window"

unfoldable pub buffer_name : buffer_type.Buffer → ℕ → List ℕ
buffer_name kind tag = buffer_kind kind ++ codes " of tag " ++ decimal tag

-- the byte of a buffer, where it isn't the first
unfoldable pub byte_words : ℕ → List ℕ
byte_words offset = if offset == 0 then [] else codes ", byte " ++ decimal offset

unfoldable pub named_words : Named → List ℕ
named_words (named.Ring pipe stream place) = ring_words pipe stream place
named_words (named.Engine place) = codes "command ring, place " ++ decimal place
named_words (named.Event place) = codes "event ring, place " ++ decimal place
named_words (named.Buffer place) = buffer_name place.buffer place.tag ++ byte_words place.offset
