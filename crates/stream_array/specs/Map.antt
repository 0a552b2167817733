-- The address map of the rings: which pipes and streams have one, and where its places lie.
use Rattle.std.specs.Prelude.{◌≡◌, ℕ, ◌+◌, ◌-◌, ◌*◌, ◌/◌, ◌%◌, ◌<◌, ◌≤◌, ◌==◌, ◌&&◌, Bool, nat_lt, nat_le, if◌then◌else◌, Option, Some, None, option_and_then}
use Rattle.uas_profile.specs.Pipes.{number_of}
use Rattle.uas_profile.specs.declared.Pipe.{Pipe}
use Rattle.uas_profile.specs.declared.Pipe.TheVariants.{Command, Status, DataIn, DataOut}
use Rattle.uas_profile.specs.declared.TheConstants.{STREAMS, STREAM_RING_PLACES, COMMAND_RING_PLACES, ENGINE_RING_PLACES}
use Rattle.uas_profile.specs.declared.TheConstants.{EVENT_RING_PLACES, RINGS, PIPE_SPAN, STREAM_SPAN, ENGINE_RING, EVENT_RING}

-- The command pipe has one ring, without streams, which is called stream 0; each other pipe has one for
-- each of its streams from 1 on.
abbrev pub HasRing : Pipe → ℕ → Type 0
HasRing Command stream = stream ≡ 0
HasRing Status stream = (0 < stream) × (stream ≤ STREAMS)
HasRing DataIn stream = (0 < stream) × (stream ≤ STREAMS)
HasRing DataOut stream = (0 < stream) × (stream ≤ STREAMS)

-- how many places a pipe's rings have, the Link's too
abbrev pub places_of : Pipe → ℕ
places_of Command = COMMAND_RING_PLACES
places_of Status = STREAM_RING_PLACES
places_of DataIn = STREAM_RING_PLACES
places_of DataOut = STREAM_RING_PLACES

-- where a ring begins. Worked: data-in, stream 18: 40000000h + 3000000h + 12000h = 43012000h
abbrev pub ring_base : Pipe → ℕ → ℕ
ring_base pipe stream = RINGS + PIPE_SPAN * number_of pipe + STREAM_SPAN * stream

-- the first byte of a place, of 16 bytes. Worked: place 3 of that ring: 43012030h
abbrev pub place_address : Pipe → ℕ → ℕ → ℕ
place_address pipe stream place = ring_base pipe stream + 16 * place

-- a place of a ring that is there, the Link's too
abbrev pub IsPlace : Pipe → ℕ → ℕ → Type 0
IsPlace pipe stream place = HasRing pipe stream × (place < places_of pipe)

-- The map read backwards, by arithmetic: the pipe of a number, the same tests, and the place at whose first byte an address is,
-- inside a pipe's span and among all pipes. Worked: 43012030h is 3012030h behind the rings, so in the span of pipe 3, data-in, at
-- 12030h: stream 12h, place 3.
abbrev pub pipe_numbered : ℕ → Option Pipe
pipe_numbered number =
    if number == 1 then Some Command else
    (if number == 2 then Some Status else
    (if number == 3 then Some DataIn else
    (if number == 4 then Some DataOut else None)))

abbrev pub has_ring : Pipe → ℕ → Bool
has_ring Command stream = stream == 0
has_ring Status stream = nat_lt 0 stream && nat_le stream STREAMS
has_ring DataIn stream = nat_lt 0 stream && nat_le stream STREAMS
has_ring DataOut stream = nat_lt 0 stream && nat_le stream STREAMS

abbrev pub spot_in : Pipe → ℕ → Option (Pipe × ℕ × ℕ)
spot_in pipe inside =
    if has_ring pipe (inside / STREAM_SPAN) && (nat_lt (inside % STREAM_SPAN / 16) (places_of pipe) && (inside % 16 == 0))
    then Some (pipe, inside / STREAM_SPAN, inside % STREAM_SPAN / 16) else None

abbrev pub spot_at : ℕ → Option (Pipe × ℕ × ℕ)
spot_at pointer =
    if nat_lt pointer RINGS then None else
    option_and_then (λ pipe. spot_in pipe ((pointer - RINGS) % PIPE_SPAN)) (pipe_numbered ((pointer - RINGS) / PIPE_SPAN))

-- the first byte of a place is that place's, and no other address is
abbrev pub PlacesAreFound : Type 0
PlacesAreFound =
    (pipe : Pipe) (stream place : ℕ) → IsPlace pipe stream place → spot_at (place_address pipe stream place) ≡ Some (pipe, stream, place)

abbrev pub FoundAreOfPlaces : Type 0
FoundAreOfPlaces =
    (pointer : ℕ) (at : Pipe × ℕ × ℕ) → spot_at pointer ≡ Some at → IsPlace at.0 at.1 at.2 × (pointer ≡ place_address at.0 at.1 at.2)

-- everything that has places: the pipes' rings, the controller's command ring, the event ring
pub data Spot : Type 0 where
  ring_spot : Pipe → ℕ → ℕ → Spot
  engine_spot : ℕ → Spot
  event_spot : ℕ → Spot

-- a place of one of them
abbrev pub IsSpot : Spot → Type 0
IsSpot (ring_spot pipe stream place) = IsPlace pipe stream place
IsSpot (engine_spot place) = place < ENGINE_RING_PLACES
IsSpot (event_spot place) = place < EVENT_RING_PLACES

-- its first byte
abbrev pub address_of : Spot → ℕ
address_of (ring_spot pipe stream place) = place_address pipe stream place
address_of (engine_spot place) = ENGINE_RING + 16 * place
address_of (event_spot place) = EVENT_RING + 16 * place

-- this address is one of its 16 bytes
abbrev pub IsByteOf : Spot → ℕ → Type 0
IsByteOf spot address = (address_of spot ≤ address) × (address < address_of spot + 16)
