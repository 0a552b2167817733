-- Retirement of a left-over TD (xHCI 4.6.9 and 4.6.10): Stop Endpoint, then Set TR Dequeue Pointer to the enqueue place.
use Rattle.std.specs.Prelude.{ℕ, zero, suc, ◌+◌, ◌≤◌, ◌-◌, nat_lt, Bool, false, ◌&&◌, if◌then◌else◌, List, [], ◌∷◌, ◌++◌, length, filter, map, take, Option}
use Rattle.std.specs.Prelude.{Some, None, is_none, option_map, unwrap_or}
use Rattle.std.specs.List.{range_with_len}
use Rattle.std.specs.Option.{option_map_or}
use Rattle.xhci_trb.specs.declared.Trb.{Trb}
use Rattle.xhci_trb.specs.declared.Trb.TheVariants.{StopEndpoint, SetDequeue}
use Rattle.cycle_ring.specs.Ring.{cycle_of, item_at, pointer_of, reclaimed}
use Rattle.cycle_ring.specs.Items.{Item, ItemRing, foreign, known}
use Rattle.uas_profile.specs.declared.Pipe.{Pipe}
use Rattle.uas_profile.specs.declared.TheConstants.{STREAMS, ENGINE_RING_PLACES, SLOT}
use Rattle.uas_profile.specs.Pipes.{same_pipe}
use Rattle.stream_array.specs.Map.{places_of}
use Rattle.stream_array.specs.Rings.{LinesState, ring_of, with_engine, with_ring}
use Rattle.uas_host.specs.Notices.{TdRetired}
use Rattle.uas_host.specs.declared.Retirement.{Retirement}
use Rattle.uas_host.specs.declared.RetirementStage.TheVariants.{Stopping}
use Rattle.uas_profile.specs.Doors.{door}
use Rattle.uas_profile.specs.Pipes.{target_of}
use Rattle.uas_host.specs.State.{HostState}
use Rattle.uas_host.specs.Seen.{held_of, is_td_left_over, place_seen}
use Rattle.uas_profile.specs.Tags.{place_of, tag_of}

-- HELD PIPES

-- a retirement of this pipe is under way, so the host rings no doorbell of it
abbrev pub is_held : HostState → Pipe → Bool
is_held host pipe = option_map_or (λ retirement. same_pipe retirement.pipe pipe) host.retirement false

-- THE ENGINE'S COMMANDS

-- Stop Endpoint of a pipe's endpoint of the device. Worked: data-in is twelve zeros and 01 3c 05 01.
abbrev pub stop_trb : Pipe → Trb
stop_trb pipe = StopEndpoint (target_of pipe) SLOT

-- Set TR Dequeue Pointer to the enqueue place of a stream's ring. Worked: data-in, stream 18, place 3 with cycle 1 is
-- 33 20 01 43, four zeros, 00 00 12 00, 01 40 05 01.
abbrev pub move_trb : LinesState → Pipe → ℕ → Trb
move_trb lines pipe tag =
    let ring = ring_of lines pipe tag in
    SetDequeue (pointer_of (places_of pipe) ring (length ring.put)) (cycle_of (places_of pipe) ring (length ring.put)) tag (target_of pipe) SLOT

-- a command is put on the controller's command ring
abbrev pub with_engine_command : LinesState → Trb → LinesState
with_engine_command lines trb = with_engine lines (record lines.engine { put = lines.engine.put ++ known trb ∷ [] })

-- it has room for one more; two of its places are never filled
abbrev pub HasEngineRoom : LinesState → Type 0
HasEngineRoom lines = length lines.engine.put + 1 ≤ ENGINE_RING_PLACES - 2

-- the engine's commands are freed up to and with the one at this address
abbrev pub engine_freed : LinesState → ℕ → LinesState
engine_freed lines pointer =
    option_map_or (λ item. with_engine lines (reclaimed ENGINE_RING_PLACES (item + 1) lines.engine)) (item_at ENGINE_RING_PLACES lines.engine pointer) lines

-- THE STEPS OF A RETIREMENT

-- the TD of a tag on a pipe is left over
abbrev pub is_left_over_on : HostState → Pipe → ℕ → Bool
is_left_over_on host pipe tag = option_map_or (is_td_left_over pipe) (held_of host tag) false

-- the retirement that begins, where none is under way and the TD is left over
abbrev pub retirement_for : HostState → Pipe → ℕ → Option Retirement
retirement_for host pipe tag =
    if is_none host.retirement && is_left_over_on host pipe tag
    then option_map (λ place. record { pipe = pipe; place = place; stage = Stopping }) (place_of host.tags (length host.clients) tag)
    else None

abbrev pub with_retirement : HostState → Retirement → HostState
with_retirement host retirement = record host { retirement = Some retirement }

-- Stop Endpoint is done, so its TRB is free again, and Set TR Dequeue Pointer is put
abbrev pub stopped_lines : ℕ → LinesState → ℕ → Retirement → LinesState
stopped_lines tags lines pointer retirement =
    with_engine_command (engine_freed lines pointer) (move_trb lines retirement.pipe (tag_of tags retirement.place))

-- so many TRBs of a ring are freed
abbrev pub with_first_freed : LinesState → Pipe → ℕ → ℕ → LinesState
with_first_freed lines pipe stream zero = lines
with_first_freed lines pipe stream (suc more) =
    with_ring lines pipe stream (reclaimed (places_of pipe) (suc more) (ring_of lines pipe stream))

-- how many TRBs come before the first foreign bytes
abbrev pub trbs_before : List Item → ℕ
trbs_before [] = 0
trbs_before (known trb ∷ rest) = suc (trbs_before rest)
trbs_before (foreign bytes ∷ rest) = 0

-- all consumed TRBs of a ring are freed; foreign bytes, which no host puts there, end them
abbrev pub emptied : LinesState → Pipe → ℕ → LinesState
emptied lines pipe stream =
    with_first_freed lines pipe stream (trbs_before (take (ring_of lines pipe stream).got (ring_of lines pipe stream).put))

-- Set TR Dequeue Pointer is done, so all TRBs of the TD are consumed, and free again
abbrev pub moved_lines : ℕ → LinesState → ℕ → Retirement → LinesState
moved_lines tags lines pointer retirement = emptied (engine_freed lines pointer) retirement.pipe (tag_of tags retirement.place)

-- the TD is retired, and no retirement is under way any more
abbrev pub retired_host : HostState → Retirement → HostState
retired_host host retirement = record (unwrap_or (place_seen (TdRetired retirement.pipe) host retirement.place) host) { retirement = None }

abbrev pub has_pending : ItemRing → Bool
has_pending ring = nat_lt ring.got (length ring.put)

-- the doorbells of a pipe's streams with pending TRBs, by rising stream
unfoldable pub resumed_doors : LinesState → Pipe → List ℕ
resumed_doors lines pipe =
    map (door (target_of pipe)) (filter (λ stream. has_pending (ring_of lines pipe stream)) (range_with_len 1 STREAMS))
