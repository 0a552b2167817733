-- The room that the driver tests before its host puts TDs on rings: a controller that posts no event gives no place back.
use Rattle.std.specs.Prelude.{ℕ, ◌+◌, ◌-◌, ◌&&◌, nat_le, nat_lt, not, Bool, List, length, is_none}
use Rattle.uas_profile.specs.declared.Pipe.{Pipe}
use Rattle.uas_profile.specs.declared.Pipe.TheVariants.{Command, Status, DataIn, DataOut}
use Rattle.uas_profile.specs.declared.TheConstants.{ENGINE_RING_PLACES, MOST_DATA_TRBS}
use Rattle.stream_array.specs.Map.{places_of}
use Rattle.stream_array.specs.Rings.{LinesState, ring_of}
use Rattle.frame_store.specs.declared.TagBuffers.{TagBuffers}
use Rattle.frame_store.specs.Buffers.{held_for}
use Rattle.stream_array.specs.Contexts.{has_stream}
use Rattle.uas_host.specs.State.{HostState}
use Rattle.uas_host.specs.Tasks.{task_tag}

-- a ring has room for so many TRBs; two of its places are never filled
abbrev pub ring_has : LinesState → Pipe → ℕ → ℕ → Bool
ring_has lines pipe stream count = nat_le (length (ring_of lines pipe stream).put + count) (places_of pipe - 2)

-- for the TDs of a task management under its tag: a status TRB and a command TRB
abbrev pub has_task_room : LinesState → ℕ → Bool
has_task_room lines tag = ring_has lines Status tag 1 && ring_has lines Command 0 1

-- for the longest data TD, of 16 TRBs, whichever way it goes
abbrev pub has_data_room : LinesState → ℕ → Bool
has_data_room lines tag = ring_has lines DataIn tag MOST_DATA_TRBS && ring_has lines DataOut tag MOST_DATA_TRBS

-- for the TDs of any command under a tag, and for its vector: none is lent there
abbrev pub has_room : LinesState → List TagBuffers → ℕ → Bool
has_room lines frames tag = has_task_room lines tag && (has_data_room lines tag && is_none (held_for frames tag).lent)

-- A tag that has rings and buffers has no room for a command; a client that is there has none for a task management. What isn't there
-- is the host's to refuse.
abbrev pub lacks_room : LinesState → List TagBuffers → ℕ → Bool
lacks_room lines frames tag = has_stream tag && not (has_room lines frames tag)

abbrev pub lacks_task_room : HostState → LinesState → ℕ → Bool
lacks_task_room host lines client = nat_lt client (length host.clients) && not (has_task_room lines (task_tag host.tags client))

-- for a command on the controller's command ring
abbrev pub has_engine_room : LinesState → Bool
has_engine_room lines = nat_le (length lines.engine.put + 1) (ENGINE_RING_PLACES - 2)
