-- A pipe with streams as the controller keeps it (xHCI 4.7, 4.12).
use Rattle.std.specs.Prelude.{ℕ, ◌&&◌, Bool, true, false, slice_set, slice_index_or, replicate}
use Rattle.uas_profile.specs.declared.TheConstants.{STREAM_ENTRIES}
use Rattle.uas_profile.specs.declared.PipeState.{PipeState}

-- at the start an endpoint runs, and no stream was rung
abbrev pub new_pipe : PipeState
new_pipe = record { runs = true; rung = replicate STREAM_ENTRIES false }

-- a doorbell arms its stream and starts the endpoint
abbrev pub rung_at : PipeState → ℕ → PipeState
rung_at pipe stream = record { runs = true; rung = slice_set pipe.rung stream true }

-- the stream was rung since the last stop, and the pipe runs
abbrev pub is_open : PipeState → ℕ → Bool
is_open pipe stream = pipe.runs && slice_index_or pipe.rung stream false

-- the endpoint doesn't run, and no stream is rung
abbrev pub stopped_pipe : PipeState
stopped_pipe = record { runs = false; rung = replicate STREAM_ENTRIES false }
