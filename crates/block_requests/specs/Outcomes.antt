-- What a command came to: the bytes that its data's events tell, and what its status unit says.
use Rattle.std.specs.Prelude.{ℕ, ◌+◌, ◌==◌, min, if◌then◌else◌, Option, Some, None, List, length, slice_get}
use Rattle.disk_requests.specs.declared.StatusKind.{StatusKind}
use Rattle.disk_requests.specs.declared.StatusKind.TheVariants.{Sense, Response, ReadReady, WriteReady}
use Rattle.arrayvec.specs.ArrayVec.{ArrayVec}
use Rattle.host_layout.specs.declared.segments.Piece.{Piece}
use Rattle.host_layout.specs.Cutting.{moved_of, total_of}
use Rattle.host_trbs.specs.declared.events.Completion.{Completion}
use Rattle.host_trbs.specs.declared.events.Completion.TheVariants as completion
use Rattle.block_requests.specs.declared.outcomes.DataEnd.{DataEnd}
use Rattle.block_requests.specs.declared.outcomes.DataEnd.TheVariants.{Moved, Failed, GoesOn}
use Rattle.block_requests.specs.declared.outcomes.Outcome.{Outcome}
use Rattle.block_requests.specs.declared.outcomes.Outcome.TheVariants as outcome

-- an event at the TRB of a piece, of which so many bytes were not moved: all before it were
abbrev pub moved_at : Option Piece → ℕ → Option ℕ
moved_at None residual = None
moved_at (Some piece) residual = Some (moved_of piece residual)

abbrev pub moved_in : List Piece → ℕ → ℕ → Option ℕ
moved_in pieces number residual = moved_at (slice_get pieces number) residual

-- the bytes of a TD that were moved when it was stopped: 26 tells what of its TRB wasn't, 27 nothing, 28 the bytes of the TD so far (EDTLA)
abbrev pub stopped_at : List Piece → ℕ → ℕ → Completion → Option ℕ
stopped_at pieces number length completion.Stopped = moved_in pieces number length
stopped_at pieces number length completion.StoppedShortPacket = Some (min length (total_of pieces))
stopped_at pieces number length _ = None

-- a success ends the TD at its last TRB, with all bytes
abbrev pub success_end : List Piece → ℕ → DataEnd
success_end pieces number = if number + 1 == length pieces then Moved (total_of pieces) else GoesOn

-- a short packet ends the TD at its TRB
abbrev pub short_end : Option ℕ → DataEnd
short_end None = GoesOn
short_end (Some count) = Moved count

-- an event at the TRB of a piece; a TD that was stopped goes on behind the next doorbell
abbrev pub data_end : List Piece → ℕ → ℕ → Completion → DataEnd
data_end pieces number residual completion.Success = success_end pieces number
data_end pieces number residual completion.ShortPacket = short_end (moved_in pieces number residual)
data_end pieces number residual completion.Stall = Failed
data_end pieces number residual completion.Transaction = Failed
data_end pieces number residual completion.Failed = Failed
data_end pieces number residual _ = GoesOn

-- GOOD with all bytes, GOOD with fewer, and any other status with its sense
abbrev pub status_outcome : ℕ → ArrayVec ℕ → ℕ → ℕ → Outcome
status_outcome status sense moved wanted =
    if status == 0 then (if moved == wanted then outcome.Good else outcome.Short) else outcome.Status status sense

-- None of a unit that ends no command
abbrev pub outcome_of : StatusKind → ℕ → ℕ → Option Outcome
outcome_of (Sense status sense) moved wanted = Some (status_outcome status sense moved wanted)
outcome_of (Response code) moved wanted = Some (outcome.Response code)
outcome_of ReadReady moved wanted = None
outcome_of WriteReady moved wanted = None
