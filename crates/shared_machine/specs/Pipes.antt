-- The pipes 2 to 4 of the device (xHCI 4.7, 4.12): a doorbell of a held pipe isn't rung.
use Rattle.std.specs.Prelude.{ℕ, Bool, if◌then◌else◌, List, fold}
use Rattle.uas_profile.specs.declared.PipeState.{PipeState}
use Rattle.uas_profile.specs.PipeStates.{rung_at}

-- a stream is rung, unless its pipe is held
abbrev pub rung_unless : Bool → PipeState → ℕ → PipeState
rung_unless held pipe tag = if held then pipe else rung_at pipe tag

-- these streams are rung, in order; a pipe runs once one was
abbrev pub all_rung : PipeState → List ℕ → PipeState
all_rung pipe streams = fold rung_at pipe streams
