-- The text of a step, and all that a traced run prints.
use Rattle.std.specs.Prelude.{◌≡◌, ℕ, List, Option, IsSome, Result, Ok, Err}
use Rattle.std.specs.Io.KnownBytes.{Appends}
use Rattle.block_unit.specs.BlockMaps.{BlockMaps}
use Rattle.shared_machine.specs.declared.Step.{Step}
use Rattle.shared_machine.specs.declared.Outcome.{Outcome}
use Rattle.bus_core.specs.World.{World}
use Rattle.uas_script.specs.declared.Line.{Line}
use Rattle.uas_script.specs.declared.ScriptFault.{ScriptFault}
use Rattle.uas_replay.specs.Told.{step_of, whole_run}
use Rattle.uas_replay.specs.Walks.{machine_of, opening_walk, shown_along, walked, world_then}
use Rattle.uas_replay.specs.Moments.{moments_of}
use Rattle.uas_trace.specs.Traced.{step_line}
use Rattle.uas_trace.specs.Written.{seen_before, with_writes}

-- what comes of a step in a world of rings
abbrev pub outcome_in : World → Step → Outcome
outcome_in world step = (step_of (machine_of world) step).1

-- The text of a step: its line, and what it wrote, read off the world after it beside the world before it, which knows how many
-- tags each client has.
unfoldable pub step_text : World → Step → List ℕ
step_text world step =
    let after = world_then world step in
    with_writes (step_line step) (seen_before (machine_of world).tags world.lines step) after.lines after.frames (outcome_in world step)

-- The whole text of a run of lines on these units, with so many tags of each client, over new rings: the script's moments in their
-- order, each step by its text and behind it what the run told by it. It is a function of the number of tags, the units and the lines.
unfoldable pub traced_text : ℕ → List BlockMaps → List Line → List ℕ
traced_text tags units lines = shown_along step_text (opening_walk tags units) (moments_of tags units lines)

-- All that a run of lines prints is that text, and the moments that it shows have told what the lines tell.
pub record TracesAll (tags : ℕ) (units : List BlockMaps) (lines : List Line) (old new : Option (List ℕ)) : Type 0 where
  pub added : Appends old new (traced_text tags units lines)
  pub told : IsSome old → (walked (opening_walk tags units) (moments_of tags units lines)).telling ≡ whole_run tags units lines

abbrev pub TracesScript : ℕ → List BlockMaps → Result (List Line) ScriptFault → Option (List ℕ) → Option (List ℕ) → Type 0
TracesScript tags units (Ok lines) old new = TracesAll tags units lines old new
TracesScript tags units (Err fault) old new = ⊥
