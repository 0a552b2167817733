-- The text of a step, by what was seen before it and what stands after it.
use Rattle.std.proofs.Common.{◌≡◌, ◌∙◌, List, ap}
use Rattle.frame_store.specs.declared.TagBuffers.{TagBuffers}
use Rattle.stream_array.specs.Rings.{LinesState}
use Rattle.shared_machine.specs.declared.Step.{Step}
use Rattle.shared_machine.specs.declared.Outcome.{Outcome}
use Rattle.bus_core.specs.World.{World}
use Rattle.uas_replay.specs.Walks.{machine_of, world_then}
use Rattle.uas_trace.specs.declared.writes.Before.{Before}
use Rattle.uas_trace.specs.Traced.{step_line}
use Rattle.uas_trace.specs.Written.{seen_before, with_writes}
use Rattle.uas_trace.specs.Texts.{outcome_in, step_text}

pub step_text_by : (world : World) (step : Step) (before : Before) (lines : LinesState) (frames : List TagBuffers) (outcome : Outcome)
    → before ≡ seen_before (machine_of world).tags world.lines step → lines ≡ (world_then world step).lines → frames ≡ (world_then world step).frames
    → outcome ≡ outcome_in world step → with_writes (step_line step) before lines frames outcome ≡ step_text world step
unfolding step_text
step_text_by world step before lines frames outcome seen rings buffers came =
    let after = world_then world step in
    ap (λ (b : Before). with_writes (step_line step) b lines frames outcome) seen
    ∙ ap (λ (l : LinesState). with_writes (step_line step) (seen_before (machine_of world).tags world.lines step) l frames outcome) rings
    ∙ ap (λ (f : List TagBuffers). with_writes (step_line step) (seen_before (machine_of world).tags world.lines step) after.lines f outcome) buffers
    ∙ ap (λ (o : Outcome). with_writes (step_line step) (seen_before (machine_of world).tags world.lines step) after.lines after.frames o) came
