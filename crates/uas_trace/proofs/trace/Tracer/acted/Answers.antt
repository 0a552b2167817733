use Rattle.std.proofs.Common.{◌≡◌, ◌∙◌, ℕ, List, ◌++◌, ap}
use Rattle.stream_array.specs.Rings.{LinesState}
use Rattle.shared_machine.specs.Shared.{Shared}
use Rattle.uas_replay.specs.Told.{step_of}
use Rattle.uas_replay.specs.Walks.{Walk, machine_of, world_then}
use Rattle.uas_trace.specs.Texts.{outcome_in}
use Rattle.uas_trace.specs.Traced.{step_line}
use Rattle.uas_trace.specs.Written.{seen_before, with_writes}
use Rattle.uas_trace.proofs.StepTexts.{step_text_by}
use Rattle.uas_trace.proofs.trace.Tracer.acted.Goals as goal

pub returns-clause-text : goal.returns-clause-text
returns-clause-text c =
    let step = c.args.step in
    let world = c.args.run.now.world in
    let before = c.of-before.result in
    let rings = c.rings-rings.result.now in
    let frames = c.buffers-buffers.result.now in
    let outcome = c.act-outcome.result in
    let line : c.push_step.new.text.items ≡ step_line step =
    c.in_ok-push_step.ensures ∙ ap (λ (t : List ℕ). t ++ step_line step) c.clear.ensures.items in
    let tags : c.tags.result ≡ (machine_of world).tags = c.tags.ensures.tags ∙ ap (λ (m : Shared). m.tags) c.rings.ensures.machine in
    let seen : before ≡ seen_before (machine_of world).tags world.lines step =
    c.of-before.ensures ∙ ap (λ (l : LinesState). seen_before c.tags.result l step) c.rings.ensures.rings
    ∙ ap (λ (n : ℕ). seen_before n world.lines step) tags in
    let stands : rings ≡ (world_then world step).lines = c.rings-rings.ensures.rings ∙ ap (λ (w : Walk). w.world.lines) c.act-outcome.ensures.run in
    let lent : frames ≡ (world_then world step).frames = c.buffers-buffers.ensures.buffers ∙ ap (λ (w : Walk). w.world.frames) c.act-outcome.ensures.run in
    let came : outcome ≡ outcome_in world step = c.act-outcome.ensures.outcome ∙ ap (λ (m : Shared). (step_of m step).1) c.rings.ensures.machine in
    c.in_ok-push_writes.ensures
    ∙ ap (λ (t : List ℕ). with_writes t before rings frames outcome) line
    ∙ step_text_by world step before rings frames outcome seen stands lent came
