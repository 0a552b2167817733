-- A task management of the host, on a world that fits a state, is the shared machine's. Cited by the answers of `Bus::manage`.
use Rattle.std.proofs.Common.{◌≡◌, ℕ, ◌^◌, ◌<◌, ◌≤◌, Bool, List, [], ◌∷◌, ◌++◌, length, length-append, Option, Some, None, MatchOption, Result}
use Rattle.std.proofs.Common.{Ok, Err, refl, arith, ap, sym, subst, ◌∙◌}
use Rattle.std.specs.Prelude.{slice_get, option_map}
use Rattle.arrayvec.specs.ArrayVec.{ArrayVec}
use Rattle.uas_profile.specs.declared.Pipe.{Pipe}
use Rattle.uas_profile.specs.declared.Pipe.TheVariants.{Command as CommandPipe, Status}
use Rattle.stream_array.specs.Rings.{LinesState, IsLines}
use Rattle.frame_store.specs.declared.TagBuffers.{TagBuffers}
use Rattle.frame_store.specs.Buffers.{IsWhole}
use Rattle.scsi_cmd.specs.declared.SubmitFault.{SubmitFault}
use Rattle.scsi_cmd.specs.declared.Task.{Task}
use Rattle.uas_profile.specs.Doors.{answer_doors, door, door_unless}
use Rattle.uas_profile.specs.Pipes.{target_of}
use Rattle.uas_host.specs.Retirement.{is_held as is_host_held}
use Rattle.uas_host.specs.State.{HostState, IsHost}
use Rattle.uas_host.specs.Tasks.{managed, task_fault, task_tag, with_task_unit}
use Rattle.uas_host.specs.Tds.{pushed_task}
use Rattle.shared_machine.specs.declared.Mark.TheVariants.{Task as TaskMark}
use Rattle.shared_machine.specs.declared.Outcome.{Outcome}
use Rattle.shared_machine.specs.Part.{Part, named_slot, task_fault_at}
use Rattle.shared_machine.specs.Shared.{Shared, is_held, acceptance, managed_or, managed_to, task_refusal, task_step}
use Rattle.bus_core.specs.World.{World, world_of}
use Rattle.bus_core.specs.Fits.{Fits, IsSoundWorld, place_in}
use Rattle.bus_core.specs.Decoded.{decoded, FitsItself}
use Rattle.bus_core.specs.WorldSteps.{TaskFits, TasksFit, WorldReadsBack, fault_in, rung_all, task_world}
use Rattle.bus_core.specs.Owners.{managed_as}
use Rattle.bus_core.proofs.common.Framing.{held-host}
use Rattle.bus_core.proofs.common.ReadBack.{decoded-back}
use Rattle.bus_core.proofs.submit.Submitted.{few-unless}
use Rattle.bus_core.proofs.submit.TaskFaults.{task_faults-agree}
use Rattle.bus_core.proofs.submit.TaskSubmitting.{tasks-fit}
use Rattle.uas_profile.specs.Tags.{task_slot}

-- WHAT THE SHARED MACHINE ANSWERS

abbrev Answers : Shared → ℕ → Shared × Outcome → Type 0
Answers state client after =
    MatchOption (option_map fault_in after.1.refused) (after.1 ≡ acceptance client TaskMark (answer_doors (is_held state) (task_tag state.tags client)))
    (λ fault. after ≡ (state, task_refusal client fault))

answers-fault : (state : Shared) (client ticket : ℕ) (task : Task) (slot : Option ℕ) (part : Part) (fault : Option SubmitFault)
    → Answers state client (managed_or state part (place_in client (task_slot state.tags)) slot ticket task fault)
answers-fault state client ticket task slot part None = refl
answers-fault state client ticket task slot part (Some fault) = refl

answers-part : (state : Shared) (client ticket : ℕ) (task : Task) (slot : Option ℕ) (part : Option Part)
    → Answers state client (managed_to state (place_in client (task_slot state.tags)) slot ticket task part)
answers-part state client ticket task slot None = refl
answers-part state client ticket task slot (Some part) = answers-fault state client ticket task slot part (task_fault_at state.tags part slot ticket task)

answers : (state : Shared) (client ticket : ℕ) (task : Task) → Answers state client (task_step state client ticket task)
answers state client ticket task = answers-part state client ticket task (named_slot state.tags (length state.parts) client task) (slice_get state.parts client)

-- WHAT THE HOST ANSWERS

abbrev pub Accepts : World → ℕ → ℕ → Task → HostState → LinesState → List TagBuffers → List ℕ → Result (Unit {0}) SubmitFault → Type 0
Accepts world client ticket task host lines frames doors answer =
    (answer ≡ Ok (record {})) × (host ≡ managed world.host client ticket task) × (lines ≡ pushed_task world.lines (task_tag world.host.tags client))
    × (frames ≡ with_task_unit world.host.tags world.frames client task) × (doors ≡ answer_doors (is_host_held world.host) (task_tag world.host.tags client))

abbrev pub Refuses : World → HostState → LinesState → List TagBuffers → List ℕ → Result (Unit {0}) SubmitFault → SubmitFault → Type 0
Refuses world host lines frames doors answer fault =
    (answer ≡ Err fault) × (host ≡ world.host) × (lines ≡ world.lines) × (frames ≡ world.frames) × (doors ≡ [])

pub record IsManaged (state : Shared) (client ticket : ℕ) (task : Task) (new : World) (outcome : Outcome) : Type 0 where
  pub fits : FitsItself new
  pub shared : task_step state client ticket task ≡ (decoded new, outcome)

managed-by : TasksFit → WorldReadsBack → (state : Shared) (world : World) (client ticket : ℕ) (task : Task) (host : HostState) (lines : LinesState)
    (frames : List TagBuffers) (doors : List ℕ) (answer : Result (Unit {0}) SubmitFault) (fault : Option SubmitFault) → Fits state world → ticket < 2 ^ 60
    → task_fault world.host client ticket task ≡ fault
    → MatchOption fault (Accepts world client ticket task host lines frames doors answer) (Refuses world host lines frames doors answer)
    → MatchOption fault ((task_step state client ticket task).1 ≡ acceptance client TaskMark (answer_doors (is_held state) (task_tag state.tags client)))
    (λ f. task_step state client ticket task ≡ (state, task_refusal client f))
    → IsHost host → IsLines lines → IsWhole frames
    → IsManaged state client ticket task (world_of host (rung_all world.controller doors) world.device lines frames) (managed_as client doors answer)
managed-by all back_to state world client ticket task host lines frames doors answer None fits small is accepts told hosting standing whole =
    let new : World = world_of host (rung_all world.controller doors) world.device lines frames in
    let fit : TaskFits state world client ticket task = all state world client ticket task fits small is in
    let after : task_world world client ticket task ≡ new = rw (accepts.1, accepts.2, accepts.3, accepts.4) refl in
    let sound : IsSoundWorld (task_world world client ticket task) =
    subst IsSoundWorld (sym after) (record { host = hosting; lines = standing; frames = whole; tags = fits.sound.tags }) in
    let now : Fits (task_step state client ticket task).0 new = subst (λ w. Fits (task_step state client ticket task).0 w) after (fit.fits sound) in
    let back : decoded new ≡ (task_step state client ticket task).0 = back_to (task_step state client ticket task).0 new now in
    record {
      fits = subst (λ s. Fits s new) (sym back) now;
      shared =
          ap (λ s. (s, (task_step state client ticket task).1)) (sym back)
          ∙ ap (λ o. (decoded new, o)) (told
          ∙ ap (λ d. acceptance client TaskMark d)
          (sym (accepts.4 ∙ ap (λ held. answer_doors held (task_tag world.host.tags client)) (held-host state world fits.engine)
          ∙ ap (λ t. answer_doors (is_held state) (task_tag t client)) fits.tags))
          ∙ ap (managed_as client doors) (sym accepts.0));
    }
managed-by all back_to state world client ticket task host lines frames doors answer (Some fault) fits small is refuses told hosting standing whole =
    let new : World = world_of host (rung_all world.controller doors) world.device lines frames in
    let same : world ≡ new = rw (refuses.1, refuses.2, refuses.3, refuses.4) refl in
    let back : decoded new ≡ state = ap decoded (sym same) ∙ back_to state world fits in
    record {
      fits = subst (λ s. Fits s new) (sym back) (subst (λ w. Fits state w) same fits);
      shared = told ∙ ap (λ s. (s, task_refusal client fault)) (sym back) ∙ ap (λ a. (decoded new, managed_as client doors a)) (sym refuses.0);
    }

managed-at : TasksFit → WorldReadsBack → (state : Shared) (world : World) (client ticket : ℕ) (task : Task) (host : HostState) (lines : LinesState)
    (frames : List TagBuffers) (doors : List ℕ) (answer : Result (Unit {0}) SubmitFault) → Fits state world → ticket < 2 ^ 60
    → MatchOption (task_fault world.host client ticket task) (Accepts world client ticket task host lines frames doors answer)
    (Refuses world host lines frames doors answer)
    → IsHost host → IsLines lines → IsWhole frames
    → IsManaged state client ticket task (world_of host (rung_all world.controller doors) world.device lines frames) (managed_as client doors answer)
managed-at all back_to state world client ticket task host lines frames doors answer fits small host_answers hosting standing whole =
    managed-by all back_to state world client ticket task host lines frames doors answer (task_fault world.host client ticket task) fits small refl
    host_answers
    (subst (λ fault. MatchOption fault ((task_step state client ticket task).1 ≡ acceptance client TaskMark (answer_doors (is_held state) (task_tag state.tags client)))
    (λ f. task_step state client ticket task ≡ (state, task_refusal client f)))
    (sym (task_faults-agree state world client ticket task fits)) (answers state client ticket task))
    hosting standing whole

pub managed-on : (state : Shared) (world : World) (client ticket : ℕ) (task : Task) (host : HostState) (lines : LinesState)
    (frames : List TagBuffers) (doors : List ℕ) (answer : Result (Unit {0}) SubmitFault) → Fits state world → ticket < 2 ^ 60
    → MatchOption (task_fault world.host client ticket task) (Accepts world client ticket task host lines frames doors answer)
    (Refuses world host lines frames doors answer)
    → IsHost host → IsLines lines → IsWhole frames
    → IsManaged state client ticket task (world_of host (rung_all world.controller doors) world.device lines frames) (managed_as client doors answer)
managed-on = managed-at tasks-fit decoded-back

-- THE DOORBELLS

-- they were noted on an empty list
pub cleared : (world : World) (client ticket : ℕ) (task : Task) (host : HostState) (lines : LinesState) (frames : List TagBuffers) (old new : ArrayVec ℕ)
    (answer : Result (Unit {0}) SubmitFault) (fault : Option SubmitFault) → old.items ≡ []
    → MatchOption fault
    ((answer ≡ Ok (record {})) × (host ≡ managed world.host client ticket task) × (lines ≡ pushed_task world.lines (task_tag world.host.tags client))
    × (frames ≡ with_task_unit world.host.tags world.frames client task) × (new.items ≡ old.items ++ answer_doors (is_host_held world.host) (task_tag world.host.tags client)))
    (λ f. (answer ≡ Err f) × (host ≡ world.host) × (lines ≡ world.lines) × (frames ≡ world.frames) × (new ≡ old))
    → MatchOption fault (Accepts world client ticket task host lines frames new.items answer) (Refuses world host lines frames new.items answer)
cleared world client ticket task host lines frames old new answer None empty it =
    (it.0, it.1, it.2, it.3, it.4 ∙ ap (λ ds. ds ++ answer_doors (is_host_held world.host) (task_tag world.host.tags client)) empty)
cleared world client ticket task host lines frames old new answer (Some fault) empty it =
    (it.0, it.1, it.2, it.3, ap (λ (d : ArrayVec ℕ). d.items) it.4 ∙ empty)

few-doors : (held : Pipe → Bool) (tag : ℕ) → length (answer_doors held tag) ≤ 2
few-doors held tag =
    omega (arith, few-unless (held Status) Status tag, length-append (door_unless (held Status) Status tag) (door (target_of CommandPipe) 0 ∷ []))

pub few-rung : (world : World) (client ticket : ℕ) (task : Task) (host : HostState) (lines : LinesState) (frames : List TagBuffers) (doors : List ℕ)
    (answer : Result (Unit {0}) SubmitFault) (fault : Option SubmitFault)
    → MatchOption fault (Accepts world client ticket task host lines frames doors answer) (Refuses world host lines frames doors answer) → length doors ≤ 3
few-rung world client ticket task host lines frames doors answer None accepts =
    omega (arith, ap length accepts.4, few-doors (is_host_held world.host) (task_tag world.host.tags client))
few-rung world client ticket task host lines frames doors answer (Some fault) refuses = omega (arith, ap length refuses.4)
