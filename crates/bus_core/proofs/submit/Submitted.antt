-- A submission of the host, on a world that fits a state, is the shared machine's.
use Rattle.std.proofs.Common.{◌≡◌, ℕ, suc, ◌^◌, ◌<◌, ◌≤◌, Bool, true, false, List, [], ◌∷◌, ◌++◌, length, length-append, Option, Some, None}
use Rattle.std.proofs.Common.{MatchOption, Result, Ok, Err, refl, arith, ap, sym, subst, ◌∙◌}
use Rattle.std.specs.Prelude.{slice_get, nat_lt, option_map, ◌==◌, ◌&&◌}
use Rattle.std.proofs.lemmas.Option.{cond_some, option_and_then_some}
use Rattle.arrayvec.specs.ArrayVec.{ArrayVec}
use Rattle.uas_profile.specs.declared.Pipe.{Pipe}
use Rattle.uas_profile.specs.declared.Pipe.TheVariants.{Command as CommandPipe, Status, DataIn, DataOut}
use Rattle.stream_array.specs.Rings.{LinesState, IsLines}
use Rattle.frame_store.specs.declared.TagBuffers.{TagBuffers}
use Rattle.frame_store.specs.Buffers.{IsWhole}
use Rattle.scsi_cmd.specs.declared.Command.{Command}
use Rattle.uas_profile.specs.declared.Direction.{Direction}
use Rattle.uas_profile.specs.declared.Direction.TheVariants.{Nothing, ToHost, ToDevice}
use Rattle.scsi_cmd.specs.declared.SubmitFault.{SubmitFault}
use Rattle.scsi_cmd.specs.Op.{direction_of}
use Rattle.uas_profile.specs.Doors.{answer_doors, data_doors, door, door_unless, submission_doors}
use Rattle.uas_profile.specs.Pipes.{target_of}
use Rattle.uas_host.specs.Retirement.{is_held as is_host_held}
use Rattle.uas_host.specs.State.{HostState, IsHost}
use Rattle.uas_host.specs.Submit.{host_fault, lent, submitted}
use Rattle.uas_profile.specs.Tags.{command_slot, own_slot, place_of}
use Rattle.uas_host.specs.Tds.{pushed}
use Rattle.shared_machine.specs.declared.Mark.TheVariants.{Submit as SubmitMark}
use Rattle.shared_machine.specs.declared.Outcome.{Outcome}
use Rattle.shared_machine.specs.Part.{Part, fault_at}
use Rattle.shared_machine.specs.Shared.{Shared, is_held, acceptance, answered, refusal, submit_step, submitted_to, submitted_under}
use Rattle.bus_core.specs.World.{World, world_of}
use Rattle.bus_core.specs.Fits.{Fits, IsSoundWorld}
use Rattle.bus_core.specs.Decoded.{decoded, FitsItself}
use Rattle.bus_core.specs.WorldSteps.{SubmitFits, fault_in, rung_all, submit_world}
use Rattle.bus_core.specs.Owners.{index_of, submitted_as}
use Rattle.bus_core.proofs.common.Stepped.{place-named}
use Rattle.bus_core.proofs.common.Framing.{held-host}
use Rattle.bus_core.proofs.common.ReadBack.{decoded-back}
use Rattle.bus_core.proofs.submit.SubmissionFaults.{faults-agree}
use Rattle.bus_core.proofs.submit.Submitting.{submissions-fit}
use Rattle.uas_profile.specs.Tags.{task_slot}

-- the slot of a command tag is that of the tag's index
slot-named : (tags : ℕ) (clients client tag slot : ℕ) → command_slot tags clients client tag ≡ Some slot → suc slot ≡ index_of tags tag
slot-named tags clients client tag slot is =
    option_and_then_some (own_slot tags client) (place_of tags clients tag) slot is
    (λ place found own.
    let same : place.slot ≡ slot = (cond_some ((place.client == client) && nat_lt place.slot (task_slot tags)) place.slot slot own).1 in
    ap suc (sym same) ∙ (place-named tags clients tag place found).1)

-- WHAT THE SHARED MACHINE ANSWERS

abbrev Answers : Shared → ℕ → ℕ → Command → Shared × Outcome → Type 0
Answers state client tag command after =
    MatchOption (option_map fault_in after.1.refused)
    (after.1 ≡ acceptance client (SubmitMark (index_of state.tags tag)) (submission_doors (is_held state) (direction_of command.op) tag))
    (λ fault. after ≡ (state, refusal client fault command))

answers-fault : (state : Shared) (client slot tag ticket : ℕ) (command : Command) (part : Part) (fault : Option SubmitFault) → suc slot ≡ index_of state.tags tag
    → Answers state client tag command (answered state part (record { client = client; slot = slot }) tag ticket command fault)
answers-fault state client slot tag ticket command part None index =
    ap (λ k. acceptance client (SubmitMark k) (submission_doors (is_held state) (direction_of command.op) tag)) index
answers-fault state client slot tag ticket command part (Some fault) index = refl

answers-part : (state : Shared) (client slot tag ticket : ℕ) (command : Command) (part : Option Part) → suc slot ≡ index_of state.tags tag
    → Answers state client tag command (submitted_to state (record { client = client; slot = slot }) tag ticket command part)
answers-part state client slot tag ticket command None index = refl
answers-part state client slot tag ticket command (Some part) index = answers-fault state client slot tag ticket command part
    (fault_at part slot ticket command) index

answers-slot : (state : Shared) (client tag ticket : ℕ) (command : Command) (slot : Option ℕ) → command_slot state.tags (length state.parts) client tag ≡ slot
    → Answers state client tag command (submitted_under state client tag ticket command slot)
answers-slot state client tag ticket command None is = refl
answers-slot state client tag ticket command (Some slot) is =
    answers-part state client slot tag ticket command (slice_get state.parts client) (slot-named state.tags (length state.parts) client tag slot is)

answers : (state : Shared) (client tag ticket : ℕ) (command : Command) → Answers state client tag command (submit_step state client tag ticket command)
answers state client tag ticket command = answers-slot state client tag ticket command (command_slot state.tags (length state.parts) client tag) refl

-- WHAT THE HOST ANSWERS

abbrev pub Accepts : World → ℕ → ℕ → ℕ → Command → HostState → LinesState → List TagBuffers → List ℕ → Result (Unit {0}) (SubmitFault × Command) → Type 0
Accepts world client tag ticket command host lines frames doors answer =
    (answer ≡ Ok (record {})) × (host ≡ submitted world.host client tag ticket command.op) × (lines ≡ pushed world.lines tag command.op)
    × (frames ≡ lent world.frames client tag command) × (doors ≡ submission_doors (is_host_held world.host) (direction_of command.op) tag)

abbrev pub Refuses : World → Command → HostState → LinesState → List TagBuffers → List ℕ → Result (Unit {0}) (SubmitFault × Command) → SubmitFault → Type 0
Refuses world command host lines frames doors answer fault =
    (answer ≡ Err (fault, command)) × (host ≡ world.host) × (lines ≡ world.lines) × (frames ≡ world.frames) × (doors ≡ [])

pub record IsSubmitted (state : Shared) (client tag ticket : ℕ) (command : Command) (new : World) (outcome : Outcome) : Type 0 where
  pub fits : FitsItself new
  pub shared : submit_step state client tag ticket command ≡ (decoded new, outcome)

submitted-by : (state : Shared) (world : World) (client tag ticket : ℕ) (command : Command) (host : HostState) (lines : LinesState)
    (frames : List TagBuffers) (doors : List ℕ)
    (answer : Result (Unit {0}) (SubmitFault × Command)) (fault : Option SubmitFault) → Fits state world → ticket < 2 ^ 60
    → host_fault world.host client tag ticket command ≡ fault
    → MatchOption fault (Accepts world client tag ticket command host lines frames doors answer) (Refuses world command host lines frames doors answer)
    → MatchOption fault ((submit_step state client tag ticket command).1 ≡ acceptance client (SubmitMark (index_of state.tags tag))
    (submission_doors (is_held state) (direction_of command.op) tag))
    (λ f. submit_step state client tag ticket command ≡ (state, refusal client f command))
    → IsHost host → IsLines lines → IsWhole frames
    → IsSubmitted state client tag ticket command (world_of host (rung_all world.controller doors) world.device lines frames)
    (submitted_as state.tags client tag doors answer)
submitted-by state world client tag ticket command host lines frames doors answer None fits small is accepts told hosting standing whole =
    let new : World = world_of host (rung_all world.controller doors) world.device lines frames in
    let fit : SubmitFits state world client tag ticket command = submissions-fit state world client tag ticket command fits small is in
    let after : submit_world world client tag ticket command ≡ new = rw (accepts.1, accepts.2, accepts.3, accepts.4) refl in
    let sound : IsSoundWorld (submit_world world client tag ticket command) =
    subst IsSoundWorld (sym after) (record { host = hosting; lines = standing; frames = whole; tags = fits.sound.tags }) in
    let now : Fits (submit_step state client tag ticket command).0 new = subst (λ w. Fits (submit_step state client tag ticket command).0 w) after
    (fit.fits sound) in
    let back : decoded new ≡ (submit_step state client tag ticket command).0 = decoded-back (submit_step state client tag ticket command).0 new now in
    record {
      fits = subst (λ s. Fits s new) (sym back) now;
      shared =
          ap (λ s. (s, (submit_step state client tag ticket command).1)) (sym back)
          ∙ ap (λ o. (decoded new, o)) (told
          ∙ ap (λ d. acceptance client (SubmitMark (index_of state.tags tag)) d)
          (sym (accepts.4 ∙ ap (λ held. submission_doors held (direction_of command.op) tag) (held-host state world fits.engine)))
          ∙ ap (submitted_as state.tags client tag doors) (sym accepts.0));
    }
submitted-by state world client tag ticket command host lines frames doors answer (Some fault) fits small is refuses told hosting standing whole =
    let new : World = world_of host (rung_all world.controller doors) world.device lines frames in
    let same : world ≡ new = rw (refuses.1, refuses.2, refuses.3, refuses.4) refl in
    let back : decoded new ≡ state = ap decoded (sym same) ∙ decoded-back state world fits in
    record {
      fits = subst (λ s. Fits s new) (sym back) (subst (λ w. Fits state w) same fits);
      shared = told ∙ ap (λ s. (s, refusal client fault command)) (sym back) ∙ ap (λ a. (decoded new, submitted_as state.tags client tag doors a)) (sym refuses.0);
    }

pub submitted-on : (state : Shared) (world : World) (client tag ticket : ℕ) (command : Command) (host : HostState) (lines : LinesState)
    (frames : List TagBuffers) (doors : List ℕ)
    (answer : Result (Unit {0}) (SubmitFault × Command)) → Fits state world → ticket < 2 ^ 60
    → MatchOption (host_fault world.host client tag ticket command) (Accepts world client tag ticket command host lines frames doors answer)
    (Refuses world command host lines frames doors answer)
    → IsHost host → IsLines lines → IsWhole frames
    → IsSubmitted state client tag ticket command (world_of host (rung_all world.controller doors) world.device lines frames)
    (submitted_as state.tags client tag doors answer)
submitted-on state world client tag ticket command host lines frames doors answer fits small host_answers hosting standing whole =
    submitted-by state world client tag ticket command host lines frames doors answer
    (host_fault world.host client tag ticket command) fits small refl host_answers
    (subst (λ fault. MatchOption fault
    ((submit_step state client tag ticket command).1
    ≡ acceptance client (SubmitMark (index_of state.tags tag)) (submission_doors (is_held state) (direction_of command.op) tag))
    (λ f. submit_step state client tag ticket command ≡ (state, refusal client f command)))
    (sym (faults-agree state world client tag ticket command fits)) (answers state client tag ticket command))
    hosting standing whole

-- the doorbells were noted on an empty list
pub cleared : (world : World) (client tag ticket : ℕ) (command : Command) (host : HostState) (lines : LinesState) (frames : List TagBuffers)
    (old new : ArrayVec ℕ)
    (answer : Result (Unit {0}) (SubmitFault × Command)) (fault : Option SubmitFault) → old.items ≡ []
    → MatchOption fault
    ((answer ≡ Ok (record {})) × (host ≡ submitted world.host client tag ticket command.op) × (lines ≡ pushed world.lines tag command.op)
    × (frames ≡ lent world.frames client tag command) × (new.items ≡ old.items ++ submission_doors (is_host_held world.host) (direction_of command.op) tag))
    (λ f. (answer ≡ Err (f, command)) × (host ≡ world.host) × (lines ≡ world.lines) × (frames ≡ world.frames) × (new ≡ old))
    → MatchOption fault (Accepts world client tag ticket command host lines frames new.items answer) (Refuses world command host lines frames new.items answer)
cleared world client tag ticket command host lines frames old new answer None empty it =
    (it.0, it.1, it.2, it.3, it.4 ∙ ap (λ ds. ds ++ submission_doors (is_host_held world.host) (direction_of command.op) tag) empty)
cleared world client tag ticket command host lines frames old new answer (Some fault) empty it =
    (it.0, it.1, it.2, it.3, ap (λ (d : ArrayVec ℕ). d.items) it.4 ∙ empty)

-- a submission rings three doorbells at most
pub few-unless : (held : Bool) (pipe : Pipe) (tag : ℕ) → length (door_unless held pipe tag) ≤ 1
few-unless true pipe tag = omega arith
few-unless false pipe tag = omega arith

few-data : (held : Pipe → Bool) (way : Direction) (tag : ℕ) → length (data_doors held way tag) ≤ 1
few-data held Nothing tag = omega arith
few-data held ToHost tag = few-unless (held DataIn) DataIn tag
few-data held ToDevice tag = few-unless (held DataOut) DataOut tag

few-doors : (held : Pipe → Bool) (way : Direction) (tag : ℕ) → length (submission_doors held way tag) ≤ 3
few-doors held way tag =
    omega (
      arith,
      few-data held way tag,
      few-unless (held Status) Status tag,
      length-append (data_doors held way tag) (answer_doors held tag),
      length-append (door_unless (held Status) Status tag) (door (target_of CommandPipe) 0 ∷ []),
    )

pub few-rung : (world : World) (client tag ticket : ℕ) (command : Command) (host : HostState) (lines : LinesState) (frames : List TagBuffers)
    (doors : List ℕ) (answer : Result (Unit {0}) (SubmitFault × Command)) (fault : Option SubmitFault)
    → MatchOption fault (Accepts world client tag ticket command host lines frames doors answer) (Refuses world command host lines frames doors answer)
    → length doors ≤ 3
few-rung world client tag ticket command host lines frames doors answer None accepts =
    omega (arith, ap length accepts.4, few-doors (is_host_held world.host) (direction_of command.op) tag)
few-rung world client tag ticket command host lines frames doors answer (Some fault) refuses = omega (arith, ap length refuses.4)

-- a refused submission rings none
pub none-rung : (world : World) (client tag ticket : ℕ) (command : Command) (host : HostState) (lines : LinesState) (frames : List TagBuffers)
    (doors : List ℕ) (answer : Result (Unit {0}) (SubmitFault × Command)) (refused : SubmitFault × Command) (fault : Option SubmitFault)
    → answer ≡ Err refused
    → MatchOption fault (Accepts world client tag ticket command host lines frames doors answer) (Refuses world command host lines frames doors answer)
    → doors ≡ []
none-rung world client tag ticket command host lines frames doors answer refused None is accepts =
    let accepted : answer ≡ Ok (record {}) = accepts.0 in
    let no : ⊥ = cc in
    absurd no
none-rung world client tag ticket command host lines frames doors answer refused (Some fault) is refuses = refuses.4
