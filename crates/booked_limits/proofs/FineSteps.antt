-- Every step keeps what is so of all tasks and units, and its reply fits. Cited by FineLogs.
use Rattle.std.proofs.Common.{◌≡◌, ℕ, zero, suc, ◌*◌, ◌<◌, ◌≤◌, ◌^◌, true, false, cond, List, [], ◌∷◌, length, Option, Some, None, IfSome, is_some, replicate}
use Rattle.std.proofs.Common.{refl, arith, ap, sym, subst, ◌∙◌}
use Rattle.std.specs.Prelude.{slice_get, slice_set}
use Rattle.std.proofs.lemmas.Option.{none-some, same_Some}
use Rattle.block_unit.specs.BlockMaps.{BlockMaps}
use Rattle.uas_profile.specs.declared.TheConstants.{MOST_TAGS, STREAMS}
use Rattle.uas_profile.specs.declared.Pipe.{Pipe}
use Rattle.uas_profile.specs.declared.Place.{Place}
use Rattle.uas_profile.specs.Tags.{command_slot, place_of, task_slot}
use Rattle.uas_profile.specs.PipeStates.{stopped_pipe}
use Rattle.scsi_cmd.specs.Laws.{moved-short, submit_fault-none}
use Rattle.scsi_cmd.specs.Held.{AllHeld, held_at}
use Rattle.scsi_cmd.specs.declared.Command.{Command}
use Rattle.scsi_cmd.specs.declared.SubmitFault.{SubmitFault}
use Rattle.scsi_cmd.specs.declared.Task.{Task}
use Rattle.shared_machine.specs.Pipes.{all_rung}
use Rattle.shared_machine.specs.Bus.{HasTicket}
use Rattle.shared_machine.specs.declared.Completion.{Completion}
use Rattle.shared_machine.specs.declared.Completion.TheVariants.{CommandDone, DataDone, StatusDone, EngineDone}
use Rattle.shared_machine.specs.declared.Outcome.{Outcome}
use Rattle.shared_machine.specs.declared.Retirement.{Retirement}
use Rattle.shared_machine.specs.declared.RetirementStage.{RetirementStage}
use Rattle.shared_machine.specs.declared.RetirementStage.TheVariants.{StopAsked, StopAnswered, MoveAsked, MoveAnswered}
use Rattle.shared_machine.specs.declared.Step.{Step}
use Rattle.shared_machine.specs.declared.Step.TheVariants.{Submit, Task as TaskStep, CommandPipe, Data, Status, Engine, Event, Retire, Take}
use Rattle.shared_machine.specs.Part.{Act, Part, carry_act, event_act, fault_at, managed_part, move_act, named_slot, new_entry, new_management, new_part}
use Rattle.shared_machine.specs.Part.{noted_tickets, pass_act, retire_act, send_act, stop_act, submitted_part, take_act, task_fault_at}
use Rattle.shared_machine.specs.Shared.{Shared, answered, at_stage, carry_step, due, due_step, engine_did, engine_seen, engine_step, event_seen}
use Rattle.shared_machine.specs.Shared.{event_step, idle, managed_or, managed_to, new_parts, pipe_of, resumed, retire_step, routed, routed_by_tag, routed_to}
use Rattle.shared_machine.specs.Shared.{shared_step, stage_seen, streams_pending, submitted_to, submitted_under, with_pipe}
use Rattle.shared_machine.proofs.NumberOfClients.{with_pipe-own}
use Rattle.shared_machine.proofs.Standing.{get-within}
use Rattle.machine_invariant.specs.Matched.{IsMatched}
use Rattle.machine_invariant.proofs.MatchedEnds.{unfaulted}
use Rattle.machine_invariant.proofs.OrderedMessages.{part-written}
use Rattle.booked_limits.proofs.FineTasks.{IsWide, same_unit}
use Rattle.booked_limits.proofs.FineParts.{IsFineAct, IsFineEntry, IsFinePart, carry_act-fine, event_act-fine, move_act-fine, pass_act-fine, retire_act-fine}
use Rattle.booked_limits.proofs.FineParts.{send_act-fine, stop_act-fine, written-fine}
use Rattle.booked_limits.proofs.FineReplies.{Fits, HoldsBelow, matched-below, take_act-fine}

-- a client's part is fine, over the unit that the client had at first
pub record IsFineAt (units : List BlockMaps) (client : ℕ) (part : Part) : Type 0 where
  pub first : BlockMaps
  pub at : slice_get units client ≡ Some first
  pub fine : IsFinePart first part

abbrev pub AreFine : List BlockMaps → List Part → Type 0
AreFine units parts = (client : ℕ) (part : Part) → slice_get parts client ≡ Some part → IsFineAt units client part

abbrev pub AreWide : List BlockMaps → Type 0
AreWide units = (client : ℕ) (first : BlockMaps) → slice_get units client ≡ Some first → IsWide first

-- what a step leaves is fine, and its reply fits
pub record IsFineStep (units : List BlockMaps) (tags clients : ℕ) (after : Shared × Outcome) : Type 0 where
  pub parts_fine : AreFine units after.0.parts
  pub reply_fits : IfSome after.1.reply (Fits tags clients)

module _ (units : List BlockMaps) (wide : AreWide units) (tags clients : ℕ) where
  unchanged : (parts : List Part) (after : Shared × Outcome) → after.0.parts ≡ parts → after.1.reply ≡ None → AreFine units parts
      → IsFineStep units tags clients after
  unchanged parts after same silent all = record {
    parts_fine = λ client part is. all client part (sym (ap (λ list. slice_get list client) same) ∙ is);
    reply_fits = subst (λ told. IfSome told (Fits tags clients)) (sym silent) tt;
  }

  -- the part of one client is written
  wrote-fine : (parts : List Part) (owner : ℕ) (part now : Part) → slice_get parts owner ≡ Some part → AreFine units parts
      → ((first : BlockMaps) → IsWide first → IsFinePart first part → IsFinePart first now) → AreFine units (slice_set parts owner now)
  wrote-fine parts owner part now there all keeps client found is =
      part-written (λ other p. IsFineAt units other p) parts owner part now there all
      (let it = all owner part there in record { first = it.first; at = it.at; fine = keeps it.first (wide owner it.first it.at) it.fine }) client found is

  routed_to-fine : (state : Shared) (client : ℕ) (act : Part → Act) (found : Option Part) → AreFine units state.parts → slice_get state.parts client ≡ found
      → ((first : BlockMaps) (part : Part) → IsWide first → IsFinePart first part → IsFineAct first (act part))
      → IsFineStep units tags clients (routed_to state client act found)
  routed_to-fine state client act None all is keeps = unchanged state.parts (routed_to state client act None) refl refl all
  routed_to-fine state client act (Some part) all is keeps =
      let it = all client part is in record {
        parts_fine = wrote-fine state.parts client part (act part).part is all (λ first big fine. (keeps first part big fine).part_fine);
        reply_fits = subst (λ told. IfSome told (Fits tags clients)) (sym (keeps it.first part (wide client it.first it.at) it.fine).silent) tt;
      }

  routed-fine : (state : Shared) (client : ℕ) (act : Part → Act) → AreFine units state.parts
      → ((first : BlockMaps) (part : Part) → IsWide first → IsFinePart first part → IsFineAct first (act part))
      → IsFineStep units tags clients (routed state client act)
  routed-fine state client act all keeps = routed_to-fine state client act (slice_get state.parts client) all refl keeps

  tagged-fine : (state : Shared) (act : Place → Part → Act) (place : Option Place) → AreFine units state.parts
      → ((at : Place) (first : BlockMaps) (part : Part) → IsWide first → IsFinePart first part → IsFineAct first (act at part))
      → IsFineStep units tags clients (routed_by_tag state act place)
  tagged-fine state act None all keeps = unchanged state.parts (routed_by_tag state act None) refl refl all
  tagged-fine state act (Some place) all keeps = routed-fine state place.client (act place) all (keeps place)

  -- CARRY

  carry-fine : (state : Shared) (messages : List Place) → AreFine units state.parts → IsFineStep units tags clients (carry_step state messages)
  carry-fine state [] all = unchanged state.parts (carry_step state []) refl refl all
  carry-fine state (place ∷ rest) all =
      routed-fine (record state { messages = rest }) place.client (carry_act place) all (λ first part big fine. carry_act-fine first place part fine)

  -- SUBMISSION

  answered-fine : (state : Shared) (part : Part) (place : Place) (tag ticket : ℕ) (command : Command) (fault : Option SubmitFault) → AreFine units state.parts
      → slice_get state.parts place.client ≡ Some part → ticket < 2 ^ 60 → fault_at part place.slot ticket command ≡ fault
      → IsFineStep units tags clients (answered state part place tag ticket command fault)
  answered-fine state part place tag ticket command None all there below none = record {
    parts_fine = wrote-fine state.parts place.client part (submitted_part part place.slot ticket command) there all (λ first big fine.
        let it : IsFineEntry part.unit.count (new_entry ticket command) = record {
          ticket = below;
          sound = record {
            whole = submit_fault-none true (is_some (held_at part.entries place.slot)) part.least_ticket ticket command (ap is_some none);
            chunk = tt;
          };
          small = moved-short command.op (unfaulted (is_some (held_at part.entries place.slot)) part.least_ticket ticket command none).short;
        } in
        let wrote = written-fine first part place.slot (Some (new_entry ticket command)) fine it in
        record { tasks = wrote.tasks; unit_same = wrote.unit_same });
    reply_fits = tt;
  }
  answered-fine state part place tag ticket command (Some fault) all there below is =
      unchanged state.parts (answered state part place tag ticket command (Some fault)) refl refl all

  submitted_to-fine : (state : Shared) (place : Place) (tag ticket : ℕ) (command : Command) (found : Option Part) → AreFine units state.parts
      → slice_get state.parts place.client ≡ found → ticket < 2 ^ 60 → IsFineStep units tags clients (submitted_to state place tag ticket command found)
  submitted_to-fine state place tag ticket command None all is below =
      unchanged state.parts (submitted_to state place tag ticket command None) refl refl all
  submitted_to-fine state place tag ticket command (Some part) all is below =
      answered-fine state part place tag ticket command (fault_at part place.slot ticket command) all is below refl

  submitted-fine : (state : Shared) (client tag ticket : ℕ) (command : Command) (slot : Option ℕ) → AreFine units state.parts → ticket < 2 ^ 60
      → IsFineStep units tags clients (submitted_under state client tag ticket command slot)
  submitted-fine state client tag ticket command None all below =
      unchanged state.parts (submitted_under state client tag ticket command None) refl refl all
  submitted-fine state client tag ticket command (Some slot) all below =
      submitted_to-fine state (record { client = client; slot = slot }) tag ticket command (slice_get state.parts client) all refl below

  -- TASK MANAGEMENT

  managed_or-fine : (state : Shared) (part : Part) (place : Place) (slot : Option ℕ) (ticket : ℕ) (task : Task) (fault : Option SubmitFault)
      → AreFine units state.parts → slice_get state.parts place.client ≡ Some part → ticket < 2 ^ 60
      → IsFineStep units tags clients (managed_or state part place slot ticket task fault)
  managed_or-fine state part place slot ticket task None all there below = record {
    parts_fine = wrote-fine state.parts place.client part (managed_part state.tags part slot ticket task) there all (λ first big fine.
        let entry = new_management ticket task (noted_tickets state.tags part slot task) in
        let it : IsFineEntry part.unit.count entry = record { ticket = below; sound = tt; small = omega arith } in
        let wrote = written-fine first part (task_slot state.tags) (Some entry) fine it in
        record { tasks = wrote.tasks; unit_same = wrote.unit_same });
    reply_fits = tt;
  }
  managed_or-fine state part place slot ticket task (Some fault) all there below =
      unchanged state.parts (managed_or state part place slot ticket task (Some fault)) refl refl all

  managed-fine : (state : Shared) (place : Place) (slot : Option ℕ) (ticket : ℕ) (task : Task) (found : Option Part) → AreFine units state.parts
      → slice_get state.parts place.client ≡ found → ticket < 2 ^ 60 → IsFineStep units tags clients (managed_to state place slot ticket task found)
  managed-fine state place slot ticket task None all is below = unchanged state.parts (managed_to state place slot ticket task None) refl refl all
  managed-fine state place slot ticket task (Some part) all is below =
      managed_or-fine state part place slot ticket task (task_fault_at state.tags part slot ticket task) all is below

  -- RETIREMENT

  engine_did-fine : (state : Shared) (retirement : Retirement) (stage : RetirementStage) → AreFine units state.parts
      → IsFineStep units tags clients (engine_did state retirement stage)
  engine_did-fine state retirement StopAsked all =
      routed-fine (at_stage (with_pipe state retirement.pipe stopped_pipe) retirement StopAnswered) retirement.place.client (stop_act retirement.place)
      (subst (λ parts. AreFine units parts) (sym (with_pipe-own state retirement.pipe stopped_pipe)) all)
      (λ first part big fine. stop_act-fine first retirement.place part fine)
  engine_did-fine state retirement StopAnswered all = unchanged state.parts (engine_did state retirement StopAnswered) refl refl all
  engine_did-fine state retirement MoveAsked all =
      routed-fine (at_stage state retirement MoveAnswered) retirement.place.client (pass_act retirement.pipe retirement.place) all
      (λ first part big fine. pass_act-fine first retirement.pipe retirement.place part fine)
  engine_did-fine state retirement MoveAnswered all = unchanged state.parts (engine_did state retirement MoveAnswered) refl refl all

  engine-fine : (state : Shared) (retirement : Option Retirement) → AreFine units state.parts → IsFineStep units tags clients (engine_step state retirement)
  engine-fine state None all = unchanged state.parts (engine_step state None) refl refl all
  engine-fine state (Some retirement) all = engine_did-fine state retirement retirement.stage all

  retire-fine : (state : Shared) (pipe : Pipe) (place : Option Place) → AreFine units state.parts → IsFineStep units tags clients (retire_step state pipe place)
  retire-fine state pipe None all = unchanged state.parts (retire_step state pipe None) refl refl all
  retire-fine state pipe (Some place) all = unchanged state.parts (retire_step state pipe (Some place)) refl refl all

  resumed-fine : (pipe : Pipe) (after : Shared × Outcome) → IsFineStep units tags clients after → IsFineStep units tags clients (resumed pipe after)
  resumed-fine pipe after it = record {
    parts_fine = subst (λ parts. AreFine units parts) (sym (with_pipe-own after.0 pipe (all_rung (pipe_of after.0 pipe) (streams_pending after.0 pipe))))
        it.parts_fine;
    reply_fits = it.reply_fits;
  }

  -- EVENTS

  stage-fine : (state : Shared) (retirement : Retirement) (stage : RetirementStage) → AreFine units state.parts
      → IsFineStep units tags clients (stage_seen state retirement stage)
  stage-fine state retirement StopAsked all = unchanged state.parts (stage_seen state retirement StopAsked) refl refl all
  stage-fine state retirement StopAnswered all = unchanged state.parts (stage_seen state retirement StopAnswered) refl refl all
  stage-fine state retirement MoveAsked all = unchanged state.parts (stage_seen state retirement MoveAsked) refl refl all
  stage-fine state retirement MoveAnswered all =
      resumed-fine retirement.pipe (routed (record state { retirement = None }) retirement.place.client (retire_act retirement.pipe retirement.place))
      (routed-fine (record state { retirement = None }) retirement.place.client (retire_act retirement.pipe retirement.place) all
      (λ first part big fine. retire_act-fine first retirement.pipe retirement.place part fine))

  engine_seen-fine : (state : Shared) (place : Place) (retirement : Option Retirement) → AreFine units state.parts
      → IsFineStep units tags clients (engine_seen state place retirement)
  engine_seen-fine state place None all = unchanged state.parts (engine_seen state place None) refl refl all
  engine_seen-fine state place (Some retirement) all = stage-fine state retirement retirement.stage all

  td_event-fine : (state : Shared) (client : ℕ) (event : Completion) → AreFine units state.parts
      → IsFineStep units tags clients (routed state client (event_act event))
  td_event-fine state client event all = routed-fine state client (event_act event) all (λ first part big fine. event_act-fine first event part fine)

  event_seen-fine : (state : Shared) (event : Completion) → AreFine units state.parts → IsFineStep units tags clients (event_seen state event)
  event_seen-fine state (CommandDone place) all = td_event-fine state place.client (CommandDone place) all
  event_seen-fine state (DataDone place) all = td_event-fine state place.client (DataDone place) all
  event_seen-fine state (StatusDone place) all = td_event-fine state place.client (StatusDone place) all
  event_seen-fine state (EngineDone place) all = engine_seen-fine state place state.retirement all

  event-fine : (state : Shared) (events : List Completion) → AreFine units state.parts → IsFineStep units tags clients (event_step state events)
  event-fine state [] all = unchanged state.parts (event_step state []) refl refl all
  event-fine state (event ∷ rest) all = event_seen-fine (record state { events = rest }) event all

  -- TAKE

  take_to-fine : (state : Shared) (client : ℕ) (found : Option Part) → state.tags ≡ tags → length state.parts ≡ clients → clients * tags ≤ STREAMS
      → IsMatched state → AreFine units state.parts → slice_get state.parts client ≡ found
      → IsFineStep units tags clients (routed_to state client (take_act state.tags client) found)
  take_to-fine state client None number many most matched all is =
      unchanged state.parts (routed_to state client (take_act state.tags client) None) refl refl all
  take_to-fine state client (Some part) number many most matched all is =
      let it = all client part is in
      let there : client < clients = omega (arith, get-within state.parts client part is, many) in
      let few : clients * state.tags ≤ STREAMS = subst (λ n. clients * n ≤ STREAMS) (sym number) most in
      let below : HoldsBelow state.tags part = matched-below state client part matched is in
      record {
        parts_fine = wrote-fine state.parts client part (take_act state.tags client part).part is all (λ first big fine.
            (take_act-fine state.tags clients client first part few there below fine).part_fine);
        reply_fits = subst (λ n. IfSome (take_act state.tags client part).reply (Fits n clients)) number
            (take_act-fine state.tags clients client it.first part few there below it.fine).reply_fits;
      }

  -- EVERY STEP

  due_step-fine : (state : Shared) (step : Step) → state.tags ≡ tags → length state.parts ≡ clients → clients * tags ≤ STREAMS
      → HasTicket step → IsMatched state → AreFine units state.parts → IsFineStep units tags clients (due_step state step)
  due_step-fine state (Submit client tag ticket command) number many most has matched all =
      submitted-fine state client tag ticket command (command_slot state.tags (length state.parts) client tag) all has
  due_step-fine state (TaskStep client ticket task) number many most has matched all =
      managed-fine state (record { client = client; slot = task_slot state.tags }) (named_slot state.tags (length state.parts) client task) ticket task
      (slice_get state.parts client) all refl has
  due_step-fine state CommandPipe number many most has matched all = carry-fine state state.messages all
  due_step-fine state (Data tag) number many most has matched all =
      tagged-fine state move_act (place_of state.tags (length state.parts) tag) all (λ at first part big fine. move_act-fine first big at part fine)
  due_step-fine state (Status tag) number many most has matched all =
      tagged-fine state send_act (place_of state.tags (length state.parts) tag) all (λ at first part big fine. send_act-fine first at part fine)
  due_step-fine state Engine number many most has matched all = engine-fine state state.retirement all
  due_step-fine state Event number many most has matched all = event-fine state state.events all
  due_step-fine state (Retire pipe tag) number many most has matched all = retire-fine state pipe (place_of state.tags (length state.parts) tag) all
  due_step-fine state (Take client) number many most has matched all = take_to-fine state client (slice_get state.parts client) number many most matched all refl

  pub shared_step-fine : (state : Shared) (step : Step) → state.tags ≡ tags → length state.parts ≡ clients → clients * tags ≤ STREAMS
      → HasTicket step → IsMatched state → AreFine units state.parts → IsFineStep units tags clients (shared_step state step)
  shared_step-fine state step number many most has matched all =
      elim (due state step) as (λ b. IsFineStep units tags clients (cond b (due_step state step) (state, idle))) [
        | true ↦ due_step-fine state step number many most has matched all
        | false ↦ unchanged state.parts (state, idle) refl refl all
      ]

-- THE OPENING

new-fine : (number : ℕ) (unit : BlockMaps) → IsFinePart unit (new_part number unit)
new-fine number unit = record { tasks = none-fine unit.count MOST_TAGS; unit_same = same_unit unit }
  where
    none-fine : (count n : ℕ) → AllHeld (IsFineEntry count) (replicate n None)
    none-fine count zero = tt
    none-fine count (suc n) = (tt, none-fine count n)

pub opening-fine : (number : ℕ) (units : List BlockMaps) → AreFine units (new_parts number units)
opening-fine number [] client part is = absurd (none-some part is)
opening-fine number (unit ∷ units) zero part is =
    subst (λ (p : Part). IsFineAt (unit ∷ units) zero p) (same_Some (new_part number unit) part is)
    (record { first = unit; at = refl; fine = new-fine number unit })
opening-fine number (unit ∷ units) (suc client) part is =
    let it = opening-fine (suc number) units client part is in record { first = it.first; at = it.at; fine = it.fine }
