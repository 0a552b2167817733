-- The steps that carry a unit, move a chunk and send a status keep what waits matched. Cited by MatchedSteps.
use Rattle.std.proofs.Common.{◌≡◌, ℕ, ◌<◌, ◌≤◌, true, false, List, [], ◌∷◌, ◌++◌, length, Option, Some, None, refl, arith, ap, sym, suc}
use Rattle.std.proofs.Common.{subst, ◌∙◌, option_map}
use Rattle.std.specs.Prelude.{slice_get, slice_set, if◌then◌else◌}
use Rattle.std.proofs.lemmas.Bool.{and_left, false≢true, and_parts}
use Rattle.std.proofs.lemmas.List.{set-set}
use Rattle.arrayvec.specs.ArrayVec.{ArrayVec}
use Rattle.block_unit.specs.BlockMaps.{BlockMaps}
use Rattle.scsi_cmd.specs.Request.{ended_by, is_command}
use Rattle.scsi_cmd.specs.declared.Task.{Task}
use Rattle.uas_profile.specs.Tags.{task_slot}
use Rattle.scsi_cmd.specs.declared.Op.{Op}
use Rattle.scsi_cmd.specs.declared.Request.{Request}
use Rattle.scsi_cmd.specs.declared.Request.TheVariants.{Execute, Manage}
use Rattle.scsi_cmd.specs.Held.{held_at}
use Rattle.solo_model.specs.declared.TaskAnswer.{TaskAnswer}
use Rattle.solo_model.specs.declared.TaskProgress.TheVariants.{Moving, Ended}
use Rattle.solo_model.specs.TaggedTask.{TaggedTask, can_be_ended, can_go, carried_from, carried_request, finds, is_noted, moved_from, moved_request}
use Rattle.solo_model.specs.TaggedTask.{sent_from, unit_after}
use Rattle.solo_model.specs.declared.Phase.{Phase}
use Rattle.solo_model.specs.declared.Phase.TheVariants.{Queued, Begun, Sent, Gone}
use Rattle.uas_profile.specs.declared.Place.{Place}
use Rattle.uas_profile.specs.Tags.{place_of}
use Rattle.shared_machine.specs.declared.Completion.{Completion}
use Rattle.shared_machine.specs.declared.Outcome.{Outcome}
use Rattle.shared_machine.specs.declared.Mark.TheVariants.{Carry}
use Rattle.shared_machine.specs.declared.Completion.TheVariants.{CommandDone, StatusDone}
use Rattle.shared_machine.specs.declared.Step.TheVariants.{Data, Status}
use Rattle.shared_machine.specs.Td.{Entry, has_trb, data_trbs}
use Rattle.shared_machine.specs.Part.{Part, Act, with_entry, carry_act, carried_slot, carried_entry, entries_after, noted_entry, is_last_trb, took_trb, move_act}
use Rattle.shared_machine.specs.Part.{tasks_in}
use Rattle.shared_machine.specs.Part.{moved_slot, moved_entry, send_act, sent_slot, sent_entry}
use Rattle.shared_machine.specs.Shared.{Shared, acted_on, carry_step, routed_to, routed_by_tag, due}
use Rattle.shared_machine.specs.Shared.{is_moving, is_ended, data_is_due, status_is_due}
use Rattle.shared_machine.specs.Soundness.{one_if}
use Rattle.machine_invariant.specs.Matched.{times, under, waiting_command}
use Rattle.machine_invariant.specs.Matched.{IsRequestIn, IsMatchedAt, IsMatched}
use Rattle.machine_invariant.proofs.MatchedPlaces.{one_self, one_if-true}
use Rattle.machine_invariant.proofs.MatchedPlaces.{IsCounted}
use Rattle.machine_invariant.proofs.MatchedPlaces.{counted-of}
use Rattle.machine_invariant.proofs.MatchedTasks.{carried_to, has_trb-queued, carry-stepped, moved_to, moved_events, IsDataEvent, data_event-is, move-stepped}
use Rattle.machine_invariant.proofs.MatchedEntries.{sent_to, send-stepped}
use Rattle.machine_invariant.proofs.MatchedEntries.{send-tds}
use Rattle.machine_invariant.proofs.MatchedTasks.{moving_op, chunk_task, entries_after-command, carry-tds, move-tds}
use Rattle.shared_machine.proofs.Standing.{slice_get-slice_set_same}
use Rattle.machine_invariant.proofs.MatchedActs.{IsHeld, matched-held, IsDueAt, place_fact-due}
use Rattle.machine_invariant.proofs.MatchedActs.{NamesAlone, acted_state, acted-matched, under-there}
use Rattle.machine_invariant.proofs.MatchedOthers.{AreAlike, changed_part, changed_state, alike-counted, noted-alike}
use Rattle.machine_invariant.proofs.OrderedParts.{ended-noted}
use Rattle.machine_invariant.proofs.OrderedManaged.{of_client, noted-as_received}
use Rattle.machine_invariant.proofs.OrderedEntries.{held-changed}

-- CARRY

-- a place that a message names has an entry that waits for it
pub record HasWaiting (held : Option Entry) : Type 0 where
  pub entry : Entry
  pub is : held ≡ Some entry
  pub waits : has_trb entry.command_td 1 ≡ true

pub waiting-some : (held : Option Entry) → 1 ≤ waiting_command held → HasWaiting held
waiting-some None some = absurd (omega (arith, some))
waiting-some (Some entry) some = record { entry = entry; is = refl; waits = one_if-true (has_trb entry.command_td 1) some }

pub message-waiting : (state : Shared) (place : Place) → IsMatched state → 1 ≤ times place state.messages → HasWaiting (under state.parts place)
message-waiting state place all some = waiting-some (under state.parts place) (omega (arith, some, (all.places place).messages))

pub carry-alone : (place : Place) → NamesAlone place (place ∷ []) (CommandDone place ∷ [])
carry-alone place = record {
  messages = λ other apart. omega (arith, ap one_if apart);
  carried = λ other apart. omega (arith, ap one_if apart);
  moved = λ other apart. refl;
  sent = λ other apart. refl;
}

-- what it is to the client's part that the device receives a command
abbrev pub command_act : Part → Place → Entry → BlockMaps × TaggedTask → Act
command_act part place entry after = record {
  part = with_entry (record part { unit = after.0 }) place.slot (carried_to entry after.1);
  event = Some (CommandDone place);
  mark = Carry (suc place.slot);
  reply = None;
}

pub command_act-is : (part : Part) (place : Place) (entry : Entry) (after : BlockMaps × TaggedTask) → is_command entry.task.request ≡ true →
    carried_entry part place.slot place entry (Some after) ≡ command_act part place entry after
command_act-is part place entry after command =
    ap (λ entries. record (command_act part place entry after) {
      part = with_entry (record part { unit = after.0; entries = entries }) place.slot
          (carried_to entry after.1);
    }) (entries_after-command entry.task.request part.entries command)

-- the first message leaves the command pipe: the state after it
pub carry_step-is : (state : Shared) (place : Place) (rest : List Place) (part : Part) (entry : Entry) → slice_get state.parts place.client ≡ Some part →
    held_at part.entries place.slot ≡ Some entry → entry.task.phase ≡ Queued →
    carry_step state (place ∷ rest) ≡ acted_on (record state { messages = rest }) place.client
    (carried_entry part place.slot place entry (Some (carried_request part.unit (finds entry.task.request (tasks_in part.entries)) entry.task entry.task.request)))
carry_step-is state place rest part entry there held queued =
    let popped : Shared = record state { messages = rest } in
    ap (λ found. routed_to popped place.client (carry_act place) found) there
    ∙ ap (λ found. acted_on popped place.client (carried_slot part place.slot place found)) held
    ∙ ap (λ phase. acted_on popped place.client (carried_entry part place.slot place entry (carried_from part.unit (finds entry.task.request (tasks_in part.entries)) entry.task phase))) queued

-- the same of a command
pub carry_step-held : (state : Shared) (place : Place) (rest : List Place) (part : Part) (entry : Entry) → slice_get state.parts place.client ≡ Some part →
    held_at part.entries place.slot ≡ Some entry → is_command entry.task.request ≡ true → entry.task.phase ≡ Queued →
    carry_step state (place ∷ rest) ≡ acted_on (record state { messages = rest }) place.client
    (command_act part place entry (carried_request part.unit (finds entry.task.request (tasks_in part.entries)) entry.task entry.task.request))
carry_step-held state place rest part entry there held command queued =
    let popped : Shared = record state { messages = rest } in
    carry_step-is state place rest part entry there held queued
    ∙ ap (λ act. acted_on popped place.client act) (command_act-is part place entry (carried_request part.unit (finds entry.task.request (tasks_in part.entries)) entry.task entry.task.request) command)

pub command-received : (state : Shared) (place : Place) (rest : List Place) (part : Part) (entry : Entry) → slice_get state.parts place.client ≡ Some part →
    held_at part.entries place.slot ≡ Some entry → is_command entry.task.request ≡ true → entry.task.phase ≡ Queued → state.messages ≡ place ∷ rest →
    IsMatchedAt state place (Some entry) → IsMatched state → IsCounted (carry_step state (place ∷ rest)).0
command-received state place rest part entry there held command queued is here all =
    let after : BlockMaps × TaggedTask = carried_request part.unit (finds entry.task.request (tasks_in part.entries)) entry.task entry.task.request in
    subst (λ (now : Shared × Outcome). IsCounted now.0) (sym (carry_step-held state place rest part entry there held command queued))
    (acted-matched state place part after.0 entry (carried_to entry after.1) (place ∷ []) rest (CommandDone place ∷ []) there held is (carry-alone place) refl
    (carry-tds part.unit (finds entry.task.request (tasks_in part.entries)) entry) (carry-stepped part.unit (finds entry.task.request (tasks_in part.entries)) place entry queued here.sound) here (counted-of state all))

-- A TASK MANAGEMENT IS RECEIVED

-- what stands in another slot of a client that is there
pub other-sound : (state : Shared) (place : Place) (part : Part) (slot : ℕ) (entry : Entry) → slice_get state.parts place.client ≡ Some part →
    held_at part.entries slot ≡ Some entry → IsCounted state → IsMatchedAt state (of_client place slot) (Some entry)
other-sound state place part slot entry there held all =
    subst (λ found. IsMatchedAt state (of_client place slot) found) (under-there state.parts (of_client place slot) part (Some entry) there held)
    (all.matched.places (of_client place slot))

-- a command isn't in the last slot
pub command-slot : (tags : ℕ) (slot : ℕ) (request : Request) → is_command request ≡ true → IsRequestIn tags slot request → slot < (task_slot tags)
command-slot tags slot (Execute op) command is = is
command-slot tags slot (Manage what noted) command is = absurd (false≢true command)

-- a task management ends no other, itself included
pub managed-same : (noted : List ℕ) (entry : Entry) → is_command entry.task.request ≡ false → noted_entry noted entry ≡ entry
managed-same noted entry is =
    ap (λ b. record entry { task = if b then record entry.task { phase = Gone } else entry.task })
    (and_left (can_be_ended entry.task) (is_noted noted entry.task.ticket) (and_left (is_command entry.task.request) (can_go entry.task.phase) is))

pub management-received : (state : Shared) (place : Place) (rest : List Place) (part : Part) (entry : Entry) (what : Task) (noted : ArrayVec ℕ) →
    slice_get state.parts place.client ≡ Some part → held_at part.entries place.slot ≡ Some entry → entry.task.request ≡ Manage what noted →
    entry.task.phase ≡ Queued → state.messages ≡ place ∷ rest → IsMatchedAt state place (Some entry) → IsMatched state →
    IsCounted (carry_step state (place ∷ rest)).0
management-received state place rest part entry what noted there held asks queued is here all =
    let counted : IsCounted state = counted-of state all in
    let change : Entry → Entry = noted_entry (ended_by what noted).items in
    let base : Shared = changed_state state place.client change part in
    let now_part : Part = changed_part change part in
    let after : BlockMaps × TaggedTask = carried_request part.unit (finds entry.task.request (tasks_in part.entries)) entry.task entry.task.request in
    let posted : List Completion = CommandDone place ∷ [] in
    let bases : IsCounted base = alike-counted state place.client change part there each counted in
    let base_there : slice_get base.parts place.client ≡ Some now_part = slice_get-slice_set_same state.parts place.client part now_part there in
    let base_held : held_at now_part.entries place.slot ≡ Some entry =
    held-changed change part.entries place.slot ∙ ap (option_map change) held ∙ ap Some (managed-same (ended_by what noted).items entry (ap (λ r. is_command r) asks)) in
    let base_here : IsMatchedAt base place (Some entry) = other-sound base place now_part place.slot entry base_there base_held bases in
    let acted : Shared = acted_state base place now_part after.0 (carried_to entry after.1) rest posted in
    let step : (carry_step state (place ∷ rest)).0 ≡ acted =
    ap (λ (after : Shared × Outcome). after.0) (carry_step-is state place rest part entry there held queued)
    ∙ ap (λ entries. record state {
      parts = slice_set state.parts place.client
          (with_entry (record part { entries = entries; unit = after.0 }) place.slot (carried_to entry after.1));
      messages = rest;
      events = state.events ++ posted;
    }) (ap (λ r. entries_after r part.entries) asks)
    ∙ ap (λ parts. record state { parts = parts; messages = rest; events = state.events ++ posted })
    (sym (set-set state.parts place.client now_part (with_entry (record now_part { unit = after.0 }) place.slot (carried_to entry after.1)))) in
    subst IsCounted (sym step)
    (acted-matched base place now_part after.0 entry (carried_to entry after.1) (place ∷ []) rest posted base_there base_held is (carry-alone place) refl
    (carry-tds part.unit (finds entry.task.request (tasks_in part.entries)) entry) (carry-stepped part.unit (finds entry.task.request (tasks_in part.entries)) place entry queued here.sound) base_here bases)
  where
    each : AreAlike state.tags (noted_entry (ended_by what noted).items) part.entries
    each slot other is_other =
        let at : IsMatchedAt state (of_client place slot) (Some other) = other-sound state place part slot other there is_other (counted-of state all) in
        noted-alike (ended_by what noted).items slot other
        (λ command noted_is. (noted-as_received state place rest entry what noted all is (under-there state.parts place part (Some entry) there held) asks slot
        other (command-slot _ slot other.task.request command at.sound.asks) (under-there state.parts (of_client place slot) part (Some other) there is_other)
        ).received (ended-noted what noted other.task.ticket noted_is))
        at.sound

pub carry_step-matched : (state : Shared) (messages : List Place) → state.messages ≡ messages → IsMatched state → IsCounted (carry_step state messages).0
carry_step-matched state [] is all = counted-of state all
carry_step-matched state (place ∷ rest) is all =
    let some : 1 ≤ times place state.messages = omega (arith, ap (times place) is, one_self place) in
    let waiting : HasWaiting (under state.parts place) = message-waiting state place all some in
    let at : IsHeld state place waiting.entry = matched-held state place waiting.entry all waiting.is in
    let queued : waiting.entry.task.phase ≡ Queued =
    has_trb-queued waiting.entry.task.phase waiting.entry.command_td at.here.sound.command waiting.waits in
    by_request waiting.entry at.found.part waiting.entry.task.request refl at.found.there at.found.held queued at.here
  where
    by_request : (entry : Entry) (part : Part) (request : Request) → entry.task.request ≡ request → slice_get state.parts place.client ≡ Some part →
        held_at part.entries place.slot ≡ Some entry → entry.task.phase ≡ Queued → IsMatchedAt state place (Some entry) →
        IsCounted (carry_step state (place ∷ rest)).0
    by_request entry part (Execute op) asks there held queued here =
        command-received state place rest part entry there held (ap (λ r. is_command r) asks) queued is here all
    by_request entry part (Manage what noted) asks there held queued here =
        management-received state place rest part entry what noted there held asks queued is here all

-- MOVE

pub record IsMovingBy (phase : Phase) : Type 0 where
  pub chunk : ℕ
  pub is : phase ≡ Begun (Moving chunk)

pub moving_phase : (phase : Phase) → is_moving phase ≡ true → IsMovingBy phase
moving_phase Queued is = absurd (false≢true is)
moving_phase (Begun (Moving chunk)) is = record { chunk = chunk; is = refl }
moving_phase (Begun (Ended answer)) is = absurd (false≢true is)
moving_phase (Sent answer) is = absurd (false≢true is)
moving_phase Gone is = absurd (false≢true is)

pub move_step-held : (state : Shared) (tag : ℕ) (place : Place) (part : Part) (entry : Entry) (chunk : ℕ) (op : Op)
    → place_of state.tags (length state.parts) tag ≡ Some place →
    slice_get state.parts place.client ≡ Some part → held_at part.entries place.slot ≡ Some entry → entry.task.phase ≡ Begun (Moving chunk) →
    entry.task.request ≡ Execute op →
    routed_by_tag state move_act (place_of state.tags (length state.parts) tag) ≡ acted_on state place.client
    (moved_entry part place.slot place entry (Some (unit_after part.unit entry.task.buffer chunk op, chunk_task part.unit entry.task chunk op)))
move_step-held state tag place part entry chunk op named there held moving asks =
    ap (λ p. routed_by_tag state move_act p) named
    ∙ ap (λ found. routed_to state place.client (move_act place) found) there
    ∙ ap (λ found. acted_on state place.client (moved_slot part place.slot place found)) held
    ∙ ap (λ phase. acted_on state place.client (moved_entry part place.slot place entry (moved_from part.unit entry.task phase))) moving
    ∙ ap (λ r. acted_on state place.client (moved_entry part place.slot place entry (moved_request part.unit entry.task chunk r))) asks

-- a chunk of what stands at a place
pub chunk-counted : (state : Shared) (tag : ℕ) (place : Place) (part : Part) (entry : Entry) (chunk : ℕ) (op : Op) →
    place_of state.tags (length state.parts) tag ≡ Some place → slice_get state.parts place.client ≡ Some part
    → held_at part.entries place.slot ≡ Some entry → entry.task.phase ≡ Begun (Moving chunk) → entry.task.request ≡ Execute op
    → IsMatchedAt state place (Some entry) → IsCounted state
    → IsCounted (routed_by_tag state move_act (place_of state.tags (length state.parts) tag)).0
chunk-counted state tag place part entry chunk op named there held moving asks here all =
    let task : TaggedTask = chunk_task part.unit entry.task chunk op in
    let unit : BlockMaps = unit_after part.unit entry.task.buffer chunk op in
    let posted : List Completion = moved_events entry task place in
    let event : IsDataEvent place posted = data_event-is (is_last_trb (took_trb task.phase) (data_trbs entry.task.request) entry.data_td) place in
    subst IsCounted (sym (ap (λ (now : Shared × Outcome). now.0) (move_step-held state tag place part entry chunk op named there held moving asks)))
    (acted-matched state place part unit entry (moved_to entry task) [] state.messages posted there held refl
    (record { messages = λ other apart. refl; carried = event.carried; moved = event.moved; sent = event.sent }) event.retired
    (move-tds part.unit place.slot entry chunk op moving here.sound)
    (move-stepped part.unit place entry chunk op asks moving here.sound) here all)

pub move_step-matched : (state : Shared) (tag : ℕ) → due state (Data tag) ≡ true → IsMatched state
    → IsCounted (routed_by_tag state move_act (place_of state.tags (length state.parts) tag)).0
move_step-matched state tag is_due all =
    let at : IsDueAt state tag (data_is_due state tag) = place_fact-due state tag (data_is_due state tag) is_due in
    let entry : Entry = at.entry in
    let held : IsHeld state at.place entry = matched-held state at.place entry all at.held in
    let moving : IsMovingBy entry.task.phase = moving_phase entry.task.phase (and_parts (is_moving entry.task.phase) _ at.so).0 in
    let asks : (op : Op) × (entry.task.request ≡ Execute op) = moving_op entry.task.request entry.task.phase moving.chunk moving.is held.here.sound.answers in
    chunk-counted state tag at.place held.found.part entry moving.chunk asks.0 at.named held.found.there held.found.held moving.is asks.1 held.here
    (counted-of state all)

-- SEND

pub record IsEndedBy (phase : Phase) : Type 0 where
  pub answer : TaskAnswer
  pub is : phase ≡ Begun (Ended answer)

pub ended_phase : (phase : Phase) → is_ended phase ≡ true → IsEndedBy phase
ended_phase Queued is = absurd (false≢true is)
ended_phase (Begun (Moving chunk)) is = absurd (false≢true is)
ended_phase (Begun (Ended answer)) is = record { answer = answer; is = refl }
ended_phase (Sent answer) is = absurd (false≢true is)
ended_phase Gone is = absurd (false≢true is)

pub send_step-held : (state : Shared) (tag : ℕ) (place : Place) (part : Part) (entry : Entry) (answer : TaskAnswer)
    → place_of state.tags (length state.parts) tag ≡ Some place →
    slice_get state.parts place.client ≡ Some part → held_at part.entries place.slot ≡ Some entry → entry.task.phase ≡ Begun (Ended answer) →
    routed_by_tag state send_act (place_of state.tags (length state.parts) tag) ≡ acted_on state place.client
    (sent_entry part place.slot place entry (Some (record entry.task { phase = Sent answer })))
send_step-held state tag place part entry answer named there held ended =
    ap (λ p. routed_by_tag state send_act p) named
    ∙ ap (λ found. routed_to state place.client (send_act place) found) there
    ∙ ap (λ found. acted_on state place.client (sent_slot part place.slot place found)) held
    ∙ ap (λ phase. acted_on state place.client (sent_entry part place.slot place entry (sent_from entry.task phase))) ended

pub send-alone : (place : Place) → NamesAlone place [] (StatusDone place ∷ [])
send-alone place = record {
  messages = λ other apart. refl;
  carried = λ other apart. refl;
  moved = λ other apart. refl;
  sent = λ other apart. omega (arith, ap one_if apart);
}

pub send_step-matched : (state : Shared) (tag : ℕ) → due state (Status tag) ≡ true → IsMatched state
    → IsCounted (routed_by_tag state send_act (place_of state.tags (length state.parts) tag)).0
send_step-matched state tag is_due all =
    let at : IsDueAt state tag (status_is_due state tag) = place_fact-due state tag (status_is_due state tag) is_due in
    let place : Place = at.place in
    let entry : Entry = at.entry in
    let held : IsHeld state place entry = matched-held state place entry all at.held in
    let part : Part = held.found.part in
    let ended : IsEndedBy entry.task.phase = ended_phase entry.task.phase (and_parts (is_ended entry.task.phase) _ at.so).0 in
    subst (λ (now : Shared × Outcome). IsCounted now.0)
    (sym (send_step-held state tag place part entry ended.answer at.named held.found.there held.found.held ended.is))
    (acted-matched state place part part.unit entry (sent_to entry ended.answer) [] state.messages (StatusDone place ∷ []) held.found.there held.found.held refl
    (send-alone place) refl (send-tds place.slot entry ended.answer ended.is held.here.sound)
    (send-stepped place entry ended.answer ended.is held.here.sound) held.here (counted-of state all))
