-- Each step of the shared machine keeps the order facts, and they hold at the start. Cited by the law order_is_kept, by
-- MatchedSteps and by MatchedOpening.
use Rattle.std.proofs.Common.{◌≡◌, ℕ, zero, suc, ◌<◌, ◌≤◌, ◌+◌, true, false, cond, List, [], ◌∷◌, ◌++◌, length, replicate, Option, Some, None}
use Rattle.std.proofs.Common.{refl, arith, ap, sym, subst, ◌∙◌, append-nil}
use Rattle.std.specs.Prelude.{◌==◌, ◌&&◌, nat_lt, is_some, slice_get, slice_set, option_and_then, option_to_list}
use Rattle.std.specs.Option.{option_map_or}
use Rattle.std.proofs.lemmas.Bool.{and_left, and_parts, eq-eqb}
use Rattle.std.proofs.lemmas.List.{get_or-set_same, get_or-set_other}
use Rattle.std.proofs.lemmas.Option.{none-some, same_Some}
use Rattle.block_unit.specs.BlockMaps.{BlockMaps}
use Rattle.scsi_cmd.specs.Held.{held_at}
use Rattle.scsi_cmd.specs.Op.{direction_of}
use Rattle.scsi_cmd.specs.declared.Command.{Command}
use Rattle.scsi_cmd.specs.declared.Reply.{Reply}
use Rattle.scsi_cmd.specs.declared.SubmitFault.{SubmitFault}
use Rattle.scsi_cmd.specs.declared.Task.{Task}
use Rattle.uas_profile.specs.declared.TheConstants.{MOST_TAGS}
use Rattle.uas_profile.specs.declared.Pipe.{Pipe}
use Rattle.uas_profile.specs.declared.Pipe.TheVariants.{Command as CommandPipeName, Status as StatusPipe, DataIn, DataOut}
use Rattle.shared_machine.specs.Tests.{is_over, is_pending, is_seen}
use Rattle.uas_profile.specs.Tags.{command_slot, place_of, task_slot}
use Rattle.uas_profile.specs.declared.Place.{Place}
use Rattle.uas_profile.specs.declared.TdState.{TdState}
use Rattle.uas_profile.specs.PipeStates.{stopped_pipe}
use Rattle.uas_profile.specs.declared.PipeState.{PipeState}
use Rattle.shared_machine.specs.Pipes.{all_rung}
use Rattle.shared_machine.specs.declared.Completion.{Completion}
use Rattle.shared_machine.specs.declared.Completion.TheVariants.{CommandDone, DataDone, StatusDone, EngineDone}
use Rattle.shared_machine.specs.declared.Outcome.{Outcome}
use Rattle.shared_machine.specs.declared.Retirement.{Retirement}
use Rattle.shared_machine.specs.declared.RetirementStage.{RetirementStage}
use Rattle.shared_machine.specs.declared.RetirementStage.TheVariants.{StopAsked, StopAnswered, MoveAsked, MoveAnswered}
use Rattle.shared_machine.specs.declared.Step.{Step}
use Rattle.shared_machine.specs.declared.Step.TheVariants.{Submit, Task as TaskStep, CommandPipe, Data, Status, Engine, Event, Retire, Take}
use Rattle.shared_machine.specs.declared.Td.{Td}
use Rattle.shared_machine.specs.Td.{Entry, data_trbs, is_awaited, is_data_over, is_in_ring, is_ready}
use Rattle.shared_machine.specs.Part.{Act, Part, carry_act, entry_reply, event_act, fault_at, managed_part, move_act, named_slot, new_entry, new_management, new_part}
use Rattle.shared_machine.specs.Part.{noted_tickets, nothing, pass_act, retire_act, send_act, settled, slot_tag, stop_act, submitted_part, take_act, taken}
use Rattle.shared_machine.specs.Part.{task_fault_at}
use Rattle.shared_machine.specs.Shared.{Shared, accepted, acted_on, answered, at_stage, carry_step, due, due_step, engine_did, engine_seen, engine_step, event_seen}
use Rattle.shared_machine.specs.Shared.{event_step, idle, managed, managed_or, managed_to, new_parts, opening, pipe_of, retire_step, routed, routed_by_tag}
use Rattle.shared_machine.specs.Shared.{routed_to, shared_step, stage_seen, streams_pending, submitted_to, submitted_under, with_pipe}
use Rattle.shared_machine.specs.Soundness.{one_if, times_in}
use Rattle.machine_invariant.specs.Ordered.{AreBehind, AreRising, IsLater, IsOrdered, IsOrderedPart, under}
use Rattle.machine_invariant.specs.Matched.{IsMatched, IsMatchedAt, readied_in, times, times_ready}
use Rattle.machine_invariant.proofs.MatchedEnds.{over-pends, over-data, seen-is}
use Rattle.machine_invariant.proofs.MatchedPlaces.{one_if-true}
use Rattle.machine_invariant.proofs.MatchedSubmissions.{rung-events, slots-there}
use Rattle.machine_invariant.proofs.OrderedActs.{IsKeptBy, event_act-kept, move_act-kept, notice-behind, nothing-kept, pass_act-kept, retire_act-kept, send_act-kept}
use Rattle.machine_invariant.proofs.OrderedActs.{stop_act-kept}
use Rattle.machine_invariant.proofs.OrderedCarry.{carry_act-kept}
use Rattle.machine_invariant.proofs.OrderedEvents.{behind-rest, behind-same, named_in}
use Rattle.machine_invariant.proofs.OrderedManaged.{HasMessage, message-there, ticket-here}
use Rattle.machine_invariant.proofs.OrderedMessages.{IsSame, IsSame-self, IsSameAt, onward-same, part-written, rising-more, rising-same, under-there, under-wrote}
use Rattle.machine_invariant.proofs.OrderedParts.{left-ordered}
use Rattle.machine_invariant.proofs.OrderedSubmissions.{IsInTurn, managed-ordered, submit-turn, submitted-ordered, task-turn}
use Rattle.shared_machine.proofs.OwnSlots.{command_slot-own}
use Rattle.shared_machine.proofs.Standing.{slice_get-slice_set_same}
use Rattle.shared_machine.proofs.Standing.{not_some, get-within}
use Rattle.shared_machine.proofs.NumberOfTags.{with_streams_rung-tags}

-- ENTRIES TAKEN ON

-- an act that takes a client's entries on, written back, and its event posted
acted-ordered : (state : Shared) (client : ℕ) (part : Part) (act : Act) → slice_get state.parts client ≡ Some part → IsKeptBy state client part act
    → IsOrdered state
    → IsOrdered (acted_on state client act).0
acted-ordered state client part act found kept old =
    let parts : List Part = slice_set state.parts client act.part in
    let same : (place : Place) → IsSameAt state.parts parts place = λ place.
    under-wrote IsSame state.parts client part act.part place found
    (λ of_client. onward-same (held_at part.entries place.slot) (held_at act.part.entries place.slot) (kept.onward place.slot)) IsSame-self in
    record {
      parts = part-written (IsOrderedPart state.tags) state.parts client part act.part found old.parts kept.ordered;
      messages = rising-same state.parts parts state.messages (λ place named. same place) old.messages;
      events = behind-same state.parts parts (state.events ++ option_to_list act.event) (λ place named. same place)
          (notice-behind state act.event kept.notice old.events);
    }

routed-ordered : (state : Shared) (client : ℕ) (act : Part → Act) → IsOrdered state
    → ((part : Part) → slice_get state.parts client ≡ Some part → IsKeptBy state client part (act part)) → IsOrdered (routed state client act).0
routed-ordered state client act old kept =
    elim (slice_get state.parts client) as (λ found. slice_get state.parts client ≡ found → IsOrdered (routed_to state client act found).0) [
      | None ↦ λ is. old
      | Some part ↦ λ is. acted-ordered state client part (act part) is (kept part is) old
    ] refl

-- CARRY, MOVE AND SEND

carry_step-ordered : (state : Shared) (messages : List Place) → state.messages ≡ messages → IsMatched state → IsOrdered (carry_step state messages).0
carry_step-ordered state [] is all = all.ordered
carry_step-ordered state (place ∷ rest) is all =
    let rising : AreRising state.parts (place ∷ rest) = subst (λ messages. AreRising state.parts messages) is all.ordered.messages in
    routed-ordered (record state { messages = rest }) place.client (carry_act place)
    (record { parts = all.ordered.parts; messages = rising.1; events = all.ordered.events })
    (λ part found. carry_act-kept state place rest part all is found)

by_tag-ordered : (state : Shared) (act : Place → Part → Act) (place : Option Place) → IsOrdered state
    → ((place : Place) (part : Part) → slice_get state.parts place.client ≡ Some part → IsKeptBy state place.client part (act place part))
    → IsOrdered (routed_by_tag state act place).0
by_tag-ordered state act None old kept = old
by_tag-ordered state act (Some place) old kept = routed-ordered state place.client (act place) old (kept place)

-- RETIREMENT

-- the pipes and the retirement are nothing of the order
with_pipe-ordered : (state : Shared) (pipe : Pipe) (now : PipeState) → IsOrdered state → IsOrdered (with_pipe state pipe now)
with_pipe-ordered state CommandPipeName now old = old
with_pipe-ordered state StatusPipe now old = record { parts = old.parts; messages = old.messages; events = old.events }
with_pipe-ordered state DataIn now old = record { parts = old.parts; messages = old.messages; events = old.events }
with_pipe-ordered state DataOut now old = record { parts = old.parts; messages = old.messages; events = old.events }

retiring-ordered : (state : Shared) (retirement : Option Retirement) → IsOrdered state → IsOrdered (record state { retirement = retirement })
retiring-ordered state retirement old = record { parts = old.parts; messages = old.messages; events = old.events }

at_stage-ordered : (state : Shared) (retirement : Retirement) (stage : RetirementStage) → IsOrdered state → IsOrdered (at_stage state retirement stage)
at_stage-ordered state retirement stage old = retiring-ordered state (Some (record retirement { stage = stage })) old

engine_did-ordered : (state : Shared) (retirement : Retirement) (stage : RetirementStage) → IsOrdered state → IsOrdered (engine_did state retirement stage).0
engine_did-ordered state retirement StopAsked old =
    let stopped : Shared = with_pipe state retirement.pipe stopped_pipe in
    let now : Shared = at_stage stopped retirement StopAnswered in
    let ordered : IsOrdered now = at_stage-ordered stopped retirement StopAnswered (with_pipe-ordered state retirement.pipe stopped_pipe old) in
    routed-ordered now retirement.place.client (stop_act retirement.place) ordered
    (λ part found. stop_act-kept now retirement.place.client retirement.place part (ordered.parts retirement.place.client part found))
engine_did-ordered state retirement StopAnswered old = old
engine_did-ordered state retirement MoveAsked old =
    let now : Shared = at_stage state retirement MoveAnswered in
    let ordered : IsOrdered now = at_stage-ordered state retirement MoveAnswered old in
    routed-ordered now retirement.place.client (pass_act retirement.pipe retirement.place) ordered
    (λ part found. pass_act-kept now retirement.place.client retirement.pipe retirement.place part (ordered.parts retirement.place.client part found))
engine_did-ordered state retirement MoveAnswered old = old

engine_step-ordered : (state : Shared) (retirement : Option Retirement) → IsOrdered state → IsOrdered (engine_step state retirement).0
engine_step-ordered state None old = old
engine_step-ordered state (Some retirement) old = engine_did-ordered state retirement retirement.stage old

retire_step-ordered : (state : Shared) (pipe : Pipe) (place : Option Place) → IsOrdered state → IsOrdered (retire_step state pipe place).0
retire_step-ordered state pipe None old = old
retire_step-ordered state pipe (Some place) old = retiring-ordered state (Some (record { pipe = pipe; place = place; stage = StopAsked })) old

-- EVENTS

stage_seen-ordered : (state : Shared) (retirement : Retirement) (stage : RetirementStage) → IsOrdered state → IsOrdered (stage_seen state retirement stage).0
stage_seen-ordered state retirement StopAsked old = old
stage_seen-ordered state retirement StopAnswered old = at_stage-ordered state retirement MoveAsked old
stage_seen-ordered state retirement MoveAsked old = old
stage_seen-ordered state retirement MoveAnswered old =
    let ended : Shared = record state { retirement = None } in
    let ordered : IsOrdered ended = retiring-ordered state None old in
    let after : Shared × Outcome = routed ended retirement.place.client (retire_act retirement.pipe retirement.place) in
    with_pipe-ordered after.0 retirement.pipe (all_rung (pipe_of after.0 retirement.pipe) (streams_pending after.0 retirement.pipe))
    (routed-ordered ended retirement.place.client (retire_act retirement.pipe retirement.place) ordered
    (λ part found. retire_act-kept ended retirement.place.client retirement.pipe retirement.place part (ordered.parts retirement.place.client part found)))

engine_seen-ordered : (state : Shared) (place : Place) (retirement : Option Retirement) → IsOrdered state → IsOrdered (engine_seen state place retirement).0
engine_seen-ordered state place None old = old
engine_seen-ordered state place (Some retirement) old = stage_seen-ordered state retirement retirement.stage old

td_event-ordered : (state : Shared) (client : ℕ) (event : Completion) → IsOrdered state → IsOrdered (routed state client (event_act event)).0
td_event-ordered state client event old =
    routed-ordered state client (event_act event) old (λ part found. event_act-kept state client event part (old.parts client part found))

event_seen-ordered : (state : Shared) (event : Completion) → IsOrdered state → IsOrdered (event_seen state event).0
event_seen-ordered state (CommandDone place) old = td_event-ordered state place.client (CommandDone place) old
event_seen-ordered state (DataDone place) old = td_event-ordered state place.client (DataDone place) old
event_seen-ordered state (StatusDone place) old = td_event-ordered state place.client (StatusDone place) old
event_seen-ordered state (EngineDone place) old = engine_seen-ordered state place state.retirement old

event_step-ordered : (state : Shared) (events : List Completion) → state.events ≡ events → IsOrdered state → IsOrdered (event_step state events).0
event_step-ordered state [] is old = old
event_step-ordered state (event ∷ rest) is old =
    let behind : AreBehind state.parts (event ∷ rest) = subst (λ events. AreBehind state.parts events) is old.events in
    event_seen-ordered (record state { events = rest }) event
    (record { parts = old.parts; messages = old.messages; events = behind-rest state.parts event rest behind })

-- WHAT NOTHING NAMES

-- no message and no event of its data or status TD is of the place
record IsUnnamed (state : Shared) (place : Place) : Type 0 where
  messages : times place state.messages ≡ 0
  events : named_in place state.events ≡ 0

unnamed-none : (state : Shared) (place : Place) → IsMatchedAt state place None → IsUnnamed state place
unnamed-none state place at = record { messages = at.messages; events = omega (arith, at.moved, at.sent) }

seen-reclaimed : (state : TdState) → is_seen state ≡ true → is_in_ring state ≡ false
seen-reclaimed state is = ap (λ s. is_in_ring s) (seen-is state is)

over-unawaited : (trbs : ℕ) (td : Td) → is_over td.state ≡ true → one_if (is_awaited td trbs) ≡ 0
over-unawaited trbs td is = ap one_if (and_left (is_pending td.state) (td.consumed == trbs) (over-pends td.state is))

-- an entry that is ready waits for nothing
unnamed-ready : (state : Shared) (place : Place) (entry : Entry) → IsMatchedAt state place (Some entry) → is_ready entry ≡ true → IsUnnamed state place
unnamed-ready state place entry at ready =
    let first = and_parts (is_seen entry.command_td.state) (is_over entry.status_td.state && is_data_over entry.data_td) ready in
    let second = and_parts (is_over entry.status_td.state) (is_data_over entry.data_td) first.1 in
    record {
      messages = at.messages
          ∙ ap one_if (and_left (is_in_ring entry.command_td.state) (nat_lt entry.command_td.consumed 1) (seen-reclaimed entry.command_td.state first.0));
      events = omega (
        arith,
        at.moved,
        over-data (data_trbs entry.task.request) entry.data_td second.1,
        at.sent,
        over-unawaited 1 entry.status_td second.0,
      );
    }

-- the slot that was ready first
unnamed-first : (state : Shared) (place : Place) (part : Part) (rest : List ℕ) (held : Option Entry) → slice_get state.parts place.client ≡ Some part
    → part.ready ≡ place.slot ∷ rest → IsMatchedAt state place held → IsUnnamed state place
unnamed-first state place part rest None found queue at = unnamed-none state place at
unnamed-first state place part rest (Some entry) found queue at =
    let counted : times_ready state.parts place ≡ times_in place.slot (place.slot ∷ rest) =
    ap (λ one. option_map_or (readied_in place) one 0) found ∙ ap (λ ready. times_in place.slot ready) queue in
    let one : one_if (place.slot == place.slot) ≡ 1 = ap one_if (eq-eqb place.slot place.slot refl) in
    unnamed-ready state place entry at (one_if-true (is_ready entry) (omega (arith, counted, one, at.ready)))

-- a write to a slot that nothing names leaves what is named
same-elsewhere : (parts : List Part) (client slot : ℕ) (part now : Part) (place : Place) → slice_get parts client ≡ Some part
    → ((other : ℕ) → (other ≡ slot → ⊥) → held_at now.entries other ≡ held_at part.entries other)
    → (client ≡ place.client → place.slot ≡ slot → ⊥) → IsSameAt parts (slice_set parts client now) place
same-elsewhere parts client slot part now place found kept apart =
    under-wrote IsSame parts client part now place found
    (λ same. subst (λ held. IsSame (held_at part.entries place.slot) held) (sym (kept place.slot (apart same))) (IsSame-self (held_at part.entries place.slot)))
    IsSame-self

-- what is named at another place than one that nothing names
named-apart : (named : Place → ℕ) (client slot : ℕ) (place : Place) → named (record { client = client; slot = slot }) ≡ 0 → 1 ≤ named place
    → client ≡ place.client → place.slot ≡ slot → ⊥
named-apart named client slot place none some same at =
    let whole : place ≡ record { client = client; slot = slot } = λ i. record { client = sym same i; slot = at i } in
    omega (arith, some, ap named whole, none)

-- TAKE

left-state : (state : Shared) (client slot : ℕ) (rest : List ℕ) (part : Part) → slice_get state.parts client ≡ Some part
    → IsUnnamed state (record { client = client; slot = slot }) → IsOrdered state
    → IsOrdered (record state {
      parts = slice_set state.parts client (record part { entries = slice_set part.entries slot None; ready = rest });
      events = state.events ++ [];
    })
left-state state client slot rest part found unnamed old =
    let now : Part = record part { entries = slice_set part.entries slot None; ready = rest } in
    let parts : List Part = slice_set state.parts client now in
    let kept : (other : ℕ) → (other ≡ slot → ⊥) → held_at now.entries other ≡ held_at part.entries other = λ other apart.
    get_or-set_other part.entries slot other None None apart in
    record {
      parts = part-written (IsOrderedPart state.tags) state.parts client part now found old.parts (left-ordered client part slot rest (old.parts client part found));
      messages = rising-same state.parts parts state.messages
          (λ place named. same-elsewhere state.parts client slot part now place found kept
          (named-apart (λ p. times p state.messages) client slot place unnamed.messages named)) old.messages;
      events = subst (λ events. AreBehind parts events) (sym (append-nil state.events)) (behind-same state.parts parts state.events
          (λ place named. same-elsewhere state.parts client slot part now place found kept
          (named-apart (λ p. named_in p state.events) client slot place unnamed.events named)) old.events);
    }

settled-ordered : (state : Shared) (client slot : ℕ) (rest : List ℕ) (part : Part) (reply : Option Reply) → slice_get state.parts client ≡ Some part
    → IsUnnamed state (record { client = client; slot = slot }) → IsOrdered state → IsOrdered (acted_on state client (settled part slot rest reply)).0
settled-ordered state client slot rest part None found unnamed old =
    acted-ordered state client part (nothing part) found (nothing-kept state client part (old.parts client part found)) old
settled-ordered state client slot rest part (Some reply) found unnamed old = left-state state client slot rest part found unnamed old

taken-ordered : (state : Shared) (client : ℕ) (part : Part) (ready : List ℕ) → part.ready ≡ ready → slice_get state.parts client ≡ Some part → IsMatched state
    → IsOrdered (acted_on state client (taken state.tags client part ready)).0
taken-ordered state client part [] queue found all =
    acted-ordered state client part (nothing part) found (nothing-kept state client part (all.ordered.parts client part found)) all.ordered
taken-ordered state client part (slot ∷ rest) queue found all =
    let place : Place = record { client = client; slot = slot } in
    settled-ordered state client slot rest part (option_and_then (entry_reply (slot_tag state.tags client slot)) (held_at part.entries slot)) found
    (unnamed-first state place part rest (under state.parts place) found queue (all.places place)) all.ordered

take_step-ordered : (state : Shared) (client : ℕ) → IsMatched state → IsOrdered (routed state client (take_act state.tags client)).0
take_step-ordered state client all =
    elim (slice_get state.parts client) as (λ found. slice_get state.parts client ≡ found → IsOrdered (routed_to state client (take_act state.tags client) found).0) [
      | None ↦ λ is. all.ordered
      | Some part ↦ λ is. taken-ordered state client part part.ready refl is all
    ] refl

-- SUBMISSION

-- a part with an entry added at a free place, whose message is the last
record IsAddedAt (state new : Shared) (place : Place) (part now : Part) (entry : Entry) : Type 0 where
  found : slice_get state.parts place.client ≡ Some part
  free : held_at part.entries place.slot ≡ None
  within : place.slot < length part.entries
  next : part.least_ticket ≤ entry.task.ticket
  entries : now.entries ≡ slice_set part.entries place.slot (Some entry)
  ordered : IsOrderedPart state.tags place.client now
  tags : new.tags ≡ state.tags
  parts : new.parts ≡ slice_set state.parts place.client now
  messages : new.messages ≡ state.messages ++ place ∷ []
  events : new.events ≡ state.events

-- the message of what is added is later than each of the client's
added-later : (state new : Shared) (place : Place) (part now : Part) (entry : Entry) → IsAddedAt state new place part now entry → IsMatched state
    → ((other : Place) → 1 ≤ times other state.messages → IsSameAt state.parts (slice_set state.parts place.client now) other)
    → (other : Place) → 1 ≤ times other state.messages → IsLater (slice_set state.parts place.client now) other place
added-later state new place part now entry is all same other named client =
    let parts : List Part = slice_set state.parts place.client now in
    let waits : HasMessage state other = message-there state other all named in
    let there : slice_get parts place.client ≡ Some now = slice_get-slice_set_same state.parts place.client part now is.found in
    let added : under parts place ≡ Some entry =
    under-there parts place now there ∙ ap (λ entries. held_at entries place.slot) is.entries
    ∙ get_or-set_same part.entries place.slot (Some entry) None is.within in
    let held : held_at part.entries other.slot ≡ Some waits.entry =
    sym (under-there state.parts other part (ap (λ c. slice_get state.parts c) client ∙ is.found)) ∙ waits.is in
    let below : waits.entry.task.ticket < part.least_ticket = (all.ordered.parts place.client part is.found).tickets.below other.slot waits.entry held in
    let kept = same other named in
    omega (arith, below, is.next, ticket-here parts place entry added, kept.ticket, ticket-here state.parts other waits.entry waits.is)

added-state : (state new : Shared) (place : Place) (part now : Part) (entry : Entry) → IsAddedAt state new place part now entry → IsMatched state
    → IsOrdered new
added-state state new place part now entry is all =
    let parts : List Part = slice_set state.parts place.client now in
    let nothing_there : under state.parts place ≡ None = under-there state.parts place part is.found ∙ is.free in
    let unnamed : IsUnnamed state place = unnamed-none state place (subst (λ held. IsMatchedAt state place held) nothing_there (all.places place)) in
    let kept : (other : ℕ) → (other ≡ place.slot → ⊥) → held_at now.entries other ≡ held_at part.entries other = λ other apart.
    ap (λ entries. held_at entries other) is.entries ∙ get_or-set_other part.entries place.slot other (Some entry) None apart in
    let same : (other : Place) → 1 ≤ times other state.messages → IsSameAt state.parts parts other = λ other named.
    same-elsewhere state.parts place.client place.slot part now other is.found kept
    (named-apart (λ p. times p state.messages) place.client place.slot other unnamed.messages named) in
    record {
      parts = subst (λ list. (client : ℕ) (one : Part) → slice_get list client ≡ Some one → IsOrderedPart new.tags client one) (sym is.parts)
          (subst (λ tags. (client : ℕ) (one : Part) → slice_get parts client ≡ Some one → IsOrderedPart tags client one) (sym is.tags)
          (part-written (IsOrderedPart state.tags) state.parts place.client part now is.found all.ordered.parts is.ordered));
      messages = subst (λ list. AreRising list new.messages) (sym is.parts) (subst (λ messages. AreRising parts messages) (sym is.messages)
          (rising-more parts place state.messages (added-later state new place part now entry is all same)
          (rising-same state.parts parts state.messages same all.ordered.messages)));
      events = subst (λ list. AreBehind list new.events) (sym is.parts) (subst (λ events. AreBehind parts events) (sym is.events)
          (behind-same state.parts parts state.events
          (λ other named. same-elsewhere state.parts place.client place.slot part now other is.found kept
          (named-apart (λ p. named_in p state.events) place.client place.slot other unnamed.events named)) all.ordered.events));
    }

answered-ordered : (state : Shared) (part : Part) (place : Place) (tag ticket : ℕ) (command : Command) (fault : Option SubmitFault)
    → slice_get state.parts place.client ≡ Some part → place.slot < length part.entries → fault_at part place.slot ticket command ≡ fault → IsMatched state
    → IsOrdered (answered state part place tag ticket command fault).0
answered-ordered state part place tag ticket command None found within is all =
    let turn : IsInTurn (is_some (held_at part.entries place.slot)) part.least_ticket ticket = submit-turn _ part.least_ticket ticket command is in
    added-state state (accepted state part place tag ticket command).0 place part (submitted_part part place.slot ticket command)
    (new_entry ticket command) (record {
      found = found;
      free = not_some (held_at part.entries place.slot) turn.free;
      within = within;
      next = turn.next;
      entries = refl;
      ordered = submitted-ordered place.client part place.slot ticket command within turn.next (all.ordered.parts place.client part found);
      tags = with_streams_rung-tags state (direction_of command.op) tag;
      parts = refl;
      messages = refl;
      events = rung-events state (direction_of command.op) tag;
    }) all
answered-ordered state part place tag ticket command (Some fault) found within is all = all.ordered

submitted_to-ordered : (state : Shared) (place : Place) (tag ticket : ℕ) (command : Command) (one : Option Part) → slice_get state.parts place.client ≡ one
    → place.slot < (task_slot state.tags) → IsMatched state → IsOrdered (submitted_to state place tag ticket command one).0
submitted_to-ordered state place tag ticket command None found within all = all.ordered
submitted_to-ordered state place tag ticket command (Some part) found within all =
    answered-ordered state part place tag ticket command (fault_at part place.slot ticket command) found
    (omega (arith, within, slots-there state place.client part all found, all.tags.most)) refl all

submitted_under-ordered : (state : Shared) (client tag ticket : ℕ) (command : Command) (slot : Option ℕ) → command_slot state.tags (length state.parts) client tag ≡ slot
    → IsMatched state → IsOrdered (submitted_under state client tag ticket command slot).0
submitted_under-ordered state client tag ticket command None is all = all.ordered
submitted_under-ordered state client tag ticket command (Some slot) is all =
    submitted_to-ordered state (record { client = client; slot = slot }) tag ticket command (slice_get state.parts client) refl
    (command_slot-own state.tags (length state.parts) client tag slot is).within all

-- TASK MANAGEMENT

managed_or-ordered : (state : Shared) (part : Part) (client ticket : ℕ) (task : Task) (fault : Option SubmitFault) → slice_get state.parts client ≡ Some part
    → task_fault_at state.tags part (named_slot state.tags (length state.parts) client task) ticket task ≡ fault → IsMatched state
    → IsOrdered
    (managed_or state part (record { client = client; slot = (task_slot state.tags) }) (named_slot state.tags (length state.parts) client task) ticket task fault).0
managed_or-ordered state part client ticket task None found is all =
    let place : Place = record { client = client; slot = (task_slot state.tags) } in
    let named : Option ℕ = named_slot state.tags (length state.parts) client task in
    let turn : IsInTurn (is_some (held_at part.entries (task_slot state.tags))) part.least_ticket ticket = task-turn _ part.least_ticket ticket _ is in
    let within : (task_slot state.tags) < length part.entries = omega (arith, slots-there state client part all found, all.tags.most) in
    added-state state (managed state part place named ticket task).0 place part (managed_part state.tags part named ticket task)
    (new_management ticket task (noted_tickets state.tags part named task)) (record {
      found = found;
      free = not_some (held_at part.entries (task_slot state.tags)) turn.free;
      within = within;
      next = turn.next;
      entries = refl;
      ordered = managed-ordered state.tags (length state.parts) client part ticket task (get-within state.parts client part found) within turn.next
          (all.ordered.parts client part found);
      tags = refl;
      parts = refl;
      messages = refl;
      events = refl;
    }) all
managed_or-ordered state part client ticket task (Some fault) found is all = all.ordered

managed_to-ordered : (state : Shared) (client ticket : ℕ) (task : Task) (one : Option Part) → slice_get state.parts client ≡ one → IsMatched state
    → IsOrdered (managed_to state (record { client = client; slot = (task_slot state.tags) }) (named_slot state.tags (length state.parts) client task) ticket task one).0
managed_to-ordered state client ticket task None found all = all.ordered
managed_to-ordered state client ticket task (Some part) found all =
    managed_or-ordered state part client ticket task (task_fault_at state.tags part (named_slot state.tags (length state.parts) client task) ticket task) found refl all

-- EVERY STEP

due_step-ordered : (state : Shared) (step : Step) → IsMatched state → IsOrdered (due_step state step).0
due_step-ordered state (Submit client tag ticket command) all =
    submitted_under-ordered state client tag ticket command (command_slot state.tags (length state.parts) client tag) refl all
due_step-ordered state (TaskStep client ticket task) all = managed_to-ordered state client ticket task (slice_get state.parts client) refl all
due_step-ordered state CommandPipe all = carry_step-ordered state state.messages refl all
due_step-ordered state (Data tag) all =
    by_tag-ordered state move_act (place_of state.tags (length state.parts) tag) all.ordered (λ place part found. move_act-kept state place part all found)
due_step-ordered state (Status tag) all =
    by_tag-ordered state send_act (place_of state.tags (length state.parts) tag) all.ordered (λ place part found. send_act-kept state place part all found)
due_step-ordered state Engine all = engine_step-ordered state state.retirement all.ordered
due_step-ordered state Event all = event_step-ordered state state.events refl all.ordered
due_step-ordered state (Retire pipe tag) all = retire_step-ordered state pipe (place_of state.tags (length state.parts) tag) all.ordered
due_step-ordered state (Take client) all = take_step-ordered state client all

-- a step keeps the order; one that isn't due changes nothing
pub shared_step-ordered : (state : Shared) (step : Step) → IsMatched state → IsOrdered (shared_step state step).0
shared_step-ordered state step all =
    elim (due state step) as (λ b. IsOrdered (cond b (due_step state step) (state, idle)).0) [
      | true ↦ due_step-ordered state step all
      | false ↦ all.ordered
    ]

-- THE START

pub none-held : (n slot : ℕ) → held_at (replicate n (let none : Option Entry = None in none)) slot ≡ None
none-held zero slot = refl
none-held (suc n) zero = refl
none-held (suc n) (suc slot) = none-held n slot

new-ordered : {tags : ℕ} (client number : ℕ) (unit : BlockMaps) → IsOrderedPart tags client (new_part number unit)
new-ordered {tags} client number unit =
    let free : (slot : ℕ) (entry : Entry) → held_at (new_part number unit).entries slot ≡ Some entry → ⊥ = λ slot entry held.
    none-some entry (sym (none-held MOST_TAGS slot) ∙ held) in
    record {
      tickets = record {
        below = λ slot entry held. absurd (free slot entry held);
        apart = λ one other first second held held_second same. absurd (free one first held);
      };
      received = λ one other first second held held_second received queued. absurd (free one first held);
      noted = λ slot entry held. absurd (free slot entry held);
    }

parts-ordered : {tags : ℕ} (number shift : ℕ) (units : List BlockMaps) (client : ℕ) (part : Part) → slice_get (new_parts number units) client ≡ Some part
    → IsOrderedPart tags (shift + client) part
parts-ordered {tags} number shift [] client part is = absurd (none-some part is)
parts-ordered {tags} number shift (unit ∷ units) zero part is =
    subst (λ (p : Part). IsOrderedPart tags (shift + zero) p) (same_Some (new_part number unit) part is) (new-ordered (shift + zero) number unit)
parts-ordered {tags} number shift (unit ∷ units) (suc client) part is =
    let same : shift + 1 + client ≡ shift + suc client = omega arith in
    subst (λ c. IsOrderedPart tags c part) same (parts-ordered (suc number) (shift + 1) units client part is)

-- at the start nothing stands anywhere, so that all is in order
pub opening-ordered : (tags : ℕ) (units : List BlockMaps) → IsOrdered (opening tags units)
opening-ordered tags units = record {
  parts = λ client part is. let same : 0 + client ≡ client = omega arith in subst (λ c. IsOrderedPart tags c part) same (parts-ordered 0 0 units client part is);
  messages = tt;
  events = tt;
}
