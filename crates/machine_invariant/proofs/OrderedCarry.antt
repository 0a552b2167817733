-- As the device receives a request, its client's part keeps its order facts: the first message is of the earliest request that is queued, and what a task
-- management noted is done with from then on. Cited by Ordered.
use Rattle.std.proofs.Common.{◌≡◌, ℕ, ◌<◌, Bool, true, false, cond, List, ◌∷◌, Option, Some, None, option_map, refl, arith, ap, sym, subst, ◌∙◌}
use Rattle.std.specs.Prelude.{◌==◌, ◌&&◌, slice_get, slice_set}
use Rattle.std.proofs.lemmas.Bool.{and_parts, eqb-true, eqb-false, false≢true}
use Rattle.std.proofs.lemmas.List.{get_or-set_other}
use Rattle.std.proofs.lemmas.Option.{none-some, same_Some}
use Rattle.arrayvec.specs.ArrayVec.{ArrayVec}
use Rattle.block_unit.specs.BlockMaps.{BlockMaps}
use Rattle.scsi_cmd.specs.Request.{ended_by, is_command}
use Rattle.scsi_cmd.specs.Held.{held_at}
use Rattle.scsi_cmd.specs.declared.Request.{Request}
use Rattle.scsi_cmd.specs.declared.Request.TheVariants.{Execute, Manage}
use Rattle.scsi_cmd.specs.declared.Task.{Task}
use Rattle.uas_profile.specs.Tags.{task_slot}
use Rattle.solo_model.specs.TaggedTask.{TaggedTask, can_be_ended, can_go, carried, carried_from, carried_request, finds, is_noted}
use Rattle.solo_model.specs.declared.Phase.{Phase}
use Rattle.solo_model.specs.declared.Phase.TheVariants.{Queued, Begun, Sent, Gone}
use Rattle.uas_profile.specs.declared.Place.{Place}
use Rattle.shared_machine.specs.Td.{Entry, with_trb_taken}
use Rattle.shared_machine.specs.Part.{Part, carried_entry, carried_slot, carry_act, entries_after, noted_entry, tasks_in}
use Rattle.shared_machine.specs.Shared.{Shared}
use Rattle.machine_invariant.specs.Ordered.{is_queued, under}
use Rattle.machine_invariant.specs.Matched.{IsMatched, IsRequestIn}
use Rattle.machine_invariant.proofs.OrderedActs.{IsKeptBy, nothing-kept}
use Rattle.machine_invariant.proofs.OrderedEntries.{AreNext, AreNext-changed, AreNext-written, IsNext-self, IsOnward, IsOnward-self, IsOnward-then, held-changed}
use Rattle.machine_invariant.proofs.OrderedManaged.{here, message-first, noted-as_received, of_client}
use Rattle.machine_invariant.proofs.OrderedMessages.{under-there}
use Rattle.machine_invariant.proofs.OrderedParts.{ended-noted, IsNewlyReceived, IsReceivedFirst, onward-ordered}

-- THE REQUEST THAT IS RECEIVED

-- a task that was queued, and is received
record IsReceivedAs (was now : TaggedTask) : Type 0 where
  ticket : now.ticket ≡ was.ticket
  request : now.request ≡ was.request
  goes : can_go was.phase ≡ true
  received : is_queued now.phase ≡ false

received-as : (unit : BlockMaps) (found : Bool) (task : TaggedTask) (phase : Phase) (after : BlockMaps × TaggedTask) → task.phase ≡ phase
    → carried_from unit found task phase ≡ Some after
    → IsReceivedAs task after.1
received-as unit found task Queued after at is =
    let same : carried_request unit found task task.request ≡ after = same_Some (carried_request unit found task task.request) after is in record {
      ticket = ap (λ (a : BlockMaps × TaggedTask). a.1.ticket) (sym same);
      request = ap (λ (a : BlockMaps × TaggedTask). a.1.request) (sym same);
      goes = ap (λ p. can_go p) at;
      received = ap (λ (a : BlockMaps × TaggedTask). is_queued a.1.phase) (sym same);
    }
received-as unit found task (Begun progress) after at is = absurd (none-some after is)
received-as unit found task (Sent answer) after at is = absurd (none-some after is)
received-as unit found task Gone after at is = absurd (none-some after is)

received-onward : (was now : Entry) → IsReceivedAs was.task now.task → IsOnward was now
received-onward was now it = record {
  ticket = it.ticket;
  request = it.request;
  received = λ is. it.received;
  ended = λ is. absurd (false≢true (sym is ∙ it.goes));
}

-- WHAT IT ENDS

-- an entry that a task management may end
noted-onward : (noted : List ℕ) (entry : Entry) → IsOnward entry (noted_entry noted entry)
noted-onward noted entry =
    elim (can_be_ended entry.task && is_noted noted entry.task.ticket) as (λ b.
    IsOnward entry (record entry { task = cond b (record entry.task { phase = Gone }) entry.task })) [
      | true ↦ record { ticket = refl; request = refl; received = λ is. refl; ended = λ is. refl }
      | false ↦ IsOnward-self entry
    ]

after-onward : (request : Request) (entries : List (Option Entry)) → AreNext IsOnward entries (entries_after request entries)
after-onward (Execute op) entries slot = IsNext-self IsOnward IsOnward-self (held_at entries slot)
after-onward (Manage what noted) entries slot =
    AreNext-changed IsOnward (noted_entry (ended_by what noted).items) entries entries
    (λ was now onward. IsOnward-then was now (noted_entry (ended_by what noted).items now) onward (noted-onward (ended_by what noted).items now))
    (λ at. IsNext-self IsOnward IsOnward-self (held_at entries at)) slot

-- one that it ended was a command which it noted
going-noted : (noted : List ℕ) (entry : Entry) → is_queued entry.task.phase ≡ true → is_queued (noted_entry noted entry).task.phase ≡ false
    → (is_command entry.task.request ≡ true) × (is_noted noted entry.task.ticket ≡ true)
going-noted noted entry queued received =
    elim (can_be_ended entry.task && is_noted noted entry.task.ticket) as (λ b.
    (can_be_ended entry.task && is_noted noted entry.task.ticket) ≡ b → is_queued (cond b (record entry.task { phase = Gone }) entry.task).phase ≡ false
    → (is_command entry.task.request ≡ true) × (is_noted noted entry.task.ticket ≡ true)) [
      | true ↦ λ is over.
          let both = and_parts (can_be_ended entry.task) (is_noted noted entry.task.ticket) is in
          ((and_parts (is_command entry.task.request) (can_go entry.task.phase) both.0).0, both.1)
      | false ↦ λ is over. absurd (false≢true (sym over ∙ queued))
    ] refl received

-- a command that it noted is done with
noted-done : (noted : List ℕ) (entry : Entry) → is_command entry.task.request ≡ true → is_noted noted entry.task.ticket ≡ true
    → can_go (noted_entry noted entry).task.phase ≡ false
noted-done noted entry command noted_is =
    elim (can_go entry.task.phase) as (λ goes. can_go entry.task.phase ≡ goes → can_go (noted_entry noted entry).task.phase ≡ false) [
      | true ↦ λ is.
          let all : (can_be_ended entry.task && is_noted noted entry.task.ticket) ≡ true = rw (command, is, noted_is) refl in
          ap (λ b. can_go (cond b (record entry.task { phase = Gone }) entry.task).phase) all
      | false ↦ λ is. (noted-onward noted entry).ended is
    ] refl

-- a request of a command slot is a command
slot-command : (tags : ℕ) (slot : ℕ) (request : Request) → IsRequestIn tags slot request → slot < (task_slot tags) → is_command request ≡ true
slot-command tags slot (Execute op) is within = refl
slot-command tags slot (Manage what noted) is within = absurd (omega (arith, is, within))

command-slot : (tags : ℕ) (slot : ℕ) (request : Request) → IsRequestIn tags slot request → is_command request ≡ true → slot < (task_slot tags)
command-slot tags slot (Execute op) is command = is
command-slot tags slot (Manage what noted) is command = absurd (false≢true command)

-- THE STEP

-- the client's part as it was, and its request that the first message is of
record IsFirst (state : Shared) (place : Place) (rest : List Place) (part : Part) (entry : Entry) : Type 0 where
  all : IsMatched state
  messages : state.messages ≡ place ∷ rest
  there : slice_get state.parts place.client ≡ Some part
  held : held_at part.entries place.slot ≡ Some entry

-- what stands in another slot
other-under : (state : Shared) (place : Place) (rest : List Place) (part : Part) (first : Entry) (slot : ℕ) (entry : Entry)
    → IsFirst state place rest part first
    → held_at part.entries slot ≡ Some entry → under state.parts (of_client place slot) ≡ Some entry
other-under state place rest part first slot entry is held = under-there state.parts (of_client place slot) part is.there ∙ held

-- nothing else is received by the step
other-queued : (state : Shared) (place : Place) (rest : List Place) (part : Part) (first : Entry) (request : Request) (slot : ℕ) (was now : Entry)
    → IsFirst state place rest part first → first.task.request ≡ request → held_at part.entries slot ≡ Some was
    → held_at (entries_after request part.entries) slot ≡ Some now → is_queued was.task.phase ≡ true → is_queued now.task.phase ≡ false → ⊥
other-queued state place rest part first (Execute op) slot was now is asks held held_now queued received =
    false≢true (sym received ∙ ap (λ (e : Entry). is_queued e.task.phase) (same_Some now was (sym held_now ∙ held)) ∙ queued)
other-queued state place rest part first (Manage what noted) slot was now is asks held held_now queued received =
    let ended_tickets : List ℕ = (ended_by what noted).items in
    let after : now ≡ noted_entry (ended_by what noted).items was = same_Some now (noted_entry ended_tickets was)
    (sym held_now ∙ held-changed (noted_entry ended_tickets) part.entries slot ∙ ap (option_map (noted_entry ended_tickets)) held) in
    let ended = going-noted ended_tickets was queued (ap (λ (e : Entry). is_queued e.task.phase) (sym after) ∙ received) in
    let found = other-under state place rest part first slot was is held in
    let sound = (here state (of_client place slot) was is.all found).sound in
    let right = noted-as_received state place rest first what noted is.all is.messages (under-there state.parts place part is.there ∙ is.held) asks slot was
    (command-slot _ slot was.task.request sound.asks ended.0) found in
    false≢true (sym (right.received (ended-noted what noted was.task.ticket ended.1)) ∙ queued)

-- what stands in a slot other than the one that is written
other-there : (entries : List (Option Entry)) (slot other : ℕ) (now entry : Entry) → (other ≡ slot → ⊥)
    → held_at (slice_set entries slot (Some now)) other ≡ Some entry → held_at entries other ≡ Some entry
other-there entries slot other now entry apart is = sym (get_or-set_other entries slot other (Some now) None apart) ∙ is

-- the part once the request was received
abbrev received_part : Part → ℕ → Entry → BlockMaps → Entry → Part
received_part part slot entry unit now =
    record part { unit = unit; entries = slice_set (entries_after entry.task.request part.entries) slot (Some now) }

newly-first : (state : Shared) (place : Place) (rest : List Place) (part : Part) (entry : Entry) (unit : BlockMaps) (now : Entry) (slot : ℕ) (was is : Entry)
    → IsFirst state place rest part entry → IsNewlyReceived part (received_part part place.slot entry unit now) slot was is → slot ≡ place.slot
newly-first state place rest part entry unit now slot was is first newly =
    elim (slot == place.slot) as (λ b. (slot == place.slot) ≡ b → slot ≡ place.slot) [
      | true ↦ λ at. eqb-true slot place.slot at
      | false ↦ λ at. absurd (other-queued state place rest part entry entry.task.request slot was is first refl newly.before
          (other-there (entries_after entry.task.request part.entries) place.slot slot now is (eqb-false slot place.slot at) newly.after)
          newly.was_queued newly.is_received)
    ] refl

-- what the management noted is done with
done-with : (state : Shared) (place : Place) (rest : List Place) (part : Part) (entry : Entry) (request : Request) (what : Task) (noted : ArrayVec ℕ)
    (other : ℕ) (one : Entry) → IsFirst state place rest part entry → request ≡ Manage what noted → other < (task_slot state.tags)
    → held_at (entries_after request part.entries) other ≡ Some one → is_noted (ended_by what noted).items one.task.ticket ≡ true
    → can_go one.task.phase ≡ false
done-with state place rest part entry request what noted other one first asks within held noted_is =
    changed (held_at part.entries other) refl (sym (held-changed (noted_entry (ended_by what noted).items) part.entries other)
    ∙ sym (ap (λ (r : Request). held_at (entries_after r part.entries) other) asks) ∙ held)
  where
    changed : (found : Option Entry) → held_at part.entries other ≡ found → option_map (noted_entry (ended_by what noted).items) found ≡ Some one
        → can_go one.task.phase ≡ false
    changed None at is = absurd (none-some one is)
    changed (Some was) at is =
        let ended : List ℕ = (ended_by what noted).items in
        let same : noted_entry (ended_by what noted).items was ≡ one = same_Some (noted_entry ended was) one is in
        let sound = (here state (of_client place other) was first.all (other-under state place rest part entry other was first at)).sound in
        let ticket : was.task.ticket ≡ one.task.ticket = sym (noted-onward ended was).ticket ∙ ap (λ (e : Entry). e.task.ticket) same in
        ap (λ (e : Entry). can_go e.task.phase) (sym same)
        ∙ noted-done ended was (slot-command _ other was.task.request sound.asks within) (ap (λ t. is_noted (ended_by what noted).items t) ticket ∙ noted_is)

received-first : (state : Shared) (place : Place) (rest : List Place) (part : Part) (entry : Entry) (unit : BlockMaps) (now : Entry)
    → IsFirst state place rest part entry → IsReceivedFirst state.tags part (received_part part place.slot entry unit now)
received-first state place rest part entry unit now is = record {
  first = λ slot other was after second newly held queued apart.
      let at : slot ≡ place.slot = newly-first state place rest part entry unit now slot was after is newly in
      let same : was ≡ entry = same_Some was entry (sym newly.before ∙ ap (λ s. held_at part.entries s) at ∙ is.held) in
      let less : entry.task.ticket < second.task.ticket =
      message-first state place rest entry (of_client place other) second is.all is.messages (under-there state.parts place part is.there ∙ is.held)
      (other-under state place rest part entry other second is held) queued refl (λ there. apart (sym there ∙ sym at)) in
      omega (arith, less, ap (λ (e : Entry). e.task.ticket) same);
  done = λ slot was after what noted newly asks other one within held noted_is.
      let at : slot ≡ place.slot = newly-first state place rest part entry unit now slot was after is newly in
      let same : was ≡ entry = same_Some was entry (sym newly.before ∙ ap (λ s. held_at part.entries s) at ∙ is.held) in
      let request : entry.task.request ≡ Manage what noted = ap (λ (e : Entry). e.task.request) (sym same) ∙ asks in
      let last : place.slot ≡ (task_slot state.tags) = subst (λ r. IsRequestIn state.tags place.slot r) request
      (here state place entry is.all (under-there state.parts place part is.there ∙ is.held)).sound.asks in
      done-with state place rest part entry entry.task.request what noted other one is request within
      (other-there (entries_after entry.task.request part.entries) place.slot other now one (λ there. omega (arith, there, last, within)) held) noted_is;
}

carried-kept : (state : Shared) (place : Place) (rest : List Place) (part : Part) (entry : Entry) (after : Option (BlockMaps × TaggedTask))
    → IsFirst state place rest part entry
    → carried part.unit (finds entry.task.request (tasks_in part.entries)) entry.task ≡ after
    → IsKeptBy (record state { messages = rest }) place.client part (carried_entry part place.slot place entry after)
carried-kept state place rest part entry None is begun =
    nothing-kept (record state { messages = rest }) place.client part (is.all.ordered.parts place.client part is.there)
carried-kept state place rest part entry (Some after) is begun =
    let now : Entry = record entry { task = after.1; command_td = with_trb_taken entry.command_td } in
    let each = AreNext-written IsOnward part.entries (entries_after entry.task.request part.entries) place.slot entry now is.held
    (received-onward entry now (received-as part.unit (finds entry.task.request (tasks_in part.entries)) entry.task entry.task.phase after refl begun)) (after-onward entry.task.request part.entries) in
    record {
      onward = each;
      ordered = onward-ordered place.client part (received_part part place.slot entry after.0 now) refl each
          (received-first state place rest part entry after.0 now is) (is.all.ordered.parts place.client part is.there);
      notice = λ other named. tt;
    }

carry_slot-kept : (state : Shared) (place : Place) (rest : List Place) (part : Part) (held : Option Entry) → IsMatched state → state.messages ≡ place ∷ rest
    → slice_get state.parts place.client ≡ Some part → held_at part.entries place.slot ≡ held
    → IsKeptBy (record state { messages = rest }) place.client part (carried_slot part place.slot place held)
carry_slot-kept state place rest part None all is there held =
    nothing-kept (record state { messages = rest }) place.client part (all.ordered.parts place.client part there)
carry_slot-kept state place rest part (Some entry) all is there held =
    carried-kept state place rest part entry (carried part.unit (finds entry.task.request (tasks_in part.entries)) entry.task) (record { all = all; messages = is; there = there; held = held }) refl

-- the device receives the request that the first message is of
pub carry_act-kept : (state : Shared) (place : Place) (rest : List Place) (part : Part) → IsMatched state → state.messages ≡ place ∷ rest
    → slice_get state.parts place.client ≡ Some part → IsKeptBy (record state { messages = rest }) place.client part (carry_act place part)
carry_act-kept state place rest part all is there = carry_slot-kept state place rest part (held_at part.entries place.slot) all is there refl
