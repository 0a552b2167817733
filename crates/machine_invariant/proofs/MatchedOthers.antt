-- A change of each entry of one client, as a task management makes it where it is received and where its response is seen: where it leaves what is counted of
-- each entry, and each TD goes on, what is matched stays so. Cited by MatchedSteps.
use Rattle.std.proofs.Common.{◌≡◌, ℕ, ◌<◌, true, false, ◌&&◌, List, Option, Some, None, IfSome, option_map, length, length-set}
use Rattle.std.proofs.Common.{refl, arith, ap, sym, subst, ◌∙◌, map}
use Rattle.std.specs.Prelude.{slice_get, slice_set, ◌==◌, if◌then◌else◌}
use Rattle.std.specs.Option.{option_map_or}
use Rattle.std.proofs.lemmas.Bool.{eq-eqb, false≢true, and_parts}
use Rattle.std.proofs.lemmas.List.{length-map}
use Rattle.uas_profile.specs.declared.TheConstants.{MOST_TAGS}
use Rattle.uas_profile.specs.declared.Pipe.{Pipe}
use Rattle.scsi_cmd.specs.Request.{is_command}
use Rattle.scsi_cmd.specs.Held.{held_at}
use Rattle.scsi_cmd.specs.declared.Op.{Op}
use Rattle.scsi_cmd.specs.declared.Request.TheVariants.{Execute}
use Rattle.solo_model.specs.declared.TaskAnswer.TheVariants.{WithStatus, WithResponse}
use Rattle.device_server.specs.declared.Answer.TheVariants.{Good, Check}
use Rattle.solo_model.specs.declared.TaskProgress.{TaskProgress}
use Rattle.solo_model.specs.declared.TaskProgress.TheVariants.{Moving, Ended}
use Rattle.solo_model.specs.TaggedTask.{can_be_ended, can_go, is_noted}
use Rattle.solo_model.specs.declared.Phase.{Phase}
use Rattle.solo_model.specs.declared.Phase.TheVariants.{Queued, Begun, Sent, Gone}
use Rattle.shared_machine.specs.Tests.{is_over, is_pending, is_seen}
use Rattle.uas_profile.specs.declared.Place.{Place}
use Rattle.uas_profile.specs.declared.TdState.TheVariants.{Pending, LeftOver}
use Rattle.shared_machine.specs.declared.Td.{Td}
use Rattle.shared_machine.specs.Td.{Entry, data_trbs, is_awaited, is_data_over, is_ready, left_over_data, left_over_td}
use Rattle.shared_machine.specs.Part.{Part, doomed, is_doomed, noted_entry}
use Rattle.shared_machine.specs.Shared.{Shared}
use Rattle.machine_invariant.specs.Ordered.{is_queued}
use Rattle.shared_machine.specs.Soundness.{one_if, awaited_data, readied_of}
use Rattle.machine_invariant.specs.Matched.{held_in, under, waiting_command, awaited_command, awaited_status, awaited_data_of, readied_in, times_ready, HaveSlots}
use Rattle.machine_invariant.specs.Matched.{IsPhaseOf, IsGivenUp, IsShortTd, IsWholeTd, IsWithinTd, IsDataTd, IsCommandTd, IsStatusTd, IsMatchedAt, IsMatchedEntry}
use Rattle.machine_invariant.proofs.MatchedPlaces.{part-set, IsCounted, same-layout}
use Rattle.machine_invariant.proofs.MatchedTds.{TdGoesOn, TdsGoOn, td-same, td-left, tds-same, tds-on, same-goes}
use Rattle.machine_invariant.proofs.MatchedFlows.{pipes-same, left_of, trb_of, whole_of, HeldGoesOn, goes-on, IsCounted-kept}
use Rattle.machine_invariant.proofs.MatchedEntries.{left-within, check-awaited, check-there, pending-is}
use Rattle.machine_invariant.proofs.MatchedTasks.{asked_op, moving-within}
use Rattle.machine_invariant.proofs.MatchedActs.{times_ready-there, under-there}
use Rattle.machine_invariant.proofs.OrderedEntries.{held-changed}

-- ONE ENTRY

-- an entry that became another one: it waits for as much, and is ready where it was
pub record IsAlike (tags : ℕ) (slot : ℕ) (old new : Entry) : Type 0 where
  pub messages : waiting_command (Some new) ≡ waiting_command (Some old)
  pub carried : awaited_command (Some new) ≡ awaited_command (Some old)
  pub moved : awaited_data_of (Some new) ≡ awaited_data_of (Some old)
  pub sent : awaited_status (Some new) ≡ awaited_status (Some old)
  pub ready : is_ready new ≡ is_ready old
  pub sound : IsMatchedEntry tags slot new
  pub tds : TdsGoOn old new

pub alike-self : {tags : ℕ} (slot : ℕ) (entry : Entry) → IsMatchedEntry tags slot entry → IsAlike tags slot entry entry
alike-self {tags} slot entry sound =
    record { messages = refl; carried = refl; moved = refl; sent = refl; ready = refl; sound = sound; tds = tds-same entry }

-- what stands at a place, so
pub record AreHeldAlike (tags : ℕ) (slot : ℕ) (old new : Option Entry) : Type 0 where
  pub messages : waiting_command new ≡ waiting_command old
  pub carried : awaited_command new ≡ awaited_command old
  pub moved : awaited_data_of new ≡ awaited_data_of old
  pub sent : awaited_status new ≡ awaited_status old
  pub ready : readied_of new ≡ readied_of old
  pub sound : IfSome old (IsMatchedEntry tags slot) → IfSome new (IsMatchedEntry tags slot)
  pub goes : (pipe : Pipe) → HeldGoesOn pipe old new

held_alike-same : {tags : ℕ} (slot : ℕ) (held : Option Entry) → AreHeldAlike tags slot held held
held_alike-same {tags} slot held = record {
  messages = refl;
  carried = refl;
  moved = refl;
  sent = refl;
  ready = refl;
  sound = λ was. was;
  goes = λ pipe. same-goes (left_of pipe held) (trb_of pipe held) (whole_of pipe held);
}

held_alike-changed : {tags : ℕ} (slot : ℕ) (change : Entry → Entry) (held : Option Entry) → ((entry : Entry) → held ≡ Some entry → IsAlike tags slot entry (change entry)) →
    AreHeldAlike tags slot held (option_map change held)
held_alike-changed {tags} slot change None each = held_alike-same slot None
held_alike-changed {tags} slot change (Some entry) each =
    let alike : IsAlike tags slot entry (change entry) = each entry refl in
    record {
      messages = alike.messages;
      carried = alike.carried;
      moved = alike.moved;
      sent = alike.sent;
      ready = ap one_if alike.ready;
      sound = λ was. alike.sound;
      goes = λ pipe. tds-on pipe entry (change entry) alike.tds;
    }

-- EACH ENTRY OF A CLIENT

abbrev pub AreAlike : ℕ → (Entry → Entry) → List (Option Entry) → Type 0
AreAlike tags change entries = (slot : ℕ) (entry : Entry) → held_at entries slot ≡ Some entry → IsAlike tags slot entry (change entry)

abbrev pub changed_part : (Entry → Entry) → Part → Part
changed_part change part = record part { entries = map (option_map change) part.entries }

abbrev pub changed_state : Shared → ℕ → (Entry → Entry) → Part → Shared
changed_state state client change part = record state { parts = slice_set state.parts client (changed_part change part) }

under-alike : (state : Shared) (client : ℕ) (change : Entry → Entry) (part : Part) → slice_get state.parts client ≡ Some part → AreAlike state.tags change part.entries →
    (place : Place) → AreHeldAlike state.tags place.slot (under state.parts place) (under (changed_state state client change part).parts place)
under-alike state client change part there each place =
    part-set (λ found. AreHeldAlike state.tags place.slot (under state.parts place) (option_map_or (held_in place) found None)) state.parts client place.client part
    (changed_part change part) there
    (λ same was. subst (λ held. AreHeldAlike state.tags place.slot (under state.parts place) held) (sym (held-changed change part.entries place.slot))
    (subst (λ held. AreHeldAlike state.tags place.slot held (option_map change (held_at part.entries place.slot)))
    (sym (under-there state.parts place part (held_at part.entries place.slot) (sym (ap (λ c. slice_get state.parts c) same) ∙ there) refl))
    (held_alike-changed place.slot change (held_at part.entries place.slot) (λ entry is. each place.slot entry is))))
    (held_alike-same place.slot (under state.parts place))

ready-alike : (state : Shared) (client : ℕ) (change : Entry → Entry) (part : Part) → slice_get state.parts client ≡ Some part → (place : Place) →
    times_ready (changed_state state client change part).parts place ≡ times_ready state.parts place
ready-alike state client change part there place =
    part-set (λ found. option_map_or (readied_in place) found 0 ≡ times_ready state.parts place) state.parts client place.client part
    (changed_part change part) there
    (λ same was. sym (times_ready-there state.parts place part (sym (ap (λ c. slice_get state.parts c) same) ∙ there)))
    refl

slots-alike : (state : Shared) (client : ℕ) (change : Entry → Entry) (part : Part) → slice_get state.parts client ≡ Some part → HaveSlots state.parts →
    HaveSlots (changed_state state client change part).parts
slots-alike state client change part there slots other =
    part-set (λ found. IfSome found (λ (p : Part). length p.entries ≡ MOST_TAGS)) state.parts client other part (changed_part change part) there
    (λ same was. length-map part.entries (option_map change)
    ∙ subst (λ found. IfSome found (λ (p : Part). length p.entries ≡ MOST_TAGS)) there (slots client))
    (slots other)

pub alike-counted : (state : Shared) (client : ℕ) (change : Entry → Entry) (part : Part) → slice_get state.parts client ≡ Some part
    → AreAlike state.tags change part.entries → IsCounted state → IsCounted (changed_state state client change part)
alike-counted state client change part there each all =
    let now : Shared = changed_state state client change part in
    let alike : (place : Place) → AreHeldAlike state.tags place.slot (under state.parts place) (under now.parts place) = under-alike state client change part there each in
    IsCounted-kept state now
    (goes-on state now (same-layout state now refl (length-set state.parts client (changed_part change part))) refl (pipes-same state now refl refl refl)
    (λ pipe place. (alike place).goes pipe))
    (record {
      tags = all.matched.tags;
      slots = slots-alike state client change part there all.matched.slots;
      places = λ place. let was : IsMatchedAt state place (under state.parts place) = all.matched.places place in
          record {
            messages = was.messages ∙ sym (alike place).messages;
            carried = was.carried ∙ sym (alike place).carried;
            moved = was.moved ∙ sym (alike place).moved;
            sent = was.sent ∙ sym (alike place).sent;
            ready = ready-alike state client change part there place ∙ was.ready ∙ sym (alike place).ready;
            sound = (alike place).sound was.sound;
          };
    }) refl all

-- A TASK MANAGEMENT IS RECEIVED: a command that it noted is gone, unless its answer was handed over

whole-within : (trbs : ℕ) (td : Option Td) → IsWholeTd trbs td → IsWithinTd trbs td
whole-within trbs None is = tt
whole-within trbs (Some td) is = omega (arith, is)

begun-within : (trbs : ℕ) (progress : TaskProgress) (td : Option Td) → IsDataTd trbs (Begun progress) td → IsWithinTd trbs td
begun-within trbs (Moving chunk) td is = moving-within trbs chunk td is
begun-within trbs (Ended (WithStatus Good)) td is = whole-within trbs td is
begun-within trbs (Ended (WithStatus (Check sense))) td is = is.1
begun-within trbs (Ended (WithResponse code)) td is = whole-within trbs td is

-- the TDs of one that was received are those of one that is gone
pub record AreGone (trbs : ℕ) (command_td status_td : Td) (data_td : Option Td) : Type 0 where
  pub command : command_td.consumed ≡ 1
  pub status : IsGivenUp status_td.consumed status_td.state
  pub chunks : IsWithinTd trbs data_td

begun-gone : (trbs : ℕ) (phase : Phase) (command_td status_td : Td) (data_td : Option Td) → is_queued phase ≡ false → can_go phase ≡ true →
    IsCommandTd phase command_td → IsStatusTd phase status_td → IsDataTd trbs phase data_td → AreGone trbs command_td status_td data_td
begun-gone trbs Queued command_td status_td data_td received can command status chunks = absurd (false≢true (sym received))
begun-gone trbs (Begun progress) command_td status_td data_td received can command status chunks = record {
  command = command;
  status = subst (λ (td : Td). IsGivenUp td.consumed td.state) (sym status) refl;
  chunks = begun-within trbs progress data_td chunks;
}
begun-gone trbs (Sent answer) command_td status_td data_td received can command status chunks = absurd (false≢true can)
begun-gone trbs Gone command_td status_td data_td received can command status chunks = absurd (false≢true can)

-- the entry of a command that is gone
abbrev gone_entry : Entry → Entry
gone_entry entry = record entry { task = record entry.task { phase = Gone } }

gone-alike : {tags : ℕ} (slot : ℕ) (entry : Entry) → is_command entry.task.request ≡ true → is_queued entry.task.phase ≡ false → can_go entry.task.phase ≡ true →
    IsMatchedEntry tags slot entry → IsAlike tags slot entry (gone_entry entry)
gone-alike {tags} slot entry command received can sound =
    let asks : (op : Op) × (entry.task.request ≡ Execute op) = asked_op entry.task.request command in
    let tds : AreGone (data_trbs entry.task.request) entry.command_td entry.status_td entry.data_td =
    begun-gone (data_trbs entry.task.request) entry.task.phase entry.command_td entry.status_td entry.data_td received can sound.command sound.status
    sound.chunks in
    record {
      messages = refl;
      carried = refl;
      moved = refl;
      sent = refl;
      ready = refl;
      sound = record {
        asks = sound.asks;
        answers = subst (λ r. IsPhaseOf r Gone) (sym asks.1) tt;
        command = tds.command;
        status = tds.status;
        chunks = tds.chunks;
        moves = sound.moves;
        small = sound.small;
      };
      tds = record { request = refl; status = td-same 1 (Some entry.status_td); data_tds = td-same (data_trbs entry.task.request) entry.data_td };
    }

pub noted-alike : {tags : ℕ} (noted : List ℕ) (slot : ℕ) (entry : Entry) →
    (is_command entry.task.request ≡ true → is_noted noted entry.task.ticket ≡ true → is_queued entry.task.phase ≡ false) → IsMatchedEntry tags slot entry →
    IsAlike tags slot entry (noted_entry noted entry)
noted-alike {tags} noted slot entry received sound =
    elim (can_be_ended entry.task && is_noted noted entry.task.ticket) as (λ b. (can_be_ended entry.task && is_noted noted entry.task.ticket) ≡ b →
    IsAlike tags slot entry (record entry { task = if b then record entry.task { phase = Gone } else entry.task })) [
      | true ↦ λ is.
          let first = and_parts (can_be_ended entry.task) (is_noted noted entry.task.ticket) is in
          let command = and_parts (is_command entry.task.request) (can_go entry.task.phase) first.0 in
          gone-alike slot entry command.0 (received command.0 first.1) command.1 sound
      | false ↦ λ is. alike-self slot entry sound
    ] refl

-- THE RESPONSE IS SEEN: a command that it noted and whose status is awaited is left over

-- a TD of which no event waits, and no more TRBs were taken than there are
unawaited-short : (trbs : ℕ) (td : Option Td) → IsWithinTd trbs td → awaited_data trbs td ≡ 0 → IsShortTd trbs td
unawaited-short trbs None within none = tt
unawaited-short trbs (Some td) within none = λ pends. less (λ same. one_apart (ap one_if (both pends same)))
  where
    less : (td.consumed ≡ trbs → ⊥) → td.consumed < trbs
    less apart = omega (arith, within, apart)

    both : is_pending td.state ≡ true → td.consumed ≡ trbs → is_awaited td trbs ≡ true
    both pends same = ap (λ b. b && (td.consumed == trbs)) pends ∙ eq-eqb td.consumed trbs same

    one_apart : one_if (is_awaited td trbs) ≡ 1 → ⊥
    one_apart one = omega (arith, one, none)

-- a pending TD is left over
left-is : (td : Td) → td.state ≡ Pending → left_over_td td ≡ record td { state = LeftOver }
left-is td pends = ap (λ b. if b then record td { state = LeftOver } else td) (ap (λ state. is_pending state) pends)

left-goes : (trbs : ℕ) (td : Option Td) → IsShortTd trbs td → TdGoesOn trbs td (left_over_data td)
left-goes trbs None short = td-same trbs None
left-goes trbs (Some td) short = td-left trbs td short

-- the entry of a command that is doomed
abbrev left_entry : Entry → Entry
left_entry entry = record entry { status_td = left_over_td entry.status_td; data_td = left_over_data entry.data_td }

left-alike : {tags : ℕ} (slot : ℕ) (entry : Entry) → entry.task.phase ≡ Gone → is_pending entry.status_td.state ≡ true → awaited_data_of (Some entry) ≡ 0 →
    IsMatchedEntry tags slot entry → IsAlike tags slot entry (left_entry entry)
left-alike {tags} slot entry gone pending none sound =
    let trbs : ℕ = data_trbs entry.task.request in
    let pends : entry.status_td.state ≡ Pending = pending-is entry.status_td.state pending in
    let left : left_over_td entry.status_td ≡ record entry.status_td { state = LeftOver } = left-is entry.status_td pends in
    let given_up : IsGivenUp entry.status_td.consumed entry.status_td.state = subst (λ p. IsStatusTd p entry.status_td) gone sound.status in
    let untaken : entry.status_td.consumed ≡ 0 = subst (λ state. IsGivenUp entry.status_td.consumed state) pends given_up in
    let status : IsShortTd 1 (Some entry.status_td) = λ so. omega (arith, untaken) in
    let within : IsWithinTd trbs entry.data_td = subst (λ p. IsDataTd trbs p entry.data_td) gone sound.chunks in
    let short : IsShortTd trbs entry.data_td = unawaited-short trbs entry.data_td within none in
    let now_over : is_over (left_over_td entry.status_td).state ≡ false = ap (λ (td : Td). is_over td.state) left in
    let was_over : is_over entry.status_td.state ≡ false = ap (λ state. is_over state) pends in
    record {
      messages = refl;
      carried = refl;
      moved = check-awaited trbs entry.data_td short;
      sent = check-awaited 1 (Some entry.status_td) status;
      ready = ap (λ over. is_seen entry.command_td.state && (over && is_data_over (left_over_data entry.data_td))) now_over
          ∙ sym (ap (λ over. is_seen entry.command_td.state && (over && is_data_over entry.data_td)) was_over);
      sound = record {
        asks = sound.asks;
        answers = sound.answers;
        command = sound.command;
        status = subst (λ p. IsStatusTd p (left_over_td entry.status_td)) (sym gone)
            (subst (λ (td : Td). IsGivenUp td.consumed td.state) (sym left) tt);
        chunks = subst (λ p. IsDataTd trbs p (left_over_data entry.data_td)) (sym gone) (left-within trbs entry.data_td within);
        moves = check-there entry.data_td ∙ sound.moves;
        small = sound.small;
      };
      tds = record { request = refl; status = td-left 1 entry.status_td status; data_tds = left-goes trbs entry.data_td short };
    }

-- what is so of each command that it noted and whose status is awaited, as the response is seen
pub record IsGivenUpEntry (entry : Entry) : Type 0 where
  pub gone : entry.task.phase ≡ Gone
  pub unawaited : awaited_data_of (Some entry) ≡ 0

pub doomed-alike : {tags : ℕ} (noted : List ℕ) (slot : ℕ) (entry : Entry) →
    (is_command entry.task.request ≡ true → is_noted noted entry.task.ticket ≡ true → is_pending entry.status_td.state ≡ true → IsGivenUpEntry entry) →
    IsMatchedEntry tags slot entry → IsAlike tags slot entry (doomed noted entry)
doomed-alike {tags} noted slot entry over sound =
    elim (is_doomed noted entry) as (λ b. is_doomed noted entry ≡ b → IsAlike tags slot entry (if b then left_entry entry else entry)) [
      | true ↦ λ is.
          let first = and_parts (is_command entry.task.request) (is_pending entry.status_td.state && is_noted noted entry.task.ticket) is in
          let rest = and_parts (is_pending entry.status_td.state) (is_noted noted entry.task.ticket) first.1 in
          let given : IsGivenUpEntry entry = over first.0 rest.1 rest.0 in
          left-alike slot entry given.gone rest.0 given.unawaited sound
      | false ↦ λ is. alike-self slot entry sound
    ] refl
