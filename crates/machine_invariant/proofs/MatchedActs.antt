-- A step of the device at one place, and an event at one: what is counted stays matched, and so does everything where the retirement isn't touched.
-- Cited by MatchedSteps and MatchedEngine.
use Rattle.std.proofs.Common.{◌≡◌, ℕ, ◌+◌, Bool, true, false, cond, List, [], ◌∷◌, ◌++◌, length, Option, Some, None, refl, arith, ap, sym, subst, ◌∙◌}
use Rattle.std.specs.Prelude.{slice_get, slice_set}
use Rattle.std.specs.Option.{option_map_or}
use Rattle.std.proofs.lemmas.Bool.{false≢true}
use Rattle.std.proofs.lemmas.List.{append-nil}
use Rattle.block_unit.specs.BlockMaps.{BlockMaps}
use Rattle.scsi_cmd.specs.Held.{held_at}
use Rattle.uas_profile.specs.declared.Place.{Place}
use Rattle.uas_profile.specs.Tags.{place_of}
use Rattle.shared_machine.specs.declared.Completion.{Completion}
use Rattle.shared_machine.specs.declared.Completion.TheVariants.{CommandDone, DataDone, StatusDone, EngineDone}
use Rattle.shared_machine.specs.Td.{Entry, is_ready}
use Rattle.shared_machine.specs.Part.{Part, with_entry, event_place, ready_after}
use Rattle.shared_machine.specs.Shared.{Shared, entry_fact, part_fact, place_fact}
use Rattle.shared_machine.specs.Soundness.{one_if, times_in}
use Rattle.machine_invariant.specs.Matched.{same_place, times, held_in, under, command_events, data_events, status_events, readied_in, times_ready, IsMatchedAt}
use Rattle.machine_invariant.specs.Matched.{IsMatched, retired_places, is_td_event}
use Rattle.machine_invariant.proofs.MatchedPlaces.{one_equal, one_apart, times_in-push, command_events-append, data_events-append, status_events-append, times-append}
use Rattle.machine_invariant.proofs.MatchedPlaces.{IsFound, under-found, held-within, IsWritten, times_ready-written, AreMatched-written, retired_places-append}
use Rattle.machine_invariant.proofs.MatchedPlaces.{clients-written, AreMatched, IsCounted}
use Rattle.machine_invariant.proofs.MatchedEntries.{IsSeenAs, IsCountedOut}
use Rattle.machine_invariant.proofs.MatchedTasks.{IsStepped}
use Rattle.machine_invariant.proofs.MatchedTds.{TdsGoOn, tds-on}
use Rattle.machine_invariant.proofs.MatchedFlows.{pipes-same, HeldGoesOn, written-goes, goes-on, IsCounted-kept}

-- A MATCHED PLACE

-- what stands there, its part and how it is matched
pub record IsHeld (state : Shared) (place : Place) (entry : Entry) : Type 0 where
  pub found : IsFound state.parts place entry
  pub here : IsMatchedAt state place (Some entry)

pub matched-held : (state : Shared) (place : Place) (entry : Entry) → IsMatched state → under state.parts place ≡ Some entry → IsHeld state place entry
matched-held state place entry all is = record {
  found = under-found state.parts place entry is;
  here = subst (λ held. IsMatchedAt state place held) is (all.places place);
}

-- of a client that is there the queue of ready slots tells how often a place is ready
pub times_ready-there : (parts : List Part) (place : Place) (part : Part) → slice_get parts place.client ≡ Some part
    → times_ready parts place ≡ times_in place.slot part.ready
times_ready-there parts place part there = ap (λ found. option_map_or (readied_in place) found 0) there

-- A STEP OF THE DEVICE AT A PLACE

-- what was popped and posted names this place alone
pub record NamesAlone (place : Place) (popped : List Place) (posted : List Completion) : Type 0 where
  pub messages : (other : Place) → same_place place other ≡ false → times other popped ≡ 0
  pub carried : (other : Place) → same_place place other ≡ false → command_events other posted ≡ 0
  pub moved : (other : Place) → same_place place other ≡ false → data_events other posted ≡ 0
  pub sent : (other : Place) → same_place place other ≡ false → status_events other posted ≡ 0

-- the state after a step of the device
abbrev pub acted_state : Shared → Place → Part → BlockMaps → Entry → List Place → List Completion → Shared
acted_state state place part unit entry rest posted = record state {
  parts = slice_set state.parts place.client (with_entry (record part { unit = unit }) place.slot entry);
  messages = rest;
  events = state.events ++ posted;
}

pub acted-written : (state : Shared) (place : Place) (part : Part) (unit : BlockMaps) (old new : Entry) (popped rest : List Place) (posted : List Completion) →
    slice_get state.parts place.client ≡ Some part → held_at part.entries place.slot ≡ Some old → state.messages ≡ popped ++ rest
    → NamesAlone place popped posted →
    IsWritten state (acted_state state place part unit new rest posted) place (Some new)
acted-written state place part unit old new popped rest posted there held pops alone = record {
  part = part;
  now = with_entry (record part { unit = unit }) place.slot new;
  there = there;
  within = held-within part.entries place.slot old held;
  tags = refl;
  parts = refl;
  entries = refl;
  queue = λ slot apart. refl;
  others = λ other apart. record {
    messages = omega (arith, ap (times other) pops, times-append other popped rest, alone.messages other apart);
    carried = omega (arith, command_events-append other state.events posted, alone.carried other apart);
    moved = omega (arith, data_events-append other state.events posted, alone.moved other apart);
    sent = omega (arith, status_events-append other state.events posted, alone.sent other apart);
  };
}

pub acted-counted : (state : Shared) (place : Place) (part : Part) (unit : BlockMaps) (old new : Entry) (popped rest : List Place) (posted : List Completion) →
    slice_get state.parts place.client ≡ Some part → held_at part.entries place.slot ≡ Some old → state.messages ≡ popped ++ rest
    → NamesAlone place popped posted →
    IsStepped state.tags place popped posted old new → IsMatchedAt state place (Some old) → AreMatched state
    → AreMatched (acted_state state place part unit new rest posted)
unfolding acted-written
acted-counted state place part unit old new popped rest posted there held pops alone step here all =
    let written = acted-written state place part unit old new popped rest posted there held pops alone in
    AreMatched-written state (acted_state state place part unit new rest posted) place (Some new) written (record {
      messages = omega (arith, ap (times place) pops, times-append place popped rest, step.messages, here.messages);
      carried = omega (arith, command_events-append place state.events posted, step.carried, here.carried);
      moved = omega (arith, data_events-append place state.events posted, step.moved, here.moved);
      sent = omega (arith, status_events-append place state.events posted, step.sent, here.sent);
      ready = times_ready-written state (acted_state state place part unit new rest posted) place (Some new) written
          ∙ sym (times_ready-there state.parts place part there) ∙ here.ready ∙ ap one_if (sym step.ready);
      sound = step.sound;
    }) all

-- what stands at a place of a client that is there
pub under-there : (parts : List Part) (place : Place) (part : Part) (held : Option Entry) → slice_get parts place.client ≡ Some part →
    held_at part.entries place.slot ≡ held → under parts place ≡ held
under-there parts place part held there is = ap (λ found. option_map_or (held_in place) found None) there ∙ is

-- the same, where its TDs go on and the controller executed no command of its own
pub acted-matched : (state : Shared) (place : Place) (part : Part) (unit : BlockMaps) (old new : Entry) (popped rest : List Place) (posted : List Completion) →
    slice_get state.parts place.client ≡ Some part → held_at part.entries place.slot ≡ Some old → state.messages ≡ popped ++ rest
    → NamesAlone place popped posted → retired_places posted ≡ [] → TdsGoOn old new →
    IsStepped state.tags place popped posted old new → IsMatchedAt state place (Some old) → IsCounted state → IsCounted (acted_state state place part unit new rest posted)
acted-matched state place part unit old new popped rest posted there held pops alone none tds step here all =
    let now : Shared = acted_state state place part unit new rest posted in
    let written = acted-written state place part unit old new popped rest posted there held pops alone in
    IsCounted-kept state now
    (goes-on state now (clients-written state now place (Some new) written) refl (pipes-same state now refl refl refl)
    (written-goes state now place (Some new) written
    (λ pipe. subst (λ was. HeldGoesOn pipe was (Some new)) (sym (under-there state.parts place part (Some old) there held)) (tds-on pipe old new tds))))
    (acted-counted state place part unit old new popped rest posted there held pops alone step here all.matched)
    (retired_places-append state.events posted ∙ ap (λ more. retired_places state.events ++ more) none ∙ append-nil (retired_places state.events))
    all

-- WHERE A STEP IS DUE

-- the place of a tag where a fact is so of what stands there
pub record IsDueAt (state : Shared) (tag : ℕ) (fact : Entry → Bool) : Type 0 where
  pub place : Place
  pub entry : Entry
  pub named : place_of state.tags (length state.parts) tag ≡ Some place
  pub held : under state.parts place ≡ Some entry
  pub so : fact entry ≡ true

due_part : (fact : Entry → Bool) (place : Place) (found : Option Part) → option_map_or (entry_fact fact place.slot) found false ≡ true →
    (entry : Entry) × (option_map_or (held_in place) found None ≡ Some entry) × (fact entry ≡ true)
due_part fact place None so = absurd (false≢true so)
due_part fact place (Some part) so = due_held (held_at part.entries place.slot) so
  where
    due_held : (held : Option Entry) → option_map_or fact held false ≡ true → (entry : Entry) × (held ≡ Some entry) × (fact entry ≡ true)
    due_held None is = absurd (false≢true is)
    due_held (Some entry) is = (entry, refl, is)

due_named : (state : Shared) (tag : ℕ) (fact : Entry → Bool) (place : Option Place) → place_of state.tags (length state.parts) tag ≡ place →
    option_map_or (λ (p : Place). part_fact state p.client (entry_fact fact p.slot)) place false ≡ true → IsDueAt state tag fact
due_named state tag fact None is so = absurd (false≢true so)
due_named state tag fact (Some place) is so =
    let at = due_part fact place (slice_get state.parts place.client) so in
    record { place = place; entry = at.0; named = is; held = at.1; so = at.2 }

pub place_fact-due : (state : Shared) (tag : ℕ) (fact : Entry → Bool) → place_fact state tag fact ≡ true → IsDueAt state tag fact
place_fact-due state tag fact so = due_named state tag fact (place_of state.tags (length state.parts) tag) refl so

-- AN EVENT

-- counts of a list by its first event
pub command_events-first : (place : Place) (event : Completion) (rest : List Completion)
    → command_events place (event ∷ rest) ≡ command_events place (event ∷ []) + command_events place rest
command_events-first place event rest = command_events-append place (event ∷ []) rest

pub data_events-first : (place : Place) (event : Completion) (rest : List Completion)
    → data_events place (event ∷ rest) ≡ data_events place (event ∷ []) + data_events place rest
data_events-first place event rest = data_events-append place (event ∷ []) rest

pub status_events-first : (place : Place) (event : Completion) (rest : List Completion)
    → status_events place (event ∷ rest) ≡ status_events place (event ∷ []) + status_events place rest
status_events-first place event rest = status_events-append place (event ∷ []) rest

event-alone : (event : Completion) → NamesAlone (event_place event) [] (event ∷ [])
event-alone (CommandDone place) = record
    { messages = λ other apart. refl; carried = λ other apart. omega (arith, ap one_if apart); moved = λ other apart. refl; sent = λ other apart. refl }
event-alone (DataDone place) = record
    { messages = λ other apart. refl; carried = λ other apart. refl; moved = λ other apart. omega (arith, ap one_if apart); sent = λ other apart. refl }
event-alone (StatusDone place) = record
    { messages = λ other apart. refl; carried = λ other apart. refl; moved = λ other apart. refl; sent = λ other apart. omega (arith, ap one_if apart) }
event-alone (EngineDone place) = record
    { messages = λ other apart. refl; carried = λ other apart. refl; moved = λ other apart. refl; sent = λ other apart. refl }

-- the part after an event was seen
abbrev pub seen_part : Part → ℕ → Entry → Part
seen_part part slot entry = record (with_entry part slot entry) { ready = ready_after part.ready slot entry }

-- the state after it
abbrev pub seen_state : Shared → Place → Part → Entry → List Completion → Shared
seen_state state place part entry rest = record state { parts = slice_set state.parts place.client (seen_part part place.slot entry); events = rest ++ [] }

-- other slots of the queue stay, and this one joins it where its entry is ready
ready_after-other : (queue : List ℕ) (slot other : ℕ) (entry : Entry) → (other ≡ slot → ⊥)
    → times_in other (ready_after queue slot entry) ≡ times_in other queue
ready_after-other queue slot other entry apart =
    elim (is_ready entry) as (λ b. times_in other (cond b (queue ++ slot ∷ []) queue) ≡ times_in other queue) [
      | true ↦ omega (arith, times_in-push other queue slot, one_apart slot other apart)
      | false ↦ refl
    ]

ready_after-own : (queue : List ℕ) (slot : ℕ) (entry : Entry) → times_in slot (ready_after queue slot entry) ≡ times_in slot queue + one_if (is_ready entry)
ready_after-own queue slot entry =
    elim (is_ready entry) as (λ b. times_in slot (cond b (queue ++ slot ∷ []) queue) ≡ times_in slot queue + one_if b) [
      | true ↦ omega (arith, times_in-push slot queue slot, one_equal slot)
      | false ↦ omega arith
    ]

pub seen-written : (state : Shared) (event : Completion) (rest : List Completion) (part : Part) (old new : Entry) → state.events ≡ event ∷ rest →
    slice_get state.parts (event_place event).client ≡ Some part → held_at part.entries (event_place event).slot ≡ Some old →
    IsWritten state (seen_state state (event_place event) part new rest) (event_place event) (Some new)
seen-written state event rest part old new is there held =
    let alone : NamesAlone (event_place event) [] (event ∷ []) = event-alone event in
    record {
      part = part;
      now = seen_part part (event_place event).slot new;
      there = there;
      within = held-within part.entries (event_place event).slot old held;
      tags = refl;
      parts = refl;
      entries = refl;
      queue = λ slot apart. ready_after-other part.ready (event_place event).slot slot new apart;
      others = λ other apart. record {
        messages = refl;
        carried = omega (
          arith,
          command_events-append other rest [],
          ap (command_events other) is,
          command_events-first other event rest,
          alone.carried other apart,
        );
        moved = omega (arith, data_events-append other rest [], ap (data_events other) is, data_events-first other event rest, alone.moved other apart);
        sent = omega (arith, status_events-append other rest [], ap (status_events other) is, status_events-first other event rest, alone.sent other apart);
      };
    }

pub seen-counted : (state : Shared) (event : Completion) (rest : List Completion) (part : Part) (old new : Entry) → state.events ≡ event ∷ rest →
    slice_get state.parts (event_place event).client ≡ Some part → held_at part.entries (event_place event).slot ≡ Some old → IsCountedOut state.tags event old new →
    IsMatchedAt state (event_place event) (Some old) → AreMatched state → AreMatched (seen_state state (event_place event) part new rest)
unfolding seen-written
seen-counted state event rest part old new is there held step here all =
    let place : Place = event_place event in
    let now : Shared = seen_state state place part new rest in
    let written = seen-written state event rest part old new is there held in
    AreMatched-written state now place (Some new) written (record {
      messages = omega (arith, step.messages, here.messages);
      carried = omega (
        arith,
        command_events-append place rest [],
        ap (command_events place) is,
        command_events-first place event rest,
        step.carried,
        here.carried,
      );
      moved = omega (arith, data_events-append place rest [], ap (data_events place) is, data_events-first place event rest, step.moved, here.moved);
      sent = omega (arith, status_events-append place rest [], ap (status_events place) is, status_events-first place event rest, step.sent, here.sent);
      ready = omega (
        arith,
        times_ready-written state now place (Some new) written,
        ready_after-own part.ready place.slot new,
        times_ready-there state.parts place part there,
        here.ready,
        step.ready,
      );
      sound = step.sound;
    }) all

-- an event of a TD is of none of the controller's own commands
pub td_event-retired : (event : Completion) (rest : List Completion) → is_td_event event ≡ true → retired_places (event ∷ rest) ≡ retired_places rest
td_event-retired (CommandDone place) rest is = refl
td_event-retired (DataDone place) rest is = refl
td_event-retired (StatusDone place) rest is = refl
td_event-retired (EngineDone place) rest is = absurd (false≢true is)

pub seen-matched : (state : Shared) (event : Completion) (rest : List Completion) (part : Part) (old new : Entry) → is_td_event event ≡ true →
    state.events ≡ event ∷ rest → slice_get state.parts (event_place event).client ≡ Some part → held_at part.entries (event_place event).slot ≡ Some old →
    IsSeenAs state.tags event old new → IsMatchedAt state (event_place event) (Some old) → IsCounted state →
    IsCounted (seen_state state (event_place event) part new rest)
seen-matched state event rest part old new of_td is there held step here all =
    let place : Place = event_place event in
    let now : Shared = seen_state state place part new rest in
    let written = seen-written state event rest part old new is there held in
    IsCounted-kept state now
    (goes-on state now (clients-written state now place (Some new) written) refl (pipes-same state now refl refl refl)
    (written-goes state now place (Some new) written
    (λ pipe. subst (λ was. HeldGoesOn pipe was (Some new)) (sym (under-there state.parts place part (Some old) there held)) (tds-on pipe old new step.tds))))
    (seen-counted state event rest part old new is there held step.counts here all.matched)
    (ap (λ events. retired_places events) (append-nil rest)
    ∙ sym (ap (λ events. retired_places events) is ∙ td_event-retired event rest of_td))
    all
