-- The controller's commands of a retirement keep what waits matched: a pipe is stopped, a dequeue pointer moved. Cited by MatchedEngine.
use Rattle.std.proofs.Common.{◌≡◌, ◌≤◌, Bool, true, false, ◌&&◌, List, [], ◌∷◌, ◌++◌, length, Option, Some, None, ℕ, ◌*◌}
use Rattle.std.proofs.Common.{refl, arith, ap, sym, subst, ◌∙◌}
use Rattle.std.specs.Prelude.{slice_get, slice_set}
use Rattle.std.specs.Option.{option_map_or}
use Rattle.std.proofs.lemmas.Bool.{false≢true, and_from, and_parts}
use Rattle.uas_profile.specs.declared.Pipe.{Pipe}
use Rattle.uas_profile.specs.declared.Pipe.TheVariants.{Command, Status, DataIn, DataOut}
use Rattle.uas_profile.specs.Pipes.{HasStreams}
use Rattle.uas_profile.specs.declared.PipeState.{PipeState}
use Rattle.uas_profile.specs.PipeStates.{stopped_pipe}
use Rattle.uas_profile.specs.declared.Place.{Place}
use Rattle.uas_profile.specs.Pipes.{same_pipe}
use Rattle.uas_profile.specs.declared.TheConstants.{STREAMS}
use Rattle.shared_machine.specs.declared.Td.{Td}
use Rattle.shared_machine.specs.declared.Completion.{Completion}
use Rattle.shared_machine.specs.declared.Completion.TheVariants.{EngineDone}
use Rattle.shared_machine.specs.declared.Outcome.{Outcome}
use Rattle.shared_machine.specs.declared.Retirement.{Retirement}
use Rattle.shared_machine.specs.declared.RetirementStage.{RetirementStage}
use Rattle.shared_machine.specs.declared.RetirementStage.TheVariants.{StopAsked, StopAnswered, MoveAsked, MoveAnswered}
use Rattle.shared_machine.specs.Bus.{IsPlace}
use Rattle.shared_machine.specs.Td.{Entry, is_left_over_on, has_trb_on, trbs_on, with_td_on, passed_td, passed_on}
use Rattle.shared_machine.specs.Part.{Part, stop_act, pass_act, passed_slot}
use Rattle.shared_machine.specs.Shared.{Shared, pipe_of, with_pipe, at_stage, acted_on, routed}
use Rattle.shared_machine.specs.Shared.{routed_to, engine_did, engine_step}
use Rattle.machine_invariant.specs.Matched.{same_place, times, under, command_events, data_events, status_events, retired_places, answered_place}
use Rattle.machine_invariant.specs.Matched.{answered_places, is_left_over_at, has_trb_at, is_whole_on, was_moved, is_passed, IsMatchedEntry, IsMatchedAt}
use Rattle.machine_invariant.specs.Matched.{IsAtStage, IsRetiring, FlowsAt, IsMatched}
use Rattle.machine_invariant.proofs.MatchedPlaces.{same_place-self, same_place-true, command_events-append, data_events-append, status_events-append, layout, same-layout}
use Rattle.machine_invariant.proofs.MatchedPlaces.{retired_places-append, IsFound, under-found, IsWritten, under-written, under-other, clients-written, AreMatched}
use Rattle.machine_invariant.proofs.MatchedPlaces.{AreMatched-same, IsCounted, counted-of}
use Rattle.machine_invariant.proofs.MatchedLeftOver.{passed-stepped, IsSameOn, changed-other, passed-empty, passed-whole, passed-still}
use Rattle.machine_invariant.proofs.MatchedRetirement.{retiring-of, same_pipe-self, same_pipe-true, held-is, passed-is, passed-before}
use Rattle.machine_invariant.proofs.MatchedFlows.{pipes-same, left_of, trb_of}
use Rattle.machine_invariant.proofs.MatchedActs.{NamesAlone, acted_state, acted-written, acted-counted}
use Rattle.shared_machine.proofs.Standing.{slice_get-back}

-- THE PIPES

-- a state with another state of one pipe
pub record IsPiped (old new : Shared) (pipe : Pipe) (now : PipeState) : Type 0 where
  pub tags : new.tags ≡ old.tags
  pub parts : new.parts ≡ old.parts
  pub messages : new.messages ≡ old.messages
  pub events : new.events ≡ old.events
  pub retirement : new.retirement ≡ old.retirement
  pub own : HasStreams pipe → pipe_of new pipe ≡ now
  pub others : (other : Pipe) → same_pipe pipe other ≡ false → pipe_of new other ≡ pipe_of old other

pub with_pipe-others : (state : Shared) (now : PipeState) (pipe other : Pipe) → same_pipe pipe other ≡ false
    → pipe_of (with_pipe state pipe now) other ≡ pipe_of state other
with_pipe-others state now Status Status apart = absurd (false≢true (sym apart))
with_pipe-others state now DataIn DataIn apart = absurd (false≢true (sym apart))
with_pipe-others state now DataOut DataOut apart = absurd (false≢true (sym apart))
with_pipe-others state now pipe other apart = refl

pub with_pipe-is : (state : Shared) (pipe : Pipe) (now : PipeState) → IsPiped state (with_pipe state pipe now) pipe now
with_pipe-is state Command now =
    record { tags = refl; parts = refl; messages = refl; events = refl; retirement = refl; own = λ none. absurd none; others = with_pipe-others state now Command }
with_pipe-is state pipe now =
    record { tags = refl; parts = refl; messages = refl; events = refl; retirement = refl; own = λ streams. refl; others = with_pipe-others state now pipe }

-- the places of a state in which neither parts nor messages nor events changed
pub places-kept : (old new : Shared) → new.tags ≡ old.tags → new.parts ≡ old.parts → new.messages ≡ old.messages → new.events ≡ old.events → AreMatched old → AreMatched new
places-kept old new tags parts messages events all = AreMatched-same old new tags parts (λ place. record {
  messages = ap (times place) messages;
  carried = ap (command_events place) events;
  moved = ap (data_events place) events;
  sent = ap (status_events place) events;
}) all

-- THE TD THAT IS LEFT OVER

pub left-held : (pipe : Pipe) (held : Option Entry) → left_of pipe held ≡ true → (entry : Entry) × (held ≡ Some entry) × (is_left_over_on pipe entry ≡ true)
left-held pipe None left = absurd (false≢true left)
left-held pipe (Some entry) left = (entry, refl, left)

-- what stands at the place of the retirement under way
pub record HasLeft (state : Shared) (r : Retirement) : Type 0 where
  pub entry : Entry
  pub held : under state.parts r.place ≡ Some entry
  pub left : is_left_over_on r.pipe entry ≡ true
  pub found : IsFound state.parts r.place entry

pub has-left : (state : Shared) (r : Retirement) → IsRetiring state r → HasLeft state r
has-left state r retiring =
    let at = left-held r.pipe (under state.parts r.place) retiring.left in
    record { entry = at.0; held = at.1; left = at.2; found = under-found state.parts r.place at.0 at.1 }

-- STOP ENDPOINT IS EXECUTED

pub stop-event : (state : Shared) (place : Place) (now : Shared) → now.tags ≡ state.tags → now.parts ≡ state.parts
    → now.messages ≡ state.messages → now.events ≡ state.events ++ EngineDone place ∷ [] → AreMatched state → AreMatched now
stop-event state place now tags parts messages events all = AreMatched-same state now tags parts (λ other. record {
  messages = ap (times other) messages;
  carried = omega (arith, ap (command_events other) events, command_events-append other state.events (EngineDone place ∷ []));
  moved = omega (arith, ap (data_events other) events, data_events-append other state.events (EngineDone place ∷ []));
  sent = omega (arith, ap (status_events other) events, status_events-append other state.events (EngineDone place ∷ []));
}) all

-- the event of the controller's own command is the one that waits
pub posted-retired : (state now : Shared) (r : Retirement) (stage : RetirementStage) → now.events ≡ state.events ++ EngineDone r.place ∷ [] →
    retired_places state.events ≡ answered_places state.retirement → state.retirement ≡ Some r → r.stage ≡ stage → answered_place stage r.place ≡ [] →
    retired_places now.events ≡ r.place ∷ []
posted-retired state now r stage events all is at asked =
    let none : retired_places state.events ≡ [] =
    all ∙ ap (λ found. answered_places found) is ∙ ap (λ s. answered_place s r.place) at ∙ asked in
    ap (λ es. retired_places es) events ∙ retired_places-append state.events (EngineDone r.place ∷ []) ∙ ap (λ places. places ++ r.place ∷ []) none

pub stopped-matched : (state : Shared) (r : Retirement) → state.retirement ≡ Some r → r.stage ≡ StopAsked → IsMatched state →
    IsCounted (engine_did state r StopAsked).0
stopped-matched state r is asked all =
    let retiring : IsRetiring state r = retiring-of state r all is in
    let at : HasLeft state r = has-left state r retiring in
    let piped : Shared = with_pipe state r.pipe stopped_pipe in
    let facts : IsPiped state piped r.pipe stopped_pipe = with_pipe-is state r.pipe stopped_pipe in
    let base : Shared = at_stage piped r StopAnswered in
    let part : Part = at.found.part in
    let there : slice_get base.parts r.place.client ≡ Some part = ap (λ parts. slice_get parts r.place.client) facts.parts ∙ at.found.there in
    let now : Shared = (acted_on base r.place.client (stop_act r.place part)).0 in
    let parts : now.parts ≡ state.parts =
    ap (λ parts. slice_set parts r.place.client part) facts.parts ∙ slice_get-back state.parts r.place.client part at.found.there in
    let kept : layout now ≡ layout state = same-layout state now facts.tags (ap (λ ps. length ps) parts) in
    let events : now.events ≡ state.events ++ EngineDone r.place ∷ [] = ap (λ es. es ++ EngineDone r.place ∷ []) facts.events in
    let places : AreMatched now = stop-event state r.place now facts.tags parts facts.messages events (counted-of state all).matched in
    let own : pipe_of now r.pipe ≡ stopped_pipe = pipes-same piped now refl refl refl r.pipe ∙ facts.own retiring.streams in
    subst (λ (after : Shared × Outcome). IsCounted after.0) (sym (ap (λ found. routed_to base r.place.client (stop_act r.place) found) there)) (record {
      matched = places;
      retired = posted-retired state now r StopAsked events all.retired is asked refl;
      retiring = record {
        streams = retiring.streams;
        there = subst (λ (n : ℕ × ℕ). IsPlace n.0 n.1 r.place) (sym kept) retiring.there;
        left = ap (λ ps. left_of r.pipe (under ps r.place)) parts ∙ retiring.left;
        stage = ap (λ p. p.runs) own;
      };
      flows = λ pipe place. record {
        runs = λ few free has. ap (λ p. p.runs) (pipes-same piped now refl refl refl pipe ∙ facts.others pipe free)
            ∙ (all.flows pipe place).runs (subst (λ (n : ℕ × ℕ). n.1 * n.0 ≤ STREAMS) kept few) (held-is state r pipe is ∙ free)
            (sym (ap (λ ps. trb_of pipe (under ps place)) parts) ∙ has);
        left = λ before left. ap (λ ps. trb_of pipe (under ps place)) parts
            ∙ (all.flows pipe place).left (passed-before state r pipe place is (ap (λ stage. was_moved stage) asked))
            (sym (ap (λ ps. left_of pipe (under ps place)) parts) ∙ left);
      };
    })

-- SET TR DEQUEUE POINTER IS EXECUTED

-- what stands on a pipe for a place, once the TD of one place on one pipe was changed
pub record IsElsewhere (old new : Shared) (pipe : Pipe) (place : Place) : Type 0 where
  pub left : is_left_over_at new pipe place ≡ is_left_over_at old pipe place
  pub trb : has_trb_at new pipe place ≡ has_trb_at old pipe place

pub changed-elsewhere : (old new : Shared) (r : Retirement) (entry : Entry) (change : Td → Td) →
    IsWritten old new r.place (Some (with_td_on change r.pipe entry)) → under old.parts r.place ≡ Some entry → is_left_over_on r.pipe entry ≡ true →
    (pipe : Pipe) (place : Place) → (same_pipe r.pipe pipe && same_place r.place place) ≡ false → IsElsewhere old new pipe place
changed-elsewhere old new r entry change written held left pipe place apart =
    let now : Entry = with_td_on change r.pipe entry in
    elim (same_place r.place place) as (λ b. same_place r.place place ≡ b → IsElsewhere old new pipe place) [
      | true ↦ λ is.
          let other : same_pipe r.pipe pipe ≡ false = first_false (same_pipe r.pipe pipe) (same_place r.place place) apart is in
          let same : IsSameOn pipe entry now = changed-other change r.pipe pipe entry left other in
          let here : under new.parts r.place ≡ Some now = under-written old new r.place (Some now) written in
          subst (λ at. IsElsewhere old new pipe at) (same_place-true r.place place is) (record {
            left = ap (left_of pipe) here ∙ same.left ∙ sym (ap (left_of pipe) held);
            trb = ap (trb_of pipe) here ∙ same.trb ∙ sym (ap (trb_of pipe) held);
          })
      | false ↦ λ is.
          let same : under new.parts place ≡ under old.parts place = under-other old new r.place place (Some now) written is in
          record { left = ap (left_of pipe) same; trb = ap (trb_of pipe) same }
    ] refl
  where
    first_false : (a b : Bool) → (a && b) ≡ false → b ≡ true → a ≡ false
    first_false true b both is = absurd (false≢true (sym both ∙ is))
    first_false false b both is = refl

-- at the TD itself
pub changed-own : (old new : Shared) (r : Retirement) (now : Entry) → IsWritten old new r.place (Some now) → (pipe : Pipe) (place : Place) →
    (same_pipe r.pipe pipe && same_place r.place place) ≡ true → (test : Pipe → Entry → Bool) →
    option_map_or (test pipe) (under new.parts place) false ≡ test r.pipe now
changed-own old new r now written pipe place own test =
    let both = and_parts (same_pipe r.pipe pipe) (same_place r.place place) own in
    let at : r.place ≡ place = same_place-true r.place place both.1 in
    let on : r.pipe ≡ pipe = same_pipe-true r.pipe pipe both.0 in
    ap (λ p. option_map_or (test pipe) (under new.parts p) false) (sym at)
    ∙ ap (λ held. option_map_or (test pipe) held false) (under-written old new r.place (Some now) written)
    ∙ ap (λ p. test p now) (sym on)

-- a retirement whose TD was moved past is passed there alone
pub passed-apart : (state : Shared) (r : Retirement) (pipe : Pipe) (place : Place) → state.retirement ≡ Some r → r.stage ≡ MoveAnswered →
    is_passed state pipe place ≡ (same_pipe r.pipe pipe && same_place r.place place)
passed-apart state r pipe place is at =
    passed-is state r pipe place is
    ∙ ap (λ stage. same_pipe r.pipe pipe && (same_place r.place place && was_moved stage)) at
    ∙ ap (λ b. same_pipe r.pipe pipe && b) (and-one (same_place r.place place))
  where
    and-one : (b : Bool) → (b && true) ≡ b
    and-one true = refl
    and-one false = refl

pub moved-matched : (state : Shared) (r : Retirement) → state.retirement ≡ Some r → r.stage ≡ MoveAsked → IsMatched state →
    IsCounted (engine_did state r MoveAsked).0
moved-matched state r is asked all =
    let retiring : IsRetiring state r = retiring-of state r all is in
    let at : HasLeft state r = has-left state r retiring in
    let base : Shared = at_stage state r MoveAnswered in
    let moved : Retirement = record r { stage = MoveAnswered } in
    let part : Part = at.found.part in
    let old : Entry = at.entry in
    let new : Entry = passed_on r.pipe old in
    let posted : List Completion = EngineDone r.place ∷ [] in
    let now : Shared = acted_state base r.place part part.unit new state.messages posted in
    let alone : NamesAlone r.place [] posted =
    record { messages = λ other apart. refl; carried = λ other apart. refl; moved = λ other apart. refl; sent = λ other apart. refl } in
    let bases : AreMatched base = places-kept state base refl refl refl refl (counted-of state all).matched in
    let here : IsMatchedAt base r.place (Some old) = subst (λ held. IsMatchedAt base r.place held) at.held (bases.places r.place) in
    let sound : IsMatchedEntry state.tags r.place.slot old = here.sound in
    let places : AreMatched now = acted-counted base r.place part part.unit old new [] state.messages posted at.found.there at.found.held refl alone
    (passed-stepped r.pipe r.place old at.left sound) here bases in
    let written : IsWritten base now r.place (Some new) =
    acted-written base r.place part part.unit old new [] state.messages posted at.found.there at.found.held refl alone in
    let there : layout now ≡ layout state = clients-written base now r.place (Some new) written in
    let elsewhere = changed-elsewhere base now r old (passed_td (trbs_on r.pipe old)) written at.held at.left in
    let own = changed-own base now r new written in
    let itself : (same_pipe r.pipe r.pipe && same_place r.place r.place) ≡ true =
    and_from (same_pipe r.pipe r.pipe) (same_place r.place r.place) (same_pipe-self r.pipe) (same_place-self r.place) in
    let pipes : (pipe : Pipe) → pipe_of now pipe ≡ pipe_of state pipe = pipes-same state now refl refl refl in
    let stage : IsAtStage state r.pipe r.place MoveAsked = subst (λ s. IsAtStage state r.pipe r.place s) asked retiring.stage in
    let step : routed base r.place.client (pass_act r.pipe r.place) ≡ acted_on base r.place.client (passed_slot r.pipe part r.place (Some old)) =
    ap (λ found. routed_to base r.place.client (pass_act r.pipe r.place) found) at.found.there
    ∙ ap (λ held. acted_on base r.place.client (passed_slot r.pipe part r.place held)) at.found.held in
    subst (λ (after : Shared × Outcome). IsCounted after.0) (sym step) (record {
      matched = places;
      retired = posted-retired state now r MoveAsked refl all.retired is asked refl;
      retiring = record {
        streams = retiring.streams;
        there = subst (λ (n : ℕ × ℕ). IsPlace n.0 n.1 r.place) (sym there) retiring.there;
        left = own r.pipe r.place itself is_left_over_on ∙ passed-still r.pipe old ∙ at.left;
        stage = (ap (λ p. p.runs) (pipes r.pipe) ∙ stage, own r.pipe r.place itself is_whole_on ∙ passed-whole r.pipe old at.left);
      };
      flows = λ pipe place. by_td pipe place (FlowsAt now pipe place)
          (λ same. record {
            runs = λ few free has. absurd (false≢true (sym (own pipe place same has_trb_on ∙ passed-empty r.pipe old) ∙ has));
            left = λ before left. absurd (false≢true (sym before ∙ passed-apart now moved pipe place refl refl ∙ same));
          })
          (λ apart. record {
            runs = λ few free has. ap (λ p. p.runs) (pipes pipe)
                ∙ (all.flows pipe place).runs (subst (λ (n : ℕ × ℕ). n.1 * n.0 ≤ STREAMS) there few) (held-is state r pipe is ∙ free)
                (sym (elsewhere pipe place apart).trb ∙ has);
            left = λ before left. (elsewhere pipe place apart).trb
                ∙ (all.flows pipe place).left (passed-before state r pipe place is (ap (λ s. was_moved s) asked))
                (sym (elsewhere pipe place apart).left ∙ left);
          });
    })
  where
    by_td : (pipe : Pipe) (place : Place) (P : Type 0) → ((same_pipe r.pipe pipe && same_place r.place place) ≡ true → P) →
        ((same_pipe r.pipe pipe && same_place r.place place) ≡ false → P) → P
    by_td pipe place P same apart =
        elim (same_pipe r.pipe pipe && same_place r.place place) as (λ b. (same_pipe r.pipe pipe && same_place r.place place) ≡ b → P) [
          | true ↦ λ so. same so
          | false ↦ λ so. apart so
        ] refl

-- THE CONTROLLER'S COMMAND RING

pub engine_step-matched : (state : Shared) (found : Option Retirement) → state.retirement ≡ found → IsMatched state → IsCounted (engine_step state found).0
engine_step-matched state None is all = counted-of state all
engine_step-matched state (Some r) is all = at r.stage refl
  where
    at : (stage : RetirementStage) → r.stage ≡ stage → IsCounted (engine_did state r stage).0
    at StopAsked so = stopped-matched state r is so all
    at StopAnswered so = counted-of state all
    at MoveAsked so = moved-matched state r is so all
    at MoveAnswered so = counted-of state all
