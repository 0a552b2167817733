-- The retirement's own steps keep what waits matched: its beginning, the controller's commands, and their events. Cited by MatchedSteps.
use Rattle.std.proofs.Common.{◌≡◌, ℕ, zero, suc, ◌+◌, ◌*◌, ◌/◌, ◌<◌, ◌≤◌, Bool, true, false, ◌&&◌, cond, List, [], ◌∷◌, length, Option, Some, None}
use Rattle.std.proofs.Common.{IfSome, refl, arith, ap, sym, subst, ◌∙◌}
use Rattle.std.specs.Prelude.{◌%◌, nat_lt, slice_get, option_and_then, is_none, filter, if◌then◌else◌}
use Rattle.std.specs.List.{range_with_len}
use Rattle.std.specs.Option.{option_map_or}
use Rattle.std.proofs.lemmas.Bool.{lt-ltb, false≢true, and_left, and_parts}
use Rattle.std.proofs.lemmas.List.{append-nil}
use Rattle.uas_profile.specs.declared.Pipe.{Pipe}
use Rattle.uas_profile.specs.declared.Pipe.TheVariants.{Command, Status, DataIn, DataOut}
use Rattle.uas_profile.specs.Pipes.{HasStreams}
use Rattle.scsi_cmd.specs.Held.{held_at}
use Rattle.uas_profile.specs.declared.PipeState.{PipeState}
use Rattle.uas_profile.specs.PipeStates.{rung_at}
use Rattle.uas_profile.specs.declared.Place.{Place}
use Rattle.uas_profile.specs.Pipes.{same_pipe}
use Rattle.uas_profile.specs.Tags.{place_of, tag_of}
use Rattle.uas_profile.specs.declared.TheConstants.{STREAMS}
use Rattle.shared_machine.specs.declared.Completion.{Completion}
use Rattle.shared_machine.specs.declared.Completion.TheVariants.{EngineDone}
use Rattle.shared_machine.specs.declared.Outcome.{Outcome}
use Rattle.shared_machine.specs.declared.Retirement.{Retirement}
use Rattle.shared_machine.specs.declared.RetirementStage.{RetirementStage}
use Rattle.shared_machine.specs.declared.RetirementStage.TheVariants.{StopAsked, StopAnswered, MoveAsked, MoveAnswered}
use Rattle.shared_machine.specs.declared.Step.TheVariants.{Retire}
use Rattle.shared_machine.specs.Bus.{IsPlace}
use Rattle.shared_machine.specs.Pipes.{all_rung}
use Rattle.shared_machine.specs.Td.{Entry, is_left_over_on, has_trb_on, with_td_on, retired_td, retired_on}
use Rattle.shared_machine.specs.Part.{Part, seen_entry, retire_act}
use Rattle.shared_machine.specs.Shared.{Shared, is_asked, is_some_of, due, entry_fact, part_fact, place_fact, pipe_of, with_pipe, acted_on, routed, greatest_tag}
use Rattle.shared_machine.specs.Shared.{routed_to, retire_step, streams_pending, resumed, stage_seen, engine_seen, event_step}
use Rattle.machine_invariant.specs.Matched.{same_place, times, held_in, under, command_events, data_events, status_events, retired_places}
use Rattle.machine_invariant.specs.Matched.{answered_places, is_left_over_at, has_trb_at, was_moved, HaveSlots, IsMatchedEntry, IsMatchedAt}
use Rattle.machine_invariant.specs.Matched.{IsAtStage, IsRetiring, IsMatched}
use Rattle.machine_invariant.proofs.MatchedPlaces.{IsWritten, clients-written, AreMatched, layout, same-layout}
use Rattle.machine_invariant.proofs.MatchedPlaces.{AreMatched-same, IsCounted, counted-of}
use Rattle.machine_invariant.proofs.MatchedBounds.{slots-place, held-place}
use Rattle.machine_invariant.proofs.MatchedLeftOver.{retired-counted, retired_on-is}
use Rattle.machine_invariant.proofs.MatchedLeftOver.{retired-gone}
use Rattle.machine_invariant.proofs.MatchedRetirement.{retiring-of, same_pipe-true, held-is, held-none, passed-before, passed-none}
use Rattle.machine_invariant.proofs.MatchedRetirement.{IsAnswered, first-engine_event}
use Rattle.machine_invariant.proofs.MatchedFlows.{pipes-same, left_of, trb_of}
use Rattle.machine_invariant.proofs.MatchedActs.{IsDueAt, place_fact-due, seen_state, seen-written, seen-counted}
use Rattle.machine_invariant.proofs.MatchedCommands.{IsPiped, with_pipe-is, places-kept, HasLeft, has-left}
use Rattle.machine_invariant.proofs.MatchedCommands.{changed-elsewhere, changed-own, passed-apart}
use Rattle.uas_profile.proofs.TagLaws.{place-is_named, tags-within}

-- A RETIREMENT BEGINS

is_none-true : (found : Option Retirement) → is_none found ≡ true → found ≡ None
is_none-true None is = refl
is_none-true (Some r) is = absurd (false≢true is)

left-streams : (pipe : Pipe) (entry : Entry) → is_left_over_on pipe entry ≡ true → HasStreams pipe
left-streams Command entry left = absurd (false≢true left)
left-streams Status entry left = tt
left-streams DataIn entry left = tt
left-streams DataOut entry left = tt

begun-matched : (state : Shared) (pipe : Pipe) (place : Place) (entry : Entry) → state.retirement ≡ None → under state.parts place ≡ Some entry →
    is_left_over_on pipe entry ≡ true → IsMatched state → IsCounted (retire_step state pipe (Some place)).0
begun-matched state pipe place entry none held left all =
    let now : Shared = (retire_step state pipe (Some place)).0 in
    let r : Retirement = record { pipe = pipe; place = place; stage = StopAsked } in
    let places : AreMatched now = places-kept state now refl refl refl refl (counted-of state all).matched in
    let here : is_left_over_at state pipe place ≡ true = ap (left_of pipe) held ∙ left in
    let pipes : (p : Pipe) → pipe_of now p ≡ pipe_of state p = pipes-same state now refl refl refl in
    record {
      matched = places;
      retired = all.retired ∙ ap (λ found. answered_places found) none;
      retiring = record {
        streams = left-streams pipe entry left;
        there = held-place state place entry all held;
        left = here;
        stage = λ few. ap (λ p. p.runs) (pipes pipe)
            ∙ (all.flows pipe place).runs few (held-none state pipe none) ((all.flows pipe place).left (passed-none state pipe place none) here);
      };
      flows = λ p at. record {
        runs = λ few free has. ap (λ q. q.runs) (pipes p) ∙ (all.flows p at).runs few (held-none state p none) has;
        left = λ before was. (all.flows p at).left (passed-none state p at none) was;
      };
    }

pub retire_step-matched : (state : Shared) (pipe : Pipe) (tag : ℕ) → due state (Retire pipe tag) ≡ true → IsMatched state →
    IsCounted (retire_step state pipe (place_of state.tags (length state.parts) tag)).0
retire_step-matched state pipe tag is_due all =
    let both = and_parts (is_none state.retirement) (place_fact state tag (is_left_over_on pipe)) is_due in
    let at : IsDueAt state tag (is_left_over_on pipe) = place_fact-due state tag (is_left_over_on pipe) both.1 in
    subst (λ found. IsCounted (retire_step state pipe found).0) (sym at.named)
    (begun-matched state pipe at.place at.entry (is_none-true state.retirement both.0) at.held at.so all)

-- THE EVENT OF STOP ENDPOINT

-- an event of the controller's own commands leaves the event ring
popped-places : (state : Shared) (place : Place) (rest : List Completion) (now : Shared) → state.events ≡ EngineDone place ∷ rest → now.tags ≡ state.tags
    → now.parts ≡ state.parts → now.messages ≡ state.messages → now.events ≡ rest → AreMatched state → AreMatched now
popped-places state place rest now is tags parts messages events all = AreMatched-same state now tags parts (λ other. record {
  messages = ap (times other) messages;
  carried = ap (command_events other) events ∙ sym (ap (command_events other) is);
  moved = ap (data_events other) events ∙ sym (ap (data_events other) is);
  sent = ap (status_events other) events ∙ sym (ap (status_events other) is);
}) all

asked-matched : (state : Shared) (r : Retirement) (place : Place) (rest : List Completion) → state.events ≡ EngineDone place ∷ rest →
    state.retirement ≡ Some r → r.stage ≡ StopAnswered → retired_places rest ≡ [] → IsMatched state →
    IsCounted (stage_seen (record state { events = rest }) r StopAnswered).0
asked-matched state r place rest first is at none all =
    let now : Shared = (stage_seen (record state { events = rest }) r StopAnswered).0 in
    let places : AreMatched now = popped-places state place rest now first refl refl refl refl (counted-of state all).matched in
    let was : IsRetiring state r = retiring-of state r all is in
    let stage : IsAtStage state r.pipe r.place StopAnswered = subst (λ s. IsAtStage state r.pipe r.place s) at was.stage in
    let pipes : (p : Pipe) → pipe_of now p ≡ pipe_of state p = pipes-same state now refl refl refl in
    record {
      matched = places;
      retired = none;
      retiring = record { streams = was.streams; there = was.there; left = was.left; stage = ap (λ p. p.runs) (pipes r.pipe) ∙ stage };
      flows = λ pipe at_place. record {
        runs = λ few free has. ap (λ p. p.runs) (pipes pipe) ∙ (all.flows pipe at_place).runs few (held-is state r pipe is ∙ free) has;
        left = λ before left. (all.flows pipe at_place).left (passed-before state r pipe at_place is (ap (λ s. was_moved s) at)) left;
      };
    }

-- THE EVENT OF SET TR DEQUEUE POINTER

filter-some : (test : ℕ → Bool) (first many tag : ℕ) → first ≤ tag → tag < first + many → test tag ≡ true →
    is_some_of (filter test (range_with_len first many)) ≡ true
filter-some test first zero tag low high is = absurd (omega (arith, low, high))
filter-some test first (suc many) tag low high is =
    elim (test first) as (λ b. test first ≡ b →
    is_some_of (cond b (first ∷ filter test (range_with_len (first + 1) many)) (filter test (range_with_len (first + 1) many))) ≡ true) [
      | true ↦ λ so. refl
      | false ↦ λ so. filter-some test (first + 1) many tag
          (above first tag low (λ same. false≢true (sym so ∙ ap test same ∙ is))) (omega (arith, high)) is
    ] refl
  where
    above : (first tag : ℕ) → first ≤ tag → (first ≡ tag → ⊥) → first + 1 ≤ tag
    above first tag low apart = omega (arith, low, apart)

-- a pipe that runs goes on running, and one runs once a stream was rung
all_rung-on : (pipe : PipeState) (streams : List ℕ) → pipe.runs ≡ true → (all_rung pipe streams).runs ≡ true
all_rung-on pipe [] runs = runs
all_rung-on pipe (stream ∷ streams) runs = all_rung-on (rung_at pipe stream) streams refl

pub all_rung-runs : (pipe : PipeState) (streams : List ℕ) → is_some_of streams ≡ true → (all_rung pipe streams).runs ≡ true
all_rung-runs pipe [] some = absurd (false≢true some)
all_rung-runs pipe (stream ∷ streams) some = all_rung-on (rung_at pipe stream) streams refl

-- a fact of a place that is there, by its tag
fact-under : (test : Entry → Bool) (place : Place) (found : Option Part) →
    option_map_or (entry_fact test place.slot) found false ≡ option_map_or test (option_map_or (held_in place) found None) false
fact-under test place None = refl
fact-under test place (Some part) = refl

pub place_of-tag_of : (tags clients : ℕ) (place : Place) → IsPlace tags clients place → place_of tags clients (tag_of tags place) ≡ Some place
place_of-tag_of tags clients place there = place-is_named tags clients place there.client there.slot

place-fact : (state : Shared) (place : Place) (test : Entry → Bool) → IsPlace state.tags (length state.parts) place →
    place_fact state (tag_of state.tags place) test ≡ option_map_or test (under state.parts place) false
place-fact state place test there =
    ap (λ found. option_map_or (λ (p : Place). part_fact state p.client (entry_fact test p.slot)) found false)
    (place_of-tag_of state.tags (length state.parts) place there)
    ∙ fact-under test place (slice_get state.parts place.client)

-- where a TRB of a pipe may be taken, a stream of it is rung as the pipe is held no more
trb-held : (pipe : Pipe) (held : Option Entry) → trb_of pipe held ≡ true → (entry : Entry) × (held ≡ Some entry)
trb-held pipe None has = absurd (false≢true has)
trb-held pipe (Some entry) has = (entry, refl)

pub pending-some : (state : Shared) (pipe : Pipe) (place : Place) → AreMatched state → greatest_tag state ≤ STREAMS →
    has_trb_at state pipe place ≡ true → is_some_of (streams_pending state pipe) ≡ true
pending-some state pipe place matched few has =
    let at = trb-held pipe (under state.parts place) has in
    let there : IsPlace state.tags (length state.parts) place = slots-place state place at.0 matched.tags (matched.places place) at.1 in
    let most = (tags-within state.tags (length state.parts) place there.client there.slot).1 in
    filter-some (λ tag. place_fact state tag (has_trb_on pipe)) 1 STREAMS (tag_of state.tags place) (omega arith) (omega (arith, most, few))
    (place-fact state place (has_trb_on pipe) there ∙ has)

-- the part of the client after it
pub retired-step : (state : Shared) (r : Retirement) (rest : List Completion) (part : Part) (old : Entry) → slice_get state.parts r.place.client ≡ Some part →
    held_at part.entries r.place.slot ≡ Some old → is_left_over_on r.pipe old ≡ true →
    routed (record state { events = rest; retirement = None }) r.place.client (retire_act r.pipe r.place)
    ≡ acted_on (record state { events = rest; retirement = None }) r.place.client
    (seen_entry (EngineDone r.place) part r.place.slot (Some (with_td_on retired_td r.pipe old)))
retired-step state r rest part old there held left =
    let base : Shared = record state { events = rest; retirement = None } in
    let client : ℕ = r.place.client in
    ap (λ found. routed_to base client (retire_act r.pipe r.place) found) there
    ∙ ap (λ found. acted_on base client (seen_entry (EngineDone r.place) part r.place.slot (option_and_then (retired_on r.pipe) found))) held
    ∙ ap (λ found. acted_on base client (seen_entry (EngineDone r.place) part r.place.slot found)) (retired_on-is r.pipe old left)

-- the state before the pipe's doorbells are rung
abbrev retired_state : Shared → Retirement → List Completion → Part → Entry → Shared
retired_state state r rest part old = record (seen_state state r.place part (with_td_on retired_td r.pipe old) rest) { retirement = None }

retired-matched : (state : Shared) (r : Retirement) (rest : List Completion) → state.events ≡ EngineDone r.place ∷ rest →
    state.retirement ≡ Some r → r.stage ≡ MoveAnswered → retired_places rest ≡ [] → IsMatched state →
    IsCounted (stage_seen (record state { events = rest }) r MoveAnswered).0
retired-matched state r rest first is moved none all =
    let retiring : IsRetiring state r = retiring-of state r all is in
    let at : HasLeft state r = has-left state r retiring in
    let part : Part = at.found.part in
    let old : Entry = at.entry in
    let new : Entry = with_td_on retired_td r.pipe old in
    let seen : Shared = seen_state state r.place part new rest in
    let after : Shared = retired_state state r rest part old in
    let all_pipe : PipeState = all_rung (pipe_of after r.pipe) (streams_pending after r.pipe) in
    let now : Shared = with_pipe after r.pipe all_pipe in
    let facts : IsPiped after now r.pipe all_pipe = with_pipe-is after r.pipe all_pipe in
    let here : IsMatchedAt state r.place (Some old) = subst (λ held. IsMatchedAt state r.place held) at.held (all.places r.place) in
    let sound : IsMatchedEntry state.tags r.place.slot old = here.sound in
    let counted : AreMatched seen =
    seen-counted state (EngineDone r.place) rest part old new first at.found.there at.found.held (retired-counted r.pipe r.place old at.left sound) here
    (counted-of state all).matched in
    let places : AreMatched after = places-kept seen after refl refl refl refl counted in
    let nows : AreMatched now = places-kept after now facts.tags facts.parts facts.messages facts.events places in
    let written : IsWritten state seen r.place (Some new) = seen-written state (EngineDone r.place) rest part old new first at.found.there at.found.held in
    let there : layout now ≡ layout state =
    same-layout after now facts.tags (ap (λ ps. length ps) facts.parts) ∙ clients-written state seen r.place (Some new) written in
    let elsewhere = changed-elsewhere state seen r old retired_td written at.held at.left in
    let own = changed-own state seen r new written in
    let no_more : now.retirement ≡ None = facts.retirement in
    let trb_now : (pipe : Pipe) (place : Place) → has_trb_at now pipe place ≡ has_trb_at seen pipe place =
    λ pipe place. ap (λ ps. trb_of pipe (under ps place)) facts.parts in
    let left_now : (pipe : Pipe) (place : Place) → is_left_over_at now pipe place ≡ is_left_over_at seen pipe place =
    λ pipe place. ap (λ ps. left_of pipe (under ps place)) facts.parts in
    subst (λ (s : Shared × Outcome). IsCounted (resumed r.pipe s).0) (sym (retired-step state r rest part old at.found.there at.found.held at.left)) (record {
      matched = nows;
      retired = ap (λ es. retired_places es) (facts.events ∙ append-nil rest) ∙ none ∙ sym (ap (λ found. answered_places found) no_more);
      retiring = subst (λ found. IfSome found (IsRetiring now)) (sym no_more) tt;
      flows = λ pipe place. record {
        runs = λ few free has. by_bool (same_pipe r.pipe pipe) ((pipe_of now pipe).runs ≡ true)
            (λ on. subst (λ p. (pipe_of now p).runs ≡ true) (same_pipe-true r.pipe pipe on)
            (ap (λ p. p.runs) (facts.own retiring.streams)
            ∙ all_rung-runs (pipe_of after r.pipe) (streams_pending after r.pipe)
            (pending-some after r.pipe place places
            (subst (λ (n : ℕ × ℕ). n.1 * n.0 ≤ STREAMS) (same-layout after now facts.tags (ap (λ ps. length ps) facts.parts)) few)
            (subst (λ p. has_trb_at after p place ≡ true) (sym (same_pipe-true r.pipe pipe on)) (sym (trb_now pipe place) ∙ has)))))
            (λ off. ap (λ p. p.runs) (facts.others pipe off ∙ pipes-same state after refl refl refl pipe)
            ∙ (all.flows pipe place).runs (subst (λ (n : ℕ × ℕ). n.1 * n.0 ≤ STREAMS) there few) (held-is state r pipe is ∙ off)
            (sym (elsewhere pipe place (and_left (same_pipe r.pipe pipe) (same_place r.place place) off)).trb ∙ sym (trb_now pipe place) ∙ has));
        left = λ before left. by_bool (same_pipe r.pipe pipe && same_place r.place place) (has_trb_at now pipe place ≡ true)
            (λ same. absurd (false≢true (sym (own pipe place same is_left_over_on ∙ retired-gone r.pipe old) ∙ sym (left_now pipe place) ∙ left)))
            (λ apart. trb_now pipe place ∙ (elsewhere pipe place apart).trb
            ∙ (all.flows pipe place).left (passed-apart state r pipe place is moved ∙ apart)
            (sym (elsewhere pipe place apart).left ∙ sym (left_now pipe place) ∙ left));
      };
    })
  where
    by_bool : (b : Bool) (P : Type 0) → (b ≡ true → P) → (b ≡ false → P) → P
    by_bool true P so otherwise = so refl
    by_bool false P so otherwise = otherwise refl

-- THE EVENT OF THE CONTROLLER'S OWN COMMAND

pub engine_event-matched : (state : Shared) (place : Place) (rest : List Completion) → state.events ≡ EngineDone place ∷ rest → IsMatched state →
    IsCounted (event_step state (EngineDone place ∷ rest)).0
engine_event-matched state place rest first all =
    let popped : Shared = record state { events = rest } in
    let own : IsAnswered state.retirement place (retired_places rest) = first-engine_event state place rest all first in
    let r : Retirement = own.retirement in
    let it : state.events ≡ EngineDone r.place ∷ rest = first ∙ ap (λ at. EngineDone at ∷ rest) (sym own.place_same) in
    subst (λ found. IsCounted (engine_seen popped place found).0) (sym own.is) (at r own.is it own.alone r.stage refl own.answered)
  where
    at : (r : Retirement) → state.retirement ≡ Some r → state.events ≡ EngineDone r.place ∷ rest → retired_places rest ≡ [] →
        (stage : RetirementStage) → r.stage ≡ stage → is_asked r.stage ≡ false → IsCounted (stage_seen (record state { events = rest }) r stage).0
    at r is it none StopAsked so answered = absurd (false≢true (sym answered ∙ ap (λ stage. is_asked stage) so))
    at r is it none StopAnswered so answered = asked-matched state r r.place rest it is so none all
    at r is it none MoveAsked so answered = absurd (false≢true (sym answered ∙ ap (λ stage. is_asked stage) so))
    at r is it none MoveAnswered so answered = retired-matched state r rest it is so none all
