-- What a step that touches no retirement leaves of the pipes: the one under way stays as it is, and what has a TRB still flows. Cited by MatchedActs,
-- MatchedSteps and MatchedEngine.
use Rattle.std.proofs.Common.{◌≡◌, ◌≤◌, Bool, true, false, length, Option, Some, refl, ap, sym, subst, ◌∙◌, ℕ, ◌*◌}
use Rattle.std.specs.Option.{option_map_or}
use Rattle.uas_profile.specs.declared.Pipe.{Pipe}
use Rattle.uas_profile.specs.declared.Pipe.TheVariants.{Command, Status, DataIn, DataOut}
use Rattle.uas_profile.specs.declared.Place.{Place}
use Rattle.uas_profile.specs.Pipes.{same_pipe}
use Rattle.uas_profile.specs.declared.TheConstants.{STREAMS}
use Rattle.shared_machine.specs.declared.Retirement.{Retirement}
use Rattle.shared_machine.specs.declared.RetirementStage.{RetirementStage}
use Rattle.shared_machine.specs.declared.RetirementStage.TheVariants.{StopAsked, StopAnswered, MoveAsked, MoveAnswered}
use Rattle.shared_machine.specs.Bus.{IsPlace}
use Rattle.shared_machine.specs.Td.{Entry, is_left_over_on, has_trb_on}
use Rattle.shared_machine.specs.Shared.{Shared, is_held, pipe_of}
use Rattle.machine_invariant.specs.Matched.{same_place, under, retired_places, answered_places, is_left_over_at, has_trb_at, is_whole_on, is_whole_at, is_passed}
use Rattle.machine_invariant.specs.Matched.{IsAtStage, IsRetiring}
use Rattle.machine_invariant.proofs.MatchedPlaces.{same_place-true, IsWritten, under-written, under-other, AreMatched, IsCounted, layout, same-layout}
use Rattle.machine_invariant.proofs.MatchedTds.{GoesOn, same-goes}
use Rattle.machine_invariant.proofs.MatchedRetirement.{of-some, if-some, held-own, passed_in}

-- THE PIPES

-- a state with these pipes has each of them
pub pipes-same : (old new : Shared) → new.status ≡ old.status → new.data_in ≡ old.data_in → new.data_out ≡ old.data_out → (pipe : Pipe) →
    pipe_of new pipe ≡ pipe_of old pipe
pipes-same old new status data_in data_out Command = refl
pipes-same old new status data_in data_out Status = status
pipes-same old new status data_in data_out DataIn = data_in
pipes-same old new status data_in data_out DataOut = data_out

-- WHAT STANDS AT A PLACE

abbrev pub left_of : Pipe → Option Entry → Bool
left_of pipe held = option_map_or (is_left_over_on pipe) held false

abbrev pub trb_of : Pipe → Option Entry → Bool
trb_of pipe held = option_map_or (has_trb_on pipe) held false

abbrev pub whole_of : Pipe → Option Entry → Bool
whole_of pipe held = option_map_or (is_whole_on pipe) held false

-- how its TD on a pipe goes on
abbrev pub HeldGoesOn : Pipe → Option Entry → Option Entry → Type 0
HeldGoesOn pipe old new = GoesOn (left_of pipe old) (trb_of pipe old) (whole_of pipe old) (left_of pipe new) (trb_of pipe new) (whole_of pipe new)

-- a step at one place: each TD goes on, if those of that place do
pub written-goes : (old new : Shared) (place : Place) (entry : Option Entry) → IsWritten old new place entry →
    ((pipe : Pipe) → HeldGoesOn pipe (under old.parts place) entry) → (pipe : Pipe) (other : Place) →
    HeldGoesOn pipe (under old.parts other) (under new.parts other)
written-goes old new place entry written here pipe other =
    elim (same_place place other) as (λ b. same_place place other ≡ b → HeldGoesOn pipe (under old.parts other) (under new.parts other)) [
      | true ↦ λ is. subst (λ at. HeldGoesOn pipe (under old.parts at) (under new.parts at)) (same_place-true place other is)
          (subst (λ held. HeldGoesOn pipe (under old.parts place) held) (sym (under-written old new place entry written)) (here pipe))
      | false ↦ λ is. subst (λ held. HeldGoesOn pipe (under old.parts other) held) (sym (under-other old new place other entry written is))
          (same-goes (left_of pipe (under old.parts other)) (trb_of pipe (under old.parts other)) (whole_of pipe (under old.parts other)))
    ] refl

-- STEPS THAT GO ON

-- What a step leaves: as many clients, the retirement, held pipes, what is left over, and what flows.
pub record GoOn (old new : Shared) : Type 0 where
  pub clients : layout new ≡ layout old
  pub retirement : new.retirement ≡ old.retirement
  pub held : (pipe : Pipe) → is_held old pipe ≡ true → (pipe_of new pipe).runs ≡ (pipe_of old pipe).runs
  pub left : (pipe : Pipe) (place : Place) → is_left_over_at old pipe place ≡ true → is_left_over_at new pipe place ≡ true
  pub whole : (pipe : Pipe) (place : Place) → is_left_over_at old pipe place ≡ true → is_whole_at old pipe place ≡ true → is_whole_at new pipe place ≡ true
  pub runs : (pipe : Pipe) (place : Place) → is_held old pipe ≡ false → has_trb_at new pipe place ≡ true →
      (has_trb_at old pipe place ≡ true → (pipe_of old pipe).runs ≡ true) → (pipe_of new pipe).runs ≡ true
  pub fresh : (pipe : Pipe) (place : Place) → is_left_over_at new pipe place ≡ true →
      (is_left_over_at old pipe place ≡ true → has_trb_at old pipe place ≡ true) → has_trb_at new pipe place ≡ true

-- a step that leaves the pipes alone goes on, if each TD does
pub goes-on : (old new : Shared) → layout new ≡ layout old → new.retirement ≡ old.retirement →
    ((pipe : Pipe) → pipe_of new pipe ≡ pipe_of old pipe) → ((pipe : Pipe) (place : Place) → HeldGoesOn pipe (under old.parts place) (under new.parts place)) →
    GoOn old new
goes-on old new clients retirement pipes goes = record {
  clients = clients;
  retirement = retirement;
  held = λ pipe is. ap (λ p. p.runs) (pipes pipe);
  left = λ pipe place is. (goes pipe place).left is;
  whole = λ pipe place left is. (goes pipe place).whole left is;
  runs = λ pipe place free has was. ap (λ p. p.runs) (pipes pipe) ∙ was ((goes pipe place).trb has);
  fresh = λ pipe place is was. (goes pipe place).fresh is was;
}

stage-kept : (old new : Shared) (pipe : Pipe) (place : Place) (stage : RetirementStage) → layout new ≡ layout old →
    (pipe_of new pipe).runs ≡ (pipe_of old pipe).runs → (is_whole_at old pipe place ≡ true → is_whole_at new pipe place ≡ true) →
    IsAtStage old pipe place stage → IsAtStage new pipe place stage
stage-kept old new pipe place StopAsked clients runs whole is = λ few. runs ∙ is (subst (λ (n : ℕ × ℕ). n.1 * n.0 ≤ STREAMS) clients few)
stage-kept old new pipe place StopAnswered clients runs whole is = runs ∙ is
stage-kept old new pipe place MoveAsked clients runs whole is = runs ∙ is
stage-kept old new pipe place MoveAnswered clients runs whole is = (runs ∙ is.0, whole is.1)

pub retiring-kept : (old new : Shared) (r : Retirement) → layout new ≡ layout old → (pipe_of new r.pipe).runs ≡ (pipe_of old r.pipe).runs →
    (is_left_over_at old r.pipe r.place ≡ true → is_left_over_at new r.pipe r.place ≡ true) →
    (is_whole_at old r.pipe r.place ≡ true → is_whole_at new r.pipe r.place ≡ true) → IsRetiring old r → IsRetiring new r
retiring-kept old new r clients runs left whole was = record {
  streams = was.streams;
  there = subst (λ (n : ℕ × ℕ). IsPlace n.0 n.1 r.place) (sym clients) was.there;
  left = left was.left;
  stage = stage-kept old new r.pipe r.place r.stage clients runs whole was.stage;
}

-- what goes on stays matched
pub IsCounted-kept : (old new : Shared) → GoOn old new → AreMatched new → retired_places new.events ≡ retired_places old.events → IsCounted old →
    IsCounted new
IsCounted-kept old new go now retired all = record {
  matched = now;
  retired = retired ∙ all.retired ∙ ap (λ found. answered_places found) (sym go.retirement);
  retiring = if-some (IsRetiring new) new.retirement under_way;
  flows = λ pipe place. record {
    runs = λ few free has. go.runs pipe place (sym (held-same pipe) ∙ free) has
        (λ had. (all.flows pipe place).runs (subst (λ (n : ℕ × ℕ). n.1 * n.0 ≤ STREAMS) go.clients few) (sym (held-same pipe) ∙ free) had);
    left = λ before left. go.fresh pipe place left
        (λ was. (all.flows pipe place).left (sym (passed-same pipe place) ∙ before) was);
  };
}
  where
    held-same : (pipe : Pipe) → is_held new pipe ≡ is_held old pipe
    held-same pipe = ap (λ found. option_map_or (λ (retirement : Retirement). same_pipe retirement.pipe pipe) found false) go.retirement

    passed-same : (pipe : Pipe) (place : Place) → is_passed new pipe place ≡ is_passed old pipe place
    passed-same pipe place = ap (passed_in pipe place) go.retirement

    under_way : (r : Retirement) → new.retirement ≡ Some r → IsRetiring new r
    under_way r is =
        let before : old.retirement ≡ Some r = sym go.retirement ∙ is in
        let was : IsRetiring old r = of-some (IsRetiring old) old.retirement r all.retiring before in
        retiring-kept old new r go.clients (go.held r.pipe (held-own old r before)) (go.left r.pipe r.place) (go.whole r.pipe r.place was.left) was
