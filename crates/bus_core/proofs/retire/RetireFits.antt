-- The host begins a retirement where the shared machine does: Stop Endpoint stands on the controller's command ring, and nothing else
-- changes. Cited by the law of retirements and by the answers of the bus.
use Rattle.std.proofs.Common.{◌≡◌, ℕ, true, cond, List, [], ◌∷◌, ◌++◌, length, Option, Some, None, option_map, refl, arith, ap, sym, subst, ◌∙◌}
use Rattle.std.specs.Prelude.{is_none}
use Rattle.std.proofs.lemmas.Bool.{false≢true, and_parts}
use Rattle.uas_profile.specs.declared.Pipe.{Pipe}
use Rattle.uas_profile.specs.declared.Place.{Place}
use Rattle.uas_host.specs.declared.RetirementStage.TheVariants.{Stopping}
use Rattle.uas_host.specs.Retirement.{retirement_for, stop_trb}
use Rattle.uas_profile.specs.Tags.{place_of}
use Rattle.shared_machine.specs.declared.Retirement.{Retirement}
use Rattle.shared_machine.specs.declared.RetirementStage.TheVariants.{StopAsked}
use Rattle.shared_machine.specs.declared.Step.TheVariants.{Retire}
use Rattle.shared_machine.specs.Td.{is_left_over_on}
use Rattle.shared_machine.specs.Shared.{Shared, due, due_step, idle, place_fact, retire_step, shared_step}
use Rattle.machine_invariant.specs.Matched.{IsMatched, answered_places}
use Rattle.bus_core.specs.World.{World}
use Rattle.bus_core.specs.Fits.{Fits, FitsQueues, HoldsCommandOf, IsSoundWorld}
use Rattle.bus_core.specs.Cells.{HoldsTrbs}
use Rattle.bus_core.specs.WorldSteps.{RetireIsIdle, RetirementsFit, retire_world}
use Rattle.bus_core.proofs.common.CellWrites.{clients-length}
use Rattle.bus_core.proofs.retire.EngineCells.{ReadsAlike, kept-fits, texts-alike}
use Rattle.bus_core.proofs.retire.EngineDue.{retire-due}
use Rattle.machine_invariant.proofs.MatchedSteps.{IsDueAt, place_fact-due, shared_step-matched}
use Rattle.cycle_ring.specs.Items.{Item, known}

pub none-is : {T : Type 0} (found : Option T) → is_none found ≡ true → found ≡ None
none-is None none = refl
none-is (Some x) none = absurd (false≢true none)

-- the retirement that begins
abbrev begun : Pipe → Place → Retirement
begun pipe place = record { pipe = pipe; place = place; stage = StopAsked }

abbrev begun_state : Shared → Pipe → Place → Shared
begun_state state pipe place = record state { retirement = Some (begun pipe place) }

begins-is : (state : Shared) (world : World) (pipe : Pipe) (tag : ℕ) (place : Place) → Fits state world → due state (Retire pipe tag) ≡ true
    → place_of state.tags (length state.parts) tag ≡ Some place
    → retirement_for world.host pipe tag ≡ Some (record { pipe = pipe; place = place; stage = Stopping })
begins-is state world pipe tag place fits is_due named =
    ap (λ b. cond b (option_map (λ (p : Place). record { pipe = pipe; place = p; stage = Stopping }) (place_of world.host.tags (length world.host.clients) tag)) None)
    (sym (retire-due state world pipe tag fits) ∙ is_due)
    ∙ ap (λ t. option_map (λ (p : Place). record { pipe = pipe; place = p; stage = Stopping }) (place_of t (length world.host.clients) tag)) fits.tags
    ∙ ap (λ n. option_map (λ (p : Place). record { pipe = pipe; place = p; stage = Stopping }) (place_of state.tags n tag)) (clients-length state.tags world state.parts fits.clients)
    ∙ ap (λ o. option_map (λ (p : Place). record { pipe = pipe; place = p; stage = Stopping }) o) named

begun-queues : (state : Shared) (world : World) (pipe : Pipe) (place : Place) → Fits state world → state.retirement ≡ None
    → FitsQueues (begun_state state pipe place) (retire_world world pipe place)
begun-queues state world pipe place fits none =
    let alike : ReadsAlike state.tags world (retire_world world pipe place) state.events = record {
      none = fits.matched.retired ∙ ap answered_places none;
      command_base = refl;
      moved = λ other some. refl;
      sent = λ other some. refl;
    } in
    record {
      put = fits.queues.put;
      got = fits.queues.got;
      texts = fits.queues.texts ∙ sym (texts-alike state.tags world (retire_world world pipe place) 0 state.events alike);
    }

begun-fits : (state : Shared) (world : World) (pipe : Pipe) (place : Place) → Fits state world → state.retirement ≡ None
    → IsMatched (begun_state state pipe place) → IsSoundWorld (retire_world world pipe place)
    → Fits (begun_state state pipe place) (retire_world world pipe place)
begun-fits state world pipe place fits none matched sound =
    let empty : HoldsTrbs world.lines.engine [] 0 = subst (HoldsCommandOf state.tags world.lines) none fits.engine.commands in
    kept-fits state (begun_state state pipe place) world (retire_world world pipe place) fits
    (record { number = refl; hosts = refl; device = refl; frames = refl; status = refl; data_in = refl; data_out = refl }) refl refl
    (record { status = fits.status; data_in = fits.data_in; data_out = fits.data_out })
    (begun-queues state world pipe place fits none)
    (record { retirement = refl; commands = (ap (λ (ts : List Item). ts ++ known (stop_trb pipe) ∷ []) empty.0, empty.1) }) matched sound

begun-stepped : (state : Shared) (pipe : Pipe) (tag : ℕ) (place : Place) → due state (Retire pipe tag) ≡ true
    → place_of state.tags (length state.parts) tag ≡ Some place → (shared_step state (Retire pipe tag)).0 ≡ begun_state state pipe place
begun-stepped state pipe tag place is_due named =
    ap (λ b. (cond b (due_step state (Retire pipe tag)) (state, idle)).0) is_due ∙ ap (λ p. (retire_step state pipe p).0) named

pub retirements-fit : RetirementsFit
retirements-fit state world pipe tag fits is_due =
    let both = and_parts (is_none state.retirement) (place_fact state tag (is_left_over_on pipe)) is_due in
    let found : IsDueAt state tag (is_left_over_on pipe) = place_fact-due state tag (is_left_over_on pipe) both.1 in
    let none : state.retirement ≡ None = none-is state.retirement both.0 in
    let empty : HoldsTrbs world.lines.engine [] 0 = subst (HoldsCommandOf state.tags world.lines) none fits.engine.commands in
    let stepped = begun-stepped state pipe tag found.place is_due found.named in
    record {
      place = found.place;
      named = found.named;
      begins = begins-is state world pipe tag found.place fits is_due found.named;
      room = omega (arith, ap (λ (ts : List Item). length ts) empty.0);
      fits = λ sound.
          subst (λ s. Fits s (retire_world world pipe found.place)) (sym stepped)
          (begun-fits state world pipe found.place fits none (subst IsMatched stepped (shared_step-matched state (Retire pipe tag) fits.matched)) sound);
    }

pub retire-is-idle : RetireIsIdle
retire-is-idle state world pipe tag fits undue =
    ap (λ b. cond b (option_map (λ (p : Place). record { pipe = pipe; place = p; stage = Stopping }) (place_of world.host.tags (length world.host.clients) tag)) None)
    (sym (retire-due state world pipe tag fits) ∙ undue)
