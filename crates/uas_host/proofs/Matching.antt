-- What the host answers an event, by what it waits for (specs/Awaited).
use Rattle.std.proofs.Common.{◌≡◌, ℕ, ◌↔◌, Bool, true, false, List, [], Option, Some, None, refl, sym, ap, subst, ◌∙◌}
use Rattle.std.specs.Prelude.{◌==◌, ◌&&◌, cond, is_some, option_and_then}
use Rattle.std.proofs.lemmas.Bool.{eqb-true, eq-eqb}
use Rattle.event_ring.specs.declared.Event.{Event}
use Rattle.event_ring.specs.declared.Event.TheVariants.{Transfer, Command as CommandCompletion}
use Rattle.xhci_trb.specs.declared.Trb.{Trb}
use Rattle.cycle_ring.specs.Items.{known_consumed_at}
use Rattle.uas_profile.specs.declared.Pipe.{Pipe}
use Rattle.uas_profile.specs.declared.TheConstants.{ENGINE_RING_PLACES, SUCCESS}
use Rattle.frame_store.specs.declared.TagBuffers.{TagBuffers}
use Rattle.uas_host.specs.declared.EndedTd.{EndedTd}
use Rattle.uas_host.specs.declared.Handled.{Handled}
use Rattle.uas_host.specs.declared.Handled.TheVariants.{Engine, Matched, Stray}
use Rattle.uas_host.specs.declared.HostEntry.{HostEntry}
use Rattle.uas_host.specs.Notices.{Notice}
use Rattle.uas_host.specs.declared.Retirement.{Retirement}
use Rattle.uas_host.specs.State.{HostState}
use Rattle.uas_host.specs.Seen.{held_of, host_seen, seen}
use Rattle.uas_host.specs.Events.{Sides, ended_at, event_doors, engine_doors, handled, handled_engine, handled_notice, handled_seen, handled_td, is_engine_done, notice_of}
use Rattle.uas_host.specs.Awaited.{IsEngineAwaited, IsOfEngine, IsOfNothing, IsOfTd, IsTdAwaited, written_of}
use Rattle.uas_host.proofs.Awaiting.{accepted-is, accepts, ended-ends, ends-ended, host_seen-held, is-accepted}

-- what an event of a TD is answered
abbrev answered : Bool → ℕ → Handled
answered accepted tag = cond accepted (Matched tag) Stray

seen-answer : (sides : Sides) (pointer : ℕ) (td : EndedTd) (host : Option HostState) → (handled_seen sides pointer td host).1 ≡ answered (is_some host) td.tag
seen-answer sides pointer td None = refl
seen-answer sides pointer td (Some host) = refl

notice-answer : (sides : Sides) (pointer : ℕ) (td : EndedTd) (held : HostEntry) (notice : Option Notice) → held_of sides.host td.tag ≡ Some held →
    (handled_notice sides pointer td notice).1 ≡ answered (is_some (option_and_then (λ n. seen n held) notice)) td.tag
notice-answer sides pointer td held None under = refl
notice-answer sides pointer td held (Some notice) under =
    seen-answer sides pointer td (host_seen notice sides.host td.tag)
    ∙ ap (λ b. answered b td.tag) (host_seen-held notice sides.host td.tag ∙ ap (λ o. is_some (option_and_then (seen notice) o)) under)

-- nothing is under the tag
notice-unheld : (sides : Sides) (pointer : ℕ) (td : EndedTd) (notice : Option Notice) → held_of sides.host td.tag ≡ None →
    (handled_notice sides pointer td notice).1 ≡ Stray
notice-unheld sides pointer td None under = refl
notice-unheld sides pointer td (Some notice) under =
    seen-answer sides pointer td (host_seen notice sides.host td.tag)
    ∙ ap (λ b. answered b td.tag) (host_seen-held notice sides.host td.tag ∙ ap (λ o. is_some (option_and_then (seen notice) o)) under)

answered-so : (accepted : Bool) (tag told : ℕ) → answered accepted tag ≡ Matched told → (accepted ≡ true) × (tag ≡ told)
answered-so true tag told is = (refl, cc)
answered-so false tag told is = absurd (cc)

-- a TD's event is matched only where it is awaited
matched-awaited : (sides : Sides) (frames : List TagBuffers) (pointer residual code tag : ℕ) →
    (handled_td sides frames pointer residual code (ended_at sides.lines pointer)).1 ≡ Matched tag →
    (pipe : Pipe) × IsTdAwaited sides frames pointer residual code pipe tag
matched-awaited sides frames pointer residual code tag is =
    elim (ended_at sides.lines pointer) as (λ o. ended_at sides.lines pointer ≡ o → (handled_td sides frames pointer residual code o).1 ≡ Matched tag →
    (pipe : Pipe) × IsTdAwaited sides frames pointer residual code pipe tag) [
      | None ↦ λ none it. absurd (cc)
      | Some td ↦ λ some it. of_td td some it
    ] refl is
  where
    of_held : (td : EndedTd) (held : HostEntry) → ended_at sides.lines pointer ≡ Some td → held_of sides.host td.tag ≡ Some held →
        (handled_td sides frames pointer residual code (Some td)).1 ≡ Matched tag → (pipe : Pipe) × IsTdAwaited sides frames pointer residual code pipe tag
    of_held td held ends under it =
        let answer = notice-answer sides pointer td held (notice_of frames residual code td) under in
        let so = answered-so (accepts td.pipe (written_of frames residual td.tag) code td.tag held) td.tag tag (sym answer ∙ it) in
        let accepted = accepted-is td.pipe (written_of frames residual td.tag) code td.tag held so.0 in (
          td.pipe,
          subst (λ t. IsTdAwaited sides frames pointer residual code td.pipe t) so.1 (record {
            ends = ended-ends sides.lines pointer td ends;
            held = held;
            under = under;
            waits = accepted.waits;
            succeeds = accepted.succeeds;
            answers = accepted.answers;
          }),
        )

    of_td : (td : EndedTd) → ended_at sides.lines pointer ≡ Some td → (handled_td sides frames pointer residual code (Some td)).1 ≡ Matched tag →
        (pipe : Pipe) × IsTdAwaited sides frames pointer residual code pipe tag
    of_td td ends it =
        elim (held_of sides.host td.tag) as (λ o. held_of sides.host td.tag ≡ o → (pipe : Pipe) × IsTdAwaited sides frames pointer residual code pipe tag) [
          | None ↦ λ none.
              let no : Stray ≡ Matched tag = sym (notice-unheld sides pointer td (notice_of frames residual code td) none) ∙ it in absurd (cc)
          | Some held ↦ λ some. of_held td held ends some it
        ] refl

-- and everywhere where it is
awaited-matched : (sides : Sides) (frames : List TagBuffers) (pointer residual code : ℕ) (pipe : Pipe) (tag : ℕ) →
    IsTdAwaited sides frames pointer residual code pipe tag →
    (handled_td sides frames pointer residual code (ended_at sides.lines pointer)).1 ≡ Matched tag
awaited-matched sides frames pointer residual code pipe tag is =
    let td : EndedTd = record { pipe = pipe; tag = tag } in
    let accepted = is-accepted pipe (written_of frames residual tag) code tag is.held
    (record { waits = is.waits; succeeds = is.succeeds; answers = is.answers }) in
    ap (λ o. (handled_td sides frames pointer residual code o).1) (ends-ended sides.lines pointer pipe tag is.ends)
    ∙ (notice-answer sides pointer td is.held (notice_of frames residual code td) is.under ∙ ap (λ b. answered b tag) accepted)

-- THE ENGINE

engine-awaited : (sides : Sides) (pointer code : ℕ) →
    (handled_engine sides pointer (is_engine_done sides.lines pointer code) sides.host.retirement).1 ≡ Engine → IsEngineAwaited sides pointer code
engine-awaited sides pointer code is =
    elim (known_consumed_at ENGINE_RING_PLACES sides.lines.engine pointer) as (λ o. known_consumed_at ENGINE_RING_PLACES sides.lines.engine pointer ≡ o →
    (handled_engine sides pointer (is_some o && (code == SUCCESS)) sides.host.retirement).1 ≡ Engine → IsEngineAwaited sides pointer code) [
      | None ↦ λ none it. absurd (cc)
      | Some trb ↦ λ some it. of_code trb some it
    ] refl is
  where
    of_code : (trb : Trb) → known_consumed_at ENGINE_RING_PLACES sides.lines.engine pointer ≡ Some trb →
        (handled_engine sides pointer (code == SUCCESS) sides.host.retirement).1 ≡ Engine → IsEngineAwaited sides pointer code
    of_code trb some it =
        elim (code == SUCCESS) as (λ b. (code == SUCCESS) ≡ b → (handled_engine sides pointer b sides.host.retirement).1 ≡ Engine →
        IsEngineAwaited sides pointer code) [
          | false ↦ λ other that. absurd (cc)
          | true ↦ λ success that.
              elim sides.host.retirement as (λ o. sides.host.retirement ≡ o → (handled_engine sides pointer true o).1 ≡ Engine →
              IsEngineAwaited sides pointer code) [
                | None ↦ λ none this. absurd (cc)
                | Some retirement ↦ λ under_way this. record {
                  retirement = retirement;
                  under_way = under_way;
                  trb = trb;
                  consumed = some;
                  succeeds = eqb-true code SUCCESS success;
                }
              ] refl that
        ] refl it

awaited-engine : (sides : Sides) (pointer code : ℕ) → IsEngineAwaited sides pointer code →
    (handled_engine sides pointer (is_engine_done sides.lines pointer code) sides.host.retirement).1 ≡ Engine
awaited-engine sides pointer code is = rw (is.consumed, eq-eqb code SUCCESS is.succeeds, is.under_way) refl

-- no TD's event is the engine's, and no completion a TD's
td-no_engine : (sides : Sides) (frames : List TagBuffers) (pointer residual code : ℕ) (td : Option EndedTd) →
    (handled_td sides frames pointer residual code td).1 ≡ Engine → ⊥
td-no_engine sides frames pointer residual code None is = cc
td-no_engine sides frames pointer residual code (Some td) is =
    elim (notice_of frames residual code td) as (λ o. (handled_notice sides pointer td o).1 ≡ Engine → ⊥) [
      | None ↦ λ it. (cc)
      | Some notice ↦ λ it.
          elim (host_seen notice sides.host td.tag) as (λ o. (handled_seen sides pointer td o).1 ≡ Engine → ⊥) [
            | None ↦ λ that. (cc)
            | Some host ↦ λ that. (cc)
          ] it
    ] is

engine-no_td : (sides : Sides) (pointer tag : ℕ) (done : Bool) (retirement : Option Retirement) →
    (handled_engine sides pointer done retirement).1 ≡ Matched tag → ⊥
engine-no_td sides pointer tag false retirement is = cc
engine-no_td sides pointer tag true None is = cc
engine-no_td sides pointer tag true (Some retirement) is = cc

-- ANY EVENT

pub matched-exactly : (sides : Sides) (frames : List TagBuffers) (event : Event) (tag : ℕ) →
    ((handled sides frames event).1 ≡ Matched tag) ↔ IsOfTd sides frames event tag
matched-exactly sides frames (Transfer pointer residual code endpoint slot) tag =
    (matched-awaited sides frames pointer residual code tag, λ is. awaited-matched sides frames pointer residual code is.0 tag is.1)
matched-exactly sides frames (CommandCompletion pointer code slot) tag =
    (engine-no_td sides pointer tag (is_engine_done sides.lines pointer code) sides.host.retirement, λ is. absurd is)

pub engine-exactly : (sides : Sides) (frames : List TagBuffers) (event : Event) →
    ((handled sides frames event).1 ≡ Engine) ↔ IsOfEngine sides event
engine-exactly sides frames (Transfer pointer residual code endpoint slot) =
    (td-no_engine sides frames pointer residual code (ended_at sides.lines pointer), λ is. absurd is)
engine-exactly sides frames (CommandCompletion pointer code slot) = (engine-awaited sides pointer code, awaited-engine sides pointer code)

-- one of three
nothing-stray : (told : Handled) → ((tag : ℕ) → told ≡ Matched tag → ⊥) → (told ≡ Engine → ⊥) → told ≡ Stray
nothing-stray (Matched tag) no_td no_engine = absurd (no_td tag refl)
nothing-stray Engine no_td no_engine = absurd (no_engine refl)
nothing-stray Stray no_td no_engine = refl

pub stray-exactly : (sides : Sides) (frames : List TagBuffers) (event : Event) →
    ((handled sides frames event).1 ≡ Stray) ↔ IsOfNothing sides frames event
stray-exactly sides frames event = (
  λ stray. record {
    td = λ tag is. let it : Stray ≡ Matched tag = sym stray ∙ (matched-exactly sides frames event tag).1 is in (cc);
    engine = λ is. let it : Stray ≡ Engine = sym stray ∙ (engine-exactly sides frames event).1 is in (cc);
  },
  λ nothing. nothing-stray (handled sides frames event).1 (λ tag it. nothing.td tag ((matched-exactly sides frames event tag).0 it))
      (λ it. nothing.engine ((engine-exactly sides frames event).0 it)),
)

-- WHAT IS STRAY CHANGES NOTHING

td-kept : (sides : Sides) (frames : List TagBuffers) (pointer residual code : ℕ) (td : Option EndedTd) →
    (handled_td sides frames pointer residual code td).1 ≡ Stray → (handled_td sides frames pointer residual code td).0 ≡ sides
td-kept sides frames pointer residual code None is = refl
td-kept sides frames pointer residual code (Some td) is =
    elim (notice_of frames residual code td) as (λ o. (handled_notice sides pointer td o).1 ≡ Stray → (handled_notice sides pointer td o).0 ≡ sides) [
      | None ↦ λ it. refl
      | Some notice ↦ λ it.
          elim (host_seen notice sides.host td.tag) as (λ o. (handled_seen sides pointer td o).1 ≡ Stray → (handled_seen sides pointer td o).0 ≡ sides) [
            | None ↦ λ that. refl
            | Some host ↦ λ that. absurd (cc)
          ] it
    ] is

engine-kept : (sides : Sides) (pointer : ℕ) (done : Bool) (retirement : Option Retirement) → (handled_engine sides pointer done retirement).1 ≡ Stray →
    ((handled_engine sides pointer done retirement).0 ≡ sides) × (engine_doors sides.host.tags sides.lines pointer done retirement ≡ [])
engine-kept sides pointer false retirement is = (refl, refl)
engine-kept sides pointer true None is = (refl, refl)
engine-kept sides pointer true (Some retirement) is = absurd (cc)

pub stray-kept : (sides : Sides) (frames : List TagBuffers) (event : Event) → (handled sides frames event).1 ≡ Stray →
    ((handled sides frames event).0 ≡ sides) × (event_doors sides event ≡ [])
stray-kept sides frames (Transfer pointer residual code endpoint slot) is =
    (td-kept sides frames pointer residual code (ended_at sides.lines pointer) is, refl)
stray-kept sides frames (CommandCompletion pointer code slot) is =
    engine-kept sides pointer (is_engine_done sides.lines pointer code) sides.host.retirement is

-- AS THE CALL TELLS IT

pub matched-told : (sides after : Sides) (frames : List TagBuffers) (event : Event) (told : Handled) (tag : ℕ) →
    handled sides frames event ≡ (after, told) → (told ≡ Matched tag) ↔ IsOfTd sides frames event tag
matched-told sides after frames event told tag is =
    subst (λ (t : Handled). (t ≡ Matched tag) ↔ IsOfTd sides frames event tag) (ap (λ (both : Sides × Handled). both.1) is)
    (matched-exactly sides frames event tag)

pub engine-told : (sides after : Sides) (frames : List TagBuffers) (event : Event) (told : Handled) →
    handled sides frames event ≡ (after, told) → (told ≡ Engine) ↔ IsOfEngine sides event
engine-told sides after frames event told is =
    subst (λ (t : Handled). (t ≡ Engine) ↔ IsOfEngine sides event) (ap (λ (both : Sides × Handled). both.1) is) (engine-exactly sides frames event)

pub stray-told : (sides after : Sides) (frames : List TagBuffers) (event : Event) (told : Handled) →
    handled sides frames event ≡ (after, told) → (told ≡ Stray) ↔ IsOfNothing sides frames event
stray-told sides after frames event told is =
    subst (λ (t : Handled). (t ≡ Stray) ↔ IsOfNothing sides frames event) (ap (λ (both : Sides × Handled). both.1) is) (stray-exactly sides frames event)

pub kept-told : (sides after : Sides) (frames : List TagBuffers) (event : Event) (told : Handled) → handled sides frames event ≡ (after, told) → told ≡ Stray →
    (after ≡ sides) × (event_doors sides event ≡ [])
kept-told sides after frames event told is stray =
    let kept = stray-kept sides frames event (ap (λ (both : Sides × Handled). both.1) is ∙ stray) in
    (sym (ap (λ (both : Sides × Handled). both.0) is) ∙ kept.0, kept.1)
