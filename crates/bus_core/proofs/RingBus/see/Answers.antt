use Rattle.std.proofs.Common.{◌≡◌, ◌++◌, ℕ, List, [], ap, sym, ◌∙◌}
use Rattle.std.specs.Option.{option_map_or}
use Rattle.shared_machine.specs.declared.Step.TheVariants.{Event}
use Rattle.bus_core.specs.Owners.{handled_as, retirement_seen}
use Rattle.shared_machine.specs.Shared.{idle, ringing}
use Rattle.uas_host.specs.Events.{event_doors, handled, Sides}
use Rattle.event_ring.specs.declared.Event.{Event as EventOf}
use Rattle.bus_core.specs.World.{world_of}
use Rattle.bus_core.specs.WorldSteps.{event_sides, rung_all}
use Rattle.bus_core.specs.Decoded.{decoded}
use Rattle.bus_core.proofs.common.BusFields.{fits-in, world_in}
use Rattle.bus_core.proofs.retire.EngineStepped.{doors-cleared, event-resumed, td-told, with-outcome}
use Rattle.bus_core.proofs.event.EventsFit.{events-fit}
use Rattle.bus_core.proofs.common.Taken.{IsTaken, event-taken}
use Rattle.bus_core.proofs.RingBus.see.Goals as goal
use Rattle.bus_core.proofs.RingBus.see.Goals.{Joined-handled, Joined-handled-2}
use Rattle.bus_core.proofs.RingBus.see.Goals.{in-Matched, in-Stray, in-Engine, in-Matched-handled, in-Stray-handled}
use Rattle.bus_core.proofs.RingBus.see.Goals.{in-Engine-handled+in_ok-ended-in-Engine-handled}

-- a transfer event, which rings nothing

transfer-handled : (c : Joined-handled) → handled (event_sides (world_in c.self.inside)) c.self.inside.frames c.in_ok-event.event
    ≡ (record { host = c.on_transfer-handled.new.self; lines = c.on_transfer-handled.new.lines }, c.on_transfer-handled.result)
transfer-handled c =
    ap (handled (event_sides (world_in c.self.inside)) c.self.inside.frames) c.in-Transfer.is
    ∙ rw c.in_ok-event.ensures.taken at c.on_transfer-handled.ensures.handled

transferred : (c : Joined-handled) → IsTaken (decoded c.args.self.now) Event
    (world_of c.on_transfer-handled.new.self c.self.inside.controller c.self.inside.target c.on_transfer-handled.new.lines c.self.inside.frames)
    (handled_as (decoded c.args.self.now).tags c.self.inside.host.retirement [] c.on_transfer-handled.result)
transferred c =
    event-taken (decoded c.args.self.now) (world_in c.self.inside)
    c.in_ok-event.event c.on_transfer-handled.new.self c.on_transfer-handled.new.lines [] c.on_transfer-handled.result events-fit
    (fits-in c.self.inside c.self.view_is c.self.invariant) (sym c.in_ok-event.ensures.first) (transfer-handled c)
    (ap (event_doors (event_sides (world_in c.self.inside))) c.in-Transfer.is)
    c.stand.ensures.host c.stand.ensures.lines c.stand.ensures.frames

pub invariant_of-self-in-Transfer : goal.invariant_of-self-in-Transfer
invariant_of-self-in-Transfer c = (transferred c).fits

pub returns-after-handled-clause-shared : goal.returns-after-handled-clause-shared
returns-after-handled-clause-shared c =
    let retirement = c.self.inside.host.retirement in
    let told : option_map_or (λ client. ringing client c.args.doors.now) c.match-handled.result idle
    ≡ handled_as (decoded c.args.self.now).tags retirement [] c.on_transfer-handled.result = elim c.match-handled.branch [
      | in-Matched w ↦
          rw (w.result-is, w.owner_of.ensures, (c.tags-tags.ensures.tags ∙ (fits-in c.self.inside c.self.view_is c.self.invariant).tags))
          (ap (ringing _) c.requires ∙ sym (ap (handled_as (decoded c.args.self.now).tags retirement []) w.in-Matched.is))
      | in-Stray w ↦ rw w.result-is (sym (ap (handled_as (decoded c.args.self.now).tags retirement []) w.in-Stray.is))
      | in-Engine w ↦ absurd (c.on_transfer-handled.ensures.no_engine w.in-Engine.is)
    ] in
    with-outcome _ _ _ _ (transferred c).shared told

-- an event of the controller's own command ring

-- the doorbells of its completion are those of the event
event-rung : (sides : Sides) (event completion : EventOf) (before rung : List ℕ) → event ≡ completion →
    rung ≡ before ++ event_doors sides completion → rung ≡ before ++ event_doors sides event
event-rung sides event completion before rung is rang = rang ∙ ap (λ of. before ++ event_doors sides of) (sym is)

completed : (c : Joined-handled-2) → handled (event_sides (world_in c.self.inside)) c.self.inside.frames c.in_ok-event.event
    ≡ (record { host = c.on_completion-handled.new.self; lines = c.on_completion-handled.new.lines }, c.on_completion-handled.result)
completed c =
    ap (handled (event_sides (world_in c.self.inside)) c.self.inside.frames) c.in-Command.is
    ∙ rw c.in_ok-event.ensures.taken at c.on_completion-handled.ensures.handled

pub rung_at-requires-clause-resumed : goal.rung_at-requires-clause-resumed
rung_at-requires-clause-resumed c = λ moves.
    event-resumed (event_sides (world_in c.self.inside)) c.in_ok-event.event c.in_ok-ended-in-Engine-handled.ended c.deref-in-Engine-handled.result.now
    (sym c.retirement-retirement.ensures ∙ c.in_ok-ended-in-Engine-handled.was) moves
    (c.deref-in-Engine-handled.ensures.0
    ∙ doors-cleared c.clear.new.self.items c.on_completion-handled.new.doors.items _ c.clear.ensures
    (event-rung (event_sides (world_in c.self.inside)) c.in_ok-event.event _ c.clear.new.self.items c.on_completion-handled.new.doors.items c.in-Command.is
    (rw c.in_ok-event.ensures.taken at c.on_completion-handled.ensures.doors)))

-- what the host makes of the event is the shared machine's step
seen : (c : Joined-handled-2) → IsTaken (decoded c.args.self.now) Event
    (world_of c.on_completion-handled.new.self (rung_all c.self.inside.controller c.on_completion-handled.new.doors.items) c.self.inside.target
    c.on_completion-handled.new.lines c.self.inside.frames)
    (handled_as (decoded c.args.self.now).tags c.self.inside.host.retirement c.on_completion-handled.new.doors.items c.on_completion-handled.result)
seen c =
    event-taken (decoded c.args.self.now) (world_in c.self.inside)
    c.in_ok-event.event c.on_completion-handled.new.self c.on_completion-handled.new.lines c.on_completion-handled.new.doors.items c.on_completion-handled.result events-fit
    (fits-in c.self.inside c.self.view_is c.self.invariant) (sym c.in_ok-event.ensures.first)
    (completed c)
    (sym (doors-cleared c.clear.new.self.items c.on_completion-handled.new.doors.items _ c.clear.ensures
    (event-rung (event_sides (world_in c.self.inside)) c.in_ok-event.event _ c.clear.new.self.items c.on_completion-handled.new.doors.items c.in-Command.is
    (rw c.in_ok-event.ensures.taken at c.on_completion-handled.ensures.doors))))
    c.stand-in-Command.ensures.host c.stand-in-Command.ensures.lines c.stand-in-Command.ensures.frames

pub invariant_of-self-in-Command : goal.invariant_of-self-in-Command
invariant_of-self-in-Command c = rw (c.ring.ensures, c.deref.ensures.0) (seen c).fits

pub returns-after-handled-2-clause-shared : goal.returns-after-handled-2-clause-shared
returns-after-handled-2-clause-shared c =
    let retirement = c.self.inside.host.retirement in
    let rung = c.on_completion-handled.new.doors.items in
    let told : option_map_or (λ client. ringing client c.match-handled-2.doors) c.match-handled-2.result idle
    ≡ handled_as (decoded c.args.self.now).tags retirement rung c.on_completion-handled.result = elim c.match-handled-2.branch [
      | in-Matched-handled w ↦
          rw (w.result-is, w.doors-is, w.owner_of-in-Matched-handled.ensures, (c.tags-tags.ensures.tags ∙ (fits-in c.self.inside c.self.view_is c.self.invariant).tags))
          (sym (td-told (decoded c.args.self.now).tags (event_sides (world_in c.self.inside))
          c.self.inside.frames c.in_ok-event.event _ w.in-Matched-handled.tag c.on_completion-handled.result retirement rung c.args.doors.now
          (completed c) w.in-Matched-handled.is
          (sym (doors-cleared c.clear.new.self.items rung _ c.clear.ensures
          (event-rung (event_sides (world_in c.self.inside)) c.in_ok-event.event _ c.clear.new.self.items c.on_completion-handled.new.doors.items c.in-Command.is
          (rw c.in_ok-event.ensures.taken at c.on_completion-handled.ensures.doors)))) c.requires))
      | in-Stray-handled w ↦ rw w.result-is (sym (ap (handled_as (decoded c.args.self.now).tags retirement rung) w.in-Stray-handled.is))
      | in-Engine-handled+in_ok-ended-in-Engine-handled w ↦
          rw (w.result-is, w.doors-is, w.rung_at.ensures, w.deref-in-Engine-handled.ensures.0)
          (sym (ap (handled_as (decoded c.args.self.now).tags retirement rung) w.in-Engine-handled.is
          ∙ ap (λ under_way. retirement_seen under_way rung) (sym c.retirement-retirement.ensures ∙ w.in_ok-ended-in-Engine-handled.was)))
    ] in
    rw (c.ring.ensures, c.deref.ensures.0) (with-outcome _ _ _ _ (seen c).shared told)
