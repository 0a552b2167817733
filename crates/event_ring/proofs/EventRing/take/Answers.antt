-- The consumer's end goes one place on.
use Rattle.std.proofs.Common.{refl, sym, ◌∙◌, arith}
use Rattle.std.proofs.lemmas.Option.{slice_get_within}
use Rattle.event_ring.proofs.Segment.{IsSegment-taken, shown-segment, shows-segment, without_first}
use Rattle.event_ring.proofs.Shifts.{IsShifted-taken}
use Rattle.event_ring.proofs.EventRing.take.Goals as goal

pub returns-in_err-event-clause-empty : goal.returns-in_err-event-clause-empty
returns-in_err-event-clause-empty g c =
    rw (c.from_residual.ensures) (refl, without_first c.args.self.now.pending (sym c.front.ensures ∙ c.in_err-event.was))

pub invariant_of-self : goal.invariant_of-self
invariant_of-self g c =
    let segment = rw c.self.view_is at c.self.invariant in
    let some = slice_get_within c.args.self.now.pending 0 _ (sym c.front.ensures ∙ c.in_ok-event.was) in
    let new = IsSegment-taken g.row.E _ _ _ _ segment some in
    rw (c.next-self-inside.ensures) (shows-segment g.row.E _ _ _ _ new)

pub returns-clause-taken : goal.returns-clause-taken
returns-clause-taken g c =
    let segment = rw c.self.view_is at c.self.invariant in
    let some = slice_get_within c.args.self.now.pending 0 _ (sym c.front.ensures ∙ c.in_ok-event.was) in
    let new = IsSegment-taken g.row.E _ _ _ _ segment some in
    rw (c.next-self-inside.ensures) (shown-segment g.row.E _ _ _ _ new)

pub returns-clause-shifted : goal.returns-clause-shifted
returns-clause-shifted g c i =
    let segment = rw c.self.view_is at c.self.invariant in
    let some = slice_get_within c.args.self.now.pending 0 _ (sym c.front.ensures ∙ c.in_ok-event.was) in
    let new = IsSegment-taken g.row.E _ _ _ _ segment some in
    rw (c.next-self-inside.ensures, shown-segment g.row.E _ _ _ _ new) (IsShifted-taken g.row.E c.args.self.now i (omega (arith, segment.ring.least_places)))
