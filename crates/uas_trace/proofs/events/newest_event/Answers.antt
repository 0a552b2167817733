use Rattle.std.proofs.Common.{◌+◌, ◌%◌, arith, sym, ◌∙◌}
use Rattle.std.proofs.Math.Nat.{mod-lt}
use Rattle.std.proofs.lemmas.Bool.{eqb-false}
use Rattle.uas_profile.specs.declared.TheConstants.{EVENT_RING_PLACES}
use Rattle.uas_trace.specs.Written.{newest_place}
use Rattle.uas_trace.proofs.Stands.{is_met, passed_more}
use Rattle.uas_trace.proofs.events.newest_event.Goals as goal

pub loop-passed-preserved : goal.loop-passed-preserved
loop-passed-preserved c =
    let first = c.args.from % EVENT_RING_PLACES in
    let newest = newest_place c.args.lines.now.events in
    passed_more EVENT_RING_PLACES first newest c.loop-passed.passed c.loop-passed.invariant
    (eqb-false ((first + c.loop-passed.passed) % EVENT_RING_PLACES) newest (sym c.is_newest.ensures ∙ c.if-is_newest.false))

pub unreachable-requires : goal.unreachable-requires
unreachable-requires c =
    let first = c.args.from % EVENT_RING_PLACES in
    let newest = newest_place c.args.lines.now.events in
    is_met EVENT_RING_PLACES first newest (mod-lt _ (omega arith))
    (λ k below. c.loop-passed.invariant k (omega arith))
