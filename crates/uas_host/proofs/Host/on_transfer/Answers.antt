use Rattle.std.proofs.Common.{ap}
use Rattle.event_ring.specs.declared.Event.TheVariants.{Transfer}
use Rattle.uas_host.specs.Events.{Sides}
use Rattle.uas_host.proofs.LeavingBy.{left-told}
use Rattle.uas_host.proofs.Matching.{engine-told, kept-told, matched-told, stray-told}
use Rattle.uas_host.proofs.Host.on_transfer.Goals as goal

pub returns-clause-matched : goal.returns-clause-matched
returns-clause-matched c = λ endpoint slot tag.
    matched-told _ _ _ (Transfer c.args.pointer c.args.residual c.args.code endpoint slot) _ tag c.on_pipe.ensures

pub returns-clause-no_engine : goal.returns-clause-no_engine
returns-clause-no_engine c = (engine-told _ _ _ (Transfer c.args.pointer c.args.residual c.args.code 0 0) _ c.on_pipe.ensures).0

pub returns-clause-stray : goal.returns-clause-stray
returns-clause-stray c = λ endpoint slot.
    stray-told _ _ _ (Transfer c.args.pointer c.args.residual c.args.code endpoint slot) _ c.on_pipe.ensures

pub returns-clause-unchanged : goal.returns-clause-unchanged
returns-clause-unchanged c = λ stray.
    let kept = kept-told _ _ _ (Transfer c.args.pointer c.args.residual c.args.code 0 0) _ c.on_pipe.ensures stray in (
      ap (λ (s : Sides). s.host) kept.0,
      ap (λ (s : Sides). s.lines) kept.0,
    )

pub returns-clause-left_over : goal.returns-clause-left_over
returns-clause-left_over c = λ endpoint slot.
    left-told _ _ _ (Transfer c.args.pointer c.args.residual c.args.code endpoint slot) _ c.on_pipe.ensures
