use Rattle.std.proofs.Common.{◌++◌, ◌∙◌, List, ℕ, ap}
use Rattle.std.proofs.lemmas.List.{append-nil}
use Rattle.uas_host.specs.Events.{Sides}
use Rattle.uas_host.proofs.LeavingBy.{left-told}
use Rattle.uas_host.proofs.Matching.{engine-told, kept-told, matched-told, stray-told}
use Rattle.uas_host.proofs.Host.on_event.Goals as goal

pub returns-clause-matched : goal.returns-clause-matched
returns-clause-matched c = λ tag. matched-told _ _ _ _ _ tag c.handle.ensures.handled

pub returns-clause-engine : goal.returns-clause-engine
returns-clause-engine c = engine-told _ _ _ _ _ c.handle.ensures.handled

pub returns-clause-stray : goal.returns-clause-stray
returns-clause-stray c = stray-told _ _ _ _ _ c.handle.ensures.handled

pub returns-clause-unchanged : goal.returns-clause-unchanged
returns-clause-unchanged c = λ stray.
    let kept = kept-told _ _ c.args.frames.now c.args.event _ c.handle.ensures.handled stray in (
      ap (λ (s : Sides). s.host) kept.0,
      ap (λ (s : Sides). s.lines) kept.0,
      c.handle.ensures.doors ∙ (ap (λ (d : List ℕ). c.args.doors.now.items ++ d) kept.1 ∙ append-nil _),
    )

pub returns-clause-left_over : goal.returns-clause-left_over
returns-clause-left_over c = left-told _ _ _ _ _ c.handle.ensures.handled
