use Rattle.std.proofs.Common.{ℕ, arith, refl}
use Rattle.shared_machine.specs.Shared.{Shared}
use Rattle.shared_machine.specs.declared.Step.TheVariants.{Retire}
use Rattle.bus_core.specs.Decoded.{decoded}
use Rattle.bus_core.proofs.drain.DrainTags.{HasTried, tried-whole}
use Rattle.bus_core.proofs.RingBus.try_retirements.Goals as goal

-- no TD is left over on the pipe, so none of its tries is due
pub returns-in_default : goal.returns-in_default
returns-in_default c =
    let start : Shared × ℕ = (decoded c.args.self.now, c.args.left) in
    let none : HasTried (Retire c.args.pipe) start start 0 = record { so_far = refl; greatest = refl; within = omega arith } in
    tried-whole none c.in_default.ensures.none (λ other rests. rests)
