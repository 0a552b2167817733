use Rattle.std.proofs.Common.{◌≡◌, ◌≤◌, ◌∙◌, ap, sym, rules, arith}
use Rattle.shared_machine.specs.declared.Outcome.{Outcome}
use Rattle.uas_work.specs.Booked.{BookedState, booked_step}
use Rattle.bounded_log.specs.Bytes.{Bounded, bytes_after, log_bytes}
use Rattle.bounded_log.proofs.Counted.{stepped_bytes}
use Rattle.bounded_log.proofs.BoundedBooked.step.Goals as goal

pub invariant_of-self : goal.invariant_of-self
invariant_of-self c =
    let it : Bounded = record { booked = c.self.inside.booked; limit = c.self.inside.limit; bytes = c.self.inside.bytes } in
    let some : c.in-Some.bytes ≡ bytes_after it c.args.step = search rules in
    let fits : bytes_after it c.args.step ≤ c.self.inside.limit = search rules in
    let same : (booked_step it.booked c.args.step).0 ≡ c.step.new.self = ap (λ (pair : BookedState × Outcome). pair.0) c.in-Ok.ensures.booked in
    record {
      counted = some ∙ sym (stepped_bytes it c.args.step c.self.invariant.counted) ∙ ap (λ (booked : BookedState). log_bytes booked.log) same;
      within = omega (arith, some, fits);
    }
