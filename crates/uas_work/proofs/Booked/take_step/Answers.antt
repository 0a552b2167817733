use Rattle.std.proofs.Common.{◌≡◌, ℕ, ◌<◌, true, List, [], ◌∷◌, ◌++◌, length, arith, ap, sym, subst, ◌∙◌, rules}
use Rattle.std.specs.Option.{option_map_or}
use Rattle.shared_machine.specs.declared.Step.{Step}
use Rattle.shared_machine.specs.declared.Outcome.{Outcome}
use Rattle.shared_machine.specs.Shared.{Shared, due}
use Rattle.shared_machine.specs.Laws.{reply_len}
use Rattle.shared_machine.proofs.Replying.{shared_step-room}
use Rattle.uas_log.specs.Booking.{with_entry}
use Rattle.uas_work.specs.Booked.{BookedState, IsBooked, IsCounted, with_turn}
use Rattle.uas_work.proofs.Bookings.{acted-booked, acted_state}
use Rattle.uas_work.proofs.Counting.{counted-more, counted-small}
use Rattle.uas_work.proofs.Booked.take_step.Goals as goal

-- no client's count is near its end
pub count_turn-requires : goal.count_turn-requires
count_turn-requires c =
    counted-small c.self.inside.turns c.self.inside.log.steps c.self.inside.limit c.self.invariant.1 c.self.invariant.0.within c.self.invariant.0.limit

-- the reply brings as many bytes as was told before the step
pub enter-requires-clause-spare : goal.enter-requires-clause-spare
enter-requires-clause-spare c =
    ap (λ (came : Shared × Outcome). option_map_or reply_len came.1.reply 0) c.step-outcome.ensures.shared
    ∙ shared_step-room c.self.inside.bus c.args.step
    ∙ sym c.reply_len-len.ensures
    ∙ sym c.in-Ok.ensures.spare

-- the bus and the log are those of the replay of one more step
pub invariant_of-self-2 : goal.invariant_of-self-2
invariant_of-self-2 c =
    let old : BookedState = record { bus = c.self.inside.bus; log = c.self.inside.log; limit = c.self.inside.limit } in
    let acts : due old.bus c.args.step ≡ true = search rules in
    let room : length old.log.steps < old.limit = omega (arith, c.self.invariant.0.within) in
    let booked : IsBooked (acted_state old c.args.step) = acted-booked old c.args.step c.self.invariant.0 c.requires.ticket acts room in
    let entered : c.enter.new.log ≡ with_entry old.log c.in-Ok.growth.copy c.step-outcome.result =
    c.enter.ensures old.log c.in-Ok.ensures.lists c.in-Ok.ensures.out in
    let is : record { bus = c.step-outcome.new.self; log = c.enter.new.log; limit = old.limit } ≡ acted_state old c.args.step =
    ap (λ log. record { bus = c.step-outcome.new.self; log = log; limit = old.limit }) entered
    ∙ ap (λ copy. record { bus = c.step-outcome.new.self; log = with_entry old.log copy c.step-outcome.result; limit = old.limit }) c.in-Ok.ensures.copy
    ∙ ap (λ (came : Shared × Outcome). record { bus = came.0; log = with_entry old.log c.args.step came.1; limit = old.limit }) c.step-outcome.ensures.shared in
    let steps : c.enter.new.log.steps ≡ old.log.steps ++ c.args.step ∷ [] = ap (λ (booked : BookedState). booked.log.steps) is in (
      subst IsBooked (sym is) booked,
      subst (λ (turns : List ℕ). IsCounted turns c.enter.new.log.steps) (sym c.count_turn.ensures)
          (subst (λ (list : List Step). IsCounted (with_turn c.self.inside.turns c.args.step) list) (sym steps)
          (counted-more c.self.inside.turns old.log.steps c.args.step c.self.invariant.1)),
    )
