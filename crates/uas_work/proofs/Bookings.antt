-- A booked step keeps what is true of a bus and its log.
use Rattle.std.proofs.Common.{◌≡◌, ◌<◌, true, false, [], ◌∷◌, length, length-append, arith, ap, ◌∙◌}
use Rattle.std.specs.Prelude.{if◌then◌else◌}
use Rattle.shared_machine.specs.declared.Step.{Step}
use Rattle.shared_machine.specs.declared.Outcome.{Outcome}
use Rattle.shared_machine.specs.Bus.{HasTicket}
use Rattle.shared_machine.specs.Shared.{Shared, due, idle, shared_step}
use Rattle.shared_machine.proofs.Due.{shared_step-idle}
use Rattle.shared_machine.proofs.NumberOfTags.{kept-tags}
use Rattle.uas_log.specs.Booking.{with_entry}
use Rattle.uas_log.proofs.Replays.{with_entry-state, with_entry-true}
use Rattle.uas_work.specs.Booked.{BookedState, IsBooked, booked_step}

-- the bus and the log after a step that acts
abbrev pub acted_state : BookedState → Step → BookedState
acted_state old step = record old {
  bus = (shared_step old.bus step).0;
  log = with_entry old.log step (shared_step old.bus step).1;
}

-- what is true of them stays true, where the log has room
pub acted-booked : (old : BookedState) (step : Step) → IsBooked old → HasTicket step → due old.bus step ≡ true → length old.log.steps < old.limit
    → IsBooked (acted_state old step)
acted-booked old step it has is room = record {
  tags = kept-tags old.bus step ∙ it.tags;
  bus = with_entry-state old.log step (shared_step old.bus step).1 old.bus it.bus;
  log = with_entry-true old.log step old.bus it.log it.bus has is;
  within = omega (arith, length-append old.log.steps (step ∷ []));
  limit = it.limit;
}

-- it is the booked step
pub acted-step : (old : BookedState) (step : Step) → due old.bus step ≡ true → booked_step old step ≡ (acted_state old step, (shared_step old.bus step).1)
acted-step old step is =
    ap (λ acts. (
      record old {
        bus = (shared_step old.bus step).0;
        log = if acts then with_entry old.log step (shared_step old.bus step).1 else old.log;
      },
      (shared_step old.bus step).1,
    )) is

-- an idle step changes nothing
pub idle-step : (old : BookedState) (step : Step) → due old.bus step ≡ false → booked_step old step ≡ (old, idle)
idle-step old step is =
    ap (λ acts. (
      record old {
        bus = (shared_step old.bus step).0;
        log = if acts then with_entry old.log step (shared_step old.bus step).1 else old.log;
      },
      (shared_step old.bus step).1,
    )) is
    ∙ ap (λ (came : Shared × Outcome). (record old { bus = came.0 }, came.1)) (shared_step-idle old.bus step is)
