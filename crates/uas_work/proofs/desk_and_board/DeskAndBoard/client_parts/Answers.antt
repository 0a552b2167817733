use Rattle.std.proofs.Common.{◌≡◌, ℕ, vec_len, rules, refl}
use Rattle.door_board.specs.Counts.{IsSeatOf}
use Rattle.tag_desk.specs.Seats.{Customer, IsClientOf, IsNewCustomer}
use Rattle.uas_work.specs.declared.parts.ClientPart.{ClientPart}
use Rattle.uas_work.specs.Parts.{HasRoomForRounds, IsClientPart}
use Rattle.uas_work.proofs.Rows.{first_of, front_all, last_of, pushed_each, rest_of}
use Rattle.uas_work.proofs.desk_and_board.DeskAndBoard.client_parts.Goals as goal

pub loop-seat-preserved : goal.loop-seat-preserved
loop-seat-preserved c =
    let was = c.loop-seat.invariant in
    let step = c.in-Some.ensures.steps in
    let shared = c.args.self.now in
    let done = vec_len c.loop-seat.parts in
    let popped = c.in-Some-pop.ensures.items in
    let fresh = first_of (IsNewCustomer shared.desk.table shared.desk.tags) done _ _ _ _ _ step.0 step.1 was.3 in
    let own = first_of (λ (i : ℕ) (seat : Customer). IsClientOf shared.desk seat) 0 _ _ _ _ _ step.0 step.1 was.4 in
    let bell = last_of (IsSeatOf shared.board) _ _ _ popped was.2 in (
      search rules,
      search rules,
      front_all (IsSeatOf shared.board) _ _ _ popped was.2,
      rest_of (IsNewCustomer shared.desk.table shared.desk.tags) done _ _ _ _ _ _ step.0 step.1 c.in_ok-push.ensures.len was.3,
      rest_of (λ (i : ℕ) (seat : Customer). IsClientOf shared.desk seat) 0 _ _ 1 _ _ _ step.0 step.1 refl was.4,
      (λ k d below. pushed_each (λ (i : ℕ) (part : ClientPart). IsClientPart shared.desk shared.board part) done _ _ _ (search rules) c.in_ok-push.ensures.items was.5
          (record { own = own; number = search rules; below = search rules; tags = search rules; as_many = search rules; later = search rules; bell = bell }) k d (search rules)),
      (λ k d below. pushed_each (λ i (part : ClientPart). part.client ≡ i) done _ _ _ (search rules) c.in_ok-push.ensures.items was.6 (search rules) k d (search rules)),
      (λ k d below. pushed_each (λ (i : ℕ) (part : ClientPart). HasRoomForRounds c.args.rounds part) done _ _ _ (search rules) c.in_ok-push.ensures.items was.7
          (search rules) k d (search rules)),
    )

pub returns-in_err-push-clause-bells : goal.returns-in_err-push-clause-bells
returns-in_err-push-clause-bells c = front_all (IsSeatOf c.args.self.now.board) _ _ _ c.in-Some-pop.ensures.items c.loop-seat.invariant.2
