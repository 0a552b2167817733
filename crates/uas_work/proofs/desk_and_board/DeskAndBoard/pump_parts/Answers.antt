use Rattle.std.proofs.Common.{◌≡◌, ℕ, ◌*◌, vec_len, rules, refl, sym, ap, subst}
use Rattle.door_board.specs.Counts.{IsSeatOf}
use Rattle.tag_desk.specs.Seats.{Server, IsPumpOf, IsServerBelow}
use Rattle.uas_work.specs.declared.parts.PumpPart.{PumpPart}
use Rattle.uas_work.specs.Parts.{IsPumpPart}
use Rattle.uas_work.proofs.Homes.{home_accounted, new_home}
use Rattle.uas_work.proofs.Rows.{first_of, front_all, last_of, pushed_each, rest_of}
use Rattle.uas_work.proofs.desk_and_board.DeskAndBoard.pump_parts.Goals as goal

pub loop-seat-preserved : goal.loop-seat-preserved
loop-seat-preserved c =
    let was = c.loop-seat.invariant in
    let step = c.in-Some.ensures.steps in
    let shared = c.args.self.now in
    let done = vec_len c.loop-seat.parts in
    let popped = c.in-Some-pop.ensures.items in
    let fresh = first_of (IsServerBelow shared.desk (shared.desk.tags * shared.clients)) done _ _ _ _ _ step.0 step.1 was.3 in
    let all : shared.desk.tags * shared.clients ≡ shared.desk.tags * shared.desk.clients = ap (λ (n : ℕ). shared.desk.tags * n) (sym shared.made.for_clients) in
    let here : IsServerBelow shared.desk (shared.desk.tags * shared.desk.clients) done c.in-Some.seat =
    subst (λ (n : ℕ). IsServerBelow shared.desk n done c.in-Some.seat) all fresh in
    let own = first_of (λ (i : ℕ) (seat : Server). IsPumpOf shared.desk seat) 0 _ _ _ _ _ step.0 step.1 was.4 in
    let bell = last_of (IsSeatOf shared.board) _ _ _ popped was.2 in (
      search rules,
      search rules,
      front_all (IsSeatOf shared.board) _ _ _ popped was.2,
      rest_of (IsServerBelow shared.desk (shared.desk.tags * shared.clients)) done _ _ _ _ _ _ step.0 step.1 c.in_ok-push.ensures.len was.3,
      rest_of (λ (i : ℕ) (seat : Server). IsPumpOf shared.desk seat) 0 _ _ 1 _ _ _ step.0 step.1 refl was.4,
      (λ k d below. pushed_each (λ (i : ℕ) (part : PumpPart). IsPumpPart shared.desk shared.board part) done _ _ _ (search rules) c.in_ok-push.ensures.items was.5
          (record {
            own = own;
            number = search rules;
            held = c.in_ok-held.ensures.held shared.desk c.in-Some.seat (sym c.tags-tags.ensures.tags) shared.made.for_clients;
            whole = home_accounted shared.desk c.in-Some.seat _ (new_home shared.desk done c.in-Some.seat here);
            bell = bell;
          }) k d (search rules)),
      (λ k d below. pushed_each (λ i (part : PumpPart). part.pump ≡ i) done _ _ _ (search rules) c.in_ok-push.ensures.items was.6 (search rules) k d (search rules)),
    )
