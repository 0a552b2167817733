use Rattle.std.specs.Prelude.{◌≡◌, ℕ, ◌+◌, ◌<◌, ◌≤◌, get_or, vec_items, vec_len, vec_capacity}
use Rattle.std.specs.Vec.Iter.{into_iter_items, into_iter_len}
use Rattle.uas_work.specs.Parts.{IsSeatOfPump, IsStartedPump}
use Rattle.uas_work.proofs.desk_and_board.DeskAndBoard.joined_pumps.Given as goal

abbrev pub invariant-loop-hand : goal.invariant-loop-hand
invariant-loop-hand g l =
    let done = vec_len l.seats in let rest = l.hand-iterator in let shared = l.self in
    (done + into_iter_len rest ≡ shared.pumps)
    × (shared.pumps ≤ vec_capacity l.seats)
    × ((k : ℕ) (d : _) → k < into_iter_len rest → IsStartedPump shared.desk (done + k) (get_or (into_iter_items rest) k d))
    × ((k : ℕ) (d : _) → k < done → IsSeatOfPump shared.desk k (get_or (vec_items l.seats) k d))
