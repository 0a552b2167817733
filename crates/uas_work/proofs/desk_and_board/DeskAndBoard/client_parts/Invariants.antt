use Rattle.std.specs.Prelude.{◌≡◌, ℕ, ◌+◌, ◌<◌, All, get_or, vec_items, vec_len}
use Rattle.std.specs.Vec.Iter.{into_iter_items, into_iter_len}
use Rattle.door_board.specs.Counts.{IsSeatOf}
use Rattle.tag_desk.specs.Seats.{IsClientOf, IsNewCustomer}
use Rattle.uas_work.specs.Parts.{HasRoomForRounds, IsClientPart}
use Rattle.uas_work.proofs.desk_and_board.DeskAndBoard.client_parts.Given as goal

abbrev pub invariant-loop-seat : goal.invariant-loop-seat
invariant-loop-seat l =
    let done = vec_len l.parts in let rest = l.seat-iterator in let shared = l.self in
    (done + into_iter_len rest ≡ shared.clients)
    × (l.client ≡ done)
    × All (IsSeatOf shared.board) (vec_items l.bells)
    × ((k : ℕ) (d : _) → k < into_iter_len rest → IsNewCustomer shared.desk.table shared.desk.tags (done + k) (get_or (into_iter_items rest) k d))
    × ((k : ℕ) (d : _) → k < into_iter_len rest → IsClientOf shared.desk (get_or (into_iter_items rest) k d))
    × ((k : ℕ) (d : _) → k < done → IsClientPart shared.desk shared.board (get_or (vec_items l.parts) k d))
    × ((k : ℕ) (d : _) → k < done → (get_or (vec_items l.parts) k d).client ≡ k)
    × ((k : ℕ) (d : _) → k < done → HasRoomForRounds l.rounds (get_or (vec_items l.parts) k d))
