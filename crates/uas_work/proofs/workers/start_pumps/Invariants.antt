use Rattle.std.specs.Prelude.{◌≡◌, ℕ, ◌+◌, ◌<◌, ◌≤◌, get_or, vec_items, vec_len, vec_capacity}
use Rattle.std.specs.Vec.Iter.{into_iter_items, into_iter_len}
use Rattle.uas_work.specs.Parts.{IsPumpPart, IsStartedPump}
use Rattle.uas_work.proofs.workers.start_pumps.Given as goal

abbrev pub invariant-loop-part : goal.invariant-loop-part
invariant-loop-part g l =
    let done = vec_len l.hands in let rest = l.part-iterator in let shared = l.shared in
    (done + into_iter_len rest ≡ shared.pumps)
    × (shared.pumps ≤ vec_capacity l.hands)
    × ((k : ℕ) (d : _) → k < into_iter_len rest → IsPumpPart shared.desk shared.board (get_or (into_iter_items rest) k d))
    × ((k : ℕ) (d : _) → k < into_iter_len rest → (get_or (into_iter_items rest) k d).pump ≡ done + k)
    × ((k : ℕ) (d : _) → k < done → IsStartedPump shared.desk k (get_or (vec_items l.hands) k d))
