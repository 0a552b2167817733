use Rattle.std.proofs.Common.{◌≢◌, ℕ, ◌<◌, get_or}
use Rattle.tag_desk.specs.Seats.{Customer}
use Rattle.tag_desk.proofs.closing.client_place.Given as goal

-- none before this place is the client's
abbrev pub invariant-loop-place : goal.invariant-loop-place
invariant-loop-place l = (j : ℕ) (d : Customer) → j < l.place → (get_or l.seats j d).client ≢ l.client
