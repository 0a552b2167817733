use Rattle.std.proofs.Common.{◌≢◌, ℕ, ◌<◌, get_or}
use Rattle.tag_desk.specs.Seats.{Server}
use Rattle.tag_desk.proofs.closing.pump_place.Given as goal

-- none before this place is the pump's
abbrev pub invariant-loop-place : goal.invariant-loop-place
invariant-loop-place l = (j : ℕ) (d : Server) → j < l.place → (get_or l.seats j d).pump ≢ l.pump
