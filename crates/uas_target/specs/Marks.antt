-- Which places of a list hold something, as a mark of each.
use Rattle.std.specs.Prelude.{◌≡◌, ℕ, List, Option, is_some}
use Rattle.marks.specs.Marks.{is_marked}
use Rattle.scsi_cmd.specs.Held.{held_at}

-- exactly the places that hold something are marked
abbrev pub MarksHeld : {T : Type 0} → List ℕ → List (Option T) → Type 0
MarksHeld words places = (place : ℕ) → is_marked words place ≡ is_some (held_at places place)
