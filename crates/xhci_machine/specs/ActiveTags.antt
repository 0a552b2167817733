-- The active tags as bytes: their numbers rising (2 each), and FFFFh behind the last.
use Rattle.std.specs.Prelude.{ℕ, zero, suc, Bool, true, false, not, List, [], ◌∷◌}
use Rattle.guest_tasks.specs.declared.GuestTasks.{GuestTasks}
use Rattle.machine_bytes.specs.Forms.{Form, nothing}
use Rattle.machine_bytes.specs.Sparse.{PlaceForm, sparse}
use Rattle.marks.specs.Marks.{is_marked}

-- whether each of so many tags from one on is active
abbrev pub marks_from : List ℕ → ℕ → ℕ → List Bool
marks_from words at zero = []
marks_from words at (suc count) = is_marked words at ∷ marks_from words (suc at) count

-- whether each tag below 256 is
unfoldable pub active_of : GuestTasks → List Bool
active_of device = marks_from device.active 0 256

-- of an active tag stands its number alone, of another nothing
abbrev pub mark_place : PlaceForm Bool
mark_place = record { form = nothing true; is_fresh = not }

abbrev pub active_form : Form (List Bool)
active_form = sparse 256 false mark_place
