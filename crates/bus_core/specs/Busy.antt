-- Of which tags the device has a task.
use Rattle.std.specs.Prelude.{◌≡◌, ℕ, ◌<◌, Bool, true, false, Option, Some, None}
use Rattle.solo_model.specs.declared.Phase.{Phase}
use Rattle.solo_model.specs.declared.Phase.TheVariants.{Queued, Begun, Sent, Gone}
use Rattle.shared_machine.specs.Td.{Entry}
use Rattle.shared_machine.specs.Shared.{Shared, place_fact}

-- the device received it, and neither handed its answer over nor ended it for a task management
abbrev pub is_begun : Phase → Bool
is_begun Queued = false
is_begun (Begun progress) = true
is_begun (Sent answer) = false
is_begun Gone = false

abbrev pub has_begun : Entry → Bool
has_begun entry = is_begun entry.task.phase

-- A tag is busy while the device has a task of it: a command or a task management that it has begun.
abbrev pub is_busy : Shared → ℕ → Bool
is_busy state tag = place_fact state tag has_begun

-- The least busy tag above this one, or none where no tag above it is busy. Checked by hand: of tags 3 and 5 busy it is 3 above 0, 5 above 3
-- and above 4, and none above 5.
abbrev pub IsNextBusy : Shared → ℕ → Option ℕ → Type 0
IsNextBusy state tag None = (other : ℕ) → tag < other → is_busy state other ≡ false
IsNextBusy state tag (Some next) =
    (tag < next) × (is_busy state next ≡ true) × ((other : ℕ) → tag < other → other < next → is_busy state other ≡ false)
