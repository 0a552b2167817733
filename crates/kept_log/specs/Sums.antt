-- At which step of a log a checksum stands.
use Rattle.std.specs.Prelude.{ℕ, suc, ◌==◌, nat_le, if◌then◌else◌, List, [], ◌∷◌, ◌++◌, length, map, Option, Some, None, option_map, Result, Ok, Err}
use Rattle.log_records.specs.Records.{sum_after}
use Rattle.kept_log.specs.declared.KeptFault.{KeptFault}
use Rattle.kept_log.specs.declared.Loaded.{Loaded}
use Rattle.kept_log.specs.Form.{Kept, end_bodies, entry_text, head_sum}
use Rattle.kept_log.specs.LoadAt.{load_at}

-- the bodies of a log's records: of its steps, and of its end where it has one
abbrev pub bodies_of : Kept → List (List ℕ)
bodies_of kept = map entry_text kept.entries ++ end_bodies (length kept.entries) kept.ending

-- Behind how many records a checksum stands first: behind none where it is the one before them.
abbrev pub place_of : ℕ → ℕ → List (List ℕ) → Option ℕ
place_of wanted before [] = if before == wanted then Some 0 else None
place_of wanted before (body ∷ bodies) =
    if before == wanted then Some 0 else option_map (λ place. suc place) (place_of wanted (sum_after before body) bodies)

-- behind so many records of a log so many of its steps stand: the end's record is no step
abbrev pub steps_up_to : ℕ → ℕ → ℕ
steps_up_to steps place = if nat_le place steps then place else steps

-- How many steps stand in a log up to the first checksum that is this one: none up to its head's.
abbrev pub step_of_sum : ℕ → Kept → Option ℕ
step_of_sum wanted kept = option_map (steps_up_to (length kept.entries)) (place_of wanted (head_sum kept.tags kept.units) (bodies_of kept))

-- and in the log of a text, where it has one
abbrev pub step_of_loaded : ℕ → Result Loaded KeptFault → Option ℕ
step_of_loaded wanted (Ok loaded) = step_of_sum wanted loaded.log
step_of_loaded wanted (Err fault) = None

abbrev pub step_in : ℕ → List ℕ → Option ℕ
step_in wanted text = step_of_loaded wanted (load_at text)
