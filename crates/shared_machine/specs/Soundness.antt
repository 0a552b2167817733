-- What of an entry is counted, and which slots are ready.
use Rattle.std.specs.Prelude.{◌≡◌, ℕ, List, Option, Some, None}
use Rattle.scsi_cmd.specs.Held.{held_at}
pub use Rattle.uas_profile.specs.TdStates.{one_if, times_in}
use Rattle.shared_machine.specs.declared.Td.{Td}
use Rattle.shared_machine.specs.Td.{Entry, is_awaited, is_ready}

abbrev pub awaited_data : ℕ → Option Td → ℕ
awaited_data trbs None = 0
awaited_data trbs (Some td) = one_if (is_awaited td trbs)

abbrev pub readied_of : Option Entry → ℕ
readied_of None = 0
readied_of (Some entry) = one_if (is_ready entry)

-- the slots whose entries are ready are queued, each once, and no other slot is
abbrev pub AreReady : List (Option Entry) → List ℕ → Type 0
AreReady entries queue = (slot : ℕ) → times_in slot queue ≡ readied_of (held_at entries slot)
