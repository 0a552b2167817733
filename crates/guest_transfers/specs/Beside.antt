-- A memory with another beside it: a caller's copies, and all of his memory.
use Rattle.std.specs.Prelude.{ℕ, ◌≤◌, [], length as list_length, Option, unwrap_or}
use Rattle.std.specs.Option.{option_or}
use Rattle.guest_memory.specs.Bytes.{Memory}
use Rattle.guest_pipes.specs.declared.acted.Acted.{Acted}
use Rattle.guest_tags.specs.Devices.{Kind}
use Rattle.guest_tags.specs.Wanted.{given_next}
use Rattle.guest_transfers.specs.State.{TransfersWorld}

-- what a memory holds, and for what it lacks what another holds
abbrev pub beside : Memory → Memory → Memory
beside memory rest a = option_or (memory a) (rest a)

module _ {D : Type 0} where
  -- all that a step may change, with that memory beside
  abbrev pub world_beside : TransfersWorld D → Memory → TransfersWorld D
  world_beside w rest = record w { memory = beside w.memory rest }

  -- a step, with that memory beside
  abbrev pub step_beside : TransfersWorld D × Option Acted → Memory → TransfersWorld D × Option Acted
  step_beside done rest = (world_beside done.0 rest, done.1)

  -- the next chunk that a device gives for a tag has no more bytes than it says
  abbrev pub GivesAtMost : Kind D → D → ℕ → Type 0
  GivesAtMost kind device tag = list_length (unwrap_or (kind.given device tag) []) ≤ given_next (kind.phase device tag)
