-- How long the buffer is that the next reply brings.
use Rattle.std.specs.Prelude.{ℕ, List, [], ◌∷◌}
use Rattle.std.specs.Option.{option_map_or}
use Rattle.scsi_cmd.specs.declared.Request.{Request}
use Rattle.scsi_cmd.specs.declared.Request.TheVariants.{Execute, Manage}
use Rattle.scsi_cmd.specs.Op.{moved_bytes}
use Rattle.scsi_cmd.specs.Held.{held_at}
use Rattle.uas_host.specs.declared.HostEntry.{HostEntry}
use Rattle.uas_host.specs.declared.HostClient.{HostClient}
use Rattle.uas_host.specs.State.{HostState, client_of}

-- the buffer of a command has as many bytes as its operation moves; a task management has none
abbrev pub request_len : Request → ℕ
request_len (Execute op) = moved_bytes op
request_len (Manage task noted) = 0

abbrev pub entry_len : HostEntry → ℕ
entry_len held = request_len held.request

-- of the slot that was ready first
abbrev pub first_len : HostClient → List ℕ → ℕ
first_len held [] = 0
first_len held (slot ∷ rest) = option_map_or entry_len (held_at held.entries slot) 0

-- How many bytes the client's next reply brings, 0 where none is ready. A client that isn't there has nothing ready.
abbrev pub next_len : HostState → ℕ → ℕ
next_len host client = first_len (client_of host client) (client_of host client).ready.items
