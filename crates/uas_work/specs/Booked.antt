-- A bus with its log, and what a booked step does.
use Rattle.std.specs.Prelude.{◌≡◌, ℕ, ◌+◌, ◌<◌, ◌≤◌, ◌^◌, ◌==◌, false, List, length, take, map, cond, if◌then◌else◌, slice_index, slice_set, sum_by}
use Rattle.block_unit.specs.BlockMaps.{BlockMaps}
use Rattle.uas_profile.specs.declared.TheConstants.{MAX_CLIENTS}
use Rattle.shared_machine.specs.declared.Step.{Step}
use Rattle.shared_machine.specs.declared.Step.TheVariants.{Submit, Task, CommandPipe, Data, Status, Engine, Event, Retire, Take}
use Rattle.shared_machine.specs.declared.Outcome.{Outcome}
use Rattle.shared_machine.specs.Shared.{Shared, due, opening, shared_step}
use Rattle.uas_log.specs.declared.FirstUnit.{FirstUnit}
use Rattle.uas_log.specs.declared.Log.{Log}
use Rattle.uas_log.specs.Booking.{IsReplay, empty_log, log_replay, with_entry}

-- the bus as the shared machine, its log, and how many steps the log may hold
pub record BookedState : Type 0 where
  pub bus : Shared
  pub log : Log
  pub limit : ℕ

-- The bus is what its log's replay comes to, and what the log tells beside its steps is that replay's. Both have the same number of tags.
pub record IsBooked (booked : BookedState) : Type 0 where
  pub tags : booked.bus.tags ≡ booked.log.tags
  pub bus : (log_replay booked.log).0 ≡ booked.bus
  pub log : IsReplay booked.log
  pub within : length booked.log.steps ≤ booked.limit
  pub limit : booked.limit < 2 ^ 32

-- THE OPENING

-- a unit that is as new: its medium has its blocks, and no attention is established
pub record IsNew (unit : BlockMaps) : Type 0 where
  pub medium : unit.medium ≡ unit.blocks
  pub attention : unit.attention ≡ false

-- what a log keeps of it
abbrev pub first_unit : BlockMaps → FirstUnit
first_unit unit = record { blocks = unit.blocks; bad = unit.bad }

-- a bus of new units that took no step, with so many tags of each client, and its log
abbrev pub new_booked : ℕ → List BlockMaps → ℕ → BookedState
new_booked tags units limit = record { bus = opening tags units; log = empty_log tags (map first_unit units); limit = limit }

-- A STEP

-- an idle step isn't booked
abbrev pub booked_log : Shared → Log → Step → Outcome → Log
booked_log bus log step outcome = if due bus step then with_entry log step outcome else log

-- A booked step: the shared machine's, and its log is longer by the step unless that is idle.
abbrev pub booked_step : BookedState → Step → BookedState × Outcome
booked_step old step = (
  record old { bus = (shared_step old.bus step).0; log = booked_log old.bus old.log step (shared_step old.bus step).1 },
  (shared_step old.bus step).1,
)

-- a bus with more steps: its number of tags, its logical units and its limit are the same, and its steps begin with those that it had
pub record IsLater (first now : BookedState) : Type 0 where
  pub tags : now.log.tags ≡ first.log.tags
  pub units : now.log.units ≡ first.log.units
  pub limit : now.limit ≡ first.limit
  pub steps : take (length first.log.steps) now.log.steps ≡ first.log.steps

-- TURNS

-- a step is a submission of this client
abbrev pub asked_by : ℕ → Step → ℕ
asked_by client (Submit owner tag ticket command) = cond (owner == client) 1 0
asked_by client (Task owner ticket task) = cond (owner == client) 1 0
asked_by client CommandPipe = 0
asked_by client (Data tag) = 0
asked_by client (Status tag) = 0
asked_by client Engine = 0
asked_by client Event = 0
asked_by client (Retire pipe tag) = 0
asked_by client (Take owner) = 0

-- how many submissions of a client are among these steps
abbrev pub turns_in : ℕ → List Step → ℕ
turns_in client steps = sum_by (asked_by client) steps

-- so many submissions of each client are counted
abbrev pub IsCounted : List ℕ → List Step → Type 0
IsCounted turns steps = (length turns ≡ MAX_CLIENTS) × ((client : ℕ) → client < MAX_CLIENTS → slice_index turns client ≡ turns_in client steps)

-- one more of a client
abbrev pub with_turn_of : List ℕ → ℕ → List ℕ
with_turn_of turns client = slice_set turns client (slice_index turns client + 1)

-- the counts with a step; a client past those that a bus can have isn't counted
abbrev pub with_turn : List ℕ → Step → List ℕ
with_turn turns (Submit owner tag ticket command) = with_turn_of turns owner
with_turn turns (Task owner ticket task) = with_turn_of turns owner
with_turn turns CommandPipe = turns
with_turn turns (Data tag) = turns
with_turn turns (Status tag) = turns
with_turn turns Engine = turns
with_turn turns Event = turns
with_turn turns (Retire pipe tag) = turns
with_turn turns (Take owner) = turns
