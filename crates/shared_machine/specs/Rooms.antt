-- How many bytes a step's reply brings, told before the step.
use Rattle.std.specs.Prelude.{◌≡◌, ℕ}
use Rattle.std.specs.Option.{option_map_or}
use Rattle.shared_machine.specs.declared.Step.{Step}
use Rattle.shared_machine.specs.declared.Step.TheVariants.{Submit, Task, CommandPipe, Data, Status, Engine, Event, Retire, Take}
use Rattle.shared_machine.specs.Shared.{Shared, shared_step}
use Rattle.shared_machine.specs.Laws.{next_len, reply_len}

-- only a Take brings a reply
abbrev pub step_len : Shared → Step → ℕ
step_len state (Submit client tag ticket command) = 0
step_len state (Task client ticket task) = 0
step_len state CommandPipe = 0
step_len state (Data tag) = 0
step_len state (Status tag) = 0
step_len state Engine = 0
step_len state Event = 0
step_len state (Retire pipe tag) = 0
step_len state (Take client) = next_len state client

-- a step's reply brings as many bytes as was told of it, and no reply brings none
abbrev pub StepBringsItsLen : Type 0
StepBringsItsLen = (state : Shared) (step : Step) → option_map_or reply_len (shared_step state step).1.reply 0 ≡ step_len state step
