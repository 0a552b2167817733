-- SHUTTING DOWN: what comes behind each of the controller's steps.
use Rattle.std.specs.Prelude.{if◌then◌else◌, Bool, true, false}
use Rattle.bring_up.specs.declared.step.Ended.{Ended}
use Rattle.bring_up.specs.declared.step.Ended.TheVariants as ended
use Rattle.bring_up.specs.declared.step.Step.{Step}
use Rattle.bring_up.specs.declared.step.Step.TheVariants as step
use Rattle.block_driver.specs.declared.closing.Closing.{Closing}
use Rattle.block_driver.specs.declared.closing.Closing.TheVariants as closing
use Rattle.block_driver.specs.declared.closing.ShutStep.{ShutStep}
use Rattle.block_driver.specs.declared.closing.ShutStep.TheVariants.{Stay, Halt, Leave}
use Rattle.block_driver.specs.Turns.{is_step_back}

abbrev pub is_kept : Closing → Bool
is_kept closing.Open = true
is_kept _ = false

-- a controller that is dead, or can't be halted, isn't halted
abbrev pub can_end : Ended → Bool
can_end ended.Addressed = true
can_end (ended.Refused why) = false
can_end ended.Dead = false

-- behind Disable Slot, or the controller's reset
abbrev pub can_halt : Step → Bool
can_halt (step.Ended at) = can_end at
can_halt at = is_step_back at

abbrev pub is_program : Step → Bool
is_program (step.Program at) = true
is_program _ = false

abbrev pub shutting : Closing → Step → ShutStep
shutting closing.Open at = Stay
shutting closing.Draining at = if can_halt at then Halt else Stay
shutting closing.Halting at = if is_program at then Leave else Stay
shutting closing.Stopped at = Stay
