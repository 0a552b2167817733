-- What a caller sees: the rows of the table.
use Rattle.std.specs.Prelude.{ℕ, Option, None}
use Rattle.bring_up.specs.declared.bring_up.Stage.{Stage}
use Rattle.bring_up.specs.declared.bring_up.Stage.TheVariants.{Surveying, Wanting, Taken, Refused, Gone}
use Rattle.bring_up.specs.declared.commands.Asked.{Asked}
use Rattle.bring_up.specs.declared.commands.Asked.TheVariants as asked
use Rattle.bring_up.specs.declared.slots.Addressing.{Addressing}
use Rattle.bring_up.specs.declared.slots.Addressing.TheVariants as addressing
use Rattle.bring_up.specs.declared.state.State.{State}
use Rattle.bring_up.specs.declared.state.State.TheVariants as state
use Rattle.bring_up.specs.declared.step.Ended.{Ended}
use Rattle.bring_up.specs.declared.step.Ended.TheVariants as ended
use Rattle.bring_up.specs.declared.step.Row.{Row}
use Rattle.bring_up.specs.declared.step.Row.TheVariants as row
use Rattle.bring_up.specs.declared.step.Step.{Step}
use Rattle.bring_up.specs.declared.step.Step.TheVariants as step
use Rattle.bring_up.specs.declared.why.Why.{Why}
use Rattle.bring_up.specs.Table.{port_state}

-- 10: up to the slot's device context; 11: the rest
abbrev pub addressing_row : Addressing → Row
addressing_row addressing.ControlRing = row.EnableSlot
addressing_row addressing.InputContext = row.EnableSlot
addressing_row addressing.DeviceContext = row.EnableSlot
addressing_row addressing.Entry = row.EnableSlot
addressing_row addressing.Flags = row.AddressDevice
addressing_row addressing.Slot = row.AddressDevice
addressing_row addressing.Endpoint = row.AddressDevice
addressing_row (addressing.Settle until) = row.AddressDevice

abbrev pub asked_row : Asked → Row
asked_row asked.EnableSlot = row.EnableSlot
asked_row asked.AddressDevice = row.AddressDevice
asked_row asked.ResetPort = row.DisableSlot
asked_row asked.Forget = row.DisableSlot
asked_row (asked.Refuse why) = row.DisableSlot

abbrev pub ended_state : Ended → State
ended_state ended.Addressed = state.Addressed
ended_state (ended.Refused why) = state.Refused why
ended_state ended.Dead = state.Dead

abbrev pub step_state : Step → State
step_state (step.Handoff at) = state.BringingUp row.Handoff
step_state (step.Halt at) = state.BringingUp row.Halt
step_state (step.Reset at) = state.BringingUp row.Reset
step_state (step.Program at) = state.BringingUp row.Program
step_state (step.Run at) = state.BringingUp row.Run
step_state (step.Ports at) = state.BringingUp row.Ports
step_state (step.PortReset at) = state.BringingUp row.PortReset
step_state (step.Addressing at) = state.BringingUp (addressing_row at)
step_state (step.Command asked at) = state.BringingUp (asked_row asked)
step_state (step.Serve asked came service) = state.BringingUp (asked_row asked)
step_state (step.Watch service) = state.NoDevice
step_state (step.Ended how) = ended_state how

abbrev pub stage_state : Stage → ℕ → State
stage_state (Surveying s) bytes = state.Surveying
stage_state (Wanting c) bytes = state.WantsMemory bytes
stage_state (Taken t) bytes = step_state t.step
stage_state (Refused why) bytes = state.Refused why
stage_state Gone bytes = state.Gone

abbrev pub refusal_at : Stage → ℕ → Option Why
refusal_at (Surveying s) port = None
refusal_at (Wanting c) port = None
refusal_at (Taken t) port = (port_state t.ports port).refused
refusal_at (Refused why) port = None
refusal_at Gone port = None
