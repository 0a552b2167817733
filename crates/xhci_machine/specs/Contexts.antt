-- When an endpoint has a step. While the port is suspended it has none (xHCI 1.2, 4.15.1), and a tag has none while nothing serves tags. The device context is tested before a step that may change
-- an endpoint's state in it (4.8.3 and 4.10.2.6): where a byte of it isn't there nothing of the step is done.
use Rattle.std.specs.Prelude.{Bool, ◌&&◌, if◌then◌else◌, Option, Some, None, is_some}
use Rattle.guest_memory.specs.Bytes.{Memory}
use Rattle.guest_memory.specs.declared.rings.wanting.Range.{Range}
use Rattle.guest_memory.specs.rings.Events.{has_room}
use Rattle.guest_pipes.specs.declared.acted.Acted.{Acted}
use Rattle.guest_pipes.specs.declared.acted.Acted.TheVariants.{Idle}
use Rattle.guest_pipes.specs.declared.consumer.Consumer.{Consumer}
use Rattle.guest_pipes.specs.Gate.{is_running}
use Rattle.xhci_slots.specs.declared.contexts.SlotState.{SlotState}
use Rattle.xhci_slots.specs.declared.contexts.SlotState.TheVariants.{Enabled, Default, Addressed, Configured}
use Rattle.xhci_registers.specs.Ports.{is_suspended}
use Rattle.xhci_slots.specs.declared.Slot.{Slot}
use Rattle.xhci_slots.specs.Wanted.{tell_wanted}
use Rattle.xhci_machine.specs.declared.Machine.{Machine}
use Rattle.xhci_machine.specs.Bus.{has_no_tags}
use Rattle.xhci_machine.specs.Turns.{World}

-- the device context, where the slot has one and a byte of it isn't there
abbrev pub context_wanted_in : Memory → Slot → Option SlotState → Option Range
context_wanted_in memory slot None = None
context_wanted_in memory slot (Some Enabled) = None
context_wanted_in memory slot (Some Default) = tell_wanted (record { memory = memory; slot = slot })
context_wanted_in memory slot (Some Addressed) = tell_wanted (record { memory = memory; slot = slot })
context_wanted_in memory slot (Some Configured) = tell_wanted (record { memory = memory; slot = slot })

abbrev pub context_wanted : Memory → Slot → Option Range
context_wanted memory slot = context_wanted_in memory slot slot.state

-- a ring that is looked at: its endpoint runs, and its doorbell was rung
abbrev pub is_due : Consumer → Bool
is_due consumer = is_running consumer.state && consumer.rung

-- a step that isn't due, or that a full event ring holds back, doesn't need the context
abbrev pub lacks_context : World → Bool → Bool
lacks_context w due = due && (has_room w.events && is_some (context_wanted w.memory w.machine.slot))

abbrev pub in_context : World → Bool → World × Option Acted → World × Option Acted
in_context w due step = if lacks_context w due then (w, None) else step

-- the port is suspended: its link is in U3
abbrev pub is_asleep : Machine → Bool
is_asleep m = is_suspended m.registers.port.link

-- a step of an endpoint: none is due while the port is suspended, and the doorbells stay (4.15.1)
abbrev pub of_endpoint : World → Bool → World × Option Acted → World × Option Acted
of_endpoint w due step = if is_asleep w.machine then (w, Some Idle) else in_context w due step

-- a step of a tag: none is due while nothing serves tags
abbrev pub of_tag : World → World × Option Acted → World × Option Acted
of_tag w step = if has_no_tags w.machine then (w, Some Idle) else step
