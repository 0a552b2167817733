-- A Port Status Change Event of the port whose device has its address: what PORTSC then says (xHCI 1.2, 4.19 and 5.4.8).
use Rattle.std.specs.Prelude.{ℕ, ◌/◌, ◌%◌, ◌^◌, ◌==◌, ◌||◌, not, if◌then◌else◌, Option, Some, None}
use Rattle.host_trbs.specs.declared.events.Event.{Event}
use Rattle.host_trbs.specs.declared.events.Event.TheVariants as event
use Rattle.bring_up.specs.declared.access.Access.{Access}
use Rattle.bring_up.specs.declared.commands.Asked.TheVariants.{Forget}
use Rattle.bring_up.specs.declared.controller.Controller.{Controller}
use Rattle.bring_up.specs.declared.checks.Checked.{Checked}
use Rattle.bring_up.specs.declared.checks.Checked.TheVariants.{On, Unplugged, Lost, Same}
use Rattle.bring_up.specs.declared.checks.PortCheck.{PortCheck}
use Rattle.bring_up.specs.declared.checks.PortCheck.TheVariants.{Read, Clear}
use Rattle.bring_up.specs.declared.service.Service.{Service}
use Rattle.bring_up.specs.declared.taken.Taken.{Taken}
use Rattle.bring_up.specs.Completions.{tried_again}
use Rattle.bring_up.specs.PortRows.{changes_cleared, changes_in, port_read, port_written}
use Rattle.bring_up.specs.Registers.{is_set}
use Rattle.bring_up.specs.Services.{next_event, service_access}
use Rattle.bring_up.specs.Slots.{command_begun}
use Rattle.bring_up.specs.Table.{with_step}

abbrev pub check_access : PortCheck → Controller → ℕ → Access
check_access Read c number = port_read c number
check_access (Clear value) c number = port_written c number (changes_cleared value)

-- Current Connect Status, bit 0, is 0; Port Enabled, bit 1, is 0, or the link is Inactive, 6
abbrev pub check_read : ℕ → Checked
check_read value =
    if not (is_set value 0) then Unplugged
    else if not (is_set value 1) || (value / 2 ^ 5 % 16 == 6) then Lost
    else Same

-- change bits are cleared first
abbrev pub check_after : PortCheck → ℕ → Checked
check_after Read value = if changes_in value == 0 then check_read value else On (Clear value)
check_after (Clear old) value = check_read old

-- an event was read
abbrev pub check_begun : Event → ℕ → Option PortCheck
check_begun (event.Port port) number = if port == number then Some Read else None
check_begun (event.Transfer trb residual code endpoint slot) number = None
check_begun (event.Command trb code slot) number = None
check_begun (event.Controller code) number = None
check_begun (event.Other kind) number = None

abbrev pub event_passed : Taken → Event → Taken
event_passed t came = record t { events = next_event t.events; check = check_begun came t.device.port.number }

-- a look for events of a device that has its address: the check comes first
abbrev pub look_access : Option PortCheck → Taken → Service → Access
look_access None t service = service_access service t.controller t.layout t.events
look_access (Some check) t service = check_access check t.controller t.device.port.number

-- a device that was pulled loses its slot, and ports are looked at; one whose link is lost is tried again; else all goes on where it was
abbrev pub checked_as : Checked → Taken → Taken
checked_as (On check) t = record t { check = Some check }
checked_as Unplugged t = with_step (record t { check = None }) (command_begun t.commands Forget)
checked_as Lost t = tried_again (record t { check = None })
checked_as Same t = record t { check = None }

abbrev pub check_advanced : Taken → PortCheck → ℕ → Taken
check_advanced t check value = checked_as (check_after check value) t
