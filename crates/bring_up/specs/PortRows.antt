-- Rows 8 and 9: the ports of USB 3, and the reset of one (xHCI 1.2, 4.19 and 5.4.8). Limits are in ms; ports are read each 10 ms.
use Rattle.std.specs.Prelude.{ℕ, ◌/◌, ◌%◌, ◌^◌, ◌==◌, ◌&&◌, ◌||◌, nat_le, nat_lt, not, if◌then◌else◌, Bool, true, false, Option, Some, None, is_some, is_none, bit_and, bit_or}
use Rattle.bring_up.specs.declared.access.Access.{Access}
use Rattle.bring_up.specs.declared.access.Access.TheVariants.{Rest}
use Rattle.bring_up.specs.declared.controller.Controller.{Controller}
use Rattle.bring_up.specs.declared.controller.Port.{Port}
use Rattle.bring_up.specs.declared.controller.PortPlace.{PortPlace}
use Rattle.bring_up.specs.declared.ports.PortReset.{PortReset}
use Rattle.bring_up.specs.declared.ports.PortReset.TheVariants as port_reset
use Rattle.bring_up.specs.declared.ports.PortState.{PortState}
use Rattle.bring_up.specs.declared.ports.Ports.{Ports}
use Rattle.bring_up.specs.declared.ports.Ports.TheVariants.{Power, PowerOn, Settle, Look, ClearChanges, Pause, Warm, WarmReset}
use Rattle.bring_up.specs.declared.step.Step.{Step}
use Rattle.bring_up.specs.declared.step.Step.TheVariants as step
use Rattle.bring_up.specs.Accesses.{later, read_at, write_at}
use Rattle.bring_up.specs.Registers.{first_place, is_set, next_place, port_at, port_register}
use Rattle.bring_up.specs.Services.{watch_begun}
use Rattle.bring_up.specs.Waits.{wait_access}

-- PORTSC with its wake bits, indicators, power and link state: Port Enabled written 1 disables the port, and a change bit written 1 is cleared
abbrev pub neutral : ℕ → ℕ
neutral value = bit_and value 0x0e00c3e0

-- the change bits, 23:17; each is cleared by a 1. A Port Status Change Event comes only where all were 0 (4.19.2).
abbrev pub changes_in : ℕ → ℕ
changes_in value = bit_and value 0xfe0000

abbrev pub changes_cleared : ℕ → ℕ
changes_cleared value = bit_or (neutral value) (changes_in value)

-- Port Link State, bits 8:5: Inactive, Polling or Compliance Mode; or Cold Attach Status, bit 24
abbrev pub needs_warm_reset : ℕ → Bool
needs_warm_reset value =
    (value / 2 ^ 5 % 16 == 6) || (value / 2 ^ 5 % 16 == 7) || (value / 2 ^ 5 % 16 == 10) || is_set value 24

-- Warm Port Reset, bit 31, or Port Reset, bit 4
abbrev pub reset_bit : ℕ → ℕ
reset_bit value = if needs_warm_reset value then 0x80000000 else 0x10

abbrev pub port_read : Controller → ℕ → Access
port_read c number = read_at (port_register c number)

abbrev pub port_written : Controller → ℕ → ℕ → Access
port_written c number value = write_at (port_register c number) value

abbrev pub number_of : Option Port → ℕ
number_of (Some port) = port.number
number_of None = 0

abbrev pub number_at : Controller → PortPlace → ℕ
number_at c place = number_of (port_at c place)

-- 8, PORTS: each port without power gets it (Port Power, bit 9); 100 ms later each is read, and its change bits are cleared, until one has had a
-- device for 100 ms

abbrev pub ports_access : Ports → Controller → Access
ports_access (Power place) c = port_read c (number_at c place)
ports_access (PowerOn place value) c = port_written c (number_at c place) (bit_or (neutral value) 0x200)
ports_access (Settle until) c = Rest until
ports_access (Look place limit warmed) c = port_read c (number_at c place)
ports_access (ClearChanges place limit warmed value) c = port_written c (number_at c place) (changes_cleared value)
ports_access (Pause until limit warmed) c = Rest until
ports_access (Warm place) c = port_read c (number_at c place)
ports_access (WarmReset place value) c = port_written c (number_at c place) (bit_or (neutral value) 0x80000000)

abbrev pub look_begun : ℕ → Bool → Step
look_begun now warmed = step.Ports (Look first_place (later now 2000) warmed)

abbrev pub powered : Controller → ℕ → PortPlace → Step
powered c now place =
    if is_some (port_at c (next_place c place)) then step.Ports (Power (next_place c place)) else step.Ports (Settle (later now 100))

abbrev pub warm_reset_on : Controller → ℕ → PortPlace → Step
warm_reset_on c now place =
    if is_some (port_at c (next_place c place)) then step.Ports (Warm (next_place c place)) else look_begun now true

-- behind 2,000 ms links that hang are reset, once; then no device is left until a port changes
abbrev pub looked_on : Controller → ℕ → PortPlace → ℕ → Bool → Step
looked_on c now place limit warmed =
    if is_some (port_at c (next_place c place)) then step.Ports (Look (next_place c place) limit warmed)
    else if nat_lt now limit then step.Ports (Pause (later now 10) limit warmed)
    else if warmed then step.Watch watch_begun
    else step.Ports (Warm first_place)

abbrev pub ports_after : Ports → Controller → ℕ → ℕ → Step
ports_after (Power place) c now value = if not (is_set value 9) then step.Ports (PowerOn place value) else powered c now place
ports_after (PowerOn place old) c now value = powered c now place
ports_after (Settle until) c now value = look_begun now false
ports_after (Look place limit warmed) c now value = looked_on c now place limit warmed
ports_after (ClearChanges place limit warmed old) c now value = looked_on c now place limit warmed
ports_after (Pause until limit warmed) c now value = step.Ports (Look first_place limit warmed)
ports_after (Warm place) c now value = if needs_warm_reset value then step.Ports (WarmReset place value) else warm_reset_on c now place
ports_after (WarmReset place old) c now value = warm_reset_on c now place

-- since when a port has had its device, and that it was refused, are forgotten where it has none (Current Connect Status, bit 0)
abbrev pub looked_at : PortState → ℕ → Bool → PortState
looked_at state now connected =
    if not connected then record { since = None; refused = None }
    else if is_some state.since then state
    else record { since = Some now; refused = state.refused }

abbrev pub is_long_since : Option ℕ → ℕ → Bool
is_long_since (Some since) now = nat_le (later since 100) now
is_long_since None now = false

abbrev pub is_ready : PortState → ℕ → Bool
is_ready state now = is_long_since state.since now && is_none state.refused

-- 9, PORT RESET: Port Reset or Warm Port Reset; the port is enabled; its change bits are cleared, also where it is late; 50 ms; the speed is read

abbrev pub port_reset_access : PortReset → Controller → ℕ → Access
port_reset_access port_reset.Read c number = port_read c number
port_reset_access (port_reset.Start value) c number = port_written c number (bit_or (neutral value) (reset_bit value))
port_reset_access (port_reset.Done wait) c number = wait_access wait (port_register c number)
port_reset_access (port_reset.Clear value) c number = port_written c number (bit_or (neutral value) 0xfe0000)
port_reset_access (port_reset.Late value) c number = port_written c number (changes_cleared value)
port_reset_access (port_reset.Recover until) c number = Rest until
port_reset_access port_reset.Speed c number = port_read c number
