-- A command on the command ring (xHCI 1.2, 4.6.1 and 4.9.3): 15 places and a Link with Toggle Cycle; one command at a time.
use Rattle.std.specs.Prelude.{ℕ, ◌+◌, ◌*◌, nat_le, not, if◌then◌else◌, true, Some, None}
use Rattle.byteorder.specs.Endian.{little_bytes}
use Rattle.host_layout.specs.declared.layout.Area.TheVariants.{At}
use Rattle.host_layout.specs.declared.layout.Fixed.TheVariants.{CommandRing as CommandArea}
use Rattle.host_layout.specs.declared.layout.Layout.{Layout}
use Rattle.host_layout.specs.Places.{address_of}
use Rattle.host_trbs.specs.declared.words.Words.{Words}
use Rattle.host_trbs.specs.Transfers.{link_words}
use Rattle.host_trbs.specs.Words.{bytes_of}
use Rattle.bring_up.specs.declared.access.Access.{Access}
use Rattle.bring_up.specs.declared.access.Stored.TheVariants.{Four, Sixteen}
use Rattle.bring_up.specs.declared.commands.Asked.{Asked}
use Rattle.bring_up.specs.declared.commands.CommandRing.{CommandRing}
use Rattle.bring_up.specs.declared.commands.Putting.{Putting}
use Rattle.bring_up.specs.declared.commands.Putting.TheVariants.{Link, Body, Last, Bell}
use Rattle.bring_up.specs.declared.controller.Controller.{Controller}
use Rattle.bring_up.specs.declared.step.Step.{Step}
use Rattle.bring_up.specs.declared.step.Step.TheVariants as step
use Rattle.bring_up.specs.Accesses.{later, store_in, write_at}
use Rattle.bring_up.specs.Registers.{doorbell}
use Rattle.bring_up.specs.Services.{service_begun}

-- the Cycle bit is 1 on the first lap, and changes with each (4.9.3)
abbrev pub commands_begun : CommandRing
commands_begun = record { place = 0; cycle = true }

abbrev pub next_command : CommandRing → CommandRing
next_command ring =
    if nat_le 14 ring.place then record { place = 0; cycle = not ring.cycle } else record { place = ring.place + 1; cycle = ring.cycle }

abbrev pub command_address : CommandRing → Layout → ℕ
command_address ring layout = later (address_of layout (At CommandArea)) (16 * ring.place)

-- at the last place the Link behind it becomes the controller's too
abbrev pub begun_command : CommandRing → Putting
begun_command ring = if nat_le 14 ring.place then Link else Body

abbrev pub command_link : CommandRing → Layout → Words
command_link ring layout = link_words (record { to = address_of layout (At CommandArea); toggles = true }) ring.cycle

-- the TRB with the other Cycle bit, then its last word with its own, then doorbell 0 (4.7)
abbrev pub command_put : CommandRing → Controller → Layout → Putting → Words → Words → Access
command_put ring c layout Link words before =
    store_in (Some (later (address_of layout (At CommandArea)) 240)) (Sixteen (bytes_of (command_link ring layout)))
command_put ring c layout Body words before = store_in (Some (command_address ring layout)) (Sixteen (bytes_of before))
command_put ring c layout Last words before =
    store_in (Some (later (command_address ring layout) 12)) (Four (little_bytes 4 words.control))
command_put ring c layout Bell words before = write_at (doorbell c 0) 0

-- its event is awaited for 5,000 ms
abbrev pub put_after : Asked → Putting → ℕ → Step
put_after asked Link now = step.Command asked Body
put_after asked Body now = step.Command asked Last
put_after asked Last now = step.Command asked Bell
put_after asked Bell now = step.Serve asked None (service_begun now 5000)
