-- A look for events (xHCI 1.2, 4.9.4): USBSTS, then each event on the event ring, its last word first, as that has the Cycle bit; at the end,
-- and behind 64 events, ERDP is written.
use Rattle.std.specs.Prelude.{ℕ, ◌+◌, ◌-◌, ◌*◌, ◌^◌, ◌==◌, ◌||◌, min, nat_le, nat_lt, not, if◌then◌else◌, Bool, true, false, Some, List, length, replicate, bit_and, bit_or}
use Rattle.host_layout.specs.declared.layout.Area.TheVariants.{At}
use Rattle.host_layout.specs.declared.layout.Fixed.TheVariants.{EventRing as EventArea}
use Rattle.host_layout.specs.declared.layout.Layout.{Layout}
use Rattle.host_layout.specs.Places.{address_of}
use Rattle.host_trbs.specs.declared.events.Event.{Event}
use Rattle.host_trbs.specs.Events.{event_in}
use Rattle.host_trbs.specs.Words.{words_in}
use Rattle.bring_up.specs.declared.access.Access.{Access}
use Rattle.bring_up.specs.declared.access.Access.TheVariants.{Rest as Resting}
use Rattle.bring_up.specs.declared.controller.Controller.{Controller}
use Rattle.bring_up.specs.declared.service.EventRing.{EventRing}
use Rattle.bring_up.specs.declared.service.Served.{Served}
use Rattle.bring_up.specs.declared.service.Served.TheVariants.{On, Closed, Broken}
use Rattle.bring_up.specs.declared.service.Service.{Service}
use Rattle.bring_up.specs.declared.service.Serving.{Serving}
use Rattle.bring_up.specs.declared.service.Serving.TheVariants.{Status, Acknowledge, Interrupt, Word, Event as WholeEvent, Low, High, Rest}
use Rattle.bring_up.specs.Accesses.{later, load_in, read_at, write_at}
use Rattle.bring_up.specs.Programs.{high_half, low_half}
use Rattle.bring_up.specs.Registers.{interrupter, is_set, status_register}

-- THE EVENT RING: 2,048 places; the Cycle bit is 1 on the first lap, and changes with each (4.9.4)

abbrev pub events_begun : EventRing
events_begun = record { place = 0; cycle = true }

abbrev pub next_event : EventRing → EventRing
next_event ring =
    if nat_le 2047 ring.place then record { place = 0; cycle = not ring.cycle } else record { place = ring.place + 1; cycle = ring.cycle }

abbrev pub event_address : EventRing → Layout → ℕ
event_address ring layout = later (address_of layout (At EventArea)) (16 * ring.place)

-- any 16 bytes are an event
abbrev pub event_bytes : List ℕ → List ℕ
event_bytes bytes = if length bytes == 16 then bytes else replicate 16 0

abbrev pub taken_event : List ℕ → Event
taken_event bytes = event_in (words_in (event_bytes bytes))

-- A LOOK

abbrev pub served_at : Service → Serving → Service
served_at service at = record { limit = service.limit; seen = service.seen; at = at }

abbrev pub service_begun : ℕ → ℕ → Service
service_begun now ms = record { limit = later now ms; seen = 0; at = Status }

abbrev pub idle : Service
idle = record { limit = 2 ^ 64 - 1; seen = 0; at = Rest (2 ^ 64 - 1) }

-- events that came while none were looked for are read first: their interrupt is over
abbrev pub watch_begun : Service
watch_begun = served_at idle Status

abbrev pub woken_at : Service → Serving → Service
woken_at service (Rest until) = served_at service Status
woken_at service Status = service
woken_at service (Acknowledge value) = service
woken_at service Interrupt = service
woken_at service Word = service
woken_at service WholeEvent = service
woken_at service Low = service
woken_at service High = service

abbrev pub woken : Service → Service
woken service = woken_at service service.at

abbrev pub rested : Service → ℕ → Service
rested service now = record { limit = service.limit; seen = 0; at = Rest (later now 1) }

abbrev pub passed : Service → Service
passed service =
    let seen : ℕ = min (service.seen + 1) 255 in
    record { limit = service.limit; seen = seen; at = if nat_lt seen 64 then Word else Low }

abbrev pub closing : Service → Service
closing service = served_at service Low

-- 5.4.2: Event Interrupt and Port Change Detect, bits 3 and 4, are cleared by a 1; 5.5.2.1: Interrupt Pending too; 5.5.2.3.3: Event Handler Busy,
-- bit 3 of ERDP, too
abbrev pub serving_access : Serving → Controller → Layout → ℕ → Access
serving_access Status c layout at = read_at (status_register c)
serving_access (Acknowledge value) c layout at = write_at (status_register c) (bit_and value 0x18)
serving_access Interrupt c layout at = write_at (interrupter c) 3
serving_access Word c layout at = load_in (Some (later at 12)) 4
serving_access WholeEvent c layout at = load_in (Some at) 16
serving_access Low c layout at = write_at (interrupter c + 0x18) (bit_or (low_half at) 8)
serving_access High c layout at = write_at (interrupter c + 0x1c) (high_half at)
serving_access (Rest until) c layout at = Resting until

abbrev pub service_access : Service → Controller → Layout → EventRing → Access
service_access service c layout events = serving_access service.at c layout (event_address events layout)

-- HCHalted, Host System Error and Host Controller Error are bits 0, 2 and 12
abbrev pub status_read : Service → ℕ → Served
status_read service value =
    if is_set value 0 || is_set value 2 || is_set value 12 then Broken
    else if not (bit_and value 0x18 == 0) then On (served_at service (Acknowledge value))
    else On (served_at service Word)

abbrev pub behind_word : Service → Bool → Served
behind_word service there =
    if there then On (served_at service WholeEvent) else if service.seen == 0 then Closed else On (served_at service Low)

-- a Cycle bit is that of the lap
abbrev pub is_cycle : Bool → Bool → Bool
is_cycle true bit = bit
is_cycle false bit = not bit

abbrev pub serving_after : Serving → Service → Bool → ℕ → Served
serving_after Status service cycle value = status_read service value
serving_after (Acknowledge old) service cycle value = On (served_at service Interrupt)
serving_after Interrupt service cycle value = On (served_at service Word)
serving_after Word service cycle value = behind_word service (is_cycle cycle (is_set value 0))
serving_after WholeEvent service cycle value = On (served_at service Word)
serving_after Low service cycle value = On (served_at service High)
serving_after High service cycle value = Closed
serving_after (Rest until) service cycle value = On (served_at service Status)

abbrev pub service_after : Service → Bool → ℕ → Served
service_after service cycle value = serving_after service.at service cycle value
