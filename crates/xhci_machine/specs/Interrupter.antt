-- Interrupter 0: the event ring of its segment table, the place of its consumer, and Event Ring Full Error (xHCI 1.2, 4.9.4, 4.17, 5.5.2 and
-- 6.5).
use Rattle.std.specs.Prelude.{ℕ, ◌+◌, ◌-◌, ◌*◌, ◌/◌, ◌%◌, ◌^◌, ◌==◌, nat_lt, Bool, true, false, not, ◌&&◌, ◌||◌, if◌then◌else◌}
use Rattle.std.specs.Prelude.{List, drop, Option, Some, None, is_some, Result, Ok, Err}
use Rattle.byteorder.specs.Endian.{little_number}
use Rattle.guest_memory.specs.Bytes.{Memory, bytes_from, written}
use Rattle.guest_memory.specs.declared.rings.event.Event.{Event}
use Rattle.guest_memory.specs.declared.rings.event.Event.TheVariants.{RingFull}
use Rattle.guest_memory.specs.rings.Events.{EventEnd, enqueue_pointer, enqueued, event_bytes, free_by, has_room, place_at}
use Rattle.guest_pipes.specs.Step.{has_place}
use Rattle.guest_memory.specs.declared.rings.wanting.Range.{Range}
use Rattle.guest_memory.specs.rings.Wanted.{missing}
use Rattle.xhci_registers.specs.declared.Interrupter.{Interrupter}
use Rattle.xhci_registers.specs.declared.Registers.{Registers}
use Rattle.xhci_registers.specs.Signals.{raised}
use Rattle.xhci_machine.specs.declared.interrupts.Interrupts.{Interrupts}
use Rattle.xhci_machine.specs.declared.interrupts.RingFault.{RingFault}
use Rattle.xhci_machine.specs.declared.interrupts.RingFault.TheVariants.{Outside, NoSegment}
use Rattle.xhci_machine.specs.declared.interrupts.Seen.{Seen}
use Rattle.xhci_machine.specs.declared.interrupts.Seen.TheVariants.{Lacks, Nothing, Ring}

-- AN EVENT

-- an event is written where the producer stands; nothing changes where that isn't there
unfoldable pub event_posted : Memory → EventEnd → Event → Memory × EventEnd
event_posted memory events event =
    if has_place memory events then (written memory (enqueue_pointer events) (event_bytes event events.cycle), enqueued events false)
    else (memory, events)

-- Event Ring Full Error takes the last place, unless it was told already
abbrev pub tells_full : Interrupts → EventEnd → Bool
tells_full interrupts events = not interrupts.told_full && events.free == 1

abbrev pub full_told : Bool → Memory → EventEnd → Memory × EventEnd
full_told true memory events = event_posted memory events RingFull
full_told false memory events = (memory, events)

-- THE SEGMENT TABLE

-- a ring that begins, of so many places
abbrev pub new_ring : ℕ → ℕ → EventEnd
new_ring base places = record { base = base; places = places; place = 0; cycle = true; free = places - 1; asks = false }

-- a segment has 16 to 4,096 places, which end before 2 ^ 64 (6.5)
abbrev pub segment_of : ℕ → ℕ → Result (Option EventEnd) RingFault
segment_of base places =
    if nat_lt places 16 || nat_lt 4096 places then Err NoSegment
    else if nat_lt (base + 16 * places) (2 ^ 64) then Ok (Some (new_ring base places)) else Err NoSegment

-- an entry has the base, whose bits 5:0 aren't read, and then the count of places; its 16 bytes may not be there
abbrev pub entry_ring : Option (List ℕ) → Result (Option EventEnd) RingFault
entry_ring None = Err Outside
entry_ring (Some bytes) = segment_of (little_number 8 bytes - little_number 8 bytes % 64) (little_number 2 (drop 8 bytes))

-- the event ring of the table's one entry; none where the table has no entry. One of more is longer than ERST Max allows (5.3.4, 5.5.2.3.1).
unfoldable pub loaded : Memory → Interrupter → Result (Option EventEnd) RingFault
loaded memory interrupter =
    if interrupter.table_size == 0 then Ok None
    else if nat_lt 1 interrupter.table_size then Err NoSegment
    else entry_ring (bytes_from memory interrupter.table 16)

-- ERDP

-- the ring whose consumer stands at this place, which is in the segment
abbrev pub dequeued_to : EventEnd → Option ℕ → Result EventEnd RingFault
dequeued_to ring None = Err NoSegment
dequeued_to ring (Some place) = Ok (record ring { free = free_by ring place })

-- and at this address (5.5.2.3.3)
abbrev pub dequeued_at : EventEnd → ℕ → Result EventEnd RingFault
dequeued_at ring pointer = dequeued_to ring (place_at ring pointer)

-- where the write of ERDP cleared EHB while events are behind it, the interrupt is raised again (4.17.2)
abbrev pub raised_again : Interrupts → EventEnd → Registers → Registers
raised_again interrupts ring registers =
    if interrupts.cleared_busy && not (enqueue_pointer ring / 16 == registers.interrupter.dequeue / 16) then raised registers else registers

-- ERDP is taken; Event Ring Full Error is owed again once there is room
abbrev pub dequeue_noted : Interrupts → EventEnd → Interrupts
dequeue_noted interrupts ring =
    record interrupts { dequeued = false; cleared_busy = false; told_full = interrupts.told_full && not (has_room ring) }

-- the ring, and what is kept beside it
abbrev pub pointer_noted : Interrupts → Registers → Result EventEnd RingFault → Result (EventEnd × (Interrupts × Registers)) RingFault
pointer_noted interrupts registers (Err fault) = Err fault
pointer_noted interrupts registers (Ok ring) = Ok (ring, (dequeue_noted interrupts ring, raised_again interrupts ring registers))

abbrev pub pointer_taken : EventEnd → Interrupts → Registers → Result (EventEnd × (Interrupts × Registers)) RingFault
pointer_taken ring interrupts registers = pointer_noted interrupts registers (dequeued_at ring registers.interrupter.dequeue)

-- A STEP'S EVENT RING

-- the ring that is kept; or else the table's, whose consumer is where ERDP says
abbrev pub ring_taken : Memory → Interrupter → Interrupts → Option EventEnd → Result (Option EventEnd) RingFault × Interrupts
ring_taken memory interrupter interrupts None =
    (loaded memory interrupter, record interrupts { ring = None; dequeued = true; told_full = false })
ring_taken memory interrupter interrupts (Some ring) = (Ok (Some ring), record interrupts { ring = None })

abbrev pub ring_noted : Interrupts → Registers → Result (EventEnd × (Interrupts × Registers)) RingFault
    → Result (Option EventEnd) RingFault × (Interrupts × Registers)
ring_noted interrupts registers (Err fault) = (Err fault, (interrupts, registers))
ring_noted interrupts registers (Ok noted) = (Ok (Some noted.0), noted.1)

abbrev pub with_pointer : Registers → Result (Option EventEnd) RingFault × Interrupts → Result (Option EventEnd) RingFault × (Interrupts × Registers)
with_pointer registers (Err fault, interrupts) = (Err fault, (interrupts, registers))
with_pointer registers (Ok None, interrupts) = (Ok None, (interrupts, registers))
with_pointer registers (Ok (Some ring), interrupts) =
    if interrupts.dequeued then ring_noted interrupts registers (pointer_taken ring interrupts registers)
    else (Ok (Some ring), (interrupts, registers))

-- the step's event ring, and what is kept beside it until the ring comes back
abbrev pub taken : Memory → Interrupts → Registers → Result (Option EventEnd) RingFault × (Interrupts × Registers)
taken memory interrupts registers = with_pointer registers (ring_taken memory registers.interrupter interrupts interrupts.ring)

-- A LOOK AHEAD

-- the table's entry, where it is to be read and isn't there
abbrev pub missing_entry : Memory → Interrupts → Interrupter → Option Range
missing_entry memory interrupts interrupter =
    if is_some interrupts.ring || not (interrupter.table_size == 1) then None else missing memory (record { at = interrupter.table; count = 16 }) None

-- the ring that a step takes; nothing where there is none, or the step fails by it
abbrev pub seen_taken : Result (Option EventEnd) RingFault → Seen
seen_taken (Err fault) = Nothing
seen_taken (Ok None) = Nothing
seen_taken (Ok (Some ring)) = Ring ring

abbrev pub seen_unless : Option Range → Result (Option EventEnd) RingFault → Seen
seen_unless None ring = seen_taken ring
seen_unless (Some range) ring = Lacks range

abbrev pub seen : Memory → Interrupts → Registers → Seen
seen memory interrupts registers = seen_unless (missing_entry memory interrupts registers.interrupter) (taken memory interrupts registers).0
