-- The forms of the event ring's producer and of the slot.
use Rattle.std.specs.Prelude.{ℕ, zero, suc, Bool, Option}
use Rattle.guest_memory.specs.rings.Events.{EventEnd}
use Rattle.guest_memory.specs.rings.Saved.{has_segment}
use Rattle.machine_bytes.specs.Forms.{Form, checked, flag, mapped, named, number, optional, pair}
use Rattle.xhci_slots.specs.declared.Slot.{Slot}
use Rattle.xhci_slots.specs.declared.contexts.SlotState.{SlotState}
use Rattle.xhci_slots.specs.declared.contexts.SlotState.TheVariants.{Enabled, Default, Addressed, Configured}

-- an event ring: base (8), places, enqueue place, free (2 each), cycle state, whether an event asked for an interrupt
abbrev pub ring_form : Form EventEnd
ring_form = checked has_segment (mapped to from (pair (number 8) (pair (number 2) (pair (number 2) (pair (number 2) (pair flag flag))))))
  where
    to : ℕ × (ℕ × (ℕ × (ℕ × (Bool × Bool)))) → EventEnd
    to r = record { base = r.0; places = r.1.0; place = r.1.1.0; free = r.1.1.1.0; cycle = r.1.1.1.1.0; asks = r.1.1.1.1.1 }

    from : EventEnd → ℕ × (ℕ × (ℕ × (ℕ × (Bool × Bool))))
    from r = (r.base, (r.places, (r.place, (r.free, (r.cycle, r.asks)))))

-- a slot's state (table 6-7): 0 to 3
abbrev pub slot_state_number : SlotState → ℕ
slot_state_number Enabled = 0
slot_state_number Default = 1
slot_state_number Addressed = 2
slot_state_number Configured = 3

abbrev pub slot_state_at : ℕ → SlotState
slot_state_at zero = Enabled
slot_state_at (suc zero) = Default
slot_state_at (suc (suc zero)) = Addressed
slot_state_at (suc (suc (suc k))) = Configured

abbrev pub slot_state_form : Form SlotState
slot_state_form = named 4 slot_state_number slot_state_at

-- the slot: its state, where it is given out (option), and the address of its context (8)
abbrev pub slot_form : Form Slot
slot_form = mapped to from (pair (optional slot_state_form) (number 8))
  where
    to : Option SlotState × ℕ → Slot
    to s = record { state = s.0; context = s.1 }

    from : Slot → Option SlotState × ℕ
    from s = (s.state, s.context)
