-- The form of what is kept of a tag beside the device.
use Rattle.std.specs.Prelude.{ℕ, ◌==◌, nat_le, Bool, not, ◌&&◌, List, length}
use Rattle.guest_tags.specs.Units.{Outgoing}
use Rattle.guest_transfers.specs.declared.slot.Slot.{Slot}
use Rattle.guest_transfers.specs.State.{empty_slot}
use Rattle.machine_bytes.specs.Forms.{Form, checked, counted, flag, mapped, number, pair}
use Rattle.machine_bytes.specs.Sparse.{PlaceForm, sparse}

-- bytes of a chunk, at most 4,096, behind their number (2)
abbrev pub chunk_form : Form (List ℕ)
chunk_form = counted 2 4096

-- an information unit on its way: its bytes, at most 112, behind their number (1), and how many of them the TD in front has (1)
abbrev pub unit_form : Form Outgoing
unit_form = checked (λ u. nat_le u.sent (length u.text)) (mapped to from (pair (counted 1 112) (number 1)))
  where
    to : List ℕ × ℕ → Outgoing
    to u = record { text = u.0; sent = u.1 }

    from : Outgoing → List ℕ × ℕ
    from u = (u.text, u.sent)

-- a tag: its chunk, whether its task gave bytes, whether what it still gives is dropped, the information unit, the overlaps (4), and what
-- data-out gathered
abbrev pub slot_form : Form Slot
slot_form = mapped to from (pair chunk_form (pair flag (pair flag (pair unit_form (pair (number 4) chunk_form)))))
  where
    to : List ℕ × (Bool × (Bool × (Outgoing × (ℕ × List ℕ)))) → Slot
    to s = record {
      tag = record { chunk = s.0; gave = s.1.0; drops = s.1.1.0; unit = s.1.1.1.0; overlaps = s.1.1.1.1.0 };
      taken = s.1.1.1.1.1;
    }

    from : Slot → List ℕ × (Bool × (Bool × (Outgoing × (ℕ × List ℕ))))
    from s = (s.tag.chunk, (s.tag.gave, (s.tag.drops, (s.tag.unit, (s.tag.overlaps, s.taken)))))

-- nothing is kept of it
abbrev pub is_empty : Slot → Bool
is_empty s =
    (length s.tag.chunk == 0) && (not s.tag.gave && (not s.tag.drops && ((length s.tag.unit.text == 0) && ((s.tag.unit.sent == 0)
    && ((s.tag.overlaps == 0) && (length s.taken == 0))))))

abbrev pub slot_place : PlaceForm Slot
slot_place = record { form = slot_form; is_fresh = is_empty }

-- all tags, by number
abbrev pub slots_form : Form (List Slot)
slots_form = sparse 241 empty_slot slot_place
