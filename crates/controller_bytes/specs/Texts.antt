-- What was read, as what it is of.
use Rattle.std.specs.Prelude.{◌≤◌, length}
use Rattle.guest_pipes.specs.Pipe.{PipeState}
use Rattle.guest_tags.specs.Units.{Outgoing}
use Rattle.guest_transfers.specs.declared.slot.Slot.{Slot}
use Rattle.controller_bytes.specs.declared.pipes.PipeText.{PipeText}
use Rattle.controller_bytes.specs.declared.tags.SlotText.{SlotText}
use Rattle.controller_bytes.specs.declared.tags.UnitText.{UnitText}

abbrev pub pipe_of : PipeText → PipeState
pipe_of t = record {
  endpoint = t.head.endpoint;
  state = t.head.state;
  array = t.head.array;
  streams = t.head.streams;
  invalid = t.head.invalid;
  rung = t.rung;
  progress = t.progress;
}

abbrev pub unit_of : UnitText → Outgoing
unit_of t = record { text = t.text.now; sent = t.sent }

abbrev pub slot_of : SlotText → Slot
slot_of t = record {
  tag = record { chunk = t.chunk.now; gave = t.gave; drops = t.drops; unit = unit_of t.unit; overlaps = t.overlaps };
  taken = t.taken.now;
}

-- what was read of a tag has room in it
pub record FitsSlot (t : SlotText) : Type 0 where
  pub chunk : length t.chunk.now ≤ 4096
  pub text : length t.unit.text.now ≤ 112
  pub sent : t.unit.sent ≤ length t.unit.text.now
  pub taken : length t.taken.now ≤ 4096
