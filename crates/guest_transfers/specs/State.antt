-- The four pipes of a device, and what is kept of each tag.
use Rattle.std.specs.Prelude.{ℕ, ◌+◌, ◌-◌, false, List, [], get_or, set, min, ◌^◌, replicate}
use Rattle.guest_memory.specs.Bytes.{Memory}
use Rattle.guest_memory.specs.rings.Events.{EventEnd}
use Rattle.guest_pipes.specs.declared.consumer.EndpointState.TheVariants.{Disabled}
use Rattle.guest_pipes.specs.declared.consumer.Consumer.{Consumer}
use Rattle.guest_pipes.specs.Progress.{fresh}
use Rattle.guest_pipes.specs.Pipe.{PipeState, disabled}
use Rattle.guest_tags.specs.Units.{whole}
use Rattle.guest_transfers.specs.declared.slot.Slot.{Slot}

-- the command pipe's consumer, the address of its dequeue pointer and what it gathered; the pipes with streams; the tags by number
pub record TransfersState : Type 0 where
  pub command : Consumer
  pub home : ℕ
  pub gathered : List ℕ
  pub status : PipeState
  pub data_out : PipeState
  pub data_in : PipeState
  pub tags : List Slot

-- all that a step may change
pub record TransfersWorld (D : Type 0) : Type 0 where
  pub memory : Memory
  pub events : EventEnd
  pub transfers : TransfersState
  pub device : D

-- nothing is kept of a tag
abbrev pub empty_slot : Slot
empty_slot = record { tag = record { chunk = []; gave = false; drops = false; unit = whole []; overlaps = 0 }; taken = [] }

abbrev pub slot_of : TransfersState → ℕ → Slot
slot_of t tag = get_or t.tags tag empty_slot

abbrev pub with_slot : TransfersState → ℕ → Slot → TransfersState
with_slot t tag slot = record t { tags = set t.tags tag slot }

-- a task begins on a tag: what was kept of its data is gone, and what is to go out stays
abbrev pub begun : Slot → Slot
begun slot = record { tag = record slot.tag { chunk = []; gave = false; drops = false }; taken = [] }

-- one more overlap is to be answered
abbrev pub overlapped : Slot → Slot
overlapped slot = record slot { tag = record slot.tag { overlaps = min (slot.tag.overlaps + 1) (2 ^ 32 - 1) } }

-- nothing is configured, and nothing is kept of a tag
abbrev pub opening : TransfersState
opening = record {
  command = record { endpoint = 2; state = Disabled; rung = false; progress = fresh };
  home = 0;
  gathered = [];
  status = disabled 3;
  data_out = disabled 4;
  data_in = disabled 5;
  tags = replicate 241 empty_slot;
}
