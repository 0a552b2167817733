-- Events (xHCI 1.2, 6.4.2), and the producer of an event ring's one segment (4.9.4).
use Rattle.std.specs.Prelude.{ℕ, ◌+◌, ◌-◌, ◌*◌, ◌/◌, ◌%◌, ◌^◌, ◌==◌, nat_le, nat_lt, Bool, not, ◌||◌, if◌then◌else◌, List, ◌++◌, Option, Some, None}
use Rattle.byteorder.specs.Endian.{little_bytes}
use Rattle.guest_memory.specs.declared.rings.words.Words.{Words}
use Rattle.guest_memory.specs.declared.rings.event.Event.{Event}
use Rattle.guest_memory.specs.declared.rings.event.Event.TheVariants.{Transfer, Command, PortChange, RingFull}
use Rattle.guest_memory.specs.rings.Words.{bit}

-- the words of an event, with Cycle bit 0. Transfer: the length in status bits 23:0 and the code in 31:24; ED in control bit 2,
-- type 32, the endpoint in bits 20:16, slot 1 in 31:24. Command Completion: type 33. Port Status Change: type 34, the port in
-- parameter bits 31:24. Host Controller: type 37, with code 21
abbrev pub event_words : Event → Words
event_words (Transfer pointer residual code endpoint event_data) = record {
  parameter = pointer;
  status = residual % 2 ^ 24 + 2 ^ 24 * code;
  control = 2 ^ 10 * 32 + 2 ^ 16 * endpoint + 2 ^ 24 * 1 + 2 ^ 2 * bit event_data;
}
event_words (Command pointer code slot) = record {
  parameter = pointer;
  status = 2 ^ 24 * code;
  control = 2 ^ 10 * 33 + 2 ^ 24 * slot;
}
event_words (PortChange port) = record {
  parameter = 2 ^ 24 * port;
  status = 2 ^ 24 * 1;
  control = 2 ^ 10 * 34;
}
event_words RingFull = record {
  parameter = 0;
  status = 2 ^ 24 * 21;
  control = 2 ^ 10 * 37;
}

-- the bytes of words with this Cycle bit
unfoldable pub bytes_of : Words → Bool → List ℕ
bytes_of w cycle = little_bytes 8 w.parameter ++ little_bytes 4 w.status ++ little_bytes 4 (w.control + bit cycle)

abbrev pub event_bytes : Event → Bool → List ℕ
event_bytes event cycle = bytes_of (event_words event) cycle

-- an event ring's segment, where its producer stands, how many places are free, and whether an event asked for an interrupt
pub record EventEnd : Type 0 where
  pub base : ℕ
  pub places : ℕ
  pub place : ℕ
  pub cycle : Bool
  pub free : ℕ
  pub asks : Bool

-- the address of the enqueue place
abbrev pub enqueue_pointer : EventEnd → ℕ
enqueue_pointer ring = ring.base + 16 * ring.place

-- the place of the segment that an address is of, by its multiple of 16 (5.5.2.3.3, ERDP)
unfoldable pub place_at : EventEnd → ℕ → Option ℕ
place_at ring address =
    if nat_lt address ring.base then None
    else if nat_lt ((address - ring.base) / 16) ring.places then Some ((address - ring.base) / 16) else None

-- the producer one place on
abbrev pub advanced : EventEnd → EventEnd
advanced ring = if ring.place + 1 == ring.places then record ring { place = 0; cycle = not ring.cycle } else record ring { place = ring.place + 1 }

-- the ring after an event, which asks for an interrupt where it isn't quiet (BEI)
unfoldable pub enqueued : EventEnd → Bool → EventEnd
enqueued ring quiet = record (advanced ring) { free = ring.free - 1; asks = ring.asks || not quiet }

-- how many places are free where the consumer's dequeue place is this: one always stays empty
unfoldable pub free_by : EventEnd → ℕ → ℕ
free_by ring dequeue = (dequeue + ring.places - ring.place - 1) % ring.places

-- an ordinary event needs two free places
abbrev pub has_room : EventEnd → Bool
has_room ring = nat_le 2 ring.free
