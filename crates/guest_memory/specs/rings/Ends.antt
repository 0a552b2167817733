-- The consumer's end of a ring, where it is kept, and what stands there (xHCI 1.2, 4.9.2, 6.2.3 and 6.2.4.1).
use Rattle.std.specs.Prelude.{ℕ, ◌+◌, ◌*◌, ◌/◌, ◌%◌, ◌^◌, ◌==◌, Bool, true, false, not, if◌then◌else◌, List, ◌++◌, Option, Some, None, option_map}
use Rattle.byteorder.specs.Endian.{little_number, little_bytes}
use Rattle.guest_memory.specs.Bytes.{Memory, bytes_from, ◌>>=◌}
use Rattle.guest_memory.specs.declared.rings.words.Words.{Words}
use Rattle.guest_memory.specs.declared.rings.cursor.Cursor.{Cursor}
use Rattle.guest_memory.specs.declared.rings.context.Home.{Home}
use Rattle.guest_memory.specs.declared.rings.context.Home.TheVariants.{Stream, Endpoint}
use Rattle.guest_memory.specs.declared.rings.context.Found.{Found}
use Rattle.guest_memory.specs.declared.rings.context.Found.TheVariants.{WrongKind, NotYet, Item}
use Rattle.guest_memory.specs.declared.rings.context.Front.{Front}
use Rattle.guest_memory.specs.rings.Words.{bit, cycle_in, same_bit, words_in}
use Rattle.guest_memory.specs.rings.Trbs.{trb_in}

-- the place behind a cursor's
abbrev pub behind : Cursor → Cursor
behind cursor = record { place = (cursor.place + 16) % 2 ^ 64; cycle = cursor.cycle }

-- a Link whose TC is set toggles the cycle state
abbrev pub toggled : Bool → Bool → Bool
toggled true cycle = not cycle
toggled false cycle = cycle

-- the place that a Link leads to
abbrev pub followed : Cursor → ℕ → Bool → Cursor
followed cursor pointer toggle = record { place = pointer; cycle = toggled toggle cursor.cycle }

-- a dequeue pointer's quadword: DCS is bit 0, the pointer bits 63:4
abbrev pub cursor_in : ℕ → Cursor
cursor_in number = record { place = 16 * (number / 16); cycle = number % 2 == 1 }

-- the quadword of a cursor, with bits 3:1
abbrev pub number_of : Cursor → ℕ → ℕ
number_of cursor low = 16 * (cursor.place / 16) + 2 * low + bit cursor.cycle

-- 16 bytes that are the consumer's, or None where their Cycle bit isn't its cycle state
unfoldable pub owned : Bool → List ℕ → Option Words
owned cycle bytes = if same_bit (cycle_in (words_in bytes)) cycle then Some (words_in bytes) else None

-- what stands where a consumer stands, where all of it is there
unfoldable pub fetched : Memory → Cursor → Option (Option Words)
fetched memory cursor = option_map (owned cursor.cycle) (bytes_from memory cursor.place 16)

-- where a consumer's end is kept: in a stream context, or in the dequeue pointer of an endpoint context
abbrev pub home_at : Home → ℕ
home_at (Stream at) = at
home_at (Endpoint at) = at

-- and how many bytes it has there
abbrev pub home_size : Home → ℕ
home_size (Stream at) = 16
home_size (Endpoint at) = 8

-- a stream context: SCT in bits 3:1, and zeros in what is opaque
unfoldable pub stream_bytes : ℕ → Cursor → List ℕ
stream_bytes kind cursor = little_bytes 8 (number_of cursor kind) ++ little_bytes 8 0

unfoldable pub pointer_bytes : Cursor → List ℕ
pointer_bytes cursor = little_bytes 8 (number_of cursor 0)

-- what is kept there
abbrev pub home_bytes : Home → ℕ → Cursor → List ℕ
home_bytes (Stream at) kind cursor = stream_bytes kind cursor
home_bytes (Endpoint at) kind cursor = pointer_bytes cursor

-- whether a ring is to be found there: a stream context's SCT is 1, a Primary Transfer Ring
abbrev pub is_ring : Home → ℕ → Bool
is_ring (Stream at) number = number / 2 % 8 == 1
is_ring (Endpoint at) number = true

abbrev pub found_of : Option Words → Found
found_of None = NotYet
found_of (Some words) = Item (trb_in words)

-- what a pipe's consumer finds, by the quadword where its end is kept
unfoldable pub found_at : Memory → Home → ℕ → Option Found
found_at memory home number = if is_ring home number then option_map found_of (fetched memory (cursor_in number)) else Some WrongKind

abbrev pub front_of : Home → ℕ → Found → Front
front_of home number found = record { home = home; cursor = cursor_in number; found = found }

-- a ring's end, and what stands there, where all of both is there
unfoldable pub looked : Memory → Home → Option Front
looked memory home = do
  bytes ← bytes_from memory (home_at home) (home_size home)
  found ← found_at memory home (little_number 8 bytes)
  Some (front_of home (little_number 8 bytes) found)
