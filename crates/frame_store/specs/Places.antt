-- The address map: which addresses the buffers of the tags have.
use Rattle.std.specs.Prelude.{if◌then◌else◌, ℕ, ◌+◌, ◌-◌, ◌*◌, ◌/◌, ◌%◌, ◌<◌, ◌≤◌, ◌&&◌, Bool, nat_lt, nat_le, Option, Some, None}
use Rattle.frame_store.specs.declared.Buffer.{Buffer}
use Rattle.frame_store.specs.declared.Buffer.TheVariants.{Command, Status, Window}
use Rattle.frame_store.specs.declared.Place.{Place}
use Rattle.uas_profile.specs.declared.TheConstants.{BUFFER_SPAN, COMMAND_BUFFERS, COMMAND_BYTES, STATUS_BUFFERS, STATUS_BYTES, STREAMS, WINDOWS, WINDOW_BYTES, WINDOW_SPAN}

-- Where the buffers of a kind would begin for tag 0, how far those of two tags lie apart, and how many bytes each can have.
-- By hand: tag 18 has its command buffer at 0x10001200, its status buffer at 0x20001200, its window at 0x100120000.
abbrev pub base_of : Buffer → ℕ
base_of Command = COMMAND_BUFFERS
base_of Status = STATUS_BUFFERS
base_of Window = WINDOWS

abbrev pub stride_of : Buffer → ℕ
stride_of Command = BUFFER_SPAN
stride_of Status = BUFFER_SPAN
stride_of Window = WINDOW_SPAN

abbrev pub room_of : Buffer → ℕ
room_of Command = COMMAND_BYTES
room_of Status = STATUS_BYTES
room_of Window = WINDOW_BYTES

-- A place is a byte that a tag's buffer can have.
pub record IsPlace (place : Place) : Type 0 where
  pub first_tag : 1 ≤ place.tag
  pub last_tag : place.tag ≤ STREAMS
  pub inside : place.offset < room_of place.buffer

-- The address of a place.
abbrev pub address_of : Place → ℕ
address_of place = base_of place.buffer + stride_of place.buffer * place.tag + place.offset

-- The map read backwards, by arithmetic: the kind of buffer that an address can belong to, and its place there.
abbrev pub buffer_at : ℕ → Buffer
buffer_at address =
    if nat_lt address STATUS_BUFFERS then Command else
    if nat_lt address WINDOWS then Status else Window

abbrev pub place_in : Buffer → ℕ → Place
place_in buffer beyond = record { tag = beyond / stride_of buffer; buffer = buffer; offset = beyond % stride_of buffer }

abbrev pub is_place : Place → Bool
is_place place = nat_lt 0 place.tag && nat_le place.tag STREAMS && nat_lt place.offset (room_of place.buffer)

abbrev pub checked_place : Buffer → ℕ → Option Place
checked_place buffer address =
    if nat_le (base_of buffer) address && is_place (place_in buffer (address - base_of buffer))
    then Some (place_in buffer (address - base_of buffer)) else None

abbrev pub place_at : ℕ → Option Place
place_at address = checked_place (buffer_at address) address
