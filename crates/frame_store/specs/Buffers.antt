-- What the store holds for each tag, and which bytes an address names.
use Rattle.std.specs.Prelude.{if◌then◌else◌, ℕ, ◌+◌, ◌-◌, ◌≡◌, ◌≢◌, ◌≤◌, ◌==◌, ◌⊎◌, List, [], take, drop, length, replicate, Option, None}
use Rattle.std.specs.Prelude.{option_map, unwrap_or, slice_index_or, slice_set}
use Rattle.std.specs.Option.{option_map_or}
use Rattle.frame_store.specs.declared.Buffer.{Buffer}
use Rattle.frame_store.specs.declared.Buffer.TheVariants.{Command, Status, Window}
use Rattle.frame_store.specs.declared.Place.{Place}
use Rattle.frame_store.specs.declared.TagBuffers.{TagBuffers}
use Rattle.frame_store.specs.Places.{place_at, address_of}
use Rattle.frame_store.specs.Splice.{spliced}
use Rattle.uas_profile.specs.declared.TheConstants.{COMMAND_BYTES, STATUS_BYTES, STREAMS, WINDOW_BYTES}

-- The bytes of one buffer. A tag with nothing lent has no byte in its window.
abbrev pub bytes_in : TagBuffers → Buffer → List ℕ
bytes_in held Command = held.command
bytes_in held Status = held.status
bytes_in held Window = unwrap_or held.lent []

-- The same tag with other bytes in one buffer.
abbrev pub with_bytes_in : TagBuffers → Buffer → List ℕ → TagBuffers
with_bytes_in held Command bytes = record held { command = bytes }
with_bytes_in held Status bytes = record held { status = bytes }
with_bytes_in held Window bytes = record held { lent = option_map (λ _. bytes) held.lent }

-- The same tag with bytes written over one buffer, from a place on.
abbrev pub with_part : TagBuffers → Buffer → ℕ → List ℕ → TagBuffers
with_part held buffer from bytes = with_bytes_in held buffer (spliced (bytes_in held buffer) from bytes)

-- No buffer at all, which no tag of a store has.
abbrev pub no_buffers : TagBuffers
no_buffers = record { command = []; status = []; lent = None }

-- What a tag of a new store has: both small buffers, all zeros, and nothing lent.
unfoldable pub opening_buffers : TagBuffers
opening_buffers = record { command = replicate COMMAND_BYTES 0; status = replicate STATUS_BYTES 0; lent = None }

-- A new store.
unfoldable pub opening : List TagBuffers
opening = replicate STREAMS opening_buffers

-- What the store holds for a tag, from 1 on.
abbrev pub held_for : List TagBuffers → ℕ → TagBuffers
held_for frames tag = slice_index_or frames (tag - 1) no_buffers

-- The store after a change of one tag's buffers.
abbrev pub with_held : List TagBuffers → ℕ → TagBuffers → List TagBuffers
with_held frames tag held = slice_set frames (tag - 1) held

-- The store after a vector of a tag was lent or taken back.
abbrev pub with_lent : List TagBuffers → ℕ → Option (List ℕ) → List TagBuffers
with_lent frames tag lent = with_held frames tag (record (held_for frames tag) { lent = lent })

-- The bytes of the buffer that a place is in.
abbrev pub bytes_of : List TagBuffers → Place → List ℕ
bytes_of frames place = bytes_in (held_for frames place.tag) place.buffer

-- The store after bytes were written from a place on.
abbrev pub with_bytes : List TagBuffers → Place → List ℕ → List TagBuffers
with_bytes frames place bytes =
    with_held frames place.tag (with_part (held_for frames place.tag) place.buffer place.offset bytes)

-- The first byte of a tag's buffer.
abbrev pub front_of : Buffer → ℕ → Place
front_of buffer tag = record { tag = tag; buffer = buffer; offset = 0 }

-- The `len` bytes from an address on are bytes of one buffer that is there, and `place` is the first.
pub record Names (frames : List TagBuffers) (address len : ℕ) (place : Place) : Type 0 where
  pub first_tag : 1 ≤ place.tag
  pub last_tag : place.tag ≤ STREAMS
  pub begins : address_of place ≡ address
  pub within : place.offset + len ≤ length (bytes_of frames place)

-- The bytes from an address on can be given: there is none, or they are bytes of one buffer.
abbrev pub IsNamed : List TagBuffers → ℕ → ℕ → Type 0
IsNamed frames address len = (len ≡ 0) ⊎ ((place : Place) × Names frames address len place)

-- So many bytes begin at a place: they are bytes of its buffer, which is there.
pub record Begins (frames : List TagBuffers) (place : Place) (len : ℕ) : Type 0 where
  pub first_tag : 1 ≤ place.tag
  pub last_tag : place.tag ≤ STREAMS
  pub there : place.buffer ≡ Window → (held_for frames place.tag).lent ≢ None
  pub within : place.offset + len ≤ length (bytes_of frames place)

-- The sizes of a tag's buffers.
pub record HasSizes (held : TagBuffers) : Type 0 where
  pub command : length held.command ≡ COMMAND_BYTES
  pub status : length held.status ≡ STATUS_BYTES
  pub lent : length (unwrap_or held.lent []) ≤ WINDOW_BYTES

-- What is true of every store: each tag has its two small buffers, and no window is too long.
pub record IsWhole (frames : List TagBuffers) : Type 0 where
  pub tags : length frames ≡ STREAMS
  pub sizes : (tag : ℕ) → 1 ≤ tag → tag ≤ STREAMS → HasSizes (held_for frames tag)

-- Where the bytes from an address on begin. No byte at all begins nowhere; it stands for the front of the first command buffer.
abbrev pub first_place : Place
first_place = front_of Command 1

abbrev pub start_of : ℕ → ℕ → Place
start_of address len = if len == 0 then first_place else unwrap_or (place_at address) first_place

-- The bytes that an address and a length name.
abbrev pub bytes_at : List TagBuffers → ℕ → ℕ → List ℕ
bytes_at frames address len = take len (drop (start_of address len).offset (bytes_of frames (start_of address len)))

-- The store after other bytes were written there.
abbrev pub written : List TagBuffers → ℕ → ℕ → List ℕ → List TagBuffers
written frames address len bytes = with_bytes frames (start_of address len) bytes

-- How many bytes the buffer of an address has from that address on; none where it has no such address.
abbrev pub left_at : List TagBuffers → ℕ → ℕ
left_at frames address = option_map_or (λ place. length (bytes_of frames place) - place.offset) (place_at address) 0
