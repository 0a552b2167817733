-- Laws of the addresses that rings and buffers have together.
use Rattle.std.specs.Prelude.{◌≡◌, ◌≢◌, ℕ}
use Rattle.frame_store.specs.declared.Buffer.TheVariants.{Command, Status, Window}
use Rattle.frame_store.specs.declared.Place.{Place}
use Rattle.frame_store.specs.Places.{IsPlace, address_of}
use Rattle.frame_store.specs.Buffers.{front_of}
use Rattle.stream_array.specs.Map.{IsByteOf, IsSpot, Spot}
use Rattle.uas_host.specs.Tds.{command_buffer_of, status_buffer_of, window_of}

-- No byte of a ring's place, the command ring's and the event ring's too, is a byte that a command buffer, a status buffer
-- or a window has room for, however long the lent vectors are.
abbrev pub RingsAreNoBuffers : Type 0
RingsAreNoBuffers = (spot : Spot) (place : Place) (address : ℕ) → IsSpot spot → IsByteOf spot address → IsPlace place → address_of place ≢ address

-- the addresses in the TRBs are those of the tag's buffers
abbrev pub TrbsNameBuffers : Type 0
TrbsNameBuffers =
    (tag : ℕ) → (command_buffer_of tag ≡ address_of (front_of Command tag)) × (status_buffer_of tag ≡ address_of (front_of Status tag))
    × (window_of tag ≡ address_of (front_of Window tag))
