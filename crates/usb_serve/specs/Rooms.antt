-- The memory of a session.
use Rattle.std.specs.Prelude.{◌≡◌, ◌≤◌, [], length, vec_capacity}
use Rattle.usb_serve.specs.declared.session.Rooms.{Rooms}

-- there is room for a packet's data and for what is sent, and the buffer is as long as a request can be
pub record HasRooms (rooms : Rooms) : Type 0 where
  pub bytes : 524288 ≤ vec_capacity rooms.bytes
  pub gathered : 131072 ≤ vec_capacity rooms.gathered
  pub buffer : length rooms.buffer.items ≡ 524288

-- between two packets nothing is gathered
pub record IsIdle (rooms : Rooms) : Type 0 where
  pub has : HasRooms rooms
  pub none : rooms.gathered.items ≡ []
