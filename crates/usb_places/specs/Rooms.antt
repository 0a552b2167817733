-- The record of a tag's places, and the room of their vector.
use Rattle.std.specs.Prelude.{◌≤◌, length, take, drop, vec_capacity}
use Rattle.usb_places.specs.States.{TagState}
use Rattle.usb_places.specs.declared.tag.TagPlaces.TheInside.{Inside}
use Rattle.usb_places.specs.declared.TheConstants.{MOST_TRANSFER_BYTES}

abbrev pub view_of : Inside → TagState
view_of tag = record {
  command = tag.command;
  command_unit = tag.command_unit.items;
  status = tag.status;
  unit = tag.unit.items;
  data_in = tag.data_in;
  given = drop tag.came tag.bytes.items;
  data_out = tag.data_out;
  out = take tag.came tag.bytes.items;
  used = tag.used;
}

-- no transfers outgrow the vector, and no more bytes are used than came
pub record HasRooms (tag : Inside) : Type 0 where
  pub room : MOST_TRANSFER_BYTES ≤ vec_capacity tag.bytes
  pub most : length tag.bytes.items ≤ MOST_TRANSFER_BYTES
  pub came : tag.came ≤ length tag.bytes.items
  pub used : tag.used ≤ tag.came
