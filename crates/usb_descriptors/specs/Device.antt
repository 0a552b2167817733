-- The device descriptor (USB 3.2, 9.6.1).
use Rattle.std.specs.Prelude.{ℕ, ◌/◌, ◌%◌, ◌==◌, ◌&&◌, Bool, not, if◌then◌else◌, List, [], ◌∷◌, ◌++◌, length, slice_index, Result, Ok, Err}
use Rattle.usb_descriptors.specs.declared.device.DeviceDescriptor.{DeviceDescriptor}
use Rattle.usb_descriptors.specs.declared.DescriptorFault.{DescriptorFault}
use Rattle.usb_descriptors.specs.declared.DescriptorFault.TheVariants.{BadDevice, Hub}
use Rattle.usb_descriptors.specs.Fields.{word}

-- 18 bytes, which tell that length and type 1; packets of 2^9 bytes on endpoint 0, as each SuperSpeed device has
abbrev pub is_device : List ℕ → Bool
is_device bytes = (length bytes == 18) && (slice_index bytes 0 == 18) && (slice_index bytes 1 == 1) && (slice_index bytes 7 == 9)

-- The fields by their places. Checked by hand: in 12 01 00 03 00 00 00 09 f4 46 03 00 00 00 01 02 03 01 the release is 0300h, the vendor
-- 46F4h, the product 0003h.
abbrev pub device_fields : List ℕ → DeviceDescriptor
device_fields bytes = record {
  release = word bytes 2;
  class = slice_index bytes 4;
  subclass = slice_index bytes 5;
  protocol = slice_index bytes 6;
  max_packet_exponent = slice_index bytes 7;
  vendor = word bytes 8;
  product = word bytes 10;
  device = word bytes 12;
  manufacturer_string = slice_index bytes 14;
  product_string = slice_index bytes 15;
  serial_string = slice_index bytes 16;
  configurations = slice_index bytes 17;
}

-- what the bytes are read as; class 09h is a hub
unfoldable pub device_in : List ℕ → Result DeviceDescriptor DescriptorFault
device_in bytes =
    if not (is_device bytes) then Err BadDevice
    else (if slice_index bytes 4 == 0x09 then Err Hub
    else Ok (device_fields bytes))

-- the bytes of a device descriptor
abbrev pub word_bytes : ℕ → List ℕ
word_bytes n = n % 256 ∷ n / 256 ∷ []

abbrev pub device_text : DeviceDescriptor → List ℕ
device_text d =
    (18 ∷ 1 ∷ []) ++ word_bytes d.release ++ (d.class ∷ d.subclass ∷ d.protocol ∷ d.max_packet_exponent ∷ []) ++ word_bytes d.vendor
    ++ word_bytes d.product ++ word_bytes d.device
    ++ (d.manufacturer_string ∷ d.product_string ∷ d.serial_string ∷ d.configurations ∷ [])
