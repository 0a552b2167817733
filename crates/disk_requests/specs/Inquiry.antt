-- Standard INQUIRY data (SPC-4, 6.4.2).
use Rattle.std.specs.Prelude.{ℕ, ◌==◌, ◌&&◌, nat_le, Bool, if◌then◌else◌, List, length, slice_index, slice_range, Result, Ok, Err}
use Rattle.scsi_cmd.specs.Fields.{is_bit_set}
use Rattle.disk_requests.specs.declared.DiskFault.{DiskFault}
use Rattle.disk_requests.specs.declared.DiskFault.TheVariants.{NotADisk}
use Rattle.disk_requests.specs.declared.answers.InquiryData.{InquiryData}

-- 36 bytes at least; peripheral qualifier 0, the unit is there, in bits 7 to 5 of byte 0, and device type 0, a direct access block device, in
-- bits 4 to 0
abbrev pub is_disk : List ℕ → Bool
is_disk bytes = nat_le 36 (length bytes) && (slice_index bytes 0 == 0)

-- RMB is bit 7 of byte 1
abbrev pub inquiry_in : List ℕ → Result InquiryData DiskFault
inquiry_in bytes =
    if is_disk bytes then Ok (record {
      is_removable = is_bit_set (slice_index bytes 1) 7;
      version = slice_index bytes 2;
      vendor = slice_range bytes 8 16;
      product = slice_range bytes 16 32;
      revision = slice_range bytes 32 36;
    })
    else Err NotADisk
