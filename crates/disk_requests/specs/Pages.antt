-- Vital product data pages (SPC-4, 7.8; SBC-3, 6.5): the page code is in byte 1, the length of what follows in bytes 2 and 3.
use Rattle.std.specs.Prelude.{ℕ, ◌+◌, ◌==◌, ◌&&◌, nat_le, min, Bool, if◌then◌else◌, List, length, slice_index, slice_range, Option, None, Some}
use Rattle.std.specs.List.{list_any}
use Rattle.scsi_cmd.specs.Fields.{field_of_four, field_of_two}
use Rattle.disk_requests.specs.declared.answers.BlockLimits.{BlockLimits}

abbrev pub is_page : ℕ → List ℕ → Bool
is_page page bytes = nat_le 4 (length bytes) && (slice_index bytes 1 == page)

-- the end of a page: as far as its length tells, and as came
abbrev pub page_end : List ℕ → ℕ
page_end bytes = min (4 + field_of_two bytes 2) (length bytes)

-- page 00h lists this page
abbrev pub lists_page : List ℕ → ℕ → Bool
lists_page bytes page = is_page 0x00 bytes && list_any (λ code. code == page) (slice_range bytes 4 (page_end bytes))

-- a field of four bytes of a page; 0 where the page ends before its end
abbrev pub page_field : List ℕ → ℕ → ℕ
page_field bytes at = if nat_le (at + 4) (page_end bytes) then field_of_four bytes at else 0

-- page B0h, Block Limits: MAXIMUM and OPTIMAL TRANSFER LENGTH, MAXIMUM UNMAP LBA COUNT, MAXIMUM UNMAP BLOCK DESCRIPTOR COUNT
abbrev pub limits_in : List ℕ → Option BlockLimits
limits_in bytes =
    if is_page 0xb0 bytes then Some (record {
      most_blocks = page_field bytes 8;
      optimal_blocks = page_field bytes 12;
      most_unmap = page_field bytes 20;
      unmap_descriptors = page_field bytes 24;
    })
    else None
