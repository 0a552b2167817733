-- What a host is told that there is, against what is answered.
use Rattle.std.specs.Prelude.{◌≡◌, ℕ, ◌==◌, Bool, drop, length, slice_index, is_some, IfSome}
use Rattle.std.specs.List.{list_any}
use Rattle.disk_units.specs.declared.names.UnitNames.{UnitNames}
use Rattle.disk_units.specs.declared.pages.DiskPage.{DiskPage}
use Rattle.disk_units.specs.declared.pages.DiskPage.TheVariants.{SupportedPages}
use Rattle.disk_units.specs.declared.unit.DiskUnit.{DiskUnit}
use Rattle.disk_units.specs.Data.{disk_page_bytes}
use Rattle.disk_units.specs.Pages.{disk_page}

-- Page 00h lists, behind its first four bytes, just the pages that are answered.
abbrev pub DiskPagesAreListed : Type 0
DiskPagesAreListed =
    (code number block_bytes : ℕ) (unit : DiskUnit) (names : UnitNames) (present : Bool)
    → is_some (disk_page code unit names number block_bytes)
    ≡ list_any (λ listed. code == listed) (drop 4 (disk_page_bytes SupportedPages present))

-- a page says its code, and how many bytes follow the first four
abbrev pub TellsItself : ℕ → Bool → DiskPage → Type 0
TellsItself code present page =
    (slice_index (disk_page_bytes page present) 1 ≡ code)
    × (slice_index (disk_page_bytes page present) 3 ≡ length (drop 4 (disk_page_bytes page present)))

abbrev pub DiskPagesTellThemselves : Type 0
DiskPagesTellThemselves =
    (code number block_bytes : ℕ) (unit : DiskUnit) (names : UnitNames) (present : Bool)
    → IfSome (disk_page code unit names number block_bytes) (TellsItself code present)
