-- What is asked for, and what a driver that was just made is.
use Rattle.std.specs.Prelude.{◌≡◌, ℕ, ◌+◌, ◌==◌, ◌||◌, nat_lt, Bool, if◌then◌else◌, Option, None, Some}
use Rattle.c_common.specs.declared.faults.TheConstants.{NO_MEMORY}
use Rattle.host_layout.specs.declared.shape.Pieces.{Pieces}
use Rattle.host_layout.specs.Sizes.{pieces_of}
use Rattle.bring_up.specs.declared.options.Options.{Options}
use Rattle.bring_up.specs.declared.options.Quirks.{Quirks}
use Rattle.bring_up.specs.Registers.{is_set}
use Rattle.disk_ready.specs.declared.DiskReady.{DiskReady}
use Rattle.disk_ready.specs.Calls.{begun_ready}
use Rattle.block_driver.specs.declared.BlockDriver.{BlockDriver}
use Rattle.block_driver.specs.Calls.{begun_driver}
use Rattle.uas_block_c.specs.declared.faults.TheConstants.{BLOCK_OPTIONS}
use Rattle.uas_block_c.specs.declared.options.UasBlockOptions.{UasBlockOptions}

-- each quirk is a bit
abbrev pub quirks_in : ℕ → Quirks
quirks_in bits = record {
  has_broken_streams = is_set bits 0;
  is_narrow = is_set bits 1;
  has_36_bits = is_set bits 2;
  takes_low_last = is_set bits 3;
  has_stale_streams = is_set bits 4;
}

abbrev pub bit : Bool → ℕ → ℕ
bit is_on worth = if is_on then worth else 0

abbrev pub quirks_number : Quirks → ℕ
quirks_number quirks =
    bit quirks.has_broken_streams 1 + bit quirks.is_narrow 2 + bit quirks.has_36_bits 4 + bit quirks.takes_low_last 8 + bit quirks.has_stale_streams 16

abbrev pub options_with : Option Pieces → UasBlockOptions → Option Options
options_with None asked = None
options_with (Some pieces) asked =
    if nat_lt 31 asked.quirks then None
    else Some (record {
      tags = asked.tags;
      pieces = pieces;
      bar_bytes = asked.bar_bytes;
      address_bits = asked.address_bits;
      quirks = quirks_in asked.quirks;
    })

-- there are 7, 15, 31, 63 or 127 TRBs, and five quirks
abbrev pub options_of : UasBlockOptions → Option Options
options_of asked = options_with (pieces_of asked.trbs) asked

abbrev pub fault_with : Option DiskReady → Option ℕ
fault_with None = Some BLOCK_OPTIONS
fault_with (Some ready) = None

abbrev pub fault_in : Option Options → Option ℕ
fault_in None = Some BLOCK_OPTIONS
fault_in (Some options) = fault_with (begun_ready options)

-- the fault of what is asked for
abbrev pub making_fault : UasBlockOptions → Option ℕ
making_fault asked = fault_in (options_of asked)

-- a number tells that: the fault, or without one none, or that there is no memory
abbrev pub tells : ℕ → Option ℕ → Bool
tells number None = number == 0 || number == NO_MEMORY
tells number (Some fault) = number == fault

-- a driver of these options, of a controller of which nothing is known
abbrev pub IsMadeBy : Option Options → BlockDriver → Type 0
IsMadeBy None driver = ⊥
IsMadeBy (Some options) driver = begun_driver options ≡ Some driver

abbrev pub IsMade : UasBlockOptions → BlockDriver → Type 0
IsMade asked driver = IsMadeBy (options_of asked) driver
