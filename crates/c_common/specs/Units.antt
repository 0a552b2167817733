-- The logical units of which a device, a controller and a bus are made, and the fault of asking for them.
use Rattle.std.specs.Prelude.{ℕ, ◌*◌, ◌==◌, nat_le, nat_lt, Bool, false, not, ◌&&◌, ◌||◌, if◌then◌else◌, List, length, map, filter, sum, take, drop}
use Rattle.std.specs.Prelude.{slice_get, slice_index, Result, Ok, Err}
use Rattle.std.specs.List.{list_all, range_with_len}
use Rattle.std.specs.Option.{option_map_or}
use Rattle.block_unit.specs.BlockMaps.{BlockMaps, fresh, imaged}
use Rattle.c_common.specs.declared.faults.TheConstants.{BAD_BLOCK, BLOCKS, IMAGE, NO_MEMORY, UNITS}
use Rattle.c_common.specs.declared.units.UasBadBlock.{UasBadBlock}
use Rattle.c_common.specs.declared.units.UnitsFault.{UnitsFault}
use Rattle.c_common.specs.declared.units.UnitsFault.TheVariants as faults

-- THE UNITS

-- the bytes of a unit in the image: those behind the bytes of all units before it, as many as its blocks have
abbrev pub image_of : List ℕ → List ℕ → ℕ → List ℕ
image_of counts image unit = take (512 * slice_index counts unit) (drop (512 * sum (take unit counts)) image)

-- the bad blocks of a unit
abbrev pub bad_of : List UasBadBlock → ℕ → List ℕ
bad_of bad unit = map (λ block. block.lba) (filter (λ block. block.unit == unit) bad)

-- the unit of this number: its blocks and its medium are its bytes of the image, or zeros where the image is empty. Worked: of units of
-- 1 and 2 blocks, the image of unit 1 is bytes 512 to 1,535, and of the bad blocks (1, 0), (0, 0) and (1, 1) its are 0 and 1
abbrev pub opened_unit : List ℕ → List ℕ → List UasBadBlock → ℕ → BlockMaps
opened_unit counts image bad unit =
    if length image == 0 then fresh (slice_index counts unit) (bad_of bad unit) else imaged (image_of counts image unit) (bad_of bad unit)

-- a unit of each of these numbers of blocks
abbrev pub opened_units : List ℕ → List ℕ → List UasBadBlock → List BlockMaps
opened_units counts image bad = map (opened_unit counts image bad) (range_with_len 0 (length counts))

-- THE FAULT

-- a unit has 1 to 65,536 blocks
abbrev pub is_size : ℕ → Bool
is_size blocks = nat_le 1 blocks && nat_le blocks 65536

-- an image is empty, or as long as the units' blocks together
abbrev pub is_image : List ℕ → List ℕ → Bool
is_image counts image = length image == 0 || length image == 512 * sum counts

-- a bad block is one of a unit that is there
abbrev pub is_bad_block : List ℕ → UasBadBlock → Bool
is_bad_block counts bad = option_map_or (λ blocks. nat_lt bad.lba blocks) (slice_get counts bad.unit) false

-- The first of these that holds, where there may be so many units: none or more, a unit of another number of blocks, another length of the
-- image, no bad block.
abbrev pub units_fault : ℕ → List ℕ → List ℕ → List UasBadBlock → ℕ
units_fault most counts image bad =
    if length counts == 0 || nat_lt most (length counts) then UNITS
    else (if not (list_all is_size counts) then BLOCKS
    else (if not (is_image counts image) then IMAGE
    else (if not (list_all (is_bad_block counts) bad) then BAD_BLOCK else 0)))

abbrev pub units_fault_number : UnitsFault → ℕ
units_fault_number faults.Count = UNITS
units_fault_number faults.Blocks = BLOCKS
units_fault_number faults.Image = IMAGE
units_fault_number faults.BadBlock = BAD_BLOCK
units_fault_number faults.NoMemory = NO_MEMORY

abbrev pub units_number : {X : Type 0} → Result X UnitsFault → ℕ
units_number (Ok x) = 0
units_number (Err fault) = units_fault_number fault

-- The number of an answer is right: the fault, or want of memory where there is none.
abbrev pub units_told : ℕ → ℕ → List ℕ → List ℕ → List UasBadBlock → Bool
units_told number most counts image bad =
    number == units_fault most counts image bad || (number == NO_MEMORY && units_fault most counts image bad == 0)
