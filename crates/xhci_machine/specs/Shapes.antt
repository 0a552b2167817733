-- What a machine was made for, in front of its saved state.
use Rattle.std.specs.Prelude.{ℕ, nat_eq, if◌then◌else◌, List, [], ◌∷◌, length, take, drop, Option, Some, None}
use Rattle.std.specs.List.{starts_with}
use Rattle.host_commands.specs.declared.CommandSet.{CommandSet}
use Rattle.host_commands.specs.declared.CommandSet.TheVariants.{Profile, Host, Disk}
use Rattle.host_commands.specs.Shapes.{Shape, block_bytes}
use Rattle.machine_bytes.specs.declared.place.Place.{Place}
use Rattle.machine_bytes.specs.Forms.{number}
use Rattle.machine_bytes.specs.Places.{written}
use Rattle.machine_bytes.specs.Sparse.{made_places}
use Rattle.uas_tasks.specs.declared.LogicalUnit.{LogicalUnit}
use Rattle.uas_tasks.specs.Machine.{Machine as Tasks, slot_of}

-- the set: 0 of the profile, 1 of hosts, 2 of virtual disks
abbrev pub set_number : CommandSet → ℕ
set_number Profile = 0
set_number (Host maximum) = 1
set_number Disk = 2

-- the most blocks of its commands, 0 where each logical unit says so itself, or the profile does
abbrev pub most_of : CommandSet → ℕ
most_of Profile = 0
most_of (Host maximum) = maximum
most_of Disk = 0

-- a logical unit: blocks (8), bytes of a block (2), serial number (4)
abbrev pub unit_write : List ℕ × Place → Shape → List ℕ × Place
unit_write w shape = (number 4).write ((number 2).write ((number 8).write w shape.blocks) (block_bytes shape.block_length)) shape.serial

abbrev pub units_write : List ℕ × Place → List LogicalUnit → List ℕ × Place
units_write w [] = w
units_write w (unit ∷ units) = units_write (unit_write w unit.shape) units

-- set, most blocks (2), blocks of a chunk (2), how many logical units (1), and each of them
abbrev pub shape_write : List ℕ × Place → Tasks → List ℕ × Place
shape_write w tasks =
    units_write ((number 1).write ((number 2).write ((number 2).write (written w (set_number tasks.set ∷ [])) (most_of tasks.set)) (slot_of tasks 1).chunk) (length tasks.units))
    tasks.units

-- at the front, where nothing is written yet
abbrev pub front_place : Place
front_place = record { at = 0; needs = 0 }

abbrev pub front_of : List ℕ × Place → List ℕ
front_of w = take w.1.at w.0

-- the same as bytes, for which 256 places are enough
unfoldable pub shape_text : Tasks → List ℕ
shape_text tasks = front_of (shape_write (made_places 256 0, front_place) tasks)

-- what stands behind them, where they stand in front
abbrev pub behind_shape : Tasks → List ℕ → Option (List ℕ)
behind_shape tasks text = if starts_with nat_eq text (shape_text tasks) then Some (drop (length (shape_text tasks)) text) else None
