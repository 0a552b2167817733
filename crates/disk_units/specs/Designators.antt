-- World-wide names of a logical unit, as bytes (SPC, designation descriptors).
use Rattle.std.specs.Prelude.{ℕ, ◌-◌, ◌/◌, ◌==◌, true, false, ◌&&◌, ◌||◌, if◌then◌else◌, List, [], ◌∷◌, ◌++◌, length, replicate, slice_index_or, take, Result, Ok, Err}
use Rattle.disk_units.specs.declared.DiskFault.{DiskFault}
use Rattle.disk_units.specs.declared.DiskFault.TheVariants.{Naa as NaaFault, Eui as EuiFault}
use Rattle.disk_units.specs.declared.designators.Eui.{Eui}
use Rattle.disk_units.specs.declared.designators.Naa.{Naa}

-- the highest four bits of a name say its kind
abbrev pub kind_of : List ℕ → ℕ
kind_of name = slice_index_or name 0 0 / 16

-- so many bytes of 16
abbrev pub sixteen : List ℕ → List ℕ
sixteen name = name ++ replicate (16 - length name) 0

-- NAA: 2, 3 and 5 are of 8 bytes, 6 is of 16
abbrev pub naa_of : List ℕ → Result Naa DiskFault
naa_of name =
    if length name == 8 && (kind_of name == 2 || (kind_of name == 3 || kind_of name == 5)) then Ok (record { field = sixteen name; is_long = false })
    else (if length name == 16 && kind_of name == 6 then Ok (record { field = sixteen name; is_long = true })
    else Err NaaFault)

abbrev pub naa_name : Naa → List ℕ
naa_name naa = if naa.is_long then naa.field else take 8 naa.field

-- EUI-64
abbrev pub eui_of : List ℕ → Result Eui DiskFault
eui_of name =
    if length name == 8 || (length name == 12 || length name == 16) then Ok (record { field = sixteen name; size = length name })
    else Err EuiFault

abbrev pub eui_name : Eui → List ℕ
eui_name eui = take eui.size eui.field
