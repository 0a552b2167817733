-- A saved text: what it begins with, its version (2), its length (4), the body, and the CRC-32C of all before (4).
use Rattle.std.specs.Prelude.{ℕ, ◌+◌, ◌-◌, ◌==◌, nat_eq, nat_lt, not, if◌then◌else◌, List, ◌++◌, codes, length, take, drop, Result, Ok, Err}
use Rattle.std.specs.List.{starts_with}
use Rattle.byteorder.specs.Endian.{big_bytes, big_number}
use Rattle.log_records.specs.checksum.Division.{crc32c_of}
use Rattle.machine_bytes.specs.declared.place.Place.{Place}
use Rattle.machine_bytes.specs.Forms.{number}
use Rattle.machine_bytes.specs.Places.{written}
use Rattle.machine_bytes.specs.declared.sealed.SealFault.{SealFault}
use Rattle.machine_bytes.specs.declared.sealed.SealFault.TheVariants.{Short, Magic, Version, Length, Sum}

abbrev pub magic : List ℕ
magic = codes "UASXHC"

-- all but the checksum
abbrev pub front_of : List ℕ → List ℕ
front_of body = magic ++ (big_bytes 2 1 ++ (big_bytes 4 (16 + length body) ++ body))

abbrev pub sealed : List ℕ → List ℕ
sealed body = front_of body ++ big_bytes 4 (crc32c_of (front_of body))

-- the head of a text of so many bytes, one part after the other
abbrev pub head_write : List ℕ × Place → ℕ → List ℕ × Place
head_write w total = (number 4).write ((number 2).write (written w magic) 1) total

-- the bytes before the checksum, and the checksum
abbrev pub summed : List ℕ → List ℕ
summed bytes = take (length bytes - 4) bytes

abbrev pub sum_in : List ℕ → ℕ
sum_in bytes = big_number 4 (drop (length bytes - 4) bytes)

-- the body of bytes, or the first fault that they have
unfoldable pub opened : List ℕ → Result (List ℕ) SealFault
opened bytes =
    if nat_lt (length bytes) 16 then Err Short
    else (if not (starts_with nat_eq bytes magic) then Err Magic
    else (if not (big_number 2 (drop 6 bytes) == 1) then Err Version
    else (if not (big_number 4 (drop 8 bytes) == length bytes) then Err Length
    else (if not (crc32c_of (summed bytes) == sum_in bytes) then Err Sum
    else Ok (drop 12 (summed bytes))))))
