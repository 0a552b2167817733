-- How many blocks a file has.
use Rattle.std.specs.Prelude.{ℕ, ◌/◌, ◌%◌, ◌^◌, ◌==◌, nat_lt, not, ◌||◌, if◌then◌else◌, Result, Ok, Err}
use Rattle.block_unit.specs.declared.ImageFault.{ImageFault}
use Rattle.block_unit.specs.declared.ImageFault.TheVariants.{NotWhole, TooLarge}

-- a file of so many bytes: at most 2^48 blocks, then at least one and whole ones. 1,024 bytes are 2 blocks, 1,000 and 0 are NotWhole
abbrev pub blocks_in : ℕ → Result ℕ ImageFault
blocks_in size =
    if nat_lt (2 ^ 48) (size / 512) then Err TooLarge
    else (if (size == 0) || not (size % 512 == 0) then Err NotWhole else Ok (size / 512))
