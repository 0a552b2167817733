-- Image files: the bytes of a unit's blocks, in their order.
use Rattle.std.specs.Prelude.{ℕ, ◌-◌, ◌*◌, ◌/◌, ◌%◌, ◌==◌, nat_lt, not, ◌&&◌, if◌then◌else◌, List, ◌++◌, length, replicate, codes, Result, Ok, Err}
use Rattle.std.specs.Fmt.{decimal}
use Rattle.uas_profile.specs.declared.TheConstants.{BLOCK_BYTES, MAX_BLOCKS}
use Rattle.block_unit.specs.declared.ImageFault.{ImageFault}
use Rattle.block_unit.specs.declared.ImageFault.TheVariants.{NotWhole, TooLarge}

-- an image has at most 65,536 blocks of 512 bytes, which are 33,554,432
abbrev pub max_image_bytes : ℕ
max_image_bytes = BLOCK_BYTES * MAX_BLOCKS

-- The number of blocks in an image, or its fault: too large, else empty or no whole number of blocks.
abbrev pub blocks_in : List ℕ → Result ℕ ImageFault
blocks_in bytes =
    if nat_lt max_image_bytes (length bytes) then Err TooLarge
    else (if not (length bytes == 0) && (length bytes % BLOCK_BYTES == 0) then Ok (length bytes / BLOCK_BYTES)
    else Err NotWhole)

-- `blocks N last L`: the last block's number is one less than their number
abbrev pub info_text : ℕ → List ℕ
info_text blocks = codes "blocks " ++ (decimal blocks ++ (codes " last " ++ (decimal (blocks - 1) ++ codes "\n")))

-- `made N`
abbrev pub made_text : ℕ → List ℕ
made_text blocks = codes "made " ++ decimal blocks ++ codes "\n"

-- the bytes of a new image
abbrev pub made_image : ℕ → List ℕ
made_image blocks = replicate (BLOCK_BYTES * blocks) 0
