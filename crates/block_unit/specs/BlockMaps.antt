-- The value that contracts see in a `Unit`: two maps from block numbers to 512 bytes, kept as lists of bytes, and what each
-- call makes of them.
use Rattle.std.specs.Prelude.{ℕ, Bool, false, List, ◌++◌, ◌+◌, ◌*◌, ◌/◌, ◌%◌, ◌-◌, ◌≡◌, take, drop, length, filter, replicate, nat_le}
use Rattle.std.specs.Prelude.{nat_lt, ◌&&◌, ◌==◌, if◌then◌else◌}
use Rattle.std.specs.List.{list_any, range_with_len}
use Rattle.uas_profile.specs.declared.TheConstants.{BLOCK_BYTES}

-- a logical unit
pub record BlockMaps : Type 0 where
  -- how many blocks it has
  pub count : ℕ
  -- their bytes, block k from byte 512 k on
  pub blocks : List ℕ
  -- the medium's bytes, laid out alike
  pub medium : List ℕ
  -- whether a unit attention is established
  pub attention : Bool
  -- the numbers of the blocks that can be neither read nor written, rising, each once
  pub bad : List ℕ

-- how many blocks these bytes fill
abbrev pub block_count : List ℕ → ℕ
block_count bytes = length bytes / BLOCK_BYTES

-- the bytes fill whole blocks
abbrev pub IsWhole : List ℕ → Type 0
IsWhole bytes = length bytes % BLOCK_BYTES ≡ 0

-- so many bytes from this place on
unfoldable pub bytes_from : List ℕ → ℕ → ℕ → List ℕ
bytes_from bytes place many = take many (drop place bytes)

-- the list with these bytes from this place on: 7, 8 from place 1 on in 0, 0, 0, 0 gives 0, 7, 8, 0
unfoldable pub with_bytes : List ℕ → ℕ → List ℕ → List ℕ
with_bytes bytes place part = take place bytes ++ part ++ drop (place + length part) bytes

-- the 512 bytes of one block
unfoldable pub block_at : List ℕ → ℕ → List ℕ
block_at bytes block = bytes_from bytes (BLOCK_BYTES * block) BLOCK_BYTES

-- a block is one of so many from this one on: of two from block 2 on these are 2 and 3, of none there are none
unfoldable pub covers : ℕ → ℕ → ℕ → Bool
covers lba many block = nat_le lba block && nat_lt block (lba + many)

-- is one of so many blocks from this one on bad
unfoldable pub meets_bad : BlockMaps → ℕ → ℕ → Bool
meets_bad maps lba many = list_any (covers lba many) maps.bad

-- what a read of so many blocks from this one on gives
unfoldable pub blocks_read : BlockMaps → ℕ → ℕ → List ℕ
blocks_read maps lba many = bytes_from maps.blocks (BLOCK_BYTES * lba) (BLOCK_BYTES * many)

-- the unit after a write of these bytes from this block on: the medium has them too where the write goes through
unfoldable pub written : BlockMaps → ℕ → List ℕ → Bool → BlockMaps
written maps lba bytes through = record {
  count = maps.count;
  blocks = with_bytes maps.blocks (BLOCK_BYTES * lba) bytes;
  medium = if through then with_bytes maps.medium (BLOCK_BYTES * lba) bytes else maps.medium;
  attention = maps.attention;
  bad = maps.bad;
}

-- how many blocks a synchronization covers that names so many from this one on: 0 stands for all that follow, so from block 0
-- on for the whole unit, and of 10 blocks from block 4 on for 6
unfoldable pub blocks_covered : BlockMaps → ℕ → ℕ → ℕ
blocks_covered maps lba many = if many == 0 then maps.count - lba else many

-- the unit after a synchronization: the medium has what the covered blocks have, and the rest of it is as before
unfoldable pub synced : BlockMaps → ℕ → ℕ → BlockMaps
synced maps lba many = record {
  count = maps.count;
  blocks = maps.blocks;
  medium = with_bytes maps.medium (BLOCK_BYTES * lba) (blocks_read maps lba (blocks_covered maps lba many));
  attention = maps.attention;
  bad = maps.bad;
}

-- the unit with its attention set or cleared
unfoldable pub with_attention : BlockMaps → Bool → BlockMaps
with_attention maps flag = record {
  count = maps.count;
  blocks = maps.blocks;
  medium = maps.medium;
  attention = flag;
  bad = maps.bad;
}

-- the numbers below the count that the list names, rising, each once: of 9, 2, 7, 2 below 8 these are 2 and 7
unfoldable pub bad_below : ℕ → List ℕ → List ℕ
bad_below count listed = filter (λ block. list_any (λ named. block == named) listed) (range_with_len 0 count)

-- a new unit, blocks and medium of zeros
unfoldable pub fresh : ℕ → List ℕ → BlockMaps
fresh count listed = record {
  count = count;
  blocks = replicate (BLOCK_BYTES * count) 0;
  medium = replicate (BLOCK_BYTES * count) 0;
  attention = false;
  bad = bad_below count listed;
}

-- an image fills whole blocks, and at least one: 1,024 bytes do, 1,000 and none don't
unfoldable pub is_whole_image : List ℕ → Bool
is_whole_image image = nat_lt 0 (length image) && (length image % BLOCK_BYTES == 0)

-- a unit whose blocks and medium are an image
unfoldable pub imaged : List ℕ → List ℕ → BlockMaps
imaged image listed = record {
  count = block_count image;
  blocks = image;
  medium = image;
  attention = false;
  bad = bad_below (block_count image) listed;
}
