-- What users of a unit know of its calls without opening their definitions.
use Rattle.std.specs.Prelude.{ℕ, Bool, true, false, List, ◌+◌, ◌*◌, ◌-◌, ◌≡◌, ◌≤◌, ◌<◌, ◌&&◌, drop, length, if◌then◌else◌, refl}
use Rattle.std.proofs.Common.{arith, ap, ◌∙◌, sym, inl, inr, length-append, length-drop, length-take-le, get_or}
use Rattle.std.proofs.lemmas.Grind.{common_steps}
use Rattle.std.proofs.lemmas.Bool.{cases_lt, le-leb, lt-leb, lt-ltb, le-ltb}
use Rattle.std.proofs.lemmas.List.{same_lists, get_or-take, get_or-drop}
use Rattle.block_unit.specs.BlockMaps.{BlockMaps, block_count, IsWhole, bytes_from, with_bytes, block_at, covers, blocks_read, written}
use Rattle.block_unit.specs.BlockMaps.{blocks_covered, synced, with_attention}
use Rattle.uas_profile.specs.declared.TheConstants.{BLOCK_BYTES}

-- both lists have 512 bytes for each block
pub record IsSized (maps : BlockMaps) : Type 0 where
  pub blocks : length maps.blocks ≡ BLOCK_BYTES * maps.count
  pub medium : length maps.medium ≡ BLOCK_BYTES * maps.count

-- ---- whole blocks

-- 512 bytes for each of so many blocks fill so many, and whole ones
pub block_count_is : (bytes : List ℕ) (many : ℕ) → length bytes ≡ BLOCK_BYTES * many → block_count bytes ≡ many
block_count_is bytes many size = omega arith

pub IsWhole_is : (bytes : List ℕ) (many : ℕ) → length bytes ≡ BLOCK_BYTES * many → IsWhole bytes
IsWhole_is bytes many size = omega arith

pub length-whole : (bytes : List ℕ) → IsWhole bytes → length bytes ≡ BLOCK_BYTES * block_count bytes
length-whole bytes whole = omega arith

-- ---- a part of a list

pub length-bytes_from : (bytes : List ℕ) (place many : ℕ) → place + many ≤ length bytes → length (bytes_from bytes place many) ≡ many
unfolding bytes_from
length-bytes_from bytes place many within = length-take-le many (drop place bytes) (omega (arith, length-drop place bytes))

pub get_or-bytes_from : (bytes : List ℕ) (place many i d : ℕ) → i < many → get_or (bytes_from bytes place many) i d ≡ get_or bytes (place + i) d
unfolding bytes_from
get_or-bytes_from bytes place many i d below = get_or-take many (drop place bytes) i d below ∙ get_or-drop place bytes i d

pub length-with_bytes : (bytes : List ℕ) (place : ℕ) (part : List ℕ) → place + length part ≤ length bytes → length (with_bytes bytes place part) ≡ length bytes
unfolding with_bytes
length-with_bytes bytes place part within = simp (length-append, length-drop) (omega (arith, length-take-le place bytes (omega arith)))

pub get_or-with_bytes_before : (bytes : List ℕ) (place : ℕ) (part : List ℕ) (i d : ℕ) → place + length part ≤ length bytes → i < place
    → get_or (with_bytes bytes place part) i d ≡ get_or bytes i d
unfolding with_bytes
get_or-with_bytes_before bytes place part i d within before = grind (arith, common_steps)

pub get_or-with_bytes_inside : (bytes : List ℕ) (place : ℕ) (part : List ℕ) (i d : ℕ) → place + length part ≤ length bytes → i < length part
    → get_or (with_bytes bytes place part) (place + i) d ≡ get_or part i d
unfolding with_bytes
get_or-with_bytes_inside bytes place part i d within inside = grind (arith, common_steps)

pub get_or-with_bytes_after : (bytes : List ℕ) (place : ℕ) (part : List ℕ) (i d : ℕ) → place + length part ≤ length bytes → place + length part ≤ i
    → get_or (with_bytes bytes place part) i d ≡ get_or bytes i d
unfolding with_bytes
get_or-with_bytes_after bytes place part i d within after = grind (arith, common_steps)

-- ---- a block of a list

pub length-block_at : (bytes : List ℕ) (block many : ℕ) → length bytes ≡ BLOCK_BYTES * many → block < many → length (block_at bytes block) ≡ BLOCK_BYTES
unfolding block_at
length-block_at bytes block many size inside = length-bytes_from bytes (BLOCK_BYTES * block) BLOCK_BYTES (omega arith)

-- after whole blocks were put into a list, a block among them is theirs, and each other one is as before
pub block_at-with_bytes : (bytes : List ℕ) (lba : ℕ) (part : List ℕ) (many count block : ℕ) → length bytes ≡ BLOCK_BYTES * count → length part ≡ BLOCK_BYTES * many
    → lba + many ≤ count → block < count
    → block_at (with_bytes bytes (BLOCK_BYTES * lba) part) block ≡ (if covers lba many block then block_at part (block - lba) else block_at bytes block)
unfolding block_at covers
block_at-with_bytes bytes lba part many count block size part_size fits inside =
    let after = with_bytes bytes (BLOCK_BYTES * lba) part in
    let within : BLOCK_BYTES * lba + length part ≤ length bytes = omega arith in
    let length_after : length after ≡ BLOCK_BYTES * count = length-with_bytes bytes (BLOCK_BYTES * lba) part within ∙ size in
    let length_block : length (bytes_from after (BLOCK_BYTES * block) BLOCK_BYTES) ≡ BLOCK_BYTES = length-bytes_from after (BLOCK_BYTES * block) BLOCK_BYTES (omega arith) in
    let length_old : length (bytes_from bytes (BLOCK_BYTES * block) BLOCK_BYTES) ≡ BLOCK_BYTES = length-bytes_from bytes (BLOCK_BYTES * block) BLOCK_BYTES (omega arith) in
    elim (cases_lt block lba) [
      | inl before ↦
          rw (lt-leb lba block before) (same_lists _ _ (length_block ∙ sym length_old) (λ i d below.
          get_or-bytes_from after (BLOCK_BYTES * block) BLOCK_BYTES i d (omega arith)
          ∙ get_or-with_bytes_before bytes (BLOCK_BYTES * lba) part (BLOCK_BYTES * block + i) d within (omega arith)
          ∙ sym (get_or-bytes_from bytes (BLOCK_BYTES * block) BLOCK_BYTES i d (omega arith))))
      | inr from ↦ elim (cases_lt block (lba + many)) [
        | inl among ↦
            let length_part : length (bytes_from part (BLOCK_BYTES * (block - lba)) BLOCK_BYTES) ≡ BLOCK_BYTES = length-bytes_from part (BLOCK_BYTES * (block - lba)) BLOCK_BYTES (omega arith) in
            rw (le-leb lba block from, lt-ltb block (lba + many) among) (same_lists _ _ (length_block ∙ sym length_part) (λ i d below.
            get_or-bytes_from after (BLOCK_BYTES * block) BLOCK_BYTES i d (omega arith)
            ∙ ap (λ j. get_or after j d) (omega arith)
            ∙ get_or-with_bytes_inside bytes (BLOCK_BYTES * lba) part (BLOCK_BYTES * (block - lba) + i) d within (omega arith)
            ∙ sym (get_or-bytes_from part (BLOCK_BYTES * (block - lba)) BLOCK_BYTES i d (omega arith))))
        | inr beyond ↦
            rw (le-leb lba block from, le-ltb block (lba + many) beyond) (same_lists _ _ (length_block ∙ sym length_old) (λ i d below.
            get_or-bytes_from after (BLOCK_BYTES * block) BLOCK_BYTES i d (omega arith)
            ∙ get_or-with_bytes_after bytes (BLOCK_BYTES * lba) part (BLOCK_BYTES * block + i) d within (omega arith)
            ∙ sym (get_or-bytes_from bytes (BLOCK_BYTES * block) BLOCK_BYTES i d (omega arith))))
      ]
    ]

-- ---- the calls, block by block

-- block k of what is read is the unit's block lba + k
abbrev pub ReadsBlocks : Type 0
ReadsBlocks =
    (maps : BlockMaps) (lba many block : ℕ) → IsSized maps → lba + many ≤ maps.count → block < many →
    block_at (blocks_read maps lba many) block ≡ block_at maps.blocks (lba + block)

-- a write puts its own blocks in place of those that it covers, and every other block is as before
abbrev pub WritesBlocks : Type 0
WritesBlocks =
    (maps : BlockMaps) (lba : ℕ) (bytes : List ℕ) (through : Bool) (block : ℕ) → IsSized maps → IsWhole bytes → lba + block_count bytes ≤ maps.count
    → block < maps.count →
    block_at (written maps lba bytes through).blocks block ≡
    (if covers lba (block_count bytes) block then block_at bytes (block - lba) else block_at maps.blocks block)

-- the medium alike where the write goes through, and as before where it doesn't
abbrev pub WritesMedium : Type 0
WritesMedium =
    (maps : BlockMaps) (lba : ℕ) (bytes : List ℕ) (through : Bool) (block : ℕ) → IsSized maps → IsWhole bytes → lba + block_count bytes ≤ maps.count
    → block < maps.count →
    block_at (written maps lba bytes through).medium block ≡
    (if through && covers lba (block_count bytes) block then block_at bytes (block - lba) else block_at maps.medium block)

-- a synchronization makes the medium's blocks that it covers the unit's, and leaves every other one
abbrev pub SyncsMedium : Type 0
SyncsMedium =
    (maps : BlockMaps) (lba many block : ℕ) → IsSized maps → lba + many ≤ maps.count → block < maps.count →
    block_at (synced maps lba many).medium block ≡
    (if covers lba (blocks_covered maps lba many) block then block_at maps.blocks block else block_at maps.medium block)

pub block_at-blocks_read : ReadsBlocks
unfolding block_at blocks_read
block_at-blocks_read maps lba many block sized fits inside =
    let part = bytes_from maps.blocks (BLOCK_BYTES * lba) (BLOCK_BYTES * many) in
    let length_part : length part ≡ BLOCK_BYTES * many = length-bytes_from maps.blocks (BLOCK_BYTES * lba) (BLOCK_BYTES * many) (omega (arith, sized.blocks)) in
    let length_here : length (bytes_from part (BLOCK_BYTES * block) BLOCK_BYTES) ≡ BLOCK_BYTES = length-bytes_from part (BLOCK_BYTES * block) BLOCK_BYTES (omega arith) in
    let length_there : length (bytes_from maps.blocks (BLOCK_BYTES * (lba + block)) BLOCK_BYTES) ≡ BLOCK_BYTES =
    length-bytes_from maps.blocks (BLOCK_BYTES * (lba + block)) BLOCK_BYTES (omega (arith, sized.blocks)) in
    same_lists _ _ (length_here ∙ sym length_there) (λ i d below.
    get_or-bytes_from part (BLOCK_BYTES * block) BLOCK_BYTES i d (omega arith)
    ∙ get_or-bytes_from maps.blocks (BLOCK_BYTES * lba) (BLOCK_BYTES * many) (BLOCK_BYTES * block + i) d (omega arith)
    ∙ ap (λ j. get_or maps.blocks j d) (omega arith)
    ∙ sym (get_or-bytes_from maps.blocks (BLOCK_BYTES * (lba + block)) BLOCK_BYTES i d (omega arith)))

pub block_at-written : WritesBlocks
unfolding written
block_at-written maps lba bytes through block sized whole fits inside =
    block_at-with_bytes maps.blocks lba bytes (block_count bytes) maps.count block sized.blocks (length-whole bytes whole) fits inside

pub block_at-written_medium : WritesMedium
unfolding written
block_at-written_medium maps lba bytes true block sized whole fits inside =
    block_at-with_bytes maps.medium lba bytes (block_count bytes) maps.count block sized.medium (length-whole bytes whole) fits inside
block_at-written_medium maps lba bytes false block sized whole fits inside = refl

-- the covered blocks are within the unit
pub blocks_covered-fit : (maps : BlockMaps) (lba many : ℕ) → lba + many ≤ maps.count → lba + blocks_covered maps lba many ≤ maps.count
unfolding blocks_covered
blocks_covered-fit maps lba many fits = grind (arith, common_steps)

pub length-blocks_read : (maps : BlockMaps) (lba many : ℕ) → IsSized maps → lba + many ≤ maps.count → length (blocks_read maps lba many) ≡ BLOCK_BYTES * many
unfolding blocks_read
length-blocks_read maps lba many sized fits = length-bytes_from maps.blocks (BLOCK_BYTES * lba) (BLOCK_BYTES * many) (omega (arith, sized.blocks))

pub block_at-synced : SyncsMedium
unfolding synced covers
block_at-synced maps lba many block sized fits inside =
    let covered = blocks_covered maps lba many in
    let covered_fit : lba + covered ≤ maps.count = blocks_covered-fit maps lba many fits in
    let size = length-blocks_read maps lba covered sized covered_fit in
    block_at-with_bytes maps.medium lba (blocks_read maps lba covered) covered maps.count block sized.medium size covered_fit inside
    ∙ elim (cases_lt block lba) [
      | inl before ↦ rw (lt-leb lba block before) refl
      | inr from ↦ elim (cases_lt block (lba + covered)) [
        | inl among ↦
            rw (le-leb lba block from, lt-ltb block (lba + covered) among)
            (block_at-blocks_read maps lba covered (block - lba) sized covered_fit (omega arith) ∙ ap (block_at maps.blocks) (omega arith))
        | inr beyond ↦ rw (le-leb lba block from, le-ltb block (lba + covered) beyond) refl
      ]
    ]

-- ---- what each call keeps

pub written-count : (maps : BlockMaps) (lba : ℕ) (bytes : List ℕ) (through : Bool) → (written maps lba bytes through).count ≡ maps.count
unfolding written
written-count maps lba bytes through = refl

pub written-bad : (maps : BlockMaps) (lba : ℕ) (bytes : List ℕ) (through : Bool) → (written maps lba bytes through).bad ≡ maps.bad
unfolding written
written-bad maps lba bytes through = refl

pub written-attention : (maps : BlockMaps) (lba : ℕ) (bytes : List ℕ) (through : Bool) → (written maps lba bytes through).attention ≡ maps.attention
unfolding written
written-attention maps lba bytes through = refl

pub IsSized-written : (maps : BlockMaps) (lba : ℕ) (bytes : List ℕ) (through : Bool) → IsSized maps → IsWhole bytes → lba + block_count bytes ≤ maps.count
    → IsSized (written maps lba bytes through)
unfolding written
IsSized-written maps lba bytes true sized whole fits = record {
  blocks = length-with_bytes maps.blocks (BLOCK_BYTES * lba) bytes (omega (arith, sized.blocks)) ∙ sized.blocks;
  medium = length-with_bytes maps.medium (BLOCK_BYTES * lba) bytes (omega (arith, sized.medium)) ∙ sized.medium;
}
IsSized-written maps lba bytes false sized whole fits = record {
  blocks = length-with_bytes maps.blocks (BLOCK_BYTES * lba) bytes (omega (arith, sized.blocks)) ∙ sized.blocks;
  medium = sized.medium;
}

synced-keeps : (maps : BlockMaps) (lba many : ℕ) → ((synced maps lba many).count ≡ maps.count) × ((synced maps lba many).blocks ≡ maps.blocks)
    × ((synced maps lba many).bad ≡ maps.bad) × ((synced maps lba many).attention ≡ maps.attention)
unfolding synced
synced-keeps maps lba many = (refl, refl, refl, refl)

pub synced-count : (maps : BlockMaps) (lba many : ℕ) → (synced maps lba many).count ≡ maps.count
synced-count maps lba many = (synced-keeps maps lba many).0

pub synced-blocks : (maps : BlockMaps) (lba many : ℕ) → (synced maps lba many).blocks ≡ maps.blocks
synced-blocks maps lba many = (synced-keeps maps lba many).1

pub synced-bad : (maps : BlockMaps) (lba many : ℕ) → (synced maps lba many).bad ≡ maps.bad
synced-bad maps lba many = (synced-keeps maps lba many).2

pub synced-attention : (maps : BlockMaps) (lba many : ℕ) → (synced maps lba many).attention ≡ maps.attention
synced-attention maps lba many = (synced-keeps maps lba many).3

pub IsSized-synced : (maps : BlockMaps) (lba many : ℕ) → IsSized maps → lba + many ≤ maps.count → IsSized (synced maps lba many)
unfolding synced
IsSized-synced maps lba many sized fits =
    let covered = blocks_covered maps lba many in
    let covered_fit : lba + covered ≤ maps.count = blocks_covered-fit maps lba many fits in
    let size : length (blocks_read maps lba covered) ≡ BLOCK_BYTES * covered = length-blocks_read maps lba covered sized covered_fit in
    record {
      blocks = sized.blocks;
      medium = length-with_bytes maps.medium (BLOCK_BYTES * lba) (blocks_read maps lba covered) (omega (arith, sized.medium)) ∙ sized.medium;
    }

with_attention-is : (maps : BlockMaps) (flag : Bool) → ((with_attention maps flag).count ≡ maps.count)
    × ((with_attention maps flag).blocks ≡ maps.blocks) × ((with_attention maps flag).medium ≡ maps.medium)
    × ((with_attention maps flag).bad ≡ maps.bad) × ((with_attention maps flag).attention ≡ flag)
unfolding with_attention
with_attention-is maps flag = (refl, refl, refl, refl, refl)

pub with_attention-count : (maps : BlockMaps) (flag : Bool) → (with_attention maps flag).count ≡ maps.count
with_attention-count maps flag = (with_attention-is maps flag).0

pub with_attention-blocks : (maps : BlockMaps) (flag : Bool) → (with_attention maps flag).blocks ≡ maps.blocks
with_attention-blocks maps flag = (with_attention-is maps flag).1

pub with_attention-medium : (maps : BlockMaps) (flag : Bool) → (with_attention maps flag).medium ≡ maps.medium
with_attention-medium maps flag = (with_attention-is maps flag).2

pub with_attention-bad : (maps : BlockMaps) (flag : Bool) → (with_attention maps flag).bad ≡ maps.bad
with_attention-bad maps flag = (with_attention-is maps flag).3

pub with_attention-attention : (maps : BlockMaps) (flag : Bool) → (with_attention maps flag).attention ≡ flag
with_attention-attention maps flag = (with_attention-is maps flag).4

pub IsSized-with_attention : (maps : BlockMaps) (flag : Bool) → IsSized maps → IsSized (with_attention maps flag)
unfolding with_attention
IsSized-with_attention maps flag sized = record { blocks = sized.blocks; medium = sized.medium }
