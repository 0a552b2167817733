-- Where a consumer's end is kept in memory, and what a look there finds (xHCI 1.2, 6.2.3 and 6.2.4.1).
use Rattle.std.specs.Prelude.{◌≡◌, ◌%◌, ◌^◌, ◌<◌, Option, Some}
use Rattle.guest_memory.specs.Bytes.{Memory, bytes_from}
use Rattle.guest_memory.specs.declared.rings.cursor.Cursor.{Cursor}
use Rattle.guest_memory.specs.declared.rings.words.Words.{Words}
use Rattle.guest_memory.specs.declared.rings.context.Home.{Home}
use Rattle.guest_memory.specs.rings.Ends.{fetched, found_of, home_at, home_bytes, home_size, looked}

-- the context has this dequeue pointer and cycle state, and of a stream the type of a ring, 1
abbrev pub HasEnd : Memory → Home → Cursor → Type 0
HasEnd memory home cursor = bytes_from memory (home_at home) (home_size home) ≡ Some (home_bytes home 1 cursor)

-- a dequeue pointer: a multiple of 16
abbrev pub IsDequeue : Cursor → Type 0
IsDequeue cursor = (cursor.place % 16 ≡ 0) × (cursor.place < 2 ^ 64)

-- a look at a ring's end finds what is fetched there
abbrev pub EndIsLooked : Type 0
EndIsLooked =
    (memory : Memory) (home : Home) (cursor : Cursor) (words : Option Words) → HasEnd memory home cursor → IsDequeue cursor
    → fetched memory cursor ≡ Some words
    → looked memory home ≡ Some (record { home = home; cursor = cursor; found = found_of words })
