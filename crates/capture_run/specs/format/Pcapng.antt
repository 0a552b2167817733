-- The blocks of a pcapng file, with numbers that are little endian.
use Rattle.std.specs.Prelude.{ℕ, ◌+◌, ◌-◌, ◌/◌, ◌%◌, ◌^◌, List, [], ◌∷◌, ◌++◌, length, replicate, codes}
use Rattle.byteorder.specs.Endian.{little_bytes}

-- a field, and the zeros that fill it up to a multiple of four bytes
unfoldable pub padded : List ℕ → List ℕ
padded field = field ++ replicate ((4 - length field % 4) % 4) 0

-- a block: its kind, its whole length, what stands in it, and its whole length again
unfoldable pub block : ℕ → List ℕ → List ℕ
block kind body =
    little_bytes 4 kind ++ little_bytes 4 (length body + 12) ++ body ++ little_bytes 4 (length body + 12)

-- an option: its code, the length of its value, and the value
unfoldable pub option : ℕ → List ℕ → List ℕ
option code value = little_bytes 2 code ++ little_bytes 2 (length value) ++ padded value

-- the section header: the byte order, version 1.0, a length that isn't told
unfoldable pub section : List ℕ
section = block 0x0a0d0d0a (little_bytes 4 0x1a2b3c4d ++ little_bytes 2 1 ++ little_bytes 2 0 ++ little_bytes 8 (2 ^ 64 - 1))

-- the interface: link type 220, packets of at most 262,144 bytes, its name, and times of 10^-6 seconds
unfoldable pub interface : List ℕ
interface = block 1 (little_bytes 2 220 ++ little_bytes 2 0 ++ little_bytes 4 262144
    ++ option 2 (codes "uas0") ++ option 9 (6 ∷ []) ++ option 0 [])

-- a packet of interface 0: the high and the low word of its time, its length as captured and as it was, its bytes, and its comment
unfoldable pub packet : ℕ → List ℕ → List ℕ → List ℕ
packet time bytes comment = block 6 (little_bytes 4 0 ++ little_bytes 4 (time / 2 ^ 32) ++ little_bytes 4 (time % 2 ^ 32)
    ++ little_bytes 4 (length bytes) ++ little_bytes 4 (length bytes) ++ padded bytes ++ option 1 comment ++ option 0 [])
