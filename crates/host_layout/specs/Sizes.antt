-- The numbers that a layout is made of.
use Rattle.std.specs.Prelude.{ℕ, ◌+◌, ◌-◌, ◌*◌, ◌/◌, ◌%◌, ◌==◌, if◌then◌else◌, Option, Some, None}
use Rattle.host_layout.specs.declared.shape.Pieces.{Pieces}
use Rattle.host_layout.specs.declared.shape.Pieces.TheVariants.{Seven, Fifteen, ThirtyOne, SixtyThree, HundredTwentySeven}
use Rattle.host_layout.specs.declared.shape.PageSize.{PageSize}
use Rattle.host_layout.specs.declared.shape.PageSize.TheVariants.{Kib4, Kib8, Kib16, Kib32, Kib64}

-- the most TRBs of a TD's data
abbrev pub pieces_number : Pieces → ℕ
pieces_number Seven = 7
pieces_number Fifteen = 15
pieces_number ThirtyOne = 31
pieces_number SixtyThree = 63
pieces_number HundredTwentySeven = 127

abbrev pub pieces_of : ℕ → Option Pieces
pieces_of number =
    if number == 7 then Some Seven
    else if number == 15 then Some Fifteen
    else if number == 31 then Some ThirtyOne
    else if number == 63 then Some SixtyThree
    else if number == 127 then Some HundredTwentySeven
    else None

-- three thirds of so many TRBs and a Link, of 16 bytes each
abbrev pub ring_bytes : Pieces → ℕ
ring_bytes pieces = 48 * (pieces_number pieces + 1)

-- 5.4.3: bit n of PAGESIZE is a page of 2^(n+12) bytes
abbrev pub page_bytes : PageSize → ℕ
page_bytes Kib4 = 4096
page_bytes Kib8 = 8192
page_bytes Kib16 = 16384
page_bytes Kib32 = 32768
page_bytes Kib64 = 65536

-- the lowest bit that is set
abbrev pub page_of : ℕ → Option PageSize
page_of register =
    if register % 2 == 1 then Some Kib4
    else if register / 2 % 2 == 1 then Some Kib8
    else if register / 4 % 2 == 1 then Some Kib16
    else if register / 8 % 2 == 1 then Some Kib32
    else if register / 16 % 2 == 1 then Some Kib64
    else None

-- The next multiple of a unit. Worked: round_up 7680 4096 is 8192, and round_up 8192 4096 is 8192.
abbrev pub round_up : ℕ → ℕ → ℕ
round_up bytes unit = bytes + (unit - bytes % unit) % unit
