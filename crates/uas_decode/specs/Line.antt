-- The words of a line: which kind of bytes it has, and their digits.
use Rattle.std.specs.Prelude.{ℕ, ◌++◌, ◌==◌, ◌&&◌, ◌||◌, Bool, false, if◌then◌else◌, List, [], length, drop, fold, slice_index, slice_get, codes}
use Rattle.std.specs.Prelude.{Option, Some, None, is_some, option_and_then, Result, Ok, Err}
use Rattle.std.specs.Str.{bytes_eq}
use Rattle.std.specs.declared.vec.Vec.{Vec}
use Rattle.std.specs.declared.alloc.Global.{Global}
use Rattle.hex.specs.Hex.{decode_of}
use Rattle.hex.specs.declared.error.FromHexError.{FromHexError}
use Rattle.hex.specs.declared.error.FromHexError.TheVariants.{InvalidHexCharacter}
use Rattle.byte_io.specs.Words.{number_in}
use Rattle.uas_decode.specs.declared.Kind.{Kind}
use Rattle.uas_decode.specs.declared.Kind.TheVariants.{Unit as UnitKind, Trb, Context, Doorbell, Cdb, HostCdb, Sense}
use Rattle.uas_decode.specs.declared.LineFault.{LineFault}
use Rattle.uas_decode.specs.declared.LineFault.TheVariants.{NoDigits, NotHex, WrongNumberOfDigits}

-- which bytes a line of this first word has
unfoldable pub kind_named : List ℕ → Option Kind
kind_named word =
    if bytes_eq word (codes "unit") then Some UnitKind
    else (if bytes_eq word (codes "put") then Some Trb
    else (if bytes_eq word (codes "link") then Some Trb
    else (if bytes_eq word (codes "event") then Some Trb
    else (if bytes_eq word (codes "trb") then Some Trb
    else (if bytes_eq word (codes "context") then Some Context
    else (if bytes_eq word (codes "bell") then Some Doorbell
    else (if bytes_eq word (codes "cdb") then Some Cdb
    else (if bytes_eq word (codes "sense") then Some Sense
    else (if bytes_eq word (codes "host") then Some HostCdb
    else None)))))))))

-- the digits of a word, which may begin with 0x or 0X
unfoldable pub digits_in : List ℕ → List ℕ
digits_in word =
    if slice_index word 0 == 48 && (slice_index word 1 == 120 || slice_index word 1 == 88) then drop 2 word else word

-- the digits of words, one after the other
abbrev pub with_word : List ℕ → List ℕ → List ℕ
with_word digits word = digits ++ digits_in word

unfoldable pub joined : List (List ℕ) → List ℕ
joined words = fold with_word [] words

-- The bytes of words in hexadecimal digits of either case. By hand: `0x12 3Ab c` are 12h 3Ah BCh.
unfoldable pub bytes_of : List (List ℕ) → Result (List ℕ) LineFault
bytes_of words = if length (joined words) == 0 then Err NoDigits else named (decode_of (joined words))
  where
    named : Result (List ℕ) FromHexError → Result (List ℕ) LineFault
    named (Ok bytes) = Ok bytes
    named (Err (InvalidHexCharacter c index)) = Err NotHex
    named (Err fault) = Err WrongNumberOfDigits

-- a result whose `Ok` holds a vector, as one whose `Ok` holds the list of its items
abbrev pub listed : Result (Vec ℕ Global) LineFault → Result (List ℕ) LineFault
listed (Ok items) = Ok items.items
listed (Err fault) = Err fault

-- the first word may be an address: it has 16 digits
abbrev pub is_address : Option (List ℕ) → Bool
is_address None = false
is_address (Some word) = length (digits_in word) == 16

unfoldable pub has_address : List (List ℕ) → Bool
has_address words = is_address (slice_get words 0)

-- the word at a place is a number of this range
abbrev pub is_number_at : List (List ℕ) → ℕ → ℕ → ℕ → Bool
is_number_at words place least most = is_some (option_and_then (number_in least most) (slice_get words place))

-- the first two words are the number of a pipe, 1 to 4, and of a stream
unfoldable pub names_stream : List (List ℕ) → Bool
names_stream words = is_number_at words 0 1 4 && is_number_at words 1 0 65535

-- a CDB has 6, 10 or 16 bytes
unfoldable pub is_cdb_digits : ℕ → Bool
is_cdb_digits count = count == 12 || count == 20 || count == 32
