-- What the words ask of the program `decode`.
use Rattle.std.specs.Prelude.{ℕ, ◌||◌, Bool, false, if◌then◌else◌, List, slice_get, codes, Option, Some, None}
use Rattle.std.specs.Str.{bytes_eq}
use Rattle.decode_program.specs.declared.Asked.{Asked}
use Rattle.decode_program.specs.declared.Asked.TheVariants.{Run, Help, Refused}

abbrev pub is_word : List ℕ → Option (List ℕ) → Bool
is_word name None = false
is_word name (Some word) = bytes_eq word name

-- the first word of its own: the program's name isn't one, nor is `decode` behind it
abbrev pub own_word : List (List ℕ) → Option (List ℕ)
own_word words = if is_word (codes "decode") (slice_get words 1) then slice_get words 2 else slice_get words 1

-- no word asks for the run, `-h` or `--help` for help; any other is refused
abbrev pub asked_of : Option (List ℕ) → Asked
asked_of None = Run
asked_of (Some word) = if bytes_eq word (codes "-h") || bytes_eq word (codes "--help") then Help else Refused

abbrev pub asked_by : List (List ℕ) → Asked
asked_by words = asked_of (own_word words)
