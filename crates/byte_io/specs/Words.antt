-- Lines, words and numbers of a text.
use Rattle.std.specs.Prelude.{ℕ, ◌+◌, ◌-◌, ◌*◌, ◌==◌, nat_le, Bool, not, ◌&&◌, if◌then◌else◌, List, length, filter, fold, Option, Some, None}
use Rattle.std.specs.List.{slice_split, list_all}
use Rattle.std.specs.Char.{is_ascii_digit}

-- The pieces of a text between line feeds. What follows the last line feed is a piece too, mostly an empty one.
abbrev pub pieces : List ℕ → List (List ℕ)
pieces bytes = slice_split (λ byte. byte == 10) bytes

-- The words of a line: what stands between spaces and isn't empty.
abbrev pub words : List ℕ → List (List ℕ)
words bytes = filter (λ word. not (length word == 0)) (slice_split (λ byte. byte == 32) bytes)

-- A number is written with one digit or more.
abbrev pub is_number : List ℕ → Bool
is_number word = not (length word == 0) && list_all is_ascii_digit word

-- the value of a number, with this digit after those that make up `value`
abbrev pub with_digit : ℕ → ℕ → ℕ
with_digit value digit = 10 * value + (digit - 48)

-- The value of a number of any length. By hand: 007 is 7.
abbrev pub value_of : List ℕ → ℕ
value_of word = fold with_digit 0 word

-- the value of a word, where it is a number of this range
abbrev pub number_in : ℕ → ℕ → List ℕ → Option ℕ
number_in least most word =
    if is_number word && (nat_le least (value_of word) && nat_le (value_of word) most) then Some (value_of word) else None
