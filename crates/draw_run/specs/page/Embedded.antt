-- A text inside a string of JSON that stands in a page, and the text that a reader of JSON makes of it.
use Rattle.std.specs.Prelude.{◌≡◌, ℕ, suc, ◌+◌, ◌*◌, ◌==◌, nat_le, Bool, not, ◌&&◌, IsTrue, if◌then◌else◌, List, [], ◌∷◌, ◌++◌, codes, Option, Some, None, option_map, option_and_then}
use Rattle.std.specs.List.{flat_map, list_all}
use Rattle.hex.specs.Hex.{IsBytes, encode_lower, hex_digit_value}

-- WRITTEN

-- a printed byte that ends no string (34), begins no escape (92), and no element, end of one or entity of a page (60, 62, 38)
unfoldable pub is_plain : ℕ → Bool
is_plain byte =
    (nat_le 32 byte && nat_le byte 126) && (not (byte == 34) && (not (byte == 92) && (not (byte == 38) && (not (byte == 60) && not (byte == 62)))))

-- A byte inside a string (RFC 8259, 7). By hand: `<` is \u003c, a line feed \n, and the letter a stays.
unfoldable pub escaped : ℕ → List ℕ
escaped byte = if is_plain byte then byte ∷ [] else (if byte == 10 then codes "\\n" else codes "\\u00" ++ encode_lower (byte ∷ []))

unfoldable pub embedded : List ℕ → List ℕ
embedded bytes = flat_map escaped bytes

-- READ

-- where a reader stands: between two characters, behind a backslash, or behind `u`, so many digits and their value
pub data Standing : Type 0 where
  between : Standing
  escape : Standing
  digits : ℕ → ℕ → Standing

-- the character of an escape of one letter
abbrev pub letter_value : ℕ → Option ℕ
letter_value letter =
    if letter == 34 then Some 34
    else (if letter == 92 then Some 92
    else (if letter == 47 then Some 47
    else (if letter == 98 then Some 8
    else (if letter == 102 then Some 12
    else (if letter == 110 then Some 10
    else (if letter == 114 then Some 13
    else (if letter == 116 then Some 9 else None)))))))

-- a character before those that are read after it
abbrev pub with_first : ℕ → Option (List ℕ) → Option (List ℕ)
with_first character rest = option_map (λ characters. character ∷ characters) rest

-- The characters of what stands inside a string, in ASCII: none where a quotation mark or a control character stands there, or an escape
-- that isn't one.
unfoldable pub read_from : Standing → List ℕ → Option (List ℕ)
read_from between [] = Some []
read_from escape [] = None
read_from (digits count value) [] = None
read_from between (byte ∷ rest) =
    if byte == 92 then read_from escape rest
    else (if nat_le 32 byte && not (byte == 34) then with_first byte (read_from between rest) else None)
read_from escape (byte ∷ rest) =
    if byte == 117 then read_from (digits 0 0) rest else option_and_then (λ character. with_first character (read_from between rest)) (letter_value byte)
read_from (digits count value) (byte ∷ rest) = option_and_then (λ digit.
    if count == 3 then with_first (16 * value + digit) (read_from between rest) else read_from (digits (suc count) (16 * value + digit)) rest)
    (hex_digit_value byte)

abbrev pub read : List ℕ → Option (List ℕ)
read text = read_from between text

-- LAWS

-- what is embedded reads as the bytes that were embedded
abbrev pub EmbeddedReadsBack : Type 0
EmbeddedReadsBack = (bytes : List ℕ) → IsBytes bytes → read (embedded bytes) ≡ Some bytes

-- a byte that can end neither the string nor the element that it stands in: printed, and neither `"` nor `&`, `<` or `>`
abbrev pub is_safe : ℕ → Bool
is_safe byte = (nat_le 32 byte && nat_le byte 126) && (not (byte == 34) && (not (byte == 38) && (not (byte == 60) && not (byte == 62))))

-- nothing that is embedded ends what it stands in
abbrev pub EmbeddedStaysInside : Type 0
EmbeddedStaysInside = (bytes : List ℕ) → IsBytes bytes → IsTrue (list_all is_safe (embedded bytes))
