-- A text in colours, line by line, and what it is without them.
use Rattle.std.specs.Prelude.{◌≡◌, ℕ, ◌==◌, ◌||◌, Bool, true, false, not, IsTrue, if◌then◌else◌, List, [], ◌∷◌, ◌++◌, length, slice_get, codes, Option, Some, None}
use Rattle.std.specs.List.{list_all}
use Rattle.std.specs.Str.{bytes_eq}
use Rattle.byte_io.specs.Words.{words}
use Rattle.line_colours.specs.declared.Colour.{Colour}
use Rattle.line_colours.specs.declared.Colour.TheVariants.{Bold, Green, Yellow, Blue, Magenta, Cyan}

-- LINES

-- The colour of a line by its first word, and by whether it is alone: a step's own line is bold, and what was written below it has a
-- colour by its kind. `event` alone is a step. A line of another first word has none.
unfoldable pub colour_named : List ℕ → Bool → Option Colour
colour_named word is_alone =
    if bytes_eq word (codes "unit") || (bytes_eq word (codes "cdb") || bytes_eq word (codes "sense")) then Some Green
    else (if bytes_eq word (codes "put") || (bytes_eq word (codes "link") || bytes_eq word (codes "trb")) then Some Cyan
    else (if bytes_eq word (codes "bell") then Some Magenta
    else (if bytes_eq word (codes "in") || bytes_eq word (codes "out") then Some Blue
    else (if bytes_eq word (codes "context") then Some Yellow
    else (if bytes_eq word (codes "event") then (if is_alone then Some Bold else Some Yellow)
    else (if bytes_eq word (codes "submit") || (bytes_eq word (codes "task") || bytes_eq word (codes "take")) then Some Bold
    else (if bytes_eq word (codes "command") || bytes_eq word (codes "engine") then Some Bold
    else (if bytes_eq word (codes "data") || (bytes_eq word (codes "status") || bytes_eq word (codes "retire")) then Some Bold
    else None))))))))

abbrev pub colour_first : Option (List ℕ) → Bool → Option Colour
colour_first None is_alone = None
colour_first (Some word) is_alone = colour_named word is_alone

unfoldable pub colour_of : List (List ℕ) → Option Colour
colour_of words = colour_first (slice_get words 0) (length words == 1)

-- what sets a colour: SELECT GRAPHIC RENDITION (ECMA-48, 8.3.117), ESC `[` a number `m`
unfoldable pub begun : Colour → List ℕ
begun Bold = 27 ∷ codes "[1m"
begun Green = 27 ∷ codes "[32m"
begun Yellow = 27 ∷ codes "[33m"
begun Blue = 27 ∷ codes "[34m"
begun Magenta = 27 ∷ codes "[35m"
begun Cyan = 27 ∷ codes "[36m"

-- and what ends every colour
abbrev pub ended : List ℕ
ended = 27 ∷ codes "[0m"

abbrev pub shown : Option Colour → List ℕ → List ℕ
shown None line = line
shown (Some colour) line = begun colour ++ line ++ ended

-- By hand: `  bell 00010003` has ESC [35m in front and ESC [0m behind it.
unfoldable pub coloured_line : List ℕ → List ℕ
coloured_line line = shown (colour_of (words line)) line

-- TEXTS

-- what follows the beginning of a line, in colours; line feeds stay between the lines
unfoldable pub coloured_from : List ℕ → List ℕ → List ℕ
coloured_from line [] = coloured_line line
coloured_from line (byte ∷ rest) =
    if byte == 10 then coloured_line line ++ (10 ∷ coloured_from [] rest) else coloured_from (line ++ byte ∷ []) rest

abbrev pub coloured : List ℕ → List ℕ
coloured text = coloured_from [] text

-- a text without escapes, each from ESC to the next `m`; `is_inside` one or not
unfoldable pub without_escapes : Bool → List ℕ → List ℕ
without_escapes is_inside [] = []
without_escapes true (byte ∷ rest) = if byte == 109 then without_escapes false rest else without_escapes true rest
without_escapes false (byte ∷ rest) = if byte == 27 then without_escapes true rest else byte ∷ without_escapes false rest

-- LAW

abbrev pub has_no_escape : List ℕ → Bool
has_no_escape text = list_all (λ byte. not (byte == 27)) text

-- a text in colours is, without its escapes, that text
abbrev pub ColoursLeaveTheText : Type 0
ColoursLeaveTheText = (text : List ℕ) → IsTrue (has_no_escape text) → without_escapes false (coloured text) ≡ text
