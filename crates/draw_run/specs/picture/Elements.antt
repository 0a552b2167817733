-- The elements that a picture is made of: arrows, dots, bars and texts.
use Rattle.std.specs.Prelude.{ℕ, ◌==◌, nat_le, nat_lt, Bool, not, ◌&&◌, if◌then◌else◌, List, [], ◌∷◌, ◌++◌, take, codes}
use Rattle.std.specs.List.{flat_map}
use Rattle.std.specs.Fmt.{decimal}
use Rattle.draw_run.specs.declared.picture.elements.TheConstants.{MOST_WORDS}

-- ` NAME="VALUE"`, an attribute of an element
unfoldable pub attribute : List ℕ → ℕ → List ℕ
attribute name value = codes " " ++ name ++ codes "=\"" ++ decimal value ++ codes "\""

-- SHAPES

unfoldable pub arrow_from : ℕ → ℕ → ℕ → List ℕ
arrow_from from to y = codes "<path d=\"M" ++ decimal from ++ codes " " ++ decimal y ++ codes "H" ++ decimal to

-- an arrow with its head at its end
unfoldable pub arrow : ℕ → ℕ → ℕ → List ℕ
arrow from to y = arrow_from from to y ++ (if nat_lt from to then codes "l-8-4v8l8-4z\"/>" else codes "l8-4v8l-8-4z\"/>")

unfoldable pub dot : ℕ → ℕ → List ℕ
dot x y = codes "<circle r=\"3\"" ++ attribute (codes "cx") x ++ attribute (codes "cy") y ++ codes "/>"

unfoldable pub bar_at : ℕ → ℕ → ℕ → List ℕ
bar_at x y height =
    codes "<rect class=\"held\" width=\"8\"" ++ attribute (codes "x") x ++ attribute (codes "y") y ++ attribute (codes "height") height ++ codes ">"

-- a thin line of this width
unfoldable pub rule_at : ℕ → ℕ → List ℕ
rule_at width y = codes "<rect class=\"rule\" height=\"1\"" ++ attribute (codes "y") y ++ attribute (codes "width") width ++ codes "/>"

-- TEXT

-- a byte of a line, as text: a question mark where it is none of ASCII's printed ones
unfoldable pub escaped_byte : ℕ → List ℕ
escaped_byte byte =
    if byte == 38 then codes "&amp;"
    else (if byte == 60 then codes "&lt;"
    else (if byte == 62 then codes "&gt;"
    else (if nat_le 32 byte && nat_le byte 126 then byte ∷ [] else codes "?")))

unfoldable pub escaped : List ℕ → List ℕ
escaped bytes = flat_map escaped_byte bytes

-- a printed byte that neither begins nor ends an element
abbrev pub is_plain : ℕ → Bool
is_plain byte = not (byte == 60) && (not (byte == 62) && (nat_le 32 byte && nat_le byte 126))

unfoldable pub text_at : ℕ → ℕ → List ℕ
text_at x y = codes "<text" ++ attribute (codes "x") x ++ attribute (codes "y") y ++ codes ">"

-- the first bytes of a line
unfoldable pub shown : List ℕ → List ℕ
shown line = take MOST_WORDS line

unfoldable pub words_at : ℕ → ℕ → List ℕ → List ℕ
words_at x y line = text_at x y ++ escaped (shown line) ++ codes "</text>"
