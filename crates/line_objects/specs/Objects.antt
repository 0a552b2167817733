-- A text as JSON objects (RFC 8259), one for each of its lines.
use Rattle.std.specs.Prelude.{◌≡◌, ◌+◌, ℕ, IsTrue, not, ◌==◌, ◌||◌, ◌&&◌, nat_le, nat_lt, Bool, true, false, if◌then◌else◌, List, [], ◌∷◌, ◌++◌, length, drop, take, flat_map, codes, Option, Some, None}
use Rattle.std.specs.List.{join_by, list_all}
use Rattle.std.specs.Str.{bytes_eq}
use Rattle.hex.specs.Hex.{encode_lower}
use Rattle.line_objects.specs.declared.Form.{Form}
use Rattle.line_objects.specs.declared.Form.TheVariants.{Run, Decode, Audit, Info}
use Rattle.line_objects.specs.Lines.{Field, Part, Value, behind_word, fields_by, first_word, has_word, number, row_for, rows_of, text, truth, with}

-- THE FIELDS OF A LINE

-- a line as it is
abbrev pub whole : List ℕ → List Field
whole line = with (codes "line") (text line) ∷ []

abbrev pub fields_of_row : Option (List Part) → List ℕ → List Field
fields_of_row None line = whole line
fields_of_row (Some row) line = fields_by row line

-- words that name bytes, and so have `decode` say something of their line
abbrev pub is_kind : List ℕ → Bool
is_kind found =
    bytes_eq found (codes "unit") || (bytes_eq found (codes "put") || (bytes_eq found (codes "link") || (bytes_eq found (codes "trb")
    || (bytes_eq found (codes "context") || (bytes_eq found (codes "bell") || (bytes_eq found (codes "cdb") || (bytes_eq found (codes "sense")
    || bytes_eq found (codes "host"))))))))

-- `event` does too, but where it is alone
unfoldable pub names_bytes : List ℕ → Bool
names_bytes line = is_kind (first_word line) || (bytes_eq (first_word line) (codes "event") && has_word (behind_word line))

-- what stands between an input line and what is said of it
abbrev pub mark : List ℕ
mark = codes "  ; "

abbrev pub is_marked : List ℕ → Bool
is_marked line = bytes_eq (take 4 line) mark

-- the place of the last mark, by that in what follows the first byte and by whether one stands here
abbrev pub last_of : Option ℕ → Bool → Option ℕ
last_of (Some place) is_here = Some (place + 1)
last_of None true = Some 0
last_of None false = None

unfoldable pub last_mark : List ℕ → Option ℕ
last_mark [] = None
last_mark (byte ∷ rest) = last_of (last_mark rest) (is_marked (byte ∷ rest))

-- what is said of a line, or the name by which it is refused
abbrev pub said : List ℕ → Field
said bytes = if bytes_eq (take 9 bytes) (codes "refused: ") then with (codes "refused") (text (drop 9 bytes)) else with (codes "says") (text bytes)

abbrev pub parted : Option ℕ → List ℕ → List Field
parted None line = whole line
parted (Some place) line = with (codes "line") (text (take place line)) ∷ said (drop (place + 4) line) ∷ []

-- A line of `decode` is an input line, and behind one that names bytes a mark and what it says. The last mark is that one: an input line may have
-- marks of its own, and what is said has none, for it has no semicolon. By hand: of `bell 00  ; 1  ; refused: NotHex` the line is `bell 00  ; 1`, and
-- `hi  ; all` is a line as it is.
unfoldable pub decode_fields : List ℕ → List Field
decode_fields line = if names_bytes line then parted (last_mark line) line else whole line

unfoldable pub fields_of : Form → List ℕ → List Field
fields_of Decode line = decode_fields line
fields_of Run line = fields_of_row (row_for (rows_of Run) line) line
fields_of Audit line = fields_of_row (row_for (rows_of Audit) line) line
fields_of Info line = fields_of_row (row_for (rows_of Info) line) line

-- OBJECTS

-- A byte of a string: `"` and `\` have a backslash in front, and one that is no printable ASCII is `\u00` and two hexadecimal digits. By hand: a
-- tab is `\u0009`.
unfoldable pub byte_text : ℕ → List ℕ
byte_text byte =
    if byte == 34 || byte == 92 then 92 ∷ byte ∷ []
    else (if nat_lt byte 32 || nat_lt 126 byte then codes "\\u00" ++ encode_lower (byte ∷ [])
    else byte ∷ [])

unfoldable pub quoted : List ℕ → List ℕ
quoted bytes = 34 ∷ flat_map byte_text bytes ++ (34 ∷ [])

unfoldable pub value_text : Value → List ℕ
value_text (number digits) = digits
value_text (text bytes) = quoted bytes
value_text (truth true) = codes "true"
value_text (truth false) = codes "false"

unfoldable pub field_text : Field → List ℕ
field_text field = 34 ∷ field.key ++ codes "\":" ++ value_text field.value

-- By hand: a client 1 that was refused for `InUse` is `{"client":1,"refused":"InUse"}`.
unfoldable pub object : List Field → List ℕ
object fields = 123 ∷ join_by field_text (44 ∷ []) fields ++ (125 ∷ [])

-- TEXTS

-- By hand: of `audit` the line `torn at byte 9` is `{"torn":9}`, and an empty one `{"line":""}`; of `info` `blocks 100 last 99` is
-- `{"blocks":100,"last":99}`; of `replay` `1 7 good 0` is `{"client":1,"ticket":7,"ended":"good","length":0}`; of `decode` `bell 0g  ; refused: NotHex`
-- is `{"line":"bell 0g","refused":"NotHex"}`.
unfoldable pub object_line : Form → List ℕ → List ℕ
object_line form line = object (fields_of form line) ++ (10 ∷ [])

-- what follows the beginning of a line, of which the last may lack its line feed
unfoldable pub objects_from : Form → List ℕ → List ℕ → List ℕ
objects_from form line [] = if length line == 0 then [] else object_line form line
objects_from form line (byte ∷ rest) =
    if byte == 10 then object_line form line ++ objects_from form [] rest else objects_from form (line ++ byte ∷ []) rest

-- a text as objects: each line's, and a line feed behind it
abbrev pub objects : Form → List ℕ → List ℕ
objects form bytes = objects_from form [] bytes

-- LAWS

abbrev pub has_no_semicolon : List ℕ → Bool
has_no_semicolon bytes = list_all (λ byte. not (byte == 59)) bytes

-- The last mark is the one that was set behind an input line, whatever that line has, where what is said has no semicolon.
abbrev pub MarksAreFound : Type 0
MarksAreFound = (line said : List ℕ) → IsTrue (has_no_semicolon said) → last_mark (line ++ (mark ++ said)) ≡ Some (length line)

abbrev pub are_bytes : List ℕ → Bool
are_bytes bytes = list_all (λ byte. nat_lt byte 256) bytes

-- a line feed, or a byte of printable ASCII
abbrev pub is_plain : ℕ → Bool
is_plain byte = byte == 10 || (nat_le 32 byte && nat_le byte 126)

-- Objects are of printable ASCII and line feeds, whatever bytes their lines have.
abbrev pub ObjectsArePlain : Type 0
ObjectsArePlain = (form : Form) (bytes : List ℕ) → IsTrue (are_bytes bytes) → IsTrue (list_all is_plain (objects form bytes))
