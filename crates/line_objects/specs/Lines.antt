-- A line of the program by its words, and the rows that tell which fields its object has.
use Rattle.std.specs.Prelude.{ℕ, ◌==◌, ◌&&◌, ◌||◌, Bool, true, false, not, List, [], ◌∷◌, ◌++◌, length, drop, take, find, codes, Option, Some, None}
use Rattle.std.specs.List.{position_or_len}
use Rattle.std.specs.Str.{bytes_eq}
use Rattle.byte_io.specs.Words.{is_number}
use Rattle.line_objects.specs.declared.Form.{Form}
use Rattle.line_objects.specs.declared.Form.TheVariants.{Run, Decode, Audit, Info}

-- WORDS

abbrev pub is_space : ℕ → Bool
is_space byte = byte == 32

abbrev pub is_other : ℕ → Bool
is_other byte = not (byte == 32)

-- a line from its first word on, without the spaces in front of it
abbrev pub from_word : List ℕ → List ℕ
from_word line = drop (position_or_len is_other line) line

-- The first word of a line is the first of byte_io's `words`, and what stands behind it has the others. By hand: of `  in 41 8` it is `in`,
-- and ` 41 8` stands behind it.
abbrev pub first_word : List ℕ → List ℕ
first_word line = take (position_or_len is_space (from_word line)) (from_word line)

abbrev pub behind_word : List ℕ → List ℕ
behind_word line = drop (position_or_len is_space (from_word line)) (from_word line)

abbrev pub has_word : List ℕ → Bool
has_word line = not (length (from_word line) == 0)

-- A number has one digit or more, and the first is 0 only where it is alone.
abbrev pub is_numeral : List ℕ → Bool
is_numeral [] = false
is_numeral (digit ∷ digits) = is_number (digit ∷ digits) && (not (digit == 48) || length digits == 0)

-- FIELDS

-- A value is a number as the line has it, a text, or whether something is so.
pub data Value : Type 0 where
  number : List ℕ → Value
  text : List ℕ → Value
  truth : Bool → Value

pub record Field : Type 0 where
  pub key : List ℕ
  pub value : Value

abbrev pub with : List ℕ → Value → Field
with key value = record { key = key; value = value }

-- ROWS

-- A row has a part for each word of its lines. A part is a word that gives no field; a word with its key; a word that is told by whether
-- something is so; a number or any word, with its key; or the rest of the line from its word on, as it stands.
pub data Part : Type 0 where
  word : List ℕ → Part
  named : List ℕ → List ℕ → Part
  told : List ℕ → List ℕ → Bool → Part
  numeral : List ℕ → Part
  any : List ℕ → Part
  onward : List ℕ → Part

-- whether a part takes a word
abbrev pub is_taken : Part → List ℕ → Bool
is_taken (word wanted) found = bytes_eq found wanted
is_taken (named key wanted) found = bytes_eq found wanted
is_taken (told key wanted is) found = bytes_eq found wanted
is_taken (numeral key) found = is_numeral found
is_taken (any key) found = true
is_taken (onward key) found = true

-- what a part gives of the line that begins with its word
abbrev pub field_in : Part → List ℕ → Option Field
field_in (word wanted) line = None
field_in (named key wanted) line = Some (with key (text wanted))
field_in (told key wanted is) line = Some (with key (truth is))
field_in (numeral key) line = Some (with key (number (first_word line)))
field_in (any key) line = Some (with key (text (first_word line)))
field_in (onward key) line = Some (with key (text (from_word line)))

-- what a part leaves of it for the next ones
abbrev pub left_by : Part → List ℕ → List ℕ
left_by (word wanted) line = behind_word line
left_by (named key wanted) line = behind_word line
left_by (told key wanted is) line = behind_word line
left_by (numeral key) line = behind_word line
left_by (any key) line = behind_word line
left_by (onward key) line = []

-- A row is of a line where each part takes its word, and no word is left.
unfoldable pub fits : List Part → List ℕ → Bool
fits [] line = not (has_word line)
fits (part ∷ parts) line = has_word line && (is_taken part (first_word line) && fits parts (left_by part line))

abbrev pub listed : Option Field → List Field
listed None = []
listed (Some field) = field ∷ []

unfoldable pub fields_by : List Part → List ℕ → List Field
fields_by [] line = []
fields_by (part ∷ parts) line = listed (field_in part line) ++ fields_by parts (left_by part line)

-- The rows of `replay` and `trace`: replies and refusals of a client, steps, and what a step wrote. By hand: `1 7 good 0` has a client, a
-- ticket, how it ended and a length; `  bell 00010003` has what was written and its value.
unfoldable pub run_rows : List (List Part)
run_rows =
    (numeral (codes "client") ∷ numeral (codes "ticket") ∷ named (codes "ended") (codes "good") ∷ numeral (codes "length") ∷ [])
    ∷ (numeral (codes "client") ∷ numeral (codes "ticket") ∷ named (codes "ended") (codes "good") ∷ numeral (codes "length") ∷ any (codes "bytes") ∷ [])
    ∷ (numeral (codes "client") ∷ numeral (codes "ticket") ∷ named (codes "ended") (codes "check") ∷ any (codes "sense") ∷ [])
    ∷ (numeral (codes "client") ∷ numeral (codes "ticket") ∷ named (codes "ended") (codes "aborted") ∷ [])
    ∷ (numeral (codes "client") ∷ numeral (codes "ticket") ∷ named (codes "ended") (codes "task") ∷ any (codes "response") ∷ [])
    ∷ (numeral (codes "client") ∷ word (codes "refused") ∷ any (codes "refused") ∷ [])
    ∷ (told (codes "idle") (codes "idle") true ∷ [])
    ∷ (named (codes "step") (codes "submit") ∷ numeral (codes "client") ∷ numeral (codes "tag") ∷ numeral (codes "ticket") ∷ onward (codes "command") ∷ [])
    ∷ (named (codes "step") (codes "task") ∷ numeral (codes "client") ∷ numeral (codes "ticket") ∷ onward (codes "function") ∷ [])
    ∷ (named (codes "step") (codes "command") ∷ [])
    ∷ (named (codes "step") (codes "engine") ∷ [])
    ∷ (named (codes "step") (codes "event") ∷ [])
    ∷ (named (codes "step") (codes "data") ∷ numeral (codes "tag") ∷ [])
    ∷ (named (codes "step") (codes "status") ∷ numeral (codes "tag") ∷ [])
    ∷ (named (codes "step") (codes "retire") ∷ numeral (codes "pipe") ∷ numeral (codes "tag") ∷ [])
    ∷ (named (codes "step") (codes "take") ∷ numeral (codes "client") ∷ [])
    ∷ (named (codes "wrote") (codes "unit") ∷ any (codes "address") ∷ any (codes "bytes") ∷ [])
    ∷ (named (codes "wrote") (codes "put") ∷ any (codes "address") ∷ any (codes "bytes") ∷ [])
    ∷ (named (codes "wrote") (codes "link") ∷ any (codes "address") ∷ any (codes "bytes") ∷ [])
    ∷ (named (codes "wrote") (codes "event") ∷ any (codes "address") ∷ any (codes "bytes") ∷ [])
    ∷ (named (codes "wrote") (codes "in") ∷ any (codes "address") ∷ numeral (codes "length") ∷ [])
    ∷ (named (codes "wrote") (codes "out") ∷ any (codes "address") ∷ numeral (codes "length") ∷ [])
    ∷ (named (codes "wrote") (codes "context") ∷ numeral (codes "pipe") ∷ numeral (codes "stream") ∷ any (codes "bytes") ∷ [])
    ∷ (named (codes "wrote") (codes "bell") ∷ any (codes "value") ∷ [])
    ∷ []

-- The rows of `audit`. By hand: `torn at byte 9` has the place where it is torn.
unfoldable pub audit_rows : List (List Part)
audit_rows =
    (word (codes "client") ∷ numeral (codes "client") ∷ word (codes "replies") ∷ numeral (codes "replies") ∷ told (codes "audited") (codes "true") true ∷ [])
    ∷ (word (codes "client") ∷ numeral (codes "client") ∷ word (codes "replies") ∷ numeral (codes "replies") ∷ told (codes "audited") (codes "false") false ∷ [])
    ∷ (word (codes "beginning") ∷ word (codes "of") ∷ numeral (codes "beginning") ∷ word (codes "steps") ∷ [])
    ∷ (word (codes "torn") ∷ word (codes "at") ∷ word (codes "byte") ∷ numeral (codes "torn") ∷ [])
    ∷ (word (codes "head") ∷ any (codes "head") ∷ word (codes "at") ∷ word (codes "step") ∷ numeral (codes "step") ∷ [])
    ∷ []

-- The row of `info`. By hand: `blocks 100 last 99` has the number of blocks and that of the last.
unfoldable pub info_rows : List (List Part)
info_rows = (word (codes "blocks") ∷ numeral (codes "blocks") ∷ word (codes "last") ∷ numeral (codes "last") ∷ []) ∷ []

-- the rows of a form; lines of `decode` have none
unfoldable pub rows_of : Form → List (List Part)
rows_of Run = run_rows
rows_of Decode = []
rows_of Audit = audit_rows
rows_of Info = info_rows

-- the first row of a line, if it has one
abbrev pub row_for : List (List Part) → List ℕ → Option (List Part)
row_for rows line = find (λ row. fits row line) rows
