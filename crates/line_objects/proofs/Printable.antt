-- Objects are of printable ASCII and line feeds, whatever bytes their lines have.
use Rattle.std.proofs.Common.{◌≡◌, ◌∙◌, ◌<◌, ◌/◌, ◌%◌, ◌==◌, ◌&&◌, ◌||◌, ◌+◌, ℕ, zero, suc, Bool, cond, true, false, true≢false, not, List, [], ◌∷◌, ◌++◌, take, drop, length, Option, Some, None, refl, ap, ap₂, sym, arith}
use Rattle.std.specs.Prelude.{codes, flat_map, nat_lt, slice_index}
use Rattle.std.specs.List.{join_by, list_all, position_or_len}
use Rattle.std.specs.Char.{is_ascii_digit}
use Rattle.std.specs.Str.{bytes_eq}
use Rattle.std.proofs.lemmas.Bool.{and_parts, ltb-true}
use Rattle.std.proofs.lemmas.Grind.{common_steps}
use Rattle.std.proofs.lemmas.List.Folds.{list_all-append, list_all_at}
use Rattle.byte_io.specs.Words.{is_number}
use Rattle.hex.specs.Hex.{encode_lower, encode_with, lower_digits}
use Rattle.line_objects.specs.declared.Form.{Form}
use Rattle.line_objects.specs.declared.Form.TheVariants.{Run, Decode, Audit, Info}
use Rattle.line_objects.specs.Lines.{Field, Part, Value, any, audit_rows, behind_word, field_in, fields_by, first_word, fits, from_word, has_word, info_rows, is_numeral, is_other, is_space, is_taken, left_by, listed, named, number, numeral, onward, row_for, rows_of, run_rows, text, told, truth, with, word}
use Rattle.line_objects.specs.Objects.{are_bytes, byte_text, decode_fields, field_text, fields_of, fields_of_row, is_plain, last_mark, names_bytes, object, object_line, objects, objects_from, parted, quoted, said, value_text, whole}

abbrev plain : List ℕ → Bool
plain bytes = list_all is_plain bytes

both : (a b : Bool) → a ≡ true → b ≡ true → (a && b) ≡ true
both a b is is' = ap₂ (λ x y. x && y) is is'

joined : (p : ℕ → Bool) (xs ys : List ℕ) → list_all p xs ≡ true → list_all p ys ≡ true → list_all p (xs ++ ys) ≡ true
joined p xs ys is is' = list_all-append p xs ys ∙ both (list_all p xs) (list_all p ys) is is'

-- BYTES

digit-plain : (n : ℕ) → n < 16 → is_plain (slice_index lower_digits n) ≡ true
digit-plain n less = go (is_plain (slice_index lower_digits n)) refl
  where
    go : (b : Bool) → is_plain (slice_index lower_digits n) ≡ b → b ≡ true
    go true is = refl
    go false is =
        let none : plain lower_digits ≡ false = list_all_at is_plain lower_digits n 0 less is in
        absurd (true≢false none)

hex-plain : (byte : ℕ) → byte < 256 → plain (encode_lower (byte ∷ [])) ≡ true
unfolding encode_with
hex-plain byte small =
    both (is_plain (slice_index lower_digits (byte / 16))) (is_plain (slice_index lower_digits (byte % 16)) && true)
    (digit-plain (byte / 16) (omega arith)) (both (is_plain (slice_index lower_digits (byte % 16))) true (digit-plain (byte % 16) (omega arith)) refl)

byte-plain : (byte : ℕ) → nat_lt byte 256 ≡ true → plain (byte_text byte) ≡ true
unfolding byte_text
byte-plain byte small = go (byte == 34 || byte == 92) refl (nat_lt byte 32 || nat_lt 126 byte) refl
  where
    go : (a : Bool) → (byte == 34 || byte == 92) ≡ a → (b : Bool) → (nat_lt byte 32 || nat_lt 126 byte) ≡ b
        → plain (cond a (92 ∷ byte ∷ []) (cond b (codes "\\u00" ++ encode_lower (byte ∷ [])) (byte ∷ []))) ≡ true
    go true is b was = grind (arith, common_steps, is)
    go false is true was = hex-plain byte (ltb-true byte 256 small)
    go false is false was = grind (arith, common_steps, was)

text-plain : (bytes : List ℕ) → are_bytes bytes ≡ true → plain (flat_map byte_text bytes) ≡ true
text-plain [] small = refl
text-plain (byte ∷ rest) small =
    let these = and_parts (nat_lt byte 256) (are_bytes rest) small in
    joined is_plain (byte_text byte) (flat_map byte_text rest) (byte-plain byte these.0) (text-plain rest these.1)

quoted-plain : (bytes : List ℕ) → are_bytes bytes ≡ true → plain (quoted bytes) ≡ true
unfolding quoted
quoted-plain bytes small = joined is_plain (34 ∷ flat_map byte_text bytes) (34 ∷ []) (text-plain bytes small) refl

-- FIELDS

abbrev IsValue : Value → Type 0
IsValue (number digits) = plain digits ≡ true
IsValue (text bytes) = are_bytes bytes ≡ true
IsValue (truth is) = Unit {0}

abbrev IsField : Field → Type 0
IsField field = (plain field.key ≡ true) × IsValue field.value

abbrev AreFields : List Field → Type 0
AreFields [] = Unit {0}
AreFields (field ∷ fields) = IsField field × AreFields fields

value-plain : (value : Value) → IsValue value → plain (value_text value) ≡ true
unfolding value_text
value-plain (number digits) is = is
value-plain (text bytes) is = quoted-plain bytes is
value-plain (truth true) is = refl
value-plain (truth false) is = refl

field-plain : (field : Field) → IsField field → plain (field_text field) ≡ true
unfolding field_text
field-plain field is =
    joined is_plain ((34 ∷ field.key) ++ codes "\":") (value_text field.value) (joined is_plain (34 ∷ field.key) (codes "\":") is.0 refl)
    (value-plain field.value is.1)

more-plain : (fields : List Field) → AreFields fields → plain (flat_map (λ field. (44 ∷ []) ++ field_text field) fields) ≡ true
more-plain [] are = refl
more-plain (field ∷ fields) are =
    joined is_plain ((44 ∷ []) ++ field_text field) (flat_map (λ f. (44 ∷ []) ++ field_text f) fields) (field-plain field are.0) (more-plain fields are.1)

fields-plain : (fields : List Field) → AreFields fields → plain (join_by field_text (44 ∷ []) fields) ≡ true
fields-plain [] are = refl
fields-plain (field ∷ fields) are =
    joined is_plain (field_text field) (flat_map (λ f. (44 ∷ []) ++ field_text f) fields) (field-plain field are.0) (more-plain fields are.1)

object-plain : (fields : List Field) → AreFields fields → plain (object fields) ≡ true
unfolding object
object-plain fields are =
    joined is_plain (123 ∷ join_by field_text (44 ∷ []) fields) (125 ∷ []) (fields-plain fields are) refl

-- PARTS OF A LINE

parts : (n : ℕ) (line : List ℕ) → take n line ++ drop n line ≡ line
parts zero line = refl
parts (suc n) [] = refl
parts (suc n) (byte ∷ rest) = ap (λ l. byte ∷ l) (parts n rest)

cut : (p : ℕ → Bool) (n : ℕ) (line : List ℕ) → list_all p line ≡ true → (list_all p (take n line) ≡ true) × (list_all p (drop n line) ≡ true)
cut p n line are =
    and_parts (list_all p (take n line)) (list_all p (drop n line))
    (sym (list_all-append p (take n line) (drop n line)) ∙ (ap (list_all p) (parts n line) ∙ are))

digits-plain : (digits : List ℕ) → list_all is_ascii_digit digits ≡ true → plain digits ≡ true
digits-plain [] are = refl
digits-plain (digit ∷ digits) are =
    let these = and_parts (is_ascii_digit digit) (list_all is_ascii_digit digits) are in
    let first : is_plain digit ≡ true = let is : is_ascii_digit digit ≡ true = these.0 in grind (arith, common_steps, is) in
    both (is_plain digit) (plain digits) first (digits-plain digits these.1)

numeral-plain : (found : List ℕ) → is_numeral found ≡ true → plain found ≡ true
numeral-plain [] is = refl
numeral-plain (digit ∷ digits) is =
    let number : is_number (digit ∷ digits) ≡ true =
    (and_parts (is_number (digit ∷ digits)) (not (digit == 48) || length digits == 0) is).0 in
    digits-plain (digit ∷ digits) (and_parts (not (length (digit ∷ digits) == 0)) (list_all is_ascii_digit (digit ∷ digits)) number).1

-- ROWS

-- the keys and words of a part are plain, as are those of every row
abbrev part_plain : Part → Bool
part_plain (word wanted) = true
part_plain (named key wanted) = plain key && are_bytes wanted
part_plain (told key wanted is) = plain key
part_plain (numeral key) = plain key
part_plain (any key) = plain key
part_plain (onward key) = plain key

abbrev IsGiven : Option Field → Type 0
IsGiven None = Unit {0}
IsGiven (Some field) = IsField field

from-small : (line : List ℕ) → are_bytes line ≡ true → are_bytes (from_word line) ≡ true
from-small line small = (cut (λ b. nat_lt b 256) (position_or_len is_other line) line small).1

part-gives : (part : Part) (line : List ℕ) → part_plain part ≡ true → are_bytes line ≡ true → is_taken part (first_word line) ≡ true
    → IsGiven (field_in part line)
part-gives (word wanted) line ok small taken = tt
part-gives (named key wanted) line ok small taken = and_parts (plain key) (are_bytes wanted) ok
part-gives (told key wanted is) line ok small taken = (ok, tt)
part-gives (numeral key) line ok small taken = (ok, numeral-plain (first_word line) taken)
part-gives (any key) line ok small taken =
    (ok, (cut (λ b. nat_lt b 256) (position_or_len is_space (from_word line)) (from_word line) (from-small line small)).0)
part-gives (onward key) line ok small taken = (ok, from-small line small)

behind-small : (line : List ℕ) → are_bytes line ≡ true → are_bytes (behind_word line) ≡ true
behind-small line small = (cut (λ b. nat_lt b 256) (position_or_len is_space (from_word line)) (from_word line) (from-small line small)).1

left-small : (part : Part) (line : List ℕ) → are_bytes line ≡ true → are_bytes (left_by part line) ≡ true
left-small (word wanted) line small = behind-small line small
left-small (named key wanted) line small = behind-small line small
left-small (told key wanted is) line small = behind-small line small
left-small (numeral key) line small = behind-small line small
left-small (any key) line small = behind-small line small
left-small (onward key) line small = refl

listed-plain : (given : Option Field) (fields : List Field) → IsGiven given → AreFields fields → AreFields (listed given ++ fields)
listed-plain None fields is are = are
listed-plain (Some field) fields is are = (is, are)

by-plain : (row : List Part) (line : List ℕ) → list_all part_plain row ≡ true → are_bytes line ≡ true → fits row line ≡ true
    → AreFields (fields_by row line)
unfolding fits fields_by
by-plain [] line ok small fit = tt
by-plain (part ∷ row) line ok small fit =
    let oks = and_parts (part_plain part) (list_all part_plain row) ok in
    let there = and_parts (has_word line) (is_taken part (first_word line) && fits row (left_by part line)) fit in
    let taken = and_parts (is_taken part (first_word line)) (fits row (left_by part line)) there.1 in
    listed-plain (field_in part line) (fields_by row (left_by part line)) (part-gives part line oks.0 small taken.0)
    (by-plain row (left_by part line) oks.1 (left-small part line small) taken.1)

whole-plain : (line : List ℕ) → are_bytes line ≡ true → AreFields (whole line)
whole-plain line small = ((refl, small), tt)

row-plain : (rows : List (List Part)) (line : List ℕ) → list_all (λ row. list_all part_plain row) rows ≡ true → are_bytes line ≡ true
    → AreFields (fields_of_row (row_for rows line) line)
row-plain [] line ok small = whole-plain line small
row-plain (row ∷ rows) line ok small =
    let oks = and_parts (list_all part_plain row) (list_all (λ r. list_all part_plain r) rows) ok in
    go (fits row line) refl oks.0 (row-plain rows line oks.1 small)
  where
    go : (b : Bool) → fits row line ≡ b → list_all part_plain row ≡ true → AreFields (fields_of_row (row_for rows line) line)
        → AreFields (fields_of_row (cond b (Some row) (row_for rows line)) line)
    go true fit first later = by-plain row line first small fit
    go false fit first later = later

-- LINES

said-plain : (bytes : List ℕ) → are_bytes bytes ≡ true → IsField (said bytes)
said-plain bytes small = go (bytes_eq (take 9 bytes) (codes "refused: "))
  where
    go : (b : Bool) → IsField (cond b (with (codes "refused") (text (drop 9 bytes))) (with (codes "says") (text bytes)))
    go true = (refl, (cut (λ b. nat_lt b 256) 9 bytes small).1)
    go false = (refl, small)

parted-plain : (place : Option ℕ) (line : List ℕ) → are_bytes line ≡ true → AreFields (parted place line)
parted-plain None line small = whole-plain line small
parted-plain (Some place) line small = (
  (refl, (cut (λ b. nat_lt b 256) place line small).0),
  (said-plain (drop (place + 4) line) (cut (λ b. nat_lt b 256) (place + 4) line small).1, tt),
)

decode-plain : (line : List ℕ) → are_bytes line ≡ true → AreFields (decode_fields line)
unfolding decode_fields
decode-plain line small = go (names_bytes line)
  where
    go : (b : Bool) → AreFields (cond b (parted (last_mark line) line) (whole line))
    go true = parted-plain (last_mark line) line small
    go false = whole-plain line small

fields-are : (form : Form) (line : List ℕ) → are_bytes line ≡ true → AreFields (fields_of form line)
unfolding fields_of rows_of run_rows audit_rows info_rows
fields-are Run line small = row-plain run_rows line refl small
fields-are Decode line small = decode-plain line small
fields-are Audit line small = row-plain audit_rows line refl small
fields-are Info line small = row-plain info_rows line refl small

line-plain : (form : Form) (line : List ℕ) → are_bytes line ≡ true → plain (object_line form line) ≡ true
unfolding object_line
line-plain form line small = joined is_plain (object (fields_of form line)) (10 ∷ []) (object-plain (fields_of form line) (fields-are form line small)) refl

-- TEXTS

from-plain : (form : Form) (line bytes : List ℕ) → are_bytes line ≡ true → are_bytes bytes ≡ true → plain (objects_from form line bytes) ≡ true
unfolding objects_from
from-plain form line [] small none = go (length line == 0)
  where
    go : (b : Bool) → plain (cond b [] (object_line form line)) ≡ true
    go true = refl
    go false = line-plain form line small
from-plain form line (byte ∷ rest) small more =
    let these = and_parts (nat_lt byte 256) (are_bytes rest) more in
    go (byte == 10) (from-plain form [] rest refl these.1)
    (from-plain form (line ++ byte ∷ []) rest (joined (λ b. nat_lt b 256) line (byte ∷ []) small (both (nat_lt byte 256) true these.0 refl)) these.1)
  where
    go : (b : Bool) → plain (objects_from form [] rest) ≡ true → plain (objects_from form (line ++ byte ∷ []) rest) ≡ true
        → plain (cond b (object_line form line ++ objects_from form [] rest) (objects_from form (line ++ byte ∷ []) rest)) ≡ true
    go true next more = joined is_plain (object_line form line) (objects_from form [] rest) (line-plain form line small) next
    go false next more = more

pub objects-plain : (form : Form) (bytes : List ℕ) → are_bytes bytes ≡ true → plain (objects form bytes) ≡ true
objects-plain form bytes small = from-plain form [] bytes refl small
