-- A text in colours is, without its escapes, that text; and a text that is coloured byte by byte.
use Rattle.std.proofs.Common.{◌≡◌, ◌≢◌, ◌∙◌, ℕ, ◌==◌, Bool, true, false, not, ◌&&◌, List, [], ◌∷◌, ◌++◌, Option, Some, None, refl, ap, sym, append_assoc, append-nil}
use Rattle.std.specs.Bool.{Decides}
use Rattle.std.proofs.lemmas.Bool.{and_parts, eqb-true}
use Rattle.std.proofs.lemmas.Bool.Decides.{Decides-eqb}
use Rattle.std.proofs.lemmas.List.Folds.{list_all-append}
use Rattle.byte_io.specs.Words.{words}
use Rattle.line_colours.specs.declared.Colour.{Colour}
use Rattle.line_colours.specs.declared.Colour.TheVariants.{Bold, Green, Yellow, Blue, Magenta, Cyan}
use Rattle.line_colours.specs.Colours.{begun, colour_of, coloured, coloured_from, coloured_line, ended, has_no_escape, shown, without_escapes}

-- ESCAPES

not-false : (b : Bool) → not b ≡ true → b ≡ false
not-false true is = sym is
not-false false is = refl

byte_stays : (byte : ℕ) (rest : List ℕ) → (byte == 27) ≡ false → without_escapes false (byte ∷ rest) ≡ byte ∷ without_escapes false rest
unfolding without_escapes
byte_stays byte rest other = rw other refl

-- bytes without an escape stay
bytes_stay : (bytes rest : List ℕ) → has_no_escape bytes ≡ true → without_escapes false (bytes ++ rest) ≡ bytes ++ without_escapes false rest
bytes_stay [] rest clear = refl
bytes_stay (byte ∷ bytes) rest clear =
    let parts = and_parts (not (byte == 27)) (has_no_escape bytes) clear in
    byte_stays byte (bytes ++ rest) (not-false (byte == 27) parts.0) ∙ ap (λ l. byte ∷ l) (bytes_stay bytes rest parts.1)

-- an escape goes
begun_goes : (colour : Colour) (rest : List ℕ) → without_escapes false (begun colour ++ rest) ≡ without_escapes false rest
unfolding begun without_escapes
begun_goes Bold rest = refl
begun_goes Green rest = refl
begun_goes Yellow rest = refl
begun_goes Blue rest = refl
begun_goes Magenta rest = refl
begun_goes Cyan rest = refl

ended_goes : (rest : List ℕ) → without_escapes false (ended ++ rest) ≡ without_escapes false rest
unfolding without_escapes
ended_goes rest = refl

-- LINES

shown_stays : (colour : Option Colour) (line rest : List ℕ) → has_no_escape line ≡ true
    → without_escapes false (shown colour line ++ rest) ≡ line ++ without_escapes false rest
shown_stays None line rest clear = bytes_stay line rest clear
shown_stays (Some colour) line rest clear =
    ap (without_escapes false) (append_assoc (begun colour ++ line) ended rest ∙ append_assoc (begun colour) line (ended ++ rest))
    ∙ (begun_goes colour (line ++ (ended ++ rest)) ∙ (bytes_stay line (ended ++ rest) clear ∙ ap (λ l. line ++ l) (ended_goes rest)))

line_stays : (line rest : List ℕ) → has_no_escape line ≡ true → without_escapes false (coloured_line line ++ rest) ≡ line ++ without_escapes false rest
unfolding coloured_line
line_stays line rest clear = shown_stays (colour_of (words line)) line rest clear

last_stays : (line : List ℕ) → has_no_escape line ≡ true → without_escapes false (coloured_line line) ≡ line
unfolding without_escapes
last_stays line clear = ap (without_escapes false) (sym (append-nil (coloured_line line))) ∙ (line_stays line [] clear ∙ append-nil line)

-- TEXTS

pub coloured-end : (line : List ℕ) (byte : ℕ) (rest : List ℕ) → (byte == 10) ≡ true
    → coloured_from line (byte ∷ rest) ≡ coloured_line line ++ (10 ∷ coloured_from [] rest)
unfolding coloured_from
coloured-end line byte rest same = rw same refl

pub coloured-more : (line : List ℕ) (byte : ℕ) (rest : List ℕ) → (byte == 10) ≡ false
    → coloured_from line (byte ∷ rest) ≡ coloured_from (line ++ byte ∷ []) rest
unfolding coloured_from
coloured-more line byte rest other = rw other refl

has_none-more : (line : List ℕ) (byte : ℕ) → has_no_escape line ≡ true → not (byte == 27) ≡ true → has_no_escape (line ++ byte ∷ []) ≡ true
has_none-more line byte clear other =
    list_all-append (λ b. not (b == 27)) line (byte ∷ []) ∙ (ap (λ first. first && (not (byte == 27) && true)) clear ∙ ap (λ b. b && true) other)

-- one byte behind the beginning of a line, by what is so of the bytes after it
byte_behind : (byte : ℕ) (rest line : List ℕ) (ends : Bool) → (byte == 10) ≡ ends → has_no_escape line ≡ true → not (byte == 27) ≡ true
    → ((more : List ℕ) → has_no_escape more ≡ true → without_escapes false (coloured_from more rest) ≡ more ++ rest)
    → without_escapes false (coloured_from line (byte ∷ rest)) ≡ line ++ byte ∷ rest
byte_behind byte rest line true same clear other after =
    ap (without_escapes false) (coloured-end line byte rest same)
    ∙ (line_stays line (10 ∷ coloured_from [] rest) clear
    ∙ ap (λ l. line ++ l) (byte_stays 10 (coloured_from [] rest) refl ∙ (ap (λ l. 10 ∷ l) (after [] refl) ∙ ap (λ b. b ∷ rest) (sym (eqb-true byte 10 same)))))
byte_behind byte rest line false different clear other after =
    ap (without_escapes false) (coloured-more line byte rest different)
    ∙ (after (line ++ byte ∷ []) (has_none-more line byte clear other) ∙ append_assoc line (byte ∷ []) rest)

behind : (rest line : List ℕ) → has_no_escape line ≡ true → has_no_escape rest ≡ true → without_escapes false (coloured_from line rest) ≡ line ++ rest
unfolding coloured_from
behind [] line clear none = last_stays line clear ∙ sym (append-nil line)
behind (byte ∷ rest) line clear none =
    let parts = and_parts (not (byte == 27)) (has_no_escape rest) none in
    byte_behind byte rest line (byte == 10) refl clear parts.0 (λ more clear_more. behind rest more clear_more parts.1)

pub text_stays : (text : List ℕ) → has_no_escape text ≡ true → without_escapes false (coloured text) ≡ text
text_stays text none = behind text [] refl none

-- BYTE BY BYTE

pub text-end : (text line after next : List ℕ) (byte : ℕ) (rest : List ℕ) → byte ≡ 10 → after ≡ (text ++ coloured_line line) ++ byte ∷ [] → next ≡ []
    → text ++ coloured_from line (byte ∷ rest) ≡ after ++ coloured_from next rest
text-end text line after next byte rest same is_after is_next =
    let feed : (byte == 10) ≡ true = (Decides-eqb byte 10).1 same in
    let end : after ≡ (text ++ coloured_line line) ++ (10 ∷ []) = is_after ∙ ap (λ b. (text ++ coloured_line line) ++ (b ∷ [])) same in
    ap (λ l. text ++ l) (coloured-end line byte rest feed) ∙ sym (append_assoc text (coloured_line line) (10 ∷ coloured_from [] rest))
    ∙ sym (append_assoc (text ++ coloured_line line) (10 ∷ []) (coloured_from [] rest))
    ∙ sym (ap (λ l. l ++ coloured_from next rest) end ∙ ap (λ l. ((text ++ coloured_line line) ++ (10 ∷ [])) ++ coloured_from l rest) is_next)

other_byte : (byte : ℕ) (is_feed : Bool) → Decides is_feed (byte ≡ 10) → byte ≢ 10 → is_feed ≡ false
other_byte byte true decides other = absurd (other (decides.0 refl))
other_byte byte false decides other = refl

pub text-more : (text line next : List ℕ) (byte : ℕ) (rest : List ℕ) → byte ≢ 10 → next ≡ line ++ byte ∷ []
    → text ++ coloured_from line (byte ∷ rest) ≡ text ++ coloured_from next rest
text-more text line next byte rest other is_next =
    ap (λ l. text ++ l) (coloured-more line byte rest (other_byte byte (byte == 10) (Decides-eqb byte 10) other))
    ∙ ap (λ l. text ++ coloured_from l rest) (sym is_next)

-- all bytes, where nothing was taken in before them
pub text-done : (bytes text line first begun after : List ℕ) → first ≡ [] → begun ≡ []
    → ((rest : List ℕ) → first ++ coloured_from begun (bytes ++ rest) ≡ text ++ coloured_from line rest) → after ≡ text ++ coloured_line line
    → after ≡ coloured bytes
unfolding coloured_from
text-done bytes text line first begun after no_text no_line goes is =
    is ∙ (sym (goes []) ∙ (ap (λ l. l ++ coloured_from begun (bytes ++ [])) no_text
    ∙ (ap (λ l. coloured_from l (bytes ++ [])) no_line ∙ ap (coloured_from []) (append-nil bytes))))
