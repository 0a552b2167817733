-- What the plain command lines ask for that draw a run: as a picture, or with --page as a page. Each word is one step of the walk from a
-- place that is written out, so that no lemma computes a whole line.
use Rattle.std.proofs.Common.{◌≡◌, ◌∙◌, ℕ, ◌==◌, true, false, List, [], ◌∷◌, Option, Some, None}
use Rattle.std.proofs.Common.{option_map, refl, ap, ap₂, sym, arith}
use Rattle.std.specs.Prelude.{codes}
use Rattle.clap.specs.Words.{Kinds, Row, Text, fault_of}
use Rattle.clap.proofs.OnLiterals.{clap_on_literals}
use Rattle.clap.specs.Faults.{defaults_fault, entered_fault, level_fault, settle_fault, walk_fault}
use Rattle.clap.specs.Kinds.{or_else}
use Rattle.clap.specs.Simple.{Shape, built, entered, label_of}
use Rattle.clap.specs.Walk.{Walk, answers_to, finished, nothing_held, rows_after, settled, walk, walk_from, walked}
use Rattle.clap.specs.declared.builder.value_parser.Reading.TheVariants.{AsWritten}
use Rattle.clap.specs.declared.parser.matches.ValueSource.TheVariants.{CommandLine, DefaultValue}
use Rattle.std.specs.Option.{option_map_or}
use Rattle.std.specs.Prelude.{find}
use Rattle.uas_profile.specs.declared.TheConstants.{MAX_CLIENTS, TAGS, USUAL_CLIENTS}
use Rattle.byte_io.specs.Words.{number_in}
use Rattle.uas_words.specs.CommandLine.{AsksPage, AsksScript, asked_for, asked_in, bad_of, blocks_of, clients_of, draw, draw_of, has_page, page, tags_of}
use Rattle.uas_words.specs.Subcommands.{program_app}
use Rattle.uas_words.proofs.Levels.{Enters}
use Rattle.uas_words.proofs.Places.{bad_in, bad_row, before_bad, behind_bad, blocks_in, blocks_row, clients_in, clients_row, ends, found, on, pending}
use Rattle.uas_words.proofs.PlainNumbers.{IsIn, clients_are_in, number_is_in}
use Rattle.uas_words.proofs.WalkSteps.{fault-bad, fault-end, fault-page, fault-plain, fault-value, standing, walked-bad, walked-page, walked-plain, walked-value}

-- the subcommand `draw`, built
abbrev draw_shape : Shape
draw_shape = option_map_or (λ s. s) (find (λ s. answers_to (codes "draw") (label_of s)) (built program_app).subs) (built program_app).top

draw_enters : ((a b : Text) → Enters (codes "draw") (a ∷ b ∷ [])) × ((a b c : Text) → Enters (codes "draw") (a ∷ b ∷ c ∷ []))
    × ((a b c d : Text) → Enters (codes "draw") (a ∷ b ∷ c ∷ d ∷ [])) × ((a b c d e : Text) → Enters (codes "draw") (a ∷ b ∷ c ∷ d ∷ e ∷ []))
unfolding asked_for clap_on_literals
draw_enters = (λ a b p. (refl, refl), λ a b c p. (refl, refl), λ a b c d p. (refl, refl), λ a b c d e p. (refl, refl))

draw_asks : (words : List Text) → asked_in (entered (built program_app) (Some (codes "draw", words))) ≡ draw_of (rows_after draw_shape.rules [] words)
draw_asks words = refl

draw_level : (words : List Text) → entered_fault (built program_app) (Some (codes "draw", words)) ≡ level_fault draw_shape [] nothing_held words false []
draw_level words = refl

-- WHERE THE WALK STANDS

abbrev page_row : Row
page_row = found (codes "page") AsWritten CommandLine (codes "true")

abbrev no_page_row : Row
no_page_row = found (codes "page") AsWritten DefaultValue (codes "false")

abbrev behind_clients : Text → Walk
behind_clients c = standing (pending [] (codes "CLIENTS") (c ∷ [])) 2

abbrev behind_blocks : Text → Text → Walk
behind_blocks c b = standing (pending (clients_row c ∷ []) (codes "BLOCKS") (b ∷ [])) 3

abbrev behind_page : Text → Text → Walk
behind_page c b = standing (record { rows = clients_row c ∷ blocks_row b ∷ page_row ∷ []; pending = None; skip = 0 }) 3

-- EACH WORD IS ONE STEP

to_clients : (d : ℕ) (ds : Text) → (d == 45) ≡ false → walked draw_shape.rules [] (walk_from nothing_held) (d ∷ ds) ≡ behind_clients (d ∷ ds)
to_clients d ds hyphen = walked-plain d ds hyphen draw_shape.rules nothing_held 1

to_blocks : (c : Text) (e : ℕ) (es : Text) → (e == 45) ≡ false → walked draw_shape.rules [] (behind_clients c) (e ∷ es) ≡ behind_blocks c (e ∷ es)
to_blocks c e es hyphen = walked-plain e es hyphen draw_shape.rules (behind_clients c).held 2

to_page : (c b : Text) → walked draw_shape.rules [] (behind_blocks c b) (codes "--page") ≡ behind_page c b
to_page c b = walked-page draw_shape.rules (behind_blocks c b).held 3

to_bad : (c b : Text) → walked draw_shape.rules [] (behind_blocks c b) (codes "--bad") ≡ before_bad (clients_row c ∷ blocks_row b ∷ []) 3
to_bad c b = walked-bad draw_shape.rules (behind_blocks c b).held 3

page_to_bad : (c b : Text) → walked draw_shape.rules [] (behind_page c b) (codes "--bad") ≡ before_bad (behind_page c b).held.rows 3
page_to_bad c b = walked-bad draw_shape.rules (behind_page c b).held 3

to_lba : (rows : List Row) (f : ℕ) (fs : Text) → (f == 45) ≡ false → walked draw_shape.rules [] (before_bad rows 3) (f ∷ fs) ≡ behind_bad rows (f ∷ fs) 3
to_lba rows f fs hyphen = walked-value f fs hyphen draw_shape.rules (codes "bad") (before_bad rows 3).held 3

-- the place behind both numbers
both : (d : ℕ) (ds : Text) (e : ℕ) (es : Text) → (d == 45) ≡ false → (e == 45) ≡ false
    → walk draw_shape.rules [] nothing_held ((d ∷ ds) ∷ (e ∷ es) ∷ []) ≡ behind_blocks (d ∷ ds) (e ∷ es)
both d ds e es hyphen hyphen' = ap (λ (w : Walk). walked draw_shape.rules [] w (e ∷ es)) (to_clients d ds hyphen) ∙ to_blocks (d ∷ ds) e es hyphen'

-- a word of these that is refused is none
no_clients : (d : ℕ) (ds : Text) → IsIn 1 MAX_CLIENTS d ds → settle_fault draw_shape.rules draw_shape.args_override_self (behind_clients (d ∷ ds)).held ≡ []
no_clients d ds m = simp (m.hyphen, m.plus, m.some, m.first, m.rest, m.fits, m.low, m.high)

no_blocks : (c : Text) (e : ℕ) (es : Text) → IsIn 1 65536 e es → settle_fault draw_shape.rules draw_shape.args_override_self (behind_blocks c (e ∷ es)).held ≡ []
no_blocks c e es n = simp (n.hyphen, n.plus, n.some, n.first, n.rest, n.fits, n.low, n.high)

no_bad : (c b : Text) (f : ℕ) (fs : Text) → IsIn 0 65535 f fs
    → settle_fault draw_shape.rules draw_shape.args_override_self (behind_bad (clients_row c ∷ blocks_row b ∷ []) (f ∷ fs) 3).held ≡ []
no_bad c b f fs o = simp (o.hyphen, o.plus, o.some, o.first, o.rest, o.fits, o.low, o.high)

no_bad_page : (c b : Text) (f : ℕ) (fs : Text) → IsIn 0 65535 f fs
    → settle_fault draw_shape.rules draw_shape.args_override_self (behind_bad (behind_page c b).held.rows (f ∷ fs) 3).held ≡ []
no_bad_page c b f fs o = simp (o.hyphen, o.plus, o.some, o.first, o.rest, o.fits, o.low, o.high)

from_clients : (d : ℕ) (ds : Text) (rest : List Text) → (d == 45) ≡ false
    → walk_fault draw_shape [] (walk_from nothing_held) ((d ∷ ds) ∷ rest) ≡ walk_fault draw_shape [] (behind_clients (d ∷ ds)) rest
from_clients d ds rest hyphen = fault-plain d ds hyphen draw_shape nothing_held 1 rest

from_blocks : (d : ℕ) (ds : Text) (e : ℕ) (es : Text) (rest : List Text) → IsIn 1 MAX_CLIENTS d ds → (e == 45) ≡ false
    → walk_fault draw_shape [] (behind_clients (d ∷ ds)) ((e ∷ es) ∷ rest) ≡ walk_fault draw_shape [] (behind_blocks (d ∷ ds) (e ∷ es)) rest
from_blocks d ds e es rest m hyphen = fault-plain e es hyphen draw_shape (behind_clients (d ∷ ds)).held 2 rest
    ∙ on (settle_fault draw_shape.rules draw_shape.args_override_self (behind_clients (d ∷ ds)).held)
    (walk_fault draw_shape [] (behind_blocks (d ∷ ds) (e ∷ es)) rest) (no_clients d ds m)

from_page : (c : Text) (e : ℕ) (es : Text) (rest : List Text) → IsIn 1 65536 e es
    → walk_fault draw_shape [] (behind_blocks c (e ∷ es)) (codes "--page" ∷ rest) ≡ walk_fault draw_shape [] (behind_page c (e ∷ es)) rest
from_page c e es rest n = fault-page draw_shape (behind_blocks c (e ∷ es)).held 3 rest
    ∙ on (or_else (or_else (settle_fault draw_shape.rules draw_shape.args_override_self (behind_blocks c (e ∷ es)).held) []) [])
    (walk_fault draw_shape [] (behind_page c (e ∷ es)) rest) (ap (λ (k : Kinds). or_else (or_else k []) []) (no_blocks c e es n))

from_bad : (c : Text) (e : ℕ) (es : Text) (rest : List Text) → IsIn 1 65536 e es
    → walk_fault draw_shape [] (behind_blocks c (e ∷ es)) (codes "--bad" ∷ rest)
    ≡ walk_fault draw_shape [] (before_bad (clients_row c ∷ blocks_row (e ∷ es) ∷ []) 3) rest
from_bad c e es rest n = fault-bad draw_shape (behind_blocks c (e ∷ es)).held 3 rest
    ∙ on (or_else (settle_fault draw_shape.rules draw_shape.args_override_self (behind_blocks c (e ∷ es)).held) [])
    (walk_fault draw_shape [] (before_bad (clients_row c ∷ blocks_row (e ∷ es) ∷ []) 3) rest) (ap (λ (k : Kinds). or_else k []) (no_blocks c e es n))

page_from_bad : (c b : Text) (rest : List Text)
    → walk_fault draw_shape [] (behind_page c b) (codes "--bad" ∷ rest) ≡ walk_fault draw_shape [] (before_bad (behind_page c b).held.rows 3) rest
page_from_bad c b rest = fault-bad draw_shape (behind_page c b).held 3 rest

from_lba : (rows : List Row) (f : ℕ) (fs : Text) → (f == 45) ≡ false → walk_fault draw_shape [] (before_bad rows 3) ((f ∷ fs) ∷ []) ≡ []
from_lba rows f fs hyphen = fault-value f fs hyphen draw_shape (codes "bad") (before_bad rows 3).held 3 [] ∙ fault-end draw_shape (behind_bad rows (f ∷ fs) 3)

-- what is asked for there
asks : (words : List Text) (w : Walk) (rows : List Row) → walk draw_shape.rules [] nothing_held words ≡ w → finished draw_shape.rules w.held ≡ rows
    → asked_in (entered (built program_app) (Some (codes "draw", words))) ≡ draw_of rows
asks words w rows is found = draw_asks words ∙ (ap (λ (v : Walk). draw_of (finished draw_shape.rules v.held)) is ∙ ap draw_of found)

-- what is found, part by part, asks for a picture or for a page
picture_by : (clients tags blocks : ℕ) (bad : Option ℕ) (rows : List Row) → clients_of TAGS rows ≡ Some clients → blocks_of rows ≡ Some blocks
    → bad_of rows ≡ Some bad → has_page rows ≡ false → tags_of rows ≡ Some TAGS → tags ≡ TAGS → draw_of rows ≡ Some (draw clients tags blocks bad)
picture_by clients tags blocks bad rows p q r s u t = rw (s, u, p, q, r, t) refl

page_by : (clients tags blocks : ℕ) (bad : Option ℕ) (rows : List Row) → clients_of TAGS rows ≡ Some clients → blocks_of rows ≡ Some blocks
    → bad_of rows ≡ Some bad → has_page rows ≡ true → tags_of rows ≡ Some TAGS → tags ≡ TAGS → draw_of rows ≡ Some (page clients tags blocks bad)
page_by clients tags blocks bad rows p q r s u t = rw (s, u, p, q, r, t) refl

-- THE FOUR FORMS: where each ends, what is found there, and that nothing is refused

abbrev picture_words : Text → Text → List Text
picture_words c b = c ∷ b ∷ []

abbrev bad_picture_words : Text → Text → Text → List Text
bad_picture_words c b l = c ∷ b ∷ codes "--bad" ∷ l ∷ []

abbrev page_words : Text → Text → List Text
page_words c b = c ∷ b ∷ codes "--page" ∷ []

abbrev bad_page_words : Text → Text → Text → List Text
bad_page_words c b l = c ∷ b ∷ codes "--page" ∷ codes "--bad" ∷ l ∷ []

abbrev numbers : Text → Text → List Row
numbers c b = clients_row c ∷ blocks_row b ∷ []

abbrev paged : Text → Text → List Row
paged c b = clients_row c ∷ blocks_row b ∷ page_row ∷ []

picture_end : (d : ℕ) (ds : Text) (e : ℕ) (es : Text) → (d == 45) ≡ false → (e == 45) ≡ false
    → walk draw_shape.rules [] nothing_held (picture_words (d ∷ ds) (e ∷ es)) ≡ behind_blocks (d ∷ ds) (e ∷ es)
picture_end = both

bad_picture_end : (d : ℕ) (ds : Text) (e : ℕ) (es : Text) (f : ℕ) (fs : Text) → (d == 45) ≡ false → (e == 45) ≡ false → (f == 45) ≡ false
    → walk draw_shape.rules [] nothing_held (bad_picture_words (d ∷ ds) (e ∷ es) (f ∷ fs)) ≡ behind_bad (numbers (d ∷ ds) (e ∷ es)) (f ∷ fs) 3
bad_picture_end d ds e es f fs hyphen hyphen' hyphen″ =
    ap (λ (w : Walk). walked draw_shape.rules [] (walked draw_shape.rules [] w (codes "--bad")) (f ∷ fs)) (both d ds e es hyphen hyphen')
    ∙ (ap (λ (w : Walk). walked draw_shape.rules [] w (f ∷ fs)) (to_bad (d ∷ ds) (e ∷ es)) ∙ to_lba (numbers (d ∷ ds) (e ∷ es)) f fs hyphen″)

page_end : (d : ℕ) (ds : Text) (e : ℕ) (es : Text) → (d == 45) ≡ false → (e == 45) ≡ false
    → walk draw_shape.rules [] nothing_held (page_words (d ∷ ds) (e ∷ es)) ≡ behind_page (d ∷ ds) (e ∷ es)
page_end d ds e es hyphen hyphen' =
    ap (λ (w : Walk). walked draw_shape.rules [] w (codes "--page")) (both d ds e es hyphen hyphen') ∙ to_page (d ∷ ds) (e ∷ es)

bad_page_end : (d : ℕ) (ds : Text) (e : ℕ) (es : Text) (f : ℕ) (fs : Text) → (d == 45) ≡ false → (e == 45) ≡ false → (f == 45) ≡ false
    → walk draw_shape.rules [] nothing_held (bad_page_words (d ∷ ds) (e ∷ es) (f ∷ fs)) ≡ behind_bad (paged (d ∷ ds) (e ∷ es)) (f ∷ fs) 3
bad_page_end d ds e es f fs hyphen hyphen' hyphen″ =
    ap (λ (w : Walk). walked draw_shape.rules [] (walked draw_shape.rules [] w (codes "--bad")) (f ∷ fs)) (page_end d ds e es hyphen hyphen')
    ∙ (ap (λ (w : Walk). walked draw_shape.rules [] w (f ∷ fs)) (page_to_bad (d ∷ ds) (e ∷ es)) ∙ to_lba (paged (d ∷ ds) (e ∷ es)) f fs hyphen″)

picture_found : (c b : Text) → finished draw_shape.rules (behind_blocks c b).held ≡ clients_row c ∷ blocks_row b ∷ no_page_row ∷ []
picture_found c b = refl

bad_picture_found : (c b l : Text) → finished draw_shape.rules (behind_bad (numbers c b) l 3).held ≡ clients_row c ∷ blocks_row b ∷ bad_row l ∷ no_page_row ∷ []
bad_picture_found c b l = refl

page_found : (c b : Text) → finished draw_shape.rules (behind_page c b).held ≡ paged c b
page_found c b = refl

bad_page_found : (c b l : Text) → finished draw_shape.rules (behind_bad (paged c b) l 3).held ≡ clients_row c ∷ blocks_row b ∷ page_row ∷ bad_row l ∷ []
bad_page_found c b l = refl

-- nothing is wrong with what an option that is not there stands at
picture_defaults : (c b : Text) → defaults_fault (settled draw_shape.rules (behind_blocks c b).held).rows draw_shape.rules ≡ []
unfolding defaults_fault
picture_defaults c b = refl

bad_picture_defaults : (c b l : Text) → defaults_fault (settled draw_shape.rules (behind_bad (numbers c b) l 3).held).rows draw_shape.rules ≡ []
unfolding defaults_fault
bad_picture_defaults c b l = refl

page_defaults : (c b : Text) → defaults_fault (settled draw_shape.rules (behind_page c b).held).rows draw_shape.rules ≡ []
unfolding defaults_fault
page_defaults c b = refl

bad_page_defaults : (c b l : Text) → defaults_fault (settled draw_shape.rules (behind_bad (paged c b) l 3).held).rows draw_shape.rules ≡ []
unfolding defaults_fault
bad_page_defaults c b l = refl

picture_faults : (d : ℕ) (ds : Text) (e : ℕ) (es : Text) → IsIn 1 MAX_CLIENTS d ds → IsIn 1 65536 e es
    → level_fault draw_shape [] nothing_held (picture_words (d ∷ ds) (e ∷ es)) false [] ≡ []
picture_faults d ds e es m n = ends draw_shape (picture_words (d ∷ ds) (e ∷ es)) (behind_blocks (d ∷ ds) (e ∷ es)) (picture_end d ds e es m.hyphen n.hyphen)
    (from_clients d ds ((e ∷ es) ∷ []) m.hyphen ∙ (from_blocks d ds e es [] m n.hyphen ∙ fault-end draw_shape (behind_blocks (d ∷ ds) (e ∷ es))))
    (no_blocks (d ∷ ds) e es n) (picture_defaults (d ∷ ds) (e ∷ es)) refl

bad_picture_faults : (d : ℕ) (ds : Text) (e : ℕ) (es : Text) (f : ℕ) (fs : Text) → IsIn 1 MAX_CLIENTS d ds → IsIn 1 65536 e es → IsIn 0 65535 f fs
    → level_fault draw_shape [] nothing_held (bad_picture_words (d ∷ ds) (e ∷ es) (f ∷ fs)) false [] ≡ []
bad_picture_faults d ds e es f fs m n o =
    ends draw_shape (bad_picture_words (d ∷ ds) (e ∷ es) (f ∷ fs)) (behind_bad (numbers (d ∷ ds) (e ∷ es)) (f ∷ fs) 3) (bad_picture_end d ds e es f fs m.hyphen n.hyphen o.hyphen)
    (from_clients d ds ((e ∷ es) ∷ codes "--bad" ∷ (f ∷ fs) ∷ []) m.hyphen ∙ (from_blocks d ds e es (codes "--bad" ∷ (f ∷ fs) ∷ []) m n.hyphen
    ∙ (from_bad (d ∷ ds) e es ((f ∷ fs) ∷ []) n ∙ from_lba (numbers (d ∷ ds) (e ∷ es)) f fs o.hyphen)))
    (no_bad (d ∷ ds) (e ∷ es) f fs o) (bad_picture_defaults (d ∷ ds) (e ∷ es) (f ∷ fs)) refl

page_faults : (d : ℕ) (ds : Text) (e : ℕ) (es : Text) → IsIn 1 MAX_CLIENTS d ds → IsIn 1 65536 e es
    → level_fault draw_shape [] nothing_held (page_words (d ∷ ds) (e ∷ es)) false [] ≡ []
page_faults d ds e es m n = ends draw_shape (page_words (d ∷ ds) (e ∷ es)) (behind_page (d ∷ ds) (e ∷ es)) (page_end d ds e es m.hyphen n.hyphen)
    (from_clients d ds ((e ∷ es) ∷ codes "--page" ∷ []) m.hyphen ∙ (from_blocks d ds e es (codes "--page" ∷ []) m n.hyphen
    ∙ (from_page (d ∷ ds) e es [] n ∙ fault-end draw_shape (behind_page (d ∷ ds) (e ∷ es)))))
    refl (page_defaults (d ∷ ds) (e ∷ es)) refl

bad_page_faults : (d : ℕ) (ds : Text) (e : ℕ) (es : Text) (f : ℕ) (fs : Text) → IsIn 1 MAX_CLIENTS d ds → IsIn 1 65536 e es → IsIn 0 65535 f fs
    → level_fault draw_shape [] nothing_held (bad_page_words (d ∷ ds) (e ∷ es) (f ∷ fs)) false [] ≡ []
bad_page_faults d ds e es f fs m n o =
    ends draw_shape (bad_page_words (d ∷ ds) (e ∷ es) (f ∷ fs)) (behind_bad (paged (d ∷ ds) (e ∷ es)) (f ∷ fs) 3) (bad_page_end d ds e es f fs m.hyphen n.hyphen o.hyphen)
    (from_clients d ds ((e ∷ es) ∷ codes "--page" ∷ codes "--bad" ∷ (f ∷ fs) ∷ []) m.hyphen
    ∙ (from_blocks d ds e es (codes "--page" ∷ codes "--bad" ∷ (f ∷ fs) ∷ []) m n.hyphen ∙ (from_page (d ∷ ds) e es (codes "--bad" ∷ (f ∷ fs) ∷ []) n
    ∙ (page_from_bad (d ∷ ds) (e ∷ es) ((f ∷ fs) ∷ []) ∙ from_lba (paged (d ∷ ds) (e ∷ es)) f fs o.hyphen))))
    (no_bad_page (d ∷ ds) (e ∷ es) f fs o) (bad_page_defaults (d ∷ ds) (e ∷ es) (f ∷ fs)) refl

-- WHAT THEY ASK FOR

-- the plain words of a picture ask for it, and are not refused
pub draw_asked : (clients tags blocks : ℕ) (bad : Option ℕ) (words : List Text) → AsksScript (codes "draw") clients tags blocks bad words
    → (asked_for words ≡ Some (draw clients tags blocks bad)) × (fault_of program_app words ≡ [])
draw_asked clients tags blocks None words plain =
    let m = clients_are_in clients plain.1 plain.4 in
    let n = number_is_in 1 65536 blocks plain.2 (omega arith) plain.5 in
    let is : words ≡ plain.0 ∷ codes "draw" ∷ picture_words (m.0 ∷ m.1) (n.0 ∷ n.1) =
    plain.3 ∙ ap₂ (λ (a b : Text). plain.0 ∷ codes "draw" ∷ a ∷ b ∷ []) m.2 n.2 in (
      ap asked_for is ∙ ((draw_enters.0 (m.0 ∷ m.1) (n.0 ∷ n.1) plain.0).0 ∙ (asks (picture_words (m.0 ∷ m.1) (n.0 ∷ n.1)) (behind_blocks (m.0 ∷ m.1) (n.0 ∷ n.1)) (clients_row (m.0 ∷ m.1) ∷ blocks_row (n.0 ∷ n.1) ∷ no_page_row ∷ []) (picture_end m.0 m.1 n.0 n.1 m.3.hyphen n.3.hyphen) (picture_found (m.0 ∷ m.1) (n.0 ∷ n.1))
          ∙ picture_by clients tags blocks None (clients_row (m.0 ∷ m.1) ∷ blocks_row (n.0 ∷ n.1) ∷ no_page_row ∷ [])
          (clients_in m.0 m.1 (blocks_row (n.0 ∷ n.1) ∷ no_page_row ∷ []) m.3.hyphen m.3.plus ∙ (ap (number_in 1 USUAL_CLIENTS) (sym m.2) ∙ plain.4))
          (blocks_in (m.0 ∷ m.1) n.0 n.1 (no_page_row ∷ []) n.3.hyphen n.3.plus ∙ (ap (number_in 1 65536) (sym n.2) ∙ plain.5))
          refl refl refl plain.6)),
      ap (fault_of program_app) is ∙ ((draw_enters.0 (m.0 ∷ m.1) (n.0 ∷ n.1) plain.0).1
          ∙ ap (λ (k : Kinds). or_else k []) (draw_level (picture_words (m.0 ∷ m.1) (n.0 ∷ n.1)) ∙ picture_faults m.0 m.1 n.0 n.1 m.3 n.3)),
    )
draw_asked clients tags blocks (Some bad) words plain =
    let m = clients_are_in clients plain.1 plain.5 in
    let n = number_is_in 1 65536 blocks plain.2 (omega arith) plain.6 in
    let o = number_is_in 0 65535 bad plain.3 (omega arith) plain.7 in
    let is : words ≡ plain.0 ∷ codes "draw" ∷ bad_picture_words (m.0 ∷ m.1) (n.0 ∷ n.1) (o.0 ∷ o.1) =
    plain.4 ∙ (ap₂ (λ (a b : Text). plain.0 ∷ codes "draw" ∷ a ∷ b ∷ codes "--bad" ∷ plain.3 ∷ []) m.2 n.2
    ∙ ap (λ (c : Text). plain.0 ∷ codes "draw" ∷ (m.0 ∷ m.1) ∷ (n.0 ∷ n.1) ∷ codes "--bad" ∷ c ∷ []) o.2) in
    let third : option_map (λ k. Some k) (number_in 0 65535 (o.0 ∷ o.1)) ≡ Some (Some bad) =
    ap (option_map (λ k. Some k)) (ap (number_in 0 65535) (sym o.2) ∙ plain.7) in (
      ap asked_for is ∙ ((draw_enters.2 (m.0 ∷ m.1) (n.0 ∷ n.1) (codes "--bad") (o.0 ∷ o.1) plain.0).0 ∙ (asks (bad_picture_words (m.0 ∷ m.1) (n.0 ∷ n.1) (o.0 ∷ o.1)) (behind_bad (numbers (m.0 ∷ m.1) (n.0 ∷ n.1)) (o.0 ∷ o.1) 3) (clients_row (m.0 ∷ m.1) ∷ blocks_row (n.0 ∷ n.1) ∷ bad_row (o.0 ∷ o.1) ∷ no_page_row ∷ []) (bad_picture_end m.0 m.1 n.0 n.1 o.0 o.1 m.3.hyphen n.3.hyphen o.3.hyphen) (bad_picture_found (m.0 ∷ m.1) (n.0 ∷ n.1) (o.0 ∷ o.1))
          ∙ picture_by clients tags blocks (Some bad) (clients_row (m.0 ∷ m.1) ∷ blocks_row (n.0 ∷ n.1) ∷ bad_row (o.0 ∷ o.1) ∷ no_page_row ∷ [])
          (clients_in m.0 m.1 (blocks_row (n.0 ∷ n.1) ∷ bad_row (o.0 ∷ o.1) ∷ no_page_row ∷ []) m.3.hyphen m.3.plus ∙ (ap (number_in 1 USUAL_CLIENTS) (sym m.2) ∙ plain.5))
          (blocks_in (m.0 ∷ m.1) n.0 n.1 (bad_row (o.0 ∷ o.1) ∷ no_page_row ∷ []) n.3.hyphen n.3.plus ∙ (ap (number_in 1 65536) (sym n.2) ∙ plain.6))
          (bad_in o.0 o.1 (no_page_row ∷ []) o.3.hyphen o.3.plus ∙ third) refl refl plain.8)),
      ap (fault_of program_app) is ∙ ((draw_enters.2 (m.0 ∷ m.1) (n.0 ∷ n.1) (codes "--bad") (o.0 ∷ o.1) plain.0).1
          ∙ ap (λ (k : Kinds). or_else k []) (draw_level (bad_picture_words (m.0 ∷ m.1) (n.0 ∷ n.1) (o.0 ∷ o.1)) ∙ bad_picture_faults m.0 m.1 n.0 n.1 o.0 o.1 m.3 n.3 o.3)),
    )

-- and so do those of a page
pub page_asked : (clients tags blocks : ℕ) (bad : Option ℕ) (words : List Text) → AsksPage clients tags blocks bad words
    → (asked_for words ≡ Some (page clients tags blocks bad)) × (fault_of program_app words ≡ [])
page_asked clients tags blocks None words plain =
    let m = clients_are_in clients plain.1 plain.4 in
    let n = number_is_in 1 65536 blocks plain.2 (omega arith) plain.5 in
    let is : words ≡ plain.0 ∷ codes "draw" ∷ page_words (m.0 ∷ m.1) (n.0 ∷ n.1) =
    plain.3 ∙ ap₂ (λ (a b : Text). plain.0 ∷ codes "draw" ∷ a ∷ b ∷ codes "--page" ∷ []) m.2 n.2 in (
      ap asked_for is ∙ ((draw_enters.1 (m.0 ∷ m.1) (n.0 ∷ n.1) (codes "--page") plain.0).0 ∙ (asks (page_words (m.0 ∷ m.1) (n.0 ∷ n.1)) (behind_page (m.0 ∷ m.1) (n.0 ∷ n.1)) (paged (m.0 ∷ m.1) (n.0 ∷ n.1)) (page_end m.0 m.1 n.0 n.1 m.3.hyphen n.3.hyphen) (page_found (m.0 ∷ m.1) (n.0 ∷ n.1))
          ∙ page_by clients tags blocks None (paged (m.0 ∷ m.1) (n.0 ∷ n.1))
          (clients_in m.0 m.1 (blocks_row (n.0 ∷ n.1) ∷ page_row ∷ []) m.3.hyphen m.3.plus ∙ (ap (number_in 1 USUAL_CLIENTS) (sym m.2) ∙ plain.4))
          (blocks_in (m.0 ∷ m.1) n.0 n.1 (page_row ∷ []) n.3.hyphen n.3.plus ∙ (ap (number_in 1 65536) (sym n.2) ∙ plain.5))
          refl refl refl plain.6)),
      ap (fault_of program_app) is ∙ ((draw_enters.1 (m.0 ∷ m.1) (n.0 ∷ n.1) (codes "--page") plain.0).1
          ∙ ap (λ (k : Kinds). or_else k []) (draw_level (page_words (m.0 ∷ m.1) (n.0 ∷ n.1)) ∙ page_faults m.0 m.1 n.0 n.1 m.3 n.3)),
    )
page_asked clients tags blocks (Some bad) words plain =
    let m = clients_are_in clients plain.1 plain.5 in
    let n = number_is_in 1 65536 blocks plain.2 (omega arith) plain.6 in
    let o = number_is_in 0 65535 bad plain.3 (omega arith) plain.7 in
    let is : words ≡ plain.0 ∷ codes "draw" ∷ bad_page_words (m.0 ∷ m.1) (n.0 ∷ n.1) (o.0 ∷ o.1) =
    plain.4 ∙ (ap₂ (λ (a b : Text). plain.0 ∷ codes "draw" ∷ a ∷ b ∷ codes "--page" ∷ codes "--bad" ∷ plain.3 ∷ []) m.2 n.2
    ∙ ap (λ (c : Text). plain.0 ∷ codes "draw" ∷ (m.0 ∷ m.1) ∷ (n.0 ∷ n.1) ∷ codes "--page" ∷ codes "--bad" ∷ c ∷ []) o.2) in
    let third : option_map (λ k. Some k) (number_in 0 65535 (o.0 ∷ o.1)) ≡ Some (Some bad) =
    ap (option_map (λ k. Some k)) (ap (number_in 0 65535) (sym o.2) ∙ plain.7) in (
      ap asked_for is ∙ ((draw_enters.3 (m.0 ∷ m.1) (n.0 ∷ n.1) (codes "--page") (codes "--bad") (o.0 ∷ o.1) plain.0).0 ∙ (asks (bad_page_words (m.0 ∷ m.1) (n.0 ∷ n.1) (o.0 ∷ o.1)) (behind_bad (paged (m.0 ∷ m.1) (n.0 ∷ n.1)) (o.0 ∷ o.1) 3) (clients_row (m.0 ∷ m.1) ∷ blocks_row (n.0 ∷ n.1) ∷ page_row ∷ bad_row (o.0 ∷ o.1) ∷ []) (bad_page_end m.0 m.1 n.0 n.1 o.0 o.1 m.3.hyphen n.3.hyphen o.3.hyphen) (bad_page_found (m.0 ∷ m.1) (n.0 ∷ n.1) (o.0 ∷ o.1))
          ∙ page_by clients tags blocks (Some bad) (clients_row (m.0 ∷ m.1) ∷ blocks_row (n.0 ∷ n.1) ∷ page_row ∷ bad_row (o.0 ∷ o.1) ∷ [])
          (clients_in m.0 m.1 (blocks_row (n.0 ∷ n.1) ∷ page_row ∷ bad_row (o.0 ∷ o.1) ∷ []) m.3.hyphen m.3.plus ∙ (ap (number_in 1 USUAL_CLIENTS) (sym m.2) ∙ plain.5))
          (blocks_in (m.0 ∷ m.1) n.0 n.1 (page_row ∷ bad_row (o.0 ∷ o.1) ∷ []) n.3.hyphen n.3.plus ∙ (ap (number_in 1 65536) (sym n.2) ∙ plain.6))
          (bad_in o.0 o.1 [] o.3.hyphen o.3.plus ∙ third) refl refl plain.8)),
      ap (fault_of program_app) is ∙ ((draw_enters.3 (m.0 ∷ m.1) (n.0 ∷ n.1) (codes "--page") (codes "--bad") (o.0 ∷ o.1) plain.0).1
          ∙ ap (λ (k : Kinds). or_else k []) (draw_level (bad_page_words (m.0 ∷ m.1) (n.0 ∷ n.1) (o.0 ∷ o.1)) ∙ bad_page_faults m.0 m.1 n.0 n.1 o.0 o.1 m.3 n.3 o.3)),
    )
