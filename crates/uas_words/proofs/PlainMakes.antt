-- What the plain command line asks for that makes an image. Each word is one step of the walk from a place that is written out.
use Rattle.std.proofs.Common.{◌≡◌, ◌∙◌, ℕ, ◌==◌, false, true≢false, List, [], ◌∷◌, Some}
use Rattle.std.proofs.Common.{refl, ap, sym, arith}
use Rattle.std.specs.Prelude.{codes}
use Rattle.clap.specs.Words.{Kinds, Row, Text, fault_of}
use Rattle.clap.proofs.OnLiterals.{clap_on_literals}
use Rattle.clap.specs.Faults.{defaults_fault, entered_fault, level_fault, settle_fault, walk_fault}
use Rattle.clap.specs.Kinds.{or_else}
use Rattle.clap.specs.Simple.{Shape, built, entered, label_of}
use Rattle.clap.specs.Walk.{Walk, answers_to, finished, nothing_held, rows_after, settled, walk, walk_from, walked}
use Rattle.clap.specs.declared.builder.value_parser.Reading.TheVariants.{AsWritten}
use Rattle.clap.specs.declared.parser.matches.ValueSource.TheVariants.{CommandLine, DefaultValue}
use Rattle.std.specs.Option.{option_map_or}
use Rattle.std.specs.Prelude.{find}
use Rattle.byte_io.specs.Words.{number_in}
use Rattle.uas_words.specs.CommandLine.{AsksPlainly, asked_for, asked_in, blocks_of, file_of, has_force, make, make_of}
use Rattle.uas_words.specs.Subcommands.{program_app}
use Rattle.uas_words.proofs.Levels.{Enters}
use Rattle.uas_words.proofs.Places.{blocks_row, ends, found, on, pending}
use Rattle.uas_words.proofs.PlainNumbers.{IsIn, not-true, number_is_in}
use Rattle.uas_words.proofs.WalkSteps.{fault-end, fault-plain, standing, walked-plain}

-- the subcommand `make`, built
abbrev make_shape : Shape
make_shape = option_map_or (λ s. s) (find (λ s. answers_to (codes "make") (label_of s)) (built program_app).subs) (built program_app).top

make_enters : (a b : Text) → Enters (codes "make") (a ∷ b ∷ [])
unfolding asked_for clap_on_literals
make_enters = λ a b p. (refl, refl)

make_asks : (words : List Text) → asked_in (entered (built program_app) (Some (codes "make", words))) ≡ make_of (rows_after make_shape.rules [] words)
make_asks words = refl

make_level : (words : List Text) → entered_fault (built program_app) (Some (codes "make", words)) ≡ level_fault make_shape [] nothing_held words false []
make_level words = refl

-- WHERE THE WALK STANDS

abbrev file_row : Text → Row
file_row word = found (codes "FILE") AsWritten CommandLine word

abbrev no_force_row : Row
no_force_row = found (codes "force") AsWritten DefaultValue (codes "false")

abbrev behind_file : Text → Walk
behind_file file = standing (pending [] (codes "FILE") (file ∷ [])) 2

abbrev behind_blocks : Text → Text → Walk
behind_blocks file b = standing (pending (file_row file ∷ []) (codes "BLOCKS") (b ∷ [])) 3

-- EACH WORD IS ONE STEP

to_file : (d : ℕ) (ds : Text) → (d == 45) ≡ false → walked make_shape.rules [] (walk_from nothing_held) (d ∷ ds) ≡ behind_file (d ∷ ds)
to_file d ds plain = walked-plain d ds plain make_shape.rules nothing_held 1

to_blocks : (file : Text) (e : ℕ) (es : Text) → (e == 45) ≡ false → walked make_shape.rules [] (behind_file file) (e ∷ es) ≡ behind_blocks file (e ∷ es)
to_blocks file e es hyphen = walked-plain e es hyphen make_shape.rules (behind_file file).held 2

both : (d : ℕ) (ds : Text) (e : ℕ) (es : Text) → (d == 45) ≡ false → (e == 45) ≡ false
    → walk make_shape.rules [] nothing_held ((d ∷ ds) ∷ (e ∷ es) ∷ []) ≡ behind_blocks (d ∷ ds) (e ∷ es)
both d ds e es plain hyphen = ap (λ (w : Walk). walked make_shape.rules [] w (e ∷ es)) (to_file d ds plain) ∙ to_blocks (d ∷ ds) e es hyphen

-- a word of these that is refused is none
no_blocks : (file : Text) (e : ℕ) (es : Text) → IsIn 1 65536 e es → settle_fault make_shape.rules make_shape.args_override_self (behind_blocks file (e ∷ es)).held ≡ []
no_blocks file e es n = simp (n.hyphen, n.plus, n.some, n.first, n.rest, n.fits, n.low, n.high)

from_file : (d : ℕ) (ds : Text) (rest : List Text) → (d == 45) ≡ false
    → walk_fault make_shape [] (walk_from nothing_held) ((d ∷ ds) ∷ rest) ≡ walk_fault make_shape [] (behind_file (d ∷ ds)) rest
from_file d ds rest plain = fault-plain d ds plain make_shape nothing_held 1 rest

from_blocks : (file : Text) (e : ℕ) (es : Text) (rest : List Text) → (e == 45) ≡ false
    → walk_fault make_shape [] (behind_file file) ((e ∷ es) ∷ rest) ≡ walk_fault make_shape [] (behind_blocks file (e ∷ es)) rest
from_blocks file e es rest hyphen = fault-plain e es hyphen make_shape (behind_file file).held 2 rest
    ∙ on (settle_fault make_shape.rules make_shape.args_override_self (behind_file file).held)
    (walk_fault make_shape [] (behind_blocks file (e ∷ es)) rest) refl

both_found : (file b : Text) → finished make_shape.rules (behind_blocks file b).held ≡ file_row file ∷ blocks_row b ∷ no_force_row ∷ []
both_found file b = refl

-- nothing is wrong with what an option that is not there stands at
both_defaults : (file b : Text) → defaults_fault (settled make_shape.rules (behind_blocks file b).held).rows make_shape.rules ≡ []
unfolding defaults_fault
both_defaults file b = refl

both_faults : (d : ℕ) (ds : Text) (e : ℕ) (es : Text) → (d == 45) ≡ false → IsIn 1 65536 e es
    → level_fault make_shape [] nothing_held ((d ∷ ds) ∷ (e ∷ es) ∷ []) false [] ≡ []
both_faults d ds e es plain n = ends make_shape ((d ∷ ds) ∷ (e ∷ es) ∷ []) (behind_blocks (d ∷ ds) (e ∷ es)) (both d ds e es plain n.hyphen)
    (from_file d ds ((e ∷ es) ∷ []) plain ∙ (from_blocks (d ∷ ds) e es [] n.hyphen ∙ fault-end make_shape (behind_blocks (d ∷ ds) (e ∷ es))))
    (no_blocks (d ∷ ds) e es n) (both_defaults (d ∷ ds) (e ∷ es)) refl

-- what is found there
blocks_in : (file : Text) (e : ℕ) (es : Text) (rest : List Row) → (e == 45) ≡ false → (e == 43) ≡ false
    → blocks_of (file_row file ∷ blocks_row (e ∷ es) ∷ rest) ≡ number_in 1 65536 (e ∷ es)
blocks_in file e es rest hyphen plus = simp hyphen (simp plus)

made_by : (file : Text) (blocks : ℕ) (rows : List Row) → file_of rows ≡ Some file → blocks_of rows ≡ Some blocks → has_force rows ≡ false
    → make_of rows ≡ Some (make file blocks false)
made_by file blocks rows p q r = rw (r, p, q) refl

asks : (words : List Text) (w : Walk) (rows : List Row) → walk make_shape.rules [] nothing_held words ≡ w → finished make_shape.rules w.held ≡ rows
    → asked_in (entered (built program_app) (Some (codes "make", words))) ≡ make_of rows
asks words w rows is found = make_asks words ∙ (ap (λ (v : Walk). make_of (finished make_shape.rules v.held)) is ∙ ap make_of found)

-- its plain words ask for the image, and are not refused
pub make_asked : (file : Text) (blocks : ℕ) (words : List Text) → AsksPlainly (make file blocks false) words
    → (asked_for words ≡ Some (make file blocks false)) × (fault_of program_app words ≡ [])
make_asked [] blocks words plain = absurd (true≢false (sym plain.3))
make_asked (d ∷ ds) blocks words plain =
    let n = number_is_in 1 65536 blocks plain.1 (omega arith) plain.4 in
    let hyphen : (d == 45) ≡ false = not-true (d == 45) plain.3 in
    let is : words ≡ plain.0 ∷ codes "make" ∷ (d ∷ ds) ∷ (n.0 ∷ n.1) ∷ [] = plain.2 ∙ ap (λ (b : Text). plain.0 ∷ codes "make" ∷ (d ∷ ds) ∷ b ∷ []) n.2 in
    let second : number_in 1 65536 (n.0 ∷ n.1) ≡ Some blocks = ap (number_in 1 65536) (sym n.2) ∙ plain.4 in (
      ap asked_for is ∙ ((make_enters (d ∷ ds) (n.0 ∷ n.1) plain.0).0
          ∙ (asks ((d ∷ ds) ∷ (n.0 ∷ n.1) ∷ []) (behind_blocks (d ∷ ds) (n.0 ∷ n.1)) (file_row (d ∷ ds) ∷ blocks_row (n.0 ∷ n.1) ∷ no_force_row ∷ [])
          (both d ds n.0 n.1 hyphen n.3.hyphen) (both_found (d ∷ ds) (n.0 ∷ n.1))
          ∙ made_by (d ∷ ds) blocks (file_row (d ∷ ds) ∷ blocks_row (n.0 ∷ n.1) ∷ no_force_row ∷ []) refl
          (blocks_in (d ∷ ds) n.0 n.1 (no_force_row ∷ []) n.3.hyphen n.3.plus ∙ second) refl)),
      ap (fault_of program_app) is ∙ ((make_enters (d ∷ ds) (n.0 ∷ n.1) plain.0).1
          ∙ ap (λ (k : Kinds). or_else k []) (make_level ((d ∷ ds) ∷ (n.0 ∷ n.1) ∷ []) ∙ both_faults d ds n.0 n.1 hyphen n.3)),
    )
