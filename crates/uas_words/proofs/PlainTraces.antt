-- What the plain command lines ask for that show a run's steps.
use Rattle.std.proofs.Common.{◌≡◌, ◌∙◌, ℕ, ◌==◌, true, false, List, [], ◌∷◌, Option, Some, None}
use Rattle.std.proofs.Common.{option_map, refl, ap, ap₂, sym, arith}
use Rattle.std.specs.Prelude.{codes}
use Rattle.clap.specs.Words.{Kinds, Row, Text, fault_of}
use Rattle.clap.proofs.OnLiterals.{clap_on_literals}
use Rattle.clap.specs.Faults.{defaults_fault, entered_fault, level_fault, settle_fault, walk_fault}
use Rattle.clap.specs.Kinds.{or_else}
use Rattle.clap.specs.Simple.{Shape, built, entered, label_of}
use Rattle.clap.specs.Walk.{Walk, answers_to, finished, nothing_held, rows_after, settled, walk, walk_from, walked}
use Rattle.std.specs.Option.{option_map_or}
use Rattle.std.specs.Prelude.{find}
use Rattle.uas_profile.specs.declared.TheConstants.{MAX_CLIENTS, TAGS, USUAL_CLIENTS}
use Rattle.byte_io.specs.Words.{number_in}
use Rattle.uas_words.specs.CommandLine.{AsksScript, asked_for, asked_in, bad_of, blocks_of, clients_of, has_when, tags_of, trace, trace_of}
use Rattle.uas_words.specs.Subcommands.{program_app}
use Rattle.uas_words.proofs.Levels.{Enters}
use Rattle.uas_words.proofs.Places.{bad_in, bad_row, before_bad, behind_bad, blocks_in, blocks_row, clients_in, clients_row, ends, no_json_row, on, pending}
use Rattle.uas_words.proofs.PlainNumbers.{IsIn, clients_are_in, number_is_in}
use Rattle.uas_words.proofs.WalkSteps.{fault-bad, fault-end, fault-plain, fault-value, standing, walked-bad, walked-plain, walked-value}

-- the subcommand `trace`, built
abbrev trace_shape : Shape
trace_shape = option_map_or (λ s. s) (find (λ s. answers_to (codes "trace") (label_of s)) (built program_app).subs) (built program_app).top

trace_enters : ((a b : Text) → Enters (codes "trace") (a ∷ b ∷ [])) × ((a b c d : Text) → Enters (codes "trace") (a ∷ b ∷ c ∷ d ∷ []))
unfolding asked_for clap_on_literals
trace_enters = (λ a b p. (refl, refl), λ a b c d p. (refl, refl))

trace_asks : (words : List Text) → asked_in (entered (built program_app) (Some (codes "trace", words))) ≡ trace_of (rows_after trace_shape.rules [] words)
trace_asks words = refl

trace_level : (words : List Text) → entered_fault (built program_app) (Some (codes "trace", words)) ≡ level_fault trace_shape [] nothing_held words false []
trace_level words = refl

-- what is found, part by part, asks for a trace
traced_by : (clients tags blocks : ℕ) (bad : Option ℕ) (rows : List Row) → clients_of TAGS rows ≡ Some clients → blocks_of rows ≡ Some blocks
    → bad_of rows ≡ Some bad → has_when rows ≡ true → tags_of rows ≡ Some TAGS → tags ≡ TAGS → trace_of rows ≡ Some (trace clients tags blocks bad)
traced_by clients tags blocks bad rows p q r s u t = rw (s, u, p, q, r, t) refl

-- WHERE THE WALK STANDS

abbrev numbers : Text → Text → List Row
numbers c b = clients_row c ∷ blocks_row b ∷ []

abbrev plain_rows : Text → Text → List Row
plain_rows c b = clients_row c ∷ blocks_row b ∷ no_json_row ∷ []

abbrev bad_rows : Text → Text → Text → List Row
bad_rows c b l = clients_row c ∷ blocks_row b ∷ bad_row l ∷ no_json_row ∷ []

abbrev behind_clients : Text → Walk
behind_clients c = standing (pending [] (codes "CLIENTS") (c ∷ [])) 2

abbrev behind_blocks : Text → Text → Walk
behind_blocks c b = standing (pending (clients_row c ∷ []) (codes "BLOCKS") (b ∷ [])) 3

abbrev plain_words : Text → Text → List Text
plain_words c b = c ∷ b ∷ []

abbrev bad_words : Text → Text → Text → List Text
bad_words c b l = c ∷ b ∷ codes "--bad" ∷ l ∷ []

-- EACH WORD IS ONE STEP

to_clients : (d : ℕ) (ds : Text) → (d == 45) ≡ false → walked trace_shape.rules [] (walk_from nothing_held) (d ∷ ds) ≡ behind_clients (d ∷ ds)
to_clients d ds hyphen = walked-plain d ds hyphen trace_shape.rules nothing_held 1

to_blocks : (c : Text) (e : ℕ) (es : Text) → (e == 45) ≡ false → walked trace_shape.rules [] (behind_clients c) (e ∷ es) ≡ behind_blocks c (e ∷ es)
to_blocks c e es hyphen = walked-plain e es hyphen trace_shape.rules (behind_clients c).held 2

to_bad : (c b : Text) → walked trace_shape.rules [] (behind_blocks c b) (codes "--bad") ≡ before_bad (numbers c b) 3
to_bad c b = walked-bad trace_shape.rules (behind_blocks c b).held 3

to_lba : (rows : List Row) (f : ℕ) (fs : Text) → (f == 45) ≡ false → walked trace_shape.rules [] (before_bad rows 3) (f ∷ fs) ≡ behind_bad rows (f ∷ fs) 3
to_lba rows f fs hyphen = walked-value f fs hyphen trace_shape.rules (codes "bad") (before_bad rows 3).held 3

plain_end : (d : ℕ) (ds : Text) (e : ℕ) (es : Text) → (d == 45) ≡ false → (e == 45) ≡ false
    → walk trace_shape.rules [] nothing_held (plain_words (d ∷ ds) (e ∷ es)) ≡ behind_blocks (d ∷ ds) (e ∷ es)
plain_end d ds e es hyphen hyphen' = ap (λ (w : Walk). walked trace_shape.rules [] w (e ∷ es)) (to_clients d ds hyphen) ∙ to_blocks (d ∷ ds) e es hyphen'

bad_end : (d : ℕ) (ds : Text) (e : ℕ) (es : Text) (f : ℕ) (fs : Text) → (d == 45) ≡ false → (e == 45) ≡ false → (f == 45) ≡ false
    → walk trace_shape.rules [] nothing_held (bad_words (d ∷ ds) (e ∷ es) (f ∷ fs)) ≡ behind_bad (numbers (d ∷ ds) (e ∷ es)) (f ∷ fs) 3
bad_end d ds e es f fs hyphen hyphen' hyphen″ =
    ap (λ (w : Walk). walked trace_shape.rules [] (walked trace_shape.rules [] w (codes "--bad")) (f ∷ fs)) (plain_end d ds e es hyphen hyphen')
    ∙ (ap (λ (w : Walk). walked trace_shape.rules [] w (f ∷ fs)) (to_bad (d ∷ ds) (e ∷ es)) ∙ to_lba (numbers (d ∷ ds) (e ∷ es)) f fs hyphen″)

plain_found : (c b : Text) → finished trace_shape.rules (behind_blocks c b).held ≡ plain_rows c b
plain_found c b = refl

bad_found : (c b l : Text) → finished trace_shape.rules (behind_bad (numbers c b) l 3).held ≡ bad_rows c b l
bad_found c b l = refl

-- what is asked for there
asks : (words : List Text) (w : Walk) (rows : List Row) → walk trace_shape.rules [] nothing_held words ≡ w → finished trace_shape.rules w.held ≡ rows
    → asked_in (entered (built program_app) (Some (codes "trace", words))) ≡ trace_of rows
asks words w rows is found = trace_asks words ∙ (ap (λ (v : Walk). trace_of (finished trace_shape.rules v.held)) is ∙ ap trace_of found)

-- NOTHING IS REFUSED

no_clients : (d : ℕ) (ds : Text) → IsIn 1 MAX_CLIENTS d ds → settle_fault trace_shape.rules trace_shape.args_override_self (behind_clients (d ∷ ds)).held ≡ []
no_clients d ds m = simp (m.hyphen, m.plus, m.some, m.first, m.rest, m.fits, m.low, m.high)

no_blocks : (c : Text) (e : ℕ) (es : Text) → IsIn 1 65536 e es → settle_fault trace_shape.rules trace_shape.args_override_self (behind_blocks c (e ∷ es)).held ≡ []
no_blocks c e es n = simp (n.hyphen, n.plus, n.some, n.first, n.rest, n.fits, n.low, n.high)

no_bad : (c b : Text) (f : ℕ) (fs : Text) → IsIn 0 65535 f fs
    → settle_fault trace_shape.rules trace_shape.args_override_self (behind_bad (numbers c b) (f ∷ fs) 3).held ≡ []
no_bad c b f fs o = simp (o.hyphen, o.plus, o.some, o.first, o.rest, o.fits, o.low, o.high)

from_clients : (d : ℕ) (ds : Text) (rest : List Text) → (d == 45) ≡ false
    → walk_fault trace_shape [] (walk_from nothing_held) ((d ∷ ds) ∷ rest) ≡ walk_fault trace_shape [] (behind_clients (d ∷ ds)) rest
from_clients d ds rest hyphen = fault-plain d ds hyphen trace_shape nothing_held 1 rest

from_blocks : (d : ℕ) (ds : Text) (e : ℕ) (es : Text) (rest : List Text) → IsIn 1 MAX_CLIENTS d ds → (e == 45) ≡ false
    → walk_fault trace_shape [] (behind_clients (d ∷ ds)) ((e ∷ es) ∷ rest) ≡ walk_fault trace_shape [] (behind_blocks (d ∷ ds) (e ∷ es)) rest
from_blocks d ds e es rest m hyphen = fault-plain e es hyphen trace_shape (behind_clients (d ∷ ds)).held 2 rest
    ∙ on (settle_fault trace_shape.rules trace_shape.args_override_self (behind_clients (d ∷ ds)).held)
    (walk_fault trace_shape [] (behind_blocks (d ∷ ds) (e ∷ es)) rest) (no_clients d ds m)

from_bad : (c : Text) (e : ℕ) (es : Text) (rest : List Text) → IsIn 1 65536 e es
    → walk_fault trace_shape [] (behind_blocks c (e ∷ es)) (codes "--bad" ∷ rest) ≡ walk_fault trace_shape [] (before_bad (numbers c (e ∷ es)) 3) rest
from_bad c e es rest n = fault-bad trace_shape (behind_blocks c (e ∷ es)).held 3 rest
    ∙ on (or_else (settle_fault trace_shape.rules trace_shape.args_override_self (behind_blocks c (e ∷ es)).held) [])
    (walk_fault trace_shape [] (before_bad (numbers c (e ∷ es)) 3) rest) (ap (λ (k : Kinds). or_else k []) (no_blocks c e es n))

from_lba : (rows : List Row) (f : ℕ) (fs : Text) → (f == 45) ≡ false → walk_fault trace_shape [] (before_bad rows 3) ((f ∷ fs) ∷ []) ≡ []
from_lba rows f fs hyphen = fault-value f fs hyphen trace_shape (codes "bad") (before_bad rows 3).held 3 [] ∙ fault-end trace_shape (behind_bad rows (f ∷ fs) 3)

plain_defaults : (c b : Text) → defaults_fault (settled trace_shape.rules (behind_blocks c b).held).rows trace_shape.rules ≡ []
unfolding defaults_fault
plain_defaults c b = refl

bad_defaults : (c b l : Text) → defaults_fault (settled trace_shape.rules (behind_bad (numbers c b) l 3).held).rows trace_shape.rules ≡ []
unfolding defaults_fault
bad_defaults c b l = refl

plain_faults : (d : ℕ) (ds : Text) (e : ℕ) (es : Text) → IsIn 1 MAX_CLIENTS d ds → IsIn 1 65536 e es
    → level_fault trace_shape [] nothing_held (plain_words (d ∷ ds) (e ∷ es)) false [] ≡ []
plain_faults d ds e es m n = ends trace_shape (plain_words (d ∷ ds) (e ∷ es)) (behind_blocks (d ∷ ds) (e ∷ es)) (plain_end d ds e es m.hyphen n.hyphen)
    (from_clients d ds ((e ∷ es) ∷ []) m.hyphen ∙ (from_blocks d ds e es [] m n.hyphen ∙ fault-end trace_shape (behind_blocks (d ∷ ds) (e ∷ es))))
    (no_blocks (d ∷ ds) e es n) (plain_defaults (d ∷ ds) (e ∷ es)) refl

bad_faults : (d : ℕ) (ds : Text) (e : ℕ) (es : Text) (f : ℕ) (fs : Text) → IsIn 1 MAX_CLIENTS d ds → IsIn 1 65536 e es → IsIn 0 65535 f fs
    → level_fault trace_shape [] nothing_held (bad_words (d ∷ ds) (e ∷ es) (f ∷ fs)) false [] ≡ []
bad_faults d ds e es f fs m n o =
    ends trace_shape (bad_words (d ∷ ds) (e ∷ es) (f ∷ fs)) (behind_bad (numbers (d ∷ ds) (e ∷ es)) (f ∷ fs) 3) (bad_end d ds e es f fs m.hyphen n.hyphen o.hyphen)
    (from_clients d ds ((e ∷ es) ∷ codes "--bad" ∷ (f ∷ fs) ∷ []) m.hyphen ∙ (from_blocks d ds e es (codes "--bad" ∷ (f ∷ fs) ∷ []) m n.hyphen
    ∙ (from_bad (d ∷ ds) e es ((f ∷ fs) ∷ []) n ∙ from_lba (numbers (d ∷ ds) (e ∷ es)) f fs o.hyphen)))
    (no_bad (d ∷ ds) (e ∷ es) f fs o) (bad_defaults (d ∷ ds) (e ∷ es) (f ∷ fs)) refl

-- WHAT THEY ASK FOR

-- the plain words of a trace ask for it, and are not refused
pub trace_asked : (clients tags blocks : ℕ) (bad : Option ℕ) (words : List Text) → AsksScript (codes "trace") clients tags blocks bad words
    → (asked_for words ≡ Some (trace clients tags blocks bad)) × (fault_of program_app words ≡ [])
trace_asked clients tags blocks None words plain =
    let m = clients_are_in clients plain.1 plain.4 in
    let n = number_is_in 1 65536 blocks plain.2 (omega arith) plain.5 in
    let is : words ≡ plain.0 ∷ codes "trace" ∷ plain_words (m.0 ∷ m.1) (n.0 ∷ n.1) =
    plain.3 ∙ ap₂ (λ (a b : Text). plain.0 ∷ codes "trace" ∷ a ∷ b ∷ []) m.2 n.2 in (
      ap asked_for is ∙ ((trace_enters.0 (m.0 ∷ m.1) (n.0 ∷ n.1) plain.0).0 ∙ (asks (plain_words (m.0 ∷ m.1) (n.0 ∷ n.1)) (behind_blocks (m.0 ∷ m.1) (n.0 ∷ n.1)) (plain_rows (m.0 ∷ m.1) (n.0 ∷ n.1)) (plain_end m.0 m.1 n.0 n.1 m.3.hyphen n.3.hyphen) (plain_found (m.0 ∷ m.1) (n.0 ∷ n.1))
          ∙ traced_by clients tags blocks None (plain_rows (m.0 ∷ m.1) (n.0 ∷ n.1))
          (clients_in m.0 m.1 (blocks_row (n.0 ∷ n.1) ∷ no_json_row ∷ []) m.3.hyphen m.3.plus ∙ (ap (number_in 1 USUAL_CLIENTS) (sym m.2) ∙ plain.4))
          (blocks_in (m.0 ∷ m.1) n.0 n.1 (no_json_row ∷ []) n.3.hyphen n.3.plus ∙ (ap (number_in 1 65536) (sym n.2) ∙ plain.5))
          refl refl refl plain.6)),
      ap (fault_of program_app) is ∙ ((trace_enters.0 (m.0 ∷ m.1) (n.0 ∷ n.1) plain.0).1
          ∙ ap (λ (k : Kinds). or_else k []) (trace_level (plain_words (m.0 ∷ m.1) (n.0 ∷ n.1)) ∙ plain_faults m.0 m.1 n.0 n.1 m.3 n.3)),
    )
trace_asked clients tags blocks (Some bad) words plain =
    let m = clients_are_in clients plain.1 plain.5 in
    let n = number_is_in 1 65536 blocks plain.2 (omega arith) plain.6 in
    let o = number_is_in 0 65535 bad plain.3 (omega arith) plain.7 in
    let is : words ≡ plain.0 ∷ codes "trace" ∷ bad_words (m.0 ∷ m.1) (n.0 ∷ n.1) (o.0 ∷ o.1) =
    plain.4 ∙ (ap₂ (λ (a b : Text). plain.0 ∷ codes "trace" ∷ a ∷ b ∷ codes "--bad" ∷ plain.3 ∷ []) m.2 n.2
    ∙ ap (λ (c : Text). plain.0 ∷ codes "trace" ∷ (m.0 ∷ m.1) ∷ (n.0 ∷ n.1) ∷ codes "--bad" ∷ c ∷ []) o.2) in
    let third : option_map (λ k. Some k) (number_in 0 65535 (o.0 ∷ o.1)) ≡ Some (Some bad) =
    ap (option_map (λ k. Some k)) (ap (number_in 0 65535) (sym o.2) ∙ plain.7) in (
      ap asked_for is ∙ ((trace_enters.1 (m.0 ∷ m.1) (n.0 ∷ n.1) (codes "--bad") (o.0 ∷ o.1) plain.0).0 ∙ (asks (bad_words (m.0 ∷ m.1) (n.0 ∷ n.1) (o.0 ∷ o.1)) (behind_bad (numbers (m.0 ∷ m.1) (n.0 ∷ n.1)) (o.0 ∷ o.1) 3) (bad_rows (m.0 ∷ m.1) (n.0 ∷ n.1) (o.0 ∷ o.1)) (bad_end m.0 m.1 n.0 n.1 o.0 o.1 m.3.hyphen n.3.hyphen o.3.hyphen) (bad_found (m.0 ∷ m.1) (n.0 ∷ n.1) (o.0 ∷ o.1))
          ∙ traced_by clients tags blocks (Some bad) (bad_rows (m.0 ∷ m.1) (n.0 ∷ n.1) (o.0 ∷ o.1))
          (clients_in m.0 m.1 (blocks_row (n.0 ∷ n.1) ∷ bad_row (o.0 ∷ o.1) ∷ no_json_row ∷ []) m.3.hyphen m.3.plus ∙ (ap (number_in 1 USUAL_CLIENTS) (sym m.2) ∙ plain.5))
          (blocks_in (m.0 ∷ m.1) n.0 n.1 (bad_row (o.0 ∷ o.1) ∷ no_json_row ∷ []) n.3.hyphen n.3.plus ∙ (ap (number_in 1 65536) (sym n.2) ∙ plain.6))
          (bad_in o.0 o.1 (no_json_row ∷ []) o.3.hyphen o.3.plus ∙ third) refl refl plain.8)),
      ap (fault_of program_app) is ∙ ((trace_enters.1 (m.0 ∷ m.1) (n.0 ∷ n.1) (codes "--bad") (o.0 ∷ o.1) plain.0).1
          ∙ ap (λ (k : Kinds). or_else k []) (trace_level (bad_words (m.0 ∷ m.1) (n.0 ∷ n.1) (o.0 ∷ o.1)) ∙ bad_faults m.0 m.1 n.0 n.1 o.0 o.1 m.3 n.3 o.3)),
    )
