-- What the plain command lines ask for that let clients work. Each word is one step of the walk from a place that is written out, so that no
-- lemma computes a whole line.
use Rattle.std.proofs.Common.{◌≡◌, ◌∙◌, ℕ, ◌==◌, false, true≢false, List, [], ◌∷◌, Option, Some, None}
use Rattle.std.proofs.Common.{refl, ap, ap₂, sym, arith}
use Rattle.std.specs.Prelude.{codes}
use Rattle.clap.specs.Words.{Kinds, Row, Text, fault_of}
use Rattle.clap.proofs.OnLiterals.{clap_on_literals}
use Rattle.clap.specs.Faults.{defaults_fault, entered_fault, level_fault, settle_fault, walk_fault}
use Rattle.clap.specs.Kinds.{or_else}
use Rattle.clap.specs.Simple.{Shape, built, entered, label_of}
use Rattle.clap.specs.Walk.{Walk, answers_to, finished, nothing_held, rows_after, settled, walk, walk_from, walked}
use Rattle.clap.specs.declared.builder.value_parser.Reading.TheVariants.{AsWritten, WithoutMinus}
use Rattle.clap.specs.declared.parser.matches.ValueSource.TheVariants.{CommandLine}
use Rattle.std.specs.Option.{option_map_or}
use Rattle.std.specs.Prelude.{find}
use Rattle.uas_profile.specs.declared.TheConstants.{MAX_CLIENTS, TAGS, USUAL_CLIENTS}
use Rattle.byte_io.specs.Words.{number_in}
use Rattle.uas_words.specs.CommandLine.{AsksWork, asked_for, asked_in, clients_of, depth_of, log_of, rounds_of, sync_of, tags_of, work, work_of}
use Rattle.uas_words.specs.Subcommands.{program_app}
use Rattle.uas_words.proofs.Levels.{Enters}
use Rattle.uas_words.proofs.Places.{clients_in, clients_row, ends, found, on, pending}
use Rattle.uas_words.proofs.PlainNumbers.{IsIn, clients_are_in, not-true, number_is_in}
use Rattle.uas_words.proofs.WalkSteps.{fault-end, fault-plain, standing, walked-plain}

-- the subcommand `work`, built
abbrev work_shape : Shape
work_shape = option_map_or (λ s. s) (find (λ s. answers_to (codes "work") (label_of s)) (built program_app).subs) (built program_app).top

work_enters : ((a b : Text) → Enters (codes "work") (a ∷ b ∷ [])) × ((a b c : Text) → Enters (codes "work") (a ∷ b ∷ c ∷ []))
unfolding asked_for clap_on_literals
work_enters = (λ a b p. (refl, refl), λ a b c p. (refl, refl))

work_asks : (words : List Text) → asked_in (entered (built program_app) (Some (codes "work", words))) ≡ work_of (rows_after work_shape.rules [] words)
work_asks words = refl

work_level : (words : List Text) → entered_fault (built program_app) (Some (codes "work", words)) ≡ level_fault work_shape [] nothing_held words false []
work_level words = refl

-- what is found, part by part, asks for clients that work
worked_by : (clients tags depth rounds : ℕ) (log : Option Text) (rows : List Row) → clients_of TAGS rows ≡ Some clients → rounds_of rows ≡ Some rounds
    → log_of rows ≡ log → sync_of rows ≡ Some None → tags_of rows ≡ Some TAGS → depth_of TAGS rows ≡ Some 1 → tags ≡ TAGS → depth ≡ 1
    → work_of rows ≡ Some (work clients tags depth rounds log)
worked_by clients tags depth rounds log rows p q l s u o t is = rw (u, p, o, q, l, s, t, is) refl

-- WHERE THE WALK STANDS

abbrev rounds_row : Text → Row
rounds_row word = found (codes "ROUNDS") WithoutMinus CommandLine word

abbrev log_row : Text → Row
log_row word = found (codes "LOG") AsWritten CommandLine word

abbrev numbers : Text → Text → List Row
numbers c r = clients_row c ∷ rounds_row r ∷ []

abbrev logged : Text → Text → Text → List Row
logged c r l = clients_row c ∷ rounds_row r ∷ log_row l ∷ []

abbrev behind_clients : Text → Walk
behind_clients c = standing (pending [] (codes "CLIENTS") (c ∷ [])) 2

abbrev behind_rounds : Text → Text → Walk
behind_rounds c r = standing (pending (clients_row c ∷ []) (codes "ROUNDS") (r ∷ [])) 3

abbrev behind_log : Text → Text → Text → Walk
behind_log c r l = standing (pending (numbers c r) (codes "LOG") (l ∷ [])) 4

abbrev plain_words : Text → Text → List Text
plain_words c r = c ∷ r ∷ []

abbrev log_words : Text → Text → Text → List Text
log_words c r l = c ∷ r ∷ l ∷ []

-- EACH WORD IS ONE STEP

to_clients : (d : ℕ) (ds : Text) → (d == 45) ≡ false → walked work_shape.rules [] (walk_from nothing_held) (d ∷ ds) ≡ behind_clients (d ∷ ds)
to_clients d ds hyphen = walked-plain d ds hyphen work_shape.rules nothing_held 1

to_rounds : (c : Text) (e : ℕ) (es : Text) → (e == 45) ≡ false → walked work_shape.rules [] (behind_clients c) (e ∷ es) ≡ behind_rounds c (e ∷ es)
to_rounds c e es hyphen = walked-plain e es hyphen work_shape.rules (behind_clients c).held 2

to_log : (c r : Text) (f : ℕ) (fs : Text) → (f == 45) ≡ false → walked work_shape.rules [] (behind_rounds c r) (f ∷ fs) ≡ behind_log c r (f ∷ fs)
to_log c r f fs plain = walked-plain f fs plain work_shape.rules (behind_rounds c r).held 3

plain_end : (d : ℕ) (ds : Text) (e : ℕ) (es : Text) → (d == 45) ≡ false → (e == 45) ≡ false
    → walk work_shape.rules [] nothing_held (plain_words (d ∷ ds) (e ∷ es)) ≡ behind_rounds (d ∷ ds) (e ∷ es)
plain_end d ds e es hyphen hyphen' = ap (λ (w : Walk). walked work_shape.rules [] w (e ∷ es)) (to_clients d ds hyphen) ∙ to_rounds (d ∷ ds) e es hyphen'

log_end : (d : ℕ) (ds : Text) (e : ℕ) (es : Text) (f : ℕ) (fs : Text) → (d == 45) ≡ false → (e == 45) ≡ false → (f == 45) ≡ false
    → walk work_shape.rules [] nothing_held (log_words (d ∷ ds) (e ∷ es) (f ∷ fs)) ≡ behind_log (d ∷ ds) (e ∷ es) (f ∷ fs)
log_end d ds e es f fs hyphen hyphen' plain =
    ap (λ (w : Walk). walked work_shape.rules [] w (f ∷ fs)) (plain_end d ds e es hyphen hyphen') ∙ to_log (d ∷ ds) (e ∷ es) f fs plain

plain_found : (c r : Text) → finished work_shape.rules (behind_rounds c r).held ≡ numbers c r
plain_found c r = refl

log_found : (c r l : Text) → finished work_shape.rules (behind_log c r l).held ≡ logged c r l
log_found c r l = refl

-- what is asked for there
asks : (words : List Text) (w : Walk) (rows : List Row) → walk work_shape.rules [] nothing_held words ≡ w → finished work_shape.rules w.held ≡ rows
    → asked_in (entered (built program_app) (Some (codes "work", words))) ≡ work_of rows
asks words w rows is found = work_asks words ∙ (ap (λ (v : Walk). work_of (finished work_shape.rules v.held)) is ∙ ap work_of found)

rounds_in : (c : Text) (e : ℕ) (es : Text) (rest : List Row) → (e == 45) ≡ false → (e == 43) ≡ false
    → rounds_of (clients_row c ∷ rounds_row (e ∷ es) ∷ rest) ≡ number_in 1 1000 (e ∷ es)
rounds_in c e es rest hyphen plus = simp hyphen (simp plus)

-- NOTHING IS REFUSED

no_clients : (d : ℕ) (ds : Text) → IsIn 1 MAX_CLIENTS d ds → settle_fault work_shape.rules work_shape.args_override_self (behind_clients (d ∷ ds)).held ≡ []
no_clients d ds m = simp (m.hyphen, m.plus, m.some, m.first, m.rest, m.fits, m.low, m.high)

no_rounds : (c : Text) (e : ℕ) (es : Text) → IsIn 1 1000 e es → settle_fault work_shape.rules work_shape.args_override_self (behind_rounds c (e ∷ es)).held ≡ []
no_rounds c e es n = simp (n.hyphen, n.plus, n.some, n.first, n.rest, n.fits, n.low, n.high)

from_clients : (d : ℕ) (ds : Text) (rest : List Text) → (d == 45) ≡ false
    → walk_fault work_shape [] (walk_from nothing_held) ((d ∷ ds) ∷ rest) ≡ walk_fault work_shape [] (behind_clients (d ∷ ds)) rest
from_clients d ds rest hyphen = fault-plain d ds hyphen work_shape nothing_held 1 rest

from_rounds : (d : ℕ) (ds : Text) (e : ℕ) (es : Text) (rest : List Text) → IsIn 1 MAX_CLIENTS d ds → (e == 45) ≡ false
    → walk_fault work_shape [] (behind_clients (d ∷ ds)) ((e ∷ es) ∷ rest) ≡ walk_fault work_shape [] (behind_rounds (d ∷ ds) (e ∷ es)) rest
from_rounds d ds e es rest m hyphen = fault-plain e es hyphen work_shape (behind_clients (d ∷ ds)).held 2 rest
    ∙ on (settle_fault work_shape.rules work_shape.args_override_self (behind_clients (d ∷ ds)).held)
    (walk_fault work_shape [] (behind_rounds (d ∷ ds) (e ∷ es)) rest) (no_clients d ds m)

from_log : (c : Text) (e : ℕ) (es : Text) (f : ℕ) (fs : Text) (rest : List Text) → IsIn 1 1000 e es → (f == 45) ≡ false
    → walk_fault work_shape [] (behind_rounds c (e ∷ es)) ((f ∷ fs) ∷ rest) ≡ walk_fault work_shape [] (behind_log c (e ∷ es) (f ∷ fs)) rest
from_log c e es f fs rest n plain = fault-plain f fs plain work_shape (behind_rounds c (e ∷ es)).held 3 rest
    ∙ on (settle_fault work_shape.rules work_shape.args_override_self (behind_rounds c (e ∷ es)).held)
    (walk_fault work_shape [] (behind_log c (e ∷ es) (f ∷ fs)) rest) (no_rounds c e es n)

plain_defaults : (c r : Text) → defaults_fault (settled work_shape.rules (behind_rounds c r).held).rows work_shape.rules ≡ []
unfolding defaults_fault
plain_defaults c r = refl

log_defaults : (c r l : Text) → defaults_fault (settled work_shape.rules (behind_log c r l).held).rows work_shape.rules ≡ []
unfolding defaults_fault
log_defaults c r l = refl

plain_faults : (d : ℕ) (ds : Text) (e : ℕ) (es : Text) → IsIn 1 MAX_CLIENTS d ds → IsIn 1 1000 e es
    → level_fault work_shape [] nothing_held (plain_words (d ∷ ds) (e ∷ es)) false [] ≡ []
plain_faults d ds e es m n = ends work_shape (plain_words (d ∷ ds) (e ∷ es)) (behind_rounds (d ∷ ds) (e ∷ es)) (plain_end d ds e es m.hyphen n.hyphen)
    (from_clients d ds ((e ∷ es) ∷ []) m.hyphen ∙ (from_rounds d ds e es [] m n.hyphen ∙ fault-end work_shape (behind_rounds (d ∷ ds) (e ∷ es))))
    (no_rounds (d ∷ ds) e es n) (plain_defaults (d ∷ ds) (e ∷ es)) refl

log_faults : (d : ℕ) (ds : Text) (e : ℕ) (es : Text) (f : ℕ) (fs : Text) → IsIn 1 MAX_CLIENTS d ds → IsIn 1 1000 e es → (f == 45) ≡ false
    → level_fault work_shape [] nothing_held (log_words (d ∷ ds) (e ∷ es) (f ∷ fs)) false [] ≡ []
log_faults d ds e es f fs m n plain =
    ends work_shape (log_words (d ∷ ds) (e ∷ es) (f ∷ fs)) (behind_log (d ∷ ds) (e ∷ es) (f ∷ fs)) (log_end d ds e es f fs m.hyphen n.hyphen plain)
    (from_clients d ds ((e ∷ es) ∷ (f ∷ fs) ∷ []) m.hyphen ∙ (from_rounds d ds e es ((f ∷ fs) ∷ []) m n.hyphen
    ∙ (from_log (d ∷ ds) e es f fs [] n plain ∙ fault-end work_shape (behind_log (d ∷ ds) (e ∷ es) (f ∷ fs)))))
    refl (log_defaults (d ∷ ds) (e ∷ es) (f ∷ fs)) refl

-- WHAT THEY ASK FOR

-- the plain words of clients that work ask for that, and are not refused
pub work_asked : (clients tags depth rounds : ℕ) (log : Option Text) (words : List Text) → AsksWork clients tags depth rounds log words
    → (asked_for words ≡ Some (work clients tags depth rounds log)) × (fault_of program_app words ≡ [])
work_asked clients tags depth rounds None words plain =
    let m = clients_are_in clients plain.1 plain.4 in
    let n = number_is_in 1 1000 rounds plain.2 (omega arith) plain.5 in
    let is : words ≡ plain.0 ∷ codes "work" ∷ plain_words (m.0 ∷ m.1) (n.0 ∷ n.1) =
    plain.3 ∙ ap₂ (λ (a b : Text). plain.0 ∷ codes "work" ∷ a ∷ b ∷ []) m.2 n.2 in (
      ap asked_for is ∙ ((work_enters.0 (m.0 ∷ m.1) (n.0 ∷ n.1) plain.0).0 ∙ (asks (plain_words (m.0 ∷ m.1) (n.0 ∷ n.1)) (behind_rounds (m.0 ∷ m.1) (n.0 ∷ n.1)) (numbers (m.0 ∷ m.1) (n.0 ∷ n.1)) (plain_end m.0 m.1 n.0 n.1 m.3.hyphen n.3.hyphen) (plain_found (m.0 ∷ m.1) (n.0 ∷ n.1))
          ∙ worked_by clients tags depth rounds None (numbers (m.0 ∷ m.1) (n.0 ∷ n.1))
          (clients_in m.0 m.1 (rounds_row (n.0 ∷ n.1) ∷ []) m.3.hyphen m.3.plus ∙ (ap (number_in 1 USUAL_CLIENTS) (sym m.2) ∙ plain.4))
          (rounds_in (m.0 ∷ m.1) n.0 n.1 [] n.3.hyphen n.3.plus ∙ (ap (number_in 1 1000) (sym n.2) ∙ plain.5))
          refl refl refl refl plain.6 plain.7)),
      ap (fault_of program_app) is ∙ ((work_enters.0 (m.0 ∷ m.1) (n.0 ∷ n.1) plain.0).1
          ∙ ap (λ (k : Kinds). or_else k []) (work_level (plain_words (m.0 ∷ m.1) (n.0 ∷ n.1)) ∙ plain_faults m.0 m.1 n.0 n.1 m.3 n.3)),
    )
work_asked clients tags depth rounds (Some []) words plain = absurd (true≢false (sym plain.4))
work_asked clients tags depth rounds (Some (f ∷ fs)) words plain =
    let m = clients_are_in clients plain.1 plain.5 in
    let n = number_is_in 1 1000 rounds plain.2 (omega arith) plain.6 in
    let hyphen : (f == 45) ≡ false = not-true (f == 45) plain.4 in
    let is : words ≡ plain.0 ∷ codes "work" ∷ log_words (m.0 ∷ m.1) (n.0 ∷ n.1) (f ∷ fs) =
    plain.3 ∙ ap₂ (λ (a b : Text). plain.0 ∷ codes "work" ∷ a ∷ b ∷ (f ∷ fs) ∷ []) m.2 n.2 in (
      ap asked_for is ∙ ((work_enters.1 (m.0 ∷ m.1) (n.0 ∷ n.1) (f ∷ fs) plain.0).0 ∙ (asks (log_words (m.0 ∷ m.1) (n.0 ∷ n.1) (f ∷ fs)) (behind_log (m.0 ∷ m.1) (n.0 ∷ n.1) (f ∷ fs)) (logged (m.0 ∷ m.1) (n.0 ∷ n.1) (f ∷ fs)) (log_end m.0 m.1 n.0 n.1 f fs m.3.hyphen n.3.hyphen hyphen) (log_found (m.0 ∷ m.1) (n.0 ∷ n.1) (f ∷ fs))
          ∙ worked_by clients tags depth rounds (Some (f ∷ fs)) (logged (m.0 ∷ m.1) (n.0 ∷ n.1) (f ∷ fs))
          (clients_in m.0 m.1 (rounds_row (n.0 ∷ n.1) ∷ log_row (f ∷ fs) ∷ []) m.3.hyphen m.3.plus ∙ (ap (number_in 1 USUAL_CLIENTS) (sym m.2) ∙ plain.5))
          (rounds_in (m.0 ∷ m.1) n.0 n.1 (log_row (f ∷ fs) ∷ []) n.3.hyphen n.3.plus ∙ (ap (number_in 1 1000) (sym n.2) ∙ plain.6))
          refl refl refl refl plain.7 plain.8)),
      ap (fault_of program_app) is ∙ ((work_enters.1 (m.0 ∷ m.1) (n.0 ∷ n.1) (f ∷ fs) plain.0).1
          ∙ ap (λ (k : Kinds). or_else k []) (work_level (log_words (m.0 ∷ m.1) (n.0 ∷ n.1) (f ∷ fs)) ∙ log_faults m.0 m.1 n.0 n.1 f fs m.3 n.3 hyphen)),
    )
