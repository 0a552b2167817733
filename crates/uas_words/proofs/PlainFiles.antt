-- What the plain command lines ask for that audit a log or capture a run.
use Rattle.std.proofs.Common.{◌≡◌, ◌∙◌, ℕ, ◌==◌, false, true≢false, List, [], ◌∷◌, Option, Some, None}
use Rattle.std.proofs.Common.{option_map, refl, ap, ap₂, sym, arith}
use Rattle.std.specs.Prelude.{codes}
use Rattle.clap.specs.Words.{Kinds, Row, Text, fault_of}
use Rattle.clap.proofs.OnLiterals.{clap_on_literals}
use Rattle.clap.specs.Faults.{defaults_fault, entered_fault, level_fault, settle_fault, walk_fault}
use Rattle.clap.specs.Kinds.{or_else}
use Rattle.clap.specs.Simple.{Shape, built, entered, label_of}
use Rattle.clap.specs.Walk.{Walk, answers_to, finished, nothing_held, rows_after, settled, walk, walk_from, walked}
use Rattle.clap.specs.declared.builder.value_parser.Reading.TheVariants.{AsWritten}
use Rattle.clap.specs.declared.parser.matches.ValueSource.TheVariants.{CommandLine}
use Rattle.std.specs.Option.{option_map_or}
use Rattle.std.specs.Prelude.{find}
use Rattle.uas_profile.specs.declared.TheConstants.{MAX_CLIENTS, TAGS, USUAL_CLIENTS}
use Rattle.byte_io.specs.Words.{number_in}
use Rattle.uas_words.specs.CommandLine.{AsksCapture, AsksPlainly, asked_for, asked_in, audit, hex_number, bad_of, blocks_of, capture}
use Rattle.uas_words.specs.CommandLine.{capture_of, clients_of, file_of, tags_of}
use Rattle.uas_words.specs.Subcommands.{program_app}
use Rattle.uas_words.proofs.Levels.{Enters}
use Rattle.uas_words.proofs.HexWords.{hex_begins}
use Rattle.uas_words.proofs.Places.{bad_in, bad_row, before_bad, behind_bad, blocks_in, blocks_row, clients_in, clients_row, ends, found, on, pending}
use Rattle.uas_words.proofs.PlainNumbers.{IsIn, clients_are_in, not-true, number_is_in}
use Rattle.uas_words.proofs.WalkSteps.{fault-bad, fault-end, fault-plain, fault-value, standing, walked-bad, walked-plain, walked-value}

-- AUDIT LOG, and --head HEX behind it

audit_asks : (p : Text) (d : ℕ) (ds : Text) → (d == 45) ≡ false → asked_for (p ∷ codes "audit" ∷ (d ∷ ds) ∷ []) ≡ Some (audit (d ∷ ds) None)
unfolding asked_for clap_on_literals
audit_asks p d ds plain = simp plain

audit_passes : (p : Text) (d : ℕ) (ds : Text) → (d == 45) ≡ false → fault_of program_app (p ∷ codes "audit" ∷ (d ∷ ds) ∷ []) ≡ []
unfolding clap_on_literals
audit_passes p d ds plain = simp plain

headed_asks : (p : Text) (d : ℕ) (ds : Text) (e : ℕ) (es : Text) → (d == 45) ≡ false → (e == 45) ≡ false
    → asked_for (p ∷ codes "audit" ∷ (d ∷ ds) ∷ codes "--head" ∷ (e ∷ es) ∷ [])
    ≡ option_map (audit (d ∷ ds)) (option_map (λ number. Some number) (hex_number (e ∷ es)))
unfolding asked_for clap_on_literals
headed_asks p d ds e es plain hyphen = simp (plain, hyphen)

headed_passes : (p : Text) (d : ℕ) (ds : Text) (e : ℕ) (es : Text) → (d == 45) ≡ false → (e == 45) ≡ false
    → fault_of program_app (p ∷ codes "audit" ∷ (d ∷ ds) ∷ codes "--head" ∷ (e ∷ es) ∷ []) ≡ []
unfolding clap_on_literals
headed_passes p d ds e es plain hyphen = simp (plain, hyphen)

-- its plain words ask for the audit, and are not refused
pub audit_asked : (log : Text) (head : Option ℕ) (words : List Text) → AsksPlainly (audit log head) words
    → (asked_for words ≡ Some (audit log head)) × (fault_of program_app words ≡ [])
audit_asked [] None words plain = absurd (true≢false (sym plain.2))
audit_asked [] (Some head) words plain = absurd (true≢false (sym plain.3))
audit_asked (d ∷ ds) None words plain =
    let hyphen : (d == 45) ≡ false = not-true (d == 45) plain.2 in (
      ap asked_for plain.1 ∙ audit_asks plain.0 d ds hyphen,
      ap (fault_of program_app) plain.1 ∙ audit_passes plain.0 d ds hyphen,
    )
audit_asked (d ∷ ds) (Some head) words plain =
    let n = hex_begins plain.1 head plain.4 in
    let hyphen : (d == 45) ≡ false = not-true (d == 45) plain.3 in
    let is : words ≡ plain.0 ∷ codes "audit" ∷ (d ∷ ds) ∷ codes "--head" ∷ (n.0 ∷ n.1) ∷ [] =
    plain.2 ∙ ap (λ (e : Text). plain.0 ∷ codes "audit" ∷ (d ∷ ds) ∷ codes "--head" ∷ e ∷ []) n.2 in
    let number : hex_number (n.0 ∷ n.1) ≡ Some head = ap hex_number (sym n.2) ∙ plain.4 in (
      ap asked_for is ∙ (headed_asks plain.0 d ds n.0 n.1 hyphen n.3
          ∙ ap (λ (found : Option ℕ). option_map (audit (d ∷ ds)) (option_map (λ one. Some one) found)) number),
      ap (fault_of program_app) is ∙ headed_passes plain.0 d ds n.0 n.1 hyphen n.3,
    )

-- CAPTURE CLIENTS BLOCKS FILE, and --bad LBA behind them

abbrev capture_shape : Shape
capture_shape = option_map_or (λ s. s) (find (λ s. answers_to (codes "capture") (label_of s)) (built program_app).subs) (built program_app).top

capture_enters : ((a b c : Text) → Enters (codes "capture") (a ∷ b ∷ c ∷ []))
    × ((a b c d e : Text) → Enters (codes "capture") (a ∷ b ∷ c ∷ d ∷ e ∷ []))
unfolding asked_for clap_on_literals
capture_enters = (λ a b c p. (refl, refl), λ a b c d e p. (refl, refl))

capture_rows_asked : (words : List Text)
    → asked_in (entered (built program_app) (Some (codes "capture", words))) ≡ capture_of (rows_after capture_shape.rules [] words)
capture_rows_asked words = refl

capture_level : (words : List Text)
    → entered_fault (built program_app) (Some (codes "capture", words)) ≡ level_fault capture_shape [] nothing_held words false []
capture_level words = refl

-- what is found for a capture, part by part, asks for it
captured_by : (clients tags blocks : ℕ) (file : Text) (bad : Option ℕ) (rows : List Row) → clients_of TAGS rows ≡ Some clients
    → blocks_of rows ≡ Some blocks → file_of rows ≡ Some file → bad_of rows ≡ Some bad → tags_of rows ≡ Some TAGS → tags ≡ TAGS
    → capture_of rows ≡ Some (capture clients tags blocks file bad)
captured_by clients tags blocks file bad rows p q f r u t = rw (f, u, p, q, r, t) refl

abbrev three : Text → Text → Text → List Text
three c b file = c ∷ b ∷ file ∷ []

abbrev five : Text → Text → Text → Text → List Text
five c b file l = c ∷ b ∷ file ∷ codes "--bad" ∷ l ∷ []

-- WHERE THE WALK STANDS

abbrev file_row : Text → Row
file_row word = found (codes "FILE") AsWritten CommandLine word

abbrev captured : Text → Text → Text → List Row
captured c b file = clients_row c ∷ blocks_row b ∷ file_row file ∷ []

abbrev behind_clients : Text → Walk
behind_clients c = standing (pending [] (codes "CLIENTS") (c ∷ [])) 2

abbrev behind_blocks : Text → Text → Walk
behind_blocks c b = standing (pending (clients_row c ∷ []) (codes "BLOCKS") (b ∷ [])) 3

abbrev behind_file : Text → Text → Text → Walk
behind_file c b file = standing (pending (clients_row c ∷ blocks_row b ∷ []) (codes "FILE") (file ∷ [])) 4

-- EACH WORD IS ONE STEP

to_clients : (d : ℕ) (ds : Text) → (d == 45) ≡ false → walked capture_shape.rules [] (walk_from nothing_held) (d ∷ ds) ≡ behind_clients (d ∷ ds)
to_clients d ds hyphen = walked-plain d ds hyphen capture_shape.rules nothing_held 1

to_blocks : (c : Text) (e : ℕ) (es : Text) → (e == 45) ≡ false → walked capture_shape.rules [] (behind_clients c) (e ∷ es) ≡ behind_blocks c (e ∷ es)
to_blocks c e es hyphen = walked-plain e es hyphen capture_shape.rules (behind_clients c).held 2

to_file : (c b : Text) (f : ℕ) (fs : Text) → (f == 45) ≡ false → walked capture_shape.rules [] (behind_blocks c b) (f ∷ fs) ≡ behind_file c b (f ∷ fs)
to_file c b f fs plain = walked-plain f fs plain capture_shape.rules (behind_blocks c b).held 3

to_bad : (c b file : Text) → walked capture_shape.rules [] (behind_file c b file) (codes "--bad") ≡ before_bad (captured c b file) 4
to_bad c b file = walked-bad capture_shape.rules (behind_file c b file).held 4

to_lba : (rows : List Row) (g : ℕ) (gs : Text) → (g == 45) ≡ false → walked capture_shape.rules [] (before_bad rows 4) (g ∷ gs) ≡ behind_bad rows (g ∷ gs) 4
to_lba rows g gs hyphen = walked-value g gs hyphen capture_shape.rules (codes "bad") (before_bad rows 4).held 4

three_end : (d : ℕ) (ds : Text) (e : ℕ) (es : Text) (f : ℕ) (fs : Text) → (d == 45) ≡ false → (e == 45) ≡ false → (f == 45) ≡ false
    → walk capture_shape.rules [] nothing_held (three (d ∷ ds) (e ∷ es) (f ∷ fs)) ≡ behind_file (d ∷ ds) (e ∷ es) (f ∷ fs)
three_end d ds e es f fs hyphen hyphen' plain =
    ap (λ (w : Walk). walked capture_shape.rules [] (walked capture_shape.rules [] w (e ∷ es)) (f ∷ fs)) (to_clients d ds hyphen)
    ∙ (ap (λ (w : Walk). walked capture_shape.rules [] w (f ∷ fs)) (to_blocks (d ∷ ds) e es hyphen') ∙ to_file (d ∷ ds) (e ∷ es) f fs plain)

five_end : (d : ℕ) (ds : Text) (e : ℕ) (es : Text) (f : ℕ) (fs : Text) (g : ℕ) (gs : Text) → (d == 45) ≡ false → (e == 45) ≡ false → (f == 45) ≡ false
    → (g == 45) ≡ false
    → walk capture_shape.rules [] nothing_held (five (d ∷ ds) (e ∷ es) (f ∷ fs) (g ∷ gs)) ≡ behind_bad (captured (d ∷ ds) (e ∷ es) (f ∷ fs)) (g ∷ gs) 4
five_end d ds e es f fs g gs hyphen hyphen' plain hyphen″ =
    ap (λ (w : Walk). walked capture_shape.rules [] (walked capture_shape.rules [] w (codes "--bad")) (g ∷ gs)) (three_end d ds e es f fs hyphen hyphen' plain)
    ∙ (ap (λ (w : Walk). walked capture_shape.rules [] w (g ∷ gs)) (to_bad (d ∷ ds) (e ∷ es) (f ∷ fs)) ∙ to_lba (captured (d ∷ ds) (e ∷ es) (f ∷ fs)) g gs hyphen″)

three_found : (c b file : Text) → finished capture_shape.rules (behind_file c b file).held ≡ captured c b file
three_found c b file = refl

five_found : (c b file l : Text) → finished capture_shape.rules (behind_bad (captured c b file) l 4).held
    ≡ clients_row c ∷ blocks_row b ∷ file_row file ∷ bad_row l ∷ []
five_found c b file l = refl

-- what is asked for there
asks : (words : List Text) (w : Walk) (rows : List Row) → walk capture_shape.rules [] nothing_held words ≡ w → finished capture_shape.rules w.held ≡ rows
    → asked_in (entered (built program_app) (Some (codes "capture", words))) ≡ capture_of rows
asks words w rows is found =
    capture_rows_asked words ∙ (ap (λ (v : Walk). capture_of (finished capture_shape.rules v.held)) is ∙ ap capture_of found)

-- NOTHING IS REFUSED

no_clients : (d : ℕ) (ds : Text) → IsIn 1 MAX_CLIENTS d ds → settle_fault capture_shape.rules capture_shape.args_override_self (behind_clients (d ∷ ds)).held ≡ []
no_clients d ds m = simp (m.hyphen, m.plus, m.some, m.first, m.rest, m.fits, m.low, m.high)

no_blocks : (c : Text) (e : ℕ) (es : Text) → IsIn 1 65536 e es → settle_fault capture_shape.rules capture_shape.args_override_self (behind_blocks c (e ∷ es)).held ≡ []
no_blocks c e es n = simp (n.hyphen, n.plus, n.some, n.first, n.rest, n.fits, n.low, n.high)

no_bad : (c b file : Text) (g : ℕ) (gs : Text) → IsIn 0 65535 g gs
    → settle_fault capture_shape.rules capture_shape.args_override_self (behind_bad (captured c b file) (g ∷ gs) 4).held ≡ []
no_bad c b file g gs o = simp (o.hyphen, o.plus, o.some, o.first, o.rest, o.fits, o.low, o.high)

from_clients : (d : ℕ) (ds : Text) (rest : List Text) → (d == 45) ≡ false
    → walk_fault capture_shape [] (walk_from nothing_held) ((d ∷ ds) ∷ rest) ≡ walk_fault capture_shape [] (behind_clients (d ∷ ds)) rest
from_clients d ds rest hyphen = fault-plain d ds hyphen capture_shape nothing_held 1 rest

from_blocks : (d : ℕ) (ds : Text) (e : ℕ) (es : Text) (rest : List Text) → IsIn 1 MAX_CLIENTS d ds → (e == 45) ≡ false
    → walk_fault capture_shape [] (behind_clients (d ∷ ds)) ((e ∷ es) ∷ rest) ≡ walk_fault capture_shape [] (behind_blocks (d ∷ ds) (e ∷ es)) rest
from_blocks d ds e es rest m hyphen = fault-plain e es hyphen capture_shape (behind_clients (d ∷ ds)).held 2 rest
    ∙ on (settle_fault capture_shape.rules capture_shape.args_override_self (behind_clients (d ∷ ds)).held)
    (walk_fault capture_shape [] (behind_blocks (d ∷ ds) (e ∷ es)) rest) (no_clients d ds m)

from_file : (c : Text) (e : ℕ) (es : Text) (f : ℕ) (fs : Text) (rest : List Text) → IsIn 1 65536 e es → (f == 45) ≡ false
    → walk_fault capture_shape [] (behind_blocks c (e ∷ es)) ((f ∷ fs) ∷ rest) ≡ walk_fault capture_shape [] (behind_file c (e ∷ es) (f ∷ fs)) rest
from_file c e es f fs rest n plain = fault-plain f fs plain capture_shape (behind_blocks c (e ∷ es)).held 3 rest
    ∙ on (settle_fault capture_shape.rules capture_shape.args_override_self (behind_blocks c (e ∷ es)).held)
    (walk_fault capture_shape [] (behind_file c (e ∷ es) (f ∷ fs)) rest) (no_blocks c e es n)

from_bad : (c b file : Text) (rest : List Text)
    → walk_fault capture_shape [] (behind_file c b file) (codes "--bad" ∷ rest) ≡ walk_fault capture_shape [] (before_bad (captured c b file) 4) rest
from_bad c b file rest = fault-bad capture_shape (behind_file c b file).held 4 rest

from_lba : (rows : List Row) (g : ℕ) (gs : Text) → (g == 45) ≡ false → walk_fault capture_shape [] (before_bad rows 4) ((g ∷ gs) ∷ []) ≡ []
from_lba rows g gs hyphen = fault-value g gs hyphen capture_shape (codes "bad") (before_bad rows 4).held 4 [] ∙ fault-end capture_shape (behind_bad rows (g ∷ gs) 4)

three_defaults : (c b file : Text) → defaults_fault (settled capture_shape.rules (behind_file c b file).held).rows capture_shape.rules ≡ []
unfolding defaults_fault
three_defaults c b file = refl

five_defaults : (c b file l : Text) → defaults_fault (settled capture_shape.rules (behind_bad (captured c b file) l 4).held).rows capture_shape.rules ≡ []
unfolding defaults_fault
five_defaults c b file l = refl

three_faults : (d : ℕ) (ds : Text) (e : ℕ) (es : Text) (f : ℕ) (fs : Text) → IsIn 1 MAX_CLIENTS d ds → IsIn 1 65536 e es → (f == 45) ≡ false
    → level_fault capture_shape [] nothing_held (three (d ∷ ds) (e ∷ es) (f ∷ fs)) false [] ≡ []
three_faults d ds e es f fs m n plain =
    ends capture_shape (three (d ∷ ds) (e ∷ es) (f ∷ fs)) (behind_file (d ∷ ds) (e ∷ es) (f ∷ fs)) (three_end d ds e es f fs m.hyphen n.hyphen plain)
    (from_clients d ds ((e ∷ es) ∷ (f ∷ fs) ∷ []) m.hyphen ∙ (from_blocks d ds e es ((f ∷ fs) ∷ []) m n.hyphen
    ∙ (from_file (d ∷ ds) e es f fs [] n plain ∙ fault-end capture_shape (behind_file (d ∷ ds) (e ∷ es) (f ∷ fs)))))
    refl (three_defaults (d ∷ ds) (e ∷ es) (f ∷ fs)) refl

five_faults : (d : ℕ) (ds : Text) (e : ℕ) (es : Text) (f : ℕ) (fs : Text) (g : ℕ) (gs : Text) → IsIn 1 MAX_CLIENTS d ds → IsIn 1 65536 e es
    → (f == 45) ≡ false → IsIn 0 65535 g gs → level_fault capture_shape [] nothing_held (five (d ∷ ds) (e ∷ es) (f ∷ fs) (g ∷ gs)) false [] ≡ []
five_faults d ds e es f fs g gs m n plain o =
    ends capture_shape (five (d ∷ ds) (e ∷ es) (f ∷ fs) (g ∷ gs)) (behind_bad (captured (d ∷ ds) (e ∷ es) (f ∷ fs)) (g ∷ gs) 4)
    (five_end d ds e es f fs g gs m.hyphen n.hyphen plain o.hyphen)
    (from_clients d ds ((e ∷ es) ∷ (f ∷ fs) ∷ codes "--bad" ∷ (g ∷ gs) ∷ []) m.hyphen
    ∙ (from_blocks d ds e es ((f ∷ fs) ∷ codes "--bad" ∷ (g ∷ gs) ∷ []) m n.hyphen ∙ (from_file (d ∷ ds) e es f fs (codes "--bad" ∷ (g ∷ gs) ∷ []) n plain
    ∙ (from_bad (d ∷ ds) (e ∷ es) (f ∷ fs) ((g ∷ gs) ∷ []) ∙ from_lba (captured (d ∷ ds) (e ∷ es) (f ∷ fs)) g gs o.hyphen))))
    (no_bad (d ∷ ds) (e ∷ es) (f ∷ fs) g gs o) (five_defaults (d ∷ ds) (e ∷ es) (f ∷ fs) (g ∷ gs)) refl

-- its plain words ask for the capture, and are not refused
pub capture_asked : (clients tags blocks : ℕ) (file : Text) (bad : Option ℕ) (words : List Text) → AsksCapture clients tags blocks file bad words
    → (asked_for words ≡ Some (capture clients tags blocks file bad)) × (fault_of program_app words ≡ [])
capture_asked clients tags blocks [] None words plain = absurd (true≢false (sym plain.4))
capture_asked clients tags blocks [] (Some bad) words plain = absurd (true≢false (sym plain.5))
capture_asked clients tags blocks (f ∷ fs) None words plain =
    let m = clients_are_in clients plain.1 plain.5 in
    let n = number_is_in 1 65536 blocks plain.2 (omega arith) plain.6 in
    let hyphen : (f == 45) ≡ false = not-true (f == 45) plain.4 in
    let is : words ≡ plain.0 ∷ codes "capture" ∷ three (m.0 ∷ m.1) (n.0 ∷ n.1) (f ∷ fs) =
    plain.3 ∙ ap₂ (λ (a b : Text). plain.0 ∷ codes "capture" ∷ a ∷ b ∷ (f ∷ fs) ∷ []) m.2 n.2 in (
      ap asked_for is ∙ ((capture_enters.0 (m.0 ∷ m.1) (n.0 ∷ n.1) (f ∷ fs) plain.0).0 ∙ (asks (three (m.0 ∷ m.1) (n.0 ∷ n.1) (f ∷ fs)) (behind_file (m.0 ∷ m.1) (n.0 ∷ n.1) (f ∷ fs)) (captured (m.0 ∷ m.1) (n.0 ∷ n.1) (f ∷ fs)) (three_end m.0 m.1 n.0 n.1 f fs m.3.hyphen n.3.hyphen hyphen) (three_found (m.0 ∷ m.1) (n.0 ∷ n.1) (f ∷ fs))
          ∙ captured_by clients tags blocks (f ∷ fs) None (captured (m.0 ∷ m.1) (n.0 ∷ n.1) (f ∷ fs))
          (clients_in m.0 m.1 (blocks_row (n.0 ∷ n.1) ∷ file_row (f ∷ fs) ∷ []) m.3.hyphen m.3.plus ∙ (ap (number_in 1 USUAL_CLIENTS) (sym m.2) ∙ plain.5))
          (blocks_in (m.0 ∷ m.1) n.0 n.1 (file_row (f ∷ fs) ∷ []) n.3.hyphen n.3.plus ∙ (ap (number_in 1 65536) (sym n.2) ∙ plain.6))
          refl refl refl plain.7)),
      ap (fault_of program_app) is ∙ ((capture_enters.0 (m.0 ∷ m.1) (n.0 ∷ n.1) (f ∷ fs) plain.0).1
          ∙ ap (λ (k : Kinds). or_else k []) (capture_level (three (m.0 ∷ m.1) (n.0 ∷ n.1) (f ∷ fs)) ∙ three_faults m.0 m.1 n.0 n.1 f fs m.3 n.3 hyphen)),
    )
capture_asked clients tags blocks (f ∷ fs) (Some bad) words plain =
    let m = clients_are_in clients plain.1 plain.6 in
    let n = number_is_in 1 65536 blocks plain.2 (omega arith) plain.7 in
    let o = number_is_in 0 65535 bad plain.3 (omega arith) plain.8 in
    let hyphen : (f == 45) ≡ false = not-true (f == 45) plain.5 in
    let is : words ≡ plain.0 ∷ codes "capture" ∷ five (m.0 ∷ m.1) (n.0 ∷ n.1) (f ∷ fs) (o.0 ∷ o.1) =
    plain.4 ∙ (ap₂ (λ (a b : Text). plain.0 ∷ codes "capture" ∷ a ∷ b ∷ (f ∷ fs) ∷ codes "--bad" ∷ plain.3 ∷ []) m.2 n.2
    ∙ ap (λ (c : Text). plain.0 ∷ codes "capture" ∷ (m.0 ∷ m.1) ∷ (n.0 ∷ n.1) ∷ (f ∷ fs) ∷ codes "--bad" ∷ c ∷ []) o.2) in
    let third : option_map (λ k. Some k) (number_in 0 65535 (o.0 ∷ o.1)) ≡ Some (Some bad) =
    ap (option_map (λ k. Some k)) (ap (number_in 0 65535) (sym o.2) ∙ plain.8) in (
      ap asked_for is ∙ ((capture_enters.1 (m.0 ∷ m.1) (n.0 ∷ n.1) (f ∷ fs) (codes "--bad") (o.0 ∷ o.1) plain.0).0
          ∙ (asks (five (m.0 ∷ m.1) (n.0 ∷ n.1) (f ∷ fs) (o.0 ∷ o.1)) (behind_bad (captured (m.0 ∷ m.1) (n.0 ∷ n.1) (f ∷ fs)) (o.0 ∷ o.1) 4) (clients_row (m.0 ∷ m.1) ∷ blocks_row (n.0 ∷ n.1) ∷ file_row (f ∷ fs) ∷ bad_row (o.0 ∷ o.1) ∷ []) (five_end m.0 m.1 n.0 n.1 f fs o.0 o.1 m.3.hyphen n.3.hyphen hyphen o.3.hyphen) (five_found (m.0 ∷ m.1) (n.0 ∷ n.1) (f ∷ fs) (o.0 ∷ o.1))
          ∙ captured_by clients tags blocks (f ∷ fs) (Some bad) (clients_row (m.0 ∷ m.1) ∷ blocks_row (n.0 ∷ n.1) ∷ file_row (f ∷ fs) ∷ bad_row (o.0 ∷ o.1) ∷ [])
          (clients_in m.0 m.1 (blocks_row (n.0 ∷ n.1) ∷ file_row (f ∷ fs) ∷ bad_row (o.0 ∷ o.1) ∷ []) m.3.hyphen m.3.plus ∙ (ap (number_in 1 USUAL_CLIENTS) (sym m.2) ∙ plain.6))
          (blocks_in (m.0 ∷ m.1) n.0 n.1 (file_row (f ∷ fs) ∷ bad_row (o.0 ∷ o.1) ∷ []) n.3.hyphen n.3.plus ∙ (ap (number_in 1 65536) (sym n.2) ∙ plain.7))
          refl
          (bad_in o.0 o.1 [] o.3.hyphen o.3.plus ∙ third) refl plain.9)),
      ap (fault_of program_app) is ∙ ((capture_enters.1 (m.0 ∷ m.1) (n.0 ∷ n.1) (f ∷ fs) (codes "--bad") (o.0 ∷ o.1) plain.0).1
          ∙ ap (λ (k : Kinds). or_else k []) (capture_level (five (m.0 ∷ m.1) (n.0 ∷ n.1) (f ∷ fs) (o.0 ∷ o.1)) ∙ five_faults m.0 m.1 n.0 n.1 f fs o.0 o.1 m.3 n.3 hyphen o.3)),
    )
