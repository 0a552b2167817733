-- What the plain command lines ask for.
use Rattle.std.proofs.Common.{◌≡◌, ◌∙◌, ℕ, ◌==◌, true, false, true≢false, List, [], ◌∷◌, Option, Some, None}
use Rattle.std.proofs.Common.{Result, Ok, Err, IfOk, option_map, refl, ap, ap₂, sym, subst, inl, inr, arith}
use Rattle.std.specs.Prelude.{codes, option_and_then, MatchResult}
use Rattle.clap.specs.Words.{FailsBy, HasKind, Kinds, Text, fault_of, kind_of}
use Rattle.clap.specs.declared.error.Error.{Error}
use Rattle.clap.specs.declared.error.kind.ErrorKind.TheVariants.{OutOfMemory}
use Rattle.clap.proofs.OnLiterals.{clap_on_literals}
use Rattle.clap.specs.Faults.{check_fault, defaults_fault, entered_fault, level_fault, settle_fault, walk_fault}
use Rattle.clap.specs.Kinds.{or_else}
use Rattle.clap.specs.Simple.{Shape, built, entered, label_of}
use Rattle.clap.specs.Walk.{answers_to, finished, nothing_held, settled, walk, walk_from}
use Rattle.std.specs.Option.{option_map_or}
use Rattle.std.specs.Prelude.{find}
use Rattle.uas_words.specs.declared.Run.{Run}
use Rattle.byte_io.specs.Words.{number_in}
use Rattle.uas_words.specs.CommandLine.{Asked, AsksPlainly, asked_by, asked_for, asked_in, extent_from, refusals}
use Rattle.uas_words.specs.Subcommands.{program_app}
use Rattle.uas_words.specs.CommandLine.{audit, capture, decode, draw, dump, fill, info, keep, make, page, replay, trace, work}
use Rattle.uas_words.proofs.Levels.{Enters, level_nothing}
use Rattle.uas_words.proofs.PlainFiles.{audit_asked, capture_asked}
use Rattle.uas_words.proofs.PlainScripts.{replay_asked}
use Rattle.uas_words.proofs.PlainMakes.{make_asked}
use Rattle.uas_words.proofs.PlainPages.{draw_asked, page_asked}
use Rattle.uas_words.proofs.PlainTraces.{trace_asked}
use Rattle.uas_words.proofs.PlainWork.{work_asked}
use Rattle.uas_words.proofs.PlainNumbers.{IsIn, not-true, number_is_in}
use Rattle.uas_words.proofs.CommandLineFacts.{nothing_refused}
use Rattle.uas_words.proofs.WalkSteps.{fault-end, fault-plain, walked-plain}

info_asks : (p : Text) (d : ℕ) (ds : Text) → (d == 45) ≡ false → asked_for (p ∷ codes "info" ∷ (d ∷ ds) ∷ []) ≡ Some (info (d ∷ ds))
unfolding asked_for clap_on_literals
info_asks p d ds plain = simp plain

info_passes : (p : Text) (d : ℕ) (ds : Text) → (d == 45) ≡ false → fault_of program_app (p ∷ codes "info" ∷ (d ∷ ds) ∷ []) ≡ []
unfolding clap_on_literals
info_passes p d ds plain = simp plain

decode_asks : (p : Text) → asked_for (p ∷ codes "decode" ∷ []) ≡ Some decode
unfolding asked_for clap_on_literals
decode_asks p = refl

decode_passes : (p : Text) → fault_of program_app (p ∷ codes "decode" ∷ []) ≡ []
unfolding clap_on_literals
decode_passes p = refl

dump_enters : (a b c : Text) → Enters (codes "dump") (a ∷ b ∷ c ∷ [])
unfolding asked_for clap_on_literals
dump_enters a b c p = (refl, refl)

fill_enters : (a b c d : Text) → Enters (codes "fill") (a ∷ b ∷ c ∷ d ∷ [])
unfolding asked_for clap_on_literals
fill_enters a b c d p = (refl, refl)

-- what is asked for of an extent, by its two numbers
extent-dumped : (file : Text) (lba count : Option ℕ)
    → option_map (λ extent. dump file extent.lba extent.count) (option_and_then (λ l. option_map (λ c. extent_from l c) count) lba)
    ≡ option_and_then (λ l. option_map (dump file l) count) lba
extent-dumped file None count = refl
extent-dumped file (Some l) None = refl
extent-dumped file (Some l) (Some c) = refl

extent-filled : (file : Text) (lba count byte : Option ℕ)
    → option_and_then (λ extent. option_map (fill file extent.lba extent.count) byte) (option_and_then (λ l. option_map (λ c. extent_from l c) count) lba)
    ≡ option_and_then (λ l. option_and_then (λ c. option_map (fill file l c) byte) count) lba
extent-filled file None count byte = refl
extent-filled file (Some l) None byte = refl
extent-filled file (Some l) (Some c) byte = refl

dump_rows : (d : ℕ) (ds : Text) (e : ℕ) (es : Text) (f : ℕ) (fs : Text) → (d == 45) ≡ false → (e == 45) ≡ false → (e == 43) ≡ false
    → (f == 45) ≡ false → (f == 43) ≡ false
    → asked_in (entered (built program_app) (Some (codes "dump", (d ∷ ds) ∷ (e ∷ es) ∷ (f ∷ fs) ∷ [])))
    ≡ option_and_then (λ lba. option_map (dump (d ∷ ds) lba) (number_in 1 128 (f ∷ fs))) (number_in 0 4294967295 (e ∷ es))
dump_rows d ds e es f fs plain hyphen plus hyphen' plus' =
    simp (walked-plain d ds plain, walked-plain e es hyphen, walked-plain f fs hyphen') (simp (hyphen, plus) (simp (hyphen', plus') (extent-dumped _ _ _)))

dump_faults : (d : ℕ) (ds : Text) (e : ℕ) (es : Text) (f : ℕ) (fs : Text) → (d == 45) ≡ false → IsIn 0 4294967295 e es → IsIn 1 128 f fs
    → entered_fault (built program_app) (Some (codes "dump", (d ∷ ds) ∷ (e ∷ es) ∷ (f ∷ fs) ∷ [])) ≡ []
unfolding defaults_fault
dump_faults d ds e es f fs plain m n =
    simp (walked-plain d ds plain, walked-plain e es m.hyphen, walked-plain f fs n.hyphen)
    (simp (fault-plain d ds plain, fault-plain e es m.hyphen, fault-plain f fs n.hyphen, fault-end)
    (simp (m.hyphen, m.plus, m.some, m.first, m.rest, m.fits, m.low, m.high) (simp (n.hyphen, n.plus, n.some, n.first, n.rest, n.fits, n.low, n.high))))

fill_rows : (d : ℕ) (ds : Text) (e : ℕ) (es : Text) (f : ℕ) (fs : Text) (h : ℕ) (hs : Text) → (d == 45) ≡ false
    → (e == 45) ≡ false → (e == 43) ≡ false → (f == 45) ≡ false → (f == 43) ≡ false → (h == 45) ≡ false → (h == 43) ≡ false
    → asked_in (entered (built program_app) (Some (codes "fill", (d ∷ ds) ∷ (e ∷ es) ∷ (f ∷ fs) ∷ (h ∷ hs) ∷ [])))
    ≡ option_and_then (λ lba. option_and_then (λ count. option_map (fill (d ∷ ds) lba count) (number_in 0 255 (h ∷ hs))) (number_in 1 128 (f ∷ fs)))
    (number_in 0 4294967295 (e ∷ es))
fill_rows d ds e es f fs h hs plain hyphen plus hyphen' plus' hyphen″ plus″ =
    simp (walked-plain d ds plain, walked-plain e es hyphen, walked-plain f fs hyphen', walked-plain h hs hyphen″)
    (simp hyphen (simp plus (simp hyphen' (simp plus' (simp hyphen″ (simp plus″ (extent-filled _ _ _ _)))))))

abbrev fill_shape : Shape
fill_shape = option_map_or (λ s. s) (find (λ s. answers_to (codes "fill") (label_of s)) (built program_app).subs) (built program_app).top

abbrev four : (d : ℕ) (ds : Text) (e : ℕ) (es : Text) (f : ℕ) (fs : Text) (h : ℕ) (hs : Text) → List Text
four d ds e es f fs h hs = (d ∷ ds) ∷ (e ∷ es) ∷ (f ∷ fs) ∷ (h ∷ hs) ∷ []

fill_walk : (d : ℕ) (ds : Text) (e : ℕ) (es : Text) (f : ℕ) (fs : Text) (h : ℕ) (hs : Text) → (d == 45) ≡ false
    → IsIn 0 4294967295 e es → IsIn 1 128 f fs → (h == 45) ≡ false → walk_fault fill_shape [] (walk_from nothing_held) (four d ds e es f fs h hs) ≡ []
fill_walk d ds e es f fs h hs plain m n hyphen =
    simp (fault-plain d ds plain) (simp (fault-plain e es m.hyphen) (simp (fault-plain f fs n.hyphen) (simp (fault-plain h hs hyphen) (simp fault-end
    (simp (m.hyphen, m.plus, m.some, m.first, m.rest, m.fits, m.low, m.high) (simp (n.hyphen, n.plus, n.some, n.first, n.rest, n.fits, n.low, n.high)))))))

fill_last : (d : ℕ) (ds : Text) (e : ℕ) (es : Text) (f : ℕ) (fs : Text) (h : ℕ) (hs : Text) → (d == 45) ≡ false
    → (e == 45) ≡ false → (f == 45) ≡ false → IsIn 0 255 h hs
    → settle_fault fill_shape.rules fill_shape.args_override_self (walk fill_shape.rules [] nothing_held (four d ds e es f fs h hs)).held ≡ []
fill_last d ds e es f fs h hs plain hyphen hyphen' o =
    simp (walked-plain d ds plain, walked-plain e es hyphen, walked-plain f fs hyphen', walked-plain h hs o.hyphen)
    (simp (o.hyphen, o.plus, o.some, o.first, o.rest, o.fits, o.low, o.high))

fill_defaults : (d : ℕ) (ds : Text) (e : ℕ) (es : Text) (f : ℕ) (fs : Text) (h : ℕ) (hs : Text) → (d == 45) ≡ false
    → (e == 45) ≡ false → (f == 45) ≡ false → (h == 45) ≡ false
    → defaults_fault (settled fill_shape.rules (walk fill_shape.rules [] nothing_held (four d ds e es f fs h hs)).held).rows fill_shape.rules ≡ []
unfolding defaults_fault
fill_defaults d ds e es f fs h hs plain hyphen hyphen' hyphen″ =
    simp (walked-plain d ds plain, walked-plain e es hyphen, walked-plain f fs hyphen', walked-plain h hs hyphen″)

fill_given : (d : ℕ) (ds : Text) (e : ℕ) (es : Text) (f : ℕ) (fs : Text) (h : ℕ) (hs : Text) → (d == 45) ≡ false
    → (e == 45) ≡ false → (f == 45) ≡ false → (h == 45) ≡ false
    → check_fault fill_shape (finished fill_shape.rules (walk fill_shape.rules [] nothing_held (four d ds e es f fs h hs)).held) false ≡ []
fill_given d ds e es f fs h hs plain hyphen hyphen' hyphen″ =
    simp (walked-plain d ds plain, walked-plain e es hyphen, walked-plain f fs hyphen', walked-plain h hs hyphen″)

fill_faults : (d : ℕ) (ds : Text) (e : ℕ) (es : Text) (f : ℕ) (fs : Text) (h : ℕ) (hs : Text) → (d == 45) ≡ false
    → IsIn 0 4294967295 e es → IsIn 1 128 f fs → IsIn 0 255 h hs
    → entered_fault (built program_app) (Some (codes "fill", (d ∷ ds) ∷ (e ∷ es) ∷ (f ∷ fs) ∷ (h ∷ hs) ∷ [])) ≡ []
fill_faults d ds e es f fs h hs plain m n o =
    level_nothing fill_shape (four d ds e es f fs h hs) (fill_walk d ds e es f fs h hs plain m n o.hyphen)
    (fill_last d ds e es f fs h hs plain m.hyphen n.hyphen o)
    (fill_defaults d ds e es f fs h hs plain m.hyphen n.hyphen o.hyphen) (fill_given d ds e es f fs h hs plain m.hyphen n.hyphen o.hyphen)

-- the program asks for what its words plainly ask for, and refuses nothing
pub plain_asks : (asked : Asked) (words : List Text) → AsksPlainly asked words → (asked_for words ≡ Some asked) × (fault_of program_app words ≡ [])
plain_asks (replay clients tags blocks bad) words plain = replay_asked clients tags blocks bad words plain
plain_asks (trace clients tags blocks bad) words plain = trace_asked clients tags blocks bad words plain
plain_asks (work clients tags depth rounds log) words plain = work_asked clients tags depth rounds log words plain
plain_asks (keep clients tags depth rounds log every) words plain = absurd plain
plain_asks decode words plain = (ap asked_for plain.1 ∙ decode_asks plain.0, ap (fault_of program_app) plain.1 ∙ decode_passes plain.0)
plain_asks (make file blocks true) words plain = absurd plain
plain_asks (make file blocks false) words plain = make_asked file blocks words plain
plain_asks (info []) words plain = absurd (true≢false (sym plain.2))
plain_asks (info (d ∷ ds)) words plain =
    let hyphen : (d == 45) ≡ false = not-true (d == 45) plain.2 in (
      ap asked_for plain.1 ∙ info_asks plain.0 d ds hyphen,
      ap (fault_of program_app) plain.1 ∙ info_passes plain.0 d ds hyphen,
    )
plain_asks (dump [] lba count) words plain = absurd (true≢false (sym plain.4))
plain_asks (dump (d ∷ ds) lba count) words plain =
    let m = number_is_in 0 4294967295 lba plain.1 (omega arith) plain.5 in
    let n = number_is_in 1 128 count plain.2 (omega arith) plain.6 in
    let hyphen : (d == 45) ≡ false = not-true (d == 45) plain.4 in
    let is : words ≡ plain.0 ∷ codes "dump" ∷ (d ∷ ds) ∷ (m.0 ∷ m.1) ∷ (n.0 ∷ n.1) ∷ [] =
    plain.3 ∙ ap₂ (λ (a b : Text). plain.0 ∷ codes "dump" ∷ (d ∷ ds) ∷ a ∷ b ∷ []) m.2 n.2 in
    let second : number_in 0 4294967295 (m.0 ∷ m.1) ≡ Some lba = ap (number_in 0 4294967295) (sym m.2) ∙ plain.5 in
    let third : number_in 1 128 (n.0 ∷ n.1) ≡ Some count = ap (number_in 1 128) (sym n.2) ∙ plain.6 in (
      ap asked_for is ∙ ((dump_enters (d ∷ ds) (m.0 ∷ m.1) (n.0 ∷ n.1) plain.0).0
          ∙ (dump_rows d ds m.0 m.1 n.0 n.1 hyphen m.3.hyphen m.3.plus n.3.hyphen n.3.plus
          ∙ (ap (option_and_then (λ first. option_map (dump (d ∷ ds) first) (number_in 1 128 (n.0 ∷ n.1)))) second
          ∙ ap (option_map (dump (d ∷ ds) lba)) third))),
      ap (fault_of program_app) is ∙ ((dump_enters (d ∷ ds) (m.0 ∷ m.1) (n.0 ∷ n.1) plain.0).1
          ∙ ap (λ (k : Kinds). or_else k []) (dump_faults d ds m.0 m.1 n.0 n.1 hyphen m.3 n.3)),
    )
plain_asks (fill [] lba count byte) words plain = absurd (true≢false (sym plain.5))
plain_asks (fill (d ∷ ds) lba count byte) words plain =
    let m = number_is_in 0 4294967295 lba plain.1 (omega arith) plain.6 in
    let n = number_is_in 1 128 count plain.2 (omega arith) plain.7 in
    let o = number_is_in 0 255 byte plain.3 (omega arith) plain.8 in
    let hyphen : (d == 45) ≡ false = not-true (d == 45) plain.5 in
    let is : words ≡ plain.0 ∷ codes "fill" ∷ (d ∷ ds) ∷ (m.0 ∷ m.1) ∷ (n.0 ∷ n.1) ∷ (o.0 ∷ o.1) ∷ [] =
    plain.4 ∙ (ap₂ (λ (a b : Text). plain.0 ∷ codes "fill" ∷ (d ∷ ds) ∷ a ∷ b ∷ plain.3 ∷ []) m.2 n.2
    ∙ ap (λ (c : Text). plain.0 ∷ codes "fill" ∷ (d ∷ ds) ∷ (m.0 ∷ m.1) ∷ (n.0 ∷ n.1) ∷ c ∷ []) o.2) in
    let second : number_in 0 4294967295 (m.0 ∷ m.1) ≡ Some lba = ap (number_in 0 4294967295) (sym m.2) ∙ plain.6 in
    let third : number_in 1 128 (n.0 ∷ n.1) ≡ Some count = ap (number_in 1 128) (sym n.2) ∙ plain.7 in
    let fourth : number_in 0 255 (o.0 ∷ o.1) ≡ Some byte = ap (number_in 0 255) (sym o.2) ∙ plain.8 in (
      ap asked_for is ∙ ((fill_enters (d ∷ ds) (m.0 ∷ m.1) (n.0 ∷ n.1) (o.0 ∷ o.1) plain.0).0
          ∙ (fill_rows d ds m.0 m.1 n.0 n.1 o.0 o.1 hyphen m.3.hyphen m.3.plus n.3.hyphen n.3.plus o.3.hyphen o.3.plus
          ∙ (ap (option_and_then (λ first. option_and_then (λ many. option_map (fill (d ∷ ds) first many) (number_in 0 255 (o.0 ∷ o.1)))
          (number_in 1 128 (n.0 ∷ n.1)))) second
          ∙ (ap (option_and_then (λ many. option_map (fill (d ∷ ds) lba many) (number_in 0 255 (o.0 ∷ o.1)))) third
          ∙ ap (option_map (fill (d ∷ ds) lba count)) fourth)))),
      ap (fault_of program_app) is ∙ ((fill_enters (d ∷ ds) (m.0 ∷ m.1) (n.0 ∷ n.1) (o.0 ∷ o.1) plain.0).1
          ∙ ap (λ (k : Kinds). or_else k []) (fill_faults d ds m.0 m.1 n.0 n.1 o.0 o.1 hyphen m.3 n.3 o.3)),
    )
plain_asks (audit log head) words plain = audit_asked log head words plain
plain_asks (draw clients tags blocks bad) words plain = draw_asked clients tags blocks bad words plain
plain_asks (page clients tags blocks bad) words plain = page_asked clients tags blocks bad words plain
plain_asks (capture clients tags blocks file bad) words plain = capture_asked clients tags blocks file bad words plain

-- a run that is plainly asked for is given, but for want of memory
pub plainly_given : (words : List Text) (r : Result Run Error) → IfOk r (λ run. asked_for words ≡ Some (asked_by run)) → FailsBy (refusals words) r
    → (asked : Asked) → AsksPlainly asked words → MatchResult r (λ run. asked_by run ≡ asked) (λ e. kind_of e ≡ OutOfMemory)
plainly_given words (Ok run) given fails asked plain =
    let wanted = (plain_asks asked words plain).0 in
    let same : Some (asked_by run) ≡ Some asked = sym given ∙ wanted in
    cc
plainly_given words (Err e) given fails asked plain =
    let both = plain_asks asked words plain in
    let kind : HasKind [] e = subst (λ (kinds : Kinds). HasKind kinds e) (nothing_refused words asked both.1 both.0) fails in
    elim kind [
      | inl memory ↦ memory
      | inr among ↦ absurd among
    ]
