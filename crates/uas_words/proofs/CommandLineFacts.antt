-- The program's command, its matches and its refusals, as the words' parser tells them.
use Rattle.std.proofs.Common.{◌≡◌, ◌∙◌, ◌&&◌, Bool, true, false, not, List, [], ◌∷◌, Option, Some, None, Result, option_map, is_some, if◌then◌else◌}
use Rattle.std.proofs.Common.{refl, ap, ap₂, sym, subst, inl, inr}
use Rattle.std.specs.Prelude.{codes}
use Rattle.clap.specs.Words.{App, Row, AddsSubcommand, FailsBy, app_of, with_subcommand, HasKind, HasMatchesOf, IsAmong, Kinds, Text, fault_of, is_simple, is_simple_and_free, subcommand_of}
use Rattle.clap.specs.Words.{subcommand_rows_of}
use Rattle.clap.specs.Kinds.{or_else}
use Rattle.clap.specs.declared.builder.command.Command.{Command}
use Rattle.clap.specs.declared.error.Error.{Error}
use Rattle.clap.specs.declared.error.kind.ErrorKind.{ErrorKind}
use Rattle.clap.specs.declared.error.kind.ErrorKind.TheVariants.{ValueValidation}
use Rattle.clap.specs.declared.parser.matches.ArgMatches.{ArgMatches}
use Rattle.clap.proofs.OnLiterals.{clap_on_literals}
use Rattle.uas_words.specs.CommandLine.{Asked, asked_for, asked_in, asked_of, file_of, info, refusals}
use Rattle.uas_words.specs.Subcommands.{program_app}

-- the third of the tests that a plain command passes
third_fails : (a b c d : Bool) → (a && (b && (not c && d))) ≡ true → c ≡ false
third_fails false b c d passes = cc
third_fails true false c d passes = cc
third_fails true true false d passes = refl
third_fails true true true d passes = cc

-- what a command is with a plain subcommand
pub with_plain : (old sub new : Command) → (app_of sub).top.is_plain ≡ true → AddsSubcommand old sub new
    → app_of new ≡ with_subcommand (app_of old) (app_of sub).top
with_plain old sub new plain adds = adds.shape (third_fails _ _ _ _ plain)

-- the same where both commands are known
pub added : (old sub new : Command) (before mine : App) → app_of old ≡ before → app_of sub ≡ mine → mine.top.is_plain ≡ true → AddsSubcommand old sub new
    → app_of new ≡ with_subcommand before mine.top
added old sub new before mine was is plain adds =
    with_plain old sub new (ap (λ (a : App). a.top.is_plain) is ∙ plain) adds ∙ ap₂ with_subcommand was (ap (λ (a : App). a.top) is)

-- a name and what stands with it, of what is found by both
pub both_found : {X Y A B : Type 0} (f : X → A) (h : X → A × B) → ((x : X) → f x ≡ (h x).0) → (o : Option X) (n : Y → A) (w : Y → B) (r : Option Y)
    → option_map n r ≡ option_map f o → option_map w r ≡ option_map (λ (p : A × B). p.1) (option_map h o)
    → option_map (λ y. (n y, w y)) r ≡ option_map h o
both_found f h same None n w None names rest = refl
both_found f h same None n w (Some y) names rest = cc
both_found f h same (Some x) n w None names rest = cc
both_found f h same (Some x) n w (Some y) names rest =
    let name : n y ≡ f x = cc in
    let other : w y ≡ (h x).1 = cc in
    ap (λ a. Some (a, w y)) (name ∙ same x) ∙ ap (λ b. Some ((h x).0, b)) other

-- what the subcommand of an image's size asks for
pub asked_of-info : (name : Text) (rows : List Row) → name ≡ codes "info" → asked_of name rows ≡ option_map info (file_of rows)
asked_of-info name rows is = subst (λ (t : Text). asked_of t rows ≡ option_map info (file_of rows)) (sym is) refl

program_is_simple : is_simple_and_free program_app ≡ true
unfolding clap_on_literals
program_is_simple = refl

program_has_matches : is_simple program_app ≡ true
unfolding clap_on_literals
program_has_matches = refl

-- what the matches ask for is what the words ask for
pub asked_in-matches : (app : App) (words : List Text) (m : ArgMatches) → app ≡ program_app → HasMatchesOf app words m
    → asked_in (subcommand_rows_of m) ≡ asked_for words
unfolding asked_for
asked_in-matches app words m is matches = ap asked_in ((matches (ap is_simple is ∙ program_has_matches)).1 ∙ ap (λ (a : App). subcommand_of a words) is)

-- the kinds of error, of the program's own command
pub fails_by_fault : {T : Type 0} (app : App) (words : List Text) (r : Result T Error) → app ≡ program_app
    → (is_simple_and_free app ≡ true → FailsBy (fault_of app words) r) → FailsBy (fault_of program_app words) r
fails_by_fault app words r is fails =
    subst (λ (a : App). FailsBy (fault_of a words) r) is (fails (ap is_simple_and_free is ∙ program_is_simple))

among_first : (k : ErrorKind) (xs ys : Kinds) → IsAmong k xs → IsAmong k (or_else xs ys)
among_first k [] ys among = absurd among
among_first k (x ∷ xs) ys among = among

-- an error of the parse is a refusal
pub refused_by_fault : (words : List Text) (e : Error) → HasKind (fault_of program_app words) e → HasKind (refusals words) e
unfolding refusals
refused_by_fault words e kind = elim kind [
  | inl memory ↦ inl memory
  | inr among ↦ inr (among_first _ _ _ among)
]

-- nothing is refused where the parse passes and a run is asked for
pub nothing_refused : (words : List Text) (asked : Asked) → fault_of program_app words ≡ [] → asked_for words ≡ Some asked → refusals words ≡ []
unfolding refusals
nothing_refused words asked passes is = ap (λ (kinds : Kinds). or_else kinds (if is_some (asked_for words) then [] else ValueValidation ∷ [])) passes
    ∙ ap (λ (o : Option Asked). if is_some o then [] else ValueValidation ∷ []) is

-- else a value is refused where the parse passes
pub value_refused : (words : List Text) → fault_of program_app words ≡ [] → asked_for words ≡ None → refusals words ≡ ValueValidation ∷ []
unfolding refusals
value_refused words passes is = ap (λ (kinds : Kinds). or_else kinds (if is_some (asked_for words) then [] else ValueValidation ∷ [])) passes
    ∙ ap (λ (o : Option Asked). if is_some o then [] else ValueValidation ∷ []) is
