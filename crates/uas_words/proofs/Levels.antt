-- What a subcommand's words are refused for, part by part of their parse. Cited for the subcommands that are too long to compute at once.
use Rattle.std.proofs.Common.{◌≡◌, false, List, [], ◌∷◌, Some}
use Rattle.clap.specs.Words.{Kinds, Text, fault_of}
use Rattle.clap.specs.Faults.{check_fault, defaults_fault, entered_fault, level_fault, settle_fault, walk_fault}
use Rattle.clap.specs.Kinds.{or_else}
use Rattle.clap.specs.Simple.{Shape, built, entered}
use Rattle.clap.specs.Walk.{finished, nothing_held, settled, walk, walk_from}
use Rattle.uas_words.specs.CommandLine.{asked_for, asked_in}
use Rattle.uas_words.specs.Subcommands.{program_app}

-- the words after the name of a subcommand are its own
abbrev pub Enters : Text → List Text → Type 0
Enters name words = (p : Text) → (asked_for (p ∷ name ∷ words) ≡ asked_in (entered (built program_app) (Some (name, words))))
    × (fault_of program_app (p ∷ name ∷ words) ≡ or_else (entered_fault (built program_app) (Some (name, words))) [])

nothing : (a b c d : Kinds) → a ≡ [] → b ≡ [] → c ≡ [] → d ≡ [] → or_else a (or_else [] (or_else b (or_else c d))) ≡ []
nothing a b c d p q r t = simp (p, q, r, t)

-- what follows the name of a subcommand is not refused where no part of its parse is
pub level_nothing : (s : Shape) (words : List Text) → walk_fault s [] (walk_from nothing_held) words ≡ []
    → settle_fault s.rules s.args_override_self (walk s.rules [] nothing_held words).held ≡ []
    → defaults_fault (settled s.rules (walk s.rules [] nothing_held words).held).rows s.rules ≡ []
    → check_fault s (finished s.rules (walk s.rules [] nothing_held words).held) false ≡ []
    → level_fault s [] nothing_held words false [] ≡ []
level_nothing s words p q r t = nothing _ _ _ _ p q r t
