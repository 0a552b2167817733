-- Where the walk over a subcommand's words stands, written out, so that each word is one step from one such place to the next and no lemma
-- computes a whole line.
use Rattle.std.proofs.Common.{◌≡◌, ◌∙◌, ℕ, ◌==◌, false, List, [], ◌∷◌, Some, None, option_map, refl, ap}
use Rattle.std.specs.Prelude.{codes}
use Rattle.clap.specs.Words.{Kinds, Row, Text}
use Rattle.clap.specs.Faults.{check_fault, defaults_fault, level_fault, settle_fault, walk_fault}
use Rattle.clap.specs.Kinds.{or_else}
use Rattle.clap.specs.Simple.{Shape}
use Rattle.clap.specs.Walk.{Held, Walk, finished, nothing_held, settled, walk, walk_from}
use Rattle.clap.specs.declared.builder.value_parser.Reading.{Reading}
use Rattle.clap.specs.declared.builder.value_parser.Reading.TheVariants.{AsWritten, WithoutMinus}
use Rattle.clap.specs.declared.parser.matches.ValueSource.{ValueSource}
use Rattle.clap.specs.declared.parser.matches.ValueSource.TheVariants.{CommandLine, DefaultValue}
use Rattle.uas_profile.specs.declared.TheConstants.{TAGS, USUAL_CLIENTS}
use Rattle.byte_io.specs.Words.{number_in}
use Rattle.uas_words.specs.CommandLine.{bad_of, blocks_of, clients_of}
use Rattle.uas_words.proofs.Levels.{level_nothing}
use Rattle.uas_words.proofs.WalkSteps.{standing, waiting}

-- what is found of a word, and what waits for more words behind these rows
abbrev pub found : Text → Reading → ValueSource → Text → Row
found id how source word = record { id = id; values = word ∷ []; count = None; source = Some source; reading = how }

abbrev pub clients_row : Text → Row
clients_row word = found (codes "CLIENTS") WithoutMinus CommandLine word

abbrev pub blocks_row : Text → Row
blocks_row word = found (codes "BLOCKS") WithoutMinus CommandLine word

abbrev pub bad_row : Text → Row
bad_row word = found (codes "bad") WithoutMinus CommandLine word

-- of `--json`, which doesn't stand there
abbrev pub no_json_row : Row
no_json_row = found (codes "json") AsWritten DefaultValue (codes "false")

abbrev pub pending : List Row → Text → List Text → Held
pending rows id values = record { rows = rows; pending = Some (id, values); skip = 0 }

-- before and behind the word of `--bad`, which stands behind these rows
abbrev pub before_bad : List Row → ℕ → Walk
before_bad rows position = waiting (codes "bad") (pending rows (codes "bad") []) position

abbrev pub behind_bad : List Row → Text → ℕ → Walk
behind_bad rows l position = standing (pending rows (codes "bad") (l ∷ [])) position

-- a kind that is none goes on with what follows
pub on : (a : Kinds) (rest : Kinds) → a ≡ [] → or_else a rest ≡ rest
on a rest is = rw is refl

-- what is refused behind the words, by the place where they end
pub ends : (s : Shape) (words : List Text) (w : Walk) → walk s.rules [] nothing_held words ≡ w
    → walk_fault s [] (walk_from nothing_held) words ≡ []
    → settle_fault s.rules s.args_override_self w.held ≡ []
    → defaults_fault (settled s.rules w.held).rows s.rules ≡ []
    → check_fault s (finished s.rules w.held) false ≡ []
    → level_fault s [] nothing_held words false [] ≡ []
ends s words w is p q r t = level_nothing s words p
    (ap (λ (v : Walk). settle_fault s.rules s.args_override_self v.held) is ∙ q)
    (ap (λ (v : Walk). defaults_fault (settled s.rules v.held).rows s.rules) is ∙ r)
    (ap (λ (v : Walk). check_fault s (finished s.rules v.held) false) is ∙ t)

pub clients_in : (d : ℕ) (ds : Text) (rest : List Row) → (d == 45) ≡ false → (d == 43) ≡ false → clients_of TAGS (clients_row (d ∷ ds) ∷ rest) ≡ number_in 1 USUAL_CLIENTS (d ∷ ds)
clients_in d ds rest hyphen plus = simp hyphen (simp plus)

pub blocks_in : (c : Text) (e : ℕ) (es : Text) (rest : List Row) → (e == 45) ≡ false → (e == 43) ≡ false
    → blocks_of (clients_row c ∷ blocks_row (e ∷ es) ∷ rest) ≡ number_in 1 65536 (e ∷ es)
blocks_in c e es rest hyphen plus = simp hyphen (simp plus)

pub bad_in : (f : ℕ) (fs : Text) (rest : List Row) → (f == 45) ≡ false → (f == 43) ≡ false
    → bad_of (bad_row (f ∷ fs) ∷ rest) ≡ option_map (λ n. Some n) (number_in 0 65535 (f ∷ fs))
bad_in f fs rest hyphen plus = simp hyphen (simp plus)
