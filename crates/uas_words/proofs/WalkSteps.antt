-- What the words' parser makes of a plain word, one that begins with no hyphen: it goes to the positional whose turn it is, or to the
-- option that waits for a value. Cited by PlainLines for subcommands of three words and more, which are too long to compute at once.
use Rattle.std.proofs.Common.{◌≡◌, ℕ, ◌==◌, false, List, [], ◌∷◌, None, codes, refl}
use Rattle.clap.specs.Walk.{Held, Rule, Text, Walk, after_step, arg_by_id, arg_by_index, arg_by_long, idle, long_word, option}
use Rattle.clap.specs.Walk.{option_word, to_positional, value, walked}
use Rattle.clap.specs.Faults.{long_fault, step_fault, walk_fault}
use Rattle.clap.specs.Kinds.{or_else}
use Rattle.clap.specs.Simple.{Shape}

-- between two words, at a position
abbrev pub standing : Held → ℕ → Walk
standing h position = record { held = h; waiting = idle; position = position; is_trailing = false; stopped = None }

pub walked-plain : (d : ℕ) (ds : Text) → (d == 45) ≡ false → (c : List Rule) (h : Held) (position : ℕ)
    → walked c [] (standing h position) (d ∷ ds) ≡ to_positional c (arg_by_index c position) (d ∷ ds) (standing h position) h
unfolding walked
walked-plain d ds plain c h position = simp plain

pub fault-plain : (d : ℕ) (ds : Text) → (d == 45) ≡ false → (s : Shape) (h : Held) (position : ℕ) (rest : List Text)
    → walk_fault s [] (standing h position) ((d ∷ ds) ∷ rest)
    ≡ or_else (step_fault s position h value) (walk_fault s [] (to_positional s.rules (arg_by_index s.rules position) (d ∷ ds) (standing h position) h) rest)
unfolding walk_fault walked
fault-plain d ds plain s h position rest = simp plain

pub fault-end : (s : Shape) (w : Walk) → walk_fault s [] w [] ≡ []
unfolding walk_fault
fault-end s w = refl

-- an option of this name waits for a value
abbrev pub waiting : Text → Held → ℕ → Walk
waiting name h position = record { held = h; waiting = option name; position = position; is_trailing = false; stopped = None }

pub walked-bad : (c : List Rule) (h : Held) (position : ℕ)
    → walked c [] (standing h position) (codes "--bad")
    ≡ after_step c (codes "--bad") (standing h position) (long_word c idle (codes "--bad") (codes "bad") None h).0
    (long_word c idle (codes "--bad") (codes "bad") None h).1
unfolding walked
walked-bad c h position = refl

pub walked-page : (c : List Rule) (h : Held) (position : ℕ)
    → walked c [] (standing h position) (codes "--page")
    ≡ after_step c (codes "--page") (standing h position) (long_word c idle (codes "--page") (codes "page") None h).0
    (long_word c idle (codes "--page") (codes "page") None h).1
unfolding walked
walked-page c h position = refl

pub walked-value : (d : ℕ) (ds : Text) → (d == 45) ≡ false → (c : List Rule) (name : Text) (h : Held) (position : ℕ)
    → walked c [] (waiting name h position) (d ∷ ds) ≡ record (waiting name h position) {
      held = (option_word (arg_by_id c name) name (d ∷ ds) h).0;
      waiting = (option_word (arg_by_id c name) name (d ∷ ds) h).1;
    }
unfolding walked
walked-value d ds plain c name h position = simp plain

pub fault-bad : (s : Shape) (h : Held) (position : ℕ) (rest : List Text)
    → walk_fault s [] (standing h position) (codes "--bad" ∷ rest)
    ≡ or_else (or_else (long_fault s.rules s.args_override_self (arg_by_long s.rules (codes "bad")) None h)
    (step_fault s position (long_word s.rules idle (codes "--bad") (codes "bad") None h).0 (long_word s.rules idle (codes "--bad") (codes "bad") None h).1))
    (walk_fault s [] (after_step s.rules (codes "--bad") (standing h position) (long_word s.rules idle (codes "--bad") (codes "bad") None h).0
    (long_word s.rules idle (codes "--bad") (codes "bad") None h).1) rest)
unfolding walk_fault walked
fault-bad s h position rest = refl

pub fault-page : (s : Shape) (h : Held) (position : ℕ) (rest : List Text)
    → walk_fault s [] (standing h position) (codes "--page" ∷ rest)
    ≡ or_else (or_else (long_fault s.rules s.args_override_self (arg_by_long s.rules (codes "page")) None h)
    (step_fault s position (long_word s.rules idle (codes "--page") (codes "page") None h).0 (long_word s.rules idle (codes "--page") (codes "page") None h).1))
    (walk_fault s [] (after_step s.rules (codes "--page") (standing h position) (long_word s.rules idle (codes "--page") (codes "page") None h).0
    (long_word s.rules idle (codes "--page") (codes "page") None h).1) rest)
unfolding walk_fault walked
fault-page s h position rest = refl

pub fault-value : (d : ℕ) (ds : Text) → (d == 45) ≡ false → (s : Shape) (name : Text) (h : Held) (position : ℕ) (rest : List Text)
    → walk_fault s [] (waiting name h position) ((d ∷ ds) ∷ rest) ≡ walk_fault s [] (record (waiting name h position) {
      held = (option_word (arg_by_id s.rules name) name (d ∷ ds) h).0;
      waiting = (option_word (arg_by_id s.rules name) name (d ∷ ds) h).1;
    }) rest
unfolding walk_fault walked
fault-value d ds plain s name h position rest = simp plain
