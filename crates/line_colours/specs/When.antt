-- When the lines of a run are in colours.
use Rattle.std.specs.Prelude.{ℕ, ◌&&◌, ◌||◌, Bool, false, not, List, [], ◌∷◌, ◌++◌, slice_get, codes, Option, Some, None}
use Rattle.std.specs.Str.{bytes_eq}

-- whether a word is there and is this one
unfoldable pub is_word : List ℕ → Option (List ℕ) → Bool
is_word wanted None = false
is_word wanted (Some word) = bytes_eq word wanted

-- whether `--color` stands among the words with this one behind it, or behind an equals sign of its own word
unfoldable pub asks : List ℕ → List (List ℕ) → Bool
asks when [] = false
asks when (word ∷ rest) =
    bytes_eq word (codes "--color=" ++ when) || ((bytes_eq word (codes "--color") && is_word when (slice_get rest 0)) || asks when rest)

-- The lines of `trace` and `decode` are where `--color always` stands, and on a terminal where `--color never` doesn't.
-- By hand: `uasdisk trace --color=never 1 100` has none, and `uasdisk replay 1 100` neither.
unfoldable pub are_coloured : List (List ℕ) → Bool → Bool
are_coloured words is_terminal =
    (is_word (codes "trace") (slice_get words 1) || is_word (codes "decode") (slice_get words 1))
    && (asks (codes "always") words || (not (asks (codes "never") words) && is_terminal))
