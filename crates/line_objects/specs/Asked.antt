-- When lines are told as objects, and of which form they are.
use Rattle.std.specs.Prelude.{ℕ, ◌&&◌, ◌||◌, Bool, false, not, if◌then◌else◌, List, [], ◌∷◌, codes, Option, Some, None}
use Rattle.std.specs.Str.{bytes_eq}
use Rattle.line_objects.specs.declared.Form.{Form}
use Rattle.line_objects.specs.declared.Form.TheVariants.{Run, Decode, Audit, Info}

-- the form of the lines of a subcommand, where they can be objects
unfoldable pub form_named : List ℕ → Option Form
form_named name =
    if bytes_eq name (codes "replay") || bytes_eq name (codes "trace") then Some Run
    else (if bytes_eq name (codes "decode") then Some Decode
    else (if bytes_eq name (codes "audit") then Some Audit
    else (if bytes_eq name (codes "info") then Some Info
    else None)))

-- whether `--json` stands among the words of a subcommand; behind `--` every word is an argument
unfoldable pub asks_objects : List (List ℕ) → Bool
asks_objects [] = false
asks_objects (word ∷ rest) = not (bytes_eq word (codes "--")) && (bytes_eq word (codes "--json") || asks_objects rest)

-- The form in which the words of a command line ask for objects, the program's own name first.
-- By hand: `uasdisk trace 1 100 --json` is of a run, and `uasdisk work 1 100 --json` and `uasdisk info -- --json` of none.
unfoldable pub form_of : List (List ℕ) → Option Form
form_of (program ∷ name ∷ rest) = if asks_objects rest then form_named name else None
form_of words = None
