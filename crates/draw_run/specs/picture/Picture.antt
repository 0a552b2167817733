-- The picture of a trace: a row for each line that has a word, between a head and a foot.
use Rattle.std.specs.Prelude.{ℕ, List, [], ◌∷◌, ◌++◌, fold}
use Rattle.std.specs.List.{flat_map}
use Rattle.byte_io.specs.Words.{pieces}
use Rattle.draw_run.specs.declared.picture.Point.{Point}
use Rattle.draw_run.specs.picture.Drawn.{drawn}
use Rattle.draw_run.specs.picture.Frame.{foot, head}
use Rattle.draw_run.specs.picture.Marks.{mark_of}
use Rattle.draw_run.specs.picture.Points.{after, start}

-- where the line behind a line stands, of clients with so many tags each
abbrev pub after_line : ℕ → Point → List ℕ → Point
after_line tags point line = after point (mark_of tags line)

-- each line with the point where it stands
abbrev pub placed : ℕ → Point → List (List ℕ) → List (Point × List ℕ)
placed tags point [] = []
placed tags point (line ∷ lines) = (point, line) ∷ placed tags (after_line tags point line) lines

-- where the picture of lines ends
unfoldable pub last : ℕ → List (List ℕ) → Point
last tags lines = fold (after_line tags) start lines

-- each line, drawn where it stands
unfoldable pub rows_of : ℕ → ℕ → List (List ℕ) → List ℕ
rows_of clients tags lines = flat_map (λ at. drawn clients tags at.0 at.1) (placed tags start lines)

-- The picture of a trace of so many clients with so many tags each.
unfoldable pub picture_of : ℕ → ℕ → List ℕ → List ℕ
picture_of clients tags trace =
    let lines = pieces trace in
    head clients (last tags lines).row ++ rows_of clients tags lines ++ foot clients (last tags lines)
