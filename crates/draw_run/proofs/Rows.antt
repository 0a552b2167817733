-- Rows that are drawn one by one are those of all lines, each where it stands.
use Rattle.std.proofs.Common.{◌≡◌, ◌∙◌, ℕ, List, [], ◌∷◌, ◌++◌, fold, sym, ap, append_assoc, append-nil}
use Rattle.std.specs.List.{flat_map}
use Rattle.draw_run.specs.declared.picture.Point.{Point}
use Rattle.draw_run.specs.picture.Drawn.{drawn}
use Rattle.draw_run.specs.picture.Picture.{after_line, placed}

-- where the next line stands and what was drawn, behind a line more
abbrev pub with_row : ℕ → ℕ → Point × List ℕ → List ℕ → Point × List ℕ
with_row clients tags before line = (after_line tags before.0 line, before.1 ++ drawn clients tags before.0 line)

abbrev pub rows_from : ℕ → ℕ → Point → List (List ℕ) → List ℕ
rows_from clients tags point lines = flat_map (λ at. drawn clients tags at.0 at.1) (placed tags point lines)

pub fold_with_row : (clients tags : ℕ) (point : Point) (text : List ℕ) (lines : List (List ℕ))
    → fold (with_row clients tags) (point, text) lines ≡ (fold (after_line tags) point lines, text ++ rows_from clients tags point lines)
fold_with_row clients tags point text [] = ap (λ (t : List ℕ). (point, t)) (sym (append-nil text))
fold_with_row clients tags point text (line ∷ lines) =
    fold_with_row clients tags (after_line tags point line) (text ++ drawn clients tags point line) lines
    ∙ ap (λ (t : List ℕ). (fold (after_line tags) (after_line tags point line) lines, t))
    (append_assoc text (drawn clients tags point line) (rows_from clients tags (after_line tags point line) lines))

-- what stands once no line is left
pub all_rows : (clients tags : ℕ) (first point : Point) (text drawn_text : List ℕ) (lines rest : List (List ℕ)) → rest ≡ []
    → fold (with_row clients tags) (point, drawn_text) rest ≡ fold (with_row clients tags) (first, text) lines
    → ◌≡◌ {A = Point × List ℕ} (point, drawn_text) (fold (after_line tags) first lines, text ++ rows_from clients tags first lines)
all_rows clients tags first point text drawn_text lines rest none same =
    (rw none at same) ∙ fold_with_row clients tags first text lines
