-- What a change of one tag makes of all marks.
use Rattle.std.proofs.Common.{◌≡◌, ℕ, zero, suc, ◌≤◌, List, [], ◌∷◌, ◌++◌, length, map, take, drop, refl, Option, None, Some, ap, ◌∙◌}
use Rattle.std.proofs.lemmas.List.{take_all, drop_all, append-nil}
use Rattle.std.specs.Prelude.{IfSome, slice_index_or, slice_set}
use Rattle.block_driver.specs.declared.table.Came.{Came}
use Rattle.block_driver.specs.declared.table.Entry.{Entry}
use Rattle.block_driver.specs.declared.table.Entry.TheVariants.{Free, Outstanding, Replied}
use Rattle.block_driver.specs.declared.table.Loss.{Loss}
use Rattle.block_driver.specs.Table.{all_lost, entry_lost, mark_of, marks}

-- one tag has another mark
pub marks_set : (tags : List Entry) (place : ℕ) (now : Entry) → marks (slice_set tags place now) ≡ slice_set (marks tags) place (mark_of now)
marks_set [] place now = refl
marks_set (first ∷ tags) zero now = refl
marks_set (first ∷ tags) (suc place) now = ap (λ rest. mark_of first ∷ rest) (marks_set tags place now)

-- one tag has the same mark
pub marks_same : (tags : List Entry) (place : ℕ) (now other : Entry) → mark_of now ≡ mark_of (slice_index_or tags place other) →
    marks (slice_set tags place now) ≡ marks tags
marks_same [] place now other same = refl
marks_same (first ∷ tags) zero now other same = ap (λ mark. mark ∷ marks tags) same
marks_same (first ∷ tags) (suc place) now other same = ap (λ rest. mark_of first ∷ rest) (marks_same tags place now other same)

lost_same : (entry : Entry) (loss : Loss) → mark_of (entry_lost loss entry) ≡ mark_of entry
lost_same Free loss = refl
lost_same (Outstanding command) loss = refl
lost_same (Replied reply) loss = refl

-- a loss leaves all marks
pub marks_lost : (tags : List Entry) (loss : Loss) → marks (all_lost tags loss) ≡ marks tags
marks_lost [] loss = refl
marks_lost (first ∷ tags) loss =
    ap (λ mark. mark ∷ marks (all_lost tags loss)) (lost_same first loss) ∙ ap (λ rest. mark_of first ∷ rest) (marks_lost tags loss)

-- so many items changed, of which there are no more
pub map_all : {T : Type 0} (f : T → T) (items now : List T) (many : ℕ) → now ≡ map f (take many items) ++ drop many items →
    length items ≤ many → now ≡ map f items
map_all f items now many is all =
    is ∙ ap (λ front. map f front ++ drop many items) (take_all many items all) ∙ ap (λ rest. map f items ++ rest) (drop_all many items all)
    ∙ append-nil (map f items)

-- one tag has no mark any more, where something came of it
pub marks_freed : (found : Option Came) (tags view : List Entry) (place at : ℕ) (now : Entry) → IfSome found (λ came. mark_of now ≡ None) →
    tags ≡ view → place ≡ at → IfSome found (λ came. marks (slice_set tags place now) ≡ slice_set (marks view) at None)
marks_freed None tags view place at now freed same there = tt
marks_freed (Some came) tags view place at now freed same there =
    marks_set tags place now ∙ ap (slice_set (marks tags) place) freed ∙ ap (λ held. slice_set (marks held) place None) same
    ∙ ap (λ p. slice_set (marks view) p None) there
