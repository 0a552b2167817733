use Rattle.std.proofs.Common.{◌≡◌, ◌++◌, ◌∷◌, [], drop, map}
use Rattle.std.specs.Prelude.{flat_map}
use Rattle.line_objects.specs.Objects.{field_text}
use Rattle.line_objects.specs.Held.{field_held}
use Rattle.line_objects.proofs.values.push_more.Given as goal

-- the fields that are left bring now what all of them brought at first
abbrev pub invariant-loop-field : goal.invariant-loop-field
invariant-loop-field l = l.fn.text.items ++ flat_map (λ field. (44 ∷ []) ++ field_text field) (map field_held l.fields)
    ≡ l.text.items ++ flat_map (λ field. (44 ∷ []) ++ field_text field) (map field_held (drop l.field-index l.fields))
