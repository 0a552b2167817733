-- Places that hold something or nothing: a client's tags, a device's tasks.
use Rattle.std.specs.Prelude.{ℕ, zero, suc, List, [], ◌∷◌, Option, None, IfSome, slice_index_or, slice_set}

-- whatever a place holds is so
abbrev pub AllHeld : {T : Type 0} → (T → Type 0) → List (Option T) → Type 0
AllHeld P [] = Unit {0}
AllHeld P (place ∷ places) = IfSome place P × AllHeld P places

-- what the place of this number holds, counted from 0
abbrev pub held_at : {T : Type 0} → List (Option T) → ℕ → Option T
held_at places slot = slice_index_or places slot None

-- what the place of this index holds, counted from 1
abbrev pub held_under : {T : Type 0} → List (Option T) → ℕ → Option T
held_under places zero = None
held_under places (suc slot) = held_at places slot

-- the place of this index, counted from 1, now holds this
abbrev pub with_held_under : {T : Type 0} → List (Option T) → ℕ → Option T → List (Option T)
with_held_under places zero now = places
with_held_under places (suc slot) now = slice_set places slot now
