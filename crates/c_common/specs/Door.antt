-- What a call through a door is and makes, whatever the handle is of.
use Rattle.std.specs.Prelude.{ℕ, ◌==◌, if◌then◌else◌, List, [], ◌∷◌, Option, None, Some}

-- what stands under a number in a table
abbrev pub numbered : {X : Type 0} → List (ℕ × X) → ℕ → Option X
numbered [] number = None
numbered ((key, x) ∷ table) number = if number == key then Some x else numbered table number

-- the fault of a call that writes no bytes, and what the handle is of and the door after it
abbrev pub DoorAfter : Type 0 → Type 0 → Type 0
DoorAfter State Door = ℕ × (State × Door)

-- the fault of a call, and what the handle is of, the door and the bytes after it
abbrev pub After : Type 0 → Type 0 → Type 0
After State Door = ℕ × (State × (Door × List ℕ))

abbrev pub with_bytes : {State Door : Type 0} → List ℕ → DoorAfter State Door → After State Door
with_bytes bytes after = (after.0, (after.1.0, (after.1.1, bytes)))

-- a refused call changes nothing
abbrev pub refused : {State Door : Type 0} → ℕ → State → Door → DoorAfter State Door
refused fault state door = (fault, (state, door))
