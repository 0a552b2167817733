-- Bytes written into the cells of a slice, as far as there is room.
use Rattle.std.specs.Prelude.{◌≡◌, ℕ, zero, suc, ◌+◌, ◌-◌, ◌^◌, min, List, [], ◌∷◌, length}
use Rattle.machine_bytes.specs.declared.place.Place.{Place}

-- the cells with these bytes from a place on; those for which there is no cell are left out
abbrev pub overlaid : List ℕ → ℕ → List ℕ → List ℕ
overlaid [] at bytes = []
overlaid (cell ∷ cells) (suc at) bytes = cell ∷ overlaid cells at bytes
overlaid (cell ∷ cells) zero [] = cell ∷ cells
overlaid (cell ∷ cells) zero (byte ∷ bytes) = byte ∷ overlaid cells zero bytes

-- more bytes are written, and how many are needed is counted
unfoldable pub written : List ℕ × Place → List ℕ → List ℕ × Place
written w bytes = (
  overlaid w.0 w.1.at bytes,
  record { at = min (w.1.at + length bytes) (length w.0); needs = min (w.1.needs + length bytes) (2 ^ 64 - 1) },
)

-- a place within the cells or at their end: writing nothing changes nothing
abbrev pub IsWithin : List ℕ × Place → Type 0
IsWithin w = written w [] ≡ w
