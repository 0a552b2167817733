-- What a form promises: each value has one text, and each text that is read is the one of its value.
use Rattle.std.specs.Prelude.{◌≡◌, ℕ, List, ◌++◌, Some}
use Rattle.byte_numbers.specs.Bytes.{AreBytes}
use Rattle.machine_bytes.specs.declared.place.Place.{Place}
use Rattle.machine_bytes.specs.Forms.{Form}
use Rattle.machine_bytes.specs.Places.{IsWithin, written}

pub record IsExact {A : Type 0} (f : Form A) : Type 0 where
  -- what was written is read back, whatever follows it
  pub read_back : (x : A) (rest : List ℕ) → f.Has x → f.read (f.bytes x ++ rest) ≡ (Some x, rest)
  -- what is read was written so
  pub written_so : (text : List ℕ) (x : A) (left : List ℕ) → AreBytes text → f.read text ≡ (Some x, left) → (text ≡ f.bytes x ++ left) × f.Has x
  -- its parts written one after the other are its bytes
  pub wrote : (w : List ℕ × Place) → IsWithin w → (x : A) → f.Has x → f.write w x ≡ written w (f.bytes x)
