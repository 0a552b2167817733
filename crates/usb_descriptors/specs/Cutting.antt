-- Bytes as descriptors one behind the other (USB 3.2, 9.5): each tells its length in byte 0 and its type in byte 1.
use Rattle.std.specs.Prelude.{◌≡◌, ℕ, zero, suc, ◌≤◌, ◌==◌, ◌&&◌, ◌||◌, nat_le, Bool, if◌then◌else◌, List, [], ◌∷◌, ◌++◌, length, take, drop, slice_index}

-- bLength, and bDescriptorType
abbrev pub told_length : List ℕ → ℕ
told_length bytes = slice_index bytes 0

abbrev pub kind_of : List ℕ → ℕ
kind_of bytes = slice_index bytes 1

-- The least bLength of a type (9.6): 9 of a configuration (2) and an interface (4), 7 of an endpoint (5), 6 of a companion (30h); of any other
-- type 2, its length and its type.
abbrev pub least_length : ℕ → ℕ
least_length kind =
    if kind == 2 || kind == 4 then 9
    else (if kind == 5 then 7
    else (if kind == 0x30 then 6
    else 2))

-- a descriptor stands at the front: it is as long as its type asks for at least, and it ends within the bytes
unfoldable pub is_front : List ℕ → Bool
is_front bytes = nat_le 2 (length bytes) && nat_le (least_length (kind_of bytes)) (told_length bytes) && nat_le (told_length bytes) (length bytes)

-- that descriptor, and the bytes behind it
abbrev pub front : List ℕ → List ℕ
front bytes = take (told_length bytes) bytes

abbrev pub behind : List ℕ → List ℕ
behind bytes = drop (told_length bytes) bytes

-- The descriptors of bytes, up to a place where none stands. Bytes have at most as many descriptors as bytes, so `most` never ends them.
unfoldable pub descriptors_within : ℕ → List ℕ → List (List ℕ)
descriptors_within zero bytes = []
descriptors_within (suc most) bytes = if is_front bytes then front bytes ∷ descriptors_within most (behind bytes) else []

unfoldable pub descriptors : List ℕ → List (List ℕ)
descriptors bytes = descriptors_within (length bytes) bytes

-- descriptors one behind the other
abbrev pub joined : List (List ℕ) → List ℕ
joined [] = []
joined (descriptor ∷ descriptors) = descriptor ++ joined descriptors

-- the bytes are descriptors to their end: nothing is left behind the last of them
unfoldable pub is_cut : List ℕ → Bool
is_cut bytes = length bytes == length (joined (descriptors bytes))

-- a list of bytes is a descriptor
pub record IsDescriptor (bytes : List ℕ) : Type 0 where
  pub told : told_length bytes ≡ length bytes
  pub least : least_length (kind_of bytes) ≤ length bytes

-- each of these is a descriptor
abbrev pub EachDescriptor : List (List ℕ) → Type 0
EachDescriptor [] = Unit {0}
EachDescriptor (d ∷ ds) = IsDescriptor d × EachDescriptor ds
