-- Parts of lists of bytes.
use Rattle.std.proofs.Common.{ℕ, zero, suc, ◌+◌, List, [], ◌∷◌, ◌++◌, take, drop, arith, inl, inr}
use Rattle.std.proofs.lemmas.Bool.{cases_lt}
use Rattle.std.proofs.lemmas.List.{get_or-drop, get_or-take, get_or_past, length-take}
use Rattle.byte_numbers.specs.Bytes.{AreBytes}

pub bytes_dropped : (n : ℕ) (bytes : List ℕ) → AreBytes bytes → AreBytes (drop n bytes)
bytes_dropped n bytes are at = rw get_or-drop (are (n + at))

pub bytes_taken : (n : ℕ) (bytes : List ℕ) → AreBytes bytes → AreBytes (take n bytes)
bytes_taken n bytes are at =
    elim (cases_lt at n) [
      | inl lt ↦ rw (get_or-take n bytes at 0 lt) (are at)
      | inr le ↦ rw (get_or_past (take n bytes) at 0 (omega (arith, length-take n bytes))) (omega arith)
    ]

pub bytes_behind : (byte : ℕ) (bytes : List ℕ) → AreBytes (byte ∷ bytes) → AreBytes bytes
bytes_behind byte bytes are at = are (suc at)

pub bytes_joined : (front back : List ℕ) → AreBytes front → AreBytes back → AreBytes (front ++ back)
bytes_joined [] back one other at = other at
bytes_joined (byte ∷ front) back one other zero = one 0
bytes_joined (byte ∷ front) back one other (suc at) = bytes_joined front back (bytes_behind byte front one) other at

pub bytes_front : (front back : List ℕ) → AreBytes (front ++ back) → AreBytes front
bytes_front [] back are at = omega arith
bytes_front (byte ∷ front) back are zero = are 0
bytes_front (byte ∷ front) back are (suc at) = bytes_front front back (bytes_behind byte (front ++ back) are) at

pub bytes_back : (front back : List ℕ) → AreBytes (front ++ back) → AreBytes back
bytes_back [] back are = are
bytes_back (byte ∷ front) back are = bytes_back front back (bytes_behind byte (front ++ back) are)
