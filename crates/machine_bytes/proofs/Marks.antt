-- The numbers before places, and the mark behind the last.
use Rattle.std.proofs.Common.{◌≡◌, ◌≢◌, ℕ, ◌<◌, ◌≤◌, true, false, ◌==◌, List, ◌++◌, length, length-append, take, drop, refl, sym, ap, ◌∙◌, arith, inl, inr}
use Rattle.std.specs.Prelude.{nat_le}
use Rattle.std.proofs.lemmas.Bool.{and_parts, eq-eqb, eqb-true, le-leb, leb-true}
use Rattle.std.proofs.lemmas.Bool.Decides.{eqb_tells}
use Rattle.std.proofs.Math.Dec.{eqb}
use Rattle.std.proofs.lemmas.List.{drop_at, take-append-drop}
use Rattle.byteorder.specs.Endian.{big_bytes, big_number}
use Rattle.byteorder.specs.Numbers.{big_number-reads_back, length-bytes_high_first}
use Rattle.byte_numbers.specs.Bytes.{AreBytes}
use Rattle.byte_numbers.proofs.Numbers.{number_bytes}
use Rattle.machine_bytes.specs.Sparse.{has_mark}

-- the number in front
number_front : (at : ℕ) (rest : List ℕ) → at < 65536 → big_number 2 (big_bytes 2 at ++ rest) ≡ at
number_front at rest few = big_number-reads_back 2 at rest (omega (arith, few))

mark_of : (at k : ℕ) (text : List ℕ) → 2 ≤ length text → big_number 2 text ≡ k → has_mark at text ≡ eqb k at
mark_of at k text long e = rw (le-leb 2 (length text) long, e) refl

long_front : (at : ℕ) (rest : List ℕ) → 2 ≤ length (big_bytes 2 at ++ rest)
long_front at rest = omega (arith, length-append (big_bytes 2 at) rest, length-bytes_high_first 2 at)

-- a number that stands in front is found
pub mark_found : (at : ℕ) (rest : List ℕ) → at < 65536 → has_mark at (big_bytes 2 at ++ rest) ≡ true
mark_found at rest few = mark_of at at (big_bytes 2 at ++ rest) (long_front at rest) (number_front at rest few) ∙ eq-eqb at at refl

not_same : (k at : ℕ) → k ≢ at → eqb k at ≡ false
not_same k at apart = elim (eqb_tells k at) [ inl same ↦ absurd (apart same.1) | inr other ↦ other.0 ]

-- and no other
pub mark_missed : (at other : ℕ) (rest : List ℕ) → other < 65536 → other ≢ at → has_mark at (big_bytes 2 other ++ rest) ≡ false
mark_missed at other rest few apart =
    mark_of at other (big_bytes 2 other ++ rest) (long_front other rest) (number_front other rest few) ∙ not_same other at apart

-- where a number is found, it stands in front
pub mark_stands : (at : ℕ) (text : List ℕ) → AreBytes text → has_mark at text ≡ true → text ≡ big_bytes 2 at ++ drop 2 text
mark_stands at text are e =
    let both = and_parts (nat_le 2 (length text)) (big_number 2 text == at) e in
    let same : big_number 2 text ≡ at = eqb-true _ _ both.1 in
    let front : big_bytes 2 at ≡ take 2 text = ap (big_bytes 2) (sym same) ∙ number_bytes 2 text (leb-true _ _ both.0) are in
    sym (take-append-drop 2 text) ∙ ap (λ (l : List ℕ). l ++ drop 2 text) (sym front)

-- what stands behind it
pub behind_mark : (at : ℕ) (rest : List ℕ) → drop 2 (big_bytes 2 at ++ rest) ≡ rest
behind_mark at rest = drop_at (big_bytes 2 at) rest 2 (length-bytes_high_first 2 at)
