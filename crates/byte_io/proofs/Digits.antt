-- Digits after a value never make it less.
use Rattle.std.proofs.Common.{◌≡◌, ℕ, ◌<◌, ◌≤◌, List, [], ◌∷◌, length, fold, drop, false, get_or, suc, arith, ap}
use Rattle.std.proofs.Math.Seq.{drop-cons}
use Rattle.std.proofs.Math.Dec.{leb}
use Rattle.std.proofs.lemmas.Bool.{lt-leb}
use Rattle.byte_io.specs.Words.{with_digit, value_of}

pub value_le : (value : ℕ) (digits : List ℕ) → value ≤ fold with_digit value digits
value_le value [] = omega arith
value_le value (digit ∷ digits) = omega (arith, value_le (with_digit value digit) digits)

-- the value is too large as soon as the value of its first digits is
pub value_too_large : (most value i : ℕ) (digits : List ℕ) → i < length digits → fold with_digit value (drop i digits) ≡ value_of digits
    → most < with_digit value (get_or digits i 0) → leb (value_of digits) most ≡ false
value_too_large most value i digits inside same large =
    let split : fold with_digit value (drop i digits) ≡ fold with_digit (with_digit value (get_or digits i 0)) (drop (suc i) digits) =
    ap (fold with_digit value) (drop-cons digits i 0 inside) in
    let grown : with_digit value (get_or digits i 0) ≤ fold with_digit (with_digit value (get_or digits i 0)) (drop (suc i) digits) =
    value_le (with_digit value (get_or digits i 0)) (drop (suc i) digits) in
    lt-leb (value_of digits) most (omega (arith, split, grown, same))
