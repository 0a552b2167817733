-- A number's bytes, the lowest first, and the number of bytes.
use Rattle.std.proofs.Common.{◌/◌, ◌≡◌, ℕ, zero, suc, ◌+◌, ◌*◌, ◌^◌, ◌<◌, ◌≤◌, List, [], ◌∷◌, ◌++◌, length, take, drop, slice_index, refl, ap, sym, ◌∙◌, arith}
use Rattle.std.proofs.Math.Nat.{mod-lt}
use Rattle.std.proofs.Math.Seq.{drop-cons}
use Rattle.std.proofs.lemmas.List.{append-nil, length-drop, length-take, take-append-drop, take_all, drop-drop}
use Rattle.std.specs.Int.{byte_at, bytes_low_first}
use Rattle.byteorder.specs.Endian.{little_from, little_bytes, little_number}
use Rattle.byteorder.specs.Numbers.{little_from-cons, little_from-lt, little_from-take, little_number-reads_back, length-bytes_low_first}
use Rattle.byte_numbers.specs.Bytes.{AreBytes}
use Rattle.byte_numbers.proofs.Bytes.{bytes_behind, bytes_dropped, bytes_taken}

byte_small : (k x : ℕ) → byte_at k x < 256
byte_small zero x = mod-lt x (omega arith)
byte_small (suc k) x = mod-lt (x / 256 ^ suc k) (omega arith)

number_is_bytes : (i n x : ℕ) → AreBytes (bytes_low_first i n x)
number_is_bytes i zero x at = omega arith
number_is_bytes i (suc n) x zero = byte_small i x
number_is_bytes i (suc n) x (suc at) = number_is_bytes (suc i) n x at

-- lists of as many bytes that are the same number are the same
same_bytes : (n : ℕ) (xs ys : List ℕ) → length xs ≡ n → length ys ≡ n → AreBytes xs → AreBytes ys → little_from 0 n xs ≡ little_from 0 n ys → xs ≡ ys
same_bytes zero [] [] a b p q e = refl
same_bytes zero [] (y ∷ ys) a b p q e = absurd (omega arith)
same_bytes zero (x ∷ xs) ys a b p q e = absurd (omega arith)
same_bytes (suc n) [] ys a b p q e = absurd (omega arith)
same_bytes (suc n) (x ∷ xs) [] a b p q e = absurd (omega arith)
same_bytes (suc n) (x ∷ xs) (y ∷ ys) a b p q e =
    let first-x : x < 256 = p 0 in
    let first-y : y < 256 = q 0 in
    let both : x + 256 * little_from 0 n xs ≡ y + 256 * little_from 0 n ys =
    ap (λ (r : ℕ). x + 256 * r) (sym (little_from-cons 0 n x xs)) ∙ e ∙ ap (λ (r : ℕ). y + 256 * r) (little_from-cons 0 n y ys) in
    let first : x ≡ y = omega (arith, both, first-x, first-y) in
    let others : little_from 0 n xs ≡ little_from 0 n ys = omega (arith, both, first-x, first-y) in
    let rest : xs ≡ ys = same_bytes n xs ys (omega arith) (omega arith) (bytes_behind x xs p) (bytes_behind y ys q) others in
    ap (λ (z : ℕ). z ∷ xs) first ∙ ap (λ (zs : List ℕ). y ∷ zs) rest

-- the bytes of a number that was read are those that were read
pub number_bytes : (n : ℕ) (bytes : List ℕ) → n ≤ length bytes → AreBytes bytes → little_bytes n (little_number n bytes) ≡ take n bytes
number_bytes n bytes long is =
    let small : little_from 0 n bytes < 256 ^ n = little_from-lt 0 n bytes is in
    let back : little_from 0 n (bytes_low_first 0 n (little_from 0 n bytes)) ≡ little_from 0 n bytes =
    ap (little_from 0 n) (sym (append-nil (bytes_low_first 0 n (little_from 0 n bytes)))) ∙ little_number-reads_back n (little_from 0 n bytes) [] small in
    same_bytes n (bytes_low_first 0 n (little_from 0 n bytes)) (take n bytes) (length-bytes_low_first 0 n (little_from 0 n bytes))
    (omega (arith, length-take n bytes)) (number_is_bytes 0 n (little_from 0 n bytes)) (bytes_taken n bytes is)
    (back ∙ sym (little_from-take 0 n n bytes (omega arith)))

-- a number of bytes in the middle, and what follows them
pub middle : (n at : ℕ) (bytes rest : List ℕ) → n + at ≤ length bytes → AreBytes bytes → rest ≡ drop (at + n) bytes
    → little_bytes n (little_number n (drop at bytes)) ++ rest ≡ drop at bytes
middle n at bytes rest long is e =
    ap (λ (front : List ℕ). front ++ rest) (number_bytes n (drop at bytes) (omega (arith, length-drop at bytes)) (bytes_dropped at bytes is))
    ∙ ap (λ (back : List ℕ). take n (drop at bytes) ++ back) (e ∙ sym (drop-drop n at bytes))
    ∙ take-append-drop n (drop at bytes)

-- the number at the end
pub last : (n at : ℕ) (bytes : List ℕ) → length bytes ≡ n + at → AreBytes bytes → little_bytes n (little_number n (drop at bytes)) ≡ drop at bytes
last n at bytes long is =
    number_bytes n (drop at bytes) (omega (arith, length-drop at bytes)) (bytes_dropped at bytes is)
    ∙ take_all n (drop at bytes) (omega (arith, length-drop at bytes))

-- a byte in the middle, and what follows it
pub byte : (at : ℕ) (bytes rest : List ℕ) → at < length bytes → rest ≡ drop (suc at) bytes → slice_index bytes at ∷ rest ≡ drop at bytes
byte at bytes rest inside e =
    ap (λ (back : List ℕ). slice_index bytes at ∷ back) e ∙ sym (drop-cons bytes at 0 inside)
