-- A number's bytes, and the number of bytes.
use Rattle.std.proofs.Common.{◌/◌, ◌%◌, ◌≡◌, ℕ, zero, suc, ◌+◌, ◌*◌, ◌^◌, ◌<◌, ◌≤◌, List, [], ◌∷◌, length, take, refl, ap, sym, ◌∙◌, arith}
use Rattle.std.proofs.Math.Nat.{mod-lt}
use Rattle.std.proofs.lemmas.List.{append-nil, length-take}
use Rattle.std.proofs.lemmas.Nat.{div-mul-add, mod-mul-add}
use Rattle.std.specs.Int.{byte_at, bytes_high_first}
use Rattle.byteorder.specs.Endian.{big_from}
use Rattle.byteorder.specs.Numbers.{big_from-cons, big_from-lt, big_from-take, big_number-reads_back, length-bytes_high_first}
use Rattle.byte_numbers.specs.Bytes.{AreBytes}
use Rattle.byte_numbers.proofs.Bytes.{bytes_behind, bytes_taken}

byte_small : (k x : ℕ) → byte_at k x < 256
byte_small zero x = mod-lt x (omega arith)
byte_small (suc k) x = mod-lt (x / 256 ^ suc k) (omega arith)

pub number_is_bytes : (n x : ℕ) → AreBytes (bytes_high_first n x)
number_is_bytes zero x i = omega arith
number_is_bytes (suc n) x zero = byte_small n x
number_is_bytes (suc n) x (suc i) = number_is_bytes n x i

-- lists of as many bytes that are the same number are the same
same_bytes : (n : ℕ) (xs ys : List ℕ) → length xs ≡ n → length ys ≡ n → AreBytes xs → AreBytes ys → big_from 0 n xs ≡ big_from 0 n ys → xs ≡ ys
same_bytes zero [] [] a b p q e = refl
same_bytes zero [] (y ∷ ys) a b p q e = absurd (omega arith)
same_bytes zero (x ∷ xs) ys a b p q e = absurd (omega arith)
same_bytes (suc n) [] ys a b p q e = absurd (omega arith)
same_bytes (suc n) (x ∷ xs) [] a b p q e = absurd (omega arith)
same_bytes (suc n) (x ∷ xs) (y ∷ ys) a b p q e =
    let p-rest : AreBytes xs = bytes_behind x xs p in
    let q-rest : AreBytes ys = bytes_behind y ys q in
    let p-small : big_from 0 n xs < 256 ^ n = big_from-lt 0 n xs p-rest in
    let q-small : big_from 0 n ys < 256 ^ n = big_from-lt 0 n ys q-rest in
    let both : x * 256 ^ n + big_from 0 n xs ≡ y * 256 ^ n + big_from 0 n ys =
    ap (λ (r : ℕ). x * 256 ^ n + r) (sym (big_from-cons 0 n x xs)) ∙ e ∙ ap (λ (r : ℕ). y * 256 ^ n + r) (big_from-cons 0 n y ys) in
    let first : x ≡ y =
    sym (div-mul-add x (256 ^ n) (big_from 0 n xs) p-small) ∙ ap (λ (z : ℕ). z / 256 ^ n) both ∙ div-mul-add y (256 ^ n) (big_from 0 n ys) q-small in
    let others : big_from 0 n xs ≡ big_from 0 n ys =
    sym (mod-mul-add x (256 ^ n) (big_from 0 n xs) p-small) ∙ ap (λ (z : ℕ). z % 256 ^ n) both ∙ mod-mul-add y (256 ^ n) (big_from 0 n ys) q-small in
    let rest : xs ≡ ys = same_bytes n xs ys (omega arith) (omega arith) p-rest q-rest others in
    ap (λ (z : ℕ). z ∷ xs) first ∙ ap (λ (zs : List ℕ). y ∷ zs) rest

-- the bytes of a number that was read are those that were read
pub number_bytes : (n : ℕ) (bytes : List ℕ) → n ≤ length bytes → AreBytes bytes → bytes_high_first n (big_from 0 n bytes) ≡ take n bytes
number_bytes n bytes long is =
    let small : big_from 0 n bytes < 256 ^ n = big_from-lt 0 n bytes is in
    let back : big_from 0 n (bytes_high_first n (big_from 0 n bytes)) ≡ big_from 0 n bytes =
    ap (big_from 0 n) (sym (append-nil (bytes_high_first n (big_from 0 n bytes)))) ∙ big_number-reads_back n (big_from 0 n bytes) [] small in
    same_bytes n (bytes_high_first n (big_from 0 n bytes)) (take n bytes) (length-bytes_high_first n (big_from 0 n bytes))
    (omega (arith, length-take n bytes)) (number_is_bytes n (big_from 0 n bytes)) (bytes_taken n bytes is)
    (back ∙ sym (big_from-take 0 n n bytes (omega arith)))
