-- Tables of numbers.
use Rattle.std.proofs.Common.{◌≡◌, ℕ, zero, suc, ◌+◌, ◌*◌, ◌^◌, ◌<◌, List, [], ◌∷◌, ◌++◌, length, take, drop, refl, ap, sym, ◌∙◌, arith}
use Rattle.std.proofs.Math.Nat.{mul-suc}
use Rattle.std.proofs.lemmas.List.{drop-drop, drop_at, length-append, length-drop, nil_from_length, take-append-drop, take-append-le, take_all}
use Rattle.std.specs.List.{AllByRecursion}
use Rattle.std.specs.Prelude.{flat_map}
use Rattle.byteorder.specs.Endian.{little_bytes, little_number, IsRead}
use Rattle.byteorder.specs.Numbers.{length-bytes_low_first, little_number-reads_back}
use Rattle.byte_numbers.specs.Bytes.{AreBytes}
use Rattle.byte_numbers.proofs.Bytes.{bytes_dropped}
use Rattle.usbredir.proofs.Numbers.{number_bytes}
use Rattle.usbredir.specs.Device.{numbers_in}

-- the numbers that a reader found are the table's
pub numbers_read : (width : ℕ) (bytes numbers : List ℕ) → IsRead little_number width bytes numbers → numbers ≡ numbers_in width (length numbers) bytes
unfolding numbers_in
numbers_read width bytes [] is = refl
numbers_read width bytes (x ∷ xs) is =
    let none : width * 0 ≡ 0 = omega arith in
    let first : x ≡ little_number width bytes =
    is 0 (omega arith) ∙ ap (λ (at : ℕ). little_number width (drop at bytes)) none in
    let rest : IsRead little_number width (drop width bytes) xs =
    λ k inside.
    (let step : width * suc k ≡ width + width * k = omega (arith, mul-suc width k) in
    is (suc k) (omega arith)
    ∙ ap (λ (at : ℕ). little_number width (drop at bytes)) step
    ∙ ap (little_number width) (sym (drop-drop (width * k) width bytes))) in
    ap (λ (y : ℕ). y ∷ xs) first ∙ ap (λ (ys : List ℕ). little_number width bytes ∷ ys) (numbers_read width (drop width bytes) xs rest)

-- what was written at the front of a buffer
pub placed : (count : ℕ) (written rest : List ℕ) → length written ≡ count → take count (written ++ rest) ≡ written
placed count written rest e = take-append-le count written rest (omega arith) ∙ take_all count written (omega arith)

-- a part of a text
pub part : (n at : ℕ) (bytes rest : List ℕ) → rest ≡ drop (at + n) bytes → take n (drop at bytes) ++ rest ≡ drop at bytes
part n at bytes rest e =
    ap (λ (back : List ℕ). take n (drop at bytes) ++ back) (e ∙ sym (drop-drop n at bytes)) ∙ take-append-drop n (drop at bytes)

-- what stands behind a part that is gone
pub gone : (a at : ℕ) (xs rest : List ℕ) → length xs ≡ a → drop (a + at) (xs ++ rest) ≡ drop at rest
gone a at xs rest e = sym (drop-drop at a (xs ++ rest)) ∙ ap (drop at) (drop_at xs rest a e)

-- the numbers of a table are read back
pub numbers_in-text : (width : ℕ) (xs : List ℕ) → AllByRecursion (λ x. x < 256 ^ width) xs → numbers_in width (length xs) (flat_map (little_bytes width) xs) ≡ xs
unfolding numbers_in
numbers_in-text width [] fits = refl
numbers_in-text width (x ∷ xs) fits =
    let rest : List ℕ = flat_map (little_bytes width) xs in
    ap (λ (n : ℕ). n ∷ numbers_in width (length xs) (drop width (little_bytes width x ++ rest))) (little_number-reads_back width x rest fits.0)
    ∙ ap (λ (l : List ℕ). x ∷ numbers_in width (length xs) l) (drop_at (little_bytes width x) rest width (length-bytes_low_first 0 width x))
    ∙ ap (λ (l : List ℕ). x ∷ l) (numbers_in-text width xs fits.1)

pub table_in-text : (width count : ℕ) (xs : List ℕ) → length xs ≡ count → AllByRecursion (λ x. x < 256 ^ width) xs
    → numbers_in width count (flat_map (little_bytes width) xs) ≡ xs
table_in-text width count xs e fits =
    ap (λ (n : ℕ). numbers_in width n (flat_map (little_bytes width) xs)) (sym e) ∙ numbers_in-text width xs fits

-- so many bytes
pub length-table : (width : ℕ) (xs : List ℕ) → length (flat_map (little_bytes width) xs) ≡ width * length xs
length-table width [] = omega arith
length-table width (x ∷ xs) =
    length-append (little_bytes width x) (flat_map (little_bytes width) xs)
    ∙ omega (arith, length-bytes_low_first 0 width x, length-table width xs, mul-suc width (length xs))

-- and written back
pub text-numbers_in : (width count : ℕ) (bytes : List ℕ) → length bytes ≡ width * count → AreBytes bytes
    → flat_map (little_bytes width) (numbers_in width count bytes) ≡ bytes
unfolding numbers_in
text-numbers_in width zero bytes long is = sym (nil_from_length bytes (omega arith))
text-numbers_in width (suc count) bytes long is =
    let enough : width + width * count ≡ width * suc count = omega (arith, mul-suc width count) in
    let left : length (drop width bytes) ≡ width * count = omega (arith, length-drop width bytes, enough, long) in
    ap (λ (l : List ℕ). l ++ flat_map (little_bytes width) (numbers_in width count (drop width bytes))) (number_bytes width bytes (omega (arith, enough, long)) is)
    ∙ ap (λ (l : List ℕ). take width bytes ++ l) (text-numbers_in width count (drop width bytes) left (bytes_dropped width bytes is))
    ∙ take-append-drop width bytes
