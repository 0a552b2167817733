-- Bytes that are put behind others in a buffer.
use Rattle.std.proofs.Common.{◌≡◌, ℕ, suc, ◌+◌, ◌≤◌, List, [], ◌∷◌, ◌++◌, length, take, drop, Option, Some, option_map, refl, sym, ap, ◌∙◌, arith}
use Rattle.std.proofs.lemmas.List.{length-take-le}
use Rattle.std.proofs.lemmas.Slice.{put_mid-paste}
use Rattle.std.proofs.lemmas.List.Edits.{paste_all}
use borrow.Rule.Slice.PartMut.{put_mid}

take_both : (xs ys zs : List ℕ) → take (length xs + length ys) (xs ++ (ys ++ zs)) ≡ xs ++ ys
take_both [] [] zs = refl
take_both [] (y ∷ ys) zs = let e : 0 + suc (length ys) ≡ suc (0 + length ys) = omega arith in rw e (ap (λ l. y ∷ l) (take_both [] ys zs))
take_both (x ∷ xs) ys zs = let e : suc (length xs) + length ys ≡ suc (length xs + length ys) = omega arith in rw e (ap (λ l. x ∷ l) (take_both xs ys zs))

take_one : (xs ys : List ℕ) → take (length xs) (xs ++ ys) ≡ xs
take_one [] ys = refl
take_one (x ∷ xs) ys = ap (λ l. x ∷ l) (take_one xs ys)

whole_of : (xs part bytes : List ℕ) (start k : ℕ) → part ≡ bytes → length bytes ≡ k → start + length bytes ≤ length xs
    → put_mid start k xs part ≡ take start xs ++ (bytes ++ drop (start + length bytes) xs)
whole_of xs part bytes start k same size fits =
    put_mid-paste start k xs part bytes (length bytes) same size refl ∙ paste_all xs start bytes (length bytes) refl

pub gathered : (xs part bytes : List ℕ) (start k : ℕ) → part ≡ bytes → length bytes ≡ k → start + length bytes ≤ length xs
    → take (start + length bytes) (put_mid start k xs part) ≡ take start xs ++ bytes
gathered xs part bytes start k same size fits =
    let front : length (take start xs) ≡ start = length-take-le start xs (omega (arith, fits)) in
    ap (take (start + length bytes)) (whole_of xs part bytes start k same size fits)
    ∙ ap (λ n. take (n + length bytes) (take start xs ++ (bytes ++ drop (start + length bytes) xs))) (sym front)
    ∙ take_both (take start xs) bytes (drop (start + length bytes) xs)

pub drawn : (xs part : List ℕ) (read : Option (List ℕ)) (start count k : ℕ) → read ≡ Some part → length part ≡ count → count ≡ k → start + count ≤ length xs
    → Some (take (start + count) (put_mid start k xs part)) ≡ option_map (λ bytes. take start xs ++ bytes) read
drawn xs part read start count k is size same fits =
    let e : start + length part ≡ start + count = omega (arith, size) in
    ap (λ n. Some (take n (put_mid start k xs part))) (sym e)
    ∙ ap Some (gathered xs part part start k refl (size ∙ same) (omega (arith, fits, size)))
    ∙ ap (option_map (λ bytes. take start xs ++ bytes)) (sym is)

pub kept : (xs part : List ℕ) (start count k : ℕ) → length part ≡ count → count ≡ k → start + count ≤ length xs
    → take start (put_mid start k xs part) ≡ take start xs
kept xs part start count k size same fits =
    let front : length (take start xs) ≡ start = length-take-le start xs (omega (arith, fits)) in
    ap (take start) (whole_of xs part part start k refl (size ∙ same) (omega (arith, fits, size)))
    ∙ ap (λ n. take n (take start xs ++ (part ++ drop (start + length part) xs))) (sym front)
    ∙ take_one (take start xs) _
