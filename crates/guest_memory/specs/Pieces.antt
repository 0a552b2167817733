-- A list whose elements are replaced in part, as what is written to it.
use Rattle.std.proofs.Common.{◌≡◌, ℕ, ◌+◌, ◌-◌, ◌≤◌, List, ◌++◌, length, take, drop, slice_get, refl, ap, ◌∙◌, arith, inl, inr, length-take}
use Rattle.std.proofs.Math.Path.{fun_ext}
use Rattle.std.proofs.lemmas.Bool.{le-leb, lt-leb, cases_lt, lt-ltb, le-ltb}
use Rattle.guest_memory.specs.Bytes.{written}
use Rattle.guest_memory.specs.Parts.{get_left, get_right, get_take, get_drop}
use Rattle.std.proofs.lemmas.Slice.{put_mid-paste}
use Rattle.std.proofs.lemmas.List.Edits.{paste_all}
use borrow.Rule.Slice.PartMut.{put_mid}

-- a list with others in the place of some is what is written to it
pasted_at : (xs bytes : List ℕ) (start a : ℕ) → start + length bytes ≤ length xs
    → slice_get (take start xs ++ (bytes ++ drop (start + length bytes) xs)) a ≡ written (slice_get xs) start bytes a
unfolding written
pasted_at xs bytes start a fits =
    let front : length (take start xs) ≡ start = omega (arith, length-take start xs) in
    elim (cases_lt a start) [
      | inl before ↦ get_left (take start xs) _ a (omega (arith, front)) ∙ get_take start xs a before ∙ rw (lt-leb start a before) refl
      | inr from ↦ get_right (take start xs) _ a (omega (arith, front)) ∙ rw front (elim (cases_lt a (start + length bytes)) [
        | inl below ↦ get_left bytes _ (a - start) (omega arith) ∙ rw (le-leb start a from, lt-ltb a (start + length bytes) below) refl
        | inr past ↦
            let e : start + length bytes + (a - start - length bytes) ≡ a = omega arith in
            get_right bytes _ (a - start) (omega arith) ∙ get_drop (start + length bytes) xs (a - start - length bytes)
            ∙ rw (e, le-leb start a from, le-ltb a (start + length bytes) past) refl
      ])
    ]

pub pasted : (xs bytes : List ℕ) (start : ℕ) → start + length bytes ≤ length xs
    → slice_get (take start xs ++ (bytes ++ drop (start + length bytes) xs)) ≡ written (slice_get xs) start bytes
pasted xs bytes start fits = fun_ext (λ a. pasted_at xs bytes start a fits)

-- the same as a slice's part that was written to has it
pub pasted_part : (xs part bytes : List ℕ) (start k : ℕ) → part ≡ bytes → length bytes ≡ k → start + length bytes ≤ length xs
    → slice_get (put_mid start k xs part) ≡ written (slice_get xs) start bytes
pasted_part xs part bytes start k same size fits =
    ap slice_get (put_mid-paste start k xs part bytes (length bytes) same size refl ∙ paste_all xs start bytes (length bytes) refl) ∙ pasted xs bytes start fits
