-- Bytes that are written into cells, as a slice's part that is replaced.
use Rattle.std.proofs.Common.{◌≡◌, ℕ, zero, suc, ◌+◌, ◌-◌, ◌^◌, ◌≤◌, min, List, [], ◌∷◌, ◌++◌, length, length-append, take, drop, refl, sym, ap, ◌∙◌, arith}
use Rattle.std.proofs.lemmas.List.{append-nil, length-take-le}
use Rattle.std.proofs.lemmas.Slice.{put_mid-paste}
use Rattle.std.proofs.lemmas.List.Edits.{paste_all}
use borrow.Rule.Slice.PartMut.{put_mid}
use Rattle.machine_bytes.specs.declared.place.Place.{Place}
use Rattle.machine_bytes.specs.Places.{IsWithin, overlaid, written}

pub whole : (xs part bytes : List ℕ) (start k : ℕ) → part ≡ bytes → length bytes ≡ k → start + length bytes ≤ length xs
    → put_mid start k xs part ≡ take start xs ++ (bytes ++ drop (start + length bytes) xs)
whole xs part bytes start k same size fits =
    put_mid-paste start k xs part bytes (length bytes) same size refl ∙ paste_all xs start bytes (length bytes) refl

placed_at : (cells : List ℕ) (at : ℕ) (bytes : List ℕ) (start count : ℕ) → start ≡ min at (length cells) → count ≡ min (length bytes) (length cells - start)
    → take start cells ++ (take count bytes ++ drop (start + count) cells) ≡ overlaid cells at bytes
placed_at [] at bytes zero zero s k = refl
placed_at [] at bytes zero (suc count) s k = absurd (omega (arith, k))
placed_at [] at bytes (suc start) count s k = absurd (omega (arith, s))
placed_at (c ∷ cells) (suc at) bytes zero count s k = absurd (omega (arith, s))
placed_at (c ∷ cells) (suc at) bytes (suc start) count s k =
    let e : suc start + count ≡ suc (start + count) = omega arith in
    rw e (ap (λ (l : List ℕ). c ∷ l) (placed_at cells at bytes start count (omega (arith, s)) (omega (arith, k))))
placed_at (c ∷ cells) zero bytes (suc start) count s k = absurd (omega (arith, s))
placed_at (c ∷ cells) zero [] zero zero s k = refl
placed_at (c ∷ cells) zero [] zero (suc count) s k = absurd (omega (arith, k))
placed_at (c ∷ cells) zero (b ∷ bytes) zero zero s k = absurd (omega (arith, k))
placed_at (c ∷ cells) zero (b ∷ bytes) zero (suc count) s k =
    let e : 0 + suc count ≡ suc (0 + count) = omega arith in
    rw e (ap (λ (l : List ℕ). b ∷ l) (placed_at cells zero bytes zero count (omega arith) (omega (arith, k))))

length-overlaid : (cells : List ℕ) (at : ℕ) (bytes : List ℕ) → length (overlaid cells at bytes) ≡ length cells
length-overlaid [] at bytes = refl
length-overlaid (c ∷ cells) (suc at) bytes = ap suc (length-overlaid cells at bytes)
length-overlaid (c ∷ cells) zero [] = refl
length-overlaid (c ∷ cells) zero (b ∷ bytes) = ap suc (length-overlaid cells zero bytes)

overlaid_on : (cells : List ℕ) (at : ℕ) (front back : List ℕ) (next : ℕ) → next ≡ min (at + length front) (length cells)
    → overlaid (overlaid cells at front) next back ≡ overlaid cells at (front ++ back)
overlaid_on [] at front back next e = refl
overlaid_on (c ∷ cells) (suc at) front back zero e = absurd (omega (arith, e))
overlaid_on (c ∷ cells) (suc at) front back (suc next) e = ap (λ (l : List ℕ). c ∷ l) (overlaid_on cells at front back next (omega (arith, e)))
overlaid_on (c ∷ cells) zero [] back (suc next) e = absurd (omega (arith, e))
overlaid_on (c ∷ cells) zero [] back zero e = refl
overlaid_on (c ∷ cells) zero (b ∷ front) back zero e = absurd (omega (arith, e))
overlaid_on (c ∷ cells) zero (b ∷ front) back (suc next) e = ap (λ (l : List ℕ). b ∷ l) (overlaid_on cells zero front back next (omega (arith, e)))

-- two pairs of cells and a place
same_written : (cells others : List ℕ) (at other needs more : ℕ) → cells ≡ others → at ≡ other → needs ≡ more
    → let p : List ℕ × Place = (cells, record { at = at; needs = needs }) in let q : List ℕ × Place = (others, record { at = other; needs = more }) in p ≡ q
same_written cells others at other needs more e f g = rw (e, f, g) refl

-- bytes may be written in parts
pub written_joined : (w : List ℕ × Place) (front back : List ℕ) → written w (front ++ back) ≡ written (written w front) back
unfolding written
written_joined w front back =
    let cells = overlaid_on w.0 w.1.at front back (min (w.1.at + length front) (length w.0)) refl in
    let size = length-overlaid w.0 w.1.at front in
    let both = length-append front back in
    same_written _ _ _ _ _ _ (sym cells) (omega (arith, size, both)) (omega (arith, both))

-- what a write makes of the cells and the place
pub written_is : (w : List ℕ × Place) (bytes cells : List ℕ) (start count needs : ℕ)
    → start ≡ min w.1.at (length w.0) → count ≡ min (length bytes) (length w.0 - start)
    → cells ≡ take start w.0 ++ (take count bytes ++ drop (start + length (take count bytes)) w.0)
    → needs ≡ min (w.1.needs + length bytes) (2 ^ 64 - 1)
    → let q : List ℕ × Place = (cells, record { at = start + count; needs = needs }) in q ≡ written w bytes
unfolding written
written_is w bytes cells start count needs s k is n =
    let few : length (take count bytes) ≡ count = length-take-le count bytes (omega (arith, k)) in
    same_written _ _ _ _ _ _
    (is ∙ rw few (placed_at w.0 w.1.at bytes start count s k)) (omega (arith, s, k)) (n)

-- a kind is written before what it has
pub written_behind : (w : List ℕ × Place) (kind : ℕ) (bytes : List ℕ) → written w (kind ∷ bytes) ≡ written (written w (kind ∷ [])) bytes
written_behind w kind bytes = written_joined w (kind ∷ []) bytes

-- where something was written the place is within the cells
pub written_within : (w : List ℕ × Place) (bytes : List ℕ) → IsWithin (written w bytes)
written_within w bytes = sym (written_joined w bytes []) ∙ ap (written w) (append-nil bytes)
