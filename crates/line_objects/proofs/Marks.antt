-- Where the last mark of a line stands.
use Rattle.std.proofs.Common.{◌≡◌, ◌∙◌, ◌<◌, ◌≤◌, ◌+◌, ◌-◌, ℕ, zero, suc, true, false, List, [], ◌∷◌, drop, take, length, length-drop, Some, None, refl, ap, sym, arith, zero-add}
use Rattle.std.proofs.lemmas.List.{take_all}
use Rattle.line_objects.specs.Objects.{is_marked, last_mark, last_of}

behind : (place n byte : ℕ) (rest : List ℕ) → last_mark rest ≡ Some (place + n) → last_mark (byte ∷ rest) ≡ Some (suc place + n)
unfolding last_mark
behind place n byte rest is =
    let same : (place + n) + 1 ≡ suc place + n = omega arith in
    ap (λ o. last_of o (is_marked (byte ∷ rest))) is ∙ ap (λ k. Some k) same

-- a mark that is the last from some place on is the last of all
pub last-from : (place n : ℕ) (line : List ℕ) → last_mark (drop place line) ≡ Some n → last_mark line ≡ Some (place + n)
unfolding last_mark
last-from zero n line is = is ∙ ap (λ k. Some k) (sym (zero-add n))
last-from (suc place) n [] is = cc
last-from (suc place) n (byte ∷ rest) is = behind place n byte rest (last-from place n rest is)

here : (line : List ℕ) → is_marked line ≡ true → last_mark (drop 1 line) ≡ None → 0 < length line → last_mark line ≡ Some 0
unfolding last_mark
here [] is none some = let never : ⊥ = omega arith in absurd never
here (byte ∷ rest) is none some = ap (λ o. last_of o (is_marked (byte ∷ rest))) none ∙ ap (last_of None) is

nowhere : (line : List ℕ) → is_marked line ≡ false → last_mark (drop 1 line) ≡ None → last_mark line ≡ None
unfolding last_mark
nowhere [] is none = refl
nowhere (byte ∷ rest) is none = ap (λ o. last_of o (is_marked (byte ∷ rest))) none ∙ ap (last_of None) is

one-more : (place : ℕ) (line : List ℕ) → drop 1 (drop place line) ≡ drop (suc place) line
one-more zero line = refl
one-more (suc place) [] = refl
one-more (suc place) (byte ∷ rest) = one-more place rest

some-left : (place : ℕ) (line : List ℕ) → suc place ≤ length line → 0 < length (drop place line)
some-left zero line less = omega arith
some-left (suc place) [] less = let never : ⊥ = omega arith in absurd never
some-left (suc place) (byte ∷ rest) less = some-left place rest (omega arith)

-- what is left of a line, as a slice of it
pub left-whole : (place : ℕ) (line : List ℕ) → take (length line - place) (drop place line) ≡ drop place line
left-whole place line = take_all (length line - place) (drop place line) (omega (arith, length-drop place line))

-- no mark stands behind a line
pub none-behind : (line : List ℕ) → last_mark (drop (length line) line) ≡ None
unfolding last_mark
none-behind [] = refl
none-behind (byte ∷ rest) = none-behind rest

-- a mark with none behind it is the last
pub last-here : (next place : ℕ) (line : List ℕ) → next ≡ suc place → next ≤ length line → is_marked (drop place line) ≡ true
    → last_mark (drop next line) ≡ None → last_mark line ≡ Some place
last-here next place line is_next fits is none =
    let same : place + 0 ≡ place = omega arith in
    last-from place 0 line (here (drop place line) is
    (ap last_mark (one-more place line) ∙ (sym (ap (λ k. last_mark (drop k line)) is_next) ∙ none)) (some-left place line (omega arith)))
    ∙ ap (λ k. Some k) same

-- and where none stands here either
pub none-here : (next place : ℕ) (line : List ℕ) → next ≡ suc place → is_marked (drop place line) ≡ false → last_mark (drop next line) ≡ None
    → last_mark (drop place line) ≡ None
none-here next place line is_next is none =
    nowhere (drop place line) is (ap last_mark (one-more place line) ∙ (sym (ap (λ k. last_mark (drop k line)) is_next) ∙ none))
