-- Parts of what a file holds, read and written. Cited by the answers of the disk.
use Rattle.std.proofs.Common.{◌≡◌, ℕ, ◌+◌, ◌-◌, ◌*◌, ◌/◌, ◌%◌, ◌<◌, ◌≤◌, List, [], ◌++◌, length, take, drop, Result, Ok, Err, refl, arith, ap, sym, ◌∙◌, append_assoc, ◌⊎◌, inl, inr}
use Rattle.std.specs.Prelude.{OnOk}
use borrow.Rule.Slice.PartMut.{put_mid}
use Rattle.std.proofs.lemmas.List.{drop-drop, drop-take, drop-append-le, length-append, length-drop, length-take-le, take-append-drop, take-take, take_at}
use Rattle.std.proofs.Math.Seq.{drop-append-add}
use Rattle.file_disk.specs.Written.{written_over}
use Rattle.file_disk.proofs.Parts.{take-part}
use Rattle.file_disk.specs.Pieces.{IsPiece}

-- the place of a byte, by its block
by_block : (at : ℕ) → 512 * (at / 512) + at % 512 ≡ at
by_block at = omega arith

-- READS

-- a part of a block that was read
pub part_of_block : (at count : ℕ) (whole held : List ℕ) → at % 512 + count ≤ 512 → whole ≡ take 512 (drop (512 * (at / 512)) held)
    → take count (drop (at % 512) whole) ≡ take count (drop at held)
part_of_block at count whole held fits is =
    let skip : ℕ = at % 512 in
    let rest : List ℕ = drop (512 * (at / 512)) held in
    let all : skip + (512 - skip) ≡ 512 = omega arith in
    ap (λ (w : List ℕ). take count (drop skip w)) (is ∙ ap (λ (n : ℕ). take n rest) (sym all))
    ∙ ap (take count) (drop-take skip (512 - skip) rest)
    ∙ take-take count (512 - skip) (drop skip rest) (omega arith)
    ∙ ap (take count) (drop-drop skip (512 * (at / 512)) held ∙ ap (λ (n : ℕ). drop n held) (by_block at))

-- the bytes up to one place, and those up to the next
pub read_more : (offset done end : ℕ) (front part held : List ℕ) → done ≤ end → front ≡ take done (drop offset held)
    → part ≡ take (end - done) (drop (offset + done) held) → front ++ part ≡ take end (drop offset held)
read_more offset done end front part held before is next =
    ap (λ (ys : List ℕ). ys ++ part) is
    ∙ ap (λ (ys : List ℕ). take done (drop offset held) ++ ys) (next ∙ ap (take (end - done)) (sym (drop-drop done offset held)))
    ∙ sym (take-part done end (drop offset held) before)

-- WRITES

-- nothing was written yet
pub written_none : (offset : ℕ) (held : List ℕ) → written_over held offset [] ≡ held
unfolding written_over
written_none offset held =
    let none : offset + 0 ≡ offset = omega arith in
    ap (λ (n : ℕ). take offset held ++ drop n held) none ∙ take-append-drop offset held

-- bytes behind those that were written
pub written_more : (offset : ℕ) (held first second : List ℕ) → offset + length first ≤ length held
    → written_over (written_over held offset first) (offset + length first) second ≡ written_over held offset (first ++ second)
unfolding written_over
written_more offset held first second fits =
    let front : List ℕ = take offset held ++ first in
    let rest : List ℕ = drop (offset + length first) held in
    let size : length front ≡ offset + length first =
    length-append (take offset held) first ∙ ap (λ (n : ℕ). n + length first) (length-take-le offset held (omega arith)) in
    let same : take offset held ++ (first ++ rest) ≡ front ++ rest = sym (append_assoc (take offset held) first rest) in
    let total : offset + length first + length second ≡ offset + length (first ++ second) = omega (arith, length-append first second) in
    ap (λ (xs : List ℕ). take (offset + length first) xs ++ (second ++ drop (offset + length first + length second) xs)) same
    ∙ ap (λ (xs : List ℕ). xs ++ (second ++ drop (offset + length first + length second) (front ++ rest))) (take_at front rest (offset + length first) size)
    ∙ ap (λ (n : ℕ). front ++ (second ++ drop n (front ++ rest))) (ap (λ (n : ℕ). n + length second) (sym size))
    ∙ ap (λ (xs : List ℕ). front ++ (second ++ xs)) (drop-append-add front rest (length second))
    ∙ ap (λ (xs : List ℕ). front ++ (second ++ xs)) (drop-drop (length second) (offset + length first) held ∙ ap (λ (n : ℕ). drop n held) total)
    ∙ append_assoc (take offset held) first (second ++ drop (offset + length (first ++ second)) held)
    ∙ ap (λ (xs : List ℕ). take offset held ++ xs) (sym (append_assoc first second (drop (offset + length (first ++ second)) held)))

-- a part of a block that is written with the rest of the block
pub written_block : (at : ℕ) (part whole held : List ℕ) → at % 512 + length part ≤ 512 → whole ≡ take 512 (drop (512 * (at / 512)) held)
    → 512 * (at / 512) + 512 ≤ length held
    → written_over held (512 * (at / 512)) (take (at % 512) whole ++ (part ++ drop (length part) (drop (at % 512) whole))) ≡ written_over held at part
unfolding written_over
written_block at part whole held fits is inside =
    let skip : ℕ = at % 512 in
    let start : ℕ = 512 * (at / 512) in
    let rest : List ℕ = drop start held in
    let some : length whole ≡ 512 = ap length is ∙ length-take-le 512 rest (omega (arith, length-drop start held)) in
    let tail : List ℕ = drop (skip + length part) whole in
    let behind : drop (length part) (drop skip whole) ≡ tail = drop-drop (length part) skip whole in
    let before : take skip whole ≡ take skip rest = ap (take skip) is ∙ take-take skip 512 rest (omega arith) in
    let mid : List ℕ = take skip whole ++ (part ++ tail) in
    let size : length mid ≡ 512 =
    omega (
      arith,
      length-append (take skip whole) (part ++ tail),
      length-append part tail,
      length-take-le skip whole (omega (arith, some)),
      length-drop (skip + length part) whole,
      some,
    ) in
    let over : drop (start + length mid) held ≡ drop 512 rest =
    ap (λ (n : ℕ). drop (start + n) held) size ∙ sym (drop-drop 512 start held) in
    let joined : tail ++ drop 512 rest ≡ drop (skip + length part) rest =
    ap (λ (w : List ℕ). drop (skip + length part) w ++ drop 512 rest) is
    ∙ sym (drop-append-le (skip + length part) (take 512 rest) (drop 512 rest) (omega (arith, ap length (sym is), some)))
    ∙ ap (drop (skip + length part)) (take-append-drop 512 rest) in
    let place : start + (skip + length part) ≡ at + length part = omega (arith, by_block at) in
    let end : drop (skip + length part) rest ≡ drop (at + length part) held =
    drop-drop (skip + length part) start held ∙ ap (λ (n : ℕ). drop n held) place in
    let lead : take start held ++ take skip rest ≡ take at held =
    let long : (start + skip) - start ≡ skip = omega arith in
    ap (λ (n : ℕ). take start held ++ take n rest) (sym long) ∙ sym (take-part start (start + skip) held (omega arith))
    ∙ ap (λ (n : ℕ). take n held) (by_block at) in
    ap (λ (t : List ℕ). written_over held start (take skip whole ++ (part ++ t))) behind
    ∙ ap (λ (xs : List ℕ). take start held ++ (mid ++ xs)) over
    ∙ ap (λ (xs : List ℕ). take start held ++ xs) (append_assoc (take skip whole) (part ++ tail) (drop 512 rest))
    ∙ ap (λ (xs : List ℕ). take start held ++ (take skip whole ++ xs)) (append_assoc part tail (drop 512 rest) ∙ ap (λ (xs : List ℕ). part ++ xs) (joined ∙ end))
    ∙ ap (λ (xs : List ℕ). take start held ++ (xs ++ (part ++ drop (at + length part) held))) before
    ∙ sym (append_assoc (take start held) (take skip rest) (part ++ drop (at + length part) held))
    ∙ ap (λ (xs : List ℕ). xs ++ (part ++ drop (at + length part) held)) lead

-- bytes that were copied over a part of a block, which was written then
pub written_piece : (at k : ℕ) (part copied whole held now : List ℕ) → at % 512 + length part ≤ 512 → copied ≡ part → k ≡ length part
    → whole ≡ take 512 (drop (512 * (at / 512)) held) → 512 * (at / 512) + 512 ≤ length held
    → now ≡ written_over held (512 * (at / 512)) (put_mid (at % 512) k whole copied) → now ≡ written_over held at part
written_piece at k part copied whole held now fits same size is inside put =
    put
    ∙ ap (λ (ys : List ℕ). written_over held (512 * (at / 512)) (put_mid (at % 512) k whole ys)) same
    ∙ ap (λ (n : ℕ). written_over held (512 * (at / 512)) (put_mid (at % 512) n whole part)) size
    ∙ written_block at part whole held fits is inside

-- bytes that are no whole blocks lie in one block
pub piece_fits : (at count : ℕ) → IsPiece at count → (at % 512 ≡ 0 → count % 512 ≡ 0 → ⊥) → at % 512 + count ≤ 512
piece_fits at count piece odd =
    elim piece.shape [ inl whole ↦ absurd (odd whole.0 whole.1) | inr inside ↦ inside ]

pub on_ok : {T E P Q : Type 0} (r : Result T E) → (P → Q) → OnOk r P → OnOk r Q
on_ok (Ok x) f p = f p
on_ok (Err e) f p = p

pub length-put_mid : (a k : ℕ) (xs ys : List ℕ) → length ys ≡ k → a + k ≤ length xs → length (put_mid a k xs ys) ≡ length xs
length-put_mid a k xs ys size fits =
    omega (
      arith,
      length-append (take a xs) (ys ++ drop k (drop a xs)),
      length-append ys (drop k (drop a xs)),
      length-drop k (drop a xs),
      length-drop a xs,
      length-take-le a xs (omega arith),
      size,
    )
