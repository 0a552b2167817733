-- Which places are marked once one was marked, or its mark taken away.
use Rattle.std.proofs.Common.{◌≡◌, ℕ, ◌/◌, ◌%◌, ◌<◌, ◌==◌, Bool, true, false, List, length, get_or, set, refl, ap, sym, ◌∙◌, arith, w64}
use Rattle.std.specs.Int.{bit_at}
use Rattle.std.proofs.lemmas.Bool.{eqb-true, eqb-false}
use Rattle.std.proofs.lemmas.List.{get_or-set_same, get_or-set_other}
use Rattle.std.proofs.lemmas.Nat.Bits.{bit_at_set_same, bit_at_set_other, bit_at_clear_other}
use Rattle.marks.specs.Marks.{is_marked, with_bit, with_mark}

bit_here : (word bit : ℕ) → bit < 64 → bit_at (with_bit word bit true) bit ≡ 1
bit_here word bit below = bit_at_set_same w64 word bit below

bit_other : (word bit : ℕ) (marked : Bool) (other : ℕ) → bit < 64 → other < 64 → (other ≡ bit → ⊥)
    → bit_at (with_bit word bit marked) other ≡ bit_at word other
bit_other word bit true other below within apart = bit_at_set_other w64 word bit below other apart
bit_other word bit false other below within apart = bit_at_clear_other w64 word bit below other within apart

pub marked_here : (words : List ℕ) (place : ℕ) → place / 64 < length words → is_marked (with_mark words place true) place ≡ true
marked_here words place within =
    let word = with_bit (get_or words (place / 64) 0) (place % 64) true in
    ap (λ (w : ℕ). bit_at w (place % 64) == 1) (get_or-set_same words (place / 64) word 0 within)
    ∙ ap (λ (bit : ℕ). bit == 1) (bit_here (get_or words (place / 64) 0) (place % 64) (omega arith))

other_by : (words : List ℕ) (place : ℕ) (marked : Bool) (other : ℕ) (same : Bool) → (other / 64 == place / 64) ≡ same → place / 64 < length words
    → (other ≡ place → ⊥) → is_marked (with_mark words place marked) other ≡ is_marked words other
other_by words place marked other true is within apart =
    let here : other / 64 ≡ place / 64 = eqb-true (other / 64) (place / 64) is in
    let old = get_or words (place / 64) 0 in
    let word = with_bit old (place % 64) marked in
    let bits : other % 64 ≡ place % 64 → ⊥ = λ e. apart (omega (arith, here, e)) in
    ap (λ (k : ℕ). bit_at (get_or (set words (place / 64) word) k 0) (other % 64) == 1) here
    ∙ ap (λ (w : ℕ). bit_at w (other % 64) == 1) (get_or-set_same words (place / 64) word 0 within)
    ∙ ap (λ (bit : ℕ). bit == 1) (bit_other old (place % 64) marked (other % 64) (omega arith) (omega arith) bits)
    ∙ sym (ap (λ (k : ℕ). bit_at (get_or words k 0) (other % 64) == 1) here)
other_by words place marked other false is within apart =
    ap (λ (w : ℕ). bit_at w (other % 64) == 1)
    (get_or-set_other words (place / 64) (other / 64) (with_bit (get_or words (place / 64) 0) (place % 64) marked) 0 (eqb-false (other / 64) (place / 64) is))

pub marked_other : (words : List ℕ) (place : ℕ) (marked : Bool) (other : ℕ) → place / 64 < length words → (other ≡ place → ⊥)
    → is_marked (with_mark words place marked) other ≡ is_marked words other
marked_other words place marked other within apart = other_by words place marked other (other / 64 == place / 64) refl within apart
