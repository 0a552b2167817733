-- What is noted at the beginning, and of equal memories; a number of two loans is of these two alone.
use Rattle.std.proofs.Common.{◌≡◌, ℕ, zero, suc, Bool, false, [], refl, ap, sym, subst, arith}
use Rattle.std.proofs.lemmas.Bool.{le-ltb}
use Rattle.guest_memory.specs.Bytes.{Memory}
use Rattle.guest_memory.specs.notes.Notes.{AreNoted, Notes, all_written, both_loans}

-- before the first write
pub none_noted : (memory : Memory) (room : ℕ) → AreNoted memory memory room ([], false)
unfolding all_written
none_noted memory zero = ∣ ([], refl, refl) ∣₁
none_noted memory (suc room) = ∣ ([], refl, ap (λ (lost : Bool). ([], lost)) (sym (le-ltb (suc room) 0 (omega arith)))) ∣₁

-- of equal memories and notes
pub same_noted : (began first now after : Memory) (room places : ℕ) (had has : Notes) → AreNoted began now room had → began ≡ first → now ≡ after
    → room ≡ places → had ≡ has → AreNoted first after places has
same_noted began first now after room places had has told begins is count notes =
    subst (λ (memory : Memory). AreNoted memory after places has) begins
    (subst (λ (memory : Memory). AreNoted began memory places has) is
    (subst (λ (n : ℕ). AreNoted began now n has) count (subst (λ (noted : Notes). AreNoted began now room noted) notes told)))

same_loans : (one other first second : ℕ) → both_loans one other ≡ both_loans first second → (one ≡ first) × (other ≡ second)
unfolding both_loans
same_loans zero other zero second e = (omega arith, omega (arith, e))
same_loans zero other (suc first) second e = absurd (omega (arith, e))
same_loans (suc one) other zero second e = absurd (omega (arith, e))
same_loans (suc one) other (suc first) second e =
    let half : both_loans one other ≡ both_loans first second = omega (arith, e) in
    let same = same_loans one other first second half in
    (ap suc same.0, same.1)

pub same_first : (one other first second : ℕ) → both_loans one other ≡ both_loans first second → one ≡ first
same_first one other first second e = (same_loans one other first second e).0

pub same_second : (one other first second : ℕ) → both_loans one other ≡ both_loans first second → other ≡ second
same_second one other first second e = (same_loans one other first second e).1
