-- No range that isn't empty begins at 2 ^ 64 or above.
use Rattle.std.proofs.Common.{◌≡◌, ℕ, ◌+◌, ◌<◌, ◌≤◌, ◌^◌, true, false, refl, sym, ap, ◌∙◌, arith, inl, inr}
use Rattle.std.proofs.lemmas.Bool.{cases_lt, false≢true}
use Rattle.std.specs.Prelude.{None, is_some}
use Rattle.guest_memory.specs.Bytes.{Memory, IsWithinAddresses, bytes_from, is_there}
use Rattle.guest_memory.specs.Ranges.{lacks}
use Rattle.guest_memory.specs.declared.rings.context.Home.TheVariants.{Stream}
use Rattle.guest_memory.specs.rings.Ends.{looked}

pub past_end : (memory : Memory) (at n : ℕ) → IsWithinAddresses memory → 1 ≤ n → 2 ^ 64 ≤ at → is_there memory at n ≡ false
past_end memory at n ends some past =
    let here : at + 0 ≡ at = omega arith in
    ap is_some (lacks memory at n 0 some (ap memory here ∙ ends at past))

pub starts_below : (memory : Memory) (at n : ℕ) → IsWithinAddresses memory → 1 ≤ n → is_there memory at n ≡ true → at < 2 ^ 64
starts_below memory at n ends some there = elim (cases_lt at (2 ^ 64)) [
  | inl below ↦ below
  | inr past ↦ absurd (false≢true (sym (past_end memory at n ends some past) ∙ there))
]

-- no stream context begins there
pub looked_past : (memory : Memory) (at : ℕ) → IsWithinAddresses memory → 2 ^ 64 ≤ at → looked memory (Stream at) ≡ None
unfolding looked
looked_past memory at ends past =
    let here : at + 0 ≡ at = omega arith in
    let none : bytes_from memory at 16 ≡ None = lacks memory at 16 0 (omega arith) (ap memory here ∙ ends at past) in
    rw none refl
