-- Ranges of a memory in which something was written.
use Rattle.std.proofs.Common.{◌≡◌, ◌≢◌, ℕ, ◌+◌, ◌<◌, ◌⊎◌, List, length, Some, arith, inl, inr}
use Rattle.std.proofs.lemmas.Bool.{cases_lt}
use Rattle.guest_memory.specs.Bytes.{Memory, bytes_from, written}
use Rattle.guest_memory.specs.Ranges.{from_each, out_before, out_behind, same_from, written_ahead, written_beside}
use Rattle.guest_profile.specs.Layout.{AreApart}

-- different numbers
pub less_or_more : (k place : ℕ) → k ≢ place → (k < place) ⊎ (place < k)
less_or_more k place differs = elim (cases_lt k place) [
  | inl less ↦ inl less
  | inr more ↦ elim (cases_lt place k) [ inl past ↦ inr past | inr least ↦ absurd (differs (omega arith)) ]
]

-- what was written stands there
pub written-read : (memory : Memory) (at n : ℕ) (bytes : List ℕ) → length bytes ≡ n → bytes_from (written memory at bytes) at n ≡ Some bytes
written-read memory at n bytes size =
    from_each (written memory at bytes) at n bytes size (λ k below. written_ahead memory at bytes k (omega (arith, size, below)))

-- and a range apart from it stays
pub written-apart : (memory : Memory) (at : ℕ) (bytes : List ℕ) (a n : ℕ) → AreApart a n at (length bytes)
    → bytes_from (written memory at bytes) a n ≡ bytes_from memory a n
written-apart memory at bytes a n (inl before) =
    same_from (written memory at bytes) memory a n (λ k below. written_beside memory at bytes (a + k) (out_before at (length bytes) (a + k) (omega (arith, below))))
written-apart memory at bytes a n (inr behind) =
    same_from (written memory at bytes) memory a n (λ k below. written_beside memory at bytes (a + k) (out_behind at (length bytes) (a + k) (omega (arith, behind))))
