-- Rings, and what is kept of them apart.
use Rattle.std.proofs.Common.{◌≡◌, ℕ, zero, suc, Bool, false, List, [], ◌∷◌, length, replicate, refl, ap, arith}
use Rattle.guest_pipes.specs.declared.progress.Progress.{Progress}
use Rattle.guest_pipes.specs.Progress.{fresh}
use Rattle.machine_bytes.specs.Sparse.{made_places}
use Rattle.controller_bytes.specs.Pipes.{Ring, doorbells_of, progresses_of, quiet_ring, rings_of}

replicated : (n : ℕ) → rings_of (replicate n false) (replicate n fresh) ≡ replicate n quiet_ring
replicated zero = refl
replicated (suc n) = ap (λ (l : List Ring). quiet_ring ∷ l) (replicated n)

pub rings_made : (n : ℕ) → rings_of (made_places n false) (made_places n fresh) ≡ made_places n quiet_ring
unfolding made_places
rings_made n = replicated n

pub doorbells_back : (rung : List Bool) (progress : List Progress) → length rung ≡ length progress → doorbells_of (rings_of rung progress) ≡ rung
doorbells_back [] progress e = refl
doorbells_back (r ∷ rung) [] e = absurd (omega (arith, e))
doorbells_back (r ∷ rung) (p ∷ progress) e = ap (λ (l : List Bool). r ∷ l) (doorbells_back rung progress (omega (arith, e)))

pub progresses_back : (rung : List Bool) (progress : List Progress) → length rung ≡ length progress → progresses_of (rings_of rung progress) ≡ progress
progresses_back [] [] e = refl
progresses_back [] (p ∷ progress) e = absurd (omega (arith, e))
progresses_back (r ∷ rung) [] e = absurd (omega (arith, e))
progresses_back (r ∷ rung) (p ∷ progress) e = ap (λ (l : List Progress). p ∷ l) (progresses_back rung progress (omega (arith, e)))
