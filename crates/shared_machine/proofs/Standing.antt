-- Places of a list: what stands there, and what a write leaves.
use Rattle.std.proofs.Common.{◌≡◌, ℕ, zero, suc, ◌<◌, ◌≤◌, false, List, [], ◌∷◌, length, Option, Some, None, is_some, refl, arith, ap, sym}
use Rattle.std.specs.Prelude.{slice_get, slice_set}
use Rattle.std.proofs.lemmas.Bool.{false≢true}
use Rattle.std.proofs.lemmas.Option.{none-some}
use Rattle.std.proofs.lemmas.List.{get_or-set_same, get_or-set_other}
use Rattle.scsi_cmd.specs.Held.{held_under, with_held_under}

-- PLACES OF A LIST

pub held_under-with_same : {T : Type 0} (places : List (Option T)) (tag : ℕ) (now : Option T) → 0 < tag → tag ≤ length places
    → held_under (with_held_under places tag now) tag ≡ now
held_under-with_same places zero now some within = absurd (omega arith)
held_under-with_same places (suc slot) now some within = get_or-set_same places slot now None (omega arith)

pub held_under-with_other : {T : Type 0} (places : List (Option T)) (tag other : ℕ) (now : Option T) → (other ≡ tag → ⊥)
    → held_under (with_held_under places tag now) other ≡ held_under places other
held_under-with_other places zero other now apart = refl
held_under-with_other places (suc slot) zero now apart = refl
held_under-with_other places (suc slot) (suc at) now apart = get_or-set_other places slot at now None (λ same. apart (ap suc same))

-- what was there may be written again
pub slice_get-back : {T : Type 0} (list : List T) (at : ℕ) (now : T) → slice_get list at ≡ Some now → slice_set list at now ≡ list
slice_get-back {T} [] at now is = refl
slice_get-back (first ∷ rest) zero now is = let same : first ≡ now = cc in ap (λ x. x ∷ rest) (sym same)
slice_get-back (first ∷ rest) (suc at) now is = ap (λ xs. first ∷ xs) (slice_get-back rest at now is)

pub get-within : {T : Type 0} (list : List T) (at : ℕ) (some : T) → slice_get list at ≡ Some some → at < length list
get-within [] at some is = absurd (none-some some is)
get-within (first ∷ rest) zero some is = omega arith
get-within (first ∷ rest) (suc at) some is = omega (arith, get-within rest at some is)

-- what isn't in a list is past its end
pub get-none : {T : Type 0} (list : List T) (at : ℕ) → slice_get list at ≡ None → length list ≤ at
get-none [] at none = omega arith
get-none (first ∷ rest) zero none = absurd (none-some first (sym none))
get-none (first ∷ rest) (suc at) none = omega (arith, get-none rest at none)

pub not_some : {T : Type 0} (held : Option T) → is_some held ≡ false → held ≡ None
not_some None is = refl
not_some (Some x) is = absurd (false≢true (sym is))

-- what was written is there
pub slice_get-slice_set_same : {T : Type 0} (list : List T) (at : ℕ) (was now : T) → slice_get list at ≡ Some was
    → slice_get (slice_set list at now) at ≡ Some now
slice_get-slice_set_same [] at was now is = absurd (none-some was is)
slice_get-slice_set_same (first ∷ rest) zero was now is = refl
slice_get-slice_set_same (first ∷ rest) (suc at) was now is = slice_get-slice_set_same rest at was now is

-- elsewhere a write changes nothing
pub slice_get-slice_set_other : {T : Type 0} (list : List T) (at other : ℕ) (now : T) → (at ≡ other → ⊥)
    → slice_get (slice_set list at now) other ≡ slice_get list other
slice_get-slice_set_other [] at other now apart = refl
slice_get-slice_set_other (first ∷ rest) zero zero now apart = absurd (apart refl)
slice_get-slice_set_other (first ∷ rest) zero (suc other) now apart = refl
slice_get-slice_set_other (first ∷ rest) (suc at) zero now apart = refl
slice_get-slice_set_other (first ∷ rest) (suc at) (suc other) now apart = slice_get-slice_set_other rest at other now (λ same. apart (ap suc same))
