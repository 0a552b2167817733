-- Zeros that are written part after part.
use Rattle.std.proofs.Common.{◌≡◌, ℕ, ◌+◌, ◌≤◌, List, ◌++◌, subst, sym, ap, ◌∙◌, Option, take}
use Rattle.std.specs.Prelude.{replicate}
use Rattle.std.specs.Io.KnownBytes.{Appends}
use Rattle.std.proofs.KnownBytes.{Appends-trans}
use Rattle.std.proofs.lemmas.List.{take-replicate, replicate-append-replicate}

-- after so many zeros, those at the front of a longer part
pub zeros_after : (old middle new : Option (List ℕ)) (done count part total : ℕ) (zeros : List ℕ) → zeros ≡ replicate part 0 → count ≤ part
    → total ≡ done + count → Appends old middle (replicate done 0) → Appends middle new (take count zeros)
    → Appends old new (replicate total 0)
zeros_after old middle new done count part total zeros same fits sum before after =
    let front : take count zeros ≡ replicate count 0 = ap (take count) same ∙ take-replicate count part 0 fits in
    let joined : replicate done 0 ++ replicate count 0 ≡ replicate total 0 = replicate-append-replicate done count 0 ∙ ap (λ n. replicate n 0) (sym sum) in
    subst (Appends old new) joined (Appends-trans old middle new _ _ before (subst (Appends middle new) front after))
