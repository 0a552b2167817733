-- What is told of clients, one by one.
use Rattle.std.proofs.Common.{◌≡◌, ◌∙◌, ℕ, ◌+◌, ◌<◌, Bool, false, List, [], ◌∷◌, ◌++◌, length, get_or, ap, sym, subst, arith, below_more}
use Rattle.std.proofs.Math.ListN.{get_or-append}
use Rattle.std.proofs.Math.Seq.{get_or-append_seam}

-- one more that is told
pub told_more : (P : ℕ → Bool → Type 0) (at : ℕ) (audits more : List Bool) (told : Bool) → length audits ≡ at → more ≡ audits ++ told ∷ []
    → ((k : ℕ) → k < at → P k (get_or audits k false)) → P at told → (k : ℕ) → k < at + 1 → P k (get_or more k false)
told_more P at audits more told long is before here =
    let last : get_or more at false ≡ told =
    ap (λ (l : List Bool). get_or l at false) is ∙ (ap (λ (n : ℕ). get_or (audits ++ told ∷ []) n false) (sym long) ∙ get_or-append_seam audits told [] false) in
    below_more (λ k. P k (get_or more k false)) at
    (λ k h. let early : k < length audits = omega (arith, h, long) in
    subst (P k) (sym (ap (λ (l : List Bool). get_or l k false) is ∙ get_or-append audits (told ∷ []) false k early)) (before k h))
    (subst (P at) (sym last) here)
