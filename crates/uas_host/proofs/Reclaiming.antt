-- A ring whose consumed TRBs are freed one after another.
use Rattle.std.proofs.Common.{◌≡◌, ℕ, zero, suc, ◌+◌, ◌-◌, ◌*◌, ◌%◌, List, [], ◌∷◌, drop, refl, arith, ap, ◌∙◌}
use Rattle.std.proofs.Math.Nat.{mod-add-mod}
use Rattle.cycle_ring.specs.Ring.{reclaimed}
use Rattle.cycle_ring.specs.Items.{Item, ItemRing}

dropped_further : (put : List Item) (more : ℕ) → drop more (drop 1 put) ≡ drop (suc more) put
dropped_further [] zero = refl
dropped_further [] (suc more) = refl
dropped_further (trb ∷ rest) more = refl

-- the first TRB, and then more of them
pub reclaimed_further : (places : ℕ) (ring : ItemRing) (more : ℕ) → reclaimed places more (reclaimed places 1 ring) ≡ reclaimed places (suc more) ring
reclaimed_further places ring more =
    let turns : ℕ = 2 * (places - 1) in
    let next : ring.at + 1 + more ≡ ring.at + suc more = omega arith in
    let at : ((ring.at + 1) % turns + more) % turns ≡ (ring.at + suc more) % turns = mod-add-mod (ring.at + 1) turns more ∙ ap (λ n. n % turns) next in
    let put = dropped_further ring.put more in
    let got : ring.got - 1 - more ≡ ring.got - suc more = omega arith in
    λ i. record { base = ring.base; at = at i; put = put i; got = got i }
