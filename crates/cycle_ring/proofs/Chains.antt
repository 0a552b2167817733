-- Items put behind a ring's others.
use Rattle.std.proofs.Common.{◌≡◌, ℕ, zero, suc, ◌+◌, ◌-◌, ◌<◌, ◌≤◌, All, List, [], ◌∷◌, ◌++◌, length, length-append, map, arith, inl, inr}
use Rattle.std.proofs.lemmas.List.Elements.{All-append}
use Rattle.xhci_trb.specs.declared.Trb.{Trb}
use Rattle.xhci_trb.specs.Text.{HasText}
use Rattle.cycle_ring.specs.Ring.{IsTd}
use Rattle.cycle_ring.specs.Items.{Item, ItemRing, IsItemRing, HasBytes, known}

-- a TD has a TRB
pub IsTd-some : (trbs : List Trb) → IsTd trbs → 0 < length trbs
IsTd-some [] (inl h) = absurd h
IsTd-some [] (inr h) = absurd h
IsTd-some (trb ∷ rest) h = omega arith

-- TRBs with texts are items with bytes
pub All-known : (trbs : List Trb) → All HasText trbs → All HasBytes (map known trbs)
All-known [] all k d within = absurd (omega arith)
All-known (trb ∷ trbs) all zero d within = all 0 trb (omega arith)
All-known (trb ∷ trbs) all (suc k) d within = All-known trbs (λ i e inside. all (suc i) e (omega arith)) k d (omega arith)

pub All-one : (item : Item) → HasBytes item → All HasBytes (item ∷ [])
All-one item has zero d within = has
All-one item has (suc k) d within = absurd (omega arith)

-- a ring with items put behind its others
pub IsRing-put : (n : ℕ) (r : ItemRing) (items : List Item) → IsItemRing n r → All HasBytes items
    → length r.put + length items ≤ n - 2 → IsItemRing n (record r { put = r.put ++ items })
IsRing-put n r items ring texts room =
    let size = length-append r.put items in
    let old = ring.consumed in
    record {
      least_places = ring.least_places;
      most_places = ring.most_places;
      base_aligned = ring.base_aligned;
      base_below = ring.base_below;
      at_below = ring.at_below;
      consumed = omega arith;
      room_left = omega arith;
      texts = All-append HasBytes r.put items ring.texts texts;
    }
