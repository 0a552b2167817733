-- A ring of items that are TRBs, as a ring of TRBs.
use Rattle.std.proofs.Common.{◌≡◌, ℕ, ◌+◌, ◌-◌, ◌*◌, ◌%◌, ◌≤◌, Bool, true, false, List, ◌++◌, [], ◌∷◌, All, length, map, drop, Option, Some, None, zero, suc}
use Rattle.std.proofs.Common.{slice_get, nat_lt, refl, sym, ap, subst, ◌∙◌, arith, if◌then◌else◌}
use Rattle.std.specs.Prelude.{option_map, option_and_then}
use Rattle.std.proofs.lemmas.List.{length-map, map-append, drop-map}
use Rattle.std.proofs.lemmas.Option.{same_Some, slice_get-map}
use Rattle.xhci_trb.specs.declared.Trb.{Trb}
use Rattle.xhci_trb.specs.Text.{HasText, has_chain, text}
use Rattle.cycle_ring.specs.Ring.{Ring, IsRing, link_with, consumed_at, consumed_item, cycle_of, item_at, pointer_of}
use Rattle.cycle_ring.specs.Items.{Item, ItemRing, IsItemRing, HasBytes, item_chain, item_text, known, known_of, trb_of, trb_ring, AreTrbs}
use Rattle.cycle_ring.specs.Items.{AgreesOn, TrbRingsAgree, TrbsArePut, TrbsAreFreed}

-- items of TRBs, and their TRBs
pub trbs_of-known : (trbs : List Trb) → map trb_of (map known trbs) ≡ trbs
trbs_of-known [] = refl
trbs_of-known (trb ∷ trbs) = ap (λ (rest : List Trb). trb ∷ rest) (trbs_of-known trbs)

All-texts : (trbs : List Trb) → All HasBytes (map known trbs) → All HasText trbs
All-texts [] all k d within = absurd (omega arith)
All-texts (trb ∷ trbs) all zero d within = all 0 (known trb) (omega arith)
All-texts (trb ∷ trbs) all (suc k) d within = All-texts trbs (λ i e inside. all (suc i) e (omega arith)) k d (omega arith)

-- an item of a ring of TRBs
item-trb : (r : ItemRing) (k : ℕ) → AreTrbs r → slice_get r.put k ≡ option_map known (slice_get (trb_ring r).put k)
item-trb r k are = ap (λ (put : List Item). slice_get put k) are ∙ slice_get-map known (map trb_of r.put) k

known_of-known : (found : Option Trb) → option_and_then known_of (option_map known found) ≡ found
known_of-known None = refl
known_of-known (Some trb) = refl

chain-known : (found : Option Trb) → option_map item_chain (option_map known found) ≡ option_map has_chain found
chain-known None = refl
chain-known (Some trb) = refl

text-known : (cycle : Bool) (found : Option Trb) → option_map (λ item. item_text item cycle) (option_map known found) ≡ option_map (λ trb. text trb cycle) found
text-known cycle None = refl
text-known cycle (Some trb) = refl

link-known : (base : ℕ) (cycle : Bool) (found : Option Trb)
    → option_map (λ item. text (link_with base (item_chain item)) cycle) (option_map known found)
    ≡ option_map (λ trb. text (link_with base (has_chain trb)) cycle) found
link-known base cycle None = refl
link-known base cycle (Some trb) = refl

-- the consumed ones
consumed-trb : (r : ItemRing) (k : ℕ) → AreTrbs r → consumed_item r k ≡ option_map known (consumed_item (trb_ring r) k)
consumed-trb r k are = passed (nat_lt k r.got)
  where
    passed : (b : Bool) → (if b then slice_get r.put k else None) ≡ option_map known (if b then slice_get (trb_ring r).put k else None)
    passed true = item-trb r k are
    passed false = refl

consumed_at-trb : (n : ℕ) (r : ItemRing) (pointer : ℕ) → AreTrbs r → consumed_at n r pointer ≡ option_map known (consumed_at n (trb_ring r) pointer)
consumed_at-trb n r pointer are = named (item_at n r pointer)
  where
    named : (found : Option ℕ) → option_and_then (consumed_item r) found ≡ option_map known (option_and_then (consumed_item (trb_ring r)) found)
    named None = refl
    named (Some k) = consumed-trb r k are

pub ring-trb : (n : ℕ) (r : ItemRing) → AreTrbs r → IsItemRing n r → IsRing n (trb_ring r)
ring-trb n r are ring =
    let size = length-map r.put trb_of in
    record {
      least_places = ring.least_places;
      most_places = ring.most_places;
      base_aligned = ring.base_aligned;
      base_below = ring.base_below;
      at_below = ring.at_below;
      consumed = omega (arith, ring.consumed);
      room_left = omega (arith, ring.room_left);
      texts = All-texts (map trb_of r.put) (subst (All HasBytes) are ring.texts);
    }

pub agrees : TrbRingsAgree
agrees n r are = record {
  ring = ring-trb n r are;
  item = λ k trb is. slice_get-map trb_of r.put k ∙ ap (option_map trb_of) is;
  front = ap (λ (found : Option Item). option_map (λ trb. (pointer_of n r r.got, trb)) (option_and_then known_of found)) (item-trb r r.got are)
      ∙ ap (option_map (λ trb. (pointer_of n r r.got, trb))) (known_of-known (slice_get (trb_ring r).put r.got));
  consumed = λ pointer. ap (option_and_then known_of) (consumed_at-trb n r pointer are) ∙ known_of-known (consumed_at n (trb_ring r) pointer);
  chain = λ pointer. ap (option_map item_chain) (consumed_at-trb n r pointer are) ∙ chain-known (consumed_at n (trb_ring r) pointer);
  oldest = ap (λ (found : Option Item). option_map (λ trb. (pointer_of n r 0, trb)) (option_and_then known_of found)) (consumed-trb r 0 are)
      ∙ ap (option_map (λ trb. (pointer_of n r 0, trb))) (known_of-known (consumed_item (trb_ring r) 0));
  image = λ k. ap (option_map (λ item. item_text item (cycle_of n r k))) (item-trb r k are) ∙ text-known (cycle_of n r k) (slice_get (trb_ring r).put k);
  link = λ k. ap (option_map (λ item. text (link_with r.base (item_chain item)) (cycle_of n r k))) (item-trb r k are)
      ∙ link-known r.base (cycle_of n r k) (slice_get (trb_ring r).put k);
}

pub put-trbs : TrbsArePut
put-trbs r trbs are =
    let shown : map trb_of (r.put ++ map known trbs) ≡ map trb_of r.put ++ trbs =
    map-append trb_of r.put (map known trbs) ∙ ap (λ (rest : List Trb). map trb_of r.put ++ rest) (trbs_of-known trbs) in
    let back : map known (map trb_of (r.put ++ map known trbs)) ≡ map known (map trb_of r.put) ++ map known trbs =
    ap (map known) shown ∙ map-append known (map trb_of r.put) trbs in (
      ap (λ (rest : List Item). rest ++ map known trbs) are ∙ sym back,
      ap (λ (put : List Trb). record (trb_ring r) { put = put }) shown,
    )

pub freed-trbs : TrbsAreFreed
freed-trbs n m r are =
    let shown : map trb_of (drop m r.put) ≡ drop m (map trb_of r.put) = sym (drop-map trb_of m r.put) in
    let back : map known (map trb_of (drop m r.put)) ≡ drop m (map known (map trb_of r.put)) =
    ap (map known) shown ∙ sym (drop-map known m (map trb_of r.put)) in (
      ap (drop m) are ∙ sym back,
      ap (λ (put : List Trb). record (trb_ring r) { at = (r.at + m) % (2 * (n - 1)); put = put; got = r.got - m }) shown,
    )
