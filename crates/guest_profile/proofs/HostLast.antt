-- A TRB is put at the last place before the Link, with the Link, over a memory that is laid out.
use Rattle.std.proofs.Common.{◌≡◌, ℕ, ◌+◌, ◌-◌, ◌*◌, ◌%◌, ◌<◌, ◌≤◌, List, [], ◌∷◌, ◌++◌, length, length-append, length-set, set, Some, slice_get, slice_index_or, refl, sym, ap, ◌∙◌, arith, inl, inr}
use Rattle.std.proofs.lemmas.Bool.{cases_eq}
use Rattle.std.proofs.lemmas.List.{get_or-set_other, get_or-set_same}
use Rattle.xhci_trb.specs.declared.Trb.{Trb}
use Rattle.xhci_trb.specs.Text.{HasText, has_chain, text}
use Rattle.ring_ends.specs.Held.{IsText}
use Rattle.ring_ends.specs.TurnLaws.{place_ahead}
use Rattle.cycle_ring.specs.Ring.{cycle_of, link_with, place_of, pointer_of}
use Rattle.cycle_ring.specs.Items.{ItemRing, item_form, known}
use Rattle.cycle_ring.proofs.Chains.{IsRing-put}
use Rattle.cycle_ring.proofs.Held.{HoldsItems-link}
use Rattle.cycle_ring.proofs.Read.{item_read-text}
use Rattle.stream_array.specs.Map.{places_of}
use Rattle.stream_array.specs.Rings.{ring_of}
use Rattle.guest_memory.specs.Bytes.{Memory, bytes_from, written}
use Rattle.guest_memory.specs.Parts.{get_left, get_right}
use Rattle.guest_memory.specs.Ranges.{from_each, written_ahead}
use Rattle.guest_memory.specs.declared.rings.context.Home.{Home}
use Rattle.guest_memory.specs.rings.Ends.{home_at, home_size}
use Rattle.guest_profile.specs.Rings.{HasPlaces, HoldsRing}
use Rattle.guest_profile.specs.Layout.{AreApart, KeepsEnd, kept_at}
use Rattle.guest_profile.specs.Host.{TrbIsPutLast, last_texts, with_trb}
use Rattle.guest_profile.proofs.Apart.{kept_beside, ring_bounds}
use Rattle.guest_profile.proofs.Events.{length-text}
use Rattle.guest_profile.proofs.LaidRings.{All-one, inside_beside, laid_ring}
use Rattle.guest_profile.proofs.Ranges.{written-apart}
use Rattle.guest_profile.proofs.Rings.{cycle_in-text}

-- two texts behind one another
first_of : (memory : Memory) (at : ℕ) (a b : List ℕ) → length a ≡ 16 → length b ≡ 16 → bytes_from (written memory at (a ++ b)) at 16 ≡ Some a
first_of memory at a b size other =
    let sum = length-append a b in
    from_each (written memory at (a ++ b)) at 16 a size (λ k below. written_ahead memory at (a ++ b) k (omega (arith, below, size, other, sum)) ∙ get_left a b k (omega (arith, below, size)))

second_of : (memory : Memory) (at : ℕ) (a b : List ℕ) → length a ≡ 16 → length b ≡ 16 → bytes_from (written memory at (a ++ b)) (at + 16) 16 ≡ Some b
second_of memory at a b size other =
    let sum = length-append a b in
    from_each (written memory at (a ++ b)) (at + 16) 16 b other (λ k below.
    let e : at + 16 + k ≡ at + (16 + k) = omega arith in
    let back : 16 + k - length a ≡ k = omega (arith, size) in
    ap (written memory at (a ++ b)) e ∙ written_ahead memory at (a ++ b) (16 + k) (omega (arith, below, size, other, sum))
    ∙ get_right a b (16 + k) (omega (arith, size)) ∙ ap (λ (j : ℕ). slice_get b j) back)

HasPlaces-last : (memory : Memory) (base n : ℕ) (places : List (List ℕ)) (a b : List ℕ) → HasPlaces memory base places → length places ≡ n → 4 ≤ n → length a ≡ 16 → length b ≡ 16
    → HasPlaces (written memory (base + 16 * (n - 2)) (a ++ b)) base (set (set places (n - 2) a) (n - 1) b)
HasPlaces-last memory base n places a b there count least size other k below =
    let inner = length-set places (n - 2) a in
    let outer = length-set (set places (n - 2) a) (n - 1) b in
    let sum = length-append a b in
    elim (cases_eq k (n - 1)) [
      | inl last ↦
          let at : base + 16 * k ≡ base + 16 * (n - 2) + 16 = omega (arith, last, least) in
          ap (λ (address : ℕ). bytes_from (written memory (base + 16 * (n - 2)) (a ++ b)) address 16) at ∙ second_of memory (base + 16 * (n - 2)) a b size other
          ∙ ap Some (sym (ap (λ (j : ℕ). slice_index_or (set (set places (n - 2) a) (n - 1) b) j []) last
          ∙ get_or-set_same (set places (n - 2) a) (n - 1) b [] (omega (arith, inner, count, least))))
      | inr before ↦
          let kept = get_or-set_other (set places (n - 2) a) (n - 1) k b [] before in
          elim (cases_eq k (n - 2)) [
            | inl place ↦
                ap (λ (j : ℕ). bytes_from (written memory (base + 16 * (n - 2)) (a ++ b)) (base + 16 * j) 16) place ∙ first_of memory (base + 16 * (n - 2)) a b size other
                ∙ ap Some (sym (kept ∙ ap (λ (j : ℕ). slice_index_or (set places (n - 2) a) j []) place ∙ get_or-set_same places (n - 2) a [] (omega (arith, count, least))))
            | inr earlier ↦
                written-apart memory (base + 16 * (n - 2)) (a ++ b) (base + 16 * k) 16 (inl (omega (arith, before, earlier, below, inner, outer, count, least)))
                ∙ there k (omega (arith, below, inner, outer)) ∙ ap Some (sym (kept ∙ get_or-set_other places (n - 2) k a [] earlier))
          ]
    ]

holds_last : (n : ℕ) (r : ItemRing) (memory : Memory) (trb : Trb) → HoldsRing n r memory → length r.put < n - 2 → place_of n r (length r.put) ≡ n - 2 → HasText trb
    → HoldsRing n (with_trb r trb) (written memory (pointer_of n r (length r.put)) (last_texts n r trb))
holds_last n r memory trb holds room last has =
    let least = holds.ring.least_places in
    let cycle = cycle_of n r (length r.put) in
    let bytes = text trb (cycle_of n r (length r.put)) in
    let link = text (link_with r.base (has_chain trb)) (cycle_of n r (length r.put)) in
    let is_text : IsText item_form bytes (known trb) (cycle_of n r (length r.put)) = record {
      bytes_are = refl;
      reads = item_read-text trb (cycle_of n r (length r.put)) has;
      bit = cycle_in-text trb (cycle_of n r (length r.put)) has;
    } in
    let items = HoldsItems-link n r.base holds.places r.at r.put (known trb) bytes link
    (record { place = place_of n r (length r.put); cycle = cycle_of n r (length r.put) }) least holds.items room (record { place = refl; cycle = refl }) is_text
    (omega (arith, last)) refl in
    let there = HasPlaces-last memory r.base n holds.places bytes link holds.there holds.items.size least (length-text trb (cycle_of n r (length r.put)))
    (length-text (link_with r.base (has_chain trb)) (cycle_of n r (length r.put))) in
    record {
      ring = IsRing-put n r (known trb ∷ []) holds.ring (All-one trb has) (omega (arith, room));
      places = set (set holds.places (place_of n r (length r.put)) bytes) (n - 1) link;
      items = items;
      there = rw last there;
    }

-- no consumer is at the Link before the first place while the last place is free
keeps_last : (n : ℕ) (r : ItemRing) (memory : Memory) (home : Home) (trb : Trb) → 4 ≤ n → r.got ≤ length r.put → length r.put < n - 2 → place_of n r (length r.put) ≡ n - 2
    → AreApart (home_at home) (home_size home) (pointer_of n r (length r.put)) (length (last_texts n r trb)) → KeepsEnd n r home memory
    → KeepsEnd n (with_trb r trb) home (written memory (pointer_of n r (length r.put)) (last_texts n r trb))
keeps_last n r memory home trb least consumed room last beside (inl item) =
    inl (written-apart memory _ (last_texts n r trb) (home_at home) (home_size home) beside ∙ item)
keeps_last n r memory home trb least consumed room last beside (inr link) =
    let ahead : (r.at + r.got + (length r.put - r.got)) % (n - 1) ≡ length r.put - r.got =
    place_ahead (n - 1) (r.at + r.got) (length r.put - r.got) (length r.put - r.got) (omega (arith, room, least)) (omega (arith, link.before.first)) in
    let sum : r.at + r.got + (length r.put - r.got) ≡ r.at + length r.put = omega (arith, consumed) in
    let here : (r.at + length r.put) % (n - 1) ≡ length r.put - r.got = ap (λ (j : ℕ). j % (n - 1)) (sym sum) ∙ ahead in
    absurd (omega (arith, here, last, room, least))

length-last : (n : ℕ) (r : ItemRing) (trb : Trb) → length (last_texts n r trb) ≡ 32
length-last n r trb =
    let cycle = cycle_of n r (length r.put) in
    let link = link_with r.base (has_chain trb) in
    let sum = length-append (text trb (cycle_of n r (length r.put))) (text (link_with r.base (has_chain trb)) (cycle_of n r (length r.put))) in
    let one = length-text trb (cycle_of n r (length r.put)) in
    let other = length-text (link_with r.base (has_chain trb)) (cycle_of n r (length r.put)) in
    omega (arith, sum, one, other)

pub trb_is_put_last : TrbIsPutLast
trb_is_put_last layout lines frames memory end pipe stream trb is laid has room last text_has =
    let ring = laid.rings pipe stream has in
    let bounds = ring_bounds lines pipe stream laid.lines_are has in
    let r = ring_of lines pipe stream in
    let size = length-last (places_of pipe) (ring_of lines pipe stream) trb in
    let inside : 16 * place_of (places_of pipe) (ring_of lines pipe stream) (length (ring_of lines pipe stream).put) + 32 ≤ 16 * places_of pipe = omega (arith, last, bounds.least) in
    laid_ring layout lines frames memory end pipe stream (with_trb (ring_of lines pipe stream) trb) _ _ is laid has refl
    (record { first = omega arith; last = omega (arith, size, inside) })
    (holds_last (places_of pipe) (ring_of lines pipe stream) memory trb ring room last text_has)
    (keeps_last (places_of pipe) (ring_of lines pipe stream) memory (kept_at layout pipe stream) trb bounds.least ring.ring.consumed room last
    (inside_beside (places_of pipe) (ring_of lines pipe stream).base _ _ _ _ bounds (omega arith) (omega (arith, size, inside)) (kept_beside layout pipe stream is has))
    (laid.ends pipe stream has))
