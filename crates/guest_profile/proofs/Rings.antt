-- The consumer's end of a ring that memory holds.
use Rattle.std.proofs.Common.{◌≡◌, ℕ, ◌+◌, ◌-◌, ◌%◌, ◌^◌, ◌<◌, ◌≤◌, ◌==◌, Bool, true, false, not, List, length, Option, Some, None, slice_get, option_map, refl, sym, ap, ◌∙◌, arith, inl, inr}
use Rattle.std.proofs.Math.Nat.{mod-lt, mod-eq_of_lt}
use Rattle.std.proofs.lemmas.Bool.{cases_lt, eq-eqb, ne_eqb}
use Rattle.std.proofs.lemmas.Option.{slice_get_past}
use Rattle.xhci_trb.specs.declared.Trb.{Trb}
use Rattle.xhci_trb.specs.Text.{HasText, text, words_of}
use Rattle.xhci_trb.specs.Words.{words_in as profile_words_in}
use Rattle.xhci_trb.specs.Reader.{cycle_in as profile_cycle_in}
use Rattle.xhci_trb.proofs.Bytes.{words_in-bytes_of}
use Rattle.xhci_trb.proofs.Fields.{cycle_in-words_of, words_of-fits}
use Rattle.ring_ends.specs.declared.End.{End}
use Rattle.ring_ends.specs.Counted.{turn_bit, next_end}
use Rattle.ring_ends.specs.Held.{IsText, bytes_at}
use Rattle.ring_ends.specs.HeldLaws.{item_of, not_twice}
use Rattle.ring_ends.specs.EndLaws.{IsEnd-next}
use Rattle.cycle_ring.specs.Ring.{pointer_of, place_of, cycle_of, link_with}
use Rattle.cycle_ring.specs.Items.{Item, ItemRing, IsItemRing, item_chain, item_form, item_text}
use Rattle.guest_memory.specs.Bytes.{Memory, bytes_from}
use Rattle.guest_memory.specs.declared.rings.cursor.Cursor.{Cursor}
use Rattle.guest_memory.specs.rings.Words.{cycle_in, same_bit, words_in}
use Rattle.guest_memory.specs.rings.Ends.{fetched, owned}
use Rattle.guest_profile.specs.Rings.{HoldsRing, cursor_at, cursor_at_link}
use Rattle.guest_profile.specs.Rings.{FrontIsFetched, ItemIsPassed, LinkIsFollowed}
use Rattle.guest_profile.proofs.Words.{trbs_are_read, words_in-same}

same_own : (b : Bool) → same_bit b b ≡ true
same_own true = refl
same_own false = refl

same_other : (b : Bool) → same_bit (not b) b ≡ false
same_other true = refl
same_other false = refl

-- 16 bytes with the cycle state's Cycle bit, and with the other one
pub owned-own : (cycle : Bool) (bytes : List ℕ) → profile_cycle_in (profile_words_in bytes) ≡ cycle → owned cycle bytes ≡ Some (words_in bytes)
unfolding owned
owned-own cycle bytes is =
    let bit : cycle_in (words_in bytes) ≡ cycle = ap cycle_in (words_in-same bytes) ∙ is in
    let own : same_bit (cycle_in (words_in bytes)) cycle ≡ true = ap (λ (b : Bool). same_bit b cycle) bit ∙ same_own cycle in
    rw own refl

pub owned-other : (cycle : Bool) (bytes : List ℕ) → profile_cycle_in (profile_words_in bytes) ≡ not cycle → owned cycle bytes ≡ None
unfolding owned
owned-other cycle bytes is =
    let bit : cycle_in (words_in bytes) ≡ not cycle = ap cycle_in (words_in-same bytes) ∙ is in
    let own : same_bit (cycle_in (words_in bytes)) cycle ≡ false = ap (λ (b : Bool). same_bit b cycle) bit ∙ same_other cycle in
    rw own refl

-- what is fetched of bytes that are there
pub fetched-bytes : (memory : Memory) (cursor : Cursor) (bytes : List ℕ) → bytes_from memory cursor.place 16 ≡ Some bytes
    → fetched memory cursor ≡ Some (owned cursor.cycle bytes)
unfolding fetched
fetched-bytes memory cursor bytes is = rw is refl

-- the bytes of the counted place of item k
pub place_bytes : (n : ℕ) (r : ItemRing) (memory : Memory) (holds : HoldsRing n r memory) (k : ℕ)
    → bytes_from memory (pointer_of n r k) 16 ≡ Some (bytes_at (n - 1) holds.places (r.at + k))
place_bytes n r memory holds k =
    let least = holds.ring.least_places in
    let below : (r.at + k) % (n - 1) < n - 1 = mod-lt (r.at + k) (omega arith) in
    holds.there ((r.at + k) % (n - 1)) (omega (arith, holds.items.size))

-- item k
pub item_fetched : (n : ℕ) (r : ItemRing) (memory : Memory) → HoldsRing n r memory → (k : ℕ) (item : Item) → slice_get r.put k ≡ Some item
    → fetched memory (cursor_at n r k) ≡ Some (Some (words_in (item_text item (cycle_of n r k))))
item_fetched n r memory holds k item is =
    let stands : IsText item_form (bytes_at (n - 1) holds.places (r.at + k)) item (turn_bit (n - 1) (r.at + k)) = holds.items.items.item k item is in
    fetched-bytes memory (cursor_at n r k) _ (place_bytes n r memory holds k)
    ∙ ap Some (owned-own (cycle_of n r k) _ stands.bit ∙ ap (λ (b : List ℕ). Some (words_in b)) stands.bytes_are)

-- none behind the last one
pub none_fetched : (n : ℕ) (r : ItemRing) (memory : Memory) → HoldsRing n r memory → (k : ℕ) → length r.put ≤ k → k < n - 1
    → fetched memory (cursor_at n r k) ≡ Some None
none_fetched n r memory holds k past below =
    fetched-bytes memory (cursor_at n r k) _ (place_bytes n r memory holds k)
    ∙ ap Some (owned-other (cycle_of n r k) _ (holds.items.items.stale k past below))

pub front_is_fetched : FrontIsFetched
front_is_fetched n r memory holds = elim (cases_lt r.got (length r.put)) [
  | inl some ↦
      let item = item_of r.put r.got some in
      item_fetched n r memory holds r.got item.0 item.1
      ∙ ap (λ (found : Option Item). Some (option_map (λ item. words_in (item_text item (cycle_of n r r.got))) found)) (sym item.1)
  | inr past ↦
      let ring = holds.ring in
      none_fetched n r memory holds r.got past (omega (arith, ring.consumed, ring.room_left, ring.least_places))
      ∙ ap (λ (found : Option Item). Some (option_map (λ item. words_in (item_text item (cycle_of n r r.got))) found)) (sym (slice_get_past r.put r.got past))
]

same_cursor : (place other : ℕ) (cycle bit : Bool) → place ≡ other → cycle ≡ bit
    → ◌≡◌ {A = Cursor} (record { place = place; cycle = cycle }) (record { place = other; cycle = bit })
same_cursor place other cycle bit a b = rw (a, b) refl

-- the counted place behind one, on the same turn and on the next
next_inside : (m j : ℕ) → 0 < m → j % m + 1 < m → ((j + 1) % m ≡ j % m + 1) × (turn_bit m (j + 1) ≡ turn_bit m j)
next_inside m j some inside =
    let end : End = record { place = j % m; cycle = turn_bit m j } in
    let next = IsEnd-next m j end some (record { place = refl; cycle = refl }) in
    let here : (j % m + 1 == m) ≡ false = ne_eqb (j % m + 1) m (λ e. omega arith) in
    let is : next_end m end ≡ record { place = j % m + 1; cycle = turn_bit m j } = rw here refl in
    (sym next.place ∙ ap (λ (e : End). e.place) is, sym next.cycle ∙ ap (λ (e : End). e.cycle) is)

next_turn : (m j : ℕ) → 0 < m → j % m + 1 ≡ m → ((j + 1) % m ≡ 0) × (turn_bit m (j + 1) ≡ not (turn_bit m j))
next_turn m j some last =
    let end : End = record { place = j % m; cycle = turn_bit m j } in
    let next = IsEnd-next m j end some (record { place = refl; cycle = refl }) in
    let here : (j % m + 1 == m) ≡ true = eq-eqb (j % m + 1) m last in
    let is : next_end m end ≡ record { place = 0; cycle = not (turn_bit m j) } = rw here refl in
    (sym next.place ∙ ap (λ (e : End). e.place) is, sym next.cycle ∙ ap (λ (e : End). e.cycle) is)

pub item_is_passed : ItemIsPassed
item_is_passed n r memory holds some =
    let ring = holds.ring in
    let least = ring.least_places in
    let most = ring.most_places in
    let base = ring.base_below in
    let below : (r.at + r.got) % (n - 1) < n - 1 = mod-lt (r.at + r.got) (omega arith) in
    let sum : r.at + (r.got + 1) ≡ r.at + r.got + 1 = omega arith in
    elim (cases_lt ((r.at + r.got) % (n - 1) + 1) (n - 1)) [
      | inl inside ↦
          let next = next_inside (n - 1) (r.at + r.got) (omega arith) inside in
          let place : place_of n r (r.got + 1) ≡ (r.at + r.got) % (n - 1) + 1 = ap (λ (j : ℕ). j % (n - 1)) sum ∙ next.0 in
          let cycle : cycle_of n r (r.got + 1) ≡ cycle_of n r r.got = ap (turn_bit (n - 1)) sum ∙ next.1 in
          let small : pointer_of n r r.got + 16 < 2 ^ 64 = omega arith in
          inl (same_cursor _ _ _ _ (mod-eq_of_lt small ∙ omega (arith, place)) (sym cycle))
      | inr last ↦
          let next = next_turn (n - 1) (r.at + r.got) (omega arith) (omega arith) in
          let place : place_of n r (r.got + 1) ≡ 0 = ap (λ (j : ℕ). j % (n - 1)) sum ∙ next.0 in
          let cycle : cycle_of n r (r.got + 1) ≡ not (cycle_of n r r.got) = ap (turn_bit (n - 1)) sum ∙ next.1 in
          let back : not (cycle_of n r (r.got + 1)) ≡ cycle_of n r r.got = ap not cycle ∙ not_twice (cycle_of n r r.got) in
          let small : pointer_of n r r.got + 16 < 2 ^ 64 = omega arith in
          let item = item_of r.put r.got some in
          let link = holds.items.link r.got item.0 item.1 (omega arith) in
          inr (
            same_cursor _ _ _ _ (mod-eq_of_lt small ∙ omega arith) (sym back),
            record {
              first = place;
              chain = item_chain item.0;
              link = holds.there (n - 1) (omega (arith, holds.items.size)) ∙ ap Some link
                  ∙ ap (λ (b : Bool). Some (text (link_with r.base (item_chain item.0)) b)) (sym back);
            },
          )
    ]

-- the Cycle bit of a text
pub cycle_in-text : (trb : Trb) (cycle : Bool) → HasText trb → profile_cycle_in (profile_words_in (text trb cycle)) ≡ cycle
cycle_in-text trb cycle has =
    ap profile_cycle_in (words_in-bytes_of (words_of trb cycle) (words_of-fits trb cycle has.0)) ∙ cycle_in-words_of trb cycle has.0

pub HasText-link : (n : ℕ) (r : ItemRing) (chain : Bool) → IsItemRing n r → HasText (link_with r.base chain)
HasText-link n r chain ring = ((omega (arith, ring.base_below), ring.base_aligned), tt)

pub link_is_followed : LinkIsFollowed
link_is_followed n r k memory holds before = record {
  chain = before.chain;
  words = words_in (text (link_with r.base before.chain) (not (cycle_of n r k)));
  found = fetched-bytes memory (cursor_at_link n r k) _ before.link
      ∙ ap Some (owned-own (not (cycle_of n r k)) _ (cycle_in-text (link_with r.base before.chain) (not (cycle_of n r k))
      (HasText-link n r before.chain holds.ring)));
  link = trbs_are_read (link_with r.base before.chain) (not (cycle_of n r k)) (HasText-link n r before.chain holds.ring);
  leads = same_cursor _ _ _ _ (omega (arith, before.first)) (not_twice (cycle_of n r k));
}
