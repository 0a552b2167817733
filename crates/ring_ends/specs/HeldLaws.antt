-- Laws of the items that a segment's places hold: zeros, one more behind them, some of them freed, and a place's Cycle bit.
use Rattle.std.proofs.Common.{◌≡◌, ◌≢◌, ℕ, zero, suc, ◌+◌, ◌-◌, ◌*◌, ◌/◌, ◌%◌, ◌<◌, ◌≤◌, ◌⊎◌, ◌==◌, Bool, true, false, not, List, [], ◌∷◌}
use Rattle.std.proofs.Common.{◌++◌, length, length-append, length-drop, set, get_or, get_or-set_same, get_or-set_other, drop, replicate, Some}
use Rattle.std.proofs.Common.{Result, Ok, slice_get, slice_index_or, refl, sym, ap, ap₂, ◌∙◌, arith, inl, inr}
use mathlib.Core.Bool.{beq}
use Rattle.std.proofs.Math.Nat.{mod-lt, add-mod_right, div-eq_of_lt}
use Rattle.std.proofs.lemmas.Bool.{cases_lt, false≢true}
use Rattle.std.proofs.lemmas.List.{get_or-replicate, get_or_read}
use Rattle.std.proofs.lemmas.Option.{none-some, same_Some}
use Rattle.xhci_trb.specs.declared.Trb.{Trb}
use Rattle.xhci_trb.specs.declared.TrbFault.{TrbFault}
use Rattle.xhci_trb.specs.Words.{words_in}
use Rattle.xhci_trb.specs.Text.{text}
use Rattle.xhci_trb.specs.Reader.{trb_in, cycle_in}
use Rattle.ring_ends.specs.declared.End.{End}
use Rattle.ring_ends.specs.Counted.{turn_bit, IsEnd}
use Rattle.ring_ends.specs.Held.{Form, trb_form, bytes_at, items_from, IsText, Holds}
use Rattle.ring_ends.specs.TurnLaws.{same_item, place_shift, turn_shift}
use Rattle.ring_ends.specs.EndLaws.{turn_bit-next, cycle_in-byte}

-- an item of a list, the one behind a list, and those behind its first ones
pub item_of : {A : Type 0} (xs : List A) (k : ℕ) → k < length xs → (x : A) × (slice_get xs k ≡ Some x)
item_of [] k some = absurd (omega arith)
item_of (x ∷ xs) zero some = (x, refl)
item_of (x ∷ xs) (suc k) some = item_of xs k (omega arith)

pub at_behind : {A : Type 0} (xs : List A) (x : A) (k : ℕ) (next : A) → slice_get (xs ++ x ∷ []) k ≡ Some next
    → ((k < length xs) × (slice_get xs k ≡ Some next)) ⊎ ((k ≡ length xs) × (x ≡ next))
at_behind [] x zero next is = inr (refl, same_Some x next is)
at_behind [] x (suc k) next is = absurd (none-some next is)
at_behind (other ∷ xs) x zero next is = inl (omega arith, is)
at_behind (other ∷ xs) x (suc k) next is = elim (at_behind xs x k next is) [
  | inl before ↦ inl (omega (arith, before.0), before.1)
  | inr behind ↦ inr (ap suc behind.0, behind.1)
]

pub at_rest : {A : Type 0} (xs : List A) (d k : ℕ) → slice_get (drop d xs) k ≡ slice_get xs (d + k)
at_rest xs zero k = ap (slice_get xs) (omega arith)
at_rest [] (suc d) k = refl
at_rest (x ∷ xs) (suc d) k =
    let next : suc d + k ≡ suc (d + k) = omega arith in
    at_rest xs d k ∙ ap (slice_get (x ∷ xs)) (sym next)

pub not_twice : (b : Bool) → not (not b) ≡ b
not_twice true = refl
not_twice false = refl

-- places that hold a list of items show it
pub items_from-list : {A : Type 0} (form : Form A) (m : ℕ) (places : List (List ℕ)) (j : ℕ) (put : List A)
    → ((k : ℕ) (item : A) → slice_get put k ≡ Some item → form.read (bytes_at m places (j + k)) ≡ item)
    → items_from form m places j (length put) ≡ put
unfolding items_from
items_from-list form m places j [] reads = refl
items_from-list form m places j (item ∷ put) reads =
    let here : form.read (bytes_at m places j) ≡ item =
    ap (λ (x : ℕ). form.read (bytes_at m places x)) (omega arith) ∙ reads 0 item refl in
    ap₂ ◌∷◌ here (items_from-list form m places (j + 1) put (λ k next is.
    ap (λ (x : ℕ). form.read (bytes_at m places x)) (omega arith) ∙ reads (suc k) next is))

-- what is written for an item
pub IsText-written : {A : Type 0} (form : Form A) (item : A) (bytes : List ℕ) (cycle : Bool) → bytes ≡ form.look item cycle
    → form.read (form.look item cycle) ≡ item → cycle_in (words_in (form.look item cycle)) ≡ cycle → IsText form bytes item cycle
IsText-written form item bytes cycle written reads bit = record {
  bytes_are = written;
  reads = ap form.read written ∙ reads;
  bit = ap (λ (b : List ℕ). cycle_in (words_in b)) written ∙ bit;
}

-- what is read is read once
pub same_trb : (found : Result (Trb × Bool) TrbFault) (trb other : Trb) (cycle bit : Bool) → found ≡ Ok (trb, cycle) → found ≡ Ok (other, bit)
    → trb ≡ other
same_trb found trb other cycle bit is was =
    let pair : ◌≡◌ {A = Trb × Bool} (trb, cycle) (other, bit) = cc in
    ap (λ (read : Trb × Bool). read.0) pair

-- zeros hold nothing
pub Holds-zeros : {A : Type 0} (form : Form A) (m size : ℕ) → 0 < m → m ≤ size → Holds form m (replicate size (replicate 16 0)) 0 []
Holds-zeros form m size some most = record {
  item = λ k item is. absurd (none-some item is);
  stale = λ k from below.
      let within : (0 + k) % m < m = mod-lt (0 + k) some in
      let zeros : bytes_at m (replicate size (replicate 16 0)) (0 + k) ≡ replicate 16 0 =
      get_or-replicate size ((0 + k) % m) (replicate 16 0) [] (omega arith) in
      let zeroth : (0 + k) / m ≡ 0 = div-eq_of_lt (omega arith) in
      let turn : turn_bit m (0 + k) ≡ true = ap (λ (q : ℕ). q % 2 == 0) zeroth in
      ap (λ (bytes : List ℕ). cycle_in (words_in bytes)) zeros ∙ cycle_in-byte (replicate 16 0) ∙ ap not (sym turn);
}

-- a place that isn't written keeps its bytes
bytes_at-other : (m : ℕ) (places : List (List ℕ)) (bytes : List ℕ) (at j k : ℕ) → j < m → k < m → k ≢ j
    → bytes_at m (set places ((at + j) % m) bytes) (at + k) ≡ bytes_at m places (at + k)
bytes_at-other m places bytes at j k below_j below_k differs =
    get_or-set_other places ((at + j) % m) ((at + k) % m) bytes [] (λ same. differs (same_item m at k j below_k below_j same))

-- an item that is written at the end behind the others
pub Holds-put : {A : Type 0} (form : Form A) (m : ℕ) (places : List (List ℕ)) (at : ℕ) (put : List A) (item : A) (bytes : List ℕ) (end : End)
    → m ≤ length places → Holds form m places at put → length put < m → IsEnd m (at + length put) end → IsText form bytes item end.cycle
    → Holds form m (set places end.place bytes) at (put ++ item ∷ [])
Holds-put form m places at put item bytes end size holds room is is_text =
    let longer = length-append put (item ∷ []) in
    let count = length put in
    let within : (at + count) % m < m = mod-lt (at + count) (omega arith) in
    let there : bytes_at m (set places ((at + count) % m) bytes) (at + count) ≡ bytes =
    get_or-set_same places ((at + count) % m) bytes [] (omega arith) in
    record {
      item = λ k next has. rw (is.place) (elim (at_behind put item k next has) [
        | inl before ↦ rw (bytes_at-other m places bytes at count k (omega arith) (omega arith) (omega arith)) (holds.item k next before.1)
        | inr behind ↦ rw (behind.0, there, ← is.cycle, ← behind.1) is_text
      ]);
      stale = λ k from below. rw (is.place, bytes_at-other m places bytes at count k (omega arith) below (omega arith)) (holds.stale k (omega arith) below);
    }

-- bytes that are written behind the turn's places
pub Holds-beside : {A : Type 0} (form : Form A) (m : ℕ) (places : List (List ℕ)) (at : ℕ) (put : List A) (place : ℕ) (bytes : List ℕ)
    → 0 < m → m ≤ place → Holds form m places at put → Holds form m (set places place bytes) at put
Holds-beside form m places at put place bytes some behind holds = record {
  item = λ k item is. rw (kept k) (holds.item k item is);
  stale = λ k from below. rw (kept k) (holds.stale k from below);
}
  where
    kept : (k : ℕ) → bytes_at m (set places place bytes) (at + k) ≡ bytes_at m places (at + k)
    kept k =
        let below : (at + k) % m < m = mod-lt (at + k) some in
        get_or-set_other places place ((at + k) % m) bytes [] (λ same. absurd (omega arith))

-- a counted place less whole pairs of turns
bytes_at-shift : (m : ℕ) (places : List (List ℕ)) (at d k : ℕ) → bytes_at m places ((at + d) % (2 * m) + k) ≡ bytes_at m places (at + (d + k))
bytes_at-shift m places at d k = ap (λ (j : ℕ). get_or places j []) (place_shift m at d k)

pub turn_bit-shift : (m at d k : ℕ) → 0 < m → turn_bit m ((at + d) % (2 * m) + k) ≡ turn_bit m (at + (d + k))
turn_bit-shift m at d k some = ap (λ (q : ℕ). q == 0) (turn_shift m at d k some)

pub IsEnd-shift : (m at d k j i : ℕ) (end : End) → 0 < m → j ≡ at + (d + k) → i ≡ (at + d) % (2 * m) + k → IsEnd m j end → IsEnd m i end
IsEnd-shift m at d k j i end some from to is = rw to (record {
  place = is.place ∙ ap (λ (x : ℕ). x % m) from ∙ sym (place_shift m at d k);
  cycle = is.cycle ∙ ap (turn_bit m) from ∙ sym (turn_bit-shift m at d k some);
})

-- the first d items freed: their places are stale from then on
pub Holds-freed : {A : Type 0} (form : Form A) (m : ℕ) (places : List (List ℕ)) (at d : ℕ) (put : List A) → 0 < m → d ≤ length put
    → Holds form m places at put → Holds form m places ((at + d) % (2 * m)) (drop d put)
Holds-freed form m places at d put some within holds =
    let shorter = length-drop d put in
    record {
      item = λ k item is. rw (bytes_at-shift m places at d k, turn_bit-shift m at d k some) (holds.item (d + k) item (sym (at_rest put d k) ∙ is));
      stale = λ k from below. rw (bytes_at-shift m places at d k, turn_bit-shift m at d k some) (elim (cases_lt (d + k) m) [
        | inl inside ↦ holds.stale (d + k) (omega arith) inside
        | inr past ↦
            let i = d + k - m in
            let behind : at + (d + k) ≡ at + i + m = omega arith in
            let item = item_of put i (omega arith) in
            rw (behind, add-mod_right (at + i) m, turn_bit-next m (at + i) some, not_twice (turn_bit m (at + i))) ((holds.item i item.0 item.1).bit)
      ]);
    }

-- The Cycle bit at an end, read as a bit: its own exactly where the item there is held.
same_bit : (b : Bool) → beq b b ≡ true
same_bit true = refl
same_bit false = refl

other_bit : (b : Bool) → beq (not b) b ≡ true → ⊥
other_bit true e = false≢true e
other_bit false e = false≢true e

pub Holds-bit : {A : Type 0} (form : Form A) (m : ℕ) (places : List (List ℕ)) (at : ℕ) (put : List A) (end : End) (k : ℕ) (bytes : List ℕ) (bit : Bool)
    → Holds form m places at put → k < m → IsEnd m (at + k) end → end.place < length places → bytes ≡ get_or places end.place bytes
    → bit ≡ cycle_in (words_in bytes) → (beq bit end.cycle ≡ true → k < length put) × (k < length put → beq bit end.cycle ≡ true)
Holds-bit form m places at put end k bytes bit holds below is within there read =
    let here = read ∙ ap (λ (x : List ℕ). cycle_in (words_in x)) (get_or_read places end.place bytes within there []) in
    elim (cases_lt k (length put)) [
      | inl used ↦
          let item = item_of put k used in
          let same : bit ≡ end.cycle = here ∙ rw (is.place, is.cycle) ((holds.item k item.0 item.1).bit) in
          (λ _. used, λ _. rw same (same_bit end.cycle))
      | inr behind ↦
          let other : bit ≡ not end.cycle = here ∙ rw (is.place, is.cycle) (holds.stale k behind below) in
          (λ e. absurd (other_bit end.cycle (rw other at e)), λ used. absurd (omega arith))
    ]

-- an item's place has its bytes
pub Holds-item : {A : Type 0} (form : Form A) (m : ℕ) (places : List (List ℕ)) (at : ℕ) (put : List A) (end : End) (k : ℕ) (bytes : List ℕ)
    → Holds form m places at put → IsEnd m (at + k) end → k < length put → end.place < length places → bytes ≡ get_or places end.place bytes
    → (item : A) × (slice_get put k ≡ Some item) × IsText form bytes item end.cycle
Holds-item form m places at put end k bytes holds is used within there =
    let item = item_of put k used in
    let stands : IsText form (slice_index_or places end.place []) item.0 end.cycle = rw (is.place, is.cycle) (holds.item k item.0 item.1) in
    (item.0, item.1, rw (get_or_read places end.place bytes within there []) stands)
