-- The contexts of an array and the entries that they show: a context's text reads back as its entry, so an array with one context
-- written shows that entry, and all others as before. Cited by the array's `set` and by the contexts of new rings.
use Rattle.std.proofs.Common.{◌≡◌, ℕ, ◌+◌, ◌*◌, ◌/◌, ◌%◌, ◌^◌, ◌<◌, ◌==◌, Bool, true, false, List, [], length-set, set, get_or}
use Rattle.std.proofs.Common.{get_or-set_same, get_or-set_other, Option, Some, None, is_some, slice_set, refl, sym, ap, ◌∙◌, arith, inl}
use Rattle.std.proofs.Common.{inr}
use Rattle.std.proofs.Math.ListN.{get_or-map}
use Rattle.std.proofs.lemmas.Bool.{cases_eq, eq-eqb}
use Rattle.std.proofs.lemmas.List.{map-set}
use Rattle.std.proofs.lemmas.Nat.{from_le_bytes-to_le_bytes_8}
use Rattle.xhci_trb.specs.Text.{bit}
use Rattle.stream_array.specs.declared.Dequeue.{Dequeue}
use Rattle.stream_array.specs.Contexts.{entry_of, context_text}
use Rattle.stream_array.specs.Stored.{word_in, entry_in, shown, IsStored}
use Rattle.stream_array.proofs.Entries.{IsArray-set}

-- the fields of a context's word
state_in : (word pointer state : ℕ) → word ≡ pointer + 2 * 1 + state → state < 2 → pointer % 16 ≡ 0
    → (word / 2 % 8 ≡ 1) × (word / 16 * 16 ≡ pointer) × (word % 2 ≡ state)
state_in word pointer state is below aligned = (omega arith, omega arith, omega arith)

bit-below : (b : Bool) → bit b < 2
bit-below true = omega arith
bit-below false = omega arith

bit-read : (b : Bool) → (bit b == 1) ≡ b
bit-read true = refl
bit-read false = refl

word_in-text : (dequeue : Dequeue) → dequeue.pointer < 2 ^ 64 → dequeue.pointer % 16 ≡ 0
    → word_in (context_text (Some dequeue)) ≡ dequeue.pointer + 2 * 1 + bit dequeue.cycle
word_in-text dequeue below aligned =
    from_le_bytes-to_le_bytes_8 (dequeue.pointer + 2 * 1 + bit dequeue.cycle) (omega (arith, bit-below dequeue.cycle))

-- a context's text reads back
entry_in-some : (dequeue : Dequeue) → dequeue.pointer < 2 ^ 64 → dequeue.pointer % 16 ≡ 0 → entry_in (context_text (Some dequeue)) ≡ Some dequeue
entry_in-some dequeue below aligned =
    let word = word_in (context_text (Some dequeue)) in
    let is = state_in word dequeue.pointer (bit dequeue.cycle) (word_in-text dequeue below aligned) (bit-below dequeue.cycle) aligned in
    let cycle : (word % 2 == 1) ≡ dequeue.cycle = ap (λ (b : ℕ). b == 1) is.2 ∙ bit-read dequeue.cycle in
    rw (eq-eqb (word / 2 % 8) 1 is.0, is.1, cycle) refl

-- what an entry may hold
abbrev pub IsAligned : Option Dequeue → Type 0
IsAligned entry = (dequeue : Dequeue) → entry ≡ Some dequeue → (dequeue.pointer < 2 ^ 64) × (dequeue.pointer % 16 ≡ 0)

pub entry_in-text : (entry : Option Dequeue) → IsAligned entry → entry_in (context_text entry) ≡ entry
entry_in-text None aligned = refl
entry_in-text (Some dequeue) aligned = let fits = aligned dequeue refl in entry_in-some dequeue fits.0 fits.1

-- the entry of a context in the array
pub entry_of-shown : (contexts : List (List ℕ)) (stream : ℕ) → entry_of (shown contexts) stream ≡ entry_in (get_or contexts stream [])
entry_of-shown contexts stream = get_or-map entry_in contexts stream []

-- an array with one context written
pub shown-set : (contexts : List (List ℕ)) (stream : ℕ) (bytes : List ℕ) (new : Dequeue) → new.pointer < 2 ^ 64 → new.pointer % 16 ≡ 0
    → bytes ≡ context_text (Some new) → shown (set contexts stream bytes) ≡ slice_set (shown contexts) stream (Some new)
shown-set contexts stream bytes new below aligned is =
    map-set entry_in contexts stream bytes ∙ ap (set (shown contexts) stream) (ap entry_in is ∙ entry_in-some new below aligned)

pub IsStored-set : (size : ℕ) (contexts : List (List ℕ)) (stream : ℕ) (bytes : List ℕ) (new : Dequeue)
    → IsStored size contexts (shown contexts) → stream < size → is_some (entry_of (shown contexts) stream) ≡ true
    → new.pointer < 2 ^ 64 → new.pointer % 16 ≡ 0 → bytes ≡ context_text (Some new)
    → IsStored size (set contexts stream bytes) (shown (set contexts stream bytes))
IsStored-set size contexts stream bytes new stored within had below aligned is =
    let entries = shown contexts in
    rw (shown-set contexts stream bytes new below aligned is) (record {
      array = IsArray-set size entries stream new stored.array within had below aligned;
      count = length-set contexts stream bytes ∙ stored.count;
      text = λ other inside. elim (cases_eq other stream) [
        | inl same ↦ rw same (
            get_or-set_same contexts stream bytes [] (omega (arith, stored.count))
            ∙ is ∙ ap context_text (sym (get_or-set_same entries stream (Some new) None (omega (arith, stored.array.entries)))))
        | inr differs ↦
            get_or-set_other contexts stream other bytes [] differs
            ∙ stored.text other inside ∙ ap context_text (sym (get_or-set_other entries stream other (Some new) None differs))
      ];
    })
