-- An array with one entry changed.
use Rattle.std.proofs.Common.{◌≡◌, ℕ, ◌%◌, ◌^◌, ◌<◌, true, false, Some, None, is_some, length, slice_set, length-set, get_or-set_same}
use Rattle.std.proofs.Common.{get_or-set_other, ap, ◌∙◌, sym, arith, inl, inr}
use Rattle.std.proofs.Math.ListN.{get_or-eq_default}
use Rattle.std.proofs.lemmas.Bool.{cases_eq, cases_lt}
use Rattle.stream_array.specs.declared.Dequeue.{Dequeue}
use Rattle.stream_array.specs.Contexts.{Contexts, IsArray, entry_of}

-- it is an array, where the entry had a ring and the pointer is a multiple of 16
pub IsArray-set : (size : ℕ) (contexts : Contexts) (stream : ℕ) (new : Dequeue) → IsArray size contexts
    → stream < size → is_some (entry_of contexts stream) ≡ true → new.pointer < 2 ^ 64 → new.pointer % 16 ≡ 0
    → IsArray size (slice_set contexts stream (Some new))
IsArray-set size contexts stream new array within had below aligned =
    let inside : stream < length contexts = omega (arith, array.entries) in
    record {
      least_entries = array.least_entries;
      most_entries = array.most_entries;
      entries = length-set contexts stream (Some new) ∙ array.entries;
      reserved = get_or-set_other contexts stream 0 (Some new) None (λ zero. first_has_none zero) ∙ array.reserved;
      aligned = λ other dequeue is. elim (cases_eq other stream) [
        | inl same ↦
            let there : Some new ≡ Some dequeue =
            sym (get_or-set_same contexts stream (Some new) None inside) ∙ ap (entry_of (slice_set contexts stream (Some new))) (sym same) ∙ is in
            let one : new ≡ dequeue = cc in
            rw (← one) (below, aligned)
        | inr differs ↦ array.aligned other dequeue (sym (get_or-set_other contexts stream other (Some new) None differs) ∙ is)
      ];
    }
  where
    first_has_none : 0 ≡ stream → ⊥
    first_has_none zero =
        let none : entry_of contexts 0 ≡ None = array.reserved in
        let at_first : is_some (entry_of contexts stream) ≡ is_some {T = Dequeue} None =
        ap (λ (k : ℕ). is_some (entry_of contexts k)) (sym zero) ∙ ap is_some none in
        let both : true ≡ false = sym had ∙ at_first in
        cc

-- an entry with a ring is one of the array's
pub within-some : (contexts : Contexts) (stream : ℕ) → is_some (entry_of contexts stream) ≡ true → stream < length contexts
within-some contexts stream had = elim (cases_lt stream (length contexts)) as (λ _. stream < length contexts) [
  | inl within ↦ within
  | inr past ↦
      let none : is_some (entry_of contexts stream) ≡ is_some {T = Dequeue} None = ap is_some (get_or-eq_default contexts None past) in
      let both : true ≡ false = sym had ∙ none in
      absurd (cc)
]
