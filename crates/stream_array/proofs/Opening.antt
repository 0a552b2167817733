-- The contexts of new rings hold the entries of those rings. Cited by the array's `new`.
use Rattle.std.proofs.Common.{◌≡◌, ℕ, ◌+◌, ◌*◌, ◌%◌, ◌^◌, ◌<◌, ◌≤◌, true, List, [], length, get_or, Some, None, nat_lt, nat_le}
use Rattle.std.proofs.Common.{if◌then◌else◌, refl, sym, ap, ◌∙◌, arith, inl, inr}
use Rattle.std.proofs.Math.ListN.{get_or-eq_default}
use Rattle.std.proofs.lemmas.Bool.{cases_Bool, cases_lt, and_parts, leb-true}
use Rattle.std.proofs.lemmas.List.{length-map}
use Rattle.std.proofs.lemmas.Option.{none-some, same_Some}
use Rattle.uas_profile.specs.declared.Pipe.{Pipe}
use Rattle.uas_profile.specs.declared.Pipe.TheVariants.{Command, Status, DataIn, DataOut}
use Rattle.stream_array.specs.declared.Dequeue.{Dequeue}
use Rattle.uas_profile.specs.Pipes.{number_of}
use Rattle.stream_array.specs.Contexts.{entry_of, has_stream, opening_entry, context_text}
use Rattle.stream_array.specs.Stored.{entry_in, shown, IsStored}
use Rattle.stream_array.proofs.Stored.{IsAligned, entry_in-text, entry_of-shown}
use Rattle.uas_profile.specs.declared.TheConstants.{PIPE_SPAN, RINGS, STREAMS, STREAM_ENTRIES, STREAM_SPAN}

-- their pointers are multiples of 16
ring-aligned : (base stream : ℕ) (dequeue : Dequeue) → base % 16 ≡ 0 → base < 2 ^ 32
    → (if has_stream stream then Some (record { pointer = base + STREAM_SPAN * stream; cycle = true }) else None) ≡ Some dequeue
    → (dequeue.pointer < 2 ^ 64) × (dequeue.pointer % 16 ≡ 0)
ring-aligned base stream dequeue aligned below is =
    elim (cases_Bool (has_stream stream)) as (λ _. (dequeue.pointer < 2 ^ 64) × (dequeue.pointer % 16 ≡ 0)) [
      | inl has ↦
          let least = and_parts (nat_lt 0 stream) (nat_le stream STREAMS) has in
          let last = leb-true stream STREAMS least.1 in
          let same = same_Some (record { pointer = base + STREAM_SPAN * stream; cycle = true }) dequeue (rw has at is) in
          rw (← same) (omega arith, omega arith)
      | inr none ↦ absurd (none-some dequeue (rw none at is))
    ]

opening-aligned : (pipe : Pipe) (stream : ℕ) → IsAligned (opening_entry pipe stream)
opening-aligned Command stream dequeue is = absurd (none-some dequeue is)
opening-aligned Status stream dequeue is = ring-aligned (RINGS + PIPE_SPAN * number_of Status) stream dequeue refl (omega arith) is
opening-aligned DataIn stream dequeue is = ring-aligned (RINGS + PIPE_SPAN * number_of DataIn) stream dequeue refl (omega arith) is
opening-aligned DataOut stream dequeue is = ring-aligned (RINGS + PIPE_SPAN * number_of DataOut) stream dequeue refl (omega arith) is

-- entry 0 has no ring
opening-reserved : (pipe : Pipe) → opening_entry pipe 0 ≡ None
opening-reserved Command = refl
opening-reserved Status = refl
opening-reserved DataIn = refl
opening-reserved DataOut = refl

-- what their contexts show
opening-shown : (pipe : Pipe) (contexts : List (List ℕ)) (stream : ℕ) → get_or contexts stream [] ≡ context_text (opening_entry pipe stream)
    → entry_of (shown contexts) stream ≡ opening_entry pipe stream
opening-shown pipe contexts stream is =
    entry_of-shown contexts stream ∙ ap entry_in is ∙ entry_in-text (opening_entry pipe stream) (opening-aligned pipe stream)

pub IsStored-opening : (pipe : Pipe) (size : ℕ) (contexts : List (List ℕ)) → 2 ≤ size → size ≤ STREAM_ENTRIES → length contexts ≡ size
    → ((stream : ℕ) → stream < size → get_or contexts stream [] ≡ context_text (opening_entry pipe stream))
    → IsStored size contexts (shown contexts)
IsStored-opening pipe size contexts least most count is =
    let entries : length (shown contexts) ≡ size = length-map contexts entry_in ∙ count in
    let opening = λ (stream : ℕ) (within : stream < size). opening-shown pipe contexts stream (is stream within) in
    record {
      array = record {
        least_entries = least;
        most_entries = most;
        entries = entries;
        reserved = opening 0 (omega arith) ∙ opening-reserved pipe;
        aligned = λ stream dequeue has. elim (cases_lt stream size) [
          | inl within ↦ opening-aligned pipe stream dequeue (sym (opening stream within) ∙ has)
          | inr past ↦ absurd (none-some dequeue (sym (get_or-eq_default (shown contexts) None (omega arith)) ∙ has))
        ];
      };
      count = count;
      text = λ stream within. is stream within ∙ ap context_text (sym (opening stream within));
    }
