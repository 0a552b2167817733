-- The marks of the streams that may have something pending, as one stream's ring changes.
use Rattle.std.proofs.Common.{◌≡◌, ℕ, Bool, refl, ◌+◌, ◌-◌, ◌<◌, ◌≤◌, List, length, slice_set, get_or-set_same, true, sym, subst, ap, ◌∙◌, arith, inl, inr}
use Rattle.std.proofs.lemmas.Bool.{cases_eq}
use Rattle.std.proofs.lemmas.List.{length-drop}
use Rattle.cycle_ring.specs.Ring.{IsConsumed, IsPending, opening, reclaimed}
use Rattle.cycle_ring.specs.Items.{ItemRing}
use Rattle.marks.specs.Marks.{is_marked}
use Rattle.uas_profile.specs.declared.TheConstants.{STREAMS, STREAM_RING_PLACES}
use Rattle.stream_array.specs.Contexts.{Contexts}
use Rattle.stream_array.specs.Rings.{HasPending, stream_ring}
use Rattle.stream_array.specs.Consumers.{AreMarked, rings_of}
use Rattle.stream_array.proofs.Named.{AtStream, length-rings_from, stream_ring-set}

-- no other mark changes
abbrev pub OthersMarked : List ℕ → List ℕ → ℕ → Type 0
OthersMarked old new stream = (other : ℕ) → (other ≡ stream → ⊥) → is_marked new other ≡ is_marked old other

-- a stream's ring and its mark are other ones
changed : (old new : List ℕ) (rings : List ItemRing) (stream : ℕ) (ring : ItemRing) → AreMarked old rings → 0 < stream → stream ≤ STREAMS
    → length rings ≡ STREAMS → (HasPending ring → is_marked new stream ≡ true) → OthersMarked old new stream
    → AreMarked new (slice_set rings (stream - 1) ring)
changed old new rings stream ring marked some last count here others = record {
  pending = λ other also within pending. elim (cases_eq other stream) as (λ _. is_marked new other ≡ true) [
    | inl same ↦
        let read : stream_ring (slice_set rings (stream - 1) ring) other ≡ ring =
        ap (stream_ring (slice_set rings (stream - 1) ring)) same ∙ get_or-set_same rings (stream - 1) ring (opening 0) (omega (arith, count)) in
        ap (is_marked new) same ∙ here (subst HasPending read pending)
    | inr differs ↦ others other differs
        ∙ marked.pending other also within (subst HasPending (stream_ring-set rings stream other ring some also differs) pending)
  ];
  streams = λ place set. elim (cases_eq place stream) as (λ _. (0 < place) × (place ≤ STREAMS)) [
    | inl same ↦ (omega (arith, same, some), omega (arith, same, last))
    | inr differs ↦ marked.streams place (sym (others place differs) ∙ set)
  ];
}

-- a call on one stream's ring that sets its mark
pub marked-set : (segments : List ItemRing) (contexts : Contexts) (rings now : List ItemRing) (stream : ℕ) (segment ring : ItemRing) (old new : List ℕ)
    → AtStream segments contexts rings stream segment → AreMarked old (rings_of segments contexts) → now ≡ slice_set rings (stream - 1) ring
    → is_marked new stream ≡ true → OthersMarked old new stream → AreMarked new now
marked-set segments contexts rings now stream segment ring old new at marked is here others =
    let Marked : List ItemRing → Type 0 = λ all. AreMarked old all in
    let Now : List ItemRing → Type 0 = λ all. AreMarked new all in
    let count = ap (λ (all : List ItemRing). length all) (sym at.view) ∙ length-rings_from 1 segments contexts ∙ at.streams.count in
    subst Now (sym is) (changed old new rings stream ring (subst Marked at.view marked) at.some at.last count (λ _. here) others)

-- a call on one stream's ring that brings nothing pending
pub marked-kept : (segments : List ItemRing) (contexts : Contexts) (rings now : List ItemRing) (stream : ℕ) (segment ring : ItemRing) (marks : List ℕ)
    → AtStream segments contexts rings stream segment → AreMarked marks (rings_of segments contexts) → now ≡ slice_set rings (stream - 1) ring
    → (HasPending ring → HasPending (stream_ring rings stream)) → AreMarked marks now
marked-kept segments contexts rings now stream segment ring marks at marked is brings =
    let Marked : List ItemRing → Type 0 = λ all. AreMarked marks all in
    let here = subst Marked at.view marked in
    let count = ap (λ (all : List ItemRing). length all) (sym at.view) ∙ length-rings_from 1 segments contexts ∙ at.streams.count in
    subst Marked (sym is) (changed marks marks rings stream ring here at.some at.last count
    (λ pending. here.pending stream at.some at.last (brings pending)) (λ other differs. refl))

-- of a ring whose first items are freed, what is pending was so before
pub pending-freed : (rings : List ItemRing) (stream : ℕ) (before now : ItemRing) (k pointer : ℕ) → stream_ring rings stream ≡ before
    → now ≡ reclaimed STREAM_RING_PLACES (k + 1) before → IsConsumed STREAM_RING_PLACES before k pointer → HasPending now
    → HasPending (stream_ring rings stream)
pending-freed rings stream before now k pointer is freed consumed pending =
    let after : HasPending (reclaimed STREAM_RING_PLACES (k + 1) before) = subst HasPending freed pending in
    let so : HasPending before = omega (arith, length-drop (k + 1) before.put, consumed.0, after) in
    subst HasPending (sym is) so

-- where there is a pending place, something was pending
pub pending-before : (ring : ItemRing) (k pointer : ℕ) (cycle : Bool) → IsPending STREAM_RING_PLACES ring k pointer cycle → HasPending ring
pending-before ring k pointer cycle pending = omega (arith, pending.0, pending.1)
