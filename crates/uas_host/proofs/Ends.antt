-- The consumed TRB at an address of a stream's ring.
use Rattle.std.proofs.Common.{◌≡◌, ℕ, ◌+◌, ◌-◌, ◌/◌, ◌%◌, ◌<◌, ◌==◌, Some, None, nat_lt, nat_le, refl, ap, ◌∙◌, arith, inl, inr, if◌then◌else◌}
use Rattle.std.specs.Prelude.{option_and_then}
use Rattle.std.proofs.lemmas.Option.{none-some}
use Rattle.std.proofs.lemmas.Bool.{ltb-true, ltb-false, leb-true, leb-false, eqb-true, cases_Bool}
use Rattle.uas_profile.specs.declared.TheConstants.{STREAM_RING_PLACES}
use Rattle.xhci_trb.specs.declared.Trb.{Trb}
use Rattle.cycle_ring.specs.Ring.{IsConsumed, consumed_item, item_at, item_in, pointer_of}
use Rattle.cycle_ring.specs.Items.{ItemRing, known_consumed_at, known_of}
use Rattle.uas_profile.specs.declared.Pipe.{Pipe}
use Rattle.uas_profile.specs.declared.Pipe.TheVariants.{Command, Status, DataIn, DataOut}
use Rattle.uas_profile.specs.Pipes.{HasStreams}
use Rattle.stream_array.specs.Map.{HasRing, place_address, places_of}
use Rattle.stream_array.specs.Rings.{LinesState, ring_of}
use Rattle.uas_host.specs.Events.{IsEnded, IsEndedIn}

-- the places of a stream's ring but the Link's
abbrev trb_places : ℕ
trb_places = STREAM_RING_PLACES - 1

stands : (at place : ℕ) → place < trb_places → (at + item_in trb_places (at % trb_places) place) % trb_places ≡ place
stands at place below =
    elim (cases_Bool (nat_le (at % trb_places) place)) as (λ _. (at + item_in trb_places (at % trb_places) place) % trb_places ≡ place) [
      | inl ahead ↦ let above = leb-true (at % trb_places) place ahead in rw ahead (omega arith)
      | inr behind ↦ let under = leb-false (at % trb_places) place behind in rw behind (omega arith)
    ]

named_inside : (item offset : ℕ) (r : ItemRing) → offset % 16 ≡ 0 →
    (if nat_le trb_places (offset / 16) then None else Some (item_in trb_places (r.at % trb_places) (offset / 16))) ≡ Some item →
    r.base + offset ≡ pointer_of STREAM_RING_PLACES r item
named_inside item offset r whole is =
    elim (cases_Bool (nat_le trb_places (offset / 16))) as (λ _. r.base + offset ≡ pointer_of STREAM_RING_PLACES r item) [
      | inl past ↦ let none : None ≡ Some item = rw past at is in absurd (cc)
      | inr inside ↦
          let some : Some (item_in trb_places (r.at % trb_places) (offset / 16)) ≡ Some item = rw inside at is in
          let same : item_in trb_places (r.at % trb_places) (offset / 16) ≡ item = cc in
          rw (← same, stands r.at (offset / 16) (leb-false trb_places (offset / 16) inside)) (omega arith)
    ]

-- an address that names an item is the item's
item_at-address : (r : ItemRing) (pointer item : ℕ) → item_at STREAM_RING_PLACES r pointer ≡ Some item → pointer ≡ pointer_of STREAM_RING_PLACES r item
item_at-address r pointer item is =
    elim (cases_Bool (nat_lt pointer r.base)) as (λ _. pointer ≡ pointer_of STREAM_RING_PLACES r item) [
      | inl below ↦ let none : None ≡ Some item = rw below at is in absurd (cc)
      | inr above ↦
          let here = rw above at is in
          let reach = ltb-false pointer r.base above in
          elim (cases_Bool ((pointer - r.base) % 16 == 0)) as (λ _. pointer ≡ pointer_of STREAM_RING_PLACES r item) [
            | inl whole ↦
                let found = named_inside item (pointer - r.base) r (eqb-true ((pointer - r.base) % 16) 0 whole) (rw whole at here) in
                omega (arith, found)
            | inr part ↦ let none : None ≡ Some item = rw part at here in absurd (cc)
          ]
    ]

consumed_item-below : (r : ItemRing) (item : ℕ) (trb : Trb) → option_and_then known_of (consumed_item r item) ≡ Some trb → item < r.got
consumed_item-below r item trb is =
    elim (cases_Bool (nat_lt item r.got)) as (λ _. item < r.got) [
      | inl below ↦ ltb-true item r.got below
      | inr above ↦ let none : None ≡ Some trb = rw above at is in absurd (none-some trb none)
    ]

consumed_at-item : (r : ItemRing) (pointer : ℕ) (trb : Trb) → known_consumed_at STREAM_RING_PLACES r pointer ≡ Some trb → (item : ℕ) × (item_at STREAM_RING_PLACES r pointer ≡ Some item)
    × IsConsumed STREAM_RING_PLACES r item pointer
consumed_at-item r pointer trb is =
    elim (item_at STREAM_RING_PLACES r pointer) as (λ o. item_at STREAM_RING_PLACES r pointer ≡ o
    → option_and_then known_of (option_and_then (consumed_item r) o) ≡ Some trb →
    (item : ℕ) × (item_at STREAM_RING_PLACES r pointer ≡ Some item) × IsConsumed STREAM_RING_PLACES r item pointer) [
      | None ↦ λ none found. absurd (none-some trb found)
      | Some item ↦ λ some found. (item, some, (consumed_item-below r item trb found, item_at-address r pointer item some))
    ] refl is

-- the TRB at an address of a stream's ring is of its TD
pub ended-stream : (pipe : Pipe) (lines : LinesState) (stream pointer : ℕ) (trb : Trb) → HasStreams pipe → HasRing pipe stream →
    known_consumed_at (places_of pipe) (ring_of lines pipe stream) pointer ≡ Some trb → IsEnded lines pointer (record { pipe = pipe; tag = stream })
ended-stream Command lines stream pointer trb streams ring is = absurd streams
ended-stream Status lines stream pointer trb streams ring is = record {
  first_tag = ring.0;
  last_tag = ring.1;
  consumed = consumed_at-item (ring_of lines Status stream) pointer trb is;
}
ended-stream DataIn lines stream pointer trb streams ring is = record {
  first_tag = ring.0;
  last_tag = ring.1;
  consumed = consumed_at-item (ring_of lines DataIn stream) pointer trb is;
}
ended-stream DataOut lines stream pointer trb streams ring is = record {
  first_tag = ring.0;
  last_tag = ring.1;
  consumed = consumed_at-item (ring_of lines DataOut stream) pointer trb is;
}

-- the TRB at the address of a place is that of the place
placed : (pipe : Pipe) (lines : LinesState) (stream pointer place : ℕ) → HasStreams pipe → IsEnded lines pointer (record { pipe = pipe; tag = stream })
    → pointer ≡ place_address pipe stream place → IsEndedIn lines pointer place (record { pipe = pipe; tag = stream })
placed Command lines stream pointer place streams ended at = absurd streams
placed Status lines stream pointer place streams ended at = record { ended = ended; at = at }
placed DataIn lines stream pointer place streams ended at = record { ended = ended; at = at }
placed DataOut lines stream pointer place streams ended at = record { ended = ended; at = at }

pub ended-place : (pipe : Pipe) (lines : LinesState) (stream pointer place : ℕ) (trb : Trb) → HasStreams pipe → HasRing pipe stream →
    pointer ≡ place_address pipe stream place → known_consumed_at (places_of pipe) (ring_of lines pipe stream) (place_address pipe stream place) ≡ Some trb →
    IsEndedIn lines pointer place (record { pipe = pipe; tag = stream })
ended-place pipe lines stream pointer place trb streams ring at is =
    placed pipe lines stream pointer place streams
    (ended-stream pipe lines stream pointer trb streams ring (ap (known_consumed_at (places_of pipe) (ring_of lines pipe stream)) at ∙ is)) at
