-- Logical units and tags place by place. Cited by what writes and reads them.
use Rattle.std.proofs.Common.{◌≡◌, ℕ, zero, suc, ◌+◌, ◌<◌, ◌≤◌, Bool, true, false, ◌&&◌, cond, List, [], ◌∷◌, length, map, drop, All, Option, Some, None, Result, Ok, Err}
use Rattle.std.proofs.Common.{refl, arith, ap, sym, ◌∙◌, subst, inl, inr, add-one, drop-cons, MatchOption}
use Rattle.std.specs.Prelude.{is_ok, option_and_then, slice_get, slice_index_or}
use Rattle.std.proofs.lemmas.Bool.{cases_lt}
use Rattle.std.proofs.lemmas.List.{get_or_default, length-map}
use Rattle.host_commands.specs.declared.CommandSet.{CommandSet}
use Rattle.host_commands.specs.declared.UnitAttention.{UnitAttention}
use Rattle.uas_tasks.specs.declared.LogicalUnit.{LogicalUnit}
use Rattle.uas_tasks.specs.declared.saved.Unsound.{Unsound}
use Rattle.uas_tasks.specs.Machine.{Machine, no_slot, slot_under}
use Rattle.uas_tasks.specs.Saved.{AreSavable, is_tag_state, kept_bytes, restored_tag, tag_state}
use Rattle.uas_tasks.specs.Slots.{SlotState}
use Rattle.machine_bytes.specs.declared.place.Place.{Place}
use Rattle.machine_bytes.specs.Forms.{Form, checked}
use Rattle.machine_bytes.specs.Sparse.{PlaceForm, PlaceHasIf, PlacesHave, place_write_if, places_write}
use Rattle.device_bytes.specs.Devices.{SavedTag, attentions_of, is_fresh_tag, is_sound_tag, saved_tag, tag_form, tag_place, tag_put, tags_form}

-- the next place is written
pub places_more : {A : Type 0} (p : PlaceForm A) (w : List ℕ × Place) (xs : List A) (at : ℕ) (x : A) → at < length xs → x ≡ slice_index_or xs at x →
    places_write p w at (drop at xs) ≡ places_write p (place_write_if (p.is_fresh x) p.form w at x) (at + 1) (drop (at + 1) xs)
places_more p w xs at x within is =
    let front : drop at xs ≡ x ∷ drop (suc at) xs = drop-cons xs at x within ∙ ap (λ y. y ∷ drop (suc at) xs) (sym is) in
    rw (front, add-one at) refl

-- a test changes nothing of what is written
pub checked_write : {A : Type 0} (test : A → Bool) (f : Form A) (fresh : Bool) (w : List ℕ × Place) (at : ℕ) (x : A) →
    place_write_if fresh f w at x ≡ place_write_if fresh (checked test f) w at x
checked_write test f true w at x = refl
checked_write test f false w at x = refl

-- the attention of a logical unit
pub attention_read : (units : List LogicalUnit) (number : ℕ) (other : Option UnitAttention) → number < length (attentions_of units) →
    option_and_then (λ (unit : LogicalUnit). unit.attention) (slice_get units number) ≡ slice_index_or (attentions_of units) number other
attention_read [] number other within = absurd (omega arith)
attention_read (unit ∷ units) zero other within = refl
attention_read (unit ∷ units) (suc number) other within = attention_read units number other (omega arith)

-- what matters of a tag
place_read : (slots : List SlotState) (at : ℕ) (other : SavedTag) → at < length (map saved_tag slots) →
    saved_tag (slice_index_or slots at no_slot) ≡ slice_index_or (map saved_tag slots) at other
place_read [] at other within = absurd (omega arith)
place_read (slot ∷ slots) zero other within = refl
place_read (slot ∷ slots) (suc at) other within = place_read slots at other (omega arith)

pub tag_read : (slots : List SlotState) (at : ℕ) (other : SavedTag) → at < length (map saved_tag slots) →
    saved_tag (slot_under slots (at + 1)) ≡ slice_index_or (map saved_tag slots) at other
tag_read slots at other within = rw (add-one at) (place_read slots at other within)

-- what is put on a tag
abbrev put_by : Machine → Result (Unit {0}) Unsound → Option Machine × List ℕ
put_by after told = cond (is_ok told && true) (Some after, []) (None, [])

pub put_as : (machine after : Machine) (at : ℕ) (tag : SavedTag) (told : Result (Unit {0}) Unsound) (ok : Bool) → is_fresh_tag tag ≡ false →
    (after, told) ≡ restored_tag machine (at + 1) tag.0 tag.1 → ok ≡ is_ok told →
    MatchOption (tag_put machine at tag [] []).0 (ok ≡ false) (λ (m : Machine). (ok ≡ true) × (after ≡ m))
put_as machine after at tag told ok fresh is so =
    let same : restored_tag machine (suc at) tag.0 tag.1 ≡ (after, told) = sym (is ∙ ap (λ n. restored_tag machine n tag.0 tag.1) (add-one at)) in
    rw (same, fresh) (by_told told so)
  where
    by_told : (told : Result (Unit {0}) Unsound) → ok ≡ is_ok told →
        MatchOption (put_by after told).0 (ok ≡ false) (λ (m : Machine). (ok ≡ true) × (after ≡ m))
    by_told (Ok done) so = (so, refl)
    by_told (Err fault) so = so

-- EACH PLACE HAS THE FORM

abbrev pub HasAt : {A : Type 0} → PlaceForm A → List A → ℕ → Type 0
HasAt {A = A} p xs many = (k : ℕ) (d : A) → k < many → PlaceHasIf (p.is_fresh (slice_index_or xs k d)) p.form (slice_index_or xs k d)

pub has_more : {A : Type 0} (p : PlaceForm A) (xs : List A) (at : ℕ) (x : A) → HasAt p xs at → at < length xs → x ≡ slice_index_or xs at x →
    PlaceHasIf (p.is_fresh x) p.form x → HasAt p xs (at + 1)
has_more {A = A} p xs at x has within is here k d less =
    elim (cases_lt k at) [
      | inl before ↦ has k d before
      | inr past ↦
          let same : k ≡ at = omega arith in
          let P : A → Type 0 = λ y. PlaceHasIf (p.is_fresh y) p.form y in
          let read : slice_index_or xs k d ≡ x = ap (λ i. slice_index_or xs i d) same ∙ get_or_default xs at d x within ∙ sym is in
          subst P (sym read) here
    ]

pub places_have : {A : Type 0} (p : PlaceForm A) (xs : List A) → HasAt p xs (length xs) → PlacesHave p xs
places_have p [] has = tt
places_have p (x ∷ xs) has = (has 0 x (omega arith), places_have p xs (λ k d less. has (suc k) d (omega (arith, less))))

-- and tags are such as can be
sound_has : (units : List LogicalUnit) (chunk : ℕ) (tag : SavedTag) (fresh : Bool) → is_sound_tag units chunk tag ≡ true → PlaceHasIf fresh tag_form tag →
    PlaceHasIf fresh (tag_place units chunk).form tag
sound_has units chunk tag true sound has = tt
sound_has units chunk tag false sound has = (has, sound)

-- the form of a tag alone
abbrev pub plain_place : PlaceForm SavedTag
plain_place = record { form = tag_form; is_fresh = is_fresh_tag }

pub tags_have : (units : List LogicalUnit) (set : CommandSet) (slots : List SlotState) (chunk : ℕ) → AreSavable (record { units = units; set = set; slots = slots }) →
    All (λ (slot : SlotState). slot.chunk ≡ chunk) slots → (many : ℕ) → length (map saved_tag slots) ≤ many → HasAt plain_place (map saved_tag slots) many →
    (tags_form units chunk).Has (map saved_tag slots)
tags_have units set slots chunk savable chunks many all has =
    (length-map slots saved_tag ∙ savable.slots, places_have (tag_place units chunk) (map saved_tag slots) each)
  where
    each : HasAt (tag_place units chunk) (map saved_tag slots) (length (map saved_tag slots))
    each k d less =
        let within : k < length slots = omega (arith, less, length-map slots saved_tag) in
        let slot : SlotState = slice_index_or slots k no_slot in
        let same : saved_tag slot ≡ slice_index_or (map saved_tag slots) k d = place_read slots k d less in
        let chunk_is : slot.chunk ≡ chunk = chunks k no_slot within in
        let sound : is_sound_tag units chunk (saved_tag slot) ≡ true =
        subst (λ (n : ℕ). is_tag_state units n (tag_state slot) (length (kept_bytes slot)) ≡ true) chunk_is (savable.tags (suc k)) in
        sound_has units chunk (slice_index_or (map saved_tag slots) k d) (is_fresh_tag (slice_index_or (map saved_tag slots) k d))
        (subst (λ (tag : SavedTag). is_sound_tag units chunk tag ≡ true) same sound) (has k d (omega (arith, less, all)))
