-- What is loaded into a new device is what its form reads. Cited by the law.
use Rattle.std.proofs.Common.{◌≡◌, ℕ, zero, suc, ◌+◌, ◌<◌, ◌≤◌, Bool, true, false, ◌&&◌, cond, List, [], ◌∷◌, ◌++◌, length, drop, replicate, All, Option, Some, None, Result, Ok, Err}
use Rattle.std.proofs.Common.{refl, arith, ap, sym, ◌∙◌, append_assoc, length-append}
use Rattle.std.specs.Prelude.{is_ok, not, slice_get, slice_index_or, slice_set}
use Rattle.std.proofs.lemmas.Bool.{and_from, le-leb, lt-ltb}
use Rattle.std.proofs.lemmas.List.{length-replicate}
use Rattle.std.proofs.lemmas.List.Elements.{All-head, All-tail}
use Rattle.host_commands.specs.declared.CommandSet.{CommandSet}
use Rattle.host_commands.specs.declared.UnitAttention.{UnitAttention}
use Rattle.uas_tasks.specs.declared.LogicalUnit.{LogicalUnit}
use Rattle.uas_tasks.specs.declared.saved.Unsound.{Unsound}
use Rattle.uas_tasks.specs.Machine.{Machine, no_slot}
use Rattle.uas_tasks.specs.Saved.{is_tag_state, restored_attention, restored_slot, restored_tag}
use Rattle.uas_tasks.specs.Slots.{SlotState, fresh_slot, is_tag}
use Rattle.machine_bytes.specs.Forms.{Form, checked, then_read}
use Rattle.machine_bytes.specs.Sparse.{PlaceForm, changed_form, has_mark, place_read, places_read}
use Rattle.device_bytes.specs.Devices.{SavedTag, attention_form, attention_loaded, fresh_tag, is_fresh_tag}
use Rattle.device_bytes.specs.Devices.{places_loaded, restored_slots, restored_units, tag_form, tag_loaded, tag_put, unit_place}

abbrev pub made : List LogicalUnit → CommandSet → List SlotState → Machine
made units set slots = record { units = units; set = set; slots = slots }

-- A PLACE BEHIND SO MANY

get_front : {A : Type 0} (front : List A) (x : A) (rest : List A) → slice_get (front ++ x ∷ rest) (length front) ≡ Some x
get_front [] x rest = refl
get_front (y ∷ front) x rest = get_front front x rest

set_front : {A : Type 0} (front : List A) (x now : A) (rest : List A) → slice_set (front ++ x ∷ rest) (length front) now ≡ front ++ now ∷ rest
set_front [] x now rest = refl
set_front (y ∷ front) x now rest = ap (λ tail. y ∷ tail) (set_front front x now rest)

index_front : {A : Type 0} (front : List A) (x other : A) (rest : List A) → slice_index_or (front ++ x ∷ rest) (length front) other ≡ x
index_front [] x other rest = refl
index_front (y ∷ front) x other rest = index_front front x other rest

-- one more in front
one_more : {A : Type 0} (front : List A) (x : A) (rest : List A) → front ++ x ∷ rest ≡ (front ++ x ∷ []) ++ rest
one_more front x rest = sym (append_assoc front (x ∷ []) rest)

length-more : {A : Type 0} (front : List A) (x : A) (at : ℕ) → at ≡ length front → suc at ≡ length (front ++ x ∷ [])
length-more front x at is = omega (arith, length-append front (x ∷ []), is)

-- ATTENTIONS

attention_put : (front : List LogicalUnit) (unit : LogicalUnit) (rest : List LogicalUnit) (set : CommandSet) (slots : List SlotState) (at : ℕ)
    (attention : Option UnitAttention) → at ≡ length front →
    restored_attention (made (front ++ unit ∷ rest) set slots) at attention ≡ made (front ++ record unit { attention = attention } ∷ rest) set slots
attention_put front unit rest set slots at attention is =
    rw (is, get_front front unit rest) (ap (λ units. made units set slots) (set_front front unit (record unit { attention = attention }) rest))

quiet_again : (unit : LogicalUnit) → unit.attention ≡ None → unit ≡ record unit { attention = None }
quiet_again unit none = ap (λ attention. record unit { attention = attention }) none

-- the attention of a place, or none
attention_as : (front : List LogicalUnit) (unit : LogicalUnit) (rest : List LogicalUnit) (set : CommandSet) (slots : List SlotState) (at : ℕ) (text : List ℕ) →
    at ≡ length front → unit.attention ≡ None →
    attention_loaded (made (front ++ unit ∷ rest) set slots) at text
    ≡ then_read (place_read (changed_form unit_place) None at text) (λ (x : Option UnitAttention) left. (Some (made (front ++ record unit { attention = x } ∷ rest) set slots), left))
attention_as front unit rest set slots at text is quiet = by_mark (has_mark at text)
  where
    machine : Machine
    machine = made (front ++ unit ∷ rest) set slots

    by_read : (told : Option UnitAttention × List ℕ) →
        then_read told (λ (attention : UnitAttention) left. (Some (restored_attention (made (front ++ unit ∷ rest) set slots) at (Some attention)), left))
        ≡ then_read (then_read (then_read told (λ (a : UnitAttention) left. (Some (Some a), left)))
        (λ (x : Option UnitAttention) left. cond (not (unit_place.is_fresh x)) (Some x, left) (None, drop 2 text)))
        (λ (x : Option UnitAttention) left. (Some (made (front ++ record unit { attention = x } ∷ rest) set slots), left))
    by_read (None, left) = refl
    by_read (Some attention, left) = ap (λ m. (Some m, left)) (attention_put front unit rest set slots at (Some attention) is)

    by_mark : (found : Bool) →
        cond found (then_read (attention_form.read (drop 2 text)) (λ (attention : UnitAttention) left.
        (Some (restored_attention (made (front ++ unit ∷ rest) set slots) at (Some attention)), left))) (Some (made (front ++ unit ∷ rest) set slots), text)
        ≡ then_read (cond found ((changed_form unit_place).read (drop 2 text)) (Some None, text))
        (λ (x : Option UnitAttention) left. (Some (made (front ++ record unit { attention = x } ∷ rest) set slots), left))
    by_mark true = by_read (attention_form.read (drop 2 text))
    by_mark false = ap (λ (u : LogicalUnit). (Some (made (front ++ u ∷ rest) set slots), text)) (quiet_again unit quiet)

pub attentions_as : (front rest : List LogicalUnit) (set : CommandSet) (slots : List SlotState) (at : ℕ) (text : List ℕ) → at ≡ length front →
    All (λ (unit : LogicalUnit). unit.attention ≡ None) rest →
    places_loaded attention_loaded (length rest) at (made (front ++ rest) set slots) text
    ≡ then_read (places_read (changed_form unit_place) (replicate (length rest) None) at text)
    (λ (xs : List (Option UnitAttention)) left. (Some (made (front ++ restored_units rest xs) set slots), left))
unfolding places_loaded
attentions_as front [] set slots at text is quiet = refl
attentions_as front (unit ∷ rest) set slots at text is quiet =
    rw (attention_as front unit rest set slots at text is (All-head (λ (u : LogicalUnit). u.attention ≡ None) unit rest quiet)) (by_place (λ x left. attentions_as (front ++ record unit { attention = x } ∷ []) rest set slots (suc at) left
    (length-more front (record unit { attention = x }) at is) (All-tail (λ (u : LogicalUnit). u.attention ≡ None) unit rest quiet)) (place_read (changed_form unit_place) None at text))
  where
    again : Option UnitAttention → List ℕ → Type 0
    again x left =
        places_loaded attention_loaded (length rest) (suc at) (made ((front ++ record unit { attention = x } ∷ []) ++ rest) set slots) left
        ≡ then_read (places_read (changed_form unit_place) (replicate (length rest) None) (suc at) left)
        (λ (xs : List (Option UnitAttention)) behind. (Some (made ((front ++ record unit { attention = x } ∷ []) ++ restored_units rest xs) set slots), behind))

    by_rest : (x : Option UnitAttention) (told : Option (List (Option UnitAttention)) × List ℕ) →
        then_read told (λ (xs : List (Option UnitAttention)) left. (Some (made ((front ++ record unit { attention = x } ∷ []) ++ restored_units rest xs) set slots), left))
        ≡ then_read (then_read told (λ (xs : List (Option UnitAttention)) behind. (Some (x ∷ xs), behind)))
        (λ (xs : List (Option UnitAttention)) left. (Some (made (front ++ restored_units (unit ∷ rest) xs) set slots), left))
    by_rest x (None, left) = refl
    by_rest x (Some xs, left) = ap (λ units. (Some (made units set slots), left)) (sym (one_more front (record unit { attention = x }) (restored_units rest xs)))

    by_place : ((x : Option UnitAttention) (left : List ℕ) → again x left) → (told : Option (Option UnitAttention) × List ℕ) →
        then_read (then_read told (λ (x : Option UnitAttention) left. (Some (made (front ++ record unit { attention = x } ∷ rest) set slots), left)))
        (λ (after : Machine) left. places_loaded attention_loaded (length rest) (suc at) after left)
        ≡ then_read (then_read told (λ (x : Option UnitAttention) left. then_read (places_read (changed_form unit_place) (replicate (length rest) None) (suc at) left)
        (λ (xs : List (Option UnitAttention)) behind. (Some (x ∷ xs), behind))))
        (λ (xs : List (Option UnitAttention)) left. (Some (made (front ++ restored_units (unit ∷ rest) xs) set slots), left))
    by_place more (None, left) = refl
    by_place more (Some x, left) =
        let here : LogicalUnit = record unit { attention = x } in
        ap (λ units. places_loaded attention_loaded (length rest) (suc at) (made units set slots) left) (one_more front here rest)
        ∙ more x left
        ∙ by_rest x (places_read (changed_form unit_place) (replicate (length rest) None) (suc at) left)

-- TAGS

-- a fresh tag that is restored from nothing is fresh
fresh_again : (chunk room : ℕ) → fresh_slot chunk room ≡ restored_slot (fresh_slot chunk room) (record { task = None; turn = 0 }) []
fresh_again chunk room = rw (length-replicate {A = ℕ} room 0) refl

-- with a test that says what `is_tag_state` does
module _ (units : List LogicalUnit) (set : CommandSet) (chunk room : ℕ) (test : SavedTag → Bool)
    (tests : (tag : SavedTag) → is_tag_state units chunk tag.0 (length tag.1) ≡ test tag) where
  abbrev sound_form : Form SavedTag
  sound_form = checked test tag_form

  abbrev place_form : PlaceForm SavedTag
  place_form = record { form = sound_form; is_fresh = is_fresh_tag }

  fresh : SlotState
  fresh = fresh_slot chunk room

  -- what is put on a fresh tag behind so many
  tag_restored : (front rest : List SlotState) (at : ℕ) (tag : SavedTag) → at ≡ length front → at < 240 →
      restored_tag (made units set (front ++ fresh_slot chunk room ∷ rest)) (suc at) tag.0 tag.1
      ≡ cond (test tag) (made units set (front ++ restored_slot (fresh_slot chunk room) tag.0 tag.1 ∷ rest), Ok tt)
      (made units set (front ++ fresh_slot chunk room ∷ rest), Err (record {}))
  tag_restored front rest at tag is few =
      let one : is_tag (suc at) ≡ true = and_from _ _ (lt-ltb 0 (suc at) (omega arith)) (le-leb (suc at) 240 (omega arith)) in
      rw (
        one,
        is,
        index_front front (fresh_slot chunk room) no_slot rest,
        tests tag,
        set_front front (fresh_slot chunk room)
            (restored_slot (fresh_slot chunk room) tag.0 tag.1) rest,
      ) refl

  abbrev with_tag : List SlotState → List SlotState → SavedTag → Machine
  with_tag front rest tag = made units set (front ++ restored_slot (fresh_slot chunk room) tag.0 tag.1 ∷ rest)

  put_by : (front rest : List SlotState) (tag : SavedTag) (sound : Bool) (start left : List ℕ) →
      let after : Machine × Result (Unit {0}) Unsound = cond sound (with_tag front rest tag, Ok tt) (made units set (front ++ fresh_slot chunk room ∷ rest), Err (record {})) in
      let told : Option Machine × List ℕ = cond (is_ok after.1 && not (is_fresh_tag tag)) (Some after.0, left) (None, start) in
      told ≡ then_read (then_read (cond sound (Some tag, left) (None, start)) (λ (x : SavedTag) behind. cond (not (is_fresh_tag x)) (Some x, behind) (None, start)))
      (λ (x : SavedTag) behind. (Some (with_tag front rest x), behind))
  put_by front rest tag true start left = by_fresh (not (is_fresh_tag tag))
    where
      by_fresh : (changed : Bool) → let told : Option Machine × List ℕ = cond changed (Some (with_tag front rest tag), left) (None, start) in
          told ≡ then_read (cond changed (Some tag, left) (None, start)) (λ (x : SavedTag) behind. (Some (with_tag front rest x), behind))
      by_fresh true = refl
      by_fresh false = refl
  put_by front rest tag false start left = refl

  tag_as : (front rest : List SlotState) (at : ℕ) (text : List ℕ) → at ≡ length front → at < 240 →
      tag_loaded (made units set (front ++ fresh_slot chunk room ∷ rest)) at text
      ≡ then_read (place_read (changed_form place_form) fresh_tag at text) (λ (x : SavedTag) left. (Some (with_tag front rest x), left))
  tag_as front rest at text is few = by_mark (has_mark at text)
    where
      by_read : (told : Option SavedTag × List ℕ) →
          then_read told (λ (tag : SavedTag) left. tag_put (made units set (front ++ fresh_slot chunk room ∷ rest)) at tag (drop 2 text) left)
          ≡ then_read (then_read (then_read told (λ (a : SavedTag) left. cond (test a) (Some a, left) (None, drop 2 text)))
          (λ (a : SavedTag) left. cond (not (is_fresh_tag a)) (Some a, left) (None, drop 2 text))) (λ (x : SavedTag) left. (Some (with_tag front rest x), left))
      by_read (None, left) = refl
      by_read (Some tag, left) = rw (tag_restored front rest at tag is few) (put_by front rest tag (test tag) (drop 2 text) left)

      by_mark : (found : Bool) →
          cond found (then_read (tag_form.read (drop 2 text)) (λ (tag : SavedTag) left. tag_put (made units set (front ++ fresh_slot chunk room ∷ rest)) at tag (drop 2 text) left))
          (Some (made units set (front ++ fresh_slot chunk room ∷ rest)), text)
          ≡ then_read (cond found ((changed_form place_form).read (drop 2 text)) (Some fresh_tag, text)) (λ (x : SavedTag) left. (Some (with_tag front rest x), left))
      by_mark true = by_read (tag_form.read (drop 2 text))
      by_mark false = ap (λ s. (Some (made units set (front ++ s ∷ rest)), text)) (fresh_again chunk room)

  pub tags_as : (many : ℕ) (front : List SlotState) (at : ℕ) (text : List ℕ) → at ≡ length front → at + many ≤ 240 →
      places_loaded tag_loaded many at (made units set (front ++ replicate many (fresh_slot chunk room))) text
      ≡ then_read (places_read (changed_form place_form) (replicate many fresh_tag) at text)
      (λ (xs : List SavedTag) left. (Some (made units set (front ++ restored_slots (replicate many (fresh_slot chunk room)) xs)), left))
  unfolding places_loaded
  tags_as zero front at text is few = refl
  tags_as (suc many) front at text is few =
      rw (tag_as front (replicate many (fresh_slot chunk room)) at text is (omega (arith, few)))
      (by_place (λ x left. tags_as many (front ++ restored_slot (fresh_slot chunk room) x.0 x.1 ∷ []) (suc at) left
      (length-more front (restored_slot (fresh_slot chunk room) x.0 x.1) at is) (omega (arith, few))) (place_read (changed_form place_form) fresh_tag at text))
    where
      rest : List SlotState
      rest = replicate many (fresh_slot chunk room)

      again : SavedTag → List ℕ → Type 0
      again x left =
          places_loaded tag_loaded many (suc at) (made units set ((front ++ restored_slot (fresh_slot chunk room) x.0 x.1 ∷ []) ++ replicate many (fresh_slot chunk room))) left
          ≡ then_read (places_read (changed_form place_form) (replicate many fresh_tag) (suc at) left)
          (λ (xs : List SavedTag) behind. (
            Some (made units set ((front ++ restored_slot (fresh_slot chunk room) x.0 x.1 ∷ [])
                ++ restored_slots (replicate many (fresh_slot chunk room)) xs)),
            behind,
          ))

      by_rest : (x : SavedTag) (told : Option (List SavedTag) × List ℕ) →
          then_read told (λ (xs : List SavedTag) left. (
            Some (made units set ((front ++ restored_slot (fresh_slot chunk room) x.0 x.1 ∷ [])
                ++ restored_slots (replicate many (fresh_slot chunk room)) xs)),
            left,
          ))
          ≡ then_read (then_read told (λ (xs : List SavedTag) behind. (Some (x ∷ xs), behind)))
          (λ (xs : List SavedTag) left. (Some (made units set (front ++ restored_slots (replicate (suc many) (fresh_slot chunk room)) xs)), left))
      by_rest x (None, left) = refl
      by_rest x (Some xs, left) =
          ap (λ slots. (Some (made units set slots), left))
          (sym (one_more front (restored_slot (fresh_slot chunk room) x.0 x.1) (restored_slots (replicate many (fresh_slot chunk room)) xs)))

      by_place : ((x : SavedTag) (left : List ℕ) → again x left) → (told : Option SavedTag × List ℕ) →
          then_read (then_read told (λ (x : SavedTag) left. (Some (with_tag front (replicate many (fresh_slot chunk room)) x), left)))
          (λ (after : Machine) left. places_loaded tag_loaded many (suc at) after left)
          ≡ then_read (then_read told (λ (x : SavedTag) left. then_read (places_read (changed_form place_form) (replicate many fresh_tag) (suc at) left)
          (λ (xs : List SavedTag) behind. (Some (x ∷ xs), behind))))
          (λ (xs : List SavedTag) left. (Some (made units set (front ++ restored_slots (replicate (suc many) (fresh_slot chunk room)) xs)), left))
      by_place more (None, left) = refl
      by_place more (Some x, left) =
          ap (λ slots. places_loaded tag_loaded many (suc at) (made units set slots) left)
          (one_more front (restored_slot (fresh_slot chunk room) x.0 x.1) (replicate many (fresh_slot chunk room)))
          ∙ more x left
          ∙ by_rest x (places_read (changed_form place_form) (replicate many fresh_tag) (suc at) left)
