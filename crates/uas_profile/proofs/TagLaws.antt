-- The laws of tags, for each number of tags of a client.
use Rattle.std.proofs.Common.{◌≡◌, Some, None, true, false, cond, subst, ℕ, zero, suc, ◌+◌, ◌*◌, ◌-◌, ◌/◌, ◌%◌, ◌<◌, refl, arith, ap, sym, ◌∙◌}
use Rattle.std.proofs.lemmas.Nat.{mul-le, div-mul-add, mod-mul-add, div-add-mod', mod_below, same_from_place, mul-add-lt}
use Rattle.std.specs.Prelude.{nat_lt, if◌then◌else◌}
use Rattle.std.proofs.lemmas.Bool.{lt-ltb, ltb-true, ltb-false}
use Rattle.std.proofs.lemmas.Option.{cond_some, none-some}
use Rattle.uas_profile.specs.declared.Place.{Place}
use Rattle.uas_profile.specs.Tags.{client_of, slot_of, place_of}
use Rattle.uas_profile.specs.TagLaws.{IsNamed, NamedIsPlace, PlaceIsNamed, UnnamedIsAbove, PlaceOfItsTag, SlotsBelowTags, TagOfItsPlace, TagsApart, TagsWithin}

-- of a tag that is one
pub client-of_some : (tags tag : ℕ) → 0 < tag → (tag - 1) / tags ≡ client_of tags tag
client-of_some tags zero some = absurd (omega (arith, some))
client-of_some tags (suc before) some = let less : suc before - 1 ≡ before = omega arith in ap (λ n. n / tags) less

pub slot-of_some : (tags tag : ℕ) → 0 < tag → (tag - 1) % tags ≡ slot_of tags tag
slot-of_some tags zero some = absurd (omega (arith, some))
slot-of_some tags (suc before) some = let less : suc before - 1 ≡ before = omega arith in ap (λ n. n % tags) less

-- a tag is one more than the place's number in the order of client and slot
tag-before : (tags client slot : ℕ) → client * tags + slot + 1 ≡ suc (client * tags + slot)
tag-before tags client slot = omega arith

pub client-of_tag : (tags client slot : ℕ) → slot < tags → client_of tags (client * tags + slot + 1) ≡ client
client-of_tag tags client slot within = ap (client_of tags) (tag-before tags client slot) ∙ div-mul-add client tags slot within

pub slot-of_tag : (tags client slot : ℕ) → slot < tags → slot_of tags (client * tags + slot + 1) ≡ slot
slot-of_tag tags client slot within = ap (slot_of tags) (tag-before tags client slot) ∙ mod-mul-add client tags slot within

-- the same, of what stands before the tag
pub client-before : (tags client before slot : ℕ) → before ≡ client * tags + slot → slot < tags → before / tags ≡ client
client-before tags client before slot is within = ap (λ n. n / tags) is ∙ div-mul-add client tags slot within

pub slot-before : (tags client before slot : ℕ) → before ≡ client * tags + slot → slot < tags → before % tags ≡ slot
slot-before tags client before slot is within = ap (λ n. n % tags) is ∙ mod-mul-add client tags slot within

pub tag-of_its_place : TagOfItsPlace
tag-of_its_place tags place within = (client-of_tag tags place.client place.slot within, slot-of_tag tags place.client place.slot within)

pub place-of_its_tag : PlaceOfItsTag
place-of_its_tag tags zero some tagged = absurd (omega (arith, tagged))
place-of_its_tag tags (suc before) some tagged = omega (arith, div-add-mod' before tags)

pub slots-below_tags : SlotsBelowTags
slots-below_tags tags zero some = some
slots-below_tags tags (suc before) some = mod_below before tags some

pub tags-apart : TagsApart
tags-apart tags place other within there same =
    let both = same_from_place place.client place.slot other.client other.slot tags within there (omega (arith, same)) in
    rw (both.0, both.1) refl

pub tags-within : TagsWithin
tags-within tags clients place client slot =
    (omega arith, omega (arith, mul-add-lt place.client tags place.slot clients client slot))

pub named-is_place : NamedIsPlace
named-is_place tags clients zero place some is = absurd (none-some place is)
named-is_place tags clients (suc before) place some is =
    let here = cond_some (nat_lt (before / tags) clients) (record { client = before / tags; slot = before % tags }) place is in
    let named : IsNamed tags clients (suc before) (record { client = before / tags; slot = before % tags }) = record {
      client = ltb-true (before / tags) clients here.0;
      slot = mod_below before tags some;
      is = omega (arith, div-add-mod' before tags);
    } in
    subst (λ at. IsNamed tags clients (suc before) at) here.1 named

pub place-is_named : PlaceIsNamed
place-is_named tags clients place client slot =
    let before : ℕ = place.client * tags + place.slot in
    let owner : before / tags ≡ place.client = div-mul-add place.client tags place.slot slot in
    let index : before % tags ≡ place.slot = mod-mul-add place.client tags place.slot slot in
    ap (place_of tags clients) (tag-before tags place.client place.slot)
    ∙ ap (λ c. if nat_lt c clients then Some (record { client = c; slot = before % tags }) else None) owner
    ∙ ap (λ s. if nat_lt place.client clients then Some (record { client = place.client; slot = s }) else None) index
    ∙ ap (λ b. if b then Some place else None) (lt-ltb place.client clients client)

pub unnamed-is_above : UnnamedIsAbove
unnamed-is_above tags clients zero some none = absurd (omega (arith, some))
unnamed-is_above tags clients (suc before) some none =
    elim (nat_lt (before / tags) clients) as (λ b. nat_lt (before / tags) clients ≡ b
    → cond b (Some (let at : Place = record { client = before / tags; slot = before % tags } in at)) None ≡ None → clients * tags < suc before) [
      | true ↦ λ is there. absurd (none-some (record { client = before / tags; slot = before % tags }) (sym there))
      | false ↦ λ is there. omega (
        arith,
        mul-le clients tags (before / tags) tags (ltb-false (before / tags) clients is) (omega arith),
        div-add-mod' before tags,
      )
    ] refl none
