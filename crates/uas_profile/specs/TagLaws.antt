-- The laws of tags, as statements that a contract can name: they hold for each number of tags.
use Rattle.std.specs.Prelude.{◌≡◌, ℕ, Some, None, ◌*◌, ◌<◌, ◌≤◌}
use Rattle.uas_profile.specs.declared.Place.{Place}
use Rattle.uas_profile.specs.Tags.{client_of, place_of, slot_of, tag_of}

-- the tag of a client's slot has that client and that slot
abbrev pub TagOfItsPlace : Type 0
TagOfItsPlace =
    (tags : ℕ) (place : Place) → place.slot < tags
    → (client_of tags (tag_of tags place) ≡ place.client) × (slot_of tags (tag_of tags place) ≡ place.slot)

-- a tag is that of its client's slot
abbrev pub PlaceOfItsTag : Type 0
PlaceOfItsTag =
    (tags tag : ℕ) → 0 < tags → 0 < tag → tag_of tags (record { client = client_of tags tag; slot = slot_of tags tag }) ≡ tag

-- a tag's slot is one of the client's
abbrev pub SlotsBelowTags : Type 0
SlotsBelowTags = (tags tag : ℕ) → 0 < tags → slot_of tags tag < tags

-- two places have two tags
abbrev pub TagsApart : Type 0
TagsApart =
    (tags : ℕ) (place other : Place) → place.slot < tags → other.slot < tags → tag_of tags place ≡ tag_of tags other → place ≡ other

-- so many clients have the tags 1 to tags times clients
abbrev pub TagsWithin : Type 0
TagsWithin =
    (tags clients : ℕ) (place : Place) → place.client < clients → place.slot < tags
    → (0 < tag_of tags place) × (tag_of tags place ≤ tags * clients)

-- a tag that names a place of so many clients is that place's, and the place is one of theirs
pub record IsNamed (tags clients tag : ℕ) (place : Place) : Type 0 where
  pub client : place.client < clients
  pub slot : place.slot < tags
  pub is : tag ≡ tag_of tags place

abbrev pub NamedIsPlace : Type 0
NamedIsPlace = (tags clients tag : ℕ) (place : Place) → 0 < tags → place_of tags clients tag ≡ Some place → IsNamed tags clients tag place

abbrev pub PlaceIsNamed : Type 0
PlaceIsNamed =
    (tags clients : ℕ) (place : Place) → place.client < clients → place.slot < tags → place_of tags clients (tag_of tags place) ≡ Some place

-- a tag that names none is above them all
abbrev pub UnnamedIsAbove : Type 0
UnnamedIsAbove = (tags clients tag : ℕ) → 0 < tag → place_of tags clients tag ≡ None → clients * tags < tag
