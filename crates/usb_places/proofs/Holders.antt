-- The first place that holds a transfer of an id, along the list of tags.
use Rattle.std.proofs.Common.{◌≡◌, ℕ, zero, suc, ◌+◌, ◌≤◌, List, [], ◌∷◌, ◌++◌, length, map, take, drop, slice_get, Option, None, Some, option_map, refl, ap, ◌∙◌, arith, add-one}
use Rattle.std.proofs.lemmas.List.{take_all, drop_all, append-nil}
use Rattle.uas_profile.specs.declared.Pipe.{Pipe}
use Rattle.usb_places.specs.Places.{further, holder, or_further}
use Rattle.usb_places.specs.States.{TagState, holder_in}

-- so many items changed, of which there are no more
pub map-all : {T : Type 0} (f : T → T) (items now : List T) (many : ℕ) → now ≡ map f (take many items) ++ drop many items →
    length items ≤ many → now ≡ map f items
map-all f items now many is all =
    is ∙ ap (λ front. map f front ++ drop many items) (take_all many items all) ∙ ap (λ rest. map f items ++ rest) (drop_all many items all)
    ∙ append-nil (map f items)

-- a place behind so many tags more
abbrev pub further_by : ℕ → Option (Pipe × ℕ) → Option (Pipe × ℕ)
further_by many place = option_map (λ (p : Pipe × ℕ). (p.0, many + p.1)) place

pub further_by-zero : (place : Option (Pipe × ℕ)) → place ≡ further_by zero place
further_by-zero None = refl
further_by-zero (Some place) = ap (λ tag. Some (place.0, tag)) (omega arith)

pub further_by-further : (many : ℕ) (place : Option (Pipe × ℕ)) → further_by many (option_map further place) ≡ further_by (many + 1) place
further_by-further many None = refl
further_by-further many (Some place) = ap (λ tag. Some (place.0, tag)) (omega arith)

next : (id : ℕ) (tags : List TagState) (many : ℕ) (tag : TagState) → slice_get tags many ≡ Some tag →
    holder id (drop many tags) ≡ or_further (holder_in id tag) (holder id (drop (suc many) tags))
next id [] many tag at = absurd (cc at)
next id (first ∷ tags) zero tag at = cc at
next id (first ∷ tags) (suc many) tag at = next id tags many tag at

-- at a tag
pub holder-drop : (id : ℕ) (tags : List TagState) (many : ℕ) (tag : TagState) → slice_get tags many ≡ Some tag →
    holder id (drop many tags) ≡ or_further (holder_in id tag) (holder id (drop (many + 1) tags))
holder-drop id tags many tag at = rw (add-one many) (next id tags many tag at)
