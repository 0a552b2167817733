-- The lowest tag of a kind is there, and is of that kind.
use Rattle.std.proofs.Common.{◌≡◌, Bool, sym, ℕ, suc, ◌-◌, ◌≤◌, List, length, Option, None, Some, true, false, refl, ap, ◌∙◌, arith}
use Rattle.std.specs.Prelude.{◌==◌, ◌||◌, nat_lt, if◌then◌else◌, option_map, slice_index_or}
use Rattle.std.specs.List.{position}
use Rattle.std.proofs.lemmas.Bool.{le-ltb, ne_eqb}
use Rattle.std.proofs.lemmas.List.Quantifiers.{position-Some}
use Rattle.std.proofs.lemmas.Option.{same_Some}
use Rattle.block_driver.specs.declared.table.Entry.{Entry}
use Rattle.block_driver.specs.declared.table.Entry.TheVariants as entry
use Rattle.block_driver.specs.declared.kinds.Kind.{Kind}
use Rattle.block_driver.specs.declared.kinds.Kind.TheVariants as kind
use Rattle.block_driver.specs.Table.{entry_at, entry_under, first_of, is_kind, mark_of, place_in}

suc_parts : (found : Option ℕ) (tag : ℕ) → option_map suc found ≡ Some tag → (place : ℕ) × (found ≡ Some place) × (suc place ≡ tag)
suc_parts None tag is = absurd (cc is)
suc_parts (Some place) tag is = (place, refl, same_Some _ _ is)

pub place_of : (tags : List Entry) (tag : ℕ) → 1 ≤ tag → tag ≤ length tags → place_in tags tag ≡ Some (tag - 1)
place_of tags tag first last =
    let some : (tag == 0) ≡ false = ne_eqb tag 0 (λ e. omega (arith, e, first)) in
    rw (some, le-ltb (length tags) tag last) refl

place_by : (is : Bool) (tag place : ℕ) → (if is then None else Some (tag - 1)) ≡ Some place → place ≡ tag - 1
place_by true tag place at = absurd (cc at)
place_by false tag place at = sym (same_Some _ _ at)

pub place_is : (tags : List Entry) (tag place : ℕ) → place_in tags tag ≡ Some place → place ≡ tag - 1
place_is tags tag place at = place_by ((tag == 0) || nat_lt (length tags) tag) tag place at

pub first_there : (which : Kind) (tags : List Entry) (tag : ℕ) → first_of which tags ≡ Some tag → place_in tags tag ≡ Some (tag - 1)
first_there which tags tag is =
    let parts = suc_parts (position (is_kind which) tags) tag is in
    let facts = position-Some (is_kind which) tags parts.0 entry.Free parts.1 in
    place_of tags tag (omega (arith, parts.2)) (omega (arith, parts.2, facts.0))

pub first_kind : (which : Kind) (tags : List Entry) (tag : ℕ) → first_of which tags ≡ Some tag → is_kind which (entry_at tags tag) ≡ true
first_kind which tags tag is =
    let parts = suc_parts (position (is_kind which) tags) tag is in
    let facts = position-Some (is_kind which) tags parts.0 entry.Free parts.1 in
    let place : tag - 1 ≡ parts.0 = omega (arith, parts.2) in
    ap (λ at. is_kind which (entry_under at tags)) (first_there which tags tag is)
    ∙ ap (λ at. is_kind which (slice_index_or tags at entry.Free)) place ∙ facts.1

-- a tag that is free has no command
pub free_mark : (one : Entry) → is_kind kind.Free one ≡ true → mark_of one ≡ None
free_mark entry.Free is = refl
free_mark (entry.Outstanding command) is = absurd (cc is)
free_mark (entry.Replied reply) is = absurd (cc is)
