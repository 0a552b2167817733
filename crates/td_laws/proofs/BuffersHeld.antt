-- What stands in the buffers, address for address.
use Rattle.std.proofs.Common.{◌≡◌, ℕ, zero, suc, ◌+◌, true, false, List, [], ◌∷◌, ◌++◌, map, Option, Some, None, refl, sym, ap, ◌∙◌}
use Rattle.std.specs.Prelude.{is_some, unwrap_or}
use Rattle.std.specs.List.{AllByRecursion}
use Rattle.std.proofs.lemmas.Bool.{false≢true}
use Rattle.std.proofs.lemmas.List.{map-append}
use Rattle.std.proofs.lemmas.Option.{none-some, same_Some}
use Rattle.guest_memory.specs.Bytes.{Memory, bytes_from, ◌>>=◌}
use Rattle.guest_memory.specs.declared.rings.context.Home.{Home}
use Rattle.guest_memory.specs.declared.rings.wanting.Range.{Range}
use Rattle.guest_tags.specs.Devices.{Kind}
use Rattle.guest_tags.specs.Tags.{TagWorld}
use Rattle.td_laws.specs.Noting.{Noted, noting}
use Rattle.td_laws.specs.Runs.{Others, Steps, TagTurn, all_stepped, part_filled, parts_filled, stepped}
use Rattle.td_laws.specs.InOrder.{StayFilled, held_by, held_in}
use Rattle.td_laws.specs.Buffers.{addresses, addresses_from, all_addresses}
use Rattle.td_laws.specs.Filled.{BuffersHoldWhatWasGiven, standing}
use Rattle.td_laws.proofs.Buffered.{parts_are_buffers}
use Rattle.td_laws.proofs.Noted.{step-orders}
use Rattle.td_laws.proofs.Ordered.{given_in_order, kept_before, stays}

-- the bytes of a range that is there, one by one
from_there : (memory : Memory) (at n : ℕ) (bytes : List ℕ) → bytes_from memory at n ≡ Some bytes → standing memory (addresses_from at n) ≡ map Some bytes
unfolding bytes_from addresses_from
from_there memory at zero bytes is = ap (λ (b : List ℕ). map Some b) (same_Some [] bytes is)
from_there memory at (suc n) bytes is =
    by_first (memory at) (bytes_from memory (at + 1) n) refl (λ others has. from_there memory (at + 1) n others has) is
  where
    by_first : (first : Option ℕ) (behind : Option (List ℕ)) → memory at ≡ first
        → ((others : List ℕ) → behind ≡ Some others → standing memory (addresses_from (at + 1) n) ≡ map Some others)
        → (first >>= (λ b. behind >>= (λ others. Some (b ∷ others)))) ≡ Some bytes
        → memory at ∷ standing memory (addresses_from (at + 1) n) ≡ map Some bytes
    by_first None behind first rest is = absurd (none-some bytes is)
    by_first (Some b) None first rest is = absurd (none-some bytes is)
    by_first (Some b) (Some others) first rest is =
        ap (λ (x : Option ℕ). x ∷ standing memory (addresses_from (at + 1) n)) first ∙ ap (λ (l : List (Option ℕ)). Some b ∷ l) (rest others refl)
        ∙ ap (λ (l : List ℕ). map Some l) (same_Some (b ∷ others) bytes is)

part_there : (memory : Memory) (part : Range) → is_some (held_in memory part) ≡ true → standing memory (addresses part) ≡ map Some (unwrap_or (held_in memory part) [])
part_there memory part there = by_held (held_in memory part) refl there
  where
    by_held : (held : Option (List ℕ)) → held_in memory part ≡ held → is_some held ≡ true → standing memory (addresses part) ≡ map Some (unwrap_or held [])
    by_held None is there = absurd (false≢true there)
    by_held (Some bytes) is there = from_there memory part.at part.count bytes is

abbrev AreThere : Memory → List Range → Type 0
AreThere memory parts = AllByRecursion (λ part. is_some (held_in memory part) ≡ true) parts

parts_there : (memory : Memory) (parts : List Range) → AreThere memory parts → standing memory (all_addresses parts) ≡ map Some (held_by memory parts)
parts_there memory [] there = refl
parts_there memory (part ∷ parts) there =
    map-append memory (addresses part) (all_addresses parts)
    ∙ ap (λ (l : List (Option ℕ)). l ++ standing memory (all_addresses parts)) (part_there memory part there.0)
    ∙ ap (λ (l : List (Option ℕ)). map Some (unwrap_or (held_in memory part) []) ++ l) (parts_there memory parts there.1)
    ∙ sym (map-append Some (unwrap_or (held_in memory part) []) (held_by memory parts))

module _ {D : Type 0} (kind : Kind D) (number : ℕ) (home : Home) where
  abbrev Tags : Type 0
  Tags = TagWorld (Noted D)

  -- each part that was filled is there in the end
  all_there : (turns : List (TagTurn Tags)) (parts : List Range) (w : Tags) → StayFilled kind number home parts w turns
      → (all_stepped (noting kind) number home w turns).tag.drops ≡ false
      → AreThere (all_stepped (noting kind) number home w turns).ring.memory (parts_filled (noting kind) number home w turns)
  all_there [] parts w filled kept = tt
  all_there (Steps ∷ turns) parts w filled kept =
      let v = stepped (noting kind) number home w in
      let part = part_filled (noting kind) number home w in
      let kept_there = kept_before kind number home turns (part ∷ parts) v filled.1 kept in
      let same = (stays kind number home turns (part ∷ parts) v filled.1).0 in (
        ap (λ (held : Option (List ℕ)). is_some held) same ∙ (step-orders kind w number home).there kept_there filled.0.events.0 filled.0.ends.0,
        all_there turns (part ∷ parts) v filled.1 kept,
      )
  all_there (Others other ∷ turns) parts w filled kept = all_there turns parts other filled.1 kept

  pub buffers_hold_what_was_given : BuffersHoldWhatWasGiven kind number home
  buffers_hold_what_was_given w turns filled clear begins fresh kept =
      let end = all_stepped (noting kind) number home w turns in
      let parts = parts_filled (noting kind) number home w turns in
      ap (λ (places : List ℕ). standing end.ring.memory places ++ map Some end.tag.chunk) (sym (parts_are_buffers (noting kind) number home w turns clear fresh))
      ∙ ap (λ (l : List (Option ℕ)). l ++ map Some end.tag.chunk) (parts_there end.ring.memory parts (all_there turns [] w filled kept))
      ∙ sym (map-append Some (held_by end.ring.memory parts) end.tag.chunk)
      ∙ ap (λ (l : List ℕ). map Some l) (given_in_order kind number home w turns filled begins kept)
