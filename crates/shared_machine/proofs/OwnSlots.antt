-- The slot of a client that a tag names is the slot of the tag's index among the client's. Cited by Managed and Refusals.
use Rattle.std.proofs.Common.{◌≡◌, ℕ, zero, suc, ◌+◌, ◌*◌, ◌-◌, ◌/◌, ◌%◌, ◌<◌, true, Some, refl, arith, ap, sym, subst, ◌∙◌}
use Rattle.std.specs.Prelude.{nat_lt, ◌==◌, ◌&&◌}
use Rattle.std.proofs.lemmas.Bool.{and_parts, eq-eqb, eqb-true, lt-ltb, ltb-true}
use Rattle.std.proofs.lemmas.Nat.{div-add-mod'}
use Rattle.std.proofs.lemmas.Option.{cond_some, none-some, option_and_then_some}
use Rattle.uas_profile.specs.declared.Place.{Place}
use Rattle.uas_profile.specs.Tags.{place_of, own_slot, command_slot, task_slot}
use Rattle.uas_profile.proofs.TagLaws.{client-before, slot-before}
use Rattle.shared_machine.specs.Part.{own_tag}
use Rattle.std.proofs.Common.{Option, rules}
use Rattle.std.specs.Prelude.{option_and_then}

-- TAGS

-- what a command tag's slot says of the client and the index
pub record IsOwnSlot (tags clients client tag slot : ℕ) : Type 0 where
  pub there : client < clients
  pub within : slot < task_slot tags
  pub index : own_tag tags client tag ≡ suc slot

-- what a tag less 1 says of the client's index
index-of : (tags before : ℕ) → suc before - before / tags * tags ≡ suc (before % tags)
index-of tags before = omega (arith, div-add-mod' before tags)

-- the same, of the place that the tag names
pub placed_slot-own : (tags clients client before slot : ℕ) → nat_lt (before / tags) clients ≡ true
    → (before / tags == client) && nat_lt (before % tags) (task_slot tags) ≡ true → before % tags ≡ slot → IsOwnSlot tags clients client (suc before) slot
placed_slot-own tags clients client before slot there own is =
    let parts = and_parts (before / tags == client) (nat_lt (before % tags) (task_slot tags)) own in
    let below : before / tags < clients = ltb-true _ _ there in
    let same : before / tags ≡ client = eqb-true _ _ parts.0 in
    let small : before % tags < task_slot tags = ltb-true _ _ parts.1 in
    let index : suc before - client * tags ≡ suc (before % tags) = rw (← same) (index-of tags before) in
    record { there = omega (arith, below, same); within = omega (arith, small, is); index = index ∙ ap suc is }

pub command_slot-own : (tags clients client tag slot : ℕ) → command_slot tags clients client tag ≡ Some slot → IsOwnSlot tags clients client tag slot
command_slot-own tags clients client zero slot is = absurd (none-some slot is)
command_slot-own tags clients client (suc before) slot is =
    option_and_then_some (own_slot tags client) (place_of tags clients (suc before)) slot is (λ place at own_at.
    let here = cond_some (nat_lt (before / tags) clients) (record { client = before / tags; slot = before % tags }) place at in
    let own = cond_some ((before / tags == client) && nat_lt (before % tags) (task_slot tags)) (before % tags) slot
    (subst (λ (p : Place). own_slot tags client p ≡ Some slot) (sym here.1) own_at) in
    placed_slot-own tags clients client before slot here.0 own.0 own.1)

pub own-command_slot : (tags clients client tag slot : ℕ) → IsOwnSlot tags clients client tag slot → command_slot tags clients client tag ≡ Some slot
own-command_slot tags clients client zero slot own = absurd (omega (arith, own.index))
own-command_slot tags clients client (suc before) slot own =
    let at : before ≡ client * tags + slot = omega (arith, own.index) in
    let below : slot < tags = omega (arith, own.within) in
    let client_is : before / tags ≡ client = client-before tags client before slot at below in
    let slot_is : before % tags ≡ slot = slot-before tags client before slot at below in
    let there : nat_lt client clients ≡ true = lt-ltb _ _ own.there in
    let within : nat_lt slot (task_slot tags) ≡ true = lt-ltb _ _ own.within in
    rw (client_is, slot_is, there, eq-eqb client client refl, within) refl

-- the slot of a command tag is no task management's
pub placed_slot-within : (tags client : ℕ) (place : Option Place) (slot : ℕ) → option_and_then (own_slot tags client) place ≡ Some slot
    → nat_lt slot (task_slot tags) ≡ true
placed_slot-within tags client place slot is = search rules
