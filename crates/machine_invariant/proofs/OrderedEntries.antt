-- What a step of the device or of the host makes of a client's entries, as far as their order goes: each keeps its ticket and its request, none that was
-- received is queued again, and none that is done with goes on. Cited by OrderedMessages, OrderedParts,
-- OrderedActs and OrderedCarry.
use Rattle.std.proofs.Common.{◌≡◌, ℕ, ◌<◌, true, false, List, map, length, Option, Some, None, option_map, refl, ap, sym, subst, ◌∙◌}
use Rattle.std.specs.Prelude.{◌==◌, slice_set}
use Rattle.std.proofs.Math.ListN.{get_or-map}
use Rattle.std.proofs.lemmas.Bool.{eqb-true, eqb-false}
use Rattle.std.proofs.lemmas.List.{get_or-set_same, get_or-set_other}
use Rattle.std.proofs.lemmas.Option.{none-some, same_Some}
use Rattle.scsi_cmd.specs.Held.{held_at}
use Rattle.solo_model.specs.TaggedTask.{TaggedTask, can_go}
use Rattle.shared_machine.specs.Td.{Entry}
use Rattle.machine_invariant.specs.Ordered.{is_queued}
use Rattle.machine_invariant.proofs.MatchedPlaces.{held-within}

-- ONE ENTRY

-- an entry that a step took on
pub record IsOnward (was now : Entry) : Type 0 where
  pub ticket : now.task.ticket ≡ was.task.ticket
  pub request : now.task.request ≡ was.task.request
  pub received : is_queued was.task.phase ≡ false → is_queued now.task.phase ≡ false
  pub ended : can_go was.task.phase ≡ false → can_go now.task.phase ≡ false

-- the same, and the device hasn't received it by this step
pub record IsStill (was now : Entry) : Type 0 where
  pub onward : IsOnward was now
  pub queued : is_queued was.task.phase ≡ true → is_queued now.task.phase ≡ true

pub IsOnward-self : (entry : Entry) → IsOnward entry entry
IsOnward-self entry = record { ticket = refl; request = refl; received = λ is. is; ended = λ is. is }

-- an entry that keeps its task
pub kept-still : (was now : Entry) → now.task ≡ was.task → IsStill was now
kept-still was now same = record {
  onward = record {
    ticket = ap (λ (task : TaggedTask). task.ticket) same;
    request = ap (λ (task : TaggedTask). task.request) same;
    received = λ is. ap (λ (task : TaggedTask). is_queued task.phase) same ∙ is;
    ended = λ is. ap (λ (task : TaggedTask). can_go task.phase) same ∙ is;
  };
  queued = λ is. ap (λ (task : TaggedTask). is_queued task.phase) same ∙ is;
}

pub IsOnward-then : (first second third : Entry) → IsOnward first second → IsOnward second third → IsOnward first third
IsOnward-then first second third one two = record {
  ticket = two.ticket ∙ one.ticket;
  request = two.request ∙ one.request;
  received = λ is. two.received (one.received is);
  ended = λ is. two.ended (one.ended is);
}

-- WHAT A SLOT HOLDS

-- the entry there is another one's next, and nothing comes nor goes
abbrev pub IsNext : (Entry → Entry → Type 0) → Option Entry → Option Entry → Type 0
IsNext Holds None None = Unit {0}
IsNext Holds None (Some now) = ⊥
IsNext Holds (Some was) None = ⊥
IsNext Holds (Some was) (Some now) = Holds was now

-- so it is in each slot
abbrev pub AreNext : (Entry → Entry → Type 0) → List (Option Entry) → List (Option Entry) → Type 0
AreNext Holds entries after = (slot : ℕ) → IsNext Holds (held_at entries slot) (held_at after slot)

pub IsNext-self : (Holds : Entry → Entry → Type 0) → ((entry : Entry) → Holds entry entry) → (held : Option Entry) → IsNext Holds held held
IsNext-self Holds each None = tt
IsNext-self Holds each (Some entry) = each entry

pub IsNext-weaker : (Holds Weaker : Entry → Entry → Type 0) → ((was now : Entry) → Holds was now → Weaker was now) → (held after : Option Entry)
    → IsNext Holds held after → IsNext Weaker held after
IsNext-weaker Holds Weaker less None None is = tt
IsNext-weaker Holds Weaker less None (Some now) is = absurd is
IsNext-weaker Holds Weaker less (Some was) None is = absurd is
IsNext-weaker Holds Weaker less (Some was) (Some now) is = less was now is

-- the entry that stood there, and the one that stands there
pub record IsAfter (Holds : Entry → Entry → Type 0) (held : Option Entry) (now : Entry) : Type 0 where
  pub was : Entry
  pub held_was : held ≡ Some was
  pub so : Holds was now

pub next-after : (Holds : Entry → Entry → Type 0) (held after : Option Entry) (now : Entry) → IsNext Holds held after → after ≡ Some now
    → IsAfter Holds held now
next-after Holds None None now is at = absurd (none-some now at)
next-after Holds None (Some other) now is at = absurd is
next-after Holds (Some was) None now is at = absurd is
next-after Holds (Some was) (Some other) now is at =
    record { was = was; held_was = refl; so = subst (λ (e : Entry). Holds was e) (same_Some other now at) is }

-- where one stood, another one stands
next-held : (Holds : Entry → Entry → Type 0) (held after : Option Entry) (was : Entry) → IsNext Holds held after → held ≡ Some was
    → (now : Entry) × (after ≡ Some now)
next-held Holds None after was is at = absurd (none-some was at)
next-held Holds (Some other) None was is at = absurd is
next-held Holds (Some other) (Some now) was is at = (now, refl)

-- A WRITE

-- one slot is written, over entries that are each another one's next
pub AreNext-written : (Holds : Entry → Entry → Type 0) (entries after : List (Option Entry)) (slot : ℕ) (was now : Entry) → held_at entries slot ≡ Some was
    → Holds was now → AreNext Holds entries after → AreNext Holds entries (slice_set after slot (Some now))
AreNext-written Holds entries after slot was now held so each other =
    let there = next-held Holds (held_at entries slot) (held_at after slot) was (each slot) held in
    let within : slot < length after = held-within after slot there.0 there.1 in
    elim (other == slot) as (λ b. (other == slot) ≡ b → IsNext Holds (held_at entries other) (held_at (slice_set after slot (Some now)) other)) [
      | true ↦ λ is. let same : slot ≡ other = sym (eqb-true other slot is) in
          subst (λ at. IsNext Holds (held_at entries at) (held_at (slice_set after slot (Some now)) at)) same
          (subst (λ held_was. IsNext Holds held_was (held_at (slice_set after slot (Some now)) slot)) (sym held)
          (subst (λ held_now. IsNext Holds (Some was) held_now) (sym (get_or-set_same after slot (Some now) None within)) so))
      | false ↦ λ is. subst (λ held_now. IsNext Holds (held_at entries other) held_now)
          (sym (get_or-set_other after slot other (Some now) None (eqb-false other slot is))) (each other)
    ] refl

-- A CHANGE OF EACH ENTRY

-- what stands in a slot after a change of each entry
pub held-changed : (change : Entry → Entry) (entries : List (Option Entry)) (slot : ℕ)
    → held_at (map (option_map change) entries) slot ≡ option_map change (held_at entries slot)
held-changed change entries slot = get_or-map (option_map change) entries slot None

-- the entry there once each was changed
IsNext-changed : (Holds : Entry → Entry → Type 0) (change : Entry → Entry) (held after : Option Entry)
    → ((was now : Entry) → Holds was now → Holds was (change now)) → IsNext Holds held after → IsNext Holds held (option_map change after)
IsNext-changed Holds change None None then is = tt
IsNext-changed Holds change None (Some now) then is = absurd is
IsNext-changed Holds change (Some was) None then is = absurd is
IsNext-changed Holds change (Some was) (Some now) then is = then was now is

pub AreNext-changed : (Holds : Entry → Entry → Type 0) (change : Entry → Entry) (entries after : List (Option Entry))
    → ((was now : Entry) → Holds was now → Holds was (change now)) → AreNext Holds entries after → AreNext Holds entries (map (option_map change) after)
AreNext-changed Holds change entries after then each slot =
    subst (λ held. IsNext Holds (held_at entries slot) held) (sym (held-changed change after slot))
    (IsNext-changed Holds change (held_at entries slot) (held_at after slot) then (each slot))
