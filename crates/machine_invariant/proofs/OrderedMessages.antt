-- Messages keep the order of their tickets, and what a write to one client's part leaves of what the order reads. Cited by OrderedEvents,
-- OrderedManaged, OrderedActs, OrderedCarry and Ordered.
use Rattle.std.proofs.Common.{◌≡◌, ℕ, ◌≤◌, Bool, true, false, List, [], ◌∷◌, ◌++◌, Option, Some, None, refl, arith, ap, sym, subst, ◌∙◌}
use Rattle.std.specs.Prelude.{◌==◌, slice_get, slice_set}
use Rattle.std.specs.Option.{option_map_or}
use Rattle.std.proofs.lemmas.Bool.{eqb-true, eqb-false}
use Rattle.std.proofs.lemmas.Option.{same_Some}
use Rattle.scsi_cmd.specs.Held.{held_at}
use Rattle.uas_profile.specs.declared.Place.{Place}
use Rattle.shared_machine.specs.Td.{Entry}
use Rattle.shared_machine.specs.Part.{Part}
use Rattle.shared_machine.specs.Soundness.{one_if}
use Rattle.machine_invariant.specs.Ordered.{held_in, under, ends_ticket, IsLater, AreLater, AreRising}
use Rattle.machine_invariant.specs.Matched.{same_place, times}
use Rattle.machine_invariant.proofs.MatchedPlaces.{one_self, same_place-true}
use Rattle.machine_invariant.proofs.OrderedEntries.{IsOnward, IsNext}
use Rattle.shared_machine.proofs.Standing.{slice_get-slice_set_same, slice_get-slice_set_other}

-- A WRITE TO ONE PART

-- what is found of a client, once one client's part was written
pub part-written : (P : ℕ → Part → Type 0) (parts : List Part) (client : ℕ) (part now : Part) → slice_get parts client ≡ Some part
    → ((other : ℕ) (found : Part) → slice_get parts other ≡ Some found → P other found) → P client now
    → (other : ℕ) (found : Part) → slice_get (slice_set parts client now) other ≡ Some found → P other found
part-written P parts client part now there each here other found is =
    elim (client == other) as (λ b. (client == other) ≡ b → P other found) [
      | true ↦ λ at. let same : client ≡ other = eqb-true client other at in
          let wrote : slice_get (slice_set parts client now) other ≡ Some now =
          subst (λ c. slice_get (slice_set parts client now) c ≡ Some now) same (slice_get-slice_set_same parts client part now there) in
          subst (λ (p : Part). P other p) (same_Some now found (sym wrote ∙ is)) (subst (λ c. P c now) same here)
      | false ↦ λ at. each other found (sym (slice_get-slice_set_other parts client other now (eqb-false client other at)) ∙ is)
    ] refl

-- what stands at a place, once one client's part was written
pub under-wrote : (P : Option Entry → Option Entry → Type 0) (parts : List Part) (client : ℕ) (part now : Part) (place : Place)
    → slice_get parts client ≡ Some part → (client ≡ place.client → P (held_at part.entries place.slot) (held_at now.entries place.slot))
    → ((held : Option Entry) → P held held) → P (under parts place) (under (slice_set parts client now) place)
under-wrote P parts client part now place there here each =
    elim (client == place.client) as (λ b. (client == place.client) ≡ b → P (under parts place) (under (slice_set parts client now) place)) [
      | true ↦ λ at. let same : client ≡ place.client = eqb-true client place.client at in
          let wrote : slice_get (slice_set parts client now) place.client ≡ Some now =
          subst (λ c. slice_get (slice_set parts client now) c ≡ Some now) same (slice_get-slice_set_same parts client part now there) in
          let was : slice_get parts place.client ≡ Some part = subst (λ c. slice_get parts c ≡ Some part) same there in
          subst (λ found. P (option_map_or (held_in place) found None) (under (slice_set parts client now) place)) (sym was)
          (subst (λ found. P (held_at part.entries place.slot) (option_map_or (held_in place) found None)) (sym wrote) (here same))
      | false ↦ λ at.
          subst (λ found. P (under parts place) (option_map_or (held_in place) found None))
          (sym (slice_get-slice_set_other parts client place.client now (eqb-false client place.client at))) (each (under parts place))
    ] refl

pub under-there : (parts : List Part) (place : Place) (part : Part) → slice_get parts place.client ≡ Some part
    → under parts place ≡ held_at part.entries place.slot
under-there parts place part there = ap (λ found. option_map_or (held_in place) found None) there

-- WHAT THE ORDER READS

abbrev pub notes_at : List Part → Place → ℕ → Bool
notes_at parts place ticket = option_map_or (λ entry. ends_ticket entry.task.request ticket) (under parts place) false

abbrev ticket_in : Option Entry → ℕ
ticket_in held = option_map_or (λ entry. entry.task.ticket) held 0

abbrev notes_in : Option Entry → ℕ → Bool
notes_in held ticket = option_map_or (λ entry. ends_ticket entry.task.request ticket) held false

-- the same ticket stands there, and notes the same
pub record IsSame (held after : Option Entry) : Type 0 where
  pub ticket : ticket_in after ≡ ticket_in held
  pub notes : (ticket : ℕ) → notes_in after ticket ≡ notes_in held ticket

pub IsSame-self : (held : Option Entry) → IsSame held held
IsSame-self held = record { ticket = refl; notes = λ ticket. refl }

pub onward-same : (held after : Option Entry) → IsNext IsOnward held after → IsSame held after
onward-same None None is = record { ticket = refl; notes = λ ticket. refl }
onward-same None (Some now) is = absurd is
onward-same (Some was) None is = absurd is
onward-same (Some was) (Some now) is = record { ticket = is.ticket; notes = λ ticket. ap (λ request. ends_ticket request ticket) is.request }

abbrev pub IsSameAt : List Part → List Part → Place → Type 0
IsSameAt parts after place = IsSame (under parts place) (under after place)

-- MESSAGES

-- tickets that stay leave the messages in order
later-same : (parts after : List Part) (place : Place) (messages : List Place) → IsSameAt parts after place
    → ((other : Place) → 1 ≤ times other messages → IsSameAt parts after other) → AreLater parts place messages → AreLater after place messages
later-same parts after place [] same each is = tt
later-same parts after place (other ∷ rest) same each is =
    let other_same = each other (omega (arith, one_self other)) in (
      λ client. omega (arith, is.0 client, same.ticket, other_same.ticket),
      later-same parts after place rest same (λ one named. each one (omega (arith, named))) is.1,
    )

pub rising-same : (parts after : List Part) (messages : List Place) → ((place : Place) → 1 ≤ times place messages → IsSameAt parts after place)
    → AreRising parts messages → AreRising after messages
rising-same parts after [] each is = tt
rising-same parts after (place ∷ rest) each is =
    let after_first : (other : Place) → 1 ≤ times other rest → IsSameAt parts after other = λ other named. each other (omega (arith, named)) in
    (later-same parts after place rest (each place (omega (arith, one_self place))) after_first is.0, rising-same parts after rest after_first is.1)

-- one more message, later than each before it
later-more : (parts : List Part) (place last : Place) (messages : List Place) → IsLater parts place last → AreLater parts place messages
    → AreLater parts place (messages ++ last ∷ [])
later-more parts place last [] less is = (less, tt)
later-more parts place last (other ∷ rest) less is = (is.0, later-more parts place last rest less is.1)

pub rising-more : (parts : List Part) (last : Place) (messages : List Place) → ((place : Place) → 1 ≤ times place messages → IsLater parts place last)
    → AreRising parts messages → AreRising parts (messages ++ last ∷ [])
rising-more parts last [] less is = (tt, tt)
rising-more parts last (place ∷ rest) less is = (
  later-more parts place last rest (less place (omega (arith, one_self place))) is.0,
  rising-more parts last rest (λ other named. less other (omega (arith, named))) is.1,
)

-- a message behind another one has a later ticket
pub later-behind : (parts : List Part) (place : Place) (rest : List Place) (other : Place) → AreLater parts place rest → 1 ≤ times other rest
    → IsLater parts place other
later-behind parts place [] other is named = absurd (omega (arith, named))
later-behind parts place (first ∷ rest) other is named =
    elim (same_place first other) as (λ b. same_place first other ≡ b → IsLater parts place other) [
      | true ↦ λ at. subst (λ p. IsLater parts place p) (same_place-true first other at) is.0
      | false ↦ λ at. later-behind parts place rest other is.1 (omega (arith, named, ap one_if at))
    ] refl
