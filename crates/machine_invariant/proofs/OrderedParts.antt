-- A client's part keeps its order facts, where its entries are taken on and where one is added or taken. Cited by OrderedActs, OrderedCarry,
-- OrderedSubmissions and Ordered.
use Rattle.std.proofs.Common.{◌≡◌, ℕ, zero, suc, ◌<◌, ◌≤◌, ◌+◌, true, false, List, [], ◌∷◌, length, Option, Some, None, All, refl, arith, ap, sym, subst, ◌∙◌}
use Rattle.std.proofs.Common.{◌⊎◌, inl, inr, ⊎_elim}
use Rattle.std.specs.Prelude.{◌==◌, ◌&&◌, nat_lt, slice_set, slice_index_or}
use Rattle.std.proofs.lemmas.Bool.{eqb-true, eqb-false, ne_eqb, false≢true, le-ltb, and_right}
use Rattle.std.proofs.lemmas.List.Folds.{list_any_none}
use Rattle.std.proofs.lemmas.List.{get_or-set_same, get_or-set_other}
use Rattle.std.proofs.lemmas.Option.{none-some, same_Some}
use Rattle.arrayvec.specs.ArrayVec.{ArrayVec}
use Rattle.scsi_cmd.specs.Held.{held_at}
use Rattle.scsi_cmd.specs.Request.{ended_by, ends_commands}
use Rattle.scsi_cmd.specs.declared.Request.{Request}
use Rattle.scsi_cmd.specs.declared.Request.TheVariants.{Execute, Manage}
use Rattle.scsi_cmd.specs.declared.Task.{Task}
use Rattle.scsi_cmd.specs.declared.Task.TheVariants.{Abort, Reset, Query}
use Rattle.uas_profile.specs.Tags.{task_slot}
use Rattle.solo_model.specs.TaggedTask.{can_go, is_noted}
use Rattle.shared_machine.specs.Td.{Entry}
use Rattle.shared_machine.specs.Part.{Part}
use Rattle.machine_invariant.specs.Ordered.{is_queued, names, HasTickets, IsReceivedInOrder, HasNoted, NotedBy, IsOrderedPart}
use Rattle.machine_invariant.proofs.OrderedEntries.{IsOnward, IsStill, AreNext, IsNext-weaker, IsAfter, next-after}

-- WHAT IS ENDED

-- what a task management ends it noted
pub ended-noted : (what : Task) (noted : ArrayVec ℕ) (ticket : ℕ) → is_noted (ended_by what noted).items ticket ≡ true → is_noted noted.items ticket ≡ true
ended-noted (Abort tag) noted ticket is = is
ended-noted Reset noted ticket is = is
ended-noted (Query tag) noted ticket is = absurd (false≢true is)

-- WHAT IS RECEIVED

-- an entry that the device received by this step
pub record IsNewlyReceived (part now : Part) (slot : ℕ) (was is : Entry) : Type 0 where
  pub before : held_at part.entries slot ≡ Some was
  pub after : held_at now.entries slot ≡ Some is
  pub was_queued : is_queued was.task.phase ≡ true
  pub is_received : is_queued is.task.phase ≡ false

-- It comes before all others that are queued; and what it ends, where it is a task management, is done with.
pub record IsReceivedFirst (tags : ℕ) (part now : Part) : Type 0 where
  pub first : (slot other : ℕ) (was is second : Entry) → IsNewlyReceived part now slot was is → held_at part.entries other ≡ Some second
      → is_queued second.task.phase ≡ true → (other ≡ slot → ⊥) → was.task.ticket < second.task.ticket
  pub done : (slot : ℕ) (was is : Entry) (what : Task) (noted : ArrayVec ℕ) → IsNewlyReceived part now slot was is → was.task.request ≡ Manage what noted
      → (other : ℕ) (entry : Entry) → other < (task_slot tags) → held_at now.entries other ≡ Some entry
      → is_noted (ended_by what noted).items entry.task.ticket ≡ true
      → can_go entry.task.phase ≡ false

-- where no step of the device receives a request, nothing is received by it
pub still-first : {tags : ℕ} (part now : Part) → AreNext IsStill part.entries now.entries → IsReceivedFirst tags part now
still-first part now each =
    let none : (slot : ℕ) (was is : Entry) → IsNewlyReceived part now slot was is → ⊥ = λ slot was is newly.
    let from = next-after IsStill (held_at part.entries slot) (held_at now.entries slot) is (each slot) newly.after in
    let same : from.was ≡ was = same_Some from.was was (sym from.held_was ∙ newly.before) in
    let queued : is_queued from.was.task.phase ≡ true = subst (λ (e : Entry). is_queued e.task.phase ≡ true) (sym same) newly.was_queued in
    false≢true (sym newly.is_received ∙ from.so.queued queued) in
    record {
      first = λ slot other was is second newly held queued apart. absurd (none slot was is newly);
      done = λ slot was is what noted newly asks other entry within held noted_is. absurd (none slot was is newly);
    }

-- ENTRIES TAKEN ON

-- the entry that stood in a slot, of one that stands there
from_slot : (part now : Part) (slot : ℕ) (entry : Entry) → AreNext IsOnward part.entries now.entries → held_at now.entries slot ≡ Some entry
    → IsAfter IsOnward (held_at part.entries slot) entry
from_slot part now slot entry each held = next-after IsOnward (held_at part.entries slot) (held_at now.entries slot) entry (each slot) held

onward-tickets : (part now : Part) → now.least_ticket ≡ part.least_ticket → AreNext IsOnward part.entries now.entries → HasTickets part → HasTickets now
onward-tickets part now least each old = record {
  below = λ slot entry held.
      let from = from_slot part now slot entry each held in
      omega (arith, old.below slot from.was from.held_was, from.so.ticket, least);
  apart = λ one other first second held_first held_second same.
      let from = from_slot part now one first each held_first in
      let from_second = from_slot part now other second each held_second in
      old.apart one other from.was from_second.was from.held_was from_second.held_was (sym from.so.ticket ∙ same ∙ from_second.so.ticket);
}

-- one that is queued was queued
was_queued : (was now : Entry) → IsOnward was now → is_queued now.task.phase ≡ true → is_queued was.task.phase ≡ true
was_queued was now onward queued =
    elim (is_queued was.task.phase) as (λ b. is_queued was.task.phase ≡ b → b ≡ true) [
      | true ↦ λ is. refl
      | false ↦ λ is. absurd (false≢true (sym (onward.received is) ∙ queued))
    ] refl

onward-received : {tags : ℕ} (part now : Part) → AreNext IsOnward part.entries now.entries → IsReceivedFirst tags part now → IsReceivedInOrder part → IsReceivedInOrder now
onward-received part now each newly old one other first second held_first held_second received queued =
    let from = from_slot part now one first each held_first in
    let from_second = from_slot part now other second each held_second in
    let second_queued = was_queued from_second.was second from_second.so queued in
    let apart : other ≡ one → ⊥ = λ same.
    let both : second ≡ first = same_Some second first (sym held_second ∙ ap (λ slot. held_at now.entries slot) same ∙ held_first) in
    false≢true (sym received ∙ sym (ap (λ (e : Entry). is_queued e.task.phase) both) ∙ queued) in
    let less : from.was.task.ticket < from_second.was.task.ticket =
    elim (is_queued from.was.task.phase) as (λ b. is_queued from.was.task.phase ≡ b → from.was.task.ticket < from_second.was.task.ticket) [
      | true ↦ λ is. newly.first one other from.was first from_second.was
          (record { before = from.held_was; after = held_first; was_queued = is; is_received = received }) from_second.held_was second_queued apart
      | false ↦ λ is. old one other from.was from_second.was from.held_was from_second.held_was is second_queued
    ] refl in
    omega (arith, less, from.so.ticket, from_second.so.ticket)

onward-noted_by : {tags : ℕ} (client : ℕ) (part now : Part) (slot : ℕ) (was is : Entry) (what : Task) (noted : ArrayVec ℕ) → AreNext IsOnward part.entries now.entries
    → IsReceivedFirst tags part now → held_at part.entries slot ≡ Some was → held_at now.entries slot ≡ Some is → IsOnward was is
    → was.task.request ≡ Manage what noted → HasNoted tags client part was what noted → HasNoted tags client now is what noted
onward-noted_by {tags} client part now slot was is what noted each newly held_was held_is onward asks old = record {
  earlier = λ k d within. omega (arith, old.earlier k d within, onward.ticket);
  exact = λ other entry within held.
      let from = from_slot part now other entry each held in
      ap (λ ticket. is_noted noted.items ticket) from.so.ticket ∙ old.exact other from.was within from.held_was
      ∙ ap (λ ticket. names tags client other what && nat_lt ticket was.task.ticket) (sym from.so.ticket)
      ∙ ap (λ ticket. names tags client other what && nat_lt entry.task.ticket ticket) (sym onward.ticket);
  ended = λ received other entry within held noted_is.
      let from = from_slot part now other entry each held in
      elim (is_queued was.task.phase) as (λ b. is_queued was.task.phase ≡ b → can_go entry.task.phase ≡ false) [
        | true ↦ λ queued. newly.done slot was is what noted (record { before = held_was; after = held_is; was_queued = queued; is_received = received })
            asks other entry within held noted_is
        | false ↦ λ before. from.so.ended (old.ended before other from.was within from.held_was
            (ap (λ ticket. is_noted (ended_by what noted).items ticket) (sym from.so.ticket) ∙ noted_is))
      ] refl;
}

onward-request : {tags : ℕ} (client : ℕ) (part now : Part) (slot : ℕ) (was is : Entry) (request : Request) → AreNext IsOnward part.entries now.entries
    → IsReceivedFirst tags part now → held_at part.entries slot ≡ Some was → held_at now.entries slot ≡ Some is → IsOnward was is
    → was.task.request ≡ request → NotedBy tags client part was request → NotedBy tags client now is request
onward-request {tags} client part now slot was is (Execute op) each newly held_was held_is onward asks old = tt
onward-request {tags} client part now slot was is (Manage what noted) each newly held_was held_is onward asks old =
    onward-noted_by client part now slot was is what noted each newly held_was held_is onward asks old

-- entries that were taken on keep the order, where what was received by the step came first
pub onward-ordered : {tags : ℕ} (client : ℕ) (part now : Part) → now.least_ticket ≡ part.least_ticket → AreNext IsOnward part.entries now.entries
    → IsReceivedFirst tags part now
    → IsOrderedPart tags client part → IsOrderedPart tags client now
onward-ordered {tags} client part now least each newly old = record {
  tickets = onward-tickets part now least each old.tickets;
  received = onward-received part now each newly old.received;
  noted = λ slot entry held.
      let from = from_slot part now slot entry each held in
      subst (λ request. NotedBy tags client now entry request) (sym from.so.request)
      (onward-request client part now slot from.was entry from.was.task.request each newly from.held_was held from.so refl
      (old.noted slot from.was from.held_was));
}

-- the same, where no request is received
pub still-ordered : {tags : ℕ} (client : ℕ) (part now : Part) → now.least_ticket ≡ part.least_ticket → AreNext IsStill part.entries now.entries → IsOrderedPart tags client part
    → IsOrderedPart tags client now
still-ordered {tags} client part now least each old =
    onward-ordered client part now least
    (λ slot. IsNext-weaker IsStill IsOnward (λ was is still. still.onward) (held_at part.entries slot) (held_at now.entries slot) (each slot))
    (still-first part now each) old

-- AN ENTRY TAKEN AWAY

left_there : (entries : List (Option Entry)) (slot other : ℕ) (entry : Entry) → held_at (slice_set entries slot None) other ≡ Some entry
    → held_at entries other ≡ Some entry
left_there [] slot other entry is = is
left_there (held ∷ rest) zero zero entry is = absurd (none-some entry is)
left_there (held ∷ rest) zero (suc other) entry is = is
left_there (held ∷ rest) (suc slot) zero entry is = is
left_there (held ∷ rest) (suc slot) (suc other) entry is = left_there rest slot other entry is

left-request : (tags : ℕ) (client : ℕ) (part now : Part) (entry : Entry) (request : Request)
    → ((other : ℕ) (one : Entry) → held_at now.entries other ≡ Some one → held_at part.entries other ≡ Some one)
    → NotedBy tags client part entry request → NotedBy tags client now entry request
left-request tags client part now entry (Execute op) back old = tt
left-request tags client part now entry (Manage what noted) back old = record {
  earlier = old.earlier;
  exact = λ other one within held. old.exact other one within (back other one held);
  ended = λ received other one within held. old.ended received other one within (back other one held);
}

pub left-ordered : {tags : ℕ} (client : ℕ) (part : Part) (slot : ℕ) (ready : List ℕ) → IsOrderedPart tags client part
    → IsOrderedPart tags client (record part { entries = slice_set part.entries slot None; ready = ready })
left-ordered {tags} client part slot ready old =
    let back = left_there part.entries slot in
    record {
      tickets = record {
        below = λ other entry held. old.tickets.below other entry (back other entry held);
        apart = λ one other first second held_first held_second.
            old.tickets.apart one other first second (back one first held_first) (back other second held_second);
      };
      received = λ one other first second held_first held_second.
          old.received one other first second (back one first held_first) (back other second held_second);
      noted = λ other entry held.
          left-request _ client part (record part { entries = slice_set part.entries slot None; ready = ready }) entry entry.task.request back
          (old.noted other entry (back other entry held));
    }

-- AN ENTRY ADDED

-- what stands in a slot once an entry was added: that one in its slot, and elsewhere what stood there
added_there : (entries : List (Option Entry)) (slot : ℕ) (new : Entry) (other : ℕ) (entry : Entry) → slot < length entries
    → held_at (slice_set entries slot (Some new)) other ≡ Some entry
    → ((other ≡ slot) × (entry ≡ new)) ⊎ ((other ≡ slot → ⊥) × (held_at entries other ≡ Some entry))
added_there entries slot new other entry within is =
    elim (other == slot) as (λ b. (other == slot) ≡ b
    → ((other ≡ slot) × (entry ≡ new)) ⊎ ((other ≡ slot → ⊥) × (held_at entries other ≡ Some entry))) [
      | true ↦ λ at. let same : other ≡ slot = eqb-true other slot at in
          let there : held_at (slice_set entries slot (Some new)) slot ≡ Some entry =
          subst (λ s. held_at (slice_set entries slot (Some new)) s ≡ Some entry) same is in
          inl (same, same_Some entry new (sym there ∙ get_or-set_same entries slot (Some new) None within))
      | false ↦ λ at. let apart : other ≡ slot → ⊥ = eqb-false other slot at in
          inr (apart, sym (get_or-set_other entries slot other (Some new) None apart) ∙ is)
    ] refl

-- an entry that is queued under a ticket which comes next
pub record IsAdded (part : Part) (slot : ℕ) (new : Entry) : Type 0 where
  pub within : slot < length part.entries
  pub next : part.least_ticket ≤ new.task.ticket
  pub queued : is_queued new.task.phase ≡ true

abbrev pub added_part : Part → ℕ → Entry → Part
added_part part slot new = record part { entries = slice_set part.entries slot (Some new); least_ticket = new.task.ticket + 1 }

added-tickets : (part : Part) (slot : ℕ) (new : Entry) → IsAdded part slot new → HasTickets part → HasTickets (added_part part slot new)
added-tickets part slot new is old = record {
  below = λ other entry held. ⊎_elim
      (λ here. omega (arith, ap (λ (e : Entry). e.task.ticket) here.1))
      (λ there. omega (arith, old.below other entry there.1, is.next))
      (added_there part.entries slot new other entry is.within held);
  apart = λ one other first second held_first held_second same. ⊎_elim
      (λ here. ⊎_elim
      (λ here_second. here.0 ∙ sym here_second.0)
      (λ there. absurd (omega (arith, same, ap (λ (e : Entry). e.task.ticket) here.1, old.below other second there.1, is.next)))
      (added_there part.entries slot new other second is.within held_second))
      (λ there. ⊎_elim
      (λ here_second. absurd (omega (arith, same, ap (λ (e : Entry). e.task.ticket) here_second.1, old.below one first there.1, is.next)))
      (λ there_second. old.apart one other first second there.1 there_second.1 same)
      (added_there part.entries slot new other second is.within held_second))
      (added_there part.entries slot new one first is.within held_first);
}

added-received : (part : Part) (slot : ℕ) (new : Entry) → IsAdded part slot new → HasTickets part → IsReceivedInOrder part
    → IsReceivedInOrder (added_part part slot new)
added-received part slot new is tickets old one other first second held_first held_second received queued = ⊎_elim
    (λ here. absurd (false≢true (sym received ∙ ap (λ (e : Entry). is_queued e.task.phase) here.1 ∙ is.queued)))
    (λ there. ⊎_elim
    (λ here_second. let less : first.task.ticket < second.task.ticket =
    omega (arith, ap (λ (e : Entry). e.task.ticket) here_second.1, tickets.below one first there.1, is.next) in less)
    (λ there_second. old one other first second there.1 there_second.1 received queued)
    (added_there part.entries slot new other second is.within held_second))
    (added_there part.entries slot new one first is.within held_first)

-- a ticket that no list of earlier ones has
pub is_noted-later : (noted : List ℕ) (least ticket : ℕ) → All (λ other. other < least) noted → least ≤ ticket → is_noted noted ticket ≡ false
is_noted-later noted least ticket earlier later = list_any_none (λ other. other == ticket) noted
    (λ k d within. ne_eqb (slice_index_or noted k d) ticket (λ same. omega (arith, same, earlier k d within, later)))

-- a management that stood there noted nothing of what is added
added-noted_by : {tags : ℕ} (client : ℕ) (part : Part) (slot at : ℕ) (new management : Entry) (what : Task) (noted : ArrayVec ℕ) → IsAdded part slot new → HasTickets part
    → held_at part.entries at ≡ Some management → HasNoted tags client part management what noted → HasNoted tags client (added_part part slot new) management what noted
added-noted_by {tags} client part slot at new management what noted is tickets held old =
    let before : management.task.ticket < part.least_ticket = tickets.below at management held in
    let unnoted : is_noted noted.items new.task.ticket ≡ false =
    is_noted-later noted.items management.task.ticket new.task.ticket old.earlier (omega (arith, before, is.next)) in
    let later : nat_lt new.task.ticket management.task.ticket ≡ false = le-ltb _ _ (omega (arith, before, is.next)) in
    record {
      earlier = old.earlier;
      exact = λ other entry small there. ⊎_elim
          (λ here. let same : entry.task.ticket ≡ new.task.ticket = ap (λ (e : Entry). e.task.ticket) here.1 in
          ap (λ ticket. is_noted noted.items ticket) same ∙ unnoted
          ∙ sym (and_right (names tags client other what) (nat_lt entry.task.ticket management.task.ticket)
          (ap (λ ticket. nat_lt ticket management.task.ticket) same ∙ later)))
          (λ old_one. old.exact other entry small old_one.1)
          (added_there part.entries slot new other entry is.within there);
      ended = λ received other entry small there noted_is. ⊎_elim
          (λ here. absurd (false≢true (sym unnoted ∙ ap (λ ticket. is_noted noted.items ticket) (sym (ap (λ (e : Entry). e.task.ticket) here.1))
          ∙ ended-noted what noted entry.task.ticket noted_is)))
          (λ old_one. old.ended received other entry small old_one.1 noted_is)
          (added_there part.entries slot new other entry is.within there);
    }

added-request : (tags : ℕ) (client : ℕ) (part : Part) (slot at : ℕ) (new entry : Entry) (request : Request) → IsAdded part slot new → HasTickets part
    → held_at part.entries at ≡ Some entry → NotedBy tags client part entry request → NotedBy tags client (added_part part slot new) entry request
added-request tags client part slot at new entry (Execute op) is tickets held old = tt
added-request tags client part slot at new entry (Manage what noted) is tickets held old =
    added-noted_by client part slot at new entry what noted is tickets held old

-- an entry that is added keeps the order, where what it notes itself is in order
pub added-ordered : {tags : ℕ} (client : ℕ) (part : Part) (slot : ℕ) (new : Entry) → IsAdded part slot new
    → NotedBy tags client (added_part part slot new) new new.task.request → IsOrderedPart tags client part → IsOrderedPart tags client (added_part part slot new)
added-ordered {tags} client part slot new is own old = record {
  tickets = added-tickets part slot new is old.tickets;
  received = added-received part slot new is old.tickets old.received;
  noted = λ other entry held. ⊎_elim
      (λ here. subst (λ (e : Entry). NotedBy tags client (added_part part slot new) e e.task.request) (sym here.1) own)
      (λ there. added-request _ client part slot other new entry entry.task.request is old.tickets there.1 (old.noted other entry there.1))
      (added_there part.entries slot new other entry is.within held);
}
