-- An accepted submission keeps its client's order facts, and a task management notes just the commands that it names. Cited by Ordered.
use Rattle.std.proofs.Common.{◌≡◌, ℕ, zero, suc, ◌<◌, ◌≤◌, Bool, true, false, cond, List, [], ◌∷◌, take, length, Option, Some, None, All, refl, arith, ap}
use Rattle.std.proofs.Common.{sym, ◌∙◌}
use Rattle.std.specs.Prelude.{◌==◌, ◌&&◌, ◌||◌, nat_lt, not}
use Rattle.std.proofs.lemmas.Bool.{eqb-true, eqb-false, eq-eqb, ne_eqb, false≢true, lt-ltb, ltb-false, or_from}
use Rattle.std.proofs.lemmas.List.{get_or-set_other}
use Rattle.std.proofs.lemmas.Option.{none-some, same_Some}
use Rattle.scsi_cmd.specs.Held.{held_at}
use Rattle.scsi_cmd.specs.Op.{moved_bytes}
use Rattle.scsi_cmd.specs.Submission.{first_submit_fault, first_task_fault, is_too_long}
use Rattle.scsi_cmd.specs.declared.Command.{Command}
use Rattle.scsi_cmd.specs.declared.SubmitFault.TheVariants.{BadLength, InUse, NoSuchTask, OutOfTurn, TooLong}
use Rattle.scsi_cmd.specs.declared.Task.{Task}
use Rattle.scsi_cmd.specs.declared.Task.TheVariants.{Abort, Reset, Query}
use Rattle.uas_profile.specs.Tags.{task_slot}
use Rattle.solo_model.specs.TaggedTask.{is_noted}
use Rattle.uas_profile.specs.Tags.{command_slot, tag_of}
use Rattle.shared_machine.specs.Td.{Entry}
use Rattle.shared_machine.specs.Part.{Part, managed_part, named_entry, named_slot, new_entry, new_management, noted_tickets, submitted_part, tickets_of}
use Rattle.machine_invariant.specs.Ordered.{HasNoted, HasTickets, IsOrderedPart, names}
use Rattle.machine_invariant.proofs.OrderedParts.{added-ordered, added_part}
use Rattle.shared_machine.proofs.OwnSlots.{command_slot-own, own-command_slot}

-- FAULTS

-- a submission without a fault is for a free slot, under a ticket that comes next
pub record IsInTurn (in_use : Bool) (least ticket : ℕ) : Type 0 where
  pub free : in_use ≡ false
  pub next : least ≤ ticket

turn_if : (in_use misfits long late : Bool) (least ticket : ℕ) → nat_lt ticket least ≡ late →
    cond in_use (Some InUse) (cond misfits (Some BadLength) (cond long (Some TooLong) (cond late (Some (OutOfTurn least)) None))) ≡ None
    → IsInTurn in_use least ticket
turn_if true misfits long late least ticket is none = absurd (none-some InUse (sym none))
turn_if false true long late least ticket is none = absurd (none-some BadLength (sym none))
turn_if false false true late least ticket is none = absurd (none-some TooLong (sym none))
turn_if false false false true least ticket is none = absurd (none-some (OutOfTurn least) (sym none))
turn_if false false false false least ticket is none = record { free = refl; next = ltb-false ticket least is }

pub submit-turn : (in_use : Bool) (least ticket : ℕ) (command : Command) → first_submit_fault true in_use least ticket command ≡ None
    → IsInTurn in_use least ticket
submit-turn in_use least ticket command none =
    turn_if in_use (not (length command.buffer == moved_bytes command.op)) (is_too_long command.op) (nat_lt ticket least) least ticket refl none

task_turn_if : (in_use late missing : Bool) (least ticket : ℕ) → nat_lt ticket least ≡ late →
    cond in_use (Some InUse) (cond late (Some (OutOfTurn least)) (cond missing (Some NoSuchTask) None)) ≡ None → IsInTurn in_use least ticket
task_turn_if true late missing least ticket is none = absurd (none-some InUse (sym none))
task_turn_if false true missing least ticket is none = absurd (none-some (OutOfTurn least) (sym none))
task_turn_if false false missing least ticket is none = record { free = refl; next = ltb-false ticket least is }

pub task-turn : (in_use : Bool) (least ticket : ℕ) (has_task : Bool) → first_task_fault true in_use least ticket has_task ≡ None → IsInTurn in_use least ticket
task-turn in_use least ticket has_task none = task_turn_if in_use (nat_lt ticket least) (not has_task) least ticket refl none

-- THE TICKETS THAT ARE NOTED

-- every ticket that is held is below one
tickets-below : (least : ℕ) (entries : List (Option Entry)) → ((slot : ℕ) (entry : Entry) → held_at entries slot ≡ Some entry → entry.task.ticket < least)
    → All (λ ticket. ticket < least) (tickets_of entries)
tickets-below least [] below k d within = absurd (omega (arith, within))
tickets-below least (None ∷ entries) below k d within = tickets-below least entries (λ slot. below (suc slot)) k d within
tickets-below least (Some entry ∷ entries) below zero d within = below zero entry refl
tickets-below least (Some entry ∷ entries) below (suc k) d within = tickets-below least entries (λ slot. below (suc slot)) k d (omega (arith, within))

-- what stands in one of the first slots
held-take : (count : ℕ) (entries : List (Option Entry)) (slot : ℕ) (entry : Entry) → held_at (take count entries) slot ≡ Some entry
    → held_at entries slot ≡ Some entry
held-take zero entries slot entry is = absurd (none-some entry is)
held-take (suc count) [] slot entry is = is
held-take (suc count) (held ∷ entries) zero entry is = is
held-take (suc count) (held ∷ entries) (suc slot) entry is = held-take count entries slot entry is

take-held : (count : ℕ) (entries : List (Option Entry)) (slot : ℕ) (entry : Entry) → slot < count → held_at entries slot ≡ Some entry
    → held_at (take count entries) slot ≡ Some entry
take-held zero entries slot entry within is = absurd (omega (arith, within))
take-held (suc count) [] slot entry within is = is
take-held (suc count) (held ∷ entries) zero entry within is = is
take-held (suc count) (held ∷ entries) (suc slot) entry within is = take-held count entries slot entry (omega (arith, within)) is

-- a ticket that is held is among them
ticket-noted : (entries : List (Option Entry)) (slot : ℕ) (entry : Entry) → held_at entries slot ≡ Some entry
    → is_noted (tickets_of entries) entry.task.ticket ≡ true
ticket-noted [] slot entry is = absurd (none-some entry is)
ticket-noted (None ∷ entries) zero entry is = absurd (none-some entry is)
ticket-noted (None ∷ entries) (suc slot) entry is = ticket-noted entries slot entry is
ticket-noted (Some first ∷ entries) zero entry is =
    ap (λ b. b || is_noted (tickets_of entries) entry.task.ticket)
    (eq-eqb first.task.ticket entry.task.ticket (ap (λ (e : Entry). e.task.ticket) (same_Some first entry is)))
ticket-noted (Some first ∷ entries) (suc slot) entry is =
    elim (first.task.ticket == entry.task.ticket) as (λ b. (b || is_noted (tickets_of entries) entry.task.ticket) ≡ true) [
      | true ↦ refl
      | false ↦ ticket-noted entries slot entry is
    ]

-- an abort notes the ticket of what it names
named-below : (part : Part) (slot : Option ℕ) → HasTickets part → All (λ ticket. ticket < part.least_ticket) (tickets_of (named_entry part slot ∷ []))
named-below part None tickets = tickets-below part.least_ticket (None ∷ []) (λ slot entry is. absurd (nothing-there slot entry is))
  where
    nothing-there : (slot : ℕ) (entry : Entry) → held_at (let none : Option Entry = None in none ∷ []) slot ≡ Some entry → ⊥
    nothing-there zero entry is = none-some entry is
    nothing-there (suc slot) entry is = none-some entry is
named-below part (Some named) tickets = tickets-below part.least_ticket (held_at part.entries named ∷ []) alone
  where
    alone : (slot : ℕ) (entry : Entry) → held_at (held_at part.entries named ∷ []) slot ≡ Some entry → entry.task.ticket < part.least_ticket
    alone zero entry is = tickets.below named entry is
    alone (suc slot) entry is = absurd (none-some entry is)

noted-below : (tags : ℕ) (part : Part) (slot : Option ℕ) (task : Task) → HasTickets part → All (λ ticket. ticket < part.least_ticket) (noted_tickets tags part slot task)
noted-below tags part slot (Abort tag) tickets = named-below part slot tickets
noted-below tags part slot Reset tickets =
    tickets-below part.least_ticket (take (task_slot tags) part.entries) (λ at entry is. tickets.below at entry (held-take (task_slot tags) part.entries at entry is))
noted-below tags part slot (Query tag) tickets = named-below part slot tickets

-- the slot of a tag is that of its place
slot-tag : (tags clients client tag slot : ℕ) → command_slot tags clients client tag ≡ Some slot → (tag == tag_of tags (record { client = client; slot = slot })) ≡ true
slot-tag tags clients client tag slot is =
    let own = command_slot-own tags clients client tag slot is in
    eq-eqb tag (tag_of tags (record { client = client; slot = slot })) (omega (arith, own.index))

tag-slot : (tags clients client slot : ℕ) → client < clients → slot < (task_slot tags)
    → command_slot tags clients client (tag_of tags (record { client = client; slot = slot })) ≡ Some slot
tag-slot tags clients client slot there within =
    own-command_slot tags clients client (tag_of tags (record { client = client; slot = slot })) slot (record { there = there; within = within; index = omega arith })

-- what it names is noted, and nothing else
tag-exact : (tags clients client tag : ℕ) (part : Part) (named : Option ℕ) (slot : ℕ) (entry : Entry) → client < clients → command_slot tags clients client tag ≡ named
    → HasTickets part → slot < (task_slot tags) → held_at part.entries slot ≡ Some entry
    → is_noted (tickets_of (named_entry part named ∷ [])) entry.task.ticket ≡ (tag == tag_of tags (record { client = client; slot = slot }))
tag-exact tags clients client tag part None slot entry there is tickets within held =
    sym (ne_eqb tag (tag_of tags (record { client = client; slot = slot })) (λ same.
    none-some slot (sym is ∙ ap (λ t. command_slot tags clients client t) same ∙ tag-slot tags clients client slot there within)))
tag-exact tags clients client tag part (Some named) slot entry there is tickets within held =
    elim (named == slot) as (λ b. (named == slot) ≡ b
    → is_noted (tickets_of (held_at part.entries named ∷ [])) entry.task.ticket ≡ (tag == tag_of tags (record { client = client; slot = slot }))) [
      | true ↦ λ at. let same : named ≡ slot = eqb-true named slot at in
          ticket-noted (held_at part.entries named ∷ []) zero entry (ap (λ s. held_at part.entries s) same ∙ held)
          ∙ sym (slot-tag tags clients client tag slot (is ∙ ap Some same))
      | false ↦ λ at. let apart : named ≡ slot → ⊥ = eqb-false named slot at in
          other (held_at part.entries named) refl apart
          ∙ sym (ne_eqb tag (tag_of tags (record { client = client; slot = slot })) (λ same.
          apart (same_Some named slot (sym is ∙ ap (λ t. command_slot tags clients client t) same ∙ tag-slot tags clients client slot there within))))
    ] refl
  where
    other : (found : Option Entry) → held_at part.entries named ≡ found → (named ≡ slot → ⊥) → is_noted (tickets_of (found ∷ [])) entry.task.ticket ≡ false
    other None at apart = refl
    other (Some first) at apart =
        or_from (first.task.ticket == entry.task.ticket) false
        (ne_eqb first.task.ticket entry.task.ticket (λ same. apart (tickets.apart named slot first entry at held same))) refl

noted-exact : (tags clients client : ℕ) (part : Part) (task : Task) (slot : ℕ) (entry : Entry) → client < clients → HasTickets part → slot < (task_slot tags)
    → held_at part.entries slot ≡ Some entry → is_noted (noted_tickets tags part (named_slot tags clients client task) task) entry.task.ticket ≡ names tags client slot task
noted-exact tags clients client part (Abort tag) slot entry there tickets within held =
    tag-exact tags clients client tag part (command_slot tags clients client tag) slot entry there refl tickets within held
noted-exact tags clients client part Reset slot entry there tickets within held =
    ticket-noted (take (task_slot tags) part.entries) slot entry (take-held (task_slot tags) part.entries slot entry within held)
noted-exact tags clients client part (Query tag) slot entry there tickets within held =
    tag-exact tags clients client tag part (command_slot tags clients client tag) slot entry there refl tickets within held

-- A TASK MANAGEMENT

and_true : (a b : Bool) → b ≡ true → (a && b) ≡ a
and_true true b is = is
and_true false b is = refl

-- as it is submitted
noted-added : (tags clients client : ℕ) (part : Part) (ticket : ℕ) (task : Task) → client < clients → HasTickets part → part.least_ticket ≤ ticket
    → HasNoted tags client (added_part part (task_slot tags) (new_management ticket task (noted_tickets tags part (named_slot tags clients client task) task)))
    (new_management ticket task (noted_tickets tags part (named_slot tags clients client task) task)) task
    (record { items = noted_tickets tags part (named_slot tags clients client task) task })
noted-added tags clients client part ticket task there tickets next =
    let noted = noted_tickets tags part (named_slot tags clients client task) task in
    let new = new_management ticket task noted in
    record {
      earlier = λ k d within. omega (arith, noted-below tags part (named_slot tags clients client task) task tickets k d within, next);
      exact = λ slot entry within held.
          let was : held_at part.entries slot ≡ Some entry =
          sym (get_or-set_other part.entries (task_slot tags) slot (Some new) None (λ same. omega (arith, same, within))) ∙ held in
          let before : nat_lt entry.task.ticket ticket ≡ true = lt-ltb _ _ (omega (arith, tickets.below slot entry was, next)) in
          noted-exact tags clients client part task slot entry there tickets within was
          ∙ sym (and_true (names tags client slot task) (nat_lt entry.task.ticket ticket) before);
      ended = λ received. absurd (false≢true (sym received));
    }

pub managed-ordered : (tags clients client : ℕ) (part : Part) (ticket : ℕ) (task : Task) → client < clients → (task_slot tags) < length part.entries
    → part.least_ticket ≤ ticket
    → IsOrderedPart tags client part → IsOrderedPart tags client (managed_part tags part (named_slot tags clients client task) ticket task)
managed-ordered tags clients client part ticket task there within next old =
    added-ordered client part (task_slot tags) (new_management ticket task (noted_tickets tags part (named_slot tags clients client task) task))
    (record { within = within; next = next; queued = refl }) (noted-added tags clients client part ticket task there old.tickets next) old

-- A COMMAND

pub submitted-ordered : {tags : ℕ} (client : ℕ) (part : Part) (slot ticket : ℕ) (command : Command) → slot < length part.entries → part.least_ticket ≤ ticket
    → IsOrderedPart tags client part → IsOrderedPart tags client (submitted_part part slot ticket command)
submitted-ordered {tags} client part slot ticket command within next old =
    added-ordered client part slot (new_entry ticket command) (record { within = within; next = next; queued = refl }) tt old
