-- A task management of a client is one of its own solo machine: it finds the same command, notes the same tickets and has the same fault. Cited by
-- Routes and Refusals.
use Rattle.std.proofs.Common.{◌≡◌, ℕ, zero, suc, ◌<◌, true, false, cond, List, [], ◌∷◌, ◌∙◌, map, Option, Some, None, option_map, refl, ap, sym}
use Rattle.std.specs.Prelude.{nat_lt, is_some, take}
use Rattle.std.proofs.lemmas.Bool.{lt-ltb, ltb-true}
use Rattle.std.proofs.lemmas.Option.{none-some}
use Rattle.scsi_cmd.specs.declared.Task.{Task}
use Rattle.scsi_cmd.specs.declared.Task.TheVariants.{Abort, Reset, Query}
use Rattle.scsi_cmd.specs.Held.{held_at, held_under}
use Rattle.scsi_cmd.specs.Submission.{first_task_fault}
use Rattle.solo_model.specs.declared.Label.TheVariants.{Task as TaskLabel}
use Rattle.solo_model.specs.TaggedTask.{TaggedTask}
use Rattle.solo_model.specs.Solo.{command_under, is_there as is_solo_there, managed, noted_tickets as solo_noted, silently, solo_step}
use Rattle.solo_model.specs.Solo.{tickets_of as solo_tickets}
use Rattle.uas_profile.specs.Tags.{command_slot, task_slot}
use Rattle.shared_machine.specs.Td.{Entry}
use Rattle.shared_machine.specs.Part.{Part, is_there, managed_part, named_entry, named_slot, noted_tickets, task_fault_at, tickets_of}
use Rattle.isolation.specs.Isolation.{own_management, own_task, solo_of}
use Rattle.shared_machine.specs.Part.{own_tag}
use Rattle.isolation.specs.Refusals.{solo_task_fault}
use Rattle.isolation.proofs.Acts.{held_at-solo_of, map-own_task, is_some-own}
use Rattle.shared_machine.proofs.OwnSlots.{command_slot-own, own-command_slot}

-- THE COMMAND THAT AN ABORT NAMES

-- what the solo machine has of the entries
abbrev own_tasks : ℕ → ℕ → List (Option Entry) → List (Option TaggedTask)
own_tasks tags client entries = map (option_map (own_task tags client)) entries

-- a tag that names no command slot has no command's index
unnamed : (tags clients client tag : ℕ) (tasks : List (Option TaggedTask)) → client < clients → command_slot tags clients client tag ≡ None
    → command_under tags tasks (own_tag tags client tag) ≡ None
unnamed tags clients client tag tasks there none =
    elim (own_tag tags client tag) as (λ index. own_tag tags client tag ≡ index → command_under tags tasks index ≡ None) [
      | zero ↦ λ index. refl
      | suc slot ↦ λ index. elim (nat_lt slot (task_slot tags)) as (λ b. nat_lt slot (task_slot tags) ≡ b → cond b (held_under tasks (suc slot)) None ≡ None) [
        | false ↦ λ is. refl
        | true ↦ λ within. absurd (none-some slot (sym none
            ∙ own-command_slot tags clients client tag slot (record { there = there; within = ltb-true _ _ within; index = index })))
      ] refl
    ] refl

named-by : (tags clients client tag : ℕ) (part : Part) (slot : Option ℕ) → client < clients → command_slot tags clients client tag ≡ slot
    → command_under tags (own_tasks tags client part.entries) (own_tag tags client tag) ≡ option_map (own_task tags client) (named_entry part slot)
named-by tags clients client tag part None there is = unnamed tags clients client tag (own_tasks tags client part.entries) there is
named-by tags clients client tag part (Some slot) there is =
    let own = command_slot-own tags clients client tag slot is in
    let within : nat_lt slot (task_slot tags) ≡ true = lt-ltb _ _ own.within in
    let index = own.index in
    rw (index, within) (held_at-solo_of tags client part.entries slot)

-- THE TICKETS

tickets-own : (tags client : ℕ) (entries : List (Option Entry)) → solo_tickets (own_tasks tags client entries) ≡ tickets_of entries
tickets-own tags client [] = refl
tickets-own tags client (None ∷ entries) = tickets-own tags client entries
tickets-own tags client (Some entry ∷ entries) = ap (λ rest. entry.task.ticket ∷ rest) (tickets-own tags client entries)

take-own : (tags client count : ℕ) (entries : List (Option Entry)) → take count (own_tasks tags client entries) ≡ own_tasks tags client (take count entries)
take-own tags client zero entries = refl
take-own tags client (suc count) [] = refl
take-own tags client (suc count) (entry ∷ entries) = ap (λ rest. option_map (own_task tags client) entry ∷ rest) (take-own tags client count entries)

-- WHAT IS MANAGED

pub is_there-own : (tags clients client : ℕ) (part : Part) (task : Task) → client < clients
    → is_solo_there tags (own_tasks tags client part.entries) (own_management tags client task) ≡ is_there part (named_slot tags clients client task) task
is_there-own tags clients client part (Abort tag) there =
    ap is_some (named-by tags clients client tag part (command_slot tags clients client tag) there refl)
    ∙ is_some-own tags client (named_entry part (command_slot tags clients client tag))
is_there-own tags clients client part Reset there = refl
is_there-own tags clients client part (Query tag) there =
    ap is_some (named-by tags clients client tag part (command_slot tags clients client tag) there refl)
    ∙ is_some-own tags client (named_entry part (command_slot tags clients client tag))

noted-own : (tags clients client : ℕ) (part : Part) (task : Task) → client < clients
    → solo_noted tags (own_tasks tags client part.entries) (own_management tags client task) ≡ noted_tickets tags part (named_slot tags clients client task) task
noted-own tags clients client part (Abort tag) there =
    ap (λ held. solo_tickets (held ∷ [])) (named-by tags clients client tag part (command_slot tags clients client tag) there refl)
    ∙ tickets-own tags client (named_entry part (command_slot tags clients client tag) ∷ [])
noted-own tags clients client part Reset there =
    ap solo_tickets (take-own tags client (task_slot tags) part.entries) ∙ tickets-own tags client (take (task_slot tags) part.entries)
noted-own tags clients client part (Query tag) there =
    ap (λ held. solo_tickets (held ∷ [])) (named-by tags clients client tag part (command_slot tags clients client tag) there refl)
    ∙ tickets-own tags client (named_entry part (command_slot tags clients client tag) ∷ [])

-- the fault is the client's own
pub task_fault-own : (tags clients client ticket : ℕ) (part : Part) (task : Task) → client < clients
    → solo_task_fault (solo_of tags client part) ticket (own_management tags client task) ≡ task_fault_at tags part (named_slot tags clients client task) ticket task
task_fault-own tags clients client ticket part task there =
    rw (is_there-own tags clients client part task there, held_at-solo_of tags client part.entries (task_slot tags))
    (ap (λ b. first_task_fault true b part.least_ticket ticket (is_there part (named_slot tags clients client task) task))
    (is_some-own tags client (held_at part.entries (task_slot tags))))

-- an accepted task management is accepted by the client's own solo machine
pub managed_part-own : (tags clients client ticket : ℕ) (part : Part) (task : Task) → client < clients
    → task_fault_at tags part (named_slot tags clients client task) ticket task ≡ None
    → solo_step (solo_of tags client part) (TaskLabel ticket (own_management tags client task))
    ≡ Some (silently (solo_of tags client (managed_part tags part (named_slot tags clients client task) ticket task)))
managed_part-own tags clients client ticket part task there none =
    ap (managed (solo_of tags client part) ticket (own_management tags client task)) (task_fault-own tags clients client ticket part task there ∙ none)
    ∙ (rw (noted-own tags clients client part task there, map-own_task tags client part.entries (task_slot tags)) refl)
