-- The host finds the fault of a task management that the shared machine finds, and notes the tickets that it notes. Cited by TaskSubmitting,
-- TaskSubmitted and the law of task managements.
use Rattle.std.proofs.Common.{◌≡◌, ℕ, zero, suc, ◌^◌, ◌<◌, ◌≤◌, Bool, true, false, List, [], ◌∷◌, length, map, take, Option, Some, None, is_some}
use Rattle.std.proofs.Common.{option_map, refl, arith, ap, sym, ◌∙◌, cond}
use Rattle.std.specs.Prelude.{slice_get, nat_lt}
use Rattle.std.specs.Option.{option_map_or}
use Rattle.std.proofs.lemmas.Bool.{lt-ltb, le-ltb, false≢true}
use Rattle.std.proofs.lemmas.Option.{none-some}
use Rattle.scsi_cmd.specs.declared.SubmitFault.{SubmitFault}
use Rattle.scsi_cmd.specs.declared.SubmitFault.TheVariants.{InUse, NotYours, NoSuchTask, OutOfTurn}
use Rattle.scsi_cmd.specs.declared.Task.{Task}
use Rattle.scsi_cmd.specs.declared.Task.TheVariants.{Abort, Reset, Query}
use Rattle.scsi_cmd.specs.Submission.{first_task_fault}
use Rattle.scsi_cmd.specs.Held.{held_at}
use Rattle.uas_profile.specs.declared.Place.{Place}
use Rattle.uas_host.specs.declared.HostClient.{HostClient}
use Rattle.uas_host.specs.declared.HostEntry.{HostEntry}
use Rattle.uas_host.specs.State.{client_of}
use Rattle.uas_profile.specs.Tags.{command_slot}
use Rattle.uas_host.specs.Tasks.{named_tag, client_task_fault, has_task, is_held_at, noted_by, tickets_of as host_tickets_of}
use Rattle.shared_machine.specs.Td.{Entry}
use Rattle.shared_machine.specs.Part.{Part, is_there, named_entry, named_slot, noted_tickets, task_fault_at, tickets_of}
use Rattle.shared_machine.specs.Shared.{Shared, managed_or, managed_to}
use Rattle.bus_core.specs.World.{World, Cell, cell_at}
use Rattle.bus_core.specs.Cells.{FitsHeld, host_side}
use Rattle.bus_core.specs.Fits.{Fits, IsSoundWorld, place_in}
use Rattle.bus_core.specs.WorldSteps.{TaskFaultsAgree, fault_in}
use Rattle.bus_core.proofs.common.Framing.{IsFound, found}
use Rattle.bus_core.proofs.common.CellWrites.{client_of-found, clients-length, FitsHeld-some}
use Rattle.shared_machine.proofs.OwnSlots.{IsOwnSlot, command_slot-own}
use Rattle.shared_machine.proofs.Standing.{get-within, get-none}
use Rattle.uas_profile.specs.Tags.{task_slot}
use Rattle.std.proofs.Common.{◌*◌, ◌+◌}
use Rattle.uas_profile.proofs.TagLaws.{tags-within, slot-of_tag}
use Rattle.uas_profile.specs.Tags.{AreTags, slot_of}
use Rattle.uas_profile.specs.declared.TheConstants.{STREAMS}

-- WHAT IS HELD

-- a cell that fits holds the host's side of the entry
held-side : (tags : ℕ) (client count : ℕ) (place : Place) (held : Option Entry) (cell : Cell) → FitsHeld tags client count place held cell
    → cell.held ≡ option_map host_side held
held-side tags client count place None cell fits = fits.held
held-side tags client count place (Some entry) cell fits = fits.held

-- the host's client holds something exactly where the part does
held-alike : (tags : ℕ) (world : World) (client slot : ℕ) (part : Part) (it : IsFound tags world client part) → slot < tags
    → is_held_at (client_of world.host client) slot ≡ is_some (held_at part.entries slot)
held-alike tags world client slot part it within =
    FitsHeld-some tags client part.unit.count (place_in client slot) (held_at part.entries slot) (cell_at tags world (place_in client slot)) (it.fits.cells slot within)

-- THE FAULT

there-slot : (tags : ℕ) (world : World) (clients client tag : ℕ) (part : Part) (it : IsFound tags world client part) (slot : Option ℕ) → command_slot tags clients client tag ≡ slot
    → option_map_or (is_held_at (client_of world.host client)) slot false ≡ is_some (named_entry part slot)
there-slot tags world clients client tag part it None is = refl
there-slot tags world clients client tag part it (Some slot) is =
    let own : IsOwnSlot tags clients client tag slot = command_slot-own tags clients client tag slot is in
    held-alike tags world client slot part it (omega (arith, own.within))

there-alike : (tags : ℕ) (world : World) (clients client : ℕ) (task : Task) (part : Part) (it : IsFound tags world client part)
    → has_task tags clients client (client_of world.host client) task ≡ is_there part (named_slot tags clients client task) task
there-alike tags world clients client (Abort tag) part it = there-slot tags world clients client tag part it (command_slot tags clients client tag) refl
there-alike tags world clients client Reset part it = refl
there-alike tags world clients client (Query tag) part it = there-slot tags world clients client tag part it (command_slot tags clients client tag) refl

-- the host's client of a part that is there finds the part's fault
pub task_fault-found : (tags : ℕ) → AreTags tags → (world : World) (clients client ticket : ℕ) (task : Task) (part : Part) (it : IsFound tags world client part)
    → client_task_fault tags clients client (client_of world.host client) ticket task ≡ task_fault_at tags part (named_slot tags clients client task) ticket task
task_fault-found tags are world clients client ticket task part it =
    let is : client_of world.host client ≡ it.held = client_of-found world.host client it.held it.held_is in
    let there : Bool = is_there part (named_slot tags clients client task) task in
    ap (λ has. first_task_fault true (is_held_at (client_of world.host client) (task_slot tags)) (client_of world.host client).least_ticket ticket has)
    (there-alike tags world clients client task part it)
    ∙ ap (λ used. first_task_fault true used (client_of world.host client).least_ticket ticket (is_there part (named_slot tags clients client task) task))
    (held-alike tags world client (task_slot tags) part it (omega (arith, are.least)))
    ∙ ap (λ (c : HostClient). first_task_fault true (is_some (held_at part.entries (task_slot tags))) c.least_ticket ticket
    (is_there part (named_slot tags clients client task) task)) is
    ∙ ap (λ least. first_task_fault true (is_some (held_at part.entries (task_slot tags))) least ticket (is_there part (named_slot tags clients client task) task))
    (sym it.fits.least_ticket)

managed_or-fault : (state : Shared) (part : Part) (place : Place) (slot : Option ℕ) (ticket : ℕ) (task : Task) (fault : Option SubmitFault)
    → option_map fault_in (managed_or state part place slot ticket task fault).1.refused ≡ fault
managed_or-fault state part place slot ticket task None = refl
managed_or-fault state part place slot ticket task (Some fault) = refl

-- the fault that the host finds among so many clients
abbrev fault_among : ℕ → World → ℕ → ℕ → ℕ → Task → Option SubmitFault
fault_among tags world clients client ticket task =
    cond (nat_lt client clients) (client_task_fault tags clients client (client_of world.host client) ticket task) (Some NotYours)

to-fault : (state : Shared) (world : World) (client ticket : ℕ) (task : Task) (at : Option Part) → Fits state world → slice_get state.parts client ≡ at
    → fault_among state.tags world (length state.parts) client ticket task
    ≡ option_map fault_in (managed_to state (place_in client (task_slot state.tags)) (named_slot state.tags (length state.parts) client task) ticket task at).1.refused
to-fault state world client ticket task None fits is =
    ap (λ b. cond b (client_task_fault state.tags (length state.parts) client (client_of world.host client) ticket task) (Some NotYours))
    (le-ltb client (length state.parts) (get-none state.parts client is))
to-fault state world client ticket task (Some part) fits is =
    ap (λ b. cond b (client_task_fault state.tags (length state.parts) client (client_of world.host client) ticket task) (Some NotYours))
    (lt-ltb client (length state.parts) (get-within state.parts client part is))
    ∙ task_fault-found state.tags fits.matched.tags world (length state.parts) client ticket task part (found state.tags world state.parts client part fits.clients is)
    ∙ sym (managed_or-fault state part (place_in client (task_slot state.tags)) (named_slot state.tags (length state.parts) client task) ticket task
    (task_fault_at state.tags part (named_slot state.tags (length state.parts) client task) ticket task))

pub task_faults-agree : TaskFaultsAgree
task_faults-agree state world client ticket task fits =
    ap (λ t. fault_among t world (length world.host.clients) client ticket task) fits.tags
    ∙ ap (λ n. fault_among state.tags world n client ticket task) (clients-length state.tags world state.parts fits.clients)
    ∙ to-fault state world client ticket task (slice_get state.parts client) fits refl

-- a task management without a fault finds the task slot free, and there what it names
pub record IsUnfaultedTask (in_use has_task : Bool) : Type 0 where
  pub free : in_use ≡ false
  pub there : has_task ≡ true

unfaulted_if : (in_use late has_task : Bool) (least : ℕ)
    → cond in_use (Some InUse) (cond late (Some (OutOfTurn least)) (cond has_task None (Some NoSuchTask))) ≡ None → IsUnfaultedTask in_use has_task
unfaulted_if true late has_task least none = absurd (none-some InUse (sym none))
unfaulted_if false true has_task least none = absurd (none-some (OutOfTurn least) (sym none))
unfaulted_if false false true least none = record { free = refl; there = refl }
unfaulted_if false false false least none = absurd (none-some NoSuchTask (sym none))

pub unfaulted_task : (in_use has_task : Bool) (least ticket : ℕ) → first_task_fault true in_use least ticket has_task ≡ None → IsUnfaultedTask in_use has_task
unfaulted_task in_use true least ticket none = unfaulted_if in_use (nat_lt ticket least) true least none
unfaulted_task in_use false least ticket none = unfaulted_if in_use (nat_lt ticket least) false least none

-- WHAT IS NOTED

-- the host's entries are the host's sides of the part's
sides : (many : ℕ) (ones : List (Option HostEntry)) (others : List (Option Entry)) → length ones ≡ length others
    → ((slot : ℕ) → slot < many → slot < length others → held_at ones slot ≡ option_map host_side (held_at others slot))
    → take many ones ≡ map (option_map host_side) (take many others)
sides zero ones others long each = refl
sides (suc many) [] [] long each = refl
sides (suc many) [] (other ∷ others) long each = absurd (omega (arith, long))
sides (suc many) (one ∷ ones) [] long each = absurd (omega (arith, long))
sides (suc many) (one ∷ ones) (other ∷ others) long each =
    let first : one ≡ option_map host_side other = each 0 (omega arith) (omega arith) in
    let rest : take many ones ≡ map (option_map host_side) (take many others) =
    sides many ones others (omega (arith, long)) (λ slot within there. each (suc slot) (omega (arith, within)) (omega (arith, there))) in
    λ i. first i ∷ rest i

tickets-sides : (entries : List (Option Entry)) → host_tickets_of (map (option_map host_side) entries) ≡ tickets_of entries
tickets-sides [] = refl
tickets-sides (None ∷ entries) = tickets-sides entries
tickets-sides (Some entry ∷ entries) = ap (λ tickets. entry.task.ticket ∷ tickets) (tickets-sides entries)

ticket-side : (held : Option Entry) → host_tickets_of (option_map host_side held ∷ []) ≡ tickets_of (held ∷ [])
ticket-side None = refl
ticket-side (Some entry) = refl

-- a reset
noted-all : (tags : ℕ) (world : World) (client : ℕ) (part : Part) (it : IsFound tags world client part) → IsSoundWorld world
    → host_tickets_of (take (task_slot tags) (client_of world.host client).entries) ≡ tickets_of (take (task_slot tags) part.entries)
noted-all tags world client part it sound =
    let there : client < length world.host.clients = get-within world.host.clients client it.held it.held_is in
    let long : length (client_of world.host client).entries ≡ length part.entries = (sound.host.clients client there).slots ∙ sym it.fits.slots in
    ap host_tickets_of
    (sides (task_slot tags) (client_of world.host client).entries part.entries long
    (λ slot within there. held-side tags client part.unit.count (place_in client slot) (held_at part.entries slot) (cell_at tags world (place_in client slot))
    (it.fits.cells slot (omega (arith, within)))))
    ∙ tickets-sides (take (task_slot tags) part.entries)

-- an abort of what is there
noted-named : (tags : ℕ) (world : World) (clients client tag : ℕ) (part : Part) (it : IsFound tags world client part) (slot : Option ℕ) → command_slot tags clients client tag ≡ slot
    → is_some (named_entry part slot) ≡ true
    → host_tickets_of (held_at (client_of world.host client).entries (slot_of tags tag) ∷ []) ≡ tickets_of (named_entry part slot ∷ [])
noted-named tags world clients client tag part it None is there = absurd (false≢true there)
noted-named tags world clients client tag part it (Some slot) is there =
    let own : IsOwnSlot tags clients client tag slot = command_slot-own tags clients client tag slot is in
    let tagged : tag ≡ client * tags + slot + 1 = omega (arith, own.index) in
    let same : slot_of tags tag ≡ slot = ap (slot_of tags) tagged ∙ slot-of_tag tags client slot (omega (arith, own.within)) in
    ap (λ at. host_tickets_of (held_at (client_of world.host client).entries at ∷ [])) same
    ∙ ap (λ held. host_tickets_of (held ∷ []))
    (held-side tags client part.unit.count (place_in client slot) (held_at part.entries slot) (cell_at tags world (place_in client slot))
    (it.fits.cells slot (omega (arith, own.within))))
    ∙ ticket-side (held_at part.entries slot)

-- the host notes what the shared machine notes
pub noted-alike : (tags : ℕ) (world : World) (clients client : ℕ) (task : Task) (part : Part) (it : IsFound tags world client part) → IsSoundWorld world
    → is_there part (named_slot tags clients client task) task ≡ true
    → noted_by tags (client_of world.host client) task ≡ noted_tickets tags part (named_slot tags clients client task) task
noted-alike tags world clients client (Abort tag) part it sound there = noted-named tags world clients client tag part it (command_slot tags clients client tag) refl there
noted-alike tags world clients client Reset part it sound there = noted-all tags world client part it sound
noted-alike tags world clients client (Query tag) part it sound there = noted-named tags world clients client tag part it (command_slot tags clients client tag) refl there

-- the tag that it names has two bytes
named-tag : (tags : ℕ) (part : Part) (clients client tag : ℕ) (slot : Option ℕ) → clients * tags ≤ STREAMS → command_slot tags clients client tag ≡ slot
    → is_some (named_entry part slot) ≡ true → tag < 2 ^ 16
named-tag tags part clients client tag None few is there = absurd (false≢true there)
named-tag tags part clients client tag (Some slot) few is there =
    let own : IsOwnSlot tags clients client tag slot = command_slot-own tags clients client tag slot is in
    omega (arith, own.index, (tags-within tags clients (place_in client slot) own.there (omega (arith, own.within))).1, few)

pub named-short : (tags : ℕ) (part : Part) (clients client : ℕ) (task : Task) → clients * tags ≤ STREAMS → is_there part (named_slot tags clients client task) task ≡ true
    → named_tag task < 2 ^ 16
named-short tags part clients client (Abort tag) few there = named-tag tags part clients client tag (command_slot tags clients client tag) few refl there
named-short tags part clients client Reset few there = omega arith
named-short tags part clients client (Query tag) few there = named-tag tags part clients client tag (command_slot tags clients client tag) few refl there
