-- A step that is due in its turn and isn't refused fits the fields of a step's text. Cited by FineLogs.
use Rattle.std.proofs.Common.{◌≡◌, ℕ, ◌*◌, ◌^◌, ◌<◌, ◌≤◌, Bool, true, false, cond, List, length, Option, Some, None, is_some, refl, arith, ap}
use Rattle.std.proofs.Common.{mul_comm, sym}
use Rattle.std.specs.Prelude.{is_none, nat_lt, not, slice_get}
use Rattle.std.specs.Option.{option_map_or}
use Rattle.std.proofs.lemmas.Bool.{and_parts, false≢true}
use Rattle.std.proofs.lemmas.Nat.{mul-add-lt}
use Rattle.std.proofs.lemmas.Option.{none-some}
use Rattle.uas_profile.specs.declared.TheConstants.{STREAMS}
use Rattle.uas_profile.specs.declared.Pipe.{Pipe}
use Rattle.uas_profile.specs.declared.Pipe.TheVariants.{Command as CommandPipeName, Status as StatusPipe, DataIn, DataOut}
use Rattle.uas_profile.specs.declared.Place.{Place}
use Rattle.uas_profile.specs.Tags.{command_slot, place_of, task_slot}
use Rattle.uas_profile.proofs.TagLaws.{named-is_place, tags-within}
use Rattle.scsi_cmd.specs.Faults.{fault_number}
use Rattle.scsi_cmd.specs.Held.{held_at}
use Rattle.scsi_cmd.specs.Laws.{moved-short, submit_fault-none}
use Rattle.scsi_cmd.specs.declared.Command.{Command}
use Rattle.scsi_cmd.specs.declared.SubmitFault.{SubmitFault}
use Rattle.scsi_cmd.specs.declared.SubmitFault.TheVariants.{NotYours, InUse, BadLength, TooLong, OutOfTurn, NoSuchTask}
use Rattle.scsi_cmd.specs.declared.Task.{Task}
use Rattle.scsi_cmd.specs.declared.Task.TheVariants.{Abort, Reset, Query}
use Rattle.shared_machine.specs.Bus.{HasTicket}
use Rattle.shared_machine.specs.declared.Step.{Step}
use Rattle.shared_machine.specs.declared.Step.TheVariants.{Submit, Task as TaskStep, CommandPipe, Data, Status, Engine, Event, Retire, Take}
use Rattle.shared_machine.specs.Td.{Entry, is_left_over_on}
use Rattle.shared_machine.specs.Part.{Part, fault_at, is_there, named_entry, named_slot, task_fault_at}
use Rattle.shared_machine.specs.Shared.{Shared, answered, data_is_due, due, entry_fact, has_ready, managed_or, managed_to, part_fact, place_fact, shared_step}
use Rattle.shared_machine.specs.Shared.{status_is_due, submitted_to, submitted_under}
use Rattle.shared_machine.proofs.OwnSlots.{IsOwnSlot, command_slot-own}
use Rattle.shared_machine.proofs.Standing.{get-within}
use Rattle.machine_invariant.proofs.MatchedEnds.{unfaulted}
use Rattle.uas_log.specs.Booking.{refusal_of}
use Rattle.log_text.specs.declared.Version.TheVariants.{Second}
use Rattle.log_text.specs.Text.{BufferFits, StepFits, TaskFits}
use Rattle.booked_limits.specs.Fitting.{HasFields}

-- every refusal has a number
numbered : (fault : SubmitFault) → fault_number fault ≡ 0 → ⊥
numbered NotYours is = omega (arith, is)
numbered InUse is = omega (arith, is)
numbered BadLength is = omega (arith, is)
numbered TooLong is = omega (arith, is)
numbered (OutOfTurn least) is = omega (arith, is)
numbered NoSuchTask is = omega (arith, is)

-- TAGS

-- a tag that names a place of so many clients is small, where they have no more tags than there are streams
place-small : (tags clients tag : ℕ) (place : Place) → 0 < tags → clients * tags ≤ STREAMS → place_of tags clients tag ≡ Some place → tag < 2 ^ 16
place-small tags clients tag place some most is =
    let it = named-is_place tags clients tag place some is in
    let turned : tags * clients ≡ clients * tags = mul_comm tags clients in
    omega (arith, (tags-within tags clients place it.client it.slot).1, it.is, turned, most)

slot-within : (tags clients client tag slot : ℕ) → 0 < tags → clients * tags ≤ STREAMS → command_slot tags clients client tag ≡ Some slot → tag < 2 ^ 16
slot-within tags clients client tag slot some most is =
    let own : IsOwnSlot tags clients client tag slot = command_slot-own tags clients client tag slot is in
    let within : slot < tags = omega (arith, own.within) in
    let turned : tags * clients ≡ clients * tags = mul_comm tags clients in
    omega (arith, own.index, mul-add-lt client tags slot clients own.there within, turned, most)

-- a fact of a place is none of a tag that names no place
placed : (state : Shared) (tag : ℕ) (test : Entry → Bool) → 0 < state.tags → length state.parts * state.tags ≤ STREAMS → place_fact state tag test ≡ true
    → tag < 2 ^ 16
placed state tag test some most is =
    elim (place_of state.tags (length state.parts) tag) as (λ found. place_of state.tags (length state.parts) tag ≡ found
    → option_map_or (λ (place : Place). part_fact state place.client (entry_fact test place.slot)) found false ≡ true → tag < 2 ^ 16) [
      | None ↦ λ at none. absurd (false≢true none)
      | Some place ↦ λ at told. place-small state.tags (length state.parts) tag place some most at
    ] refl is

-- what holds of no entry is no fact of a place
nowhere : (state : Shared) (tag : ℕ) → place_fact state tag (λ entry. false) ≡ true → ⊥
nowhere state tag is =
    elim (place_of state.tags (length state.parts) tag) as
    (λ found. option_map_or (λ (place : Place). part_fact state place.client (entry_fact (λ entry. false) place.slot)) found false ≡ true → ⊥) [
      | None ↦ λ none. false≢true none
      | Some place ↦ λ told. at_part place.slot (slice_get state.parts place.client) told
    ] is
  where
    at_entry : (held : Option Entry) → option_map_or (λ (entry : Entry). false) held false ≡ true → ⊥
    at_entry None told = false≢true told
    at_entry (Some entry) told = false≢true told

    at_part : (slot : ℕ) (found : Option Part) → option_map_or (entry_fact (λ entry. false) slot) found false ≡ true → ⊥
    at_part slot None told = false≢true told
    at_part slot (Some part) told = at_entry (held_at part.entries slot) told

-- a client of which something holds is there
client-there : (parts : List Part) (client : ℕ) (test : Part → Bool) → option_map_or test (slice_get parts client) false ≡ true → client < length parts
client-there parts client test is =
    elim (slice_get parts client) as (λ found. slice_get parts client ≡ found → option_map_or test found false ≡ true → client < length parts) [
      | None ↦ λ at none. absurd (false≢true none)
      | Some part ↦ λ at told. get-within parts client part at
    ] refl is

-- A SUBMISSION

-- what an accepted submission brings
record IsAccepted (clients client tag : ℕ) (command : Command) : Type 0 where
  there : client < clients
  small : tag < 2 ^ 16
  buffer : BufferFits command.buffer

answered-accepted : (state : Shared) (part : Part) (place : Place) (tag ticket : ℕ) (command : Command) (fault : Option SubmitFault)
    → fault_at part place.slot ticket command ≡ fault → refusal_of (answered state part place tag ticket command fault).1 ≡ 0 → BufferFits command.buffer
answered-accepted state part place tag ticket command None none told =
    let in_use : Bool = is_some (held_at part.entries place.slot) in
    let whole = submit_fault-none true in_use part.least_ticket ticket command (ap is_some none) in
    let small = moved-short command.op (unfaulted in_use part.least_ticket ticket command none).short in
    record { most = omega (arith, whole, small) }
answered-accepted state part place tag ticket command (Some fault) is told = absurd (numbered fault told)

submitted_to-accepted : (state : Shared) (place : Place) (tag ticket : ℕ) (command : Command) (found : Option Part)
    → refusal_of (submitted_to state place tag ticket command found).1 ≡ 0 → BufferFits command.buffer
submitted_to-accepted state place tag ticket command None told = absurd (numbered NotYours told)
submitted_to-accepted state place tag ticket command (Some part) told =
    answered-accepted state part place tag ticket command (fault_at part place.slot ticket command) refl told

submitted-accepted : (state : Shared) (client tag ticket : ℕ) (command : Command) (slot : Option ℕ) → 0 < state.tags → length state.parts * state.tags ≤ STREAMS
    → command_slot state.tags (length state.parts) client tag ≡ slot → refusal_of (submitted_under state client tag ticket command slot).1 ≡ 0
    → IsAccepted (length state.parts) client tag command
submitted-accepted state client tag ticket command None some most is told = absurd (numbered NotYours told)
submitted-accepted state client tag ticket command (Some slot) some most is told = record {
  there = (command_slot-own state.tags (length state.parts) client tag slot is).there;
  small = slot-within state.tags (length state.parts) client tag slot some most is;
  buffer = submitted_to-accepted state (record { client = client; slot = slot }) tag ticket command (slice_get state.parts client) told;
}

-- TASK MANAGEMENT

-- one without a fault names what is there
has_task_if : (in_use late has_task : Bool) (least : ℕ) →
    cond in_use (Some InUse) (cond late (Some (OutOfTurn least)) (cond (not has_task) (Some NoSuchTask) None)) ≡ None → has_task ≡ true
has_task_if true late has_task least none = absurd (none-some InUse (sym none))
has_task_if false true has_task least none = absurd (none-some (OutOfTurn least) (sym none))
has_task_if false false true least none = refl
has_task_if false false false least none = absurd (none-some NoSuchTask (sym none))

named-within : (tags clients client tag : ℕ) (part : Part) (slot : Option ℕ) → 0 < tags → clients * tags ≤ STREAMS → command_slot tags clients client tag ≡ slot
    → is_some (named_entry part slot) ≡ true → tag < 2 ^ 16
named-within tags clients client tag part None some most is told = absurd (false≢true told)
named-within tags clients client tag part (Some slot) some most is told = slot-within tags clients client tag slot some most is

task-within : (tags clients client : ℕ) (part : Part) (task : Task) → 0 < tags → clients * tags ≤ STREAMS
    → is_there part (named_slot tags clients client task) task ≡ true → TaskFits Second task
task-within tags clients client part (Abort tag) some most told =
    named-within tags clients client tag part (command_slot tags clients client tag) some most refl told
task-within tags clients client part Reset some most told = tt
task-within tags clients client part (Query tag) some most told =
    (refl, named-within tags clients client tag part (command_slot tags clients client tag) some most refl told)

managed_or-within : (state : Shared) (part : Part) (client ticket : ℕ) (task : Task) (fault : Option SubmitFault) → 0 < state.tags
    → length state.parts * state.tags ≤ STREAMS → task_fault_at state.tags part (named_slot state.tags (length state.parts) client task) ticket task ≡ fault
    → refusal_of (managed_or state part (record { client = client; slot = (task_slot state.tags) }) (named_slot state.tags (length state.parts) client task) ticket task fault).1 ≡ 0
    → TaskFits Second task
managed_or-within state part client ticket task None some most none told =
    task-within state.tags (length state.parts) client part task some most
    (has_task_if (is_some (held_at part.entries (task_slot state.tags))) (nat_lt ticket part.least_ticket)
    (is_there part (named_slot state.tags (length state.parts) client task) task) part.least_ticket none)
managed_or-within state part client ticket task (Some fault) some most is told = absurd (numbered fault told)

managed-within : (state : Shared) (client ticket : ℕ) (task : Task) (found : Option Part) → 0 < state.tags → length state.parts * state.tags ≤ STREAMS
    → slice_get state.parts client ≡ found
    → refusal_of (managed_to state (record { client = client; slot = (task_slot state.tags) }) (named_slot state.tags (length state.parts) client task) ticket task found).1 ≡ 0
    → (client < length state.parts) × TaskFits Second task
managed-within state client ticket task None some most is told = absurd (numbered NotYours told)
managed-within state client ticket task (Some part) some most is told = (
  get-within state.parts client part is,
  managed_or-within state part client ticket task (task_fault_at state.tags part (named_slot state.tags (length state.parts) client task) ticket task)
      some most refl told,
)

-- RETIREMENT

retired-within : (state : Shared) (pipe : Pipe) (tag : ℕ) → 0 < state.tags → length state.parts * state.tags ≤ STREAMS → due state (Retire pipe tag) ≡ true
    → StepFits Second (length state.parts) (Retire pipe tag)
retired-within state CommandPipeName tag some most is = absurd (nowhere state tag (and_parts (is_none state.retirement) _ is).1)
retired-within state StatusPipe tag some most is = (tt, placed state tag (is_left_over_on StatusPipe) some most (and_parts (is_none state.retirement) _ is).1)
retired-within state DataIn tag some most is = (tt, placed state tag (is_left_over_on DataIn) some most (and_parts (is_none state.retirement) _ is).1)
retired-within state DataOut tag some most is = (tt, placed state tag (is_left_over_on DataOut) some most (and_parts (is_none state.retirement) _ is).1)

-- EVERY STEP

pub step-fits : (state : Shared) (step : Step) → 0 < state.tags → length state.parts * state.tags ≤ STREAMS → due state step ≡ true → HasTicket step
    → HasFields step → refusal_of (shared_step state step).1 ≡ 0 → StepFits Second (length state.parts) step
step-fits state (Submit client tag ticket command) some most is has fields told =
    let it = submitted-accepted state client tag ticket command (command_slot state.tags (length state.parts) client tag) some most refl told in
    (it.there, it.small, has, fields, it.buffer)
step-fits state (TaskStep client ticket task) some most is has fields told =
    let it = managed-within state client ticket task (slice_get state.parts client) some most refl told in (it.0, has, it.1)
step-fits state CommandPipe some most is has fields told = tt
step-fits state (Data tag) some most is has fields told = placed state tag (data_is_due state tag) some most is
step-fits state (Status tag) some most is has fields told = placed state tag (status_is_due state tag) some most is
step-fits state Engine some most is has fields told = tt
step-fits state Event some most is has fields told = tt
step-fits state (Retire pipe tag) some most is has fields told = retired-within state pipe tag some most is
step-fits state (Take client) some most is has fields told = client-there state.parts client has_ready is
