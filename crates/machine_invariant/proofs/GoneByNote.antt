-- A command is gone only by a task management that noted its ticket, which notes what its client held at its submission. Cited by the law
-- notes_reach_their_tickets.
use Rattle.std.proofs.Common.{◌≡◌, ℕ, ◌<◌, true, Option, Some, None, ap, sym, subst, ◌∙◌}
use Rattle.std.specs.Prelude.{nat_lt, length, slice_get, slice_set}
use Rattle.std.proofs.lemmas.Bool.{and_parts, ltb-true}
use Rattle.std.proofs.lemmas.List.{get_or-set_same}
use Rattle.std.proofs.lemmas.Option.{none-some}
use Rattle.arrayvec.specs.ArrayVec.{ArrayVec}
use Rattle.scsi_cmd.specs.Held.{held_at}
use Rattle.scsi_cmd.specs.Request.{ended_by}
use Rattle.scsi_cmd.specs.declared.Request.{Request}
use Rattle.scsi_cmd.specs.declared.Request.TheVariants.{Manage}
use Rattle.scsi_cmd.specs.declared.SubmitFault.{SubmitFault}
use Rattle.scsi_cmd.specs.declared.Task.{Task}
use Rattle.uas_profile.specs.Tags.{task_slot}
use Rattle.solo_model.specs.TaggedTask.{is_noted}
use Rattle.uas_profile.specs.declared.Place.{Place}
use Rattle.shared_machine.specs.declared.Step.{Step}
use Rattle.shared_machine.specs.declared.Step.TheVariants.{Task as TaskStep}
use Rattle.shared_machine.specs.Td.{Entry}
use Rattle.shared_machine.specs.Part.{Part, managed_part, named_slot, new_management, noted_tickets, task_fault_at}
use Rattle.shared_machine.specs.Shared.{Shared, managed_or, managed_to, shared_step}
use Rattle.machine_invariant.specs.Ordered.{HasNoted, NotedBy, names, under}
use Rattle.machine_invariant.specs.Reach.{EndsEarlierNamed, GoneByNote, NotedAtSubmission, RequestsStay, task_place}
use Rattle.machine_invariant.proofs.OrderedParts.{ended-noted}
use Rattle.machine_invariant.proofs.KeptRequests.{IsTakenOn}
use Rattle.machine_invariant.proofs.MatchedPlaces.{under-found}
use Rattle.machine_invariant.proofs.OrderedMessages.{under-there}
use Rattle.machine_invariant.proofs.OthersStay.{Ends, shared_step-owners}
use Rattle.shared_machine.proofs.Standing.{slice_get-slice_set_same}

-- what stands at a place before and after a step
taken-on : (state : Shared) (step : Step) (place : Place) (old now : Entry) → under state.parts place ≡ Some old
    → under (shared_step state step).0.parts place ≡ Some now → IsTakenOn (Ends state step place.client) old now
taken-on state step place old now was is =
    let before = under-found state.parts place old was in
    let after = under-found (shared_step state step).0.parts place now is in
    (shared_step-owners state step).kept place.client before.part after.part before.there after.there place.slot old now before.held after.held

pub gone-noted : GoneByNote
gone-noted state step place old now was is gone before =
    let ended = (taken-on state step place old now was is).gone gone before in (
      ended.0,
      record {
        head = ended.1.head;
        rest = ended.1.rest;
        management = ended.1.management;
        what = ended.1.what;
        noted = ended.1.noted;
        first = ended.1.first;
        held = ended.1.held;
        request = ended.1.request;
        client = ended.1.client;
        ticket_ended = ended.1.ticket_ended;
      },
    )

-- the order facts say what a task management noted
ends-named : (tags : ℕ) (place : Place) (old management : Entry) (request : Request) (what : Task) (noted : ArrayVec ℕ) (part : Part) → request ≡ Manage what noted
    → NotedBy tags place.client part management request → held_at part.entries place.slot ≡ Some old → place.slot < (task_slot tags)
    → is_noted (ended_by what noted).items old.task.ticket ≡ true → (names tags place.client place.slot what ≡ true) × (old.task.ticket < management.task.ticket)
ends-named tags place old management request what noted part asks noted_by held within is =
    let noting : HasNoted tags place.client part management what noted = subst (λ r. NotedBy tags place.client part management r) asks noted_by in
    let both = and_parts (names tags place.client place.slot what) (nat_lt old.task.ticket management.task.ticket)
    (sym (noting.exact place.slot old within held) ∙ ended-noted what noted old.task.ticket is) in
    (both.0, ltb-true old.task.ticket management.task.ticket both.1)

pub ends-earlier : EndsEarlierNamed
ends-earlier state place old ordered was within ended =
    let found = under-found state.parts place old was in
    let there : slice_get state.parts ended.head.client ≡ Some found.part = ap (λ client. slice_get state.parts client) ended.client ∙ found.there in
    let held : held_at found.part.entries ended.head.slot ≡ Some ended.management = sym (under-there state.parts ended.head found.part there) ∙ ended.held in
    ends-named _ place old ended.management ended.management.task.request ended.what ended.noted found.part ended.request
    ((ordered.parts place.client found.part found.there).noted ended.head.slot ended.management held) found.held within ended.ticket_ended

pub requests-stay : RequestsStay
requests-stay state step place old now was is = let on = taken-on state step place old now was is in (on.ticket, on.request)

-- what an accepted task management is, and no refusal
noted-or : (state : Shared) (client ticket : ℕ) (task : Task) (part : Part) (slot : Option ℕ) (fault : Option SubmitFault)
    → slice_get state.parts client ≡ Some part → (task_slot state.tags) < length part.entries
    → (managed_or state part (task_place state.tags client) slot ticket task fault).1.refused ≡ None
    → under (managed_or state part (task_place state.tags client) slot ticket task fault).0.parts (task_place state.tags client)
    ≡ Some (new_management ticket task (noted_tickets state.tags part slot task))
noted-or state client ticket task part slot None there within refused =
    let new : Entry = new_management ticket task (noted_tickets state.tags part slot task) in
    under-there (slice_set state.parts client (managed_part state.tags part slot ticket task)) (task_place state.tags client) (managed_part state.tags part slot ticket task)
    (slice_get-slice_set_same state.parts client part (managed_part state.tags part slot ticket task) there)
    ∙ get_or-set_same part.entries (task_slot state.tags) (Some new) None within
noted-or state client ticket task part slot (Some fault) there within refused = absurd (none-some _ (sym refused))

pub noted-submitted : NotedAtSubmission
noted-submitted state client ticket task part there within refused =
    let slot = named_slot state.tags (length state.parts) client task in
    let went : shared_step state (TaskStep client ticket task)
    ≡ managed_or state part (task_place state.tags client) slot ticket task (task_fault_at state.tags part slot ticket task) =
    ap (λ found. managed_to state (task_place state.tags client) slot ticket task found) there in
    ap (λ after. under after.0.parts (task_place state.tags client)) went
    ∙ noted-or state client ticket task part slot (task_fault_at state.tags part slot ticket task) there within (sym (ap (λ after. after.1.refused) went) ∙ refused)
