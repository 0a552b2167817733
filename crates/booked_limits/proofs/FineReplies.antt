-- The reply of a task that is fine fits the fields of a reply's text. Cited by FineSteps.
use Rattle.std.proofs.Common.{◌≡◌, ℕ, ◌+◌, ◌-◌, ◌*◌, ◌/◌, ◌^◌, ◌<◌, ◌≤◌, List, [], ◌∷◌, Option, Some, None, IfSome, inl, inr, refl, arith, ap, subst, ◌∙◌, mul_comm}
use Rattle.std.specs.Prelude.{slice_get, slice_set, option_and_then}
use Rattle.std.specs.Option.{option_map_or}
use Rattle.std.proofs.lemmas.Nat.{mul-add-lt}
use Rattle.std.proofs.lemmas.Option.{none-some, same_Some}
use Rattle.block_unit.specs.BlockMaps.{BlockMaps}
use Rattle.uas_profile.specs.declared.TheConstants.{STREAMS, WINDOW_BYTES}
use Rattle.uas_profile.specs.declared.Place.{Place}
use Rattle.uas_profile.proofs.TagLaws.{client-before}
use Rattle.scsi_cmd.specs.Held.{held_at}
use Rattle.scsi_cmd.specs.declared.Reply.{Reply}
use Rattle.scsi_cmd.specs.declared.Request.{Request}
use Rattle.scsi_cmd.specs.declared.Request.TheVariants.{Execute, Manage}
use Rattle.device_server.specs.declared.Answer.TheVariants.{Good, Check}
use Rattle.solo_model.specs.declared.Phase.{Phase}
use Rattle.solo_model.specs.declared.Phase.TheVariants.{Queued, Begun, Sent, Gone}
use Rattle.solo_model.specs.declared.ResponseCode.TheVariants.{Complete, Succeeded}
use Rattle.solo_model.specs.declared.TaskAnswer.{TaskAnswer}
use Rattle.solo_model.specs.declared.TaskAnswer.TheVariants.{WithStatus, WithResponse}
use Rattle.solo_model.specs.Soundness.{IsSoundRequest}
use Rattle.solo_model.specs.TaggedTask.{TaggedTask, aborted_by, answered_by, reply_from, reply_of}
use Rattle.machine_invariant.specs.Matched.{IsMatched, held_in, request_bytes}
use Rattle.machine_invariant.proofs.MatchedBounds.{held-place}
use Rattle.shared_machine.specs.Td.{Entry}
use Rattle.shared_machine.specs.Shared.{Shared}
use Rattle.shared_machine.specs.Part.{Act, Part, entry_reply, settled, slot_tag, take_act, taken}
use Rattle.log_text.specs.Kept.{with_client}
use Rattle.log_text.specs.Text.{ReplyFits}
use Rattle.booked_limits.proofs.FineTasks.{IsFine}
use Rattle.booked_limits.proofs.FineParts.{IsFinePart, held-fine, written-fine}

-- a reply of one of so many clients, of so many tags each
abbrev pub Fits : ℕ → ℕ → Reply → Type 0
Fits tags clients reply = ReplyFits clients (with_client tags reply)

-- a tag of one of so many clients
record IsTag (tags clients tag : ℕ) : Type 0 where
  client : (tag - 1) / tags < clients
  small : tag < 2 ^ 16

slot-tag : (tags clients client slot : ℕ) → clients * tags ≤ STREAMS → client < clients → slot < tags → IsTag tags clients (slot_tag tags client slot)
slot-tag tags clients client slot most there within =
    let before : slot_tag tags client slot - 1 ≡ client * tags + slot = omega arith in
    let owner : (slot_tag tags client slot - 1) / tags ≡ client = client-before tags client (slot_tag tags client slot - 1) slot before within in
    let turned : tags * clients ≡ clients * tags = mul_comm tags clients in
    record {
      client = omega (arith, owner, there);
      small = omega (arith, mul-add-lt client tags slot clients there within, turned, most);
    }

answered-fits : (tags clients count tag : ℕ) (task : TaggedTask) (answer : TaskAnswer) (request : Request) (reply : Reply) → IsTag tags clients tag
    → task.ticket < 2 ^ 60 → IsSoundRequest count task request → request_bytes request ≤ WINDOW_BYTES
    → answered_by tag task.ticket task.buffer answer request ≡ Some reply → Fits tags clients reply
answered-fits tags clients count tag task (WithStatus Good) (Execute op) reply at ticket sound small is =
    subst (λ r. Fits tags clients r) (same_Some _ reply is) (record {
      client = at.client;
      tag = at.small;
      ticket = ticket;
      body = (omega arith, inl refl, record { most = omega (arith, small, sound.whole) });
    })
answered-fits tags clients count tag task (WithStatus (Check sense)) (Execute op) reply at ticket sound small is =
    subst (λ r. Fits tags clients r) (same_Some _ reply is) (record {
      client = at.client;
      tag = at.small;
      ticket = ticket;
      body = (omega arith, inr refl, record { most = omega (arith, small, sound.whole) });
    })
answered-fits tags clients count tag task (WithStatus answer) (Manage what noted) reply at ticket sound small is = absurd (none-some reply is)
answered-fits tags clients count tag task (WithResponse code) (Execute op) reply at ticket sound small is = absurd (none-some reply is)
answered-fits tags clients count tag task (WithResponse Complete) (Manage what noted) reply at ticket sound small is =
    subst (λ r. Fits tags clients r) (same_Some _ reply is) (record { client = at.client; tag = at.small; ticket = ticket; body = omega arith })
answered-fits tags clients count tag task (WithResponse Succeeded) (Manage what noted) reply at ticket sound small is =
    subst (λ r. Fits tags clients r) (same_Some _ reply is) (record { client = at.client; tag = at.small; ticket = ticket; body = omega arith })

aborted-fits : (tags clients count tag : ℕ) (task : TaggedTask) (request : Request) (reply : Reply) → IsTag tags clients tag → task.ticket < 2 ^ 60
    → IsSoundRequest count task request → request_bytes request ≤ WINDOW_BYTES → aborted_by tag task.ticket task.buffer request ≡ Some reply
    → Fits tags clients reply
aborted-fits tags clients count tag task (Execute op) reply at ticket sound small is =
    subst (λ r. Fits tags clients r) (same_Some _ reply is)
    (record { client = at.client; tag = at.small; ticket = ticket; body = record { most = omega (arith, small, sound.whole) } })
aborted-fits tags clients count tag task (Manage what noted) reply at ticket sound small is = absurd (none-some reply is)

reply-fits : (tags clients count tag : ℕ) (task : TaggedTask) (phase : Phase) (reply : Reply) → IsTag tags clients tag → IsFine count task
    → reply_from tag task phase ≡ Some reply → Fits tags clients reply
reply-fits tags clients count tag task Queued reply at fine is = absurd (none-some reply is)
reply-fits tags clients count tag task (Begun progress) reply at fine is = absurd (none-some reply is)
reply-fits tags clients count tag task (Sent answer) reply at fine is =
    answered-fits tags clients count tag task answer task.request reply at fine.ticket fine.sound fine.small is
reply-fits tags clients count tag task Gone reply at fine is =
    aborted-fits tags clients count tag task task.request reply at fine.ticket fine.sound fine.small is

-- THE TAKE

-- an act whose reply fits
pub record IsFineTake (tags clients : ℕ) (first : BlockMaps) (act : Act) : Type 0 where
  pub part_fine : IsFinePart first act.part
  pub reply_fits : IfSome act.reply (Fits tags clients)

if_some : (P : Reply → Type 0) (told : Option Reply) → ((reply : Reply) → told ≡ Some reply → P reply) → IfSome told P
if_some P None each = tt
if_some P (Some reply) each = each reply refl

-- a part holds something at its client's slots alone, so many that each client has tags
abbrev pub HoldsBelow : ℕ → Part → Type 0
HoldsBelow tags part = (slot : ℕ) (entry : Entry) → held_at part.entries slot ≡ Some entry → slot < tags

-- so does each part of a matched state
pub matched-below : (state : Shared) (client : ℕ) (part : Part) → IsMatched state → slice_get state.parts client ≡ Some part → HoldsBelow state.tags part
matched-below state client part all there slot entry held =
    let place : Place = record { client = client; slot = slot } in
    (held-place state place entry all (ap (λ found. option_map_or (held_in place) found None) there ∙ held)).slot

held-replies : (tags clients client slot : ℕ) (first : BlockMaps) (part : Part) (held : Option Entry) → clients * tags ≤ STREAMS → client < clients
    → HoldsBelow tags part → IsFinePart first part → held_at part.entries slot ≡ held
    → IfSome (option_and_then (entry_reply (slot_tag tags client slot)) held) (Fits tags clients)
held-replies tags clients client slot first part None most there below fine is = tt
held-replies tags clients client slot first part (Some entry) most there below fine is =
    if_some (Fits tags clients) (reply_of (slot_tag tags client slot) entry.task) (λ reply told.
    reply-fits tags clients part.unit.count (slot_tag tags client slot) entry.task entry.task.phase reply
    (slot-tag tags clients client slot most there (below slot entry is)) (held-fine first part slot entry fine is) told)

settled-fine : (tags clients : ℕ) (first : BlockMaps) (part : Part) (slot : ℕ) (rest : List ℕ) (reply : Option Reply) → IsFinePart first part
    → IfSome reply (Fits tags clients) → IsFineTake tags clients first (settled part slot rest reply)
settled-fine tags clients first part slot rest None fine fits = record { part_fine = fine; reply_fits = tt }
settled-fine tags clients first part slot rest (Some reply) fine fits =
    let wrote : IsFinePart first (record part { entries = slice_set part.entries slot None }) = written-fine first part slot None fine tt in
    record { part_fine = record { tasks = wrote.tasks; unit_same = wrote.unit_same }; reply_fits = fits }

taken-fine : (tags clients client : ℕ) (first : BlockMaps) (part : Part) (ready : List ℕ) → clients * tags ≤ STREAMS → client < clients
    → HoldsBelow tags part → IsFinePart first part → IsFineTake tags clients first (taken tags client part ready)
taken-fine tags clients client first part [] most there below fine = record { part_fine = fine; reply_fits = tt }
taken-fine tags clients client first part (slot ∷ rest) most there below fine =
    settled-fine tags clients first part slot rest (option_and_then (entry_reply (slot_tag tags client slot)) (held_at part.entries slot)) fine
    (held-replies tags clients client slot first part (held_at part.entries slot) most there below fine refl)

pub take_act-fine : (tags clients client : ℕ) (first : BlockMaps) (part : Part) → clients * tags ≤ STREAMS → client < clients
    → HoldsBelow tags part → IsFinePart first part → IsFineTake tags clients first (take_act tags client part)
take_act-fine tags clients client first part most there below fine = taken-fine tags clients client first part part.ready most there below fine
