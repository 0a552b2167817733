-- Each ticket is accepted once and settled once.
use Rattle.std.proofs.Common.{◌≡◌, ◌⊎◌, inl, inr, ℕ, zero, suc, ◌+◌, ◌<◌, ◌≤◌, List, [], ◌∷◌, ◌++◌, map, Option, Some, None, option_map, option_and_then}
use Rattle.std.proofs.Common.{Bool, true, false, ◌&&◌, cond, refl, arith, ap, sym, ◌∙◌, subst, rules}
use Rattle.std.specs.Prelude.{All, slice_set, slice_get, is_some, replicate}
use Rattle.std.proofs.Math.ListN.{get_or-map}
use Rattle.std.proofs.Math.Seq.{map-set_same}
use Rattle.std.proofs.lemmas.Option.{none-some, same_Some, some_pair_parts, option_and_then_some}
use Rattle.std.proofs.lemmas.Grind.{common_steps}
use Rattle.std.proofs.lemmas.List.{map-set}
use Rattle.std.proofs.lemmas.List.Elements.{All-push, All-weaker, All-nil, All-contains, Contains-push, Contains-push_cases, Contains-append_left}
use Rattle.block_unit.specs.BlockMaps.{BlockMaps}
use Rattle.scsi_cmd.specs.declared.Command.{Command}
use Rattle.scsi_cmd.specs.declared.Reply.{Reply}
use Rattle.scsi_cmd.specs.Request.{ended_by}
use Rattle.scsi_cmd.specs.declared.Request.{Request}
use Rattle.scsi_cmd.specs.declared.Request.TheVariants.{Execute, Manage}
use Rattle.scsi_cmd.specs.declared.Task.{Task as SoloTask}
use Rattle.uas_profile.specs.declared.TheConstants.{MOST_TAGS}
use Rattle.uas_profile.specs.Tags.{task_slot}
use Rattle.solo_model.specs.declared.Phase.TheVariants.{Gone}
use Rattle.solo_model.specs.TaggedTask.{TaggedTask, after_notes, can_be_ended, carried, finds, is_noted, moved, queued, queued_management, reply_of, sent}
use Rattle.solo_model.specs.declared.Label.{Label}
use Rattle.solo_model.specs.declared.Label.TheVariants.{Submit, Task, Carry, Move, Send, Settle}
use Rattle.scsi_cmd.specs.Held.{held_at}
use Rattle.scsi_cmd.specs.Submission.{first_submit_fault, first_task_fault}
use Rattle.solo_model.specs.Solo.{SoloState, solo_step, solo_run, silently, submitted, is_command_index, with_task, without_task, with_reply}
use Rattle.solo_model.specs.Solo.{after_request, carried_at, is_there, managed, noted_tickets, task_index, with_request_carried, opening as solo_opening}
use Rattle.shared_machine.specs.declared.Step.{Step}
use Rattle.shared_machine.specs.Replay.{replay}
use Rattle.isolation.specs.Isolation.{own_labels, own_replies, own_state}
use Rattle.scsi_cmd.specs.Replies.{reply_ticket}
use Rattle.isolation.specs.Once.{IsOwed, SettlesOnce}
use Rattle.isolation.proofs.FirstBlocks.{replay-solo}

-- THE TICKETS THAT A STATE HAS

abbrev pub ticket_of : TaggedTask → ℕ
ticket_of task = task.ticket

-- the ticket under each slot
abbrev pub tickets : SoloState → List (Option ℕ)
tickets state = map (option_map ticket_of) state.tasks

-- What is so between steps: the tickets given out are below the least; each that a slot has is owed, and no other slot has it.
pub record AreOnce (held : List (Option ℕ)) (least : ℕ) (accepted settled : List ℕ) : Type 0 where
  pub accepted_below : All (λ ticket. ticket < least) accepted
  pub settled_below : All (λ ticket. ticket < least) settled
  pub owed : (slot ticket : ℕ) → held_at held slot ≡ Some ticket → IsOwed accepted settled ticket
  pub apart : (first second ticket : ℕ) → held_at held first ≡ Some ticket → held_at held second ≡ Some ticket → first ≡ second

-- ONE WRITE

-- what a slot has after a write was written there, or was there
pub record IsKept (held : List (Option ℕ)) (slot other ticket : ℕ) : Type 0 where
  pub elsewhere : slot ≡ other → ⊥
  pub still : held_at held other ≡ Some ticket

held_at-set : (held : List (Option ℕ)) (slot other ticket : ℕ) (now : Option ℕ) → held_at (slice_set held slot now) other ≡ Some ticket →
    ((slot ≡ other) × (now ≡ Some ticket)) ⊎ IsKept held slot other ticket
held_at-set [] slot other ticket now is = absurd (none-some ticket is)
held_at-set (first ∷ rest) zero zero ticket now is = inl (refl, is)
held_at-set (first ∷ rest) zero (suc other) ticket now is = inr (record { elsewhere = λ same. omega arith; still = is })
held_at-set (first ∷ rest) (suc slot) zero ticket now is = inr (record { elsewhere = λ same. omega arith; still = is })
held_at-set (first ∷ rest) (suc slot) (suc other) ticket now is = elim (held_at-set rest slot other ticket now is) [
  | inl both ↦ inl (ap suc both.0, both.1)
  | inr kept ↦ inr (record { elsewhere = λ same. kept.elsewhere (omega arith); still = kept.still })
]

-- a ticket from the least on is under no slot
is_fresh : (held : List (Option ℕ)) (least : ℕ) (accepted settled : List ℕ) (slot ticket : ℕ) → AreOnce held least accepted settled → least ≤ ticket →
    held_at held slot ≡ Some ticket → ⊥
is_fresh held least accepted settled slot ticket once above is =
    let below : ticket < least = All-contains (λ t. t < least) accepted ticket once.accepted_below (once.owed slot ticket is).accepted_before in
    absurd (omega arith)

-- a ticket that is given out is owed
AreOnce-submit : (held : List (Option ℕ)) (least : ℕ) (accepted settled : List ℕ) (slot ticket : ℕ) → AreOnce held least accepted settled → least ≤ ticket →
    AreOnce (slice_set held slot (Some ticket)) (ticket + 1) (accepted ++ ticket ∷ []) settled
AreOnce-submit held least accepted settled slot ticket once above = record {
  accepted_below =
      All-push (λ t. t < ticket + 1) accepted ticket
      (All-weaker (λ t. t < least) (λ t. t < ticket + 1) (λ t below. omega arith) accepted once.accepted_below) (omega arith);
  settled_below = All-weaker (λ t. t < least) (λ t. t < ticket + 1) (λ t below. omega arith) settled once.settled_below;
  owed = λ other t is. elim (held_at-set held slot other t (Some ticket) is) [
    | inl both ↦
        let same : ticket ≡ t = cc in
        let P : ℕ → Type 0 = IsOwed (accepted ++ ticket ∷ []) settled in
        subst P same (record {
          accepted_before = Contains-push accepted ticket;
          not_settled = λ has. let below : ticket < least = All-contains (λ u. u < least) settled ticket once.settled_below has in absurd (omega arith);
        })
    | inr kept ↦ record {
      accepted_before = Contains-append_left accepted (ticket ∷ []) t (once.owed other t kept.still).accepted_before;
      not_settled = (once.owed other t kept.still).not_settled;
    }
  ];
  apart = λ first second t at_first at_second. elim (held_at-set held slot first t (Some ticket) at_first) [
    | inl here ↦ elim (held_at-set held slot second t (Some ticket) at_second) [
      | inl there ↦ sym here.0 ∙ there.0
      | inr kept ↦
          let same : ticket ≡ t = cc in
          let still : held_at held second ≡ Some ticket = kept.still ∙ ap Some (sym same) in
          absurd (is_fresh held least accepted settled second ticket once above still)
    ]
    | inr kept ↦ elim (held_at-set held slot second t (Some ticket) at_second) [
      | inl there ↦
          let same : ticket ≡ t = cc in
          let still : held_at held first ≡ Some ticket = kept.still ∙ ap Some (sym same) in
          absurd (is_fresh held least accepted settled first ticket once above still)
      | inr other ↦ once.apart first second t kept.still other.still
    ]
  ];
}

-- what a slot has after another one was emptied
held_at-emptied : (held : List (Option ℕ)) (slot other ticket : ℕ) → held_at (slice_set held slot None) other ≡ Some ticket → IsKept held slot other ticket
held_at-emptied held slot other ticket is = elim (held_at-set held slot other ticket None is) [
  | inl both ↦ absurd (none-some ticket both.1)
  | inr kept ↦ kept
]

-- a ticket that is settled is owed no more
AreOnce-settle : (held : List (Option ℕ)) (least : ℕ) (accepted settled : List ℕ) (slot ticket : ℕ) → AreOnce held least accepted settled
    → held_at held slot ≡ Some ticket →
    AreOnce (slice_set held slot None) least accepted (settled ++ ticket ∷ [])
AreOnce-settle held least accepted settled slot ticket once is = record {
  accepted_below = once.accepted_below;
  settled_below =
      All-push (λ t. t < least) settled ticket once.settled_below
      (All-contains (λ t. t < least) accepted ticket once.accepted_below (once.owed slot ticket is).accepted_before);
  owed = λ other t at_other.
      let kept = held_at-emptied held slot other t at_other in
      record {
        accepted_before = (once.owed other t kept.still).accepted_before;
        not_settled = λ has. elim (Contains-push_cases settled ticket t has) [
          | inl before ↦ (once.owed other t kept.still).not_settled before
          | inr same ↦ kept.elsewhere (once.apart slot other t (is ∙ ap Some same) kept.still)
        ];
      };
  apart = λ first second t at_first at_second.
      once.apart first second t (held_at-emptied held slot first t at_first).still (held_at-emptied held slot second t at_second).still;
}

-- STEPS OF THE SOLO MACHINE

-- what was made of something that is there
mapped : {A B C P : Type 0} (f : B → C) (g : A → Option B) (o : Option A) (c : C) → option_map f (option_and_then g o) ≡ Some c →
    ((a : A) (b : B) → o ≡ Some a → g a ≡ Some b → f b ≡ c → P) → P
mapped {A} {B} {C} {P} f g None c is then = absurd (none-some c is)
mapped {A} {B} {C} {P} f g (Some a) c is then =
    elim (g a) as (λ made. g a ≡ made → option_map f made ≡ Some c → P) [
      | None ↦ λ made none. absurd (none-some c none)
      | Some b ↦ λ made some. let same : f b ≡ c = cc in then a b refl made same
    ] refl is

made_of : {B C P : Type 0} (f : B → C) (o : Option B) (c : C) → option_map f o ≡ Some c → ((b : B) → o ≡ Some b → f b ≡ c → P) → P
made_of f None c is then = absurd (none-some c is)
made_of f (Some b) c is then = let same : f b ≡ c = cc in then b refl same

-- a step that no ticket can tell
pub record IsSilent (state : SoloState) (after : SoloState × Option Reply) : Type 0 where
  pub tickets_same : tickets after.0 ≡ tickets state
  pub least_same : after.0.least_ticket ≡ state.least_ticket
  pub reply : after.1 ≡ None

-- a task that keeps its ticket
tickets-kept : (tasks : List (Option TaggedTask)) (slot : ℕ) (was now : TaggedTask) → held_at tasks slot ≡ Some was → now.ticket ≡ was.ticket →
    map (option_map ticket_of) (slice_set tasks slot (Some now)) ≡ map (option_map ticket_of) tasks
tickets-kept tasks slot was now is same =
    map-set_same (option_map ticket_of) tasks slot (Some now) None (ap Some same ∙ sym (ap (option_map ticket_of) is))

-- a task that is gone keeps its ticket
ticket-gone : (gone : Bool) (task : TaggedTask) → (cond gone (record task { phase = Gone }) task).ticket ≡ task.ticket
ticket-gone true task = refl
ticket-gone false task = refl

tickets-noted : (noted : List ℕ) (tasks : List (Option TaggedTask)) →
    map (option_map ticket_of) (map (option_map (after_notes noted)) tasks) ≡ map (option_map ticket_of) tasks
tickets-noted noted [] = refl
tickets-noted noted (None ∷ tasks) = ap (λ rest. None ∷ rest) (tickets-noted noted tasks)
tickets-noted noted (Some task ∷ tasks) =
    ap (λ t. Some t ∷ map (option_map ticket_of) (map (option_map (after_notes noted)) tasks))
    (ticket-gone (can_be_ended task && is_noted noted task.ticket) task)
    ∙ ap (λ rest. Some task.ticket ∷ rest) (tickets-noted noted tasks)

tickets-after : (request : Request) (tasks : List (Option TaggedTask)) →
    map (option_map ticket_of) (after_request request tasks) ≡ map (option_map ticket_of) tasks
tickets-after (Execute op) tasks = refl
tickets-after (Manage what noted) tasks = tickets-noted (ended_by what noted).items tasks

-- the same of a task that is carried
tickets-carried : (tasks : List (Option TaggedTask)) (request : Request) (slot : ℕ) (was now : TaggedTask) → held_at tasks slot ≡ Some was →
    now.ticket ≡ was.ticket → map (option_map ticket_of) (slice_set (after_request request tasks) slot (Some now)) ≡ map (option_map ticket_of) tasks
tickets-carried tasks request slot was now is same =
    map-set (option_map ticket_of) (after_request request tasks) slot (Some now)
    ∙ ap (λ tickets. slice_set tickets slot (Some now.ticket)) (tickets-after request tasks)
    ∙ sym (map-set (option_map ticket_of) tasks slot (Some now))
    ∙ tickets-kept tasks slot was now is same

carried-ticket : (unit : BlockMaps) (found : Bool) (task : TaggedTask) (after : BlockMaps × TaggedTask) → carried unit found task ≡ Some after
    → after.1.ticket ≡ task.ticket
carried-ticket unit found task after is = search rules

moved-ticket : (unit : BlockMaps) (task : TaggedTask) (after : BlockMaps × TaggedTask) → moved unit task ≡ Some after → after.1.ticket ≡ task.ticket
moved-ticket unit task after is = search rules

sent-ticket : (task after : TaggedTask) → sent task ≡ Some after → after.ticket ≡ task.ticket
sent-ticket task after is = search rules

reply_of-ticket : (tag : ℕ) (task : TaggedTask) (reply : Reply) → reply_of tag task ≡ Some reply → reply_ticket reply ≡ task.ticket
reply_of-ticket tag task reply is = search rules

carry-silent : (state : SoloState) (index : ℕ) (after : SoloState × Option Reply) → solo_step state (Carry index) ≡ Some after → IsSilent state after
carry-silent state zero after is = absurd (none-some after is)
carry-silent state (suc slot) after is =
    option_and_then_some (carried_at state (suc slot)) (held_at state.tasks slot) after is (λ task found acts.
    made_of (λ made. silently (with_task (with_request_carried state task) (suc slot) made)) (carried state.unit (finds task.request state.tasks) task) after acts (λ made does same.
    subst (IsSilent state) same (record {
      tickets_same = tickets-carried state.tasks task.request slot task made.1 found (carried-ticket state.unit (finds task.request state.tasks) task made does);
      least_same = refl;
      reply = refl;
    })))

move-silent : (state : SoloState) (index : ℕ) (after : SoloState × Option Reply) → solo_step state (Move index) ≡ Some after → IsSilent state after
move-silent state zero after is = absurd (none-some after is)
move-silent state (suc slot) after is =
    mapped (λ made. silently (with_task state (suc slot) made)) (moved state.unit) (held_at state.tasks slot) after is (λ task made found does same.
    subst (IsSilent state) same (record {
      tickets_same = tickets-kept state.tasks slot task made.1 found (moved-ticket state.unit task made does);
      least_same = refl;
      reply = refl;
    }))

send-silent : (state : SoloState) (index : ℕ) (after : SoloState × Option Reply) → solo_step state (Send index) ≡ Some after → IsSilent state after
send-silent state zero after is = absurd (none-some after is)
send-silent state (suc slot) after is =
    mapped (λ made. silently (with_task state (suc slot) (state.unit, made))) sent (held_at state.tasks slot) after is (λ task made found does same.
    subst (IsSilent state) same (record {
      tickets_same = tickets-kept state.tasks slot task made found (sent-ticket task made does);
      least_same = refl;
      reply = refl;
    }))

-- a step that gives out a ticket
pub record IsGivenOut (state : SoloState) (ticket : ℕ) (after : SoloState × Option Reply) : Type 0 where
  pub slot : ℕ
  pub tickets_now : tickets after.0 ≡ slice_set (tickets state) slot (Some ticket)
  pub least_now : after.0.least_ticket ≡ ticket + 1
  pub least_before : state.least_ticket ≤ ticket
  pub reply : after.1 ≡ None

-- without a fault the ticket isn't below the least
no_fault-least : (yours in_use : Bool) (least ticket : ℕ) (command : Command) → first_submit_fault yours in_use least ticket command ≡ None → least ≤ ticket
no_fault-least yours in_use least ticket command none = grind (arith, common_steps)

submit-given_out : (state : SoloState) (index ticket : ℕ) (command : Command) (after : SoloState × Option Reply)
    → solo_step state (Submit index ticket command) ≡ Some after →
    IsGivenOut state ticket after
submit-given_out state zero ticket command after is = absurd (none-some after is)
submit-given_out state (suc slot) ticket command after is =
    let fault = first_submit_fault (is_command_index state.tags (suc slot)) (is_some (held_at state.tasks slot)) state.least_ticket ticket command in
    elim fault as (λ f. fault ≡ f → submitted state (suc slot) ticket command f ≡ Some after → IsGivenOut state ticket after) [
      | Some first ↦ λ found none. absurd (none-some after none)
      | None ↦ λ none some.
          let made : SoloState × Option Reply =
          silently (record (with_task state (suc slot) (state.unit, queued ticket command)) { least_ticket = ticket + 1 }) in
          let same : made ≡ after = same_Some made after some in
          subst (IsGivenOut state ticket) same (record {
            slot = slot;
            tickets_now = map-set (option_map ticket_of) state.tasks slot (Some (queued ticket command));
            least_now = refl;
            least_before = no_fault-least (is_command_index state.tags (suc slot)) (is_some (held_at state.tasks slot)) state.least_ticket ticket command none;
            reply = refl;
          })
    ] refl is

no_task_fault-least : (yours in_use : Bool) (least ticket : ℕ) (there : Bool) → first_task_fault yours in_use least ticket there ≡ None → least ≤ ticket
no_task_fault-least yours in_use least ticket there none = grind (arith, common_steps)

task-given_out : (state : SoloState) (ticket : ℕ) (task : SoloTask) (after : SoloState × Option Reply) → solo_step state (Task ticket task) ≡ Some after →
    IsGivenOut state ticket after
task-given_out state ticket task after is =
    let fault = first_task_fault true (is_some (held_at state.tasks (task_slot state.tags))) state.least_ticket ticket (is_there state.tags state.tasks task) in
    elim fault as (λ f. fault ≡ f → managed state ticket task f ≡ Some after → IsGivenOut state ticket after) [
      | Some first ↦ λ found none. absurd (none-some after none)
      | None ↦ λ none some.
          let submitted_task : TaggedTask = queued_management ticket task (noted_tickets state.tags state.tasks task) in
          let made : SoloState × Option Reply = silently (record (with_task state (task_index state.tags) (state.unit, submitted_task)) { least_ticket = ticket + 1 }) in
          let same : made ≡ after = same_Some made after some in
          subst (IsGivenOut state ticket) same (record {
            slot = task_slot state.tags;
            tickets_now = map-set (option_map ticket_of) state.tasks (task_slot state.tags) (Some submitted_task);
            least_now = refl;
            least_before = no_task_fault-least true (is_some (held_at state.tasks (task_slot state.tags))) state.least_ticket ticket (is_there state.tags state.tasks task) none;
            reply = refl;
          })
    ] refl is

-- a step that settles a ticket
pub record IsAnswered (state : SoloState) (after : SoloState × Option Reply) : Type 0 where
  pub slot : ℕ
  pub answer : Reply
  pub held : held_at (tickets state) slot ≡ Some (reply_ticket answer)
  pub tickets_now : tickets after.0 ≡ slice_set (tickets state) slot None
  pub least_same : after.0.least_ticket ≡ state.least_ticket
  pub reply : after.1 ≡ Some answer

settle-answered : (state : SoloState) (index : ℕ) (after : SoloState × Option Reply) → solo_step state (Settle index) ≡ Some after → IsAnswered state after
settle-answered state zero after is = absurd (none-some after is)
settle-answered state (suc slot) after is =
    mapped (λ answer. (without_task state (suc slot), Some answer)) (reply_of (suc slot)) (held_at state.tasks slot) after is (λ task answer found does same.
    subst (IsAnswered state) same (record {
      slot = slot;
      answer = answer;
      held =
          get_or-map (option_map ticket_of) state.tasks slot None
          ∙ ap (option_map ticket_of) found
          ∙ ap Some (sym (reply_of-ticket (suc slot) task answer does));
      tickets_now = map-set (option_map ticket_of) state.tasks slot None;
      least_same = refl;
      reply = refl;
    }))

-- RUNS

-- the rest of a run after a step without a reply
silent-rest : (after : SoloState × Option Reply) (labels : List Label) (last : SoloState) (replies : List Reply) → after.1 ≡ None →
    option_map (with_reply after.1) (solo_run after.0 labels) ≡ Some (last, replies) → solo_run after.0 labels ≡ Some (last, replies)
silent-rest after labels last replies none is = search rules

-- the rest of a run after a step with a reply
pub record IsRest (after : SoloState × Option Reply) (answer : Reply) (labels : List Label) (last : SoloState) (replies : List Reply) : Type 0 where
  pub rest : List Reply
  pub first : replies ≡ answer ∷ rest
  pub run : solo_run after.0 labels ≡ Some (last, rest)

answered-found : (run : Option (SoloState × List Reply)) (after : SoloState × Option Reply) (answer : Reply) (labels : List Label) (last : SoloState)
    (replies : List Reply) →
    solo_run after.0 labels ≡ run → option_map (with_reply (Some answer)) run ≡ Some (last, replies) → IsRest after answer labels last replies
answered-found None after answer labels last replies ran is = absurd (none-some (last, replies) is)
answered-found (Some run) after answer labels last replies ran is =
    let parts = some_pair_parts run.0 last (answer ∷ run.1) replies is in
    record { rest = run.1; first = sym parts.1; run = ran ∙ ap (λ (state : SoloState). Some (state, run.1)) parts.0 }

answered-rest : (after : SoloState × Option Reply) (answer : Reply) (labels : List Label) (last : SoloState) (replies : List Reply) → after.1 ≡ Some answer →
    option_map (with_reply after.1) (solo_run after.0 labels) ≡ Some (last, replies) → IsRest after answer labels last replies
answered-rest after answer labels last replies some is =
    let P : Option Reply → Type 0 = λ reply. option_map (with_reply reply) (solo_run after.0 labels) ≡ Some (last, replies) in
    answered-found (solo_run after.0 labels) after answer labels last replies refl (subst P some is)

-- what is so of the tickets goes on where no ticket is told
AreOnce-silent : (state : SoloState) (after : SoloState × Option Reply) (accepted settled : List ℕ)
    → AreOnce (tickets state) state.least_ticket accepted settled →
    IsSilent state after → AreOnce (tickets after.0) after.0.least_ticket accepted settled
AreOnce-silent state after accepted settled once silent = rw (silent.tickets_same, silent.least_same) once

-- the same, where a ticket is given out
AreOnce-given : (state : SoloState) (after : SoloState × Option Reply) (ticket : ℕ) (accepted settled : List ℕ)
    → AreOnce (tickets state) state.least_ticket accepted settled →
    IsGivenOut state ticket after → AreOnce (tickets after.0) after.0.least_ticket (accepted ++ ticket ∷ []) settled
AreOnce-given state after ticket accepted settled once given =
    rw (given.tickets_now, given.least_now) (AreOnce-submit (tickets state) state.least_ticket accepted settled given.slot ticket once given.least_before)

-- the same, where one is settled
AreOnce-answered : (state : SoloState) (after : SoloState × Option Reply) (accepted settled : List ℕ)
    → AreOnce (tickets state) state.least_ticket accepted settled →
    (told : IsAnswered state after) → AreOnce (tickets after.0) after.0.least_ticket accepted (settled ++ reply_ticket told.answer ∷ [])
AreOnce-answered state after accepted settled once told =
    rw (told.tickets_now, told.least_same)
    (AreOnce-settle (tickets state) state.least_ticket accepted settled told.slot (reply_ticket told.answer) once told.held)

-- what is so of the rest of a run, from any state after its first step
abbrev RestIsOnce : List Label → SoloState → List Reply → List ℕ → List ℕ → Type 0
RestIsOnce labels last replies accepted settled =
    (after : SoloState) → AreOnce (tickets after) after.least_ticket accepted settled → solo_run after labels ≡ Some (last, replies)
    → SettlesOnce accepted settled labels replies

-- a first step that tells no ticket
silent-once : (state : SoloState) (label : Label) (labels : List Label) (last : SoloState) (replies : List Reply) (accepted settled : List ℕ)
    → AreOnce (tickets state) state.least_ticket accepted settled
    → ((after : SoloState × Option Reply) → solo_step state label ≡ Some after → IsSilent state after)
    → RestIsOnce labels last replies accepted settled → solo_run state (label ∷ labels) ≡ Some (last, replies)
    → SettlesOnce accepted settled labels replies
silent-once state label labels last replies accepted settled once silent rest is =
    option_and_then_some (λ after. option_map (with_reply after.1) (solo_run after.0 labels)) (solo_step state label) (last, replies) is
    (λ after step run.
    let quiet : IsSilent state after = silent after step in
    rest after.0 (AreOnce-silent state after accepted settled once quiet) (silent-rest after labels last replies quiet.reply run))

-- one that gives a ticket out
given-once : (state : SoloState) (label : Label) (labels : List Label) (last : SoloState) (replies : List Reply) (accepted settled : List ℕ) (ticket : ℕ)
    → AreOnce (tickets state) state.least_ticket accepted settled
    → ((after : SoloState × Option Reply) → solo_step state label ≡ Some after → IsGivenOut state ticket after)
    → RestIsOnce labels last replies (accepted ++ ticket ∷ []) settled → solo_run state (label ∷ labels) ≡ Some (last, replies)
    → All (λ earlier. earlier < ticket) accepted × SettlesOnce (accepted ++ ticket ∷ []) settled labels replies
given-once state label labels last replies accepted settled ticket once gives rest is =
    option_and_then_some (λ after. option_map (with_reply after.1) (solo_run after.0 labels)) (solo_step state label) (last, replies) is
    (λ after step run.
    let given : IsGivenOut state ticket after = gives after step in (
      All-weaker (λ t. t < state.least_ticket) (λ t. t < ticket) (λ t below. omega (arith, given.least_before)) accepted once.accepted_below,
      rest after.0 (AreOnce-given state after ticket accepted settled once given) (silent-rest after labels last replies given.reply run),
    ))

pub run-once : (state : SoloState) (labels : List Label) (last : SoloState) (replies : List Reply) (accepted settled : List ℕ) →
    AreOnce (tickets state) state.least_ticket accepted settled → solo_run state labels ≡ Some (last, replies) → SettlesOnce accepted settled labels replies
run-once state [] last replies accepted settled once is = let none = some_pair_parts state last [] replies is in sym none.1
run-once state (Submit index ticket command ∷ labels) last replies accepted settled once is =
    given-once state (Submit index ticket command) labels last replies accepted settled ticket once (submit-given_out state index ticket command)
    (λ after now run. run-once after labels last replies (accepted ++ ticket ∷ []) settled now run) is
run-once state (Task ticket task ∷ labels) last replies accepted settled once is =
    given-once state (Task ticket task) labels last replies accepted settled ticket once (task-given_out state ticket task)
    (λ after now run. run-once after labels last replies (accepted ++ ticket ∷ []) settled now run) is
run-once state (Carry index ∷ labels) last replies accepted settled once is =
    silent-once state (Carry index) labels last replies accepted settled once (carry-silent state index)
    (λ after now run. run-once after labels last replies accepted settled now run) is
run-once state (Move index ∷ labels) last replies accepted settled once is =
    silent-once state (Move index) labels last replies accepted settled once (move-silent state index)
    (λ after now run. run-once after labels last replies accepted settled now run) is
run-once state (Send index ∷ labels) last replies accepted settled once is =
    silent-once state (Send index) labels last replies accepted settled once (send-silent state index)
    (λ after now run. run-once after labels last replies accepted settled now run) is
run-once state (Settle index ∷ labels) last replies accepted settled once is =
    option_and_then_some (λ after. option_map (with_reply after.1) (solo_run after.0 labels)) (solo_step state (Settle index)) (last, replies) is
    (λ after step rest.
    let told = settle-answered state index after step in
    let next = answered-rest after told.answer labels last replies told.reply rest in
    let now = AreOnce-answered state after accepted settled once told in
    let P : List Reply → Type 0 = SettlesOnce accepted settled (Settle index ∷ labels) in
    subst P (sym next.first) (
      once.owed told.slot (reply_ticket told.answer) told.held,
      run-once after.0 labels last next.rest accepted (settled ++ reply_ticket told.answer ∷ []) now next.run,
    ))

-- at first no slot has a ticket
none_held : (places slot ticket : ℕ) → held_at {T = ℕ} (replicate places None) slot ≡ Some ticket → ⊥
none_held zero slot ticket is = none-some ticket is
none_held (suc places) zero ticket is = none-some ticket is
none_held (suc places) (suc slot) ticket is = none_held places slot ticket is

AreOnce-new : (tags : ℕ) (unit : BlockMaps) → AreOnce (tickets (solo_opening tags unit)) 0 [] []
AreOnce-new tags unit = record {
  accepted_below = All-nil (λ t. t < 0);
  settled_below = All-nil (λ t. t < 0);
  owed = λ slot ticket is. absurd (none_held MOST_TAGS slot ticket is);
  apart = λ first second ticket at_first at_second. absurd (none_held MOST_TAGS first ticket at_first);
}

-- THE LAWS

pub solo-once : (tags : ℕ) (unit : BlockMaps) (labels : List Label) (last : SoloState) (replies : List Reply)
    → solo_run (solo_opening tags unit) labels ≡ Some (last, replies) →
    SettlesOnce [] [] labels replies
solo-once tags unit labels last replies is = run-once (solo_opening tags unit) labels last replies [] [] (AreOnce-new tags unit) is

pub replay-once : (tags : ℕ) (units : List BlockMaps) (steps : List Step) (client : ℕ) (unit : BlockMaps) → slice_get units client ≡ Some unit →
    SettlesOnce [] [] (own_labels tags client steps (replay tags units steps).1) (own_replies tags client (replay tags units steps).1)
replay-once tags units steps client unit is =
    solo-once tags unit (own_labels tags client steps (replay tags units steps).1) (own_state (replay tags units steps).0 client) (own_replies tags client (replay tags units steps).1)
    (replay-solo tags units steps client unit is)
