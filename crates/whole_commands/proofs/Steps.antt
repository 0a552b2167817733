-- What a step of the solo machine did, where it is a step. Cited by ReadRuns and WriteRuns.
use Rattle.std.proofs.Common.{◌≡◌, ℕ, ◌+◌, ◌≤◌, Bool, List, ◌∷◌, ◌++◌, arith, Option, Some, None, option_map, option_and_then, refl, ap, sym, subst, ◌∙◌}
use Rattle.std.specs.Prelude.{length, is_some, option_to_list}
use Rattle.std.proofs.lemmas.Option.{none-some, same_Some, some_pair_parts, option_and_then_some}
use Rattle.std.proofs.lemmas.Grind.{common_steps}
use Rattle.block_unit.specs.BlockMaps.{BlockMaps}
use Rattle.scsi_cmd.specs.declared.Command.{Command}
use Rattle.scsi_cmd.specs.declared.Op.{Op}
use Rattle.scsi_cmd.specs.declared.Reply.{Reply}
use Rattle.scsi_cmd.specs.declared.Reply.TheVariants.{Status, Aborted}
use Rattle.scsi_cmd.specs.declared.Request.{Request}
use Rattle.scsi_cmd.specs.declared.Request.TheVariants.{Execute, Manage}
use Rattle.scsi_cmd.specs.declared.SubmitFault.{SubmitFault}
use Rattle.scsi_cmd.specs.Held.{held_under}
use Rattle.scsi_cmd.specs.Laws.{submit_fault-none}
use Rattle.scsi_cmd.specs.Op.{moved_bytes}
use Rattle.scsi_cmd.specs.Submission.{first_submit_fault}
use Rattle.solo_model.specs.declared.Label.{Label}
use Rattle.solo_model.specs.declared.Label.TheVariants.{Submit, Carry, Move, Send, Settle}
use Rattle.solo_model.specs.declared.Phase.{Phase}
use Rattle.solo_model.specs.declared.Phase.TheVariants.{Queued, Begun, Sent, Gone}
use Rattle.device_server.specs.declared.Answer.{Answer}
use Rattle.device_server.specs.Server.{sense_of, status_of}
use Rattle.solo_model.specs.declared.TaskAnswer.{TaskAnswer}
use Rattle.solo_model.specs.declared.TaskAnswer.TheVariants.{WithStatus, WithResponse}
use Rattle.solo_model.specs.declared.TaskProgress.TheVariants.{Moving, Ended}
use Rattle.solo_model.specs.TaggedTask.{TaggedTask, buffer_after, carried, carried_from, carried_request, finds, moved, moved_from, moved_request, progress_left}
use Rattle.solo_model.specs.TaggedTask.{aborted_by, answered_by, queued, reply_from, reply_of, sent, sent_from, unit_after}
use Rattle.solo_model.specs.Solo.{SoloState, carried_at, is_command_index, silently, solo_run, solo_step, submitted, with_reply, with_request_carried, with_task, without_task}

-- what was mapped
option_map_some : {A B P : Type 0} (f : A → B) (o : Option A) (y : B) → option_map f o ≡ Some y → ((x : A) → o ≡ Some x → f x ≡ y → P) → P
option_map_some f None y is go = absurd (none-some y is)
option_map_some f (Some x) y is go = go x refl (same_Some (f x) y is)

-- the parts of a step without a reply
silent : (state after : SoloState) (reply : Option Reply) → silently state ≡ (after, reply) → (after ≡ state) × (reply ≡ None)
silent state after reply is = let both = some_pair_parts state after None reply (ap Some is) in (sym both.0, sym both.1)

-- SUBMIT

pub record HasSubmitted (state : SoloState) (index ticket : ℕ) (command : Command) (after : SoloState) (reply : Option Reply) : Type 0 where
  pub whole : length command.buffer ≡ moved_bytes command.op
  pub in_turn : state.least_ticket ≤ ticket
  pub now : after ≡ record (with_task state index (state.unit, queued ticket command)) { least_ticket = ticket + 1 }
  pub told : reply ≡ None

-- without a fault the ticket isn't below the least
no_fault-least : (yours in_use : Bool) (least ticket : ℕ) (command : Command) → first_submit_fault yours in_use least ticket command ≡ None → least ≤ ticket
no_fault-least yours in_use least ticket command none = grind (arith, common_steps)

pub submit-is : (state : SoloState) (index ticket : ℕ) (command : Command) (after : SoloState) (reply : Option Reply) →
    solo_step state (Submit index ticket command) ≡ Some (after, reply) → HasSubmitted state index ticket command after reply
submit-is state index ticket command after reply is = by_fault _ refl is
  where
    by_fault : (fault : Option SubmitFault) →
        first_submit_fault (is_command_index state.tags index) (is_some (held_under state.tasks index)) state.least_ticket ticket command ≡ fault →
        submitted state index ticket command fault ≡ Some (after, reply) → HasSubmitted state index ticket command after reply
    by_fault None none is =
        let parts = silent _ after reply (same_Some _ _ is) in
        record {
          whole = submit_fault-none (is_command_index state.tags index) (is_some (held_under state.tasks index)) state.least_ticket ticket command (ap is_some none);
          in_turn = no_fault-least (is_command_index state.tags index) (is_some (held_under state.tasks index)) state.least_ticket ticket command none;
          now = parts.0;
          told = parts.1;
        }
    by_fault (Some fault) some is = absurd (none-some (after, reply) is)

-- CARRY

pub record HasCarried (state : SoloState) (index : ℕ) (after : SoloState) (reply : Option Reply) : Type 0 where
  pub task : TaggedTask
  pub held : held_under state.tasks index ≡ Some task
  pub queued : task.phase ≡ Queued
  pub now : after ≡ with_task (with_request_carried state task) index (carried_request state.unit (finds task.request state.tasks) task task.request)
  pub told : reply ≡ None

carried_from-is : (unit : BlockMaps) (found : Bool) (task : TaggedTask) (phase : Phase) (now : BlockMaps × TaggedTask) →
    carried_from unit found task phase ≡ Some now → (phase ≡ Queued) × (carried_request unit found task task.request ≡ now)
carried_from-is unit found task Queued now is = (refl, same_Some _ _ is)
carried_from-is unit found task (Begun progress) now is = absurd (none-some now is)
carried_from-is unit found task (Sent answer) now is = absurd (none-some now is)
carried_from-is unit found task Gone now is = absurd (none-some now is)

pub carry-is : (state : SoloState) (index : ℕ) (after : SoloState) (reply : Option Reply) → solo_step state (Carry index) ≡ Some (after, reply) →
    HasCarried state index after reply
carry-is state index after reply is =
    option_and_then_some (carried_at state index) (held_under state.tasks index) (after, reply) is (λ task held does.
    option_map_some _ (carried state.unit (finds task.request state.tasks) task) (after, reply) does (λ next was shows.
    let from = carried_from-is state.unit (finds task.request state.tasks) task task.phase next was in
    let parts = silent _ after reply shows in
    record {
      task = task;
      held = held;
      queued = from.0;
      now = parts.0 ∙ sym (ap (with_task (with_request_carried state task) index) from.1);
      told = parts.1;
    }))

-- MOVE

pub record HasMoved (state : SoloState) (index : ℕ) (after : SoloState) (reply : Option Reply) : Type 0 where
  pub task : TaggedTask
  pub held : held_under state.tasks index ≡ Some task
  pub op : Op
  pub asks : task.request ≡ Execute op
  pub chunk : ℕ
  pub moving : task.phase ≡ Begun (Moving chunk)
  pub now : after ≡ with_task state index (
    unit_after state.unit task.buffer chunk op,
    record task { buffer = buffer_after state.unit task.buffer chunk op; phase = Begun (progress_left state.unit chunk op) },
  )
  pub told : reply ≡ None

-- what a chunk of a task leaves
record IsMoved (unit : BlockMaps) (task : TaggedTask) (phase : Phase) (next : BlockMaps × TaggedTask) : Type 0 where
  op : Op
  asks : task.request ≡ Execute op
  chunk : ℕ
  moving : phase ≡ Begun (Moving chunk)
  is : (
    unit_after unit task.buffer chunk op,
    record task { buffer = buffer_after unit task.buffer chunk op; phase = Begun (progress_left unit chunk op) },
  ) ≡ next

moved_request-is : (unit : BlockMaps) (task : TaggedTask) (chunk : ℕ) (request : Request) (next : BlockMaps × TaggedTask) → task.request ≡ request →
    moved_request unit task chunk request ≡ Some next → IsMoved unit task (Begun (Moving chunk)) next
moved_request-is unit task chunk (Execute op) next asks is =
    record { op = op; asks = asks; chunk = chunk; moving = refl; is = same_Some _ _ is }
moved_request-is unit task chunk (Manage what noted) next asks is = absurd (none-some next is)

moved_from-is : (unit : BlockMaps) (task : TaggedTask) (phase : Phase) (next : BlockMaps × TaggedTask) →
    moved_from unit task phase ≡ Some next → IsMoved unit task phase next
moved_from-is unit task Queued next is = absurd (none-some next is)
moved_from-is unit task (Begun (Moving chunk)) next is = moved_request-is unit task chunk task.request next refl is
moved_from-is unit task (Begun (Ended answer)) next is = absurd (none-some next is)
moved_from-is unit task (Sent answer) next is = absurd (none-some next is)
moved_from-is unit task Gone next is = absurd (none-some next is)

pub move-is : (state : SoloState) (index : ℕ) (after : SoloState) (reply : Option Reply) → solo_step state (Move index) ≡ Some (after, reply) →
    HasMoved state index after reply
move-is state index after reply is =
    option_map_some _ (option_and_then (moved state.unit) (held_under state.tasks index)) (after, reply) is (λ next was shows.
    option_and_then_some (moved state.unit) (held_under state.tasks index) next was (λ task held does.
    let from = moved_from-is state.unit task task.phase next does in
    let parts = silent _ after reply shows in
    record {
      task = task;
      held = held;
      op = from.op;
      asks = from.asks;
      chunk = from.chunk;
      moving = from.moving;
      now = parts.0 ∙ sym (ap (with_task state index) from.is);
      told = parts.1;
    }))

-- SEND

pub record HasSent (state : SoloState) (index : ℕ) (after : SoloState) (reply : Option Reply) : Type 0 where
  pub task : TaggedTask
  pub held : held_under state.tasks index ≡ Some task
  pub answer : TaskAnswer
  pub ended : task.phase ≡ Begun (Ended answer)
  pub now : after ≡ with_task state index (state.unit, record task { phase = Sent answer })
  pub told : reply ≡ None

sent_from-is : (task : TaggedTask) (phase : Phase) (next : TaggedTask) → sent_from task phase ≡ Some next →
    (answer : TaskAnswer) × (phase ≡ Begun (Ended answer)) × (record task { phase = Sent answer } ≡ next)
sent_from-is task Queued next is = absurd (none-some next is)
sent_from-is task (Begun (Moving chunk)) next is = absurd (none-some next is)
sent_from-is task (Begun (Ended answer)) next is = (answer, refl, same_Some _ _ is)
sent_from-is task (Sent answer) next is = absurd (none-some next is)
sent_from-is task Gone next is = absurd (none-some next is)

pub send-is : (state : SoloState) (index : ℕ) (after : SoloState) (reply : Option Reply) → solo_step state (Send index) ≡ Some (after, reply) →
    HasSent state index after reply
send-is state index after reply is =
    option_map_some _ (option_and_then sent (held_under state.tasks index)) (after, reply) is (λ next was shows.
    option_and_then_some sent (held_under state.tasks index) next was (λ task held does.
    let from = sent_from-is task task.phase next does in
    let parts = silent _ after reply shows in
    record {
      task = task;
      held = held;
      answer = from.0;
      ended = from.1;
      now = parts.0 ∙ sym (ap (λ one. with_task state index (state.unit, one)) from.2);
      told = parts.1;
    }))

-- SETTLE

pub record HasSettled (state : SoloState) (index : ℕ) (after : SoloState) (reply : Option Reply) : Type 0 where
  pub task : TaggedTask
  pub held : held_under state.tasks index ≡ Some task
  pub given : Reply
  pub replies : reply_of index task ≡ Some given
  pub now : after ≡ without_task state index
  pub told : reply ≡ Some given

pub settle-is : (state : SoloState) (index : ℕ) (after : SoloState) (reply : Option Reply) → solo_step state (Settle index) ≡ Some (after, reply) →
    HasSettled state index after reply
settle-is state index after reply is =
    option_map_some _ (option_and_then (reply_of index) (held_under state.tasks index)) (after, reply) is (λ given was shows.
    option_and_then_some (reply_of index) (held_under state.tasks index) given was (λ task held does.
    let parts = some_pair_parts (without_task state index) after (Some given) reply (ap Some shows) in
    record { task = task; held = held; given = given; replies = does; now = sym parts.0; told = sym parts.1 }))

-- the reply of a command that was answered, or that is gone
pub reply-so : (P : Reply → Type 0) (tag : ℕ) (task : TaggedTask) (op : Op) (given : Reply) → task.request ≡ Execute op →
    ((answer : Answer) → task.phase ≡ Sent (WithStatus answer) → P (Status tag task.ticket (status_of answer) (record { items = sense_of answer }) task.buffer)) →
    P (Aborted tag task.ticket task.buffer) → reply_of tag task ≡ Some given → P given
reply-so P tag task op given asks status gone is = by_phase task.phase refl is
  where
    by_answer : (answer : TaskAnswer) (request : Request) → request ≡ Execute op → task.phase ≡ Sent answer →
        answered_by tag task.ticket task.buffer answer request ≡ Some given → P given
    by_answer (WithStatus answer) (Execute other) asked at told = subst P (same_Some _ _ told) (status answer at)
    by_answer (WithStatus answer) (Manage what noted) asked at told = absurd (none-some given told)
    by_answer (WithResponse code) (Execute other) asked at told = absurd (none-some given told)
    by_answer (WithResponse code) (Manage what noted) asked at told = absurd (let no : Manage what noted ≡ Execute op = asked in cc)

    by_phase : (phase : Phase) → task.phase ≡ phase → reply_from tag task phase ≡ Some given → P given
    by_phase Queued at told = absurd (none-some given told)
    by_phase (Begun progress) at told = absurd (none-some given told)
    by_phase (Sent answer) at told = by_answer answer task.request asks at told
    by_phase Gone at told = by_request task.request asks told
      where
        by_request : (request : Request) → request ≡ Execute op → aborted_by tag task.ticket task.buffer request ≡ Some given → P given
        by_request (Execute other) asked shows = subst P (same_Some _ _ shows) gone
        by_request (Manage what noted) asked shows = absurd (none-some given shows)

-- A RUN

-- a run of a label and more: the step, and then the rest
pub record HasRun (state : SoloState) (label : Label) (rest : List Label) (after : SoloState) (replies : List Reply) : Type 0 where
  pub middle : SoloState
  pub reply : Option Reply
  pub step : solo_step state label ≡ Some (middle, reply)
  pub later : List Reply
  pub run : solo_run middle rest ≡ Some (after, later)
  pub told : option_to_list reply ++ later ≡ replies

pub run-is : (state : SoloState) (label : Label) (rest : List Label) (after : SoloState) (replies : List Reply) →
    solo_run state (label ∷ rest) ≡ Some (after, replies) → HasRun state label rest after replies
run-is state label rest after replies is =
    option_and_then_some _ (solo_step state label) (after, replies) is (λ now step does.
    option_map_some (with_reply now.1) (solo_run now.0 rest) (after, replies) does (λ later run shows.
    by_reply now.0 now.1 later step run shows))
  where
    by_reply : (middle : SoloState) (reply : Option Reply) (later : SoloState × List Reply) → solo_step state label ≡ Some (middle, reply) →
        solo_run middle rest ≡ Some later → with_reply reply later ≡ (after, replies) → HasRun state label rest after replies
    by_reply middle None later step run shows =
        let parts = some_pair_parts later.0 after later.1 replies (ap Some shows) in
        record { middle = middle; reply = None; step = step; later = later.1; run = run ∙ ap (λ state. Some (state, later.1)) parts.0; told = parts.1 }
    by_reply middle (Some reply) later step run shows =
        let parts = some_pair_parts later.0 after (reply ∷ later.1) replies (ap Some shows) in
        record { middle = middle; reply = Some reply; step = step; later = later.1; run = run ∙ ap (λ state. Some (state, later.1)) parts.0; told = parts.1 }
