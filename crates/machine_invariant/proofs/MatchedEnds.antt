-- The ends of one entry: its submission, and its reply once it is ready: cited by MatchedSubmissions and MatchedSteps.
use Rattle.std.proofs.Common.{◌≡◌, ℕ, ◌+◌, ◌-◌, ◌/◌, ◌<◌, Bool, true, false, ◌&&◌, cond, List, Option, Some, None, refl, arith, ap, sym, ◌∙◌}
use Rattle.std.specs.Prelude.{◌==◌, nat_lt, is_some, not, length}
use Rattle.std.proofs.lemmas.Bool.{ltb-false, eqb-true, eqb-false, false≢true, and_parts}
use Rattle.std.proofs.lemmas.Option.{none-some}
use Rattle.uas_profile.specs.declared.Pipe.{Pipe}
use Rattle.uas_profile.specs.declared.Pipe.TheVariants.{Command as CommandPipe, Status, DataIn, DataOut}
use Rattle.scsi_cmd.specs.Request.{is_command}
use Rattle.scsi_cmd.specs.declared.Command.{Command}
use Rattle.scsi_cmd.specs.declared.SubmitFault.TheVariants.{InUse, BadLength, TooLong, OutOfTurn, NoSuchTask}
use Rattle.scsi_cmd.specs.declared.Op.{Op}
use Rattle.scsi_cmd.specs.Laws.{moved-short}
use Rattle.scsi_cmd.specs.Op.{moved_bytes}
use Rattle.scsi_cmd.specs.declared.Request.{Request}
use Rattle.scsi_cmd.specs.declared.Request.TheVariants.{Execute, Manage}
use Rattle.scsi_cmd.specs.Submission.{is_too_long, first_submit_fault, first_task_fault}
use Rattle.uas_profile.specs.declared.Direction.{Direction}
use Rattle.solo_model.specs.declared.TaskAnswer.{TaskAnswer}
use Rattle.solo_model.specs.declared.TaskAnswer.TheVariants.{WithStatus, WithResponse}
use Rattle.device_server.specs.Server.{sense_of, status_of}
use Rattle.solo_model.specs.declared.Phase.{Phase}
use Rattle.solo_model.specs.declared.Phase.TheVariants.{Queued, Begun, Sent, Gone}
use Rattle.solo_model.specs.TaggedTask.{TaggedTask, aborted_by, answered_by, reply_from, reply_of, response_number}
use Rattle.scsi_cmd.specs.declared.Reply.{Reply}
use Rattle.scsi_cmd.specs.declared.Reply.TheVariants.{Aborted, Status as StatusReply, Task as TaskReply}
use Rattle.scsi_cmd.specs.declared.Task.{Task}
use Rattle.uas_profile.specs.declared.TheConstants.{CHUNK_BYTES}
use Rattle.shared_machine.specs.Tests.{is_left_over, is_over, is_pending, is_seen}
use Rattle.uas_profile.specs.declared.TdState.{TdState}
use Rattle.uas_profile.specs.declared.TdState.TheVariants.{Pending, Seen, LeftOver, Retired}
use Rattle.shared_machine.specs.declared.Td.{Td}
use Rattle.shared_machine.specs.Td.{Entry, pushed, is_data_over, has_trb, is_awaited, is_ready, data_trbs}
use Rattle.shared_machine.specs.Td.{is_td_left_over, is_left_over_on, data_in_td, data_out_td, request_direction}
use Rattle.shared_machine.specs.Part.{data_td_for, new_entry, new_management}
use Rattle.shared_machine.specs.Soundness.{one_if, awaited_data}
use Rattle.machine_invariant.specs.Matched.{waiting_command, awaited_command, awaited_status, awaited_data_of, IsStatusTd, IsMovingTd, IsMatchedEntry, IsPhaseOf}
use Rattle.machine_invariant.proofs.MatchedTasks.{unawaited}
use Rattle.machine_invariant.proofs.MatchedTds.{in-either, out-either}
use Rattle.uas_profile.specs.Tags.{task_slot}

-- TAKE

pub over-pends : (state : TdState) → is_over state ≡ true → is_pending state ≡ false
over-pends Pending is = absurd (false≢true is)
over-pends Seen is = refl
over-pends LeftOver is = absurd (false≢true is)
over-pends Retired is = refl

pub seen-is : (state : TdState) → is_seen state ≡ true → state ≡ Seen
seen-is Seen is = refl
seen-is state is = absurd (false≢true is)

unpending-unawaited : (td : Td) (trbs : ℕ) → is_pending td.state ≡ false → one_if (is_awaited td trbs) ≡ 0
unpending-unawaited td trbs is = ap (λ b. one_if (b && (td.consumed == trbs))) is

pub over-data : (trbs : ℕ) (td : Option Td) → is_data_over td ≡ true → awaited_data trbs td ≡ 0
over-data trbs None is = refl
over-data trbs (Some td) is = unpending-unawaited td trbs (over-pends td.state is)

-- what is over isn't left over
over-left : (state : TdState) → is_over state ≡ true → is_left_over state ≡ false
over-left Pending is = refl
over-left Seen is = refl
over-left LeftOver is = absurd (false≢true is)
over-left Retired is = refl

over-left_data : (td : Option Td) → is_data_over td ≡ true → is_td_left_over td ≡ false
over-left_data None is = refl
over-left_data (Some td) is = over-left td.state is

pub over-left_in : (way : Direction) (td : Option Td) → is_td_left_over td ≡ false → is_td_left_over (data_in_td way td) ≡ false
over-left_in way td none = in-either (λ old new. is_td_left_over new ≡ false) way td td refl none

pub over-left_out : (way : Direction) (td : Option Td) → is_td_left_over td ≡ false → is_td_left_over (data_out_td way td) ≡ false
over-left_out way td none = out-either (λ old new. is_td_left_over new ≡ false) way td td refl none

-- no TD of an entry that is ready is left over
pub ready-left : (pipe : Pipe) (entry : Entry) → is_ready entry ≡ true → is_left_over_on pipe entry ≡ false
ready-left pipe entry ready =
    let first = and_parts (is_seen entry.command_td.state) (is_over entry.status_td.state && is_data_over entry.data_td) ready in
    let rest = and_parts (is_over entry.status_td.state) (is_data_over entry.data_td) first.1 in
    on pipe rest.0 (over-left_data entry.data_td rest.1)
  where
    on : (pipe : Pipe) → is_over entry.status_td.state ≡ true → is_td_left_over entry.data_td ≡ false → is_left_over_on pipe entry ≡ false
    on CommandPipe status none = refl
    on Status status none = over-left entry.status_td.state status
    on DataIn status none = over-left_in (request_direction entry.task.request) entry.data_td none
    on DataOut status none = over-left_out (request_direction entry.task.request) entry.data_td none

-- an answer that was handed over
pub record IsSentBy (phase : Phase) : Type 0 where
  pub answer : TaskAnswer
  pub is : phase ≡ Sent answer

pub pushed-over : (td : Td) → td ≡ pushed → is_over td.state ≡ true → ⊥
pushed-over td is over = false≢true (sym (ap (λ (t : Td). is_over t.state) is) ∙ over)

-- the device is done with it: its answer was handed over, or it is a command that a task management ended
abbrev pub IsDone : Request → Phase → Type 0
IsDone request Queued = ⊥
IsDone request (Begun progress) = ⊥
IsDone request (Sent answer) = IsPhaseOf request (Sent answer)
IsDone request Gone = is_command request ≡ true

gone-command : (request : Request) → IsPhaseOf request Gone → is_command request ≡ true
gone-command (Execute op) is = refl
gone-command (Manage what noted) is = absurd is

over-done : (request : Request) (phase : Phase) (td : Td) → IsPhaseOf request phase → IsStatusTd phase td → is_over td.state ≡ true → IsDone request phase
over-done request Queued td answers is over = absurd (pushed-over td is over)
over-done request (Begun progress) td answers is over = absurd (pushed-over td is over)
over-done request (Sent answer) td answers is over = answers
over-done request Gone td answers is over = gone-command request answers

-- so it has a reply
pub record HasReply (tag : ℕ) (task : TaggedTask) : Type 0 where
  pub reply : Reply
  pub is : reply_of tag task ≡ Some reply

pub done-reply : (tag : ℕ) (task : TaggedTask) → IsDone task.request task.phase → HasReply tag task
done-reply tag task done = from task.phase task.request refl refl done
  where
    gone : (request : Request) → task.phase ≡ Gone → task.request ≡ request → is_command request ≡ true → HasReply tag task
    gone (Execute op) at asks is = record {
      reply = Aborted tag task.ticket task.buffer;
      is = ap (λ phase. reply_from tag task phase) at ∙ ap (λ request. aborted_by tag task.ticket task.buffer request) asks;
    }
    gone (Manage what noted) at asks is = absurd (false≢true is)

    sent : (answer : TaskAnswer) (request : Request) → task.phase ≡ Sent answer → task.request ≡ request → IsPhaseOf request (Sent answer) → HasReply tag task
    sent (WithStatus answer) (Execute op) at asks is = record {
      reply = StatusReply tag task.ticket (status_of answer) (record { items = sense_of answer }) task.buffer;
      is = ap (λ phase. reply_from tag task phase) at ∙ ap (λ r. answered_by tag task.ticket task.buffer (WithStatus answer) r) asks;
    }
    sent (WithStatus answer) (Manage what noted) at asks is = absurd is
    sent (WithResponse code) (Execute op) at asks is = absurd is
    sent (WithResponse code) (Manage what noted) at asks is = record {
      reply = TaskReply tag task.ticket (response_number code);
      is = ap (λ phase. reply_from tag task phase) at ∙ ap (λ r. answered_by tag task.ticket task.buffer (WithResponse code) r) asks;
    }

    from : (phase : Phase) (request : Request) → task.phase ≡ phase → task.request ≡ request → IsDone request phase → HasReply tag task
    from Queued request at asks is = absurd is
    from (Begun progress) request at asks is = absurd is
    from (Sent answer) request at asks is = sent answer request at asks is
    from Gone request at asks is = gone request at asks is

-- an entry that waits for nothing more, and that the device is done with
pub record IsQuiet (entry : Entry) : Type 0 where
  pub messages : waiting_command (Some entry) ≡ 0
  pub carried : awaited_command (Some entry) ≡ 0
  pub moved : awaited_data_of (Some entry) ≡ 0
  pub sent : awaited_status (Some entry) ≡ 0
  pub done : IsDone entry.task.request entry.task.phase

pub ready-quiet : {tags : ℕ} (slot : ℕ) (entry : Entry) → is_ready entry ≡ true → IsMatchedEntry tags slot entry → IsQuiet entry
ready-quiet {tags} slot entry ready sound =
    let first : (is_seen entry.command_td.state ≡ true) × ((is_over entry.status_td.state && is_data_over entry.data_td) ≡ true) = and_parts
    (is_seen entry.command_td.state) _ ready in
    let rest : (is_over entry.status_td.state ≡ true) × (is_data_over entry.data_td ≡ true) = and_parts (is_over entry.status_td.state)
    (is_data_over entry.data_td) first.1 in
    let seen : entry.command_td.state ≡ Seen = seen-is entry.command_td.state first.0 in
    record {
      messages = ap (λ state. one_if (has_trb (record entry.command_td { state = state }) 1)) seen;
      carried = unpending-unawaited entry.command_td 1 (ap (λ state. is_pending state) seen);
      moved = over-data (data_trbs entry.task.request) entry.data_td rest.1;
      sent = unpending-unawaited entry.status_td 1 (over-pends entry.status_td.state rest.0);
      done = over-done entry.task.request entry.task.phase entry.status_td sound.answers sound.status rest.0;
    }

-- SUBMIT

-- a data TD is pushed where bytes are moved
submitted-chunks : (bytes : ℕ) → IsMovingTd ((bytes + (CHUNK_BYTES - 1)) / CHUNK_BYTES) 0 (data_td_for bytes)
submitted-chunks bytes =
    elim (bytes == 0) as (λ b. (bytes == 0) ≡ b → IsMovingTd ((bytes + (CHUNK_BYTES - 1)) / CHUNK_BYTES) 0 (cond b None (Some pushed))) [
      | true ↦ λ is. tt
      | false ↦ λ is. let apart : bytes ≡ 0 → ⊥ = eqb-false bytes 0 is in (refl, refl, omega arith)
    ] refl

submitted-moves : (bytes : ℕ) → is_some (data_td_for bytes) ≡ nat_lt 0 bytes
submitted-moves bytes =
    elim (bytes == 0) as (λ b. (bytes == 0) ≡ b → is_some (cond b (let none : Option Td = None in none) (Some pushed)) ≡ nat_lt 0 bytes) [
      | true ↦ λ is. rw (eqb-true bytes 0 is) refl
      | false ↦ λ is. let apart : bytes ≡ 0 → ⊥ = eqb-false bytes 0 is in
          elim (nat_lt 0 bytes) as (λ b. nat_lt 0 bytes ≡ b → true ≡ b) [
            | true ↦ λ less. refl
            | false ↦ λ less. absurd (omega (arith, ltb-false 0 bytes less))
          ] refl
    ] refl

-- a submission without a fault is for a free slot, and isn't too long
pub record IsUnfaulted (in_use : Bool) (op : Op) : Type 0 where
  pub free : in_use ≡ false
  pub short : is_too_long op ≡ false

unfaulted_if : (in_use misfits long late : Bool) (least : ℕ) (op : Op) → is_too_long op ≡ long →
    cond in_use (Some InUse) (cond misfits (Some BadLength) (cond long (Some TooLong) (cond late (Some (OutOfTurn least)) None))) ≡ None → IsUnfaulted in_use op
unfaulted_if true misfits long late least op is none = absurd (none-some InUse (sym none))
unfaulted_if false true long late least op is none = absurd (none-some BadLength (sym none))
unfaulted_if false false true late least op is none = absurd (none-some TooLong (sym none))
unfaulted_if false false false late least op is none = record { free = refl; short = is }

pub unfaulted : (in_use : Bool) (least ticket : ℕ) (command : Command) → first_submit_fault true in_use least ticket command ≡ None
    → IsUnfaulted in_use command.op
unfaulted in_use least ticket command none =
    unfaulted_if in_use (not (length command.buffer == moved_bytes command.op)) (is_too_long command.op) (nat_lt ticket least) least command.op refl none

-- the entry of a request that was just submitted
pub record IsSubmitted (tags : ℕ) (slot : ℕ) (entry : Entry) : Type 0 where
  pub messages : waiting_command (Some entry) ≡ 1
  pub carried : awaited_command (Some entry) ≡ 0
  pub moved : awaited_data_of (Some entry) ≡ 0
  pub sent : awaited_status (Some entry) ≡ 0
  pub ready : one_if (is_ready entry) ≡ 0
  pub sound : IsMatchedEntry tags slot entry

pub moving-unawaited : (trbs chunk : ℕ) (td : Option Td) → IsMovingTd trbs chunk td → awaited_data trbs td ≡ 0
moving-unawaited trbs chunk None is = refl
moving-unawaited trbs chunk (Some td) is = unawaited td trbs (λ same. omega (arith, is.1, is.2))

pub submit-stepped : {tags : ℕ} (slot ticket : ℕ) (command : Command) → slot < (task_slot tags) → is_too_long command.op ≡ false → IsSubmitted tags slot (new_entry ticket command)
submit-stepped {tags} slot ticket command within short =
    let chunks : IsMovingTd ((moved_bytes command.op + (CHUNK_BYTES - 1)) / CHUNK_BYTES) 0 (data_td_for (moved_bytes command.op)) = submitted-chunks (moved_bytes command.op) in
    record {
      messages = refl;
      carried = refl;
      moved = moving-unawaited ((moved_bytes command.op + (CHUNK_BYTES - 1)) / CHUNK_BYTES) 0 (data_td_for (moved_bytes command.op)) chunks;
      sent = refl;
      ready = refl;
      sound = record {
        asks = within;
        answers = tt;
        command = refl;
        status = refl;
        chunks = chunks;
        moves = submitted-moves (moved_bytes command.op);
        small = moved-short command.op short;
      };
    }

-- TASK MANAGEMENT

pub manage-stepped : {tags : ℕ} (ticket : ℕ) (task : Task) (noted : List ℕ) → IsSubmitted tags (task_slot tags) (new_management ticket task noted)
manage-stepped {tags} ticket task noted = record { messages = refl; carried = refl; moved = refl; sent = refl; ready = refl; sound = sound }
  where
    sound : IsMatchedEntry tags (task_slot tags) (new_management ticket task noted)
    sound = record { asks = refl; answers = tt; command = refl; status = refl; chunks = tt; moves = refl; small = omega arith }

-- one without a fault is for a free slot
task_unfaulted_if : (in_use late none_there : Bool) (least : ℕ) →
    cond in_use (Some InUse) (cond late (Some (OutOfTurn least)) (cond none_there (Some NoSuchTask) None)) ≡ None → in_use ≡ false
task_unfaulted_if true late none_there least none = absurd (none-some InUse (sym none))
task_unfaulted_if false late none_there least none = refl

pub task-unfaulted : (in_use : Bool) (least ticket : ℕ) (has_task : Bool) → first_task_fault true in_use least ticket has_task ≡ None → in_use ≡ false
task-unfaulted in_use least ticket has_task none = task_unfaulted_if in_use (nat_lt ticket least) (not has_task) least none
