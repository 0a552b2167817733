-- Runs of reads: no block changes, and each GOOD brings its blocks. Cited by the law.
use Rattle.std.proofs.Common.{◌≡◌, ℕ, zero, suc, List, [], ◌∷◌, ◌++◌, Option, Some, None, arith, refl, sym, subst}
use Rattle.std.proofs.lemmas.Option.{none-some, some_pair_parts}
use Rattle.std.specs.Prelude.{All, Contains, IfSome, option_to_list, replicate}
use Rattle.std.proofs.lemmas.List.Elements.{All-cons, All-contains_itself, All-head, All-nil, All-tail}
use Rattle.block_unit.specs.BlockMaps.{BlockMaps}
use Rattle.block_unit.specs.Laws.{IsSized}
use Rattle.scsi_cmd.specs.declared.Command.{Command}
use Rattle.scsi_cmd.specs.declared.Op.{Op}
use Rattle.scsi_cmd.specs.declared.Reply.{Reply}
use Rattle.scsi_cmd.specs.declared.TheConstants.{GOOD}
use Rattle.scsi_cmd.specs.declared.Request.{Request}
use Rattle.scsi_cmd.specs.declared.Request.TheVariants.{Execute}
use Rattle.scsi_cmd.specs.Held.{AllHeld, held_under, with_held_under}
use Rattle.scsi_cmd.specs.Laws.{AllHeld-held, AllHeld-set}
use Rattle.scsi_cmd.specs.Work.{checked_work, reports_attention}
use Rattle.device_server.specs.declared.Answer.{Answer}
use Rattle.device_server.specs.declared.Answer.TheVariants.{Good, Check}
use Rattle.device_server.specs.Server.{begun, status_of}
use Rattle.solo_model.specs.declared.Label.{Label}
use Rattle.solo_model.specs.declared.Label.TheVariants.{Submit, Task, Carry, Move, Send, Settle}
use Rattle.solo_model.specs.declared.Phase.TheVariants.{Queued, Begun, Sent}
use Rattle.solo_model.specs.declared.TaskAnswer.TheVariants.{WithStatus}
use Rattle.solo_model.specs.declared.TaskProgress.TheVariants.{Moving}
use Rattle.solo_model.specs.TaggedTask.{TaggedTask, buffer_after, carried_request, finds, progress_left, reply_of}
use Rattle.solo_model.specs.Solo.{SoloState, after_request, solo_run, solo_step, with_task}
use Rattle.uas_profile.specs.declared.TheConstants.{MOST_TAGS}
use Rattle.whole_commands.specs.Labels.{IsReading, KeepsBlocks}
use Rattle.whole_commands.specs.Reads.{AreItsBlocks, GoodReadsGiveBlocks, IsTrueReply}
use Rattle.whole_commands.proofs.ReadOps.{IsChunkRead, IsReadAt, IsReadOn, IsSame, read-begins, read-chunk, read-good, read-queued, read-sent, same-attention}
use Rattle.whole_commands.proofs.Steps.{HasCarried, HasMoved, HasSent, HasSettled, HasSubmitted, carry-is, move-is, reply-so, run-is, send-is, settle-is, submit-is}
use Rattle.whole_commands.proofs.Tickets.{AreOne, tickets-one}

-- WHAT IS SO BETWEEN STEPS

-- a task is of a command of these labels, which changes no blocks
pub record IsReadTask (unit : BlockMaps) (labels : List Label) (task : TaggedTask) : Type 0 where
  pub index : ℕ
  pub command : Command
  pub among : Contains labels (Submit index task.ticket command)
  pub asks : task.request ≡ Execute command.op
  pub keeps : KeepsBlocks command.op
  pub at : IsReadAt unit command.op task.buffer task.phase

pub record AreReading (unit : BlockMaps) (labels : List Label) (now : BlockMaps) (tasks : List (Option TaggedTask)) : Type 0 where
  pub same : IsSame unit now
  pub tasks_so : AllHeld (IsReadTask unit labels) tasks

held-so : (P : TaggedTask → Type 0) (tasks : List (Option TaggedTask)) (index : ℕ) (task : TaggedTask) → AllHeld P tasks →
    held_under tasks index ≡ Some task → P task
held-so P tasks zero task all is = let no : None ≡ Some task = is in absurd (none-some task no)
held-so P tasks (suc slot) task all is = AllHeld-held P tasks slot task all is

with-so : (P : TaggedTask → Type 0) (tasks : List (Option TaggedTask)) (index : ℕ) (now : Option TaggedTask) → AllHeld P tasks → IfSome now P →
    AllHeld P (with_held_under tasks index now)
with-so P tasks zero now all so = all
with-so P tasks (suc slot) now all so = AllHeld-set P tasks slot now all so

-- no task at all
none-so : (P : TaggedTask → Type 0) (many : ℕ) → AllHeld P (replicate many None)
none-so P zero = tt
none-so P (suc many) = (tt, none-so P many)

-- THE STEPS

-- a state of reads
abbrev pub IsReadState : BlockMaps → List Label → SoloState → Type 0
IsReadState unit labels state = AreReading unit labels state.unit state.tasks

begins-at : (unit now : BlockMaps) (op : Op) (buffer : List ℕ) → IsSame unit now → KeepsBlocks op → IsReadAt unit op buffer Queued →
    IsReadOn unit op buffer (begun now (reports_attention op) (checked_work op now.count))
begins-at unit now op buffer same keeps at =
    subst (λ u. IsReadOn unit op buffer (begun u (reports_attention op) (checked_work op u.count))) (sym same)
    (read-begins unit now.attention op buffer keeps at (reports_attention op))

chunk-at : (unit now : BlockMaps) (op : Op) (chunk : ℕ) (buffer : List ℕ) → IsSized unit → IsSame unit now → KeepsBlocks op →
    IsReadAt unit op buffer (Begun (Moving chunk)) → IsChunkRead unit now op chunk buffer
chunk-at unit now op chunk buffer sized same keeps at =
    subst (λ u. IsChunkRead unit u op chunk buffer) (sym same) (read-chunk unit now.attention op chunk buffer sized keeps at)

-- what the step of a label leaves, and its reply
abbrev IsReadStep : BlockMaps → List Label → SoloState → Option Reply → Type 0
IsReadStep unit labels after reply = IsReadState unit labels after × IfSome reply (IsTrueReply unit labels)

silently-so : (unit : BlockMaps) (labels : List Label) (after now : SoloState) (reply : Option Reply) → after ≡ now → reply ≡ None →
    IsReadState unit labels now → IsReadStep unit labels after reply
silently-so unit labels after now reply is none so =
    (subst (IsReadState unit labels) (sym is) so, subst (λ r. IfSome r (IsTrueReply unit labels)) (sym none) tt)

submit-so : (unit : BlockMaps) (labels : List Label) (state : SoloState) (index ticket : ℕ) (command : Command) (after : SoloState) (reply : Option Reply) →
    IsReadState unit labels state → Contains labels (Submit index ticket command) → KeepsBlocks command.op → HasSubmitted state index ticket command after reply →
    IsReadStep unit labels after reply
submit-so unit labels state index ticket command after reply so among keeps has =
    silently-so unit labels after _ reply has.now has.told (record {
      same = so.same;
      tasks_so = with-so (IsReadTask unit labels) state.tasks index _ so.tasks_so (record {
        index = index;
        command = command;
        among = among;
        asks = refl;
        keeps = keeps;
        at = read-queued unit command.op command.buffer has.whole;
      });
    })

carry-so : (unit : BlockMaps) (labels : List Label) (state : SoloState) (index : ℕ) (after : SoloState) (reply : Option Reply) →
    IsReadState unit labels state → HasCarried state index after reply → IsReadStep unit labels after reply
carry-so unit labels state index after reply so has =
    let task = held-so (IsReadTask unit labels) state.tasks index has.task so.tasks_so has.held in
    let begins = begins-at unit state.unit task.command.op has.task.buffer so.same task.keeps
    (subst (IsReadAt unit task.command.op has.task.buffer) has.queued task.at) in
    let P : Request → Type 0 = λ request. IsReadState unit labels
    (with_task (record state { tasks = after_request request state.tasks }) index (carried_request state.unit (finds request state.tasks) has.task request)) in
    silently-so unit labels after _ reply has.now has.told (subst P (sym task.asks) (record {
      same = begins.0;
      tasks_so = with-so (IsReadTask unit labels) state.tasks index _ so.tasks_so (record {
        index = task.index;
        command = task.command;
        among = task.among;
        asks = task.asks;
        keeps = task.keeps;
        at = begins.1;
      });
    }))

move-so : (unit : BlockMaps) (labels : List Label) (state : SoloState) (index : ℕ) (after : SoloState) (reply : Option Reply) → IsSized unit →
    IsReadState unit labels state → HasMoved state index after reply → IsReadStep unit labels after reply
move-so unit labels state index after reply sized so has =
    let task = held-so (IsReadTask unit labels) state.tasks index has.task so.tasks_so has.held in
    let same_op : has.op ≡ task.command.op = one-op has.op task.command.op has.task.request has.asks task.asks in
    let at : IsReadAt unit has.op has.task.buffer (Begun (Moving has.chunk)) =
    subst (λ op. IsReadAt unit op has.task.buffer (Begun (Moving has.chunk))) (sym same_op)
    (subst (IsReadAt unit task.command.op has.task.buffer) has.moving task.at) in
    let chunk = chunk-at unit state.unit has.op has.chunk has.task.buffer sized so.same (subst KeepsBlocks (sym same_op) task.keeps) at in
    silently-so unit labels after _ reply has.now has.told (record {
      same = subst (IsSame unit) (sym chunk.0) so.same;
      tasks_so = with-so (IsReadTask unit labels) state.tasks index _ so.tasks_so (record {
        index = task.index;
        command = task.command;
        among = task.among;
        asks = task.asks;
        keeps = task.keeps;
        at = subst (λ op. IsReadAt unit op (buffer_after state.unit has.task.buffer has.chunk has.op) (Begun (progress_left state.unit has.chunk has.op))) same_op chunk.1;
      });
    })
  where
    one-op : (one other : Op) (request : Request) → request ≡ Execute one → request ≡ Execute other → one ≡ other
    one-op one other request first second = cc

send-so : (unit : BlockMaps) (labels : List Label) (state : SoloState) (index : ℕ) (after : SoloState) (reply : Option Reply) →
    IsReadState unit labels state → HasSent state index after reply → IsReadStep unit labels after reply
send-so unit labels state index after reply so has =
    let task = held-so (IsReadTask unit labels) state.tasks index has.task so.tasks_so has.held in
    let at = subst (IsReadAt unit task.command.op has.task.buffer) has.ended task.at in
    silently-so unit labels after _ reply has.now has.told (record {
      same = so.same;
      tasks_so = with-so (IsReadTask unit labels) state.tasks index _ so.tasks_so (record {
        index = task.index;
        command = task.command;
        among = task.among;
        asks = task.asks;
        keeps = task.keeps;
        at = read-sent unit task.command.op has.task.buffer has.answer at;
      });
    })

-- a GOOD is of a command of the labels, and so of each that is submitted under its ticket
reply-true : (unit : BlockMaps) (labels : List Label) (index : ℕ) (given : TaggedTask) (reply : Reply) → AreOne labels → IsReadTask unit labels given →
    reply_of index given ≡ Some reply → IsTrueReply unit labels reply
reply-true unit labels index given reply one task is =
    reply-so (IsTrueReply unit labels) index given task.command.op reply task.asks (λ answer at good.
    let sent = subst (IsReadAt unit task.command.op given.buffer) at task.at in
    record {
      submitted = (task.index, task.command, task.among);
      brought = λ other command among.
          subst (λ c. AreItsBlocks unit c.op given.buffer) (one task.index other given.ticket task.command command task.among among)
          (read-good unit task.command.op given.buffer (by_answer task.command.op answer good sent));
    }) tt is
  where
    by_answer : (op : Op) (answer : Answer) → status_of answer ≡ GOOD → IsReadAt unit op given.buffer (Sent (WithStatus answer)) →
        IsReadAt unit op given.buffer (Sent (WithStatus Good))
    by_answer op Good good at = at
    by_answer op (Check sense) good at = absurd (omega (arith, good))

settle-so : (unit : BlockMaps) (labels : List Label) (state : SoloState) (index : ℕ) (after : SoloState) (reply : Option Reply) → AreOne labels →
    IsReadState unit labels state → HasSettled state index after reply → IsReadStep unit labels after reply
settle-so unit labels state index after reply one so has =
    let task = held-so (IsReadTask unit labels) state.tasks index has.task so.tasks_so has.held in (
      subst (IsReadState unit labels) (sym has.now) (record {
        same = so.same;
        tasks_so = with-so (IsReadTask unit labels) state.tasks index None so.tasks_so tt;
      }),
      subst (λ r. IfSome r (IsTrueReply unit labels)) (sym has.told) (reply-true unit labels index has.task has.given one task has.replies),
    )

step-so : (unit : BlockMaps) (labels : List Label) (state : SoloState) (label : Label) (after : SoloState) (reply : Option Reply) →
    IsSized unit → AreOne labels → IsReadState unit labels state → Contains labels label → IsReading label → solo_step state label ≡ Some (after, reply) →
    IsReadStep unit labels after reply
step-so unit labels state (Submit index ticket command) after reply sized one so among reading is =
    submit-so unit labels state index ticket command after reply so among reading (submit-is state index ticket command after reply is)
step-so unit labels state (Task ticket task) after reply sized one so among reading is = absurd reading
step-so unit labels state (Carry index) after reply sized one so among reading is = carry-so unit labels state index after reply so (carry-is state index after reply is)
step-so unit labels state (Move index) after reply sized one so among reading is = move-so unit labels state index after reply sized so (move-is state index after reply is)
step-so unit labels state (Send index) after reply sized one so among reading is = send-so unit labels state index after reply so (send-is state index after reply is)
step-so unit labels state (Settle index) after reply sized one so among reading is =
    settle-so unit labels state index after reply one so (settle-is state index after reply is)

-- A WHOLE RUN

run-so : (unit : BlockMaps) (labels : List Label) (state after : SoloState) (rest : List Label) (replies : List Reply) → IsSized unit →
    AreOne labels → IsReadState unit labels state → All (Contains labels) rest → All IsReading rest → solo_run state rest ≡ Some (after, replies) →
    IsSame unit after.unit × All (IsTrueReply unit labels) replies
run-so unit labels state after [] replies sized one so among reading is =
    let parts = some_pair_parts state after [] replies is in
    (subst (λ s. IsSame unit s.unit) parts.0 so.same, subst (All (IsTrueReply unit labels)) parts.1 (All-nil (IsTrueReply unit labels)))
run-so unit labels state after (label ∷ rest) replies sized one so among reading is =
    let run = run-is state label rest after replies is in
    let step = step-so unit labels state label run.middle run.reply sized one so (All-head (Contains labels) label rest among)
    (All-head IsReading label rest reading) run.step in
    let later = run-so unit labels run.middle after rest run.later sized one step.0 (All-tail (Contains labels) label rest among)
    (All-tail IsReading label rest reading) run.run in
    (later.0, subst (All (IsTrueReply unit labels)) run.told (told run.reply run.later step.1 later.1))
  where
    told : (reply : Option Reply) (replies : List Reply) → IfSome reply (IsTrueReply unit labels) → All (IsTrueReply unit labels) replies →
        All (IsTrueReply unit labels) (option_to_list reply ++ replies)
    told None replies none rest = rest
    told (Some reply) replies first rest = All-cons (IsTrueReply unit labels) reply replies first rest

pub reads-true : GoodReadsGiveBlocks
reads-true before after labels replies sized none reading is =
    let one = tickets-one before after labels replies reading is in
    let so : IsReadState before.unit labels before = record {
      same = same-attention before.unit;
      tasks_so = subst (AllHeld (IsReadTask before.unit labels)) (sym none) (none-so (IsReadTask before.unit labels) MOST_TAGS);
    } in
    let run = run-so before.unit labels before after labels replies sized one so (All-contains_itself labels) reading is in
    record { same = run.0; told = run.1 }
