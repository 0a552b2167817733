-- A run of one command alone: a WRITE that is GOOD wrote its bytes and nothing else. Cited by the law.
use Rattle.std.proofs.Common.{◌≡◌, ◌⊎◌, inl, inr, ℕ, List, [], ◌∷◌, ◌++◌, Option, Some, None, arith, refl, ap, sym, subst, ◌∙◌}
use Rattle.std.specs.Prelude.{All, Contains, IfSome, option_to_list, replicate}
use Rattle.std.proofs.lemmas.List.Elements.{All-head, All-tail}
use Rattle.std.proofs.lemmas.Option.{some_pair_parts}
use Rattle.arrayvec.specs.ArrayVec.{ArrayVec}
use Rattle.block_unit.specs.BlockMaps.{BlockMaps}
use Rattle.block_unit.specs.Laws.{IsSized}
use Rattle.scsi_cmd.specs.declared.Command.{Command}
use Rattle.scsi_cmd.specs.declared.Op.{Op}
use Rattle.scsi_cmd.specs.declared.Reply.{Reply}
use Rattle.scsi_cmd.specs.declared.Reply.TheVariants.{Status, Aborted}
use Rattle.scsi_cmd.specs.declared.TheConstants.{GOOD}
use Rattle.scsi_cmd.specs.declared.Request.{Request}
use Rattle.scsi_cmd.specs.declared.Request.TheVariants.{Execute}
use Rattle.scsi_cmd.specs.Held.{held_under, with_held_under}
use Rattle.device_server.specs.declared.Answer.{Answer}
use Rattle.device_server.specs.declared.Answer.TheVariants.{Good, Check}
use Rattle.device_server.specs.Server.{status_of}
use Rattle.solo_model.specs.declared.Label.{Label}
use Rattle.solo_model.specs.declared.Label.TheVariants.{Submit, Task, Carry, Move, Send, Settle}
use Rattle.solo_model.specs.declared.Phase.TheVariants.{Begun, Sent}
use Rattle.solo_model.specs.declared.TaskAnswer.TheVariants.{WithStatus}
use Rattle.solo_model.specs.TaggedTask.{TaggedTask, buffer_after, carried_request, finds, progress_left, queued, reply_of, unit_after}
use Rattle.solo_model.specs.Solo.{SoloState, after_request, solo_run, solo_step, with_task}
use Rattle.uas_profile.specs.declared.TheConstants.{MOST_TAGS}
use Rattle.whole_commands.specs.Labels.{GoesOn}
use Rattle.whole_commands.specs.Writes.{GoodWriteIsWritten, HasItsBytes}
use Rattle.whole_commands.proofs.Lone.{lone, lone-held, lone-none, lone-now, none-under}
use Rattle.whole_commands.proofs.Steps.{HasCarried, HasMoved, HasSent, HasSettled, carry-is, move-is, reply-so, run-is, send-is, settle-is, submit-is}
use Rattle.whole_commands.proofs.Tickets.{Contains-cases}
use Rattle.whole_commands.proofs.Writing.{IsWriteAt, write-begins, write-chunk, write-good_is, write-queued, write-sent}

-- WHAT IS SO BETWEEN STEPS

pub record IsWriteTask (unit : BlockMaps) (command : Command) (now : BlockMaps) (task : TaggedTask) : Type 0 where
  pub asks : task.request ≡ Execute command.op
  pub at : IsWriteAt unit now command.op command.buffer task.buffer task.phase

-- the command alone is under its index, or nothing is
pub record IsAlone (unit : BlockMaps) (command : Command) (index : ℕ) (now : BlockMaps) (tasks : List (Option TaggedTask)) : Type 0 where
  pub held : Option TaggedTask
  pub alone : tasks ≡ lone index held
  pub so : IfSome held (IsWriteTask unit command now)

abbrev pub IsAloneState : BlockMaps → Command → ℕ → SoloState → Type 0
IsAloneState unit command index state = IsAlone unit command index state.unit state.tasks

-- a task that is held is the command's, and its index this one
record IsIt (unit : BlockMaps) (command : Command) (index : ℕ) (now : BlockMaps) (other : ℕ) (task : TaggedTask) : Type 0 where
  here : other ≡ index
  is : IsWriteTask unit command now task

held-it : (unit : BlockMaps) (command : Command) (index : ℕ) (state : SoloState) (other : ℕ) (task : TaggedTask) → IsAloneState unit command index state →
    held_under state.tasks other ≡ Some task → IsIt unit command index state.unit other task
held-it unit command index state other task alone is =
    let both = lone-held index other alone.held task (subst (λ tasks. held_under tasks other ≡ Some task) alone.alone is) in
    record { here = both.0; is = subst (λ held. IfSome held (IsWriteTask unit command state.unit)) both.1 alone.so }

-- it is another task now
now-alone : (unit : BlockMaps) (command : Command) (index : ℕ) (state : SoloState) (other : ℕ) (now : BlockMaps) (task : TaggedTask) → IsAloneState unit command index state →
    other ≡ index → IsWriteTask unit command now task → IsAlone unit command index now (with_held_under state.tasks other (Some task))
now-alone unit command index state other now task alone here so = record {
  held = Some task;
  alone = ap (λ tasks. with_held_under tasks other (Some task)) alone.alone ∙ ap (λ at. with_held_under (lone index alone.held) at (Some task)) here
      ∙ lone-now index alone.held (Some task);
  so = so;
}

-- THE STEPS

carry-alone : (unit : BlockMaps) (command : Command) (index : ℕ) (state : SoloState) (other : ℕ) (after : SoloState) (reply : Option Reply) →
    IsSized unit → IsAloneState unit command index state → HasCarried state other after reply → IsAloneState unit command index after
carry-alone unit command index state other after reply sized alone has =
    let it = held-it unit command index state other has.task alone has.held in
    let at = write-begins unit state.unit command.op command.buffer has.task.buffer sized
    (subst (IsWriteAt unit state.unit command.op command.buffer has.task.buffer) has.queued it.is.at) in
    let P : Request → Type 0 = λ request. IsAloneState unit command index
    (with_task (record state { tasks = after_request request state.tasks }) other (carried_request state.unit (finds request state.tasks) has.task request)) in
    subst (IsAloneState unit command index) (sym has.now)
    (subst P (sym it.is.asks) (now-alone unit command index state other _ _ alone it.here (record { asks = it.is.asks; at = at })))

move-alone : (unit : BlockMaps) (command : Command) (index : ℕ) (state : SoloState) (other : ℕ) (after : SoloState) (reply : Option Reply) →
    IsSized unit → IsAloneState unit command index state → HasMoved state other after reply → IsAloneState unit command index after
move-alone unit command index state other after reply sized alone has =
    let it = held-it unit command index state other has.task alone has.held in
    let same_op : command.op ≡ has.op = one-op command.op has.op has.task.request it.is.asks has.asks in
    let at = write-chunk unit state.unit command.op has.chunk command.buffer has.task.buffer sized
    (subst (IsWriteAt unit state.unit command.op command.buffer has.task.buffer) has.moving it.is.at) in
    subst (IsAloneState unit command index) (sym has.now) (now-alone unit command index state other _ _ alone it.here (record {
      asks = it.is.asks;
      at = subst (λ op. IsWriteAt unit (unit_after state.unit has.task.buffer has.chunk op) command.op command.buffer
          (buffer_after state.unit has.task.buffer has.chunk op) (Begun (progress_left state.unit has.chunk op))) same_op at;
    }))
  where
    one-op : (one second : Op) (request : Request) → request ≡ Execute one → request ≡ Execute second → one ≡ second
    one-op one second request first last = cc

send-alone : (unit : BlockMaps) (command : Command) (index : ℕ) (state : SoloState) (other : ℕ) (after : SoloState) (reply : Option Reply) →
    IsAloneState unit command index state → HasSent state other after reply → IsAloneState unit command index after
send-alone unit command index state other after reply alone has =
    let it = held-it unit command index state other has.task alone has.held in
    let at = write-sent unit state.unit command.op command.buffer has.task.buffer has.answer
    (subst (IsWriteAt unit state.unit command.op command.buffer has.task.buffer) has.ended it.is.at) in
    subst (IsAloneState unit command index) (sym has.now)
    (now-alone unit command index state other state.unit _ alone it.here (record { asks = it.is.asks; at = at }))

-- nothing is left once it is settled
settle-alone : (unit : BlockMaps) (command : Command) (index : ℕ) (state : SoloState) (other : ℕ) (after : SoloState) (reply : Option Reply) →
    IsAloneState unit command index state → HasSettled state other after reply → after.tasks ≡ replicate MOST_TAGS None
settle-alone unit command index state other after reply alone has =
    let it = held-it unit command index state other has.task alone has.held in
    ap (λ s. s.tasks) has.now ∙ ap (λ tasks. with_held_under tasks other None) alone.alone
    ∙ ap (λ at. with_held_under (lone index alone.held) at None) it.here ∙ lone-now index alone.held None ∙ lone-none index

-- a GOOD is the command's, and it has written
abbrev IsWrittenBy : BlockMaps → Command → BlockMaps → ℕ → ℕ → ArrayVec ℕ → List ℕ → Reply → Type 0
IsWrittenBy unit command now tag ticket sense buffer reply =
    reply ≡ Status tag ticket GOOD sense buffer → HasItsBytes unit command.op command.buffer now

settle-good : (unit : BlockMaps) (command : Command) (index : ℕ) (state : SoloState) (other : ℕ) (task : TaggedTask) (reply : Reply) →
    (tag ticket : ℕ) (sense : ArrayVec ℕ) (buffer : List ℕ) → IsWriteTask unit command state.unit task → reply_of other task ≡ Some reply →
    IsWrittenBy unit command state.unit tag ticket sense buffer reply
settle-good unit command index state other task reply tag ticket sense buffer it is =
    reply-so (IsWrittenBy unit command state.unit tag ticket sense buffer) other task command.op reply it.asks
    (λ answer at same. write-good_is unit state.unit command.op command.buffer task.buffer
    (by_answer answer (status-same _ _ _ _ _ same) (subst (IsWriteAt unit state.unit command.op command.buffer task.buffer) at it.at)))
    (λ same. absurd (let no : Aborted other task.ticket task.buffer ≡ Status tag ticket GOOD sense buffer = same in cc)) is
  where
    status-same : (tag ticket status : ℕ) (sense : ArrayVec ℕ) (buffer : List ℕ) {second third fifth : ℕ} {fourth : ArrayVec ℕ} {sixth : List ℕ} →
        Status tag ticket status sense buffer ≡ Status second third fifth fourth sixth → status ≡ fifth
    status-same tag ticket status sense buffer same = cc

    by_answer : (answer : Answer) → status_of answer ≡ GOOD → IsWriteAt unit state.unit command.op command.buffer task.buffer (Sent (WithStatus answer)) →
        IsWriteAt unit state.unit command.op command.buffer task.buffer (Sent (WithStatus Good))
    by_answer Good good at = at
    by_answer (Check checked) good at = absurd (omega (arith, good))

-- A WHOLE RUN

-- without a task nothing goes on
pub no-more : (state after : SoloState) (labels : List Label) (replies : List Reply) → state.tasks ≡ replicate MOST_TAGS None → All GoesOn labels →
    solo_run state labels ≡ Some (after, replies) → (after ≡ state) × (replies ≡ [])
no-more state after [] replies none goes is = let parts = some_pair_parts state after [] replies is in (sym parts.0, sym parts.1)
no-more state after (label ∷ rest) replies none goes is =
    let run = run-is state label rest after replies is in
    absurd (no-step label run.middle run.reply (All-head GoesOn label rest goes) run.step)
  where
    no-step : (label : Label) (next : SoloState) (reply : Option Reply) → GoesOn label → solo_step state label ≡ Some (next, reply) → ⊥
    no-step (Submit index ticket command) next reply goes is = goes
    no-step (Task ticket task) next reply goes is = goes
    no-step (Carry index) next reply goes is = let has = carry-is state index next reply is in none-under state.tasks index has.task none has.held
    no-step (Move index) next reply goes is = let has = move-is state index next reply is in none-under state.tasks index has.task none has.held
    no-step (Send index) next reply goes is = let has = send-is state index next reply is in none-under state.tasks index has.task none has.held
    no-step (Settle index) next reply goes is = let has = settle-is state index next reply is in none-under state.tasks index has.task none has.held

-- what the step of a label leaves: the command alone and no reply, or its reply and nothing
record GoesAlone (unit : BlockMaps) (command : Command) (index : ℕ) (after : SoloState) (reply : Option Reply) : Type 0 where
  alone : IsAloneState unit command index after
  told : reply ≡ None

record EndsAlone (unit : BlockMaps) (command : Command) (after : SoloState) (reply : Option Reply) : Type 0 where
  given : Reply
  told : reply ≡ Some given
  none : after.tasks ≡ replicate MOST_TAGS None
  good : (tag ticket : ℕ) (sense : ArrayVec ℕ) (buffer : List ℕ) → IsWrittenBy unit command after.unit tag ticket sense buffer given

step-alone : (unit : BlockMaps) (command : Command) (index : ℕ) (state : SoloState) (label : Label) (after : SoloState) (reply : Option Reply) →
    IsSized unit → IsAloneState unit command index state → GoesOn label → solo_step state label ≡ Some (after, reply) →
    GoesAlone unit command index after reply ⊎ EndsAlone unit command after reply
step-alone unit command index state (Submit other ticket second) after reply sized alone goes is = absurd goes
step-alone unit command index state (Task ticket task) after reply sized alone goes is = absurd goes
step-alone unit command index state (Carry other) after reply sized alone goes is =
    let has = carry-is state other after reply is in inl (record { alone = carry-alone unit command index state other after reply sized alone has; told = has.told })
step-alone unit command index state (Move other) after reply sized alone goes is =
    let has = move-is state other after reply is in inl (record { alone = move-alone unit command index state other after reply sized alone has; told = has.told })
step-alone unit command index state (Send other) after reply sized alone goes is =
    let has = send-is state other after reply is in inl (record { alone = send-alone unit command index state other after reply alone has; told = has.told })
step-alone unit command index state (Settle other) after reply sized alone goes is =
    let has = settle-is state other after reply is in
    let it = held-it unit command index state other has.task alone has.held in
    inr (record {
      given = has.given;
      told = has.told;
      none = settle-alone unit command index state other after reply alone has;
      good = λ tag ticket sense buffer. subst (λ s. IsWrittenBy unit command s.unit tag ticket sense buffer has.given) (sym has.now)
          (settle-good unit command index state other has.task has.given tag ticket sense buffer it.is has.replies);
    })

run-alone : (unit : BlockMaps) (command : Command) (index : ℕ) (state after : SoloState) (labels : List Label) (replies : List Reply) →
    (tag ticket : ℕ) (sense : ArrayVec ℕ) (buffer : List ℕ) → IsSized unit → IsAloneState unit command index state → All GoesOn labels →
    solo_run state labels ≡ Some (after, replies) → Contains replies (Status tag ticket GOOD sense buffer) →
    HasItsBytes unit command.op command.buffer after.unit
run-alone unit command index state after [] replies tag ticket sense buffer sized alone goes is has =
    let none = subst (λ r. Contains r (Status tag ticket GOOD sense buffer)) (sym (some_pair_parts state after [] replies is).1) has in
    absurd (omega (arith, none.1))
run-alone unit command index state after (label ∷ rest) replies tag ticket sense buffer sized alone goes is has =
    let run = run-is state label rest after replies is in
    let more = All-tail GoesOn label rest goes in
    let there = subst (λ r. Contains r (Status tag ticket GOOD sense buffer)) (sym run.told) has in
    elim (step-alone unit command index state label run.middle run.reply sized alone (All-head GoesOn label rest goes) run.step) [
      | inl on ↦ run-alone unit command index run.middle after rest run.later tag ticket sense buffer sized on.alone more run.run
          (subst (λ r. Contains (option_to_list r ++ run.later) (Status tag ticket GOOD sense buffer)) on.told there)
      | inr end ↦
          let last = no-more run.middle after rest run.later end.none more run.run in
          let only = subst (λ r. Contains (option_to_list r ++ run.later) (Status tag ticket GOOD sense buffer)) end.told there in
          subst (λ s. HasItsBytes unit command.op command.buffer s.unit) (sym last.0) (end.good tag ticket sense buffer
          (the-one end.given (Status tag ticket GOOD sense buffer) (subst (λ r. Contains (end.given ∷ r) (Status tag ticket GOOD sense buffer)) last.1 only)))
    ]
  where
    the-one : (given reply : Reply) → Contains (given ∷ []) reply → given ≡ reply
    the-one given reply in_one = elim (Contains-cases given reply [] in_one) [
      | inl same ↦ same
      | inr none ↦ absurd (omega (arith, none.1))
    ]

pub write-true : GoodWriteIsWritten
write-true before after index ticket command rest replies tag told sense buffer sized none goes is has =
    let run = run-is before (Submit index ticket command) rest after replies is in
    let first = submit-is before index ticket command run.middle run.reply run.step in
    let alone : IsAloneState before.unit command index run.middle = subst (IsAloneState before.unit command index) (sym first.now) (record {
      held = Some (queued ticket command);
      alone = ap (λ tasks. with_held_under tasks index (Some (queued ticket command))) none;
      so = record { asks = refl; at = write-queued before.unit command.op command.buffer first.whole };
    }) in
    run-alone before.unit command index run.middle after rest run.later tag told sense buffer sized alone goes run.run
    (subst (λ r. Contains (option_to_list r ++ run.later) (Status tag told GOOD sense buffer)) first.told
    (subst (λ r. Contains r (Status tag told GOOD sense buffer)) (sym run.told) has))
