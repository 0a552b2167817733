-- One command alone on a bus is one alone on the solo machine. Cited by the law.
use Rattle.std.proofs.Common.{◌≡◌, ◌⊎◌, inl, inr, ℕ, true, false, cond, List, [], ◌∷◌, ◌++◌, Option, Some, None, option_map, arith, refl, ap, sym, subst, ◌∙◌}
use Rattle.std.specs.Prelude.{All, Contains, IfSome, option_to_list, slice_get}
use Rattle.std.proofs.lemmas.List.Elements.{All-append, All-contains, All-cons, All-head, All-nil, All-tail, All-weaker, Contains-append_right}
use Rattle.std.proofs.lemmas.Option.{none-some}
use Rattle.block_unit.specs.BlockMaps.{BlockMaps}
use Rattle.scsi_cmd.specs.declared.Command.{Command}
use Rattle.scsi_cmd.specs.declared.Op.{Op}
use Rattle.scsi_cmd.specs.declared.Op.TheVariants.{TestUnitReady, Inquiry, ReadCapacity, Read, Write, Sync, Read16, Write16, ReadCapacity16}
use Rattle.scsi_cmd.specs.declared.Reply.{Reply}
use Rattle.solo_model.specs.declared.Label.{Label}
use Rattle.solo_model.specs.declared.Label.TheVariants.{Submit as SubmitLabel, Task as TaskLabel, Carry as CarryLabel, Move as MoveLabel, Send as SendLabel, Settle as SettleLabel}
use Rattle.solo_model.specs.Solo.{SoloState, solo_run, opening as solo_opening}
use Rattle.shared_machine.specs.declared.Mark.{Mark}
use Rattle.shared_machine.specs.declared.Mark.TheVariants.{Submit as SubmitMark, Task as TaskMark, Carry, Move, Send, Settle, Quiet}
use Rattle.shared_machine.specs.declared.Outcome.{Outcome}
use Rattle.shared_machine.specs.declared.Step.{Step}
use Rattle.shared_machine.specs.declared.Step.TheVariants.{Submit, Task, CommandPipe, Data, Status, Engine, Event, Retire, Take}
use Rattle.shared_machine.specs.Part.{Part, take_act}
use Rattle.shared_machine.specs.Replay.{replayed}
use Rattle.shared_machine.specs.Shared.{Shared, due, idle, opening, routed, routed_to, shared_step}
use Rattle.shared_machine.specs.Drain.{drained}
use Rattle.shared_machine.proofs.Replays.{replayed_more}
use Rattle.isolation.specs.Isolation.{is_own, label_of, own_label, own_labels, own_replies, own_reply, own_state, renumbered, submit_label, task_label}
use Rattle.isolation.proofs.FirstBlocks.{replay-solo}
use Rattle.whole_commands.specs.Labels.{GoesOn, IsReading, KeepsBlocks}
use Rattle.whole_commands.specs.OnTheBus.{IsBusStep, OneReadAlone, OneWriteAlone, alone}
use Rattle.whole_commands.specs.Reads.{AreItsBlocks, IsTrueReply}
use Rattle.whole_commands.proofs.DrainSteps.{drain-own}
use Rattle.whole_commands.proofs.ReadRuns.{reads-true}
use Rattle.whole_commands.proofs.Tickets.{Contains-cases}
use Rattle.whole_commands.proofs.WriteRuns.{no-more, write-true}

-- THE CLIENT'S LABELS

-- a step that submits nothing
abbrev pub SubmitsNothing : Step → Type 0
SubmitsNothing (Submit client tag ticket command) = ⊥
SubmitsNothing (Task client ticket task) = ⊥
SubmitsNothing CommandPipe = Unit {0}
SubmitsNothing (Data tag) = Unit {0}
SubmitsNothing (Status tag) = Unit {0}
SubmitsNothing Engine = Unit {0}
SubmitsNothing Event = Unit {0}
SubmitsNothing (Retire pipe tag) = Unit {0}
SubmitsNothing (Take client) = Unit {0}

bus-step : (step : Step) → IsBusStep step → SubmitsNothing step
bus-step (Submit client tag ticket command) own = own
bus-step (Task client ticket task) own = own
bus-step CommandPipe own = tt
bus-step (Data tag) own = tt
bus-step (Status tag) own = tt
bus-step Engine own = tt
bus-step Event own = tt
bus-step (Retire pipe tag) own = tt
bus-step (Take client) own = tt

submit-goes : (index : ℕ) (step : Step) → SubmitsNothing step → IfSome (submit_label index step) GoesOn
submit-goes index (Submit client tag ticket command) none = absurd none
submit-goes index (Task client ticket task) none = absurd none
submit-goes index CommandPipe none = tt
submit-goes index (Data tag) none = tt
submit-goes index (Status tag) none = tt
submit-goes index Engine none = tt
submit-goes index Event none = tt
submit-goes index (Retire pipe tag) none = tt
submit-goes index (Take client) none = tt

task-goes : (tags : ℕ) (step : Step) → SubmitsNothing step → IfSome (task_label tags step) GoesOn
task-goes tags (Submit client tag ticket command) none = absurd none
task-goes tags (Task client ticket task) none = absurd none
task-goes tags CommandPipe none = tt
task-goes tags (Data tag) none = tt
task-goes tags (Status tag) none = tt
task-goes tags Engine none = tt
task-goes tags Event none = tt
task-goes tags (Retire pipe tag) none = tt
task-goes tags (Take client) none = tt

label-goes : (tags : ℕ) (mark : Mark) (step : Step) → SubmitsNothing step → IfSome (label_of tags mark step) GoesOn
label-goes tags (SubmitMark index) step none = submit-goes index step none
label-goes tags TaskMark step none = task-goes tags step none
label-goes tags (Carry index) step none = tt
label-goes tags (Move index) step none = tt
label-goes tags (Send index) step none = tt
label-goes tags (Settle index) step none = tt
label-goes tags Quiet step none = tt

own-goes : (tags client : ℕ) (step : Step) (outcome : Outcome) → SubmitsNothing step → IfSome (own_label tags client step outcome) GoesOn
own-goes tags client step outcome none = elim (is_own client outcome) as (λ b. IfSome (cond b (label_of tags outcome.mark step) None) GoesOn) [
  | true ↦ label-goes tags outcome.mark step none
  | false ↦ tt
]

listed-goes : (label : Option Label) → IfSome label GoesOn → All GoesOn (option_to_list label)
listed-goes None goes = All-nil GoesOn
listed-goes (Some label) goes = All-cons GoesOn label [] goes (All-nil GoesOn)

labels-go : (tags client : ℕ) (steps : List Step) (outcomes : List Outcome) → All SubmitsNothing steps → All GoesOn (own_labels tags client steps outcomes)
labels-go tags client [] outcomes none = All-nil GoesOn
labels-go tags client (step ∷ steps) [] none = All-nil GoesOn
labels-go tags client (step ∷ steps) (outcome ∷ outcomes) none =
    All-append GoesOn (option_to_list (own_label tags client step outcome)) (own_labels tags client steps outcomes)
    (listed-goes (own_label tags client step outcome) (own-goes tags client step outcome (All-head SubmitsNothing step steps none)))
    (labels-go tags client steps outcomes (All-tail SubmitsNothing step steps none))

-- of a submission the label is its own, or that of no submission
record IsSubmitted (ticket : ℕ) (command : Command) (label : Option Label) : Type 0 where
  index : ℕ
  is : label ≡ Some (SubmitLabel index ticket command)

first-label : (tags client owner tag ticket : ℕ) (command : Command) (outcome : Outcome) →
    IsSubmitted ticket command (own_label tags client (Submit owner tag ticket command) outcome)
    ⊎ IfSome (own_label tags client (Submit owner tag ticket command) outcome) GoesOn
first-label tags client owner tag ticket command outcome =
    elim (is_own client outcome) as (λ b. IsSubmitted ticket command (cond b (label_of tags outcome.mark (Submit owner tag ticket command)) None)
    ⊎ IfSome (cond b (label_of tags outcome.mark (Submit owner tag ticket command)) None) GoesOn) [
      | true ↦ by_mark outcome.mark
      | false ↦ inr tt
    ]
  where
    by_mark : (mark : Mark) → IsSubmitted ticket command (label_of tags mark (Submit owner tag ticket command))
        ⊎ IfSome (label_of tags mark (Submit owner tag ticket command)) GoesOn
    by_mark (SubmitMark index) = inl (record { index = index; is = refl })
    by_mark TaskMark = inr tt
    by_mark (Carry index) = inr tt
    by_mark (Move index) = inr tt
    by_mark (Send index) = inr tt
    by_mark (Settle index) = inr tt
    by_mark Quiet = inr tt

-- THE CLIENT'S REPLY

-- what a Take tells is the client's
routed-own : (tags : ℕ) (state : Shared) (found : Option Part) (reply : Reply) → (routed_to state 0 (take_act state.tags 0) found).1.reply ≡ Some reply →
    own_reply tags 0 (routed_to state 0 (take_act state.tags 0) found).1 ≡ Some (renumbered tags 0 reply)
routed-own tags state None reply is = absurd (none-some reply is)
routed-own tags state (Some part) reply is = ap (option_map (renumbered tags 0)) is

take-own : (tags : ℕ) (state : Shared) (reply : Reply) → (shared_step state (Take 0)).1.reply ≡ Some reply →
    own_reply tags 0 (shared_step state (Take 0)).1 ≡ Some (renumbered tags 0 reply)
take-own tags state reply = elim (due state (Take 0)) as (λ b. (cond {A = Shared × Outcome} b (routed state 0 (take_act state.tags 0)) (state, idle)).1.reply ≡ Some reply →
    own_reply tags 0 (cond {A = Shared × Outcome} b (routed state 0 (take_act state.tags 0)) (state, idle)).1 ≡ Some (renumbered tags 0 reply)) [
      | true ↦ routed-own tags state (slice_get state.parts 0) reply
      | false ↦ λ none. absurd (none-some reply none)
    ]

-- the last outcome's reply is among the client's
last-reply : (tags client : ℕ) (outcomes : List Outcome) (outcome : Outcome) (reply : Reply) → own_reply tags client outcome ≡ Some reply →
    Contains (own_replies tags client (outcomes ++ outcome ∷ [])) reply
last-reply tags client [] outcome reply is = subst (λ o. Contains (option_to_list o ++ []) reply) (sym is) (0, omega arith, refl)
last-reply tags client (first ∷ outcomes) outcome reply is =
    Contains-append_right (option_to_list (own_reply tags client first)) (own_replies tags client (outcomes ++ outcome ∷ [])) reply
    (last-reply tags client outcomes outcome reply is)

-- THE WHOLE RUN

-- a run of the solo machine of this command alone, that ends here with this reply
pub record IsRunAlone (tags : ℕ) (unit : BlockMaps) (ticket : ℕ) (command : Command) (last : SoloState) (reply : Reply) : Type 0 where
  pub index : ℕ
  pub rest : List Label
  pub goes : All GoesOn rest
  pub replies : List Reply
  pub run : solo_run (solo_opening tags unit) (SubmitLabel index ticket command ∷ rest) ≡ Some (last, replies)
  pub has : Contains replies reply

-- a run whose first label may be that of a submission
run-from : (tags : ℕ) (unit : BlockMaps) (ticket : ℕ) (command : Command) (last : SoloState) (reply : Reply) (label : Option Label) (rest : List Label) (replies : List Reply) →
    IsSubmitted ticket command label ⊎ IfSome label GoesOn → All GoesOn rest → solo_run (solo_opening tags unit) (option_to_list label ++ rest) ≡ Some (last, replies) →
    Contains replies reply → IsRunAlone tags unit ticket command last reply
run-from tags unit ticket command last reply label rest replies (inl first) goes is has = record {
  index = first.index;
  rest = rest;
  goes = goes;
  replies = replies;
  run = ap (λ o. solo_run (solo_opening tags unit) (option_to_list o ++ rest)) (sym first.is) ∙ is;
  has = has;
}
run-from tags unit ticket command last reply label rest replies (inr first) goes is has =
    let all = All-append GoesOn (option_to_list label) rest (listed-goes label first) goes in
    let nothing = no-more (solo_opening tags unit) last (option_to_list label ++ rest) replies refl all is in
    let none = subst (λ r. Contains r reply) nothing.1 has in
    absurd (omega (arith, none.1))

pub alone-runs : (tags : ℕ) (unit : BlockMaps) (tag ticket : ℕ) (command : Command) (limit : ℕ) (reply : Reply) → (alone tags unit tag ticket command limit).1.reply ≡ Some reply →
    IsRunAlone tags unit ticket command (own_state (alone tags unit tag ticket command limit).0 0) (renumbered tags 0 reply)
alone-runs tags unit tag ticket command limit reply is =
    let first = shared_step (opening tags (unit ∷ [])) (Submit 0 tag ticket command) in
    let takes = drain-own first.0 limit in
    let steps : List Step = takes.steps ++ Take 0 ∷ [] in
    let end = alone tags unit tag ticket command limit in
    let more : replayed first.0 steps ≡ (end.0, (replayed first.0 takes.steps).1 ++ end.1 ∷ []) =
    replayed_more first.0 takes.steps (Take 0)
    ∙ ap (λ s. ((shared_step s (Take 0)).0, (replayed first.0 takes.steps).1 ++ (shared_step s (Take 0)).1 ∷ [])) takes.run.state in
    let quiet : All SubmitsNothing steps =
    All-append SubmitsNothing takes.steps (Take 0 ∷ []) (All-weaker IsBusStep SubmitsNothing bus-step takes.steps takes.own)
    (All-cons SubmitsNothing (Take 0) [] tt (All-nil SubmitsNothing)) in
    let run = replay-solo tags (unit ∷ []) (Submit 0 tag ticket command ∷ steps) 0 unit refl in
    let told = last-reply tags 0 (first.1 ∷ (replayed first.0 takes.steps).1) end.1 (renumbered tags 0 reply)
    (take-own tags (drained first.0 limit).state reply is) in
    subst (λ (r : Shared × List Outcome). IsRunAlone tags unit ticket command (own_state r.0 0) (renumbered tags 0 reply)) more
    (run-from tags unit ticket command (own_state (replayed first.0 steps).0 0) (renumbered tags 0 reply)
    (own_label tags 0 (Submit 0 tag ticket command) first.1) (own_labels tags 0 steps (replayed first.0 steps).1) _
    (first-label tags 0 0 tag ticket command first.1) (labels-go tags 0 steps (replayed first.0 steps).1 quiet) run
    (subst (λ (r : Shared × List Outcome). Contains (own_replies tags 0 (first.1 ∷ r.1)) (renumbered tags 0 reply)) (sym more) told))

-- A READ AND A WRITE

-- no operation but one that changes no blocks reads any
read-or-not : (unit : BlockMaps) (op : Op) (buffer : List ℕ) → KeepsBlocks op ⊎ AreItsBlocks unit op buffer
read-or-not unit TestUnitReady buffer = inl tt
read-or-not unit (Inquiry allocation) buffer = inl tt
read-or-not unit ReadCapacity buffer = inl tt
read-or-not unit (Read lba count fua) buffer = inl tt
read-or-not unit (Write lba count fua) buffer = inr tt
read-or-not unit (Sync lba count) buffer = inr tt
read-or-not unit (Read16 lba count fua) buffer = inl tt
read-or-not unit (Write16 lba count fua) buffer = inr tt
read-or-not unit (ReadCapacity16 allocation) buffer = inl tt

goes-reading : (label : Label) → GoesOn label → IsReading label
goes-reading (SubmitLabel index ticket command) goes = absurd goes
goes-reading (TaskLabel ticket task) goes = goes
goes-reading (CarryLabel index) goes = tt
goes-reading (MoveLabel index) goes = tt
goes-reading (SendLabel index) goes = tt
goes-reading (SettleLabel index) goes = tt

-- a submission among these labels is the first
one-submitted : (index other ticket at : ℕ) (command given : Command) (rest : List Label) → All GoesOn rest →
    Contains (SubmitLabel index ticket command ∷ rest) (SubmitLabel other at given) → given ≡ command
one-submitted index other ticket at command given rest goes among = elim (Contains-cases _ _ rest among) [
  | inl same ↦ same-command same
  | inr later ↦ absurd (All-contains GoesOn rest _ goes later)
]
  where
    same-command : SubmitLabel index ticket command ≡ SubmitLabel other at given → given ≡ command
    same-command same = cc

pub read-alone : OneReadAlone
read-alone tags unit tag ticket command limit on at sense buffer sized is = elim (read-or-not unit command.op buffer) [
  | inr none ↦ none
  | inl keeps ↦
      let run = alone-runs tags unit tag ticket command limit _ is in
      let labels : List Label = SubmitLabel run.index ticket command ∷ run.rest in
      let reading : All IsReading labels =
      All-cons IsReading (SubmitLabel run.index ticket command) run.rest keeps (All-weaker GoesOn IsReading goes-reading run.rest run.goes) in
      let true_run = reads-true (solo_opening tags unit) _ labels run.replies sized refl reading run.run in
      let read = All-contains (IsTrueReply unit labels) run.replies _ true_run.told run.has refl in
      let given = read.submitted in
      subst (λ c. AreItsBlocks unit c.op buffer) (one-submitted run.index given.0 ticket at command given.1 run.rest run.goes given.2)
      (read.brought given.0 given.1 given.2)
]

pub write-alone : OneWriteAlone
write-alone tags unit tag ticket command limit on at sense buffer sized is =
    let run = alone-runs tags unit tag ticket command limit _ is in
    write-true (solo_opening tags unit) _ run.index ticket command run.rest run.replies _ at sense buffer sized refl run.goes run.run run.has
