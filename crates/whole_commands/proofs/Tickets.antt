-- Each ticket is of one command: a run submits under rising tickets. Cited by ReadRuns.
use Rattle.std.proofs.Common.{◌≡◌, ◌⊎◌, inl, inr, Option, ℕ, ◌+◌, ◌<◌, ◌≤◌, List, [], ◌∷◌, Some, arith, ap, sym, ◌∙◌}
use Rattle.std.specs.Prelude.{All, Contains}
use Rattle.std.proofs.lemmas.List.Elements.{All-head, All-tail, Contains-append_cases, Contains-push_cases}
use Rattle.scsi_cmd.specs.declared.Command.{Command}
use Rattle.scsi_cmd.specs.declared.Reply.{Reply}
use Rattle.solo_model.specs.declared.Label.{Label}
use Rattle.solo_model.specs.declared.Label.TheVariants.{Submit, Task, Carry, Move, Send, Settle}
use Rattle.solo_model.specs.Solo.{SoloState, solo_run, solo_step}
use Rattle.whole_commands.specs.Labels.{IsReading}
use Rattle.whole_commands.proofs.Steps.{carry-is, move-is, run-is, send-is, settle-is, submit-is}

-- an element is the first or among the rest
pub Contains-cases : {X : Type 0} (first x : X) (rest : List X) → Contains (first ∷ rest) x → (first ≡ x) ⊎ Contains rest x
Contains-cases {X} first x rest has = elim (Contains-append_cases (first ∷ []) rest x has) [
  | inr later ↦ inr later
  | inl here ↦ elim (Contains-push_cases {X = X} [] first x here) [
    | inl none ↦ absurd (omega (arith, none.1))
    | inr same ↦ inl same
  ]
]

-- the state after a label: a submission takes its ticket, and no other label one
record IsLater (state : SoloState) (label : Label) (next : ℕ) : Type 0 where
  later : state.least_ticket ≤ next
  taken : (index ticket : ℕ) (command : Command) → label ≡ Submit index ticket command → (state.least_ticket ≤ ticket) × (ticket < next)

later-is : (state : SoloState) (label : Label) (next : SoloState) (reply : Option Reply) → IsReading label → solo_step state label ≡ Some (next, reply) →
    IsLater state label next.least_ticket
later-is state (Submit index ticket command) next reply reading is =
    let has = submit-is state index ticket command next reply is in
    let now : next.least_ticket ≡ ticket + 1 = ap (λ s. s.least_ticket) has.now in
    record {
      later = omega (arith, now, has.in_turn);
      taken = λ i t c same. let here : ticket ≡ t = submit-parts index i ticket t command c same in (omega (arith, here, has.in_turn), omega (arith, here, now));
    }
  where
    submit-parts : (index other ticket second : ℕ) (command given : Command) → Submit index ticket command ≡ Submit other second given → ticket ≡ second
    submit-parts index other ticket second command given same = cc
later-is state (Task ticket task) next reply reading is = absurd reading
later-is state (Carry index) next reply reading is =
    let now : next.least_ticket ≡ state.least_ticket = ap (λ s. s.least_ticket) (carry-is state index next reply is).now in
    record { later = omega (arith, now); taken = λ i t c same. absurd (let no : Carry index ≡ Submit i t c = same in cc) }
later-is state (Move index) next reply reading is =
    let now : next.least_ticket ≡ state.least_ticket = ap (λ s. s.least_ticket) (move-is state index next reply is).now in
    record { later = omega (arith, now); taken = λ i t c same. absurd (let no : Move index ≡ Submit i t c = same in cc) }
later-is state (Send index) next reply reading is =
    let now : next.least_ticket ≡ state.least_ticket = ap (λ s. s.least_ticket) (send-is state index next reply is).now in
    record { later = omega (arith, now); taken = λ i t c same. absurd (let no : Send index ≡ Submit i t c = same in cc) }
later-is state (Settle index) next reply reading is =
    let now : next.least_ticket ≡ state.least_ticket = ap (λ s. s.least_ticket) (settle-is state index next reply is).now in
    record { later = omega (arith, now); taken = λ i t c same. absurd (let no : Settle index ≡ Submit i t c = same in cc) }

-- no ticket of a run is below the least at its start
tickets-above : (state after : SoloState) (labels : List Label) (replies : List Reply) → All IsReading labels → solo_run state labels ≡ Some (after, replies) →
    (index ticket : ℕ) (command : Command) → Contains labels (Submit index ticket command) → state.least_ticket ≤ ticket
tickets-above state after [] replies reading is index ticket command has = absurd (omega (arith, has.1))
tickets-above state after (label ∷ labels) replies reading is index ticket command has =
    let run = run-is state label labels after replies is in
    let step = later-is state label run.middle run.reply (All-head IsReading label labels reading) run.step in
    elim (Contains-cases label (Submit index ticket command) labels has) [
      | inl same ↦ (step.taken index ticket command same).0
      | inr later ↦
          let above = tickets-above run.middle after labels run.later (All-tail IsReading label labels reading) run.run index ticket command later in
          omega (arith, step.later, above)
    ]

-- two submissions of one ticket are one
abbrev pub AreOne : List Label → Type 0
AreOne labels = (index other ticket : ℕ) (command given : Command) → Contains labels (Submit index ticket command) →
    Contains labels (Submit other ticket given) → command ≡ given

pub tickets-one : (state after : SoloState) (labels : List Label) (replies : List Reply) → All IsReading labels → solo_run state labels ≡ Some (after, replies) →
    AreOne labels
tickets-one state after [] replies reading is = λ index other ticket command given has had. absurd (omega (arith, has.1))
tickets-one state after (label ∷ labels) replies reading is = λ index other ticket command given has had.
    let run = run-is state label labels after replies is in
    let rest = All-tail IsReading label labels reading in
    let step = later-is state label run.middle run.reply (All-head IsReading label labels reading) run.step in
    let above = tickets-above run.middle after labels run.later rest run.run in
    elim (Contains-cases label (Submit index ticket command) labels has) [
      | inl first ↦ elim (Contains-cases label (Submit other ticket given) labels had) [
        | inl second ↦ same-command index other ticket command given (sym first ∙ second)
        | inr later ↦ absurd (omega (arith, (step.taken index ticket command first).1, above other ticket given later))
      ]
      | inr early ↦ elim (Contains-cases label (Submit other ticket given) labels had) [
        | inl second ↦ absurd (omega (arith, (step.taken other ticket given second).1, above index ticket command early))
        | inr later ↦ tickets-one run.middle after labels run.later rest run.run index other ticket command given early later
      ]
    ]
  where
    same-command : (index other ticket : ℕ) (command given : Command) → Submit index ticket command ≡ Submit other ticket given → command ≡ given
    same-command index other ticket command given same = cc
