-- Steps that tell a client nothing, and submit nothing.
use Rattle.std.proofs.Common.{◌≡◌, ◌∙◌, ℕ, Bool, true, false, cond, List, [], Option, Some, None}
use Rattle.std.proofs.Common.{option_map, option_to_list, refl, ap, sym}
use Rattle.std.specs.Prelude.{◌||◌}
use Rattle.scsi_cmd.specs.declared.Reply.{Reply}
use Rattle.shared_machine.specs.declared.Step.{Step}
use Rattle.shared_machine.specs.declared.Step.TheVariants as step
use Rattle.shared_machine.specs.declared.Mark.{Mark}
use Rattle.shared_machine.specs.declared.Mark.TheVariants.{Submit as SubmitMark, Task as TaskMark, Carry, Move, Send, Settle, Quiet}
use Rattle.shared_machine.specs.declared.Outcome.{Outcome}
use Rattle.isolation.specs.Isolation.{renumbered, label_of, is_own, own_label, own_reply}
use Rattle.uas_replay.specs.Told.{taken}
use Rattle.uas_replay.specs.Headline.{deliveries_to}
use Rattle.uas_replay.proofs.Outcomes.{Untold, IsInner}
use Rattle.uas_replay.proofs.Goes.{is_to_host_by, shown_by, or-false}

pub untold_deliveries : (outcome : Outcome) → Untold outcome → [] ≡ deliveries_to outcome outcome.owner
untold_deliveries outcome untold = go outcome.owner
  where
    go : (owner : Option ℕ) → [] ≡ deliveries_to outcome owner
    go None = refl
    go (Some client) = rw (untold.reply, untold.refused) refl

pub unreplied : (tags client : ℕ) (outcome : Outcome) → outcome.reply ≡ None → own_reply tags client outcome ≡ None
unreplied tags client outcome none = go (is_own client outcome)
  where
    go : (b : Bool) → cond b (option_map (renumbered tags client) outcome.reply) None ≡ None
    go true = rw none refl
    go false = refl

pub unshown : (tags : ℕ) (brings_in : List (List Bool)) (client : ℕ) (outcome : Outcome) → outcome.reply ≡ None
    → [] ≡ option_to_list (option_map (shown_by brings_in client) (own_reply tags client outcome))
unshown tags brings_in client outcome none =
    ap (λ (r : Option Reply). option_to_list (option_map (shown_by brings_in client) r)) (sym (unreplied tags client outcome none))

-- the label of a step that is no submission of a command is of no command
abbrev pub IsNoSubmission : Step → Type 0
IsNoSubmission (step.Submit client tag ticket command) = ⊥
IsNoSubmission (step.Task client ticket task) = Unit {0}
IsNoSubmission step.CommandPipe = Unit {0}
IsNoSubmission (step.Data tag) = Unit {0}
IsNoSubmission (step.Status tag) = Unit {0}
IsNoSubmission step.Engine = Unit {0}
IsNoSubmission step.Event = Unit {0}
IsNoSubmission (step.Retire pipe tag) = Unit {0}
IsNoSubmission (step.Take client) = Unit {0}

pub mark_label : (tags ticket : ℕ) (mark : Mark) (taken : Step) → IsNoSubmission taken → is_to_host_by ticket (label_of tags mark taken) ≡ false
mark_label tags ticket (SubmitMark index) (step.Submit client tag given command) is = absurd is
mark_label tags ticket (SubmitMark index) (step.Task client given task) is = refl
mark_label tags ticket (SubmitMark index) step.CommandPipe is = refl
mark_label tags ticket (SubmitMark index) (step.Data tag) is = refl
mark_label tags ticket (SubmitMark index) (step.Status tag) is = refl
mark_label tags ticket (SubmitMark index) step.Engine is = refl
mark_label tags ticket (SubmitMark index) step.Event is = refl
mark_label tags ticket (SubmitMark index) (step.Retire pipe tag) is = refl
mark_label tags ticket (SubmitMark index) (step.Take client) is = refl
mark_label tags ticket TaskMark (step.Submit client tag given command) is = refl
mark_label tags ticket TaskMark (step.Task client given task) is = refl
mark_label tags ticket TaskMark step.CommandPipe is = refl
mark_label tags ticket TaskMark (step.Data tag) is = refl
mark_label tags ticket TaskMark (step.Status tag) is = refl
mark_label tags ticket TaskMark step.Engine is = refl
mark_label tags ticket TaskMark step.Event is = refl
mark_label tags ticket TaskMark (step.Retire pipe tag) is = refl
mark_label tags ticket TaskMark (step.Take client) is = refl
mark_label tags ticket (Carry index) taken is = refl
mark_label tags ticket (Move index) taken is = refl
mark_label tags ticket (Send index) taken is = refl
mark_label tags ticket (Settle index) taken is = refl
mark_label tags ticket Quiet taken is = refl

pub no_label : (tags client ticket : ℕ) (taken : Step) (outcome : Outcome) → IsNoSubmission taken → is_to_host_by ticket (own_label tags client taken outcome) ≡ false
no_label tags client ticket taken outcome is = go (is_own client outcome)
  where
    go : (b : Bool) → is_to_host_by ticket (cond b (label_of tags outcome.mark taken) None) ≡ false
    go true = mark_label tags ticket outcome.mark taken is
    go false = refl

pub inner_no_submission : (taken : Step) → IsInner taken → IsNoSubmission taken
inner_no_submission (step.Submit client tag ticket command) is = absurd is
inner_no_submission (step.Task client ticket task) is = absurd is
inner_no_submission step.CommandPipe is = tt
inner_no_submission (step.Data tag) is = tt
inner_no_submission (step.Status tag) is = tt
inner_no_submission step.Engine is = tt
inner_no_submission step.Event is = tt
inner_no_submission (step.Retire pipe tag) is = tt
inner_no_submission (step.Take client) is = tt

pub same_notes : (b : Bool) (tags client ticket : ℕ) (taken : Step) (outcome : Outcome) → IsNoSubmission taken
    → b ≡ (b || is_to_host_by ticket (own_label tags client taken outcome))
same_notes b tags client ticket taken outcome is = sym (or-false b) ∙ ap (λ (x : Bool). b || x) (sym (no_label tags client ticket taken outcome is))
