-- What is said, told and replayed of one list after another.
use Rattle.std.proofs.Common.{◌≡◌, ◌∙◌, ℕ, Bool, List, [], ◌∷◌, ◌++◌, Option, Some, None, option_map, option_to_list, refl, ap, sym, append_assoc, append-nil}
use Rattle.std.specs.Prelude.{option_and_then}
use Rattle.scsi_cmd.specs.declared.Reply.{Reply}
use Rattle.solo_model.specs.declared.Label.{Label}
use Rattle.solo_model.specs.Solo.{SoloState, solo_run, solo_step, with_reply}
use Rattle.shared_machine.specs.declared.Step.{Step}
use Rattle.shared_machine.specs.declared.Outcome.{Outcome}
use Rattle.shared_machine.specs.Shared.{Shared, shared_step}
use Rattle.shared_machine.specs.Replay.{replayed}
use Rattle.shared_machine.proofs.NumberOfTags.{kept-tags}
use Rattle.isolation.specs.Isolation.{own_label, own_labels}
use Rattle.uas_replay.specs.Headline.{Said, Delivery, line_of, text_of, deliveries_said, all_deliveries_said, deliveries_to, all_deliveries}
use Rattle.uas_replay.specs.Headline.{own_line, own_lines, shown, shown_then}
use Rattle.uas_replay.specs.Headline.{solo_lines}

-- THE REPLAY

pub replayed-state : (state : Shared) (steps more : List Step) → (replayed state (steps ++ more)).0 ≡ (replayed (replayed state steps).0 more).0
replayed-state state [] more = refl
replayed-state state (step ∷ steps) more = replayed-state (shared_step state step).0 steps more

pub replayed-outcomes : (state : Shared) (steps more : List Step)
    → (replayed state (steps ++ more)).1 ≡ (replayed state steps).1 ++ (replayed (replayed state steps).0 more).1
replayed-outcomes state [] more = refl
replayed-outcomes state (step ∷ steps) more =
    ap (λ (os : List Outcome). (shared_step state step).1 ∷ os) (replayed-outcomes (shared_step state step).0 steps more)

-- a replay keeps how many tags a client has
pub replayed-tags : (state : Shared) (steps : List Step) → (replayed state steps).0.tags ≡ state.tags
replayed-tags state [] = refl
replayed-tags state (step ∷ steps) = replayed-tags (shared_step state step).0 steps ∙ kept-tags state step

pub own_labels-append : (tags client : ℕ) (state : Shared) (steps more : List Step) (outcomes : List Outcome)
    → own_labels tags client (steps ++ more) ((replayed state steps).1 ++ outcomes)
    ≡ own_labels tags client steps (replayed state steps).1 ++ own_labels tags client more outcomes
own_labels-append tags client state [] more outcomes = refl
own_labels-append tags client state (step ∷ steps) more outcomes =
    let first : List Label = option_to_list (own_label tags client step (shared_step state step).1) in
    ap (λ (ls : List Label). first ++ ls) (own_labels-append tags client (shared_step state step).0 steps more outcomes)
    ∙ sym (append_assoc first (own_labels tags client steps (replayed (shared_step state step).0 steps).1) (own_labels tags client more outcomes))

-- WHAT IS SAID

pub text_of-append : (said more : List Said) → text_of (said ++ more) ≡ text_of said ++ text_of more
text_of-append [] more = refl
text_of-append (one ∷ said) more =
    ap (λ (t : List ℕ). line_of one ++ t) (text_of-append said more) ∙ sym (append_assoc (line_of one) (text_of said) (text_of more))

pub all_deliveries_said-append : (said more : List Said) → all_deliveries_said (said ++ more) ≡ all_deliveries_said said ++ all_deliveries_said more
all_deliveries_said-append [] more = refl
all_deliveries_said-append (one ∷ said) more =
    ap (λ (t : List Delivery). deliveries_said one ++ t) (all_deliveries_said-append said more)
    ∙ sym (append_assoc (deliveries_said one) (all_deliveries_said said) (all_deliveries_said more))

pub all_deliveries-append : (outcomes more : List Outcome) → all_deliveries (outcomes ++ more) ≡ all_deliveries outcomes ++ all_deliveries more
all_deliveries-append [] more = refl
all_deliveries-append (one ∷ outcomes) more =
    ap (λ (t : List Delivery). deliveries_to one one.owner ++ t) (all_deliveries-append outcomes more)
    ∙ sym (append_assoc (deliveries_to one one.owner) (all_deliveries outcomes) (all_deliveries more))

pub own_lines-append : (tags client : ℕ) (said more : List Said)
    → own_lines tags client (said ++ more) ≡ own_lines tags client said ++ own_lines tags client more
own_lines-append tags client [] more = refl
own_lines-append tags client (one ∷ said) more =
    ap (λ (t : List (Bool × Reply)). option_to_list (own_line tags client one) ++ t) (own_lines-append tags client said more)
    ∙ sym (append_assoc (option_to_list (own_line tags client one)) (own_lines tags client said) (own_lines tags client more))

-- THE SOLO MACHINE

with_reply-state : (reply : Option Reply) (after : SoloState × List Reply) → (with_reply reply after).0 ≡ after.0
with_reply-state None after = refl
with_reply-state (Some reply) after = refl

-- a run of a label and more is a step and a run
record StepsThenRuns (state : SoloState) (label : Label) (labels : List Label) (new : SoloState) : Type 0 where
  after : SoloState × Option Reply
  replies : List Reply
  step : solo_step state label ≡ Some after
  run : solo_run after.0 labels ≡ Some (new, replies)

steps_then_runs : (state : SoloState) (label : Label) (labels : List Label) (new : SoloState) (replies : List Reply)
    → solo_run state (label ∷ labels) ≡ Some (new, replies) → StepsThenRuns state label labels new
steps_then_runs state label labels new replies run = go (solo_step state label) refl run
  where
    inner : (after : SoloState × Option Reply) → solo_step state label ≡ Some after → (rest : Option (SoloState × List Reply))
        → solo_run after.0 labels ≡ rest → option_map (with_reply after.1) rest ≡ Some (new, replies) → StepsThenRuns state label labels new
    inner after step None is run = cc
    inner after step (Some end) is run =
        let whole : with_reply after.1 end ≡ (new, replies) = cc in
        let state_is : end.0 ≡ new = sym (with_reply-state after.1 end) ∙ ap (λ (e : SoloState × List Reply). e.0) whole in
        record { after = after; replies = end.1; step = step; run = is ∙ ap (λ (s : SoloState). Some (s, end.1)) state_is }

    go : (o : Option (SoloState × Option Reply)) → solo_step state label ≡ o
        → option_and_then (λ after. option_map (with_reply after.1) (solo_run after.0 labels)) o ≡ Some (new, replies) → StepsThenRuns state label labels new
    go None is run = cc
    go (Some after) is run = inner after is (solo_run after.0 labels) refl run

pub solo_lines-append : (state : SoloState) (before labels more : List Label) (new : SoloState) (replies : List Reply)
    → solo_run state labels ≡ Some (new, replies)
    → solo_lines state before (labels ++ more) ≡ solo_lines state before labels ++ solo_lines new (before ++ labels) more
solo_lines-append state before [] more new replies run =
    let whole : (state, []) ≡ (new, replies) = cc in
    let same : state ≡ new = ap (λ (p : SoloState × List Reply). p.0) whole in
    ap (λ (s : SoloState). solo_lines s before more) same ∙ ap (λ (b : List Label). solo_lines new b more) (sym (append-nil before))
solo_lines-append state before (label ∷ labels) more new replies run =
    let s = steps_then_runs state label labels new replies run in
    let rest = solo_lines-append s.after.0 (before ++ label ∷ []) labels more new s.replies s.run in
    let first : List (Bool × Reply) = option_to_list (option_map (shown before) s.after.1) in
    ap (shown_then (λ now. solo_lines now (before ++ label ∷ []) (labels ++ more)) before) s.step
    ∙ ap (λ (t : List (Bool × Reply)). first ++ t) rest
    ∙ sym (append_assoc first (solo_lines s.after.0 (before ++ label ∷ []) labels) (solo_lines new ((before ++ label ∷ []) ++ labels) more))
    ∙ ap (λ (b : List Label). (first ++ solo_lines s.after.0 (before ++ label ∷ []) labels) ++ solo_lines new b more) (append_assoc before (label ∷ []) labels)
    ∙ ap (λ (t : List (Bool × Reply)). t ++ solo_lines new (before ++ label ∷ labels) more)
    (sym (ap (shown_then (λ now. solo_lines now (before ++ label ∷ []) labels) before) s.step))
