-- A run of a script goes on by steps of the bus, and says what they tell.
use Rattle.std.proofs.Common.{◌≡◌, ◌∙◌, ℕ, Bool, true, false, List, [], ◌∷◌, ◌++◌, length, Option, Some, None, option_map, option_to_list, refl, ap}
use Rattle.std.proofs.Common.{ap₂, sym, append_assoc}
use Rattle.std.proofs.lemmas.List.{append-nil}
use Rattle.std.specs.Prelude.{◌||◌, slice_get, option_and_then}
use Rattle.scsi_cmd.specs.declared.Reply.{Reply}
use Rattle.solo_model.specs.declared.Label.{Label}
use Rattle.solo_model.specs.Solo.{SoloState, solo_run, solo_step, with_reply}
use Rattle.tag_range.specs.Tags.{CountedTags}
use Rattle.shared_machine.specs.declared.Step.{Step}
use Rattle.shared_machine.specs.declared.Outcome.{Outcome}
use Rattle.shared_machine.specs.Shared.{Shared, shared_step}
use Rattle.shared_machine.specs.Replay.{replayed}
use Rattle.isolation.specs.Laws.{HeadlineHolds}
use Rattle.isolation.specs.Isolation.{own_label, own_labels, own_reply, own_replies, own_state}
use Rattle.uas_replay.specs.Told.{Telling, is_brought_in}
use Rattle.scsi_cmd.specs.Replies.{reply_ticket}
use Rattle.uas_replay.specs.Headline.{Said, Delivery, line_of, text_of, deliveries_said, all_deliveries_said, deliveries_to, all_deliveries}
use Rattle.uas_replay.specs.Headline.{own_line, own_lines, is_to_host_under}
use Rattle.uas_replay.specs.Headline.{has_to_host, shown, shown_then, solo_lines}
use Rattle.uas_replay.proofs.Appended.{replayed-tags, replayed-state, replayed-outcomes, own_labels-append, text_of-append, all_deliveries_said-append, all_deliveries-append}
use Rattle.uas_replay.proofs.Appended.{own_lines-append, solo_lines-append}

-- WHAT IS NOTED

-- so many tickets are noted of a client as it was given
abbrev pub IsNotedOf : Option CountedTags → Option (List Bool) → Type 0
IsNotedOf None noted = Unit {0}
IsNotedOf (Some tags) None = ⊥
IsNotedOf (Some tags) (Some noted) = length noted ≡ tags.held.next

abbrev pub IsNoted : Telling → Type 0
IsNoted run = (client : ℕ) → IsNotedOf (slice_get run.ranges client) (slice_get run.brings_in client)

-- what is noted of a client's tickets is what these labels say
abbrev pub Knows : ℕ → List Label → Telling → Type 0
Knows client labels run = (ticket : ℕ) → is_brought_in run.brings_in client ticket ≡ has_to_host ticket labels

-- the labels of a client in a run of these steps
abbrev pub labels_in : Shared → List Step → ℕ → List Label
labels_in state steps client = own_labels state.tags client steps (replayed state steps).1

-- A run goes on: these steps, and this is said of them.
pub record Goes (old new : Telling) : Type 0 where
  pub steps : List Step
  pub said : List Said
  pub machine : (replayed old.machine steps).0 ≡ new.machine
  pub text : new.text ≡ old.text ++ text_of said
  pub deliveries : all_deliveries_said said ≡ all_deliveries (replayed old.machine steps).1
  pub noted : IsNoted old → IsNoted new
  pub own : IsNoted old → (client : ℕ) (before : List Label) → Knows client before old
      → (own_lines old.machine.tags client said ≡ solo_lines (own_state old.machine client) before (labels_in old.machine steps client))
      × Knows client (before ++ labels_in old.machine steps client) new

-- nothing is done and nothing said
pub goes_nowhere : (run : Telling) → Goes run run
goes_nowhere run = record {
  steps = [];
  said = [];
  machine = refl;
  text = sym (append-nil run.text);
  deliveries = refl;
  noted = λ is. is;
  own = λ is client before knows. (refl, λ ticket. knows ticket ∙ ap (has_to_host ticket) (sym (append-nil before)));
}

labels_in-append : (state middle : Shared) (steps more : List Step) (client : ℕ) → (replayed state steps).0 ≡ middle
    → labels_in state (steps ++ more) client ≡ labels_in state steps client ++ labels_in middle more client
labels_in-append state middle steps more client is =
    ap (own_labels state.tags client (steps ++ more)) (replayed-outcomes state steps more)
    ∙ own_labels-append state.tags client state steps more (replayed (replayed state steps).0 more).1
    ∙ ap (λ (tags : ℕ). labels_in state steps client ++ own_labels tags client more (replayed (replayed state steps).0 more).1) (sym (replayed-tags state steps))
    ∙ ap (λ (m : Shared). labels_in state steps client ++ labels_in m more client) is

-- one after the other
pub goes_on : HeadlineHolds → (old middle new : Telling) → Goes old middle → Goes middle new → Goes old new
goes_on isolated old middle new one two = record {
  steps = one.steps ++ two.steps;
  said = one.said ++ two.said;
  machine = replayed-state old.machine one.steps two.steps ∙ ap (λ (m : Shared). (replayed m two.steps).0) one.machine ∙ two.machine;
  text = two.text ∙ ap (λ (t : List ℕ). t ++ text_of two.said) one.text ∙ append_assoc old.text (text_of one.said) (text_of two.said)
      ∙ ap (λ (t : List ℕ). old.text ++ t) (sym (text_of-append one.said two.said));
  deliveries = all_deliveries_said-append one.said two.said ∙ ap₂ (λ (a b : List Delivery). a ++ b) one.deliveries two.deliveries
      ∙ sym (all_deliveries-append (replayed old.machine one.steps).1 (replayed middle.machine two.steps).1)
      ∙ ap (λ (m : Shared). all_deliveries ((replayed old.machine one.steps).1 ++ (replayed m two.steps).1)) (sym one.machine)
      ∙ ap all_deliveries (sym (replayed-outcomes old.machine one.steps two.steps));
  noted = λ is. two.noted (one.noted is);
  own = λ is client before knows.
      let first = one.own is client before knows in
      let still : middle.machine.tags ≡ old.machine.tags = ap (λ (m : Shared). m.tags) (sym one.machine) ∙ replayed-tags old.machine one.steps in
      let second = two.own (one.noted is) client (before ++ labels_in old.machine one.steps client) first.1 in
      let joined : labels_in old.machine (one.steps ++ two.steps) client ≡ labels_in old.machine one.steps client ++ labels_in middle.machine two.steps client =
      labels_in-append old.machine middle.machine one.steps two.steps client one.machine in
      let run : solo_run (own_state old.machine client) (labels_in old.machine one.steps client)
      ≡ Some (own_state middle.machine client, own_replies old.machine.tags client (replayed old.machine one.steps).1) =
      isolated old.machine one.steps client
      ∙ ap (λ (m : Shared). Some (own_state m client, own_replies old.machine.tags client (replayed old.machine one.steps).1)) one.machine in (
        own_lines-append old.machine.tags client one.said two.said
            ∙ ap₂ (λ (a b : List (Bool × Reply)). a ++ b) first.0 (ap (λ (tags : ℕ). own_lines tags client two.said) (sym still) ∙ second.0)
            ∙ sym (solo_lines-append (own_state old.machine client) before (labels_in old.machine one.steps client)
            (labels_in middle.machine two.steps client) (own_state middle.machine client) (own_replies old.machine.tags client (replayed old.machine one.steps).1) run)
            ∙ ap (solo_lines (own_state old.machine client) before) (sym joined),
        λ ticket. second.1 ticket
            ∙ ap (has_to_host ticket) (append_assoc before (labels_in old.machine one.steps client) (labels_in middle.machine two.steps client))
            ∙ ap (λ (ls : List Label). has_to_host ticket (before ++ ls)) (sym joined),
      );
}

-- A LINE THAT TELLS OF NO STEP

pub goes_saying : (old new : Telling) (said : Said) → new.machine ≡ old.machine → new.brings_in ≡ old.brings_in
    → (IsNoted old → IsNoted new) → new.text ≡ old.text ++ line_of said → deliveries_said said ≡ [] → ((client : ℕ) → own_line old.machine.tags client said ≡ None)
    → Goes old new
goes_saying old new said machine brings noted text silent nobody = record {
  steps = [];
  said = said ∷ [];
  machine = sym machine;
  text = text ∙ ap (λ (t : List ℕ). old.text ++ t) (sym (append-nil (line_of said)));
  deliveries = append-nil (deliveries_said said) ∙ silent;
  noted = noted;
  own = λ is client before knows. (
    append-nil (option_to_list (own_line old.machine.tags client said)) ∙ ap option_to_list (nobody client),
    λ ticket. ap (λ (b : List (List Bool)). is_brought_in b client ticket) brings ∙ knows ticket ∙ ap (has_to_host ticket) (sym (append-nil before)),
  );
}

-- ONE STEP

-- the label of a command under this ticket that moves data to the host
abbrev pub is_to_host_by : ℕ → Option Label → Bool
is_to_host_by ticket None = false
is_to_host_by ticket (Some label) = is_to_host_under ticket label

or-assoc : (a b c : Bool) → (a || (b || c)) ≡ ((a || b) || c)
or-assoc true b c = refl
or-assoc false b c = refl

pub or-false : (a : Bool) → (a || false) ≡ a
or-false true = refl
or-false false = refl

has_to_host-append : (ticket : ℕ) (labels more : List Label) → has_to_host ticket (labels ++ more) ≡ (has_to_host ticket labels || has_to_host ticket more)
has_to_host-append ticket [] more = refl
has_to_host-append ticket (label ∷ labels) more =
    ap (λ (b : Bool). is_to_host_under ticket label || b) (has_to_host-append ticket labels more)
    ∙ or-assoc (is_to_host_under ticket label) (has_to_host ticket labels) (has_to_host ticket more)

has_to_host-last : (ticket : ℕ) (before : List Label) (label : Option Label)
    → has_to_host ticket (before ++ (option_to_list label ++ [])) ≡ (has_to_host ticket before || is_to_host_by ticket label)
has_to_host-last ticket before None = ap (has_to_host ticket) (append-nil before) ∙ sym (or-false (has_to_host ticket before))
has_to_host-last ticket before (Some label) =
    has_to_host-append ticket before (label ∷ []) ∙ ap (λ (b : Bool). has_to_host ticket before || b) (or-false (is_to_host_under ticket label))

no_reply : (reply : Option Reply) → option_to_list reply ++ [] ≡ [] → reply ≡ None
no_reply None none = refl
no_reply (Some reply) some = cc

one_reply : (after : SoloState × Option Reply) (end : SoloState) (replies : List Reply) (reply : Option Reply)
    → with_reply after.1 (after.0, []) ≡ (end, replies) → replies ≡ option_to_list reply ++ [] → after.1 ≡ reply
one_reply (state, None) end replies reply is same =
    let none : replies ≡ [] = ap (λ (p : SoloState × List Reply). p.1) (sym is) in
    sym (no_reply reply (sym same ∙ none))
one_reply (state, Some given) end replies None is same =
    let some : replies ≡ given ∷ [] = ap (λ (p : SoloState × List Reply). p.1) (sym is) in
    cc
one_reply (state, Some given) end replies (Some reply) is same =
    let some : replies ≡ given ∷ [] = ap (λ (p : SoloState × List Reply). p.1) (sym is) in
    cc

-- what a solo machine's one step brings is the reply of its run
step_lines : (state : SoloState) (before : List Label) (label : Option Label) (end : SoloState) (reply : Option Reply)
    → solo_run state (option_to_list label ++ []) ≡ Some (end, option_to_list reply ++ [])
    → solo_lines state before (option_to_list label ++ []) ≡ option_to_list (option_map (shown before) reply)
step_lines state before None end reply run =
    let whole : (state, []) ≡ (end, option_to_list reply ++ []) = cc in
    let none : option_to_list reply ++ [] ≡ [] = sym (ap (λ (p : SoloState × List Reply). p.1) whole) in
    ap (λ (r : Option Reply). option_to_list (option_map (shown before) r)) (sym (no_reply reply none))
step_lines state before (Some label) end reply run = go (solo_step state label) refl run
  where
    go : (o : Option (SoloState × Option Reply)) → solo_step state label ≡ o
        → option_and_then (λ after. option_map (with_reply after.1) (Some (after.0, []))) o ≡ Some (end, option_to_list reply ++ [])
        → solo_lines state before (label ∷ []) ≡ option_to_list (option_map (shown before) reply)
    go None is run = cc
    go (Some after) is run =
        let whole : with_reply after.1 (after.0, []) ≡ (end, option_to_list reply ++ []) = cc in
        let same : after.1 ≡ reply = one_reply after end (option_to_list reply ++ []) reply whole refl in
        ap (shown_then (λ now. []) before) is
        ∙ append-nil (option_to_list (option_map (shown before) after.1))
        ∙ ap (λ (r : Option Reply). option_to_list (option_map (shown before) r)) same

-- what is shown of a reply by what is noted
abbrev pub shown_by : List (List Bool) → ℕ → Reply → Bool × Reply
shown_by brings_in client reply = (is_brought_in brings_in client (reply_ticket reply), reply)

shown_same : (brings_in : List (List Bool)) (client : ℕ) (before : List Label) (reply : Option Reply)
    → ((ticket : ℕ) → is_brought_in brings_in client ticket ≡ has_to_host ticket before)
    → option_map (shown_by brings_in client) reply ≡ option_map (shown before) reply
shown_same brings_in client before None knows = refl
shown_same brings_in client before (Some reply) knows = ap (λ (b : Bool). Some (b, reply)) (knows (reply_ticket reply))

-- A step of the bus, with what is said of it and noted after it.
pub record StepGoes (old new : Telling) (step : Step) (said : List Said) : Type 0 where
  pub machine : (shared_step old.machine step).0 ≡ new.machine
  pub text : new.text ≡ old.text ++ text_of said
  pub deliveries : all_deliveries_said said ≡ deliveries_to (shared_step old.machine step).1 (shared_step old.machine step).1.owner
  pub noted : IsNoted old → IsNoted new
  pub own : (client : ℕ) → own_lines old.machine.tags client said
      ≡ option_to_list (option_map (shown_by old.brings_in client) (own_reply old.machine.tags client (shared_step old.machine step).1))
  pub notes : IsNoted old → (client ticket : ℕ) → is_brought_in new.brings_in client ticket
      ≡ (is_brought_in old.brings_in client ticket || is_to_host_by ticket (own_label old.machine.tags client step (shared_step old.machine step).1))

pub goes_by_step : HeadlineHolds → (old new : Telling) (step : Step) (said : List Said) → StepGoes old new step said → Goes old new
goes_by_step isolated old new step said it = record {
  steps = step ∷ [];
  said = said;
  machine = it.machine;
  text = it.text;
  deliveries = it.deliveries ∙ sym (append-nil (deliveries_to (shared_step old.machine step).1 (shared_step old.machine step).1.owner));
  noted = it.noted;
  own = λ is client before knows.
      let outcome : Outcome = (shared_step old.machine step).1 in (
        it.own client
            ∙ ap option_to_list (shown_same old.brings_in client before (own_reply old.machine.tags client outcome) knows)
            ∙ sym (step_lines (own_state old.machine client) before (own_label old.machine.tags client step outcome)
            (own_state (shared_step old.machine step).0 client) (own_reply old.machine.tags client outcome) (isolated old.machine (step ∷ []) client)),
        λ ticket. it.notes is client ticket
            ∙ ap (λ (b : Bool). b || is_to_host_by ticket (own_label old.machine.tags client step outcome)) (knows ticket)
            ∙ sym (has_to_host-last ticket before (own_label old.machine.tags client step outcome)),
      );
}
