-- What is shown along moments of a walk, one after another.
use Rattle.std.proofs.Common.{◌≡◌, ◌∙◌, ℕ, Bool, true, false, cond, List, [], ◌∷◌, ◌++◌, ◌+◌, ◌<◌, length, drop, get_or, Option, Some, None, Result, Ok, Err, refl, ap, ap₂, sym, subst}
use Rattle.std.proofs.Common.{append_assoc, append-nil}
use Rattle.std.proofs.lemmas.List.{drop_more}
use Rattle.std.proofs.Math.Seq.{drop-length}
use Rattle.std.proofs.KnownBytes.{Appends-nil, Appends-trans}
use Rattle.std.specs.Prelude.{IsSome, OnOk, option_map, slice_get}
use Rattle.std.specs.Io.KnownBytes.{Appends}
use Rattle.scsi_cmd.specs.declared.Reply.{Reply}
use Rattle.tag_range.specs.declared.Refused.{Refused}
use Rattle.tag_range.specs.Tags.{CountedTags}
use Rattle.shared_machine.specs.declared.Step.{Step}
use Rattle.shared_machine.specs.declared.Step.TheVariants.{Take}
use Rattle.bus_core.specs.World.{World}
use Rattle.uas_replay.specs.declared.replay.Handed.{Handed}
use Rattle.uas_replay.specs.Told.{Telling, given_run, handed_in, handed_in_by, idle_run, is_due, issued_for}
use Rattle.uas_replay.specs.Told.{replied, step_of, stepped, taken, taken_or_idle, told_line, with_range}
use Rattle.uas_script.specs.declared.Line.{Line}
use Rattle.uas_replay.specs.Walks.{Walk, Moment, hands, tries, takes, acted, walk_then, walked, shown_in, shown_along, Shows, step_given, step_handing, issued_in, issued_range, issued_run}
use Rattle.uas_replay.specs.Moments.{line_moments, lines_moments, take_moments}
use Rattle.uas_replay.specs.Walks.{step_in, step_shown, telling_then, told_since, world_by}

walked-append : (walk : Walk) (one two : List Moment) → walked walk (one ++ two) ≡ walked (walked walk one) two
walked-append walk [] two = refl
walked-append walk (moment ∷ one) two = walked-append (walk_then walk moment) one two

shown_along-append : (text_of : World → Step → List ℕ) (walk : Walk) (one two : List Moment)
    → shown_along text_of walk (one ++ two) ≡ shown_along text_of walk one ++ shown_along text_of (walked walk one) two
shown_along-append text_of walk [] two = refl
shown_along-append text_of walk (moment ∷ one) two =
    ap (λ (t : List ℕ). shown_in text_of walk moment ++ t) (shown_along-append text_of (walk_then walk moment) one two)
    ∙ sym (append_assoc (shown_in text_of walk moment) (shown_along text_of (walk_then walk moment) one)
    (shown_along text_of (walked (walk_then walk moment) one) two))

-- bytes that are known stay known
known_on : (before after : Option (List ℕ)) (bytes : List ℕ) → IsSome before → Appends before after bytes → IsSome after
known_on None after bytes known appends = cc
known_on (Some all) None bytes known appends = absurd appends
known_on (Some all) (Some more) bytes known appends = refl

-- no moment shows nothing
pub shows_nothing : (text_of : World → Step → List ℕ) (walk : Walk) (bytes : Option (List ℕ)) → Shows text_of [] walk walk bytes bytes
shows_nothing text_of walk bytes = record { known = λ known. record { leads = refl; shown = Appends-nil bytes } }

-- one moment
pub shows_moment : (text_of : World → Step → List ℕ) (old new : Walk) (moment : Moment) (before after : Option (List ℕ))
    → walk_then old moment ≡ new → Appends before after (shown_in text_of old moment) → Shows text_of (moment ∷ []) old new before after
shows_moment text_of old new moment before after leads shown = record {
  known = λ known. record {
    leads = leads;
    shown = subst (Appends before after) (sym (append-nil (shown_in text_of old moment))) shown;
  };
}

-- moments, and then others
pub shows_on : (text_of : World → Step → List ℕ) (one two : List Moment) (old middle new : Walk) (before between after : Option (List ℕ))
    → Shows text_of one old middle before between → Shows text_of two middle new between after → Shows text_of (one ++ two) old new before after
shows_on text_of one two old middle new before between after shows_one shows_two = record {
  known = λ known.
      let first = shows_one.known known in
      let second = shows_two.known (known_on before between (shown_along text_of old one) known first.shown) in
      record {
        leads = walked-append old one two ∙ ap (λ (w : Walk). walked w two) first.leads ∙ second.leads;
        shown =
            subst (Appends before after)
            (sym (shown_along-append text_of old one two ∙ ap (λ (w : Walk). shown_along text_of old one ++ shown_along text_of w two) first.leads))
            (Appends-trans before between after (shown_along text_of old one) (shown_along text_of middle two) first.shown second.shown);
      };
}

-- the same moments
pub shows_as : (text_of : World → Step → List ℕ) (one two : List Moment) (old new : Walk) (before after : Option (List ℕ))
    → one ≡ two → Shows text_of one old new before after → Shows text_of two old new before after
shows_as text_of one two old new before after same shows = subst (λ (m : List Moment). Shows text_of m old new before after) same shows

-- What is shown so far of moments: those that are left are others.
pub record ShowsSoFar (text_of : World → Step → List ℕ) (whole left : List Moment) (old new : Walk) (before after : Option (List ℕ)) : Type 0 where
  pub done : List Moment
  pub parts : done ++ left ≡ whole
  pub shows : Shows text_of done old new before after

pub so_far_nothing : (text_of : World → Step → List ℕ) (whole : List Moment) (walk : Walk) (bytes : Option (List ℕ))
    → ShowsSoFar text_of whole whole walk walk bytes bytes
so_far_nothing text_of whole walk bytes = record { done = []; parts = refl; shows = shows_nothing text_of walk bytes }

-- the next ones
pub so_far_on : (text_of : World → Step → List ℕ) (whole left next rest : List Moment) (old middle new : Walk) (before between after : Option (List ℕ))
    → ShowsSoFar text_of whole left old middle before between → left ≡ next ++ rest → Shows text_of next middle new between after
    → ShowsSoFar text_of whole rest old new before after
so_far_on text_of whole left next rest old middle new before between after far is shows = record {
  done = far.done ++ next;
  parts = append_assoc far.done next rest ∙ ap (λ (m : List Moment). far.done ++ m) (sym is) ∙ far.parts;
  shows = shows_on text_of far.done next old middle new before between after far.shows shows;
}

-- the last ones
pub so_far_last : (text_of : World → Step → List ℕ) (whole left next : List Moment) (old middle new : Walk) (before between after : Option (List ℕ))
    → ShowsSoFar text_of whole left old middle before between → left ≡ next → Shows text_of next middle new between after
    → Shows text_of whole old new before after
so_far_last text_of whole left next old middle new before between after far is shows =
    shows_as text_of (far.done ++ next) whole old new before after (ap (λ (m : List Moment). far.done ++ m) (sym is) ∙ far.parts)
    (shows_on text_of far.done next old middle new before between after far.shows shows)

-- none is left
pub so_far_all : (text_of : World → Step → List ℕ) (whole left : List Moment) (old new : Walk) (before after : Option (List ℕ))
    → ShowsSoFar text_of whole left old new before after → left ≡ [] → Shows text_of whole old new before after
so_far_all text_of whole left old new before after far none =
    shows_as text_of far.done whole old new before after
    (sym (append-nil far.done) ∙ ap (λ (m : List Moment). far.done ++ m) (sym none) ∙ far.parts) far.shows

-- ONE MOMENT, BY WHAT IT IS

walk_same : (a b : Walk) → a.telling ≡ b.telling → a.world ≡ b.world → a ≡ b
walk_same a b telling world = ap₂ (λ (t : Telling) (w : World). record { telling = t; world = w }) telling world

-- the step of a moment is found, and so what it leads to and shows
pub shows_at : (text_of : World → Step → List ℕ) (old new : Walk) (moment : Moment) (found : Option Step) (before after : Option (List ℕ))
    → step_in old.telling moment ≡ found → new.telling ≡ telling_then old.telling moment → new.world ≡ world_by old.world found
    → Appends before after (step_shown text_of old.world found ++ told_since (length old.telling.text) new.telling)
    → Shows text_of (moment ∷ []) old new before after
shows_at text_of old new moment found before after is telling world shown =
    shows_moment text_of old new moment before after
    (walk_same (walk_then old moment) new (sym telling) (ap (world_by old.world) is ∙ sym world))
    (subst (Appends before after) (
    ap (λ (s : Option Step). step_shown text_of old.world s ++ told_since (length old.telling.text) new.telling) (sym is)
    ∙ ap (λ (t : Telling). step_shown text_of old.world (step_in old.telling moment) ++ told_since (length old.telling.text) t) telling
    ) shown)

-- nothing was told
pub told-nothing : (text : List ℕ) (old new : Telling) → new.text ≡ old.text → text ≡ text ++ told_since (length old.text) new
told-nothing text old new same =
    sym (append-nil text) ∙ ap (λ (t : List ℕ). text ++ t) (sym (ap (drop (length old.text)) same ∙ drop-length old.text))

-- a step that is due
pub shows_step : (text_of : World → Step → List ℕ) (old new : Walk) (step : Step) (before after : Option (List ℕ))
    → is_due old.telling.machine step ≡ true → new ≡ acted old step → Appends before after (text_of old.world step)
    → Shows text_of (tries step ∷ []) old new before after
unfolding stepped
shows_step text_of old new step before after due leads shown =
    shows_at text_of old new (tries step) (Some step) before after
    (ap (λ (b : Bool). cond b (Some step) None) due)
    (ap (λ (w : Walk). w.telling) leads
    ∙ ap (λ (b : Bool). cond b (record old.telling { machine = (step_of old.telling.machine step).0 }) (idle_run old.telling)) (sym due))
    (ap (λ (w : Walk). w.world) leads)
    (subst (Appends before after)
    (told-nothing (text_of old.world step) old.telling new.telling (ap (λ (w : Walk). w.telling.text) leads)) shown)

-- a step that isn't due
pub shows_idle : (text_of : World → Step → List ℕ) (old new : Walk) (step : Step) (before after : Option (List ℕ))
    → is_due old.telling.machine step ≡ false → new ≡ record old { telling = idle_run old.telling }
    → Appends before after (told_since (length old.telling.text) new.telling) → Shows text_of (tries step ∷ []) old new before after
unfolding stepped
shows_idle text_of old new step before after due leads shown =
    shows_at text_of old new (tries step) None before after
    (ap (λ (b : Bool). cond b (Some step) None) due)
    (ap (λ (w : Walk). w.telling) leads
    ∙ ap (λ (b : Bool). cond b (record old.telling { machine = (step_of old.telling.machine step).0 }) (idle_run old.telling)) (sym due))
    (ap (λ (w : Walk). w.world) leads) shown

-- a client that finds no reply
pub shows_none_taken : (text_of : World → Step → List ℕ) (old new : Walk) (client : ℕ) (before after : Option (List ℕ))
    → is_due old.telling.machine (Take client) ≡ false → new ≡ record old { telling = idle_run old.telling }
    → Appends before after (told_since (length old.telling.text) new.telling) → Shows text_of (takes client ∷ []) old new before after
unfolding taken_or_idle
shows_none_taken text_of old new client before after due leads shown =
    shows_at text_of old new (takes client) None before after
    (ap (λ (b : Bool). cond b (Some (Take client)) None) due)
    (ap (λ (w : Walk). w.telling) leads ∙ ap (λ (b : Bool). cond b (taken old.telling client) (idle_run old.telling)) (sym due))
    (ap (λ (w : Walk). w.world) leads) shown

-- what a client's Take tells, by the reply
taken-by : (run : Telling) (client : ℕ) (reply : Option Reply) → is_due run.machine (Take client) ≡ true
    → (step_of run.machine (Take client)).1.reply ≡ reply
    → replied (record run { machine = (step_of run.machine (Take client)).0 }) client reply ≡ taken_or_idle run client
unfolding taken taken_or_idle
taken-by run client reply due is =
    let after = record run { machine = (step_of run.machine (Take client)).0 } in
    ap (replied after client) (sym is)
    ∙ ap (λ (b : Bool). cond b (replied after client (step_of run.machine (Take client)).1.reply) run) (sym due)
    ∙ ap (λ (b : Bool). cond b (taken run client) (idle_run run)) (sym due)

-- a client that takes a reply, after the step
pub shows_replied : (text_of : World → Step → List ℕ) (old middle new : Walk) (client : ℕ) (reply : Option Reply) (before between after : Option (List ℕ))
    → is_due old.telling.machine (Take client) ≡ true → middle ≡ acted old (Take client)
    → (step_of old.telling.machine (Take client)).1.reply ≡ reply → new ≡ record middle { telling = replied middle.telling client reply }
    → Appends before between (text_of old.world (Take client)) → Appends between after (told_since (length old.telling.text) new.telling)
    → Shows text_of (takes client ∷ []) old new before after
shows_replied text_of old middle new client reply before between after due acts is leads step_is told_is =
    shows_at text_of old new (takes client) (Some (Take client)) before after
    (ap (λ (b : Bool). cond b (Some (Take client)) None) due)
    (ap (λ (w : Walk). w.telling) leads ∙ ap (λ (w : Walk). replied w.telling client reply) acts ∙ taken-by old.telling client reply due is)
    (ap (λ (w : Walk). w.world) leads ∙ ap (λ (w : Walk). w.world) acts)
    (Appends-trans before between after (text_of old.world (Take client)) (told_since (length old.telling.text) new.telling) step_is told_is)

-- a client whose Take brings no reply
pub shows_unreplied : (text_of : World → Step → List ℕ) (old new : Walk) (client : ℕ) (before after : Option (List ℕ))
    → is_due old.telling.machine (Take client) ≡ true → new ≡ acted old (Take client) → (step_of old.telling.machine (Take client)).1.reply ≡ None
    → Appends before after (text_of old.world (Take client)) → Shows text_of (takes client ∷ []) old new before after
shows_unreplied text_of old new client before after due acts is step_is =
    shows_at text_of old new (takes client) (Some (Take client)) before after
    (ap (λ (b : Bool). cond b (Some (Take client)) None) due)
    (ap (λ (w : Walk). w.telling) acts ∙ taken-by old.telling client None due is)
    (ap (λ (w : Walk). w.world) acts)
    (subst (Appends before after)
    (told-nothing (text_of old.world (Take client)) old.telling new.telling (ap (λ (w : Walk). w.telling.text) acts)) step_is)

-- a client that takes, where a reply is ready and where none is
pub take_due : (run : Telling) (client : ℕ) → is_due run.machine (Take client) ≡ true → take_moments run client ≡ takes client ∷ []
unfolding take_moments
take_due run client due = ap (λ (b : Bool). cond b (takes client ∷ []) []) due

pub take_idle : (run : Telling) (client : ℕ) → is_due run.machine (Take client) ≡ false → take_moments run client ≡ []
unfolding take_moments
take_idle run client due = ap (λ (b : Bool). cond b (takes client ∷ []) []) due

-- WHAT A CLIENT HANDS IN

pub handed-none : (run : Telling) (client : ℕ) (handed : Handed) → None ≡ issued_in run client handed
    → (handed_in run client handed ≡ run) × (issued_run run client handed ≡ run)
unfolding handed_in
handed-none run client handed = go (slice_get run.ranges client)
  where
    go : (found : Option CountedTags) → None ≡ option_map (λ (tags : CountedTags). (issued_for handed tags).1) found
        → (handed_in_by run client handed found ≡ run) × (record run { ranges = issued_range run.ranges client handed found } ≡ run)
    go None none = (refl, refl)
    go (Some tags) none = cc

pub handed-given : (run : Telling) (client : ℕ) (handed : Handed) (answer : Result (ℕ × ℕ) Refused) → Some answer ≡ issued_in run client handed
    → given_run (issued_run run client handed) client handed answer ≡ handed_in run client handed
unfolding handed_in
handed-given run client handed answer = go (slice_get run.ranges client)
  where
    go : (found : Option CountedTags) → Some answer ≡ option_map (λ (tags : CountedTags). (issued_for handed tags).1) found
        → given_run (record run { ranges = issued_range run.ranges client handed found }) client handed answer ≡ handed_in_by run client handed found
    go None is = cc
    go (Some tags) is =
        let same : answer ≡ (issued_for handed tags).1 = cc in
        ap (given_run (with_range run client (issued_for handed tags).0) client handed) same

handing-given : (run : Telling) (client : ℕ) (handed : Handed) (answer : Result (ℕ × ℕ) Refused) → Some answer ≡ issued_in run client handed
    → step_in run (hands client handed) ≡ step_given client handed answer
handing-given run client handed answer = go (slice_get run.ranges client)
  where
    go : (found : Option CountedTags) → Some answer ≡ option_map (λ (tags : CountedTags). (issued_for handed tags).1) found
        → step_handing client handed found ≡ step_given client handed answer
    go None is = cc
    go (Some tags) is =
        let same : answer ≡ (issued_for handed tags).1 = cc in
        ap (step_given client handed) (sym same)

-- its tags let it, or refuse it
pub shows_handed : (text_of : World → Step → List ℕ) (old middle new : Walk) (client : ℕ) (handed : Handed) (answer : Result (ℕ × ℕ) Refused)
    (before after : Option (List ℕ)) → Some answer ≡ issued_in old.telling client handed
    → middle ≡ record old { telling = issued_run old.telling client handed } → new.telling ≡ given_run middle.telling client handed answer
    → new.world ≡ world_by middle.world (step_given client handed answer)
    → Appends before after (step_shown text_of middle.world (step_given client handed answer) ++ told_since (length middle.telling.text) new.telling)
    → Shows text_of (hands client handed ∷ []) old new before after
shows_handed text_of old middle new client handed answer before after is leads telling world shown =
    shows_at text_of old new (hands client handed) (step_given client handed answer) before after
    (handing-given old.telling client handed answer is)
    (telling ∙ ap (λ (w : Walk). given_run w.telling client handed answer) leads ∙ handed-given old.telling client handed answer is)
    (world ∙ ap (λ (w : Walk). world_by w.world (step_given client handed answer)) leads)
    (subst (Appends before after)
    (ap (λ (w : Walk). step_shown text_of w.world (step_given client handed answer) ++ told_since (length w.telling.text) new.telling) leads) shown)

handing-none : (run : Telling) (client : ℕ) (handed : Handed) → None ≡ issued_in run client handed → step_in run (hands client handed) ≡ None
handing-none run client handed = go (slice_get run.ranges client)
  where
    go : (found : Option CountedTags) → None ≡ option_map (λ (tags : CountedTags). (issued_for handed tags).1) found → step_handing client handed found ≡ None
    go None none = refl
    go (Some tags) none = cc

-- no such client
pub shows_nobody : (text_of : World → Step → List ℕ) (old new : Walk) (client : ℕ) (handed : Handed) (bytes : Option (List ℕ))
    → None ≡ issued_in old.telling client handed → new ≡ record old { telling = issued_run old.telling client handed }
    → Shows text_of (hands client handed ∷ []) old new bytes bytes
shows_nobody text_of old new client handed bytes none leads =
    let nothing = handed-none old.telling client handed none in
    let stays : new.telling ≡ old.telling = ap (λ (w : Walk). w.telling) leads ∙ nothing.1 in
    shows_at text_of old new (hands client handed) None bytes bytes (handing-none old.telling client handed none)
    (stays ∙ sym nothing.0) (ap (λ (w : Walk). w.world) leads)
    (subst (Appends bytes bytes) (told-nothing [] old.telling new.telling (ap (λ (t : Telling). t.text) stays)) (Appends-nil bytes))

-- LINES

-- the line at a place, and those behind it
pub lines_moments-at : (run after : Telling) (lines : List Line) (index : ℕ) (other : Line) → index < length lines
    → after ≡ told_line run (get_or lines index other)
    → lines_moments run (drop index lines) ≡ line_moments run (get_or lines index other) ++ lines_moments after (drop (index + 1) lines)
lines_moments-at run after lines index other within is =
    ap (lines_moments run) (drop_more lines index other within)
    ∙ ap (λ (t : Telling). line_moments run (get_or lines index other) ++ lines_moments t (drop (index + 1) lines)) (sym is)

-- two facts of an answer that is there give a third
pub on_ok_two : {T E P Q R : Type 0} (result : Result T E) → (P → Q → R) → OnOk result P → OnOk result Q → OnOk result R
on_ok_two (Ok value) gives one two = gives one two
on_ok_two (Err fault) gives one two = tt

pub on_ok_three : {T E P Q R S : Type 0} (result : Result T E) → (P → Q → R → S) → OnOk result P → OnOk result Q → OnOk result R → OnOk result S
on_ok_three (Ok value) gives one two three = gives one two three
on_ok_three (Err fault) gives one two three = tt

-- a fact that needs no answer
pub on_ok_any : {T E P : Type 0} (result : Result T E) → P → OnOk result P
on_ok_any (Ok value) is = is
on_ok_any (Err fault) is = tt
