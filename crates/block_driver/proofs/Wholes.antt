-- A reply waits for the data and the status of its command, and one that is GOOD has all bytes.
use Rattle.std.proofs.Common.{◌≡◌, ℕ, Bool, true, false, Option, None, Some, refl, ap, sym, ◌∙◌}
use Rattle.std.specs.Prelude.{◌==◌, ◌&&◌, if◌then◌else◌, is_none, is_some}
use Rattle.std.proofs.lemmas.Bool.{eqb-true}
use Rattle.block_requests.specs.declared.outcomes.Outcome as outcomes
use Rattle.block_requests.specs.declared.outcomes.Outcome.TheVariants as outcome
use Rattle.block_driver.specs.declared.table.Came.{Came}
use Rattle.block_driver.specs.declared.table.DataState.{DataState}
use Rattle.block_driver.specs.declared.table.DataState.TheVariants as data_state
use Rattle.block_driver.specs.declared.table.Ending.TheVariants as ending
use Rattle.block_driver.specs.declared.table.Entry.TheVariants as entry
use Rattle.block_driver.specs.declared.table.Entry.TheVariants.{Replied}
use Rattle.block_driver.specs.declared.table.Outstanding.{Outstanding}
use Rattle.block_driver.specs.declared.table.Told.{Told}
use Rattle.block_driver.specs.Laws.{AbortWaits, GoodHasAll, ReplyWaits}
use Rattle.block_driver.specs.Table.{aborted_came, ended_with, is_pending, is_status_stuck, moved_count, settled_by, settled_told, told_came, unanswered_by}

told_waits : (status : Option Told) (command : Outstanding) (moved : ℕ) (came : Came) → settled_told status command moved ≡ Replied came
    → is_some status ≡ true
told_waits None command moved came is = absurd (cc is)
told_waits (Some told) command moved came is = refl

data_waits : (moves : DataState) (command : Outstanding) (came : Came) → settled_by (moved_count moves) command ≡ Replied came
    → (is_pending moves ≡ false) × (is_some command.status ≡ true)
data_waits data_state.Nothing command came is = (refl, told_waits command.status command 0 came is)
data_waits data_state.Pending command came is = absurd (cc is)
data_waits (data_state.Moved count) command came is = (refl, told_waits command.status command count came is)

pub reply_waits : ReplyWaits
reply_waits command came is = data_waits command.data_state command came is

good_test : (is : Bool) (moved wanted : ℕ) → (moved == wanted) ≡ is → ending.Told (if is then outcome.Good else outcome.Short) ≡ ending.Told outcome.Good
    → moved ≡ wanted
good_test true moved wanted test same = eqb-true moved wanted test
good_test false moved wanted test same = absurd (cc same)

good_outcome : (told : outcomes.Outcome) (moved wanted : ℕ) → ending.Told (ended_with told moved wanted) ≡ ending.Told outcome.Good → moved ≡ wanted
good_outcome outcome.Good moved wanted same = good_test (moved == wanted) moved wanted refl same
good_outcome outcome.Short moved wanted same = absurd (cc same)
good_outcome (outcome.Status status sense) moved wanted same = absurd (cc same)
good_outcome (outcome.Response code) moved wanted same = absurd (cc same)

told_good : (status : Option Told) (command : Outstanding) (moved : ℕ) (came : Came) → settled_told status command moved ≡ Replied came
    → came.ending ≡ ending.Told outcome.Good → came.moved ≡ command.wanted
told_good None command moved came is good = absurd (cc is)
told_good (Some told) command moved came is good =
    let same : told_came command moved told ≡ came = cc is in
    sym (ap (λ (one : Came). one.moved) same) ∙ good_outcome told.outcome moved command.wanted (ap (λ (one : Came). one.ending) same ∙ good)

data_good : (moves : DataState) (command : Outstanding) (came : Came) → settled_by (moved_count moves) command ≡ Replied came
    → came.ending ≡ ending.Told outcome.Good → came.moved ≡ command.wanted
data_good data_state.Nothing command came is good = told_good command.status command 0 came is good
data_good data_state.Pending command came is good = absurd (cc is)
data_good (data_state.Moved count) command came is good = told_good command.status command count came is good

pub good_has_all : GoodHasAll
good_has_all command came is good = data_good command.data_state command came is good

unanswered_test : (is : Bool) (command : Outstanding) (moved : ℕ) (came : Came)
    → (if is then Replied (aborted_came command moved) else entry.Outstanding command) ≡ Replied came → is ≡ true
unanswered_test true command moved came same = refl
unanswered_test false command moved came same = absurd (cc same)

aborted_parts : (is_aborted : Bool) (status : Option Told) → (is_aborted && is_none status) ≡ true → (is_aborted ≡ true) × (is_some status ≡ false)
aborted_parts true None is = (refl, refl)
aborted_parts true (Some told) is = absurd (cc is)
aborted_parts false status is = absurd (cc is)

abort_by : (moves : DataState) (command : Outstanding) (came : Came)
    → unanswered_by (moved_count moves) (is_status_stuck command) command ≡ Replied came
    → (is_pending moves ≡ false) × (command.is_aborted ≡ true) × (is_some command.status ≡ false)
abort_by data_state.Nothing command came is =
    let parts = aborted_parts command.is_aborted command.status (unanswered_test (is_status_stuck command) command 0 came is) in
    (refl, parts.0, parts.1)
abort_by data_state.Pending command came is = absurd (cc is)
abort_by (data_state.Moved count) command came is =
    let parts = aborted_parts command.is_aborted command.status (unanswered_test (is_status_stuck command) command count came is) in
    (refl, parts.0, parts.1)

pub abort_waits : AbortWaits
abort_waits command came is = abort_by command.data_state command came is
