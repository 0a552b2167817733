-- What it is to an entry that its TD on a pipe, which is left over, is passed by the controller, and then retired: cited by MatchedEngine and
-- MatchedRetirement.
use Rattle.std.proofs.Common.{◌≡◌, ℕ, true, false, ◌&&◌, [], ◌∷◌, Option, Some, None, option_map, refl, arith, ap, sym, subst, ◌∙◌}
use Rattle.std.specs.Prelude.{◌==◌, nat_lt, if◌then◌else◌}
use Rattle.std.proofs.lemmas.Bool.{ltb-true, false≢true, and_right}
use Rattle.uas_profile.specs.declared.Pipe.{Pipe}
use Rattle.uas_profile.specs.declared.Pipe.TheVariants.{Command, Status, DataIn, DataOut}
use Rattle.uas_profile.specs.declared.Direction.{Direction}
use Rattle.uas_profile.specs.declared.Direction.TheVariants.{Nothing, ToHost, ToDevice}
use Rattle.solo_model.specs.declared.TaskAnswer.{TaskAnswer}
use Rattle.solo_model.specs.declared.TaskAnswer.TheVariants.{WithStatus, WithResponse}
use Rattle.device_server.specs.declared.Answer.TheVariants.{Good, Check}
use Rattle.solo_model.specs.declared.TaskProgress.TheVariants.{Moving, Ended}
use Rattle.solo_model.specs.declared.Phase.{Phase}
use Rattle.solo_model.specs.declared.Phase.TheVariants.{Queued, Begun, Sent, Gone}
use Rattle.shared_machine.specs.Tests.{is_left_over, is_over, is_pending, is_seen}
use Rattle.uas_profile.specs.declared.Place.{Place}
use Rattle.uas_profile.specs.declared.TdState.{TdState}
use Rattle.uas_profile.specs.declared.TdState.TheVariants.{Pending, Seen, LeftOver, Retired}
use Rattle.uas_profile.specs.Pipes.{same_pipe}
use Rattle.shared_machine.specs.declared.Td.{Td}
use Rattle.shared_machine.specs.declared.Completion.TheVariants.{EngineDone}
use Rattle.shared_machine.specs.Td.{Entry, pushed, is_data_over, is_in_ring, is_td_left_over, is_left_over_on}
use Rattle.shared_machine.specs.Td.{is_awaited, has_trb, has_data_trb, has_trb_on, data_trbs, trbs_on, data_in_td, data_out_td, request_direction, with_td_on}
use Rattle.shared_machine.specs.Td.{passed_td, passed_on, retired_td, retired_on}
use Rattle.shared_machine.specs.Soundness.{one_if}
use Rattle.machine_invariant.specs.Matched.{is_whole, is_whole_on, IsAwaitedOrSeen, IsGivenUp, IsStatusTd, IsAnsweredTd, IsDataTd, IsMatchedEntry}
use Rattle.machine_invariant.proofs.MatchedEnds.{over-left_in, over-left_out}
use Rattle.machine_invariant.proofs.MatchedEntries.{IsCountedOut, IsLeft, last_false, middle_false}
use Rattle.machine_invariant.proofs.MatchedTasks.{IsStepped}
use Rattle.machine_invariant.proofs.MatchedPlaces.{self_equal}
use Rattle.machine_invariant.proofs.MatchedTds.{in-either, out-either}

-- ONE TD

pub left-state : (state : TdState) → is_left_over state ≡ true → state ≡ LeftOver
left-state Pending is = absurd (false≢true is)
left-state Seen is = absurd (false≢true is)
left-state LeftOver is = refl
left-state Retired is = absurd (false≢true is)

-- it isn't awaited
left-unawaited : (td : Td) (trbs : ℕ) → is_left_over td.state ≡ true → one_if (is_awaited td trbs) ≡ 0
left-unawaited td trbs left = ap (λ state. one_if (is_pending state && (td.consumed == trbs))) (left-state td.state left)

-- nor pending
left-pends : (td : Td) → is_left_over td.state ≡ true → td.state ≡ Pending → ⊥
left-pends td left pends = false≢true (sym (ap (λ state. is_left_over state) pends) ∙ left)

left-pushed : (td : Td) → is_left_over td.state ≡ true → td ≡ pushed → ⊥
left-pushed td left is = left-pends td left (ap (λ (t : Td). t.state) is)

-- an answer that was handed over isn't left over
left-answered : (td : Td) → is_left_over td.state ≡ true → IsAwaitedOrSeen td.state → ⊥
left-answered td left is = subst (λ state. IsAwaitedOrSeen state) (left-state td.state left) is

-- THE STATUS TD: a task management ended its command

passed-status : (phase : Phase) (td : Td) → is_left_over td.state ≡ true → IsStatusTd phase td → IsStatusTd phase (passed_td 1 td)
passed-status Queued td left is = absurd (left-pushed td left is)
passed-status (Begun progress) td left is = absurd (left-pushed td left is)
passed-status (Sent answer) td left is = absurd (left-answered td left is.1)
passed-status Gone td left is = subst (λ state. IsGivenUp 1 state) (sym (left-state td.state left)) tt

retired-status : (phase : Phase) (td : Td) → is_left_over td.state ≡ true → IsStatusTd phase td → IsStatusTd phase (retired_td td)
retired-status Queued td left is = absurd (left-pushed td left is)
retired-status (Begun progress) td left is = absurd (left-pushed td left is)
retired-status (Sent answer) td left is = absurd (left-answered td left is.1)
retired-status Gone td left is = tt

-- THE DATA TD

passed-answered : (trbs : ℕ) (answer : TaskAnswer) (td : Td) → is_left_over td.state ≡ true → IsAnsweredTd trbs answer (Some (passed_td trbs td))
passed-answered trbs (WithStatus Good) td left = refl
passed-answered trbs (WithStatus (Check sense)) td left =
    ((λ pends. absurd (false≢true (sym (ap (λ state. is_pending state) (left-state td.state left)) ∙ pends))), omega arith)
passed-answered trbs (WithResponse code) td left = refl

retired-answered : (trbs : ℕ) (answer : TaskAnswer) (td : Td) → IsAnsweredTd trbs answer (Some td) → IsAnsweredTd trbs answer (Some (retired_td td))
retired-answered trbs (WithStatus Good) td is = is
retired-answered trbs (WithStatus (Check sense)) td is = ((λ pends. absurd (false≢true pends)), is.1)
retired-answered trbs (WithResponse code) td is = is

passed-chunks : (trbs : ℕ) (phase : Phase) (td : Td) → is_left_over td.state ≡ true → IsDataTd trbs phase (Some td)
    → IsDataTd trbs phase (Some (passed_td trbs td))
passed-chunks trbs Queued td left is = absurd (left-pends td left is.0)
passed-chunks trbs (Begun (Moving chunk)) td left is = absurd (left-pends td left is.0)
passed-chunks trbs (Begun (Ended answer)) td left is = passed-answered trbs answer td left
passed-chunks trbs (Sent answer) td left is = passed-answered trbs answer td left
passed-chunks trbs Gone td left is = omega arith

retired-chunks : (trbs : ℕ) (phase : Phase) (td : Td) → is_left_over td.state ≡ true → IsDataTd trbs phase (Some td)
    → IsDataTd trbs phase (Some (retired_td td))
retired-chunks trbs Queued td left is = absurd (left-pends td left is.0)
retired-chunks trbs (Begun (Moving chunk)) td left is = absurd (left-pends td left is.0)
retired-chunks trbs (Begun (Ended answer)) td left is = retired-answered trbs answer td is
retired-chunks trbs (Sent answer) td left is = retired-answered trbs answer td is
retired-chunks trbs Gone td left is = is

passed-data : (trbs : ℕ) (phase : Phase) (td : Option Td) → is_td_left_over td ≡ true → IsDataTd trbs phase td
    → IsLeft trbs phase td (option_map (passed_td trbs) td)
passed-data trbs phase None left is = absurd (false≢true left)
passed-data trbs phase (Some td) left is = record {
  chunks = passed-chunks trbs phase td left is;
  awaited = left-unawaited (passed_td trbs td) trbs left ∙ sym (left-unawaited td trbs left);
  there = refl;
}

retired-data : (trbs : ℕ) (phase : Phase) (td : Option Td) → is_td_left_over td ≡ true → IsDataTd trbs phase td
    → IsLeft trbs phase td (option_map retired_td td)
retired-data trbs phase None left is = absurd (false≢true left)
retired-data trbs phase (Some td) left is = record {
  chunks = retired-chunks trbs phase td left is;
  awaited = sym (left-unawaited td trbs left);
  there = refl;
}

-- passed or not, it is over or isn't
passed-over : (trbs : ℕ) (td : Option Td) → is_data_over (option_map (passed_td trbs) td) ≡ is_data_over td
passed-over trbs None = refl
passed-over trbs (Some td) = refl

left-over : (td : Option Td) → is_td_left_over td ≡ true → is_data_over td ≡ false
left-over None left = absurd (false≢true left)
left-over (Some td) left = ap (λ state. is_over state) (left-state td.state left)

-- the data TD that is left over is on the pipe of its direction
pub left-in : (way : Direction) (td : Option Td) → is_td_left_over (data_in_td way td) ≡ true → (way ≡ ToHost) × (is_td_left_over td ≡ true)
left-in Nothing td left = absurd (false≢true left)
left-in ToHost td left = (refl, left)
left-in ToDevice td left = absurd (false≢true left)

pub left-out : (way : Direction) (td : Option Td) → is_td_left_over (data_out_td way td) ≡ true → (way ≡ ToDevice) × (is_td_left_over td ≡ true)
left-out Nothing td left = absurd (false≢true left)
left-out ToHost td left = absurd (false≢true left)
left-out ToDevice td left = (refl, left)

-- AN ENTRY OF WHICH ONE TD BECAME ANOTHER ONE

data-sound : {tags : ℕ} (slot : ℕ) (entry : Entry) (td : Option Td) → IsLeft (data_trbs entry.task.request) entry.task.phase entry.data_td td
    → IsMatchedEntry tags slot entry → IsMatchedEntry tags slot (record entry { data_td = td })
data-sound {tags} slot entry td now sound = record {
  asks = sound.asks;
  answers = sound.answers;
  command = sound.command;
  status = sound.status;
  chunks = now.chunks;
  moves = now.there ∙ sound.moves;
  small = sound.small;
}

status-sound : {tags : ℕ} (slot : ℕ) (entry : Entry) (td : Td) → IsStatusTd entry.task.phase td
    → IsMatchedEntry tags slot entry → IsMatchedEntry tags slot (record entry { status_td = td })
status-sound {tags} slot entry td now sound = record {
  asks = sound.asks;
  answers = sound.answers;
  command = sound.command;
  status = now;
  chunks = sound.chunks;
  moves = sound.moves;
  small = sound.small;
}

-- PASSED

abbrev with_data_passed : Entry → Entry
with_data_passed entry = record entry { data_td = option_map (passed_td (data_trbs entry.task.request)) entry.data_td }

data-passed : {tags : ℕ} (place : Place) (entry : Entry) → is_td_left_over entry.data_td ≡ true → IsMatchedEntry tags place.slot entry →
    IsStepped tags place [] (EngineDone place ∷ []) entry (with_data_passed entry)
data-passed {tags} place entry left sound =
    let trbs : ℕ = data_trbs entry.task.request in
    let now : IsLeft trbs entry.task.phase entry.data_td (option_map (passed_td trbs) entry.data_td) =
    passed-data trbs entry.task.phase entry.data_td left sound.chunks in
    record {
      messages = omega arith;
      carried = omega arith;
      moved = omega (arith, now.awaited);
      sent = omega arith;
      ready = ap (λ b. is_seen entry.command_td.state && (is_over entry.status_td.state && b)) (passed-over trbs entry.data_td);
      sound = data-sound place.slot entry (option_map (passed_td trbs) entry.data_td) now sound;
    }

-- the controller was moved past the TD
pub passed-stepped : {tags : ℕ} (pipe : Pipe) (place : Place) (entry : Entry) → is_left_over_on pipe entry ≡ true → IsMatchedEntry tags place.slot entry →
    IsStepped tags place [] (EngineDone place ∷ []) entry (passed_on pipe entry)
passed-stepped {tags} Command place entry left sound = absurd (false≢true left)
passed-stepped {tags} Status place entry left sound = record {
  messages = omega arith;
  carried = omega arith;
  moved = omega arith;
  sent = omega (arith, left-unawaited entry.status_td 1 left, left-unawaited (passed_td 1 entry.status_td) 1 left);
  ready = refl;
  sound = status-sound place.slot entry (passed_td 1 entry.status_td) (passed-status entry.task.phase entry.status_td left sound.status) sound;
}
passed-stepped {tags} DataIn place entry left sound = data-passed place entry (left-in (request_direction entry.task.request) entry.data_td left).1 sound
passed-stepped {tags} DataOut place entry left sound = data-passed place entry (left-out (request_direction entry.task.request) entry.data_td left).1 sound

-- RETIRED

abbrev with_data_retired : Entry → Entry
with_data_retired entry = record entry { data_td = option_map retired_td entry.data_td }

data-retired : {tags : ℕ} (place : Place) (entry : Entry) → is_td_left_over entry.data_td ≡ true → IsMatchedEntry tags place.slot entry →
    IsCountedOut tags (EngineDone place) entry (with_data_retired entry)
data-retired {tags} place entry left sound =
    let trbs : ℕ = data_trbs entry.task.request in
    let now : IsLeft trbs entry.task.phase entry.data_td (option_map retired_td entry.data_td) =
    retired-data trbs entry.task.phase entry.data_td left sound.chunks in
    record {
      messages = refl;
      carried = omega arith;
      moved = omega (arith, now.awaited);
      sent = omega arith;
      ready = ap (λ b. one_if (is_seen entry.command_td.state && (is_over entry.status_td.state && b))) (left-over entry.data_td left)
          ∙ last_false (is_seen entry.command_td.state) (is_over entry.status_td.state);
      sound = data-sound place.slot entry (option_map retired_td entry.data_td) now sound;
    }

-- the host retires the TD: the entry wasn't ready
pub retired-counted : {tags : ℕ} (pipe : Pipe) (place : Place) (entry : Entry) → is_left_over_on pipe entry ≡ true → IsMatchedEntry tags place.slot entry →
    IsCountedOut tags (EngineDone place) entry (with_td_on retired_td pipe entry)
retired-counted {tags} Command place entry left sound = absurd (false≢true left)
retired-counted {tags} Status place entry left sound = record {
  messages = refl;
  carried = omega arith;
  moved = omega arith;
  sent = omega (arith, left-unawaited entry.status_td 1 left);
  ready = ap (λ state. one_if (is_seen entry.command_td.state && (is_over state && is_data_over entry.data_td))) (left-state entry.status_td.state left)
      ∙ middle_false (is_seen entry.command_td.state) (is_data_over entry.data_td);
  sound = status-sound place.slot entry (retired_td entry.status_td) (retired-status entry.task.phase entry.status_td left sound.status) sound;
}
retired-counted {tags} DataIn place entry left sound = data-retired place entry (left-in (request_direction entry.task.request) entry.data_td left).1 sound
retired-counted {tags} DataOut place entry left sound = data-retired place entry (left-out (request_direction entry.task.request) entry.data_td left).1 sound

pub retired_on-is : (pipe : Pipe) (entry : Entry) → is_left_over_on pipe entry ≡ true → retired_on pipe entry ≡ Some (with_td_on retired_td pipe entry)
retired_on-is pipe entry left = ap (λ b. if b then Some (with_td_on retired_td pipe entry) else None) left

-- THE PIPES

-- the TD on another pipe is as it was
pub record IsSameOn (pipe : Pipe) (old new : Entry) : Type 0 where
  pub left : is_left_over_on pipe new ≡ is_left_over_on pipe old
  pub trb : has_trb_on pipe new ≡ has_trb_on pipe old

same-in : (change : Td → Td) (trbs : ℕ) (way : Direction) (td : Option Td) → way ≡ ToDevice → data_in_td way (option_map change td) ≡ data_in_td way td
same-in change trbs way td is = ap (λ w. data_in_td w (option_map change td)) is ∙ sym (ap (λ w. data_in_td w td) is)

same-out : (change : Td → Td) (trbs : ℕ) (way : Direction) (td : Option Td) → way ≡ ToHost → data_out_td way (option_map change td) ≡ data_out_td way td
same-out change trbs way td is = ap (λ w. data_out_td w (option_map change td)) is ∙ sym (ap (λ w. data_out_td w td) is)

pub changed-other : (change : Td → Td) (pipe other : Pipe) (entry : Entry) → is_left_over_on pipe entry ≡ true → same_pipe pipe other ≡ false →
    IsSameOn other entry (with_td_on change pipe entry)
changed-other change Command other entry left apart = absurd (false≢true left)
changed-other change Status Status entry left apart = absurd (false≢true (sym apart))
changed-other change DataIn DataIn entry left apart = absurd (false≢true (sym apart))
changed-other change DataIn DataOut entry left apart =
    let trbs : ℕ = data_trbs entry.task.request in
    let way : Direction = request_direction entry.task.request in
    let same = same-out change trbs way entry.data_td (left-in way entry.data_td left).0 in
    record { left = ap (λ td. is_td_left_over td) same; trb = ap (λ td. has_data_trb trbs td) same }
changed-other change DataOut DataIn entry left apart =
    let trbs : ℕ = data_trbs entry.task.request in
    let way : Direction = request_direction entry.task.request in
    let same = same-in change trbs way entry.data_td (left-out way entry.data_td left).0 in
    record { left = ap (λ td. is_td_left_over td) same; trb = ap (λ td. has_data_trb trbs td) same }
changed-other change DataOut DataOut entry left apart = absurd (false≢true (sym apart))
changed-other change pipe other entry left apart = record { left = refl; trb = refl }

-- where a change of a TD leaves it no TRB, its pipe has none of it
data-empty : (change : Td → Td) (trbs : ℕ) (td : Option Td) → ((t : Td) → has_trb (change t) trbs ≡ false) → has_data_trb trbs (option_map change td) ≡ false
data-empty change trbs None none = refl
data-empty change trbs (Some td) none = none td

in-empty : (trbs : ℕ) (way : Direction) (td : Option Td) → has_data_trb trbs td ≡ false → has_data_trb trbs (data_in_td way td) ≡ false
in-empty trbs way td none = in-either (λ old new. has_data_trb trbs new ≡ false) way td td refl none

out-empty : (trbs : ℕ) (way : Direction) (td : Option Td) → has_data_trb trbs td ≡ false → has_data_trb trbs (data_out_td way td) ≡ false
out-empty trbs way td none = out-either (λ old new. has_data_trb trbs new ≡ false) way td td refl none

pub changed-empty : (change : Td → Td) (pipe : Pipe) (entry : Entry) → ((td : Td) → has_trb (change td) (trbs_on pipe entry) ≡ false) →
    has_trb_on pipe (with_td_on change pipe entry) ≡ false
changed-empty change Command entry none = refl
changed-empty change Status entry none = none entry.status_td
changed-empty change DataIn entry none =
    let trbs : ℕ = data_trbs entry.task.request in
    in-empty trbs (request_direction entry.task.request) (option_map change entry.data_td) (data-empty change trbs entry.data_td none)
changed-empty change DataOut entry none =
    let trbs : ℕ = data_trbs entry.task.request in
    out-empty trbs (request_direction entry.task.request) (option_map change entry.data_td) (data-empty change trbs entry.data_td none)

pub ltb-self : (n : ℕ) → nat_lt n n ≡ false
ltb-self n =
    elim (nat_lt n n) as (λ b. nat_lt n n ≡ b → b ≡ false) [
      | true ↦ λ is. absurd (omega (arith, ltb-true n n is))
      | false ↦ λ is. refl
    ] refl

-- no TRB is left of a TD that was passed
pub passed-empty : (pipe : Pipe) (entry : Entry) → has_trb_on pipe (passed_on pipe entry) ≡ false
passed-empty pipe entry =
    let trbs : ℕ = trbs_on pipe entry in
    changed-empty (passed_td trbs) pipe entry (λ td. and_right (is_in_ring td.state) (nat_lt trbs trbs) (ltb-self trbs))

data-whole : (trbs : ℕ) (td : Option Td) → is_td_left_over td ≡ true → is_whole trbs (option_map (passed_td trbs) td) ≡ true
data-whole trbs None left = absurd (false≢true left)
data-whole trbs (Some td) left = self_equal trbs

pub passed-whole : (pipe : Pipe) (entry : Entry) → is_left_over_on pipe entry ≡ true → is_whole_on pipe (passed_on pipe entry) ≡ true
passed-whole Command entry left = absurd (false≢true left)
passed-whole Status entry left = refl
passed-whole DataIn entry left =
    let trbs : ℕ = data_trbs entry.task.request in
    let way : Direction = request_direction entry.task.request in
    let is = left-in way entry.data_td left in
    ap (λ w. is_whole trbs (data_in_td w (option_map (passed_td trbs) entry.data_td))) is.0 ∙ data-whole trbs entry.data_td is.1
passed-whole DataOut entry left =
    let trbs : ℕ = data_trbs entry.task.request in
    let way : Direction = request_direction entry.task.request in
    let is = left-out way entry.data_td left in
    ap (λ w. is_whole trbs (data_out_td w (option_map (passed_td trbs) entry.data_td))) is.0 ∙ data-whole trbs entry.data_td is.1

-- nor of one that was retired
pub retired-empty : (pipe : Pipe) (entry : Entry) → has_trb_on pipe (with_td_on retired_td pipe entry) ≡ false
retired-empty pipe entry = changed-empty retired_td pipe entry (λ td. refl)

-- a TD that was passed is still left over
data-still : (trbs : ℕ) (td : Option Td) → is_td_left_over (option_map (passed_td trbs) td) ≡ is_td_left_over td
data-still trbs None = refl
data-still trbs (Some td) = refl

in-still : (way : Direction) (one other : Option Td) → is_td_left_over one ≡ is_td_left_over other
    → is_td_left_over (data_in_td way one) ≡ is_td_left_over (data_in_td way other)
in-still way one other is = in-either (λ old new. is_td_left_over old ≡ is_td_left_over new) way one other refl is

out-still : (way : Direction) (one other : Option Td) → is_td_left_over one ≡ is_td_left_over other
    → is_td_left_over (data_out_td way one) ≡ is_td_left_over (data_out_td way other)
out-still way one other is = out-either (λ old new. is_td_left_over old ≡ is_td_left_over new) way one other refl is

pub passed-still : (pipe : Pipe) (entry : Entry) → is_left_over_on pipe (passed_on pipe entry) ≡ is_left_over_on pipe entry
passed-still Command entry = refl
passed-still Status entry = refl
passed-still DataIn entry =
    in-still (request_direction entry.task.request) (option_map (passed_td (data_trbs entry.task.request)) entry.data_td) entry.data_td
    (data-still (data_trbs entry.task.request) entry.data_td)
passed-still DataOut entry =
    out-still (request_direction entry.task.request) (option_map (passed_td (data_trbs entry.task.request)) entry.data_td) entry.data_td
    (data-still (data_trbs entry.task.request) entry.data_td)

-- one that was retired isn't
gone : (td : Option Td) → is_td_left_over (option_map retired_td td) ≡ false
gone None = refl
gone (Some td) = refl

pub retired-gone : (pipe : Pipe) (entry : Entry) → is_left_over_on pipe (with_td_on retired_td pipe entry) ≡ false
retired-gone Command entry = refl
retired-gone Status entry = refl
retired-gone DataIn entry = over-left_in (request_direction entry.task.request) (option_map retired_td entry.data_td) (gone entry.data_td)
retired-gone DataOut entry = over-left_out (request_direction entry.task.request) (option_map retired_td entry.data_td) (gone entry.data_td)
