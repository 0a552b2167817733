-- Each turn's calls on the device.
use Rattle.std.proofs.Common.{◌≡◌, ℕ, zero, suc, ◌==◌, Bool, true, false, cond, List, [], ◌∷◌, ◌++◌, Option, Some, None, refl, ap, sym, ◌∙◌, inl, inr, arith}
use Rattle.std.proofs.lemmas.Bool.{and_parts, ne_eqb}
use Rattle.std.specs.Prelude.{◌||◌}
use Rattle.guest_pipes.specs.declared.acted.Acted.{Acted}
use Rattle.guest_pipes.specs.declared.acted.Acted.TheVariants.{Idle}
use Rattle.guest_tasks.specs.declared.GuestTasks.{GuestTasks}
use Rattle.guest_tasks.specs.Tasks.{chunk_in, tasks_kind}
use Rattle.guest_transfers.specs.Orders.{data_stepped}
use Rattle.guest_transfers.specs.Steps.{command_stepped, command_world, status_stepped}
use Rattle.guest_transfers.specs.declared.control.StreamPipe.{StreamPipe}
use Rattle.guest_transfers.specs.declared.control.StreamPipe.TheVariants.{Status, DataOut, DataIn}
use Rattle.uas_tasks.specs.Machine.{Machine, gave, received, took, wanted, without_task}
use Rattle.units_apart.specs.Calls.{Call, Receive, Give, Take, Send, EndTasks, called}
use Rattle.units_apart.specs.Runs.{after}
use Rattle.xhci_control.specs.declared.pipe.Served.{Served}
use Rattle.xhci_control.specs.Steps.{ControlWorld, stepped}
use Rattle.xhci_machine.specs.Rounds.{Turning, command_by, command_pipe_stepped, control_stepped, control_world, data_due, data_of, is_stray, stray_by, stray_stepped, noted_in, pipes_turned, ring_on, served, status_due, status_of, then_commands, then_control, then_stray, then_pipes, then_port, transfers_world, turned, with_transfers}
use Rattle.guest_bulk.specs.declared.bulk.Stepped.{Stepped}
use Rattle.guest_bulk.specs.Commands.{BulkWorld, unit_of}
use Rattle.guest_bulk.specs.Steps.{bulk_after, in_stepped, out_stepped}
use Rattle.uas_profile.specs.declared.Pipe.TheVariants.{Command}
use Rattle.guest_bulk.specs.Breaks.{in_break, out_break}
use Rattle.xhci_machine.specs.Bulk.{broken_kept, bulk_breaks, bulk_broken, bulk_home, bulk_kept, bulk_of, bulk_world, device_ended}
use Rattle.xhci_machine.specs.Bus.{fault_in, has_bulk, is_bulk, pipe_fault, stream_fault}
use Rattle.xhci_machine.specs.Contexts.{is_due}
use Rattle.xhci_machine.specs.Steps.{commands_stepped}
use Rattle.xhci_machine.specs.Turns.{World}
use Rattle.xhci_machine.specs.Worked.{then_status}
use Rattle.xhci_machine.proofs.Active.{noted_in_kept, port_kept, turned_kept}
use Rattle.xhci_machine.proofs.BulkDevice.{InCalls, OfBreak, OutCalls, bulk_in_kept, bulk_out_kept, in_break_kept, out_break_kept}
use Rattle.xhci_machine.proofs.Device.{Moves, Receives, Sends, command_pipe_kept, data_kept, either, of_each, of_tags, status_kept}
use Rattle.xhci_machine.proofs.RingStep.{commands_kept}
use Rattle.guest_units.specs.Rounds.{then_unit}
use Rattle.guest_units.specs.Turns.{AreBulk, AtMostOne, IsAnswerOn, IsBulk, IsBulkEnd, IsDataOn, IsEnd, IsUnitIn, Makes, StrayMakes, TurnMakes, tasks_of}

-- the device has these tasks
abbrev pub Has : Machine → GuestTasks → Type 0
Has tasks device = device.tasks ≡ tasks

-- it has what at most one call makes of them
abbrev pub Made : (Call → Type 0) → Machine → GuestTasks → Type 0
Made May start device = (calls : List Call) × Makes May start device.tasks calls

unmade : (May : Call → Type 0) (start : Machine) (device : GuestTasks) → Has start device → Made May start device
unmade May start device same = ([], record { one = tt {0}; is = same })

-- and so does what a step left
abbrev MadeIn : (Call → Type 0) → Machine → World × Option Acted → Type 0
MadeIn May start step = Made May start step.0.machine.device

-- LISTS
pub after_append : (start : Machine) (first rest : List Call) → after called start (first ++ rest) ≡ after called (after called start first) rest
after_append start [] rest = refl
after_append start (call ∷ first) rest = after_append (called start call) first rest

pub joined : (start middle end : Machine) (first rest : List Call) → middle ≡ after called start first → end ≡ after called middle rest
    → end ≡ after called start (first ++ rest)
joined start middle end first rest one two = two ∙ ap (λ m. after called m rest) one ∙ sym (after_append start first rest)

-- STEPS
pub data_made : (w : World) (tag : ℕ) → (calls : List Call) × Makes (IsDataOn tag) (tasks_of w) (tasks_of (data_of w tag).0) calls
unfolding data_of data_due
data_made w tag =
    let start : Machine = tasks_of w in
    let moves : Moves tasks_kind tag (Has start) (Made (IsDataOn tag) start) = record {
      stays = λ device same. unmade (IsDataOn tag) start device same;
      gave = λ device same.
          (Give tag (chunk_in (wanted start tag)) ∷ [], record { one = refl; is = ap (λ m. gave m tag (chunk_in (wanted m tag))) same });
      took = λ device bytes same. (Take tag bytes ∷ [], record { one = refl; is = ap (λ m. took m tag bytes) same });
    } in
    let none : Made (IsDataOn tag) start w.machine.device = unmade (IsDataOn tag) start w.machine.device refl in
    of_tags (MadeIn (IsDataOn tag) start) w (is_due (ring_on w.machine DataIn tag) || is_due (ring_on w.machine DataOut tag))
    (with_transfers w (data_stepped tasks_kind (transfers_world w) tag)) none none
    (data_kept tasks_kind tag (Has start) (Made (IsDataOn tag) start) moves (transfers_world w) refl)

pub status_made : (w : World) (tag : ℕ) → (calls : List Call) × Makes (IsAnswerOn tag) (tasks_of w) (tasks_of (status_of w tag).0) calls
unfolding status_of status_due
status_made w tag =
    let start : Machine = tasks_of w in
    let sends : Sends tasks_kind tag (Has start) (Made (IsAnswerOn tag) start) = record {
      stays = λ device same. unmade (IsAnswerOn tag) start device same;
      sent = λ device same. (Send tag ∷ [], record { one = refl; is = ap (λ m. without_task m tag) same });
    } in
    let none : Made (IsAnswerOn tag) start w.machine.device = unmade (IsAnswerOn tag) start w.machine.device refl in
    of_tags (MadeIn (IsAnswerOn tag) start) w (is_due (ring_on w.machine Status tag))
    (with_transfers w (status_stepped tasks_kind (transfers_world w) tag)) none none
    (status_kept tasks_kind tag (Has start) (Made (IsAnswerOn tag) start) sends (transfers_world w) refl)

by_fault_made : (fault : Option ℕ) (w : World) → Made (IsUnitIn w) (tasks_of w) w.machine.device
    → MadeIn (IsUnitIn w) (tasks_of w) (with_transfers w (command_stepped tasks_kind (transfers_world w)))
    → MadeIn (IsUnitIn w) (tasks_of w) (command_by fault w)
by_fault_made (Some code) w none served = none
by_fault_made None w none served = served

pub unit_made : (w : World) → (calls : List Call) × Makes (IsUnitIn w) (tasks_of w) (tasks_of (command_pipe_stepped w).0) calls
unfolding command_pipe_stepped
unit_made w =
    let start : Machine = tasks_of w in
    let from = command_world tasks_kind (transfers_world w) in
    let receives : Receives tasks_kind from (Has start) (Made (IsUnitIn w) start) = record {
      stays = λ device same. unmade (IsUnitIn w) start device same;
      received = λ device same. (Receive from.taken ∷ [], record { one = inl refl; is = ap (λ m. (received m from.taken).0) same });
      drawn = λ device buffer bytes is same. (
        Receive (from.taken ++ bytes) ∷ [],
        record {
          one = inr (buffer, bytes, is, refl);
          is = ap (λ m. (received m (from.taken ++ bytes)).0) same;
        },
      );
    } in
    let none : Made (IsUnitIn w) start w.machine.device = unmade (IsUnitIn w) start w.machine.device refl in
    of_each (MadeIn (IsUnitIn w) start) w (is_due w.machine.transfers.command) (command_by (pipe_fault w.machine Command) w) none none
    (by_fault_made (pipe_fault w.machine Command) w none
    (command_pipe_kept tasks_kind (Has start) (Made (IsUnitIn w) start) (transfers_world w) receives refl))

ended_made : (ends : Bool) (device : GuestTasks) → Made IsEnd device.tasks (device_ended ends device)
ended_made true device = (EndTasks ∷ [], record { one = tt {0}; is = refl })
ended_made false device = unmade IsEnd device.tasks device refl

served_made : (w : World) (done : ControlWorld × Option Served) → (calls : List Call) × Makes IsEnd (tasks_of w) (tasks_of (served w done).0) calls
served_made w (now, None) = unmade IsEnd (tasks_of w) w.machine.device refl
served_made w (now, Some how) = ended_made (how.restarted || how.bulk_reset) w.machine.device

pub control_made : (w : World) → (calls : List Call) × Makes IsEnd (tasks_of w) (tasks_of (control_stepped w).0) calls
unfolding control_stepped
control_made w =
    let none : Made IsEnd (tasks_of w) w.machine.device = unmade IsEnd (tasks_of w) w.machine.device refl in
    let done = stepped (fault_in w.machine) (control_world w) in
    of_each (MadeIn IsEnd (tasks_of w)) w (is_due w.machine.control.consumer) (served w done) none none (served_made w done)

-- BULK-OUT AND BULK-IN

-- what a step left: a call, and behind it the end of every task
abbrev BulkMade : World → StreamPipe → World × Option Acted → Type 0
BulkMade w name step = (calls : List Call) × AreBulk w name calls × (tasks_of step.0 ≡ after called (tasks_of w) calls)

no_bulk : (w : World) (name : StreamPipe) (now : World × Option Acted) → tasks_of now.0 ≡ tasks_of w → BulkMade w name now
no_bulk w name now same = ([], ([], [], tt {0}, tt {0}, refl), same)

abbrev end_of : (ends : Bool) → List Call
end_of true = EndTasks ∷ []
end_of false = []

end_is : (w : World) (ends : Bool) → is_bulk w.machine ≡ true → AtMostOne (IsBulkEnd w) (end_of ends)
end_is w true bulk = (bulk, tt {0})
end_is w false bulk = tt {0}

end_made : (ends : Bool) (device : GuestTasks) → (device_ended ends device).tasks ≡ after called device.tasks (end_of ends)
end_made true device = refl
end_made false device = refl

left_made : (w : World) (name : StreamPipe) (done : BulkWorld GuestTasks × Option Stepped) → is_bulk w.machine ≡ true
    → Made (IsBulk w name) (tasks_of w) done.0.device → BulkMade w name (bulk_kept name w done)
left_made w name (now, None) bulk made = (made.0 ++ [], (made.0, [], made.1.one, tt {0}, refl), joined (tasks_of w) now.device.tasks now.device.tasks made.0 [] made.1.is refl)
left_made w name (now, Some how) bulk made = (
  made.0 ++ end_of how.ends,
  (made.0, end_of how.ends, made.1.one, end_is w how.ends bulk, refl),
  joined (tasks_of w) now.device.tasks (device_ended how.ends now.device).tasks made.0 (end_of how.ends) made.1.is (end_made how.ends now.device),
)

bulk_made : (fault : Option ℕ) (w : World) (name : StreamPipe) → is_bulk w.machine ≡ true → BulkMade w name (bulk_of fault w name)
bulk_made fault w Status bulk = no_bulk w Status (bulk_of fault w Status) refl
bulk_made fault w DataOut bulk =
    let start : Machine = tasks_of w in
    let May : Call → Type 0 = IsBulk w DataOut in
    let from = bulk_world w.memory w.events w.machine DataOut in
    let calls : OutCalls tasks_kind from (Has start) (Made May start) = record {
      stays = λ device same. unmade May start device same;
      took = λ device bytes same. (Take 1 bytes ∷ [], record { one = (bulk, refl); is = ap (λ m. took m 1 bytes) same });
      received = λ device cbw is same. (
        Receive (unit_of cbw) ∷ [],
        record { one = (bulk, (from.bulk.taken, cbw, inl refl, is, refl)); is = ap (λ m. (received m (unit_of cbw)).0) same },
      );
      drawn = λ device buffer bytes cbw is reads same. (
        Receive (unit_of cbw) ∷ [],
        record {
          one = (bulk, (from.bulk.taken ++ bytes, cbw, inr (buffer, bytes, is, refl), reads, refl));
          is = ap (λ m. (received m (unit_of cbw)).0) same;
        },
      );
    } in
    left_made w DataOut (bulk_after from (out_stepped tasks_kind fault from (bulk_home w.machine DataOut))) bulk
    (bulk_out_kept tasks_kind from (Has start) (Made May start) calls fault (bulk_home w.machine DataOut) refl)
bulk_made fault w DataIn bulk =
    let start : Machine = tasks_of w in
    let May : Call → Type 0 = IsBulk w DataIn in
    let from = bulk_world w.memory w.events w.machine DataIn in
    let calls : InCalls tasks_kind (Has start) (Made May start) = record {
      stays = λ device same. unmade May start device same;
      gave = λ device same.
          (Give 1 (chunk_in (wanted start 1)) ∷ [], record { one = (bulk, refl); is = ap (λ m. gave m 1 (chunk_in (wanted m 1))) same });
      sent = λ device same. (Send 1 ∷ [], record { one = (bulk, refl); is = ap (λ m. without_task m 1) same });
    } in
    left_made w DataIn (bulk_after from (in_stepped tasks_kind fault from (bulk_home w.machine DataIn))) bulk
    (bulk_in_kept tasks_kind (Has start) (Made May start) calls fault from (bulk_home w.machine DataIn) refl)

broken_left : (w : World) (name : StreamPipe) (broke : Option (BulkWorld GuestTasks × Stepped)) → is_bulk w.machine ≡ true
    → OfBreak (Has (tasks_of w)) broke → BulkMade w name (broken_kept w broke)
broken_left w name None bulk same = no_bulk w name (w, Some Idle) refl
broken_left w name (Some done) bulk same = (
  end_of done.1.ends,
  ([], end_of done.1.ends, tt {0}, end_is w done.1.ends bulk, refl),
  end_made done.1.ends done.0.device ∙ ap (λ m. after called m (end_of done.1.ends)) same,
)

broken_made : (w : World) (name : StreamPipe) → is_bulk w.machine ≡ true → BulkMade w name (bulk_broken w name)
broken_made w Status bulk = no_bulk w Status (bulk_broken w Status) refl
broken_made w DataOut bulk =
    let from = bulk_world w.memory w.events w.machine DataOut in
    broken_left w DataOut (out_break tasks_kind from) bulk (out_break_kept tasks_kind (Has (tasks_of w)) from.bulk.stage from refl)
broken_made w DataIn bulk =
    let from = bulk_world w.memory w.events w.machine DataIn in
    broken_left w DataIn (in_break tasks_kind from) bulk (in_break_kept tasks_kind (Has (tasks_of w)) from.bulk.stage from refl)

stray_by_made : (fault : Option ℕ) (bulk : Bool) (w : World) (name : StreamPipe) → (bulk ≡ true → is_bulk w.machine ≡ true)
    → BulkMade w name (stray_by fault bulk w name)
stray_by_made (Some code) false w name same = no_bulk w name (stray_by (Some code) false w name) refl
stray_by_made None false w name same = no_bulk w name (stray_by None false w name) refl
stray_by_made (Some code) true w name same = bulk_made (Some code) w name (same refl)
stray_by_made None true w name same =
    either (BulkMade w name) (bulk_breaks w.machine name) (bulk_broken w name) (bulk_of None w name) (broken_made w name (same refl)) (bulk_made None w name (same refl))

stray_made : (w : World) (name : StreamPipe) → BulkMade w name (stray_stepped w name)
unfolding stray_stepped
stray_made w name =
    let fault = stream_fault w.machine name in
    of_each (BulkMade w name) w (is_stray w.machine name) (stray_by fault (has_bulk w.machine name) w name)
    (no_bulk w name (w, Some Idle) refl) (no_bulk w name (w, None) refl)
    (stray_by_made fault (has_bulk w.machine name) w name (λ has. (and_parts (is_bulk w.machine) _ has).0))

-- TURNS
abbrev pub then_step : (World → World × Option Acted) → Turning → Turning
then_step step (at, false) = (at, false)
then_step step (at, true) = turned at.1 at.0 (step at.0)

pub turn_made : (May : World → Call → Type 0) (step : World → World × Option Acted)
    → ((w : World) → (calls : List Call) × Makes (May w) (tasks_of w) (tasks_of (step w).0) calls) → (t : Turning)
    → (calls : List Call) × TurnMakes May step t calls × (tasks_of (then_step step t).0.0 ≡ after called (tasks_of t.0.0) calls)
turn_made May step makes (at, false) = ([], refl, refl)
turn_made May step makes ((w, zero), true) = ([], refl, refl)
turn_made May step makes ((w, suc left), true) =
    let made = makes w in
    let some : (suc left == 0) ≡ false = ne_eqb (suc left) 0 (λ is. omega (arith, is)) in
    let stepped : tasks_of (turned (suc left) w (step w)).0.0 ≡ tasks_of (noted_in (suc left) (step w)).0.0 =
    ap (λ b. tasks_of (cond b (let none : Turning = ((w, 0), true) in none) (noted_in (suc left) (step w))).0.0) some in
    (made.0, made.1, stepped ∙ noted_in_kept (Has (tasks_of (step w).0)) (suc left) (step w) refl ∙ made.1.is)

-- those that make no call
pub port_same : (t : Turning) → tasks_of (then_port t).0.0 ≡ tasks_of t.0.0
port_same (at, false) = refl
port_same (at, true) = port_kept (Has (tasks_of at.0)) at.1 at.0 refl

pub commands_same : (t : Turning) → tasks_of (then_commands t).0.0 ≡ tasks_of t.0.0
commands_same (at, false) = refl
commands_same (at, true) =
    turned_kept (Has (tasks_of at.0)) at.1 at.0 (commands_stepped at.0) refl (commands_kept (Has (tasks_of at.0)) at.0 refl)

pub strays_made : (name : StreamPipe) (t : Turning)
    → (calls : List Call) × StrayMakes name t calls × (tasks_of (then_stray name t).0.0 ≡ after called (tasks_of t.0.0) calls)
strays_made name (at, false) = ([], refl, refl)
strays_made name ((w, zero), true) = ([], refl, refl)
strays_made name ((w, suc left), true) =
    let made = stray_made w name in
    let step = stray_stepped w name in
    let some : (suc left == 0) ≡ false = ne_eqb (suc left) 0 (λ is. omega (arith, is)) in
    let stepped : tasks_of (turned (suc left) w step).0.0 ≡ tasks_of (noted_in (suc left) step).0.0 =
    ap (λ b. tasks_of (cond b (let none : Turning = ((w, 0), true) in none) (noted_in (suc left) step)).0.0) some in
    (made.0, (made.1, made.2), stepped ∙ noted_in_kept (Has (tasks_of step.0)) (suc left) step refl ∙ made.2)

pub control_then : (t : Turning) → tasks_of (then_control t).0.0 ≡ tasks_of (then_step control_stepped t).0.0
control_then (at, false) = refl
control_then (at, true) = refl

pub status_then : (tag : ℕ) (t : Turning) → tasks_of (then_status tag t).0.0 ≡ tasks_of (then_step (λ w. status_of w tag) t).0.0
status_then tag (at, false) = refl
status_then tag (at, true) = refl

pub unit_then : (t : Turning) → tasks_of (then_unit t).0.0 ≡ tasks_of (then_step command_pipe_stepped t).0.0
unit_then (at, false) = refl
unit_then (at, true) = refl

pub pipes_then : (t : Turning) → tasks_of (then_pipes t).0.0 ≡ tasks_of (then_stray DataIn (then_stray DataOut (then_stray Status (then_unit t)))).0.0
unfolding pipes_turned
pipes_then (at, false) = refl
pipes_then (at, true) = refl
