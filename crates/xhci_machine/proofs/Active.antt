-- Each tag with a task is active, and stays so over rounds.
use Rattle.std.proofs.Common.{◌≡◌, ℕ, zero, suc, ◌-◌, ◌<◌, ◌==◌, List, ◌++◌, Bool, true, false, cond, Option, Some, None, sym, subst, arith, inl, inr}
use Rattle.std.specs.Prelude.{◌⊎◌, ◌||◌, not}
use Rattle.std.proofs.lemmas.Bool.{false≢true}
use Rattle.guest_pipes.specs.declared.acted.Acted.{Acted}
use Rattle.guest_pipes.specs.declared.acted.Acted.TheVariants.{Off, Idle, Full, Emptied, Waits, Worked as HasWorked}
use Rattle.guest_pipes.specs.Step.{has_place}
use Rattle.guest_memory.specs.rings.Events.{has_room}
use Rattle.guest_tasks.specs.declared.GuestTasks.{GuestTasks}
use Rattle.guest_tasks.specs.Active.{TasksAreActive, rested}
use Rattle.guest_tasks.specs.Tasks.{tasks_kind}
use Rattle.guest_transfers.specs.Orders.{data_stepped}
use Rattle.guest_transfers.specs.Steps.{command_stepped, command_world, status_stepped}
use Rattle.guest_transfers.specs.declared.control.StreamPipe.{StreamPipe}
use Rattle.guest_transfers.specs.declared.control.StreamPipe.TheVariants.{Status, DataOut, DataIn}
use Rattle.marks.specs.Marks.{is_marked}
use Rattle.uas_tasks.specs.Machine.{tasks_ended}
use Rattle.xhci_control.specs.declared.pipe.Served.{Served}
use Rattle.xhci_control.specs.Steps.{ControlWorld, stepped}
use Rattle.xhci_machine.specs.declared.Machine.{Machine}
use Rattle.xhci_machine.specs.declared.states.States.{States}
use Rattle.xhci_machine.specs.declared.work.Worked.{Worked}
use Rattle.guest_bulk.specs.declared.bulk.Stepped.{Stepped}
use Rattle.guest_bulk.specs.Commands.{BulkWorld, unit_of}
use Rattle.guest_bulk.specs.Steps.{bulk_after, in_stepped, out_stepped}
use Rattle.uas_profile.specs.declared.Pipe.TheVariants.{Command}
use Rattle.guest_bulk.specs.Breaks.{in_break, out_break}
use Rattle.xhci_machine.specs.Bulk.{broken_kept, bulk_breaks, bulk_broken, bulk_home, bulk_kept, bulk_of, bulk_world, device_ended}
use Rattle.xhci_machine.specs.Bus.{fault_in, has_bulk, pipe_fault, stream_fault}
use Rattle.xhci_machine.specs.Contexts.{is_due}
use Rattle.xhci_machine.specs.Ring.{states_of}
use Rattle.xhci_machine.specs.Laws.{AllTasksAreIdle, IsFailed, IsLeftIdle, IsTaskIdle, come_to}
use Rattle.xhci_machine.specs.Rounds.{Turning, command_by, command_pipe_stepped, control_stepped, control_world, data_due, data_of, front_turned, is_stray, stray_by, stray_stepped, noted_in, pipes_turned, port_in, ring_on, served, settled_in, status_due, status_of, then_commands, then_control, then_stray, then_pipes, then_port, transfers_world, turned, with_transfers}
use Rattle.xhci_machine.specs.Steps.{commands_stepped}
use Rattle.xhci_machine.specs.Turns.{World, detected, full_posted, has_full, interrupted, noted, port_posted, port_turned, settled, states_told, tells_port, told_if, told_of_port}
use Rattle.xhci_machine.specs.Worked.{IsOver, RoundsTurned, RoundsWorked, busy_turned, dropped_at, gone_dropped, is_busy, is_gone, tag_by, tag_turned, tags_turned, then_status, then_tag, turned_if}
use Rattle.xhci_machine.proofs.BulkDevice.{InCalls, OfBreak, OutCalls, bulk_in_kept, bulk_out_kept, in_break_kept, out_break_kept}
use Rattle.xhci_machine.proofs.Device.{Moves, Receives, Sends, command_pipe_kept, data_kept, either, of_each, of_tags, status_kept}
use Rattle.xhci_machine.proofs.Nothing.{nothing_of}
use Rattle.xhci_machine.proofs.RingStep.{commands_kept}

-- What is no call keeps all that holds of the device.
module _ (P : GuestTasks → Type 0) where
  abbrev pub Holds : World → Type 0
  Holds w = P w.machine.device

  pub interrupted_kept : (asks : Bool) (m : Machine) → P m.device → P (interrupted asks m).device
  interrupted_kept true m p = p
  interrupted_kept false m p = p

  told_kept : (tells : Bool) (states : States) (m : Machine) → P m.device → P (told_if tells states m).device
  told_kept true states m p = p
  told_kept false states m p = p

  pub settled_kept : (w : World) → Holds w → Holds (settled w).0
  unfolding settled
  settled_kept w p =
      told_kept (states_told w.memory w.machine.slot w.machine.told (states_of w.machine)).1 (states_of w.machine)
      (interrupted w.events.asks w.machine) (interrupted_kept w.events.asks w.machine p)

  pub noted_kept : (acted : Acted) (w : World) → Holds w → Holds (noted w acted).0
  unfolding noted
  noted_kept Off w p = p
  noted_kept Idle w p = p
  noted_kept Full w p =
      either (λ (x : World × Bool). Holds x.0) (has_full w) (settled (full_posted w)) (full_posted w, false) (settled_kept (full_posted w) p) p
  noted_kept Emptied w p = settled_kept w p
  noted_kept Waits w p = p
  noted_kept HasWorked w p = settled_kept w p

  pub noted_in_kept : (left : ℕ) (step : World × Option Acted) → Holds step.0 → Holds (noted_in left step).0.0
  noted_in_kept left (w, None) p = p
  noted_in_kept left (w, Some acted) p = noted_kept acted w p

  pub turned_kept : (left : ℕ) (w : World) (step : World × Option Acted) → Holds w → Holds step.0 → Holds (turned left w step).0.0
  turned_kept left w step p q = either (λ (t : Turning). Holds t.0.0) (left == 0) ((w, 0), true) (noted_in left step) p (noted_in_kept left step q)

  pub port_told_kept : (w : World) → Holds w → Holds (told_of_port w).0
  unfolding told_of_port
  port_told_kept w p =
      let Q : World × Bool → Type 0 = λ x. Holds x.0 in
      let posted : World × Bool = noted (port_posted w) HasWorked in
      let third : World × Bool = cond (has_place w.memory w.events) posted (w, false) in
      let second : World × Bool = cond (not (has_room w.events)) (noted w Full) third in
      either Q (not w.machine.registers.port.owes_event) (w, true) second p
      (either Q (not (has_room w.events)) (noted w Full) third (noted_kept Full w p)
      (either Q (has_place w.memory w.events) posted (w, false) (noted_kept HasWorked (port_posted w) p) p))

  pub port_kept : (left : ℕ) (w : World) → Holds w → Holds (port_in left w).0.0
  port_kept left w p =
      let tells : Turning = (((port_turned w).0, cond (tells_port w) (left - 1) left), (port_turned w).1) in
      either (λ (t : Turning). Holds t.0.0) (left == 0) ((w, 0), true) tells p (port_told_kept (detected w) p)

  pub dropped_kept : (w : World) (tag : ℕ) → Holds w → Holds (dropped_at w tag)
  unfolding gone_dropped
  dropped_kept w tag p = either (λ (m : Machine). P m.device) (is_gone w.machine tag) _ w.machine p p

-- what each call on the device keeps
pub record KeptByAll (P : GuestTasks → Type 0) : Type 0 where
  pub gave : (device : GuestTasks) (tag : ℕ) → P device → P (tasks_kind.gave device tag)
  pub took : (device : GuestTasks) (tag : ℕ) (bytes : List ℕ) → P device → P (tasks_kind.took device tag bytes)
  pub sent : (device : GuestTasks) (tag : ℕ) → P device → P (tasks_kind.sent device tag)
  pub received : (device : GuestTasks) (bytes : List ℕ) → P device → P (tasks_kind.received device bytes).0
  pub rests : (device : GuestTasks) (tag : ℕ) → P device → P (rested device tag)
  pub ends : (device : GuestTasks) → P device → P (record device { tasks = tasks_ended device.tasks })

module _ (P : GuestTasks → Type 0) (kept : KeptByAll P) where
  device_kept : (ends : Bool) (device : GuestTasks) → P device → P (device_ended ends device)
  device_kept true device p = kept.ends device p
  device_kept false device p = p

  served_kept : (w : World) (done : ControlWorld × Option Served) → Holds P w → Holds P (served w done).0
  served_kept w (after, None) p = p
  served_kept w (after, Some how) p = device_kept (how.restarted || how.bulk_reset) w.machine.device p

  control_kept : (w : World) → Holds P w → Holds P (control_stepped w).0
  unfolding control_stepped
  control_kept w p =
      let done = stepped (fault_in w.machine) (control_world w) in
      of_each (λ (x : World × Option Acted). Holds P x.0) w (is_due w.machine.control.consumer) (served w done) p p (served_kept w done p)

  unit_kept : (fault : Option ℕ) (w : World) → Holds P w → Holds P (with_transfers w (command_stepped tasks_kind (transfers_world w))).0
      → Holds P (command_by fault w).0
  unit_kept (Some code) w p served = p
  unit_kept None w p served = served

  pipe_kept : (w : World) → Holds P w → Holds P (command_pipe_stepped w).0
  unfolding command_pipe_stepped
  pipe_kept w p =
      let from = command_world tasks_kind (transfers_world w) in
      let receives : Receives tasks_kind from P P = record {
        stays = λ device p. p;
        received = λ device p. kept.received device from.taken p;
        drawn = λ device buffer bytes is p. kept.received device (from.taken ++ bytes) p;
      } in
      of_each (λ (x : World × Option Acted). Holds P x.0) w (is_due w.machine.transfers.command) (command_by (pipe_fault w.machine Command) w) p p
      (unit_kept (pipe_fault w.machine Command) w p (command_pipe_kept tasks_kind P P (transfers_world w) receives p))

  left_kept : (name : StreamPipe) (w : World) (done : BulkWorld GuestTasks × Option Stepped) → P done.0.device → Holds P (bulk_kept name w done).0
  left_kept name w (after, None) p = p
  left_kept name w (after, Some how) p = device_kept how.ends after.device p

  bulk_kept_by : (fault : Option ℕ) (w : World) (name : StreamPipe) → Holds P w → Holds P (bulk_of fault w name).0
  bulk_kept_by fault w Status p = p
  bulk_kept_by fault w DataOut p =
      let from = bulk_world w.memory w.events w.machine DataOut in
      let calls : OutCalls tasks_kind from P P = record {
        stays = λ device p. p;
        took = λ device bytes p. kept.took device 1 bytes p;
        received = λ device cbw is p. kept.received device (unit_of cbw) p;
        drawn = λ device buffer bytes cbw is reads p. kept.received device (unit_of cbw) p;
      } in
      left_kept DataOut w (bulk_after from (out_stepped tasks_kind fault from (bulk_home w.machine DataOut)))
      (bulk_out_kept tasks_kind from P P calls fault (bulk_home w.machine DataOut) p)
  bulk_kept_by fault w DataIn p =
      let from = bulk_world w.memory w.events w.machine DataIn in
      let calls : InCalls tasks_kind P P = record {
        stays = λ device p. p;
        gave = λ device p. kept.gave device 1 p;
        sent = λ device p. kept.sent device 1 p;
      } in
      left_kept DataIn w (bulk_after from (in_stepped tasks_kind fault from (bulk_home w.machine DataIn)))
      (bulk_in_kept tasks_kind P P calls fault from (bulk_home w.machine DataIn) p)

  broken_left : (w : World) (broke : Option (BulkWorld GuestTasks × Stepped)) → Holds P w → OfBreak P broke → Holds P (broken_kept w broke).0
  broken_left w None p q = p
  broken_left w (Some done) p q = device_kept done.1.ends done.0.device q

  broken_by : (w : World) (name : StreamPipe) → Holds P w → Holds P (bulk_broken w name).0
  broken_by w Status p = p
  broken_by w DataOut p =
      let from = bulk_world w.memory w.events w.machine DataOut in
      broken_left w (out_break tasks_kind from) p (out_break_kept tasks_kind P from.bulk.stage from p)
  broken_by w DataIn p =
      let from = bulk_world w.memory w.events w.machine DataIn in
      broken_left w (in_break tasks_kind from) p (in_break_kept tasks_kind P from.bulk.stage from p)

  stray_by_kept : (fault : Option ℕ) (bulk : Bool) (w : World) (name : StreamPipe) → Holds P w → Holds P (stray_by fault bulk w name).0
  stray_by_kept (Some code) false w name p = p
  stray_by_kept None false w name p = p
  stray_by_kept (Some code) true w name p = bulk_kept_by (Some code) w name p
  stray_by_kept None true w name p =
      either (λ (x : World × Option Acted). Holds P x.0) (bulk_breaks w.machine name) (bulk_broken w name) (bulk_of None w name)
      (broken_by w name p) (bulk_kept_by None w name p)

  stray_kept : (w : World) (name : StreamPipe) → Holds P w → Holds P (stray_stepped w name).0
  unfolding stray_stepped
  stray_kept w name p =
      let fault = stream_fault w.machine name in
      of_each (λ (x : World × Option Acted). Holds P x.0) w (is_stray w.machine name) (stray_by fault (has_bulk w.machine name) w name) p p
      (stray_by_kept fault (has_bulk w.machine name) w name p)

  data_of_kept : (w : World) (tag : ℕ) → Holds P w → Holds P (data_of w tag).0
  unfolding data_of data_due
  data_of_kept w tag p =
      let moves : Moves tasks_kind tag P P = record {
        stays = λ device p. p;
        gave = λ device p. kept.gave device tag p;
        took = λ device bytes p. kept.took device tag bytes p;
      } in
      let step = with_transfers w (data_stepped tasks_kind (transfers_world w) tag) in
      of_tags (λ (x : World × Option Acted). Holds P x.0) w (is_due (ring_on w.machine DataIn tag) || is_due (ring_on w.machine DataOut tag)) step p p
      (data_kept tasks_kind tag P P moves (transfers_world w) p)

  status_of_kept : (w : World) (tag : ℕ) → Holds P w → Holds P (status_of w tag).0
  unfolding status_of status_due
  status_of_kept w tag p =
      let sends : Sends tasks_kind tag P P = record { stays = λ device p. p; sent = λ device p. kept.sent device tag p } in
      let step = with_transfers w (status_stepped tasks_kind (transfers_world w) tag) in
      of_tags (λ (x : World × Option Acted). Holds P x.0) w (is_due (ring_on w.machine Status tag)) step p p
      (status_kept tasks_kind tag P P sends (transfers_world w) p)

  port_then : (t : Turning) → Holds P t.0.0 → Holds P (then_port t).0.0
  port_then (at, false) p = p
  port_then (at, true) p = port_kept P at.1 at.0 p

  commands_then : (t : Turning) → Holds P t.0.0 → Holds P (then_commands t).0.0
  commands_then (at, false) p = p
  commands_then (at, true) p = turned_kept P at.1 at.0 (commands_stepped at.0) p (commands_kept P at.0 p)

  control_then : (t : Turning) → Holds P t.0.0 → Holds P (then_control t).0.0
  control_then (at, false) p = p
  control_then (at, true) p = turned_kept P at.1 at.0 (control_stepped at.0) p (control_kept at.0 p)

  stray_then : (name : StreamPipe) (t : Turning) → Holds P t.0.0 → Holds P (then_stray name t).0.0
  stray_then name (at, false) p = p
  stray_then name (at, true) p = turned_kept P at.1 at.0 (stray_stepped at.0 name) p (stray_kept at.0 name p)

  pipes_kept : (left : ℕ) (w : World) → Holds P w → Holds P (pipes_turned left w).0.0
  unfolding pipes_turned
  pipes_kept left w p =
      let first : Turning = turned left w (command_pipe_stepped w) in
      stray_then DataIn (then_stray DataOut (then_stray Status first))
      (stray_then DataOut (then_stray Status first) (stray_then Status first (turned_kept P left w (command_pipe_stepped w) p (pipe_kept w p))))

  pipes_then : (t : Turning) → Holds P t.0.0 → Holds P (then_pipes t).0.0
  pipes_then (at, false) p = p
  pipes_then (at, true) p = pipes_kept at.1 at.0 p

  pub front_kept : (left : ℕ) (w : World) → Holds P w → Holds P (front_turned left w).0.0
  unfolding front_turned
  front_kept left w p =
      let first : Turning = settled_in left w in
      pipes_then (then_control (then_commands (then_port first)))
      (control_then (then_commands (then_port first)) (commands_then (then_port first) (port_then first (settled_kept P w p))))

  status_then : (tag : ℕ) (t : Turning) → Holds P t.0.0 → Holds P (then_status tag t).0.0
  status_then tag (at, false) p = p
  status_then tag (at, true) p = turned_kept P at.1 at.0 (status_of at.0 tag) p (status_of_kept at.0 tag p)

  busy_kept : (left tag : ℕ) (w : World) → Holds P w → Holds P (busy_turned left tag w).0.0
  unfolding busy_turned
  busy_kept left tag w p = status_then tag (turned left w (data_of w tag)) (turned_kept P left w (data_of w tag) p (data_of_kept w tag p))

  by_kept : (busy : Bool) (left tag : ℕ) (w : World) → Holds P w → Holds P (tag_by busy left tag w).0.0
  by_kept true left tag w p = busy_kept left tag w p
  by_kept false left tag w p = kept.rests w.machine.device tag p

  tag_kept : (left tag : ℕ) (w : World) → Holds P w → Holds P (tag_turned left tag w).0.0
  unfolding tag_turned
  tag_kept left tag w p =
      let busy = is_busy (dropped_at w tag).machine tag in
      either (λ (t : Turning). Holds P t.0.0) (left == 0) ((w, 0), true) (tag_by busy left tag (dropped_at w tag)) p
      (by_kept busy left tag (dropped_at w tag) (dropped_kept P w tag p))

  turned_if_kept : (b : Bool) (tag : ℕ) (at : World × ℕ) → Holds P at.0 → Holds P (turned_if b tag at).0.0
  turned_if_kept true tag at p = tag_kept at.1 tag at.0 p
  turned_if_kept false tag at p = p

  tag_then : (tag : ℕ) (t : Turning) → Holds P t.0.0 → Holds P (then_tag tag t).0.0
  tag_then tag (at, false) p = p
  tag_then tag (at, true) p = turned_if_kept (is_marked at.0.machine.device.active tag) tag at p

  pub tags_kept : (tag : ℕ) (t : Turning) → Holds P t.0.0 → Holds P (tags_turned tag t).0.0
  unfolding tags_turned
  tags_kept zero t p = p
  tags_kept (suc tag) t p = tag_then tag (tags_turned tag t) (tags_kept tag t p)

  pub come_kept : (tag : ℕ) (at : World × ℕ) → Holds P at.0 → Holds P (come_to tag at).0.0
  come_kept tag at p = tags_kept tag (front_turned at.1 at.0) (front_kept at.1 at.0 p)

  -- ROUNDS
  pub rounds_kept : (n : ℕ) (at after : World × ℕ) → RoundsTurned n at after → Holds P at.0 → Holds P after.0
  rounds_kept zero at after turned p = subst (λ (end : World × ℕ). Holds P end.0) (sym turned) p
  rounds_kept (suc n) at after turned p =
      subst (λ (t : Turning). Holds P t.0.0) (sym turned.2)
      (come_kept 241 turned.0 (rounds_kept n at turned.0 turned.1 p))

  over_kept : (at : World × ℕ) (after : World) (more : Bool) → IsOver at after more → Holds P at.0 → Holds P after
  over_kept at after true over p = subst (Holds P) (sym over.1) p
  over_kept at after false over p = elim over.1 [
    | inl last ↦ subst (λ (t : Turning). Holds P t.0.0) (sym last.2) (come_kept 241 at p)
    | inr last ↦
        let end : P last.0.0.machine.device = subst (λ (t : Turning). Holds P t.0.0) (sym last.1) (come_kept 241 at p) in
        subst (Holds P) (sym last.2) end
  ]

  pub worked_kept : (budget : ℕ) (w after : World) (worked : Worked) → RoundsWorked budget w after worked → Holds P w → Holds P after
  worked_kept budget w after worked rounds p =
      over_kept rounds.at after worked.more rounds.over (rounds_kept rounds.rounds (w, budget) rounds.at rounds.turned p)

-- a tag that is left idle, where each with a task is active
task_idle : (kept : KeptByAll TasksAreActive) (at : World × ℕ) (tag : ℕ) → tag < 241 → TasksAreActive at.0.machine.device → IsLeftIdle at tag
    → IsTaskIdle at tag
task_idle kept at tag below active idle =
    let seen : TasksAreActive idle.seen.machine.device =
    subst (λ (t : Turning). TasksAreActive t.0.0.machine.device) idle.comes (come_kept TasksAreActive kept tag at active) in
    record {
      seen = idle.seen;
      comes = idle.comes;
      nothing = λ has busy. idle.nothing (seen.active tag (omega (arith, below)) has) busy;
    }

over_by : (kept : KeptByAll TasksAreActive) (budget : ℕ) (w after : World) (rounds : ℕ) (at : World × ℕ) (more : Bool)
    → RoundsTurned rounds (w, budget) at → IsOver at after more → more ≡ false → TasksAreActive w.machine.device
    → IsFailed after ⊎ AllTasksAreIdle at
over_by kept budget w after rounds at true done over is active = absurd (false≢true (sym is))
over_by kept budget w after rounds at false done over is active = elim over.1 [
  | inl last ↦ inr (λ tag below.
      task_idle kept at tag below (rounds_kept TasksAreActive kept rounds (w, budget) at done active)
      (nothing_of at (after, last.0) tag over.0 last.1 below (sym last.2)))
  | inr last ↦ inl (last.0.0, last.2)
]

pub no_task_left : (kept : KeptByAll TasksAreActive) (budget : ℕ) (w after : World) (worked : Worked) (it : RoundsWorked budget w after worked)
    → worked.more ≡ false → TasksAreActive w.machine.device → IsFailed after ⊎ AllTasksAreIdle it.at
no_task_left kept budget w after worked it is active = over_by kept budget w after it.rounds it.at worked.more it.turned it.over is active
