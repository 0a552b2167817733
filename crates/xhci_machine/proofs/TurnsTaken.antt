-- A turn of endpoint 0 or of a pipe that lacks nothing isn't refused.
use Rattle.std.proofs.Common.{◌≡◌, ℕ, ◌==◌, Bool, true, false, Option, Some, None, refl, sym, ap}
use Rattle.std.proofs.lemmas.Bool.{false≢true}
use Rattle.std.specs.Prelude.{is_some, if◌then◌else◌, ◌&&◌, ◌||◌, Ok}
use Rattle.guest_memory.specs.Bytes.{Memory}
use Rattle.guest_memory.specs.declared.rings.wanting.Range.{Range}
use Rattle.guest_memory.specs.rings.Events.{EventEnd}
use Rattle.guest_pipes.specs.Gate.{is_running, room_gate}
use Rattle.guest_pipes.specs.Pipe.{PipeState, has_stray, loaded, rung_on}
use Rattle.guest_pipes.specs.Wanted.{wanted_through}
use Rattle.guest_tasks.specs.declared.GuestTasks.{GuestTasks}
use Rattle.guest_tasks.specs.Tasks.{tasks_kind}
use Rattle.guest_transfers.specs.declared.control.StreamPipe.{StreamPipe}
use Rattle.guest_transfers.specs.declared.control.StreamPipe.TheVariants.{Status, DataOut, DataIn}
use Rattle.guest_transfers.specs.Orders.{data_stepped, pipe_of, stray_on}
use Rattle.guest_transfers.specs.Silent.{next_rung, rung_wanted, silent_command, silent_command_wanted, silent_on, silent_wanted}
use Rattle.guest_transfers.specs.State.{TransfersState, TransfersWorld}
use Rattle.guest_transfers.specs.Steps.{command_stepped, status_stepped}
use Rattle.guest_transfers.specs.Wanted.{command_wanted, data_wanted, invalid_wanted, lone_wanted, status_wanted, stray_wanted}
use Rattle.xhci_control.specs.declared.pipe.Served.{Served}
use Rattle.xhci_control.specs.Steps.{ControlWorld, stepped}
use Rattle.xhci_control.specs.Wanted.{control_wanted}
use Rattle.guest_bulk.specs.declared.bulk.Stepped.{Stepped}
use Rattle.guest_bulk.specs.Commands.{BulkWorld}
use Rattle.guest_bulk.specs.Steps.{bulk_after, in_stepped, out_stepped}
use Rattle.guest_bulk.specs.Wanted.{in_wanted, out_wanted}
use Rattle.guest_memory.specs.declared.rings.context.Home.{Home}
use Rattle.uas_profile.specs.declared.Pipe.TheVariants.{Command}
use Rattle.xhci_machine.specs.Bulk.{break_on, broken_kept, bulk_breaks, bulk_broken, bulk_home, bulk_kept, bulk_of, bulk_wanted, bulk_world}
use Rattle.xhci_machine.specs.Bus.{fault_in, has_bulk, pipe_fault, stall_error, stream_fault}
use Rattle.xhci_machine.specs.Rounds.{command_by, command_pipe_stepped, control_stepped, control_world, data_due, data_of, has_rung, is_stray, rings_by, ring_on, served, status_due, status_of, stray_by, stray_stepped, transfers_world}
use Rattle.xhci_machine.specs.Turns.{World}
use Rattle.xhci_machine.specs.Contexts.{context_wanted, is_due}
use Rattle.xhci_machine.specs.Wanted.{acts, acts_on_data, acts_on_status, command_pipe_looked, command_pipe_wanted, command_wanted_by, control_looked, lacks_nothing, needs, stray_looked, stray_looked_by}
use Rattle.xhci_machine.specs.Wanted.{tag_context_wanted, tag_looked, then_look, unless}
use Rattle.xhci_machine.proofs.Taken.{acts_whole, idle_gate, needs_whole, needs_context, needs_nothing, of_tag_there, of_there, wants_nothing}

-- ENDPOINT 0

serves : (w : World) (done : ControlWorld × Option Served) → is_some done.1 ≡ true → is_some (served w done).1 ≡ true
serves w (after, None) is = absurd (false≢true is)
serves w (after, Some how) is = refl

pub control_taken : ((fault : Option ℕ) (w : ControlWorld) → control_wanted fault w ≡ None → is_some (stepped fault w).1 ≡ true)
    → (w : World) → lacks_nothing (control_looked w.memory w.machine w.events) ≡ true → is_some (control_stepped w).1 ≡ true
unfolding control_looked control_stepped
control_taken law w is =
    let due : Bool = is_due w.machine.control.consumer in
    let fault = fault_in w.machine in
    of_there w due _ (needs_context due w.memory w.machine (control_wanted fault (control_world w)) is)
    (serves w (stepped fault (control_world w)) (law fault (control_world w)
    (wants_nothing due w.memory w.machine (control_wanted fault (control_world w))
    (idle_gate w.memory w.events w.machine.control.consumer _) is)))

-- THE PIPES

pub command_pipe_taken : ((w : TransfersWorld GuestTasks) → command_wanted tasks_kind w ≡ None → is_some (command_stepped tasks_kind w).1 ≡ true)
    → ((code : ℕ) (memory : Memory) (events : EventEnd) (t : TransfersState) → silent_command_wanted memory events t.command t.home ≡ None
    → is_some (silent_command code memory events t).1.1.1 ≡ true)
    → (w : World) → lacks_nothing (command_pipe_looked w.memory w.machine w.events) ≡ true → is_some (command_pipe_stepped w).1 ≡ true
unfolding command_pipe_looked command_pipe_stepped
command_pipe_taken law silent_law w is =
    let due : Bool = is_due w.machine.transfers.command in
    let fault = pipe_fault w.machine Command in
    let wanted = command_pipe_wanted w.memory w.machine w.events in
    of_there w due _ (needs_context due w.memory w.machine wanted is)
    (by_fault fault (wants_nothing due w.memory w.machine wanted (idle fault) is))
  where
    idle : (fault : Option ℕ) → is_due w.machine.transfers.command ≡ false → command_wanted_by fault w.memory w.machine w.events ≡ None
    idle (Some code) rests = idle_gate w.memory w.events w.machine.transfers.command _ rests
    idle None rests = idle_gate w.memory w.events w.machine.transfers.command _ rests

    by_fault : (fault : Option ℕ) → command_wanted_by fault w.memory w.machine w.events ≡ None → is_some (command_by fault w).1 ≡ true
    by_fault (Some code) none = silent_law code w.memory w.events w.machine.transfers none
    by_fault None none = law (transfers_world w) none

not_stray : (memory : Memory) (events : EventEnd) (p : PipeState) → (is_running p.state && has_stray p) ≡ false → stray_wanted memory events p ≡ None
not_stray memory events p rests = by_kind (p.streams == 0) rests
  where
    by_kind : (alone : Bool) → (is_running p.state && (if alone then rung_on p 0 else p.invalid)) ≡ false
        → (if alone then lone_wanted memory events p else invalid_wanted memory events p) ≡ None
    by_kind true rests = idle_gate memory events (loaded p 0) _ rests
    by_kind false rests = ap (λ (b : Bool). if b then wanted_through (room_gate memory events) events None else None) rests

less : (runs stray rung : Bool) → (runs && (stray || rung)) ≡ false → (runs && stray) ≡ false
less false stray rung rests = refl
less true false rung rests = refl
less true true rung rests = absurd (false≢true (sym rests))

off : (runs stray rung : Bool) → (runs && (stray || true)) ≡ false → (runs && rung) ≡ false
off false stray rung rests = refl
off true false rung rests = absurd (false≢true (sym rests))
off true true rung rests = absurd (false≢true (sym rests))

not_rung : (memory : Memory) (events : EventEnd) (p : PipeState) → (is_running p.state && has_rung p) ≡ false → silent_wanted memory events p ≡ None
not_rung memory events p rests = by_kind (p.streams == 0 || p.invalid) (next_rung p) rests
  where
    by_kind : (stray : Bool) (stream : Option ℕ) → (is_running p.state && (has_stray p || is_some stream)) ≡ false
        → (if stray then stray_wanted memory events p else rung_wanted memory events p stream) ≡ None
    by_kind true stream rests = not_stray memory events p (less (is_running p.state) (has_stray p) (is_some stream) rests)
    by_kind false None rests = refl
    by_kind false (Some stream) rests =
        idle_gate memory events (loaded p stream) _ (off (is_running p.state) (has_stray p) (rung_on p stream) rests)

-- BULK-OUT AND BULK-IN

kept_there : (name : StreamPipe) (w : World) (done : BulkWorld GuestTasks × Option Stepped) → is_some done.1 ≡ true
    → is_some (bulk_kept name w done).1 ≡ true
kept_there name w (after, None) is = absurd (false≢true is)
kept_there name w (after, Some how) is = refl

pub record BulkLaws : Type 0 where
  pub to_host : (fault : Option ℕ) (w : BulkWorld GuestTasks) (home : Home) → in_wanted tasks_kind fault w home ≡ None
      → is_some (bulk_after w (in_stepped tasks_kind fault w home)).1 ≡ true
  pub to_device : (fault : Option ℕ) (w : BulkWorld GuestTasks) (home : Home) → out_wanted tasks_kind fault w home ≡ None
      → is_some (bulk_after w (out_stepped tasks_kind fault w home)).1 ≡ true

bulk_taken : BulkLaws → (fault : Option ℕ) (w : World) (name : StreamPipe) → bulk_wanted fault w.memory w.machine w.events name ≡ None
    → is_some (bulk_of fault w name).1 ≡ true
bulk_taken laws fault w Status none = refl
bulk_taken laws fault w DataOut none =
    let from = bulk_world w.memory w.events w.machine DataOut in
    let home : Home = bulk_home w.machine DataOut in
    kept_there DataOut w (bulk_after from (out_stepped tasks_kind fault from home)) (laws.to_device fault from home none)
bulk_taken laws fault w DataIn none =
    let from = bulk_world w.memory w.events w.machine DataIn in
    let home : Home = bulk_home w.machine DataIn in
    kept_there DataIn w (bulk_after from (in_stepped tasks_kind fault from home)) (laws.to_host fault from home none)

broken_there : (w : World) (name : StreamPipe) → is_some (bulk_broken w name).1 ≡ true
broken_there w name = by_break (break_on w.memory w.events w.machine name)
  where
    by_break : (broke : Option (BulkWorld GuestTasks × Stepped)) → is_some (broken_kept w broke).1 ≡ true
    by_break None = refl
    by_break (Some done) = refl

-- a ring of theirs that isn't looked at
bulk_idle : (fault : Option ℕ) (w : World) (name : StreamPipe)
    → (is_running (pipe_of w.machine.transfers name).state && rung_on (pipe_of w.machine.transfers name) 0) ≡ false
    → bulk_wanted fault w.memory w.machine w.events name ≡ None
bulk_idle fault w Status rests = refl
bulk_idle fault w DataOut rests = idle_gate w.memory w.events (loaded (pipe_of w.machine.transfers DataOut) 0) _ rests
bulk_idle fault w DataIn rests = idle_gate w.memory w.events (loaded (pipe_of w.machine.transfers DataIn) 0) _ rests

-- A DOORBELL THAT NO TAG'S TURN SERVES, by what it lacks

abbrev stray_wanted_by : Option ℕ → Bool → World → StreamPipe → Option Range
stray_wanted_by (Some code) false w name = silent_wanted w.memory w.events (pipe_of w.machine.transfers name)
stray_wanted_by None false w name = stray_wanted w.memory w.events (pipe_of w.machine.transfers name)
stray_wanted_by (Some code) true w name = bulk_wanted (Some code) w.memory w.machine w.events name
stray_wanted_by None true w name = if bulk_breaks w.machine name then None else bulk_wanted None w.memory w.machine w.events name

-- a look that lacks nothing has nothing of that
looks_whole : (fault : Option ℕ) (bulk : Bool) (w : World) (name : StreamPipe)
    → lacks_nothing (stray_looked_by fault bulk w.memory w.machine w.events name) ≡ true → stray_wanted_by fault bulk w name ≡ None
looks_whole (Some code) false w name is = acts_whole (silent_wanted w.memory w.events (pipe_of w.machine.transfers name)) is
looks_whole None false w name is = acts_whole (stray_wanted w.memory w.events (pipe_of w.machine.transfers name)) is
looks_whole (Some code) true w name is = acts_whole (bulk_wanted (Some code) w.memory w.machine w.events name) is
looks_whole None true w name is = by_break (bulk_breaks w.machine name) is
  where
    by_break : (breaks : Bool)
        → lacks_nothing (if breaks then acts None else needs (bulk_wanted None w.memory w.machine w.events name)) ≡ true
        → (if breaks then None else bulk_wanted None w.memory w.machine w.events name) ≡ None
    by_break true is = refl
    by_break false is = needs_whole (bulk_wanted None w.memory w.machine w.events name) is

stray_idle : (fault : Option ℕ) (bulk : Bool) (w : World) (name : StreamPipe)
    → rings_by fault bulk w.machine name ≡ false → stray_wanted_by fault bulk w name ≡ None
stray_idle (Some code) false w name rests = not_rung w.memory w.events (pipe_of w.machine.transfers name) rests
stray_idle None false w name rests = not_stray w.memory w.events (pipe_of w.machine.transfers name) rests
stray_idle (Some code) true w name rests = bulk_idle (Some code) w name rests
stray_idle None true w name rests = by_break (bulk_breaks w.machine name) rests
  where
    by_break : (breaks : Bool)
        → (breaks || (is_running (pipe_of w.machine.transfers name).state && rung_on (pipe_of w.machine.transfers name) 0)) ≡ false
        → (if breaks then None else bulk_wanted None w.memory w.machine w.events name) ≡ None
    by_break true rests = refl
    by_break false rests = bulk_idle None w name rests

pub stray_taken : ((memory : Memory) (events : EventEnd) (t : TransfersState) (name : StreamPipe) → stray_wanted memory events (pipe_of t name) ≡ None
    → is_some (stray_on stall_error memory events t name).1.1.1 ≡ true)
    → ((code : ℕ) (memory : Memory) (events : EventEnd) (t : TransfersState) (name : StreamPipe) → silent_wanted memory events (pipe_of t name) ≡ None
    → is_some (silent_on code memory events t name).1.1.1 ≡ true)
    → BulkLaws → (w : World) (name : StreamPipe) → lacks_nothing (stray_looked w.memory w.machine w.events name) ≡ true
    → is_some (stray_stepped w name).1 ≡ true
unfolding stray_looked stray_stepped
stray_taken law silent_law laws w name is =
    let due : Bool = is_stray w.machine name in
    let fault = stream_fault w.machine name in
    of_there w due _ (in_context due is) (by_fault fault (has_bulk w.machine name) (lacks fault (has_bulk w.machine name) due refl is))
  where
    in_context : (due : Bool)
        → lacks_nothing (if due then then_look (needs (context_wanted w.memory w.machine.slot)) (stray_looked_by (stream_fault w.machine name) (has_bulk w.machine name) w.memory w.machine w.events name) else Ok tt) ≡ true
        → due ≡ true → context_wanted w.memory w.machine.slot ≡ None
    in_context true is due = (needs_nothing (context_wanted w.memory w.machine.slot) _ is).0
    in_context false is due = absurd (false≢true due)

    lacks : (fault : Option ℕ) (bulk due : Bool)
        → rings_by fault bulk w.machine name ≡ due
        → lacks_nothing (if due then then_look (needs (context_wanted w.memory w.machine.slot)) (stray_looked_by fault bulk w.memory w.machine w.events name) else Ok tt) ≡ true
        → stray_wanted_by fault bulk w name ≡ None
    lacks fault bulk true same is = looks_whole fault bulk w name (needs_nothing (context_wanted w.memory w.machine.slot) _ is).1
    lacks fault bulk false same is = stray_idle fault bulk w name same

    by_break : (breaks : Bool) → (if breaks then None else bulk_wanted None w.memory w.machine w.events name) ≡ None
        → is_some (if breaks then bulk_broken w name else bulk_of None w name).1 ≡ true
    by_break true none = broken_there w name
    by_break false none = bulk_taken laws None w name none

    by_fault : (fault : Option ℕ) (bulk : Bool) → stray_wanted_by fault bulk w name ≡ None → is_some (stray_by fault bulk w name).1 ≡ true
    by_fault (Some code) false none = silent_law code w.memory w.events w.machine.transfers name none
    by_fault None false none = law w.memory w.events w.machine.transfers name none
    by_fault (Some code) true none = bulk_taken laws (Some code) w name none
    by_fault None true none = by_break (bulk_breaks w.machine name) none

-- A TAG

-- a ring of a tag that is due needs the context
due_in : (data_in data_out status : Bool) (wanted : Option Range) → (if data_in || (data_out || status) then wanted else None) ≡ None
    → (data_in || data_out) ≡ true → wanted ≡ None
due_in true data_out status wanted none due = none
due_in false true status wanted none due = none
due_in false false status wanted none due = absurd (false≢true due)

due_last : (data_in data_out status : Bool) (wanted : Option Range) → (if data_in || (data_out || status) then wanted else None) ≡ None
    → status ≡ true → wanted ≡ None
due_last true data_out status wanted none due = none
due_last false true status wanted none due = none
due_last false false true wanted none due = none
due_last false false false wanted none due = absurd (false≢true due)

pub data_taken : ((w : TransfersWorld GuestTasks) (tag : ℕ) → data_wanted tasks_kind w tag ≡ None → is_some (data_stepped tasks_kind w tag).1 ≡ true)
    → (w : World) (tag : ℕ) → lacks_nothing (tag_looked w.memory w.machine w.events tag) ≡ true → is_some (data_of w tag).1 ≡ true
unfolding tag_looked data_of data_due
data_taken law w tag is =
    let parts = needs_nothing (tag_context_wanted w.memory w.machine tag) _ is in
    let data_in : Bool = is_due (ring_on w.machine DataIn tag) in
    let data_out : Bool = is_due (ring_on w.machine DataOut tag) in
    of_tag_there w (data_in || data_out) _
    (due_in data_in data_out (is_due (ring_on w.machine Status tag)) (context_wanted w.memory w.machine.slot) parts.0)
    (law (transfers_world w) tag (needs_nothing (data_wanted tasks_kind (transfers_world w) tag) _ parts.1).0)

pub status_taken : ((w : TransfersWorld GuestTasks) (tag : ℕ) → status_wanted tasks_kind w tag ≡ None → is_some (status_stepped tasks_kind w tag).1 ≡ true)
    → (w : World) (tag : ℕ) → lacks_nothing (tag_looked w.memory w.machine w.events tag) ≡ true → acts_on_data w.memory w.machine tag ≡ false
    → is_some (status_of w tag).1 ≡ true
unfolding tag_looked status_of status_due
status_taken law w tag is idle =
    let parts = needs_nothing (tag_context_wanted w.memory w.machine tag) _ is in
    let last = (needs_nothing (data_wanted tasks_kind (transfers_world w) tag) _ parts.1).1 in
    let status : Bool = is_due (ring_on w.machine Status tag) in
    of_tag_there w status _
    (due_last (is_due (ring_on w.machine DataIn tag)) (is_due (ring_on w.machine DataOut tag)) status (context_wanted w.memory w.machine.slot) parts.0)
    (law (transfers_world w) tag (by_test (acts_on_data w.memory w.machine tag) idle last))
  where
    by_test : (acts : Bool) → acts ≡ false
        → lacks_nothing (then_look (unless acts) (then_look (needs (status_wanted tasks_kind (transfers_world w) tag)) (unless (acts_on_status w.memory w.machine tag)))) ≡ true
        → status_wanted tasks_kind (transfers_world w) tag ≡ None
    by_test true idle is = absurd (false≢true (sym idle))
    by_test false idle is = (needs_nothing (status_wanted tasks_kind (transfers_world w) tag) _ is).0
