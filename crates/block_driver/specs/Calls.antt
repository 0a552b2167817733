-- The calls: the accesses of the disk until it is ready, then those of its commands.
use Rattle.std.specs.Prelude.{ℕ, ◌-◌, ◌^◌, ◌&&◌, nat_le, not, if◌then◌else◌, Bool, true, false, Option, Some, None, is_some, List, [], replicate}
use Rattle.bring_up.specs.declared.access.Access.{Access}
use Rattle.bring_up.specs.declared.access.Access.TheVariants.{Read32, Load, Write32, Store, Rest}
use Rattle.bring_up.specs.declared.bring_up.Stage.{Stage}
use Rattle.bring_up.specs.declared.bring_up.Stage.TheVariants as stage
use Rattle.bring_up.specs.declared.bring_up.BringUp.{BringUp}
use Rattle.bring_up.specs.declared.options.Options.{Options}
use Rattle.bring_up.specs.declared.step.Step.TheVariants as step
use Rattle.bring_up.specs.declared.taken.Taken.{Taken}
use Rattle.bring_up.specs.declared.takeover.Halt.TheVariants as halt
use Rattle.bring_up.specs.declared.state.State as bring_up
use Rattle.bring_up.specs.declared.state.State.TheVariants as below
use Rattle.bring_up.specs.Accesses.{is_read, is_written, kept}
use Rattle.bring_up.specs.Calls.{fits, is_gone, layout_of}
use Rattle.bring_up.specs.States.{stage_state}
use Rattle.bring_up.specs.Table.{word_in}
use Rattle.disk_ready.specs.declared.DiskReady.{DiskReady}
use Rattle.disk_ready.specs.declared.shapes.ReadyDisk.{ReadyDisk}
use Rattle.disk_ready.specs.Calls.{answered as ready_answered, asked_access as ready_asked, begun_ready, interrupted as ready_interrupted, is_asked as is_ready_asked, next_access as ready_next, next_layout as ready_layout, next_state as ready_state, ready_disk}
use Rattle.host_layout.specs.declared.layout.Layout.{Layout}
use Rattle.block_driver.specs.declared.BlockDriver.{BlockDriver}
use Rattle.block_driver.specs.declared.closing.Closing.{Closing}
use Rattle.block_driver.specs.declared.closing.Closing.TheVariants as closing
use Rattle.block_driver.specs.declared.closing.ShutStep.{ShutStep}
use Rattle.block_driver.specs.declared.closing.ShutStep.TheVariants.{Stay, Halt, Leave}
use Rattle.block_driver.specs.declared.replies.State.{State}
use Rattle.block_driver.specs.declared.replies.State.TheVariants as state
use Rattle.block_driver.specs.declared.steps.Blocks.{Blocks}
use Rattle.block_driver.specs.declared.table.Entry.TheVariants as entry
use Rattle.block_driver.specs.declared.kinds.Kind.TheVariants.{Replied}
use Rattle.block_driver.specs.declared.table.Loss.TheVariants.{Gone, Restarted}
use Rattle.block_driver.specs.declared.replies.Reply.{Reply}
use Rattle.block_driver.specs.declared.table.Came.{Came}
use Rattle.block_driver.specs.Closings.{is_kept, shutting}
use Rattle.block_driver.specs.Steps.{World, begun_blocks, found_access}
use Rattle.block_driver.specs.Table.{changed, entry_at, entry_taken, first_of, came_in}
use Rattle.block_driver.specs.Turns.{commands_closed, doomed, failed, found_advanced, given_back, is_back, opened}

abbrev pub begun_with : Option DiskReady → Options → Option BlockDriver
begun_with None options = None
begun_with (Some ready) options = Some (record { ready = ready; blocks = begun_blocks (replicate options.tags entry.Free); is_asked = false })

abbrev pub begun_driver : Options → Option BlockDriver
begun_driver options = begun_with (begun_ready options) options

-- THE COMMANDS' ACCESS

abbrev pub stage_access : Stage → BlockDriver → Access
stage_access (stage.Surveying s) d = Rest (2 ^ 64 - 1)
stage_access (stage.Wanting c) d = Rest (2 ^ 64 - 1)
stage_access (stage.Taken t) d = found_access d.ready.device.finding.known.disk (record { blocks = d.blocks; taken = t })
stage_access (stage.Refused why) d = Rest (2 ^ 64 - 1)
stage_access stage.Gone d = Rest (2 ^ 64 - 1)

abbrev pub own_access : BlockDriver → Access
own_access d = stage_access d.ready.device.driver.stage d

abbrev pub driver_access : BlockDriver → Access
driver_access d = kept (own_access d) d.ready.device.driver.options.bar_bytes (layout_of d.ready.device.driver.stage)

-- WHAT COMES AFTER IT

abbrev pub with_stage : BlockDriver → Stage → BlockDriver
with_stage d at = record d { ready = record d.ready { device = record d.ready.device { driver = record d.ready.device.driver { stage = at } } } }

abbrev pub with_world : BlockDriver → World → BlockDriver
with_world d w = record (with_stage d (stage.Taken w.taken)) { blocks = w.blocks }

abbrev pub stage_advanced : Stage → BlockDriver → List ℕ → BlockDriver
stage_advanced (stage.Surveying s) d bytes = d
stage_advanced (stage.Wanting c) d bytes = d
stage_advanced (stage.Taken t) d bytes =
    with_world d
    (found_advanced d.ready.device.finding.known.disk (record { blocks = d.blocks; taken = t }) d.ready.device.driver.time (word_in bytes) bytes)
stage_advanced (stage.Refused why) d bytes = d
stage_advanced stage.Gone d bytes = d

abbrev pub driver_advanced : BlockDriver → List ℕ → BlockDriver
driver_advanced d bytes = stage_advanced d.ready.device.driver.stage d bytes

abbrev pub behind_rest : Access → BlockDriver → BlockDriver
behind_rest (Read32 offset) d = d
behind_rest (Load at length) d = d
behind_rest (Write32 offset value) d = d
behind_rest (Store at bytes) d = d
behind_rest (Rest until) d = if nat_le until d.ready.device.driver.time then driver_advanced d [] else d

abbrev pub driver_woken : BlockDriver → BlockDriver
driver_woken d = behind_rest (driver_access d) d

abbrev pub driver_told : BlockDriver → BlockDriver
driver_told d =
    let asked : BlockDriver = record d { is_asked = is_read (driver_access d) } in
    if is_written (driver_access d) then driver_advanced asked [] else asked

-- THE CALLS

-- whether a disk is used
abbrev pub is_open : BlockDriver → Bool
is_open d = is_some d.blocks.disk

-- the commands of a disk that isn't used any more are lost once their TDs are given back
abbrev pub blocks_back : BlockDriver → Blocks
blocks_back d = if is_back d.ready.device.driver.stage then given_back d.blocks else d.blocks

abbrev pub taken_back : BlockDriver → BlockDriver
taken_back d = record d { blocks = blocks_back d }

-- shutting down goes on once the disk isn't used any more: behind its slot the controller is halted and reset, and behind that it isn't the driver's
-- any more, nor is the memory
abbrev pub shut_by : ShutStep → BlockDriver → Taken → BlockDriver
shut_by Stay d t = d
shut_by Halt d t =
    record (with_stage d (stage.Taken (record t { step = step.Halt halt.Command }))) { blocks = record d.blocks { closing = closing.Halting } }
shut_by Leave d t = record (with_stage d stage.Gone) { blocks = record d.blocks { closing = closing.Stopped } }

abbrev pub shut_in : Stage → BlockDriver → BlockDriver
shut_in (stage.Surveying s) d = d
shut_in (stage.Wanting c) d = d
shut_in (stage.Taken t) d = shut_by (shutting d.blocks.closing t.step) d t
shut_in (stage.Refused why) d = d
shut_in stage.Gone d = d

abbrev pub shut_on : BlockDriver → BlockDriver
shut_on d = shut_in d.ready.device.driver.stage d

-- a disk that got ready is used from now on, under the next number
abbrev pub met_by : Option ReadyDisk → BlockDriver → BlockDriver
met_by None d = d
met_by (Some disk) d = record d { blocks = opened d.blocks disk d.ready.ready.spots; is_asked = false }

abbrev pub met_behind : BlockDriver → BlockDriver
met_behind d = met_by (ready_disk d.ready) d

abbrev pub met : BlockDriver → BlockDriver
met d = met_behind (shut_on (taken_back d))

-- the disk with time passed
abbrev pub ready_passed : BlockDriver → ℕ → BlockDriver
ready_passed d now = record d { ready = ready_state d.ready now }

abbrev pub next_access : BlockDriver → ℕ → Access
next_access d now = if is_open d then driver_access (driver_woken (ready_passed d now)) else ready_next d.ready now

abbrev pub next_layout : BlockDriver → ℕ → Option Layout
next_layout d now =
    if is_open d then layout_of (driver_woken (ready_passed d now)).ready.device.driver.stage else ready_layout d.ready now

abbrev pub next_state : BlockDriver → ℕ → BlockDriver
next_state d now = if is_open d then driver_told (driver_woken (ready_passed d now)) else met (ready_passed d now)

abbrev pub own_taken : Bool → BlockDriver → List ℕ → BlockDriver
own_taken true d bytes = record (with_stage d stage.Gone) { blocks = commands_closed d.blocks Gone }
own_taken false d bytes = driver_advanced d bytes

abbrev pub own_answered : BlockDriver → List ℕ → BlockDriver
own_answered d bytes =
    if not d.is_asked then d
    else if not (fits (driver_access d) bytes) then d
    else own_taken (is_gone (driver_access d) bytes) (record d { is_asked = false }) bytes

abbrev pub answered : BlockDriver → List ℕ → BlockDriver
answered d bytes = if is_open d then own_answered d bytes else met (record d { ready = ready_answered d.ready bytes })

-- whether an access was told that is to be answered, and which
abbrev pub is_asked : BlockDriver → Bool
is_asked d = if is_open d then d.is_asked else is_ready_asked d.ready

abbrev pub asked_access : BlockDriver → Access
asked_access d = if is_open d then driver_access d else ready_asked d.ready

abbrev pub interrupted : BlockDriver → BlockDriver
interrupted d = record d { ready = ready_interrupted d.ready; blocks = record d.blocks { is_interrupted = is_open d } }

-- REPLIES: that of the lowest tag, which is free then

abbrev pub reply_on : ℕ → Option Came → Option Reply
reply_on tag None = None
reply_on tag (Some came) = Some (record { tag = tag; mark = came.mark; moved = came.moved; ending = came.ending })

abbrev pub reply_under : Option ℕ → BlockDriver → Option Reply
reply_under None d = None
reply_under (Some tag) d = reply_on tag (came_in (entry_at d.blocks.tags tag))

abbrev pub reply_of : BlockDriver → Option Reply
reply_of d = reply_under (first_of Replied d.blocks.tags) d

abbrev pub taken_under : Option ℕ → BlockDriver → BlockDriver
taken_under None d = d
taken_under (Some tag) d = record d { blocks = record d.blocks { tags = changed entry_taken d.blocks.tags tag } }

abbrev pub reply_taken : BlockDriver → BlockDriver
reply_taken d = taken_under (first_of Replied d.blocks.tags) d

-- AN ABORT

abbrev pub aborted_driver : BlockDriver → ℕ → BlockDriver
aborted_driver d tag = record d { blocks = doomed d.blocks tag }

-- THE DEVICE IS TRIED AGAIN, while a disk is used; memory is lent

abbrev pub restart_in : Stage → BlockDriver → BlockDriver
restart_in (stage.Surveying s) d = d
restart_in (stage.Wanting c) d = d
restart_in (stage.Taken t) d = if is_open d && is_kept d.blocks.closing then with_world d (failed (record { blocks = d.blocks; taken = t }) Restarted) else d
restart_in (stage.Refused why) d = d
restart_in stage.Gone d = d

abbrev pub restarted_driver : BlockDriver → BlockDriver
restarted_driver d = restart_in d.ready.device.driver.stage d

abbrev pub with_driver : BlockDriver → BringUp → BlockDriver
with_driver d driver = record d { ready = record d.ready { device = record d.ready.device { driver = driver } } }

-- SHUTTING DOWN begins, while a disk is used

abbrev pub shut_driver : BlockDriver → BlockDriver
shut_driver d = record d { blocks = record d.blocks { closing = closing.Draining } }

-- WHERE IT IS

abbrev pub state_below : bring_up.State → State
state_below below.Surveying = state.Surveying
state_below (below.WantsMemory bytes) = state.WantsMemory bytes
state_below (below.BringingUp row) = state.BringingUp row
state_below below.NoDevice = state.NoDevice
state_below (below.Refused why) = state.Refused why
state_below below.Addressed = state.Asking
state_below below.Gone = state.Gone
state_below below.Dead = state.Dead

abbrev pub state_with : Option ReadyDisk → BlockDriver → bring_up.State → State
state_with None d below = if is_some d.blocks.loss && not (is_back d.ready.device.driver.stage) then state.Restarting else state_below below
state_with (Some disk) d below = state.Ready d.blocks.number disk

-- a controller that can't be halted or reset, or is gone, says so
abbrev pub state_closing : bring_up.State → State
state_closing (below.Refused why) = state.Refused why
state_closing below.Gone = state.Gone
state_closing below.Dead = state.Dead
state_closing _ = state.ShuttingDown

abbrev pub state_by : Closing → BlockDriver → ℕ → State
state_by closing.Open d bytes = state_with d.blocks.disk d (stage_state d.ready.device.driver.stage bytes)
state_by closing.Draining d bytes = state_closing (stage_state d.ready.device.driver.stage bytes)
state_by closing.Halting d bytes = state_closing (stage_state d.ready.device.driver.stage bytes)
state_by closing.Stopped d bytes = state.Stopped

abbrev pub state_of : BlockDriver → ℕ → State
state_of d bytes = state_by d.blocks.closing d bytes
