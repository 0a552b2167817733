-- A disk with many commands out: what comes after each step's access.
use Rattle.std.specs.Prelude.{ℕ, ◌+◌, ◌-◌, ◌/◌, ◌%◌, ◌^◌, ◌==◌, ◌||◌, min, nat_le, not, if◌then◌else◌, Bool, true, false, Option, None, Some, is_some, List, length, slice_index_or, slice_set}
use Rattle.byteorder.specs.Endian.{little_number}
use Rattle.block_requests.specs.declared.outcomes.Outcome.{Outcome}
use Rattle.block_requests.specs.declared.outcomes.Outcome.TheVariants as outcome
use Rattle.bring_up.specs.declared.bring_up.Stage.{Stage}
use Rattle.bring_up.specs.declared.bring_up.Stage.TheVariants as stage
use Rattle.bring_up.specs.declared.commands.Asked.{Asked}
use Rattle.bring_up.specs.declared.commands.Asked.TheVariants as asked
use Rattle.bring_up.specs.declared.step.Step.{Step}
use Rattle.bring_up.specs.declared.step.Step.TheVariants as step
use Rattle.bring_up.specs.declared.commands.Completed.{Completed}
use Rattle.bring_up.specs.declared.commands.Putting.{Putting}
use Rattle.bring_up.specs.declared.commands.Putting.TheVariants as putting
use Rattle.bring_up.specs.declared.service.Served.{Served}
use Rattle.bring_up.specs.declared.service.Served.TheVariants.{On, Closed, Broken}
use Rattle.bring_up.specs.declared.service.Service.{Service}
use Rattle.bring_up.specs.declared.service.Serving.{Serving}
use Rattle.bring_up.specs.declared.service.Serving.TheVariants as serving
use Rattle.bring_up.specs.declared.taken.Tries.{Tries}
use Rattle.bring_up.specs.declared.why.Why.TheVariants.{Silent}
use Rattle.bring_up.specs.Accesses.{later}
use Rattle.bring_up.specs.CommandRings.{begun_command, command_address, next_command}
use Rattle.bring_up.specs.Completions.{given_up, restarted, tried_again}
use Rattle.bring_up.specs.Registers.{is_set}
use Rattle.bring_up.specs.Services.{closing, next_event, passed, service_after, taken_event}
use Rattle.disk_ready.specs.declared.puts.Put.{Put}
use Rattle.disk_ready.specs.declared.puts.Put.TheVariants.{CommandUnit}
use Rattle.disk_ready.specs.declared.puts.Spots.{Spots}
use Rattle.disk_ready.specs.declared.puts.Way.{Way}
use Rattle.disk_ready.specs.declared.puts.Way.TheVariants.{Nothing}
use Rattle.disk_ready.specs.declared.shapes.ReadyDisk.{ReadyDisk}
use Rattle.disk_ready.specs.Puts.{next_pipe}
use Rattle.host_trbs.specs.declared.events.Completion.{Completion}
use Rattle.host_trbs.specs.declared.events.Completion.TheVariants.{Success, ContextState}
use Rattle.host_trbs.specs.declared.events.EndpointState.{EndpointState}
use Rattle.host_trbs.specs.declared.events.EndpointState.TheVariants.{Stopped}
use Rattle.host_trbs.specs.declared.events.Event.{Event}
use Rattle.host_trbs.specs.declared.events.Event.TheVariants as event
use Rattle.host_trbs.specs.Events.{completion_in, endpoint_state_in}
use Rattle.usb_descriptors.specs.declared.UasFunction.{UasFunction}
use Rattle.usb_descriptors.specs.declared.stream_tags.Streams.{Streams}
use Rattle.block_driver.specs.declared.events.Said.{Said}
use Rattle.block_driver.specs.declared.events.Said.TheVariants as said
use Rattle.block_driver.specs.declared.freeing.Freeing.{Freeing}
use Rattle.block_driver.specs.declared.freeing.Freeing.TheVariants.{Stop, Move}
use Rattle.block_driver.specs.declared.freeing.Removal.{Removal}
use Rattle.block_driver.specs.declared.rings.Thirds.{Thirds}
use Rattle.block_driver.specs.declared.steps.Blocks.{Blocks}
use Rattle.block_driver.specs.declared.steps.Work.{Work}
use Rattle.block_driver.specs.declared.steps.Work.TheVariants as work
use Rattle.block_driver.specs.declared.kinds.Kind.TheVariants as kind
use Rattle.block_driver.specs.declared.kinds.StreamPipe.{StreamPipe}
use Rattle.block_driver.specs.declared.kinds.StreamPipe.TheVariants as pipe
use Rattle.block_driver.specs.declared.table.Loss.{Loss}
use Rattle.block_driver.specs.declared.table.Entry.{Entry}
use Rattle.block_driver.specs.declared.table.Loss.TheVariants as loss
use Rattle.block_driver.specs.declared.tasks.OwnKind.{OwnKind}
use Rattle.block_driver.specs.declared.tasks.OwnKind.TheVariants.{Abort, Synchronize}
use Rattle.block_driver.specs.declared.tasks.OwnTask.{OwnTask}
use Rattle.block_driver.specs.Events.{event_said, unit_outcome}
use Rattle.block_driver.specs.Rings.{spots_at, thirds_after, thirds_begun, thirds_from}
use Rattle.block_driver.specs.Steps.{World, in_work, is_drained, waiting, with_blocks, with_taken}
use Rattle.block_driver.specs.Table.{all_lost, changed, entry_aborted, entry_at, entry_doomed, entry_moved, entry_next, entry_off, entry_put, entry_stopped, entry_told, first_of, is_put, next_of, wanted_at, way_of}
use Rattle.block_driver.specs.Tasks.{is_carried_out, own_next}

-- A DISK GETS READY, and isn't used any more

abbrev pub opened : Blocks → ReadyDisk → Spots → Blocks
opened b disk spots = record b {
  thirds = thirds_from spots;
  pipe = spots.pipe;
  disk = Some disk;
  number = min (b.number + 1) (2 ^ 64 - 1);
  work = work.Idle;
  removal = None;
  own = None;
  is_interrupted = false;
}

-- its commands are lost once their TDs are given back
abbrev pub commands_closed : Blocks → Loss → Blocks
commands_closed b lost = record b {
  disk = None;
  work = work.Idle;
  removal = None;
  own = None;
  is_interrupted = false;
  loss = Some lost;
}

abbrev pub given_back_by : Option Loss → Blocks → Blocks
given_back_by None b = b
given_back_by (Some lost) b = record b { tags = all_lost b.tags lost; loss = None }

abbrev pub given_back : Blocks → Blocks
given_back b = given_back_by b.loss b

-- TDs are the controller's until the slot was given back, or the controller was reset; a controller that is dead or gone is apart
abbrev pub is_slot_asked : Asked → Bool
is_slot_asked asked.EnableSlot = false
is_slot_asked asked.AddressDevice = false
is_slot_asked asked.ResetPort = true
is_slot_asked asked.Forget = true
is_slot_asked (asked.Refuse why) = true

abbrev pub is_step_back : Step → Bool
is_step_back (step.Handoff at) = false
is_step_back (step.Halt at) = false
is_step_back (step.Reset at) = false
is_step_back (step.Command asked at) = not (is_slot_asked asked)
is_step_back (step.Serve asked came service) = not (is_slot_asked asked)
is_step_back _ = true

abbrev pub is_back : Stage → Bool
is_back (stage.Taken t) = is_step_back t.step
is_back _ = true

-- the device is tried again; it is gone from its port; the controller is taken anew
abbrev pub failed : World → Loss → World
failed w lost = record { blocks = commands_closed w.blocks lost; taken = tried_again w.taken }

abbrev pub pulled : World → World
pulled w = record { blocks = commands_closed w.blocks loss.Pulled; taken = given_up w.taken Silent }

abbrev pub restarted_all : World → ℕ → World
restarted_all w now = record { blocks = commands_closed w.blocks loss.Broken; taken = restarted w.taken now }

-- A COMMAND IS PUT: its TDs have the next places of its tag's rings and of the command pipe's

abbrev pub put_with : Way → Blocks → ℕ → Thirds → Blocks
put_with which b tag thirds = record b {
  tags = changed (entry_put (spots_at thirds which b.pipe)) b.tags tag;
  thirds = slice_set b.thirds tag (thirds_after thirds which);
  pipe = next_pipe b.pipe;
  work = work.Put tag CommandUnit;
}

abbrev pub put_begun : Blocks → ℕ → Blocks
put_begun b tag = put_with (way_of (entry_at b.tags tag)) b tag (slice_index_or b.thirds tag thirds_begun)

abbrev pub put_on : Option Put → Blocks → ℕ → Blocks
put_on None b tag = in_work b work.Idle
put_on (Some at) b tag = in_work b (work.Put tag at)

abbrev pub put_over : Blocks → ℕ → Put → Blocks
put_over b tag at = put_on (entry_next (entry_at b.tags tag) at) b tag

-- commands that wait are put, the lowest tag first; then events are looked for
abbrev pub idle_by : Option ℕ → Blocks → Blocks
idle_by None b = record b { is_interrupted = false; work = work.Serve (record { limit = 2 ^ 64 - 1; seen = 0; at = serving.Status }) }
idle_by (Some tag) b = put_begun b tag

abbrev pub idle_over : Blocks → Blocks
idle_over b = idle_by (waiting b) b

-- THE DRIVER'S OWN TASK is put on the last tag

abbrev pub last_tag : Option ReadyDisk → ℕ
last_tag None = 0
last_tag (Some disk) = disk.tags

abbrev pub own_with : Blocks → ℕ → OwnKind → ℕ → Thirds → Blocks
own_with b tag asks until thirds = record b {
  thirds = slice_set b.thirds tag (thirds_after thirds Nothing);
  pipe = next_pipe b.pipe;
  own = Some (record { tag = tag; kind = asks; spots = spots_at thirds Nothing b.pipe; limit = until });
  work = work.Own CommandUnit;
}

-- up to a time
abbrev pub own_begun : Blocks → OwnKind → ℕ → Blocks
own_begun b asks until = own_with b (last_tag b.disk) asks until (slice_index_or b.thirds (last_tag b.disk) thirds_begun)

abbrev pub own_on : Option Put → Blocks → Blocks
own_on None b = in_work b work.Idle
own_on (Some at) b = in_work b (work.Own at)

abbrev pub own_over : Blocks → Put → Blocks
own_over b at = own_on (own_next b.own at) b

-- COMMANDS WHOSE TIME IS OVER are aborted, the lowest tag first, each for 5,000 ms; one that isn't put yet at once. Where the driver is shutting down
-- and none is out, the disk has 30,000 ms to bring all blocks to its medium; then its slot is given back, whatever it answered.

abbrev pub doomed : Blocks → ℕ → Blocks
doomed b tag = record b { tags = changed entry_doomed b.tags tag }

abbrev pub late_by : Option ℕ → Blocks → ℕ → Blocks
late_by None b now = if is_drained b then own_begun b Synchronize (later now 30000) else in_work b work.Idle
late_by (Some tag) b now = if is_put (entry_at b.tags tag) then own_begun b (Abort tag) (later now 5000) else in_work (doomed b tag) work.Idle

abbrev pub shut : World → World
shut w = record { blocks = commands_closed w.blocks loss.Restarted; taken = given_up w.taken Silent }

-- the device is tried again where the disk doesn't answer an abort
abbrev pub own_late : OwnKind → World → World
own_late (Abort managed) w = failed w loss.Late
own_late Synchronize w = shut w

-- one of them at a time
abbrev pub late_with : Option OwnTask → World → ℕ → World
late_with None w now = with_blocks w (late_by (first_of (kind.Late now) w.blocks.tags) w.blocks now)
late_with (Some own) w now = if nat_le own.limit now then own_late own.kind w else with_blocks w (in_work w.blocks work.Idle)

abbrev pub idle_or_late : World → ℕ → World
idle_or_late w now = late_with w.blocks.own w now

-- TAKING TDS OFF

abbrev pub freeing_begun : World → StreamPipe → Freeing → World
freeing_begun w on freeing =
    with_blocks w (record w.blocks {
      removal = None;
      work = work.Free (record { pipe = on; freeing = freeing; limit = 0; came = None }) (begun_command w.taken.commands);
    })

abbrev pub free_put : Blocks → Removal → Putting → ℕ → Blocks
free_put b removal putting.Link now = in_work b (work.Free removal putting.Body)
free_put b removal putting.Body now = in_work b (work.Free removal putting.Last)
free_put b removal putting.Last now = in_work b (work.Free removal putting.Bell)
free_put b removal putting.Bell now = record b { removal = Some (record removal { limit = later now 5000 }); work = work.Idle }

-- the doorbells of the streams with a TD that is pending, the lowest tag first
abbrev pub ring_on : Option ℕ → Blocks → StreamPipe → Blocks
ring_on None b on = record b { removal = None; work = work.Idle }
ring_on (Some tag) b on = record b { removal = None; work = work.Ring on tag }

abbrev pub ring_after : Blocks → StreamPipe → ℕ → Blocks
ring_after b on tag = ring_on (next_of (kind.Moving on) b.tags tag) b on

-- each stream whose TD is to be taken off, the lowest tag first
abbrev pub free_next_by : Option ℕ → World → StreamPipe → World
free_next_by None w on = with_blocks w (ring_after w.blocks on 0)
free_next_by (Some tag) w on = freeing_begun w on (Move tag)

abbrev pub free_next : World → StreamPipe → ℕ → World
free_next w on now = free_next_by (first_of (kind.Stuck on now) w.blocks.tags) w on

-- Context State Error of Stop Endpoint: again, for 100 ms; then the endpoint's state says whether it stands
abbrev pub stop_again : World → StreamPipe → ℕ → ℕ → World
stop_again w on since now =
    if nat_le (later since 100) now then with_blocks w (record w.blocks { removal = None; work = work.Context on })
    else freeing_begun w on (Stop since)

abbrev pub stop_ended : Completion → World → StreamPipe → ℕ → ℕ → World
stop_ended Success w on since now = free_next w on now
stop_ended ContextState w on since now = stop_again w on since now
stop_ended _ w on since now = restarted_all w now

abbrev pub taken_off : World → StreamPipe → ℕ → World
taken_off w on tag = with_blocks w (record w.blocks { tags = changed (entry_off on) w.blocks.tags tag })

abbrev pub move_ended : Completion → World → StreamPipe → ℕ → ℕ → World
move_ended Success w on tag now = free_next (taken_off w on tag) on now
move_ended _ w on tag now = restarted_all w now

abbrev pub free_ended : Freeing → World → StreamPipe → Completion → ℕ → World
free_ended (Stop since) w on came now = stop_ended came w on since now
free_ended (Move tag) w on came now = move_ended came w on tag now

-- a command on the command ring that is silent for too long has the controller taken anew
abbrev pub free_closed : Option Completed → World → Removal → ℕ → World
free_closed None w removal now = if nat_le removal.limit now then restarted_all w now else with_blocks w (in_work w.blocks work.Idle)
free_closed (Some ended) w removal now =
    free_ended removal.freeing (with_taken w (record w.taken { commands = next_command w.taken.commands })) removal.pipe (completion_in ended.code) now

-- 6.2.3: an endpoint that stands is Stopped, 3
abbrev pub context_by : EndpointState → World → StreamPipe → ℕ → World
context_by Stopped w on now = free_next w on now
context_by _ w on now = failed w loss.Failed

abbrev pub context_taken : World → StreamPipe → ℕ → ℕ → World
context_taken w on now word = context_by (endpoint_state_in word) w on now

-- the first word of a context that was loaded
abbrev pub first_word : List ℕ → ℕ
first_word bytes = if length bytes == 32 then little_number 4 bytes else 0

-- EVENTS

abbrev pub removal_came : Option Removal → Completed → Option Removal
removal_came None ended = None
removal_came (Some removal) ended = Some (record removal { came = Some ended })

abbrev pub command_came : Blocks → Completed → Blocks
command_came b ended = record b { removal = removal_came b.removal ended }

abbrev pub served_with : World → Service → World
served_with w service = with_blocks w (in_work w.blocks (work.Serve service))

abbrev pub moved_on : Blocks → ℕ → ℕ → Service → Blocks
moved_on b tag count service = record b { tags = changed (entry_moved count) b.tags tag; work = work.Serve service }

abbrev pub stopped_on : Blocks → ℕ → ℕ → Service → Blocks
stopped_on b tag count service = record b { tags = changed (entry_stopped count) b.tags tag; work = work.Serve service }

-- what an event said: a status unit is loaded, and the disk's port read, before the next event
abbrev pub said_taken : Said → World → Service → World
said_taken said.Nothing w service = served_with w service
said_taken said.Failed w service = failed w loss.Failed
said_taken (said.Moved tag count) w service = with_blocks w (moved_on w.blocks tag count service)
said_taken (said.Stopped tag count) w service = with_blocks w (stopped_on w.blocks tag count service)
said_taken (said.Unit tag count) w service = with_blocks w (in_work w.blocks (work.Unit tag (min count 112) service))
said_taken (said.Port port) w service =
    if port == w.taken.device.port.number then with_blocks w (in_work w.blocks (work.Port service)) else served_with w service

abbrev pub command_event : Bool → World → Service → Completed → World
command_event true w service ended = with_blocks w (in_work (command_came w.blocks ended) (work.Serve (passed service)))
command_event false w service ended = served_with w (passed service)

abbrev pub event_taken : Event → World → Service → ℕ → World
event_taken (event.Transfer trb residual code endpoint slot) w service now =
    said_taken (event_said (event.Transfer trb residual code endpoint slot) w.blocks.tags w.blocks.own w.taken.layout) w (passed service)
event_taken (event.Command trb code slot) w service now =
    command_event (trb == command_address w.taken.commands w.taken.layout) w service (record { code = code; slot = slot })
event_taken (event.Port port) w service now = said_taken (said.Port port) w (passed service)
event_taken (event.Controller code) w service now = restarted_all w now
event_taken (event.Other kind) w service now = served_with w (passed service)

abbrev pub event_came : World → Service → ℕ → Event → World
event_came w service now came = event_taken came (with_taken w (record w.taken { events = next_event w.taken.events })) service now

-- a look goes on where it ended without telling the controller, and behind 64 events
abbrev pub is_word : Serving → Bool
is_word serving.Word = true
is_word _ = false

abbrev pub is_looked_on : Service → Bool
is_looked_on service = is_word service.at || nat_le 64 service.seen

abbrev pub served_on_at : Serving → Service → Service
served_on_at serving.Word service = closing service
served_on_at _ service = record { limit = service.limit; seen = 0; at = serving.Word }

abbrev pub served_on : Service → Service
served_on service = served_on_at service.at service

-- the first pipe on which a TD is to be taken off
abbrev pub stuck_pipe : List Entry → ℕ → Option StreamPipe
stuck_pipe tags now =
    if is_some (first_of (kind.Stuck pipe.DataIn now) tags) then Some pipe.DataIn
    else if is_some (first_of (kind.Stuck pipe.DataOut now) tags) then Some pipe.DataOut
    else if is_some (first_of (kind.Stuck pipe.Status now) tags) then Some pipe.Status
    else None

abbrev pub stuck_or_late : Option StreamPipe → World → ℕ → World
stuck_or_late None w now = idle_or_late w now
stuck_or_late (Some on) w now = freeing_begun w on (Stop now)

abbrev pub closed_by : Option Removal → World → ℕ → World
closed_by None w now = stuck_or_late (stuck_pipe w.blocks.tags now) w now
closed_by (Some removal) w now = free_closed removal.came w removal now

abbrev pub closed : World → Service → ℕ → World
closed w service now = if is_looked_on service then served_with w (served_on service) else closed_by w.blocks.removal w now

abbrev pub went : Served → World → Service → ℕ → World
went (On next) w service now = served_with w next
went Closed w service now = closed w service now
went Broken w service now = restarted_all w now

abbrev pub served_by : Serving → World → Service → ℕ → ℕ → List ℕ → World
served_by serving.Event w service now value bytes = event_came w service now (taken_event bytes)
served_by _ w service now value bytes = went (service_after service w.taken.events.cycle value) w service now

abbrev pub served : World → Service → ℕ → ℕ → List ℕ → World
served w service now value bytes = served_by service.at w service now value bytes

-- A STATUS UNIT: another tag's, or one of no command, has the device tried again

-- data may come for 1,000 ms behind a GOOD
abbrev pub told_until : Outcome → ℕ → ℕ
told_until outcome.Good now = later now 1000
told_until _ now = now

-- after a GOOD the device and the controller can be tried again anew
abbrev pub tries_after : Outcome → Tries → Tries
tries_after outcome.Good tries = record tries { of_device = 0; of_all = 0 }
tries_after _ tries = tries

abbrev pub told_taken : Outcome → World → ℕ → Service → ℕ → World
told_taken came w tag service now = record {
  blocks = record w.blocks {
    tags = changed (entry_told (record { outcome = came; until = told_until came now })) w.blocks.tags tag;
    work = work.Serve service;
  };
  taken = record w.taken { tries = tries_after came w.taken.tries };
}

abbrev pub unit_told : Option Outcome → World → ℕ → Service → ℕ → World
unit_told None w tag service now = failed w loss.BadUnit
unit_told (Some came) w tag service now = told_taken came w tag service now

-- the response to the driver's own task: the disk aborted the command, or the device is tried again
abbrev pub abort_told : Bool → World → ℕ → Service → World
abort_told false w managed service = failed w loss.Late
abort_told true w managed service =
    with_blocks w (record w.blocks { tags = changed entry_aborted w.blocks.tags managed; own = None; work = work.Serve service })

abbrev pub own_told : OwnKind → Bool → World → Service → World
own_told (Abort managed) done w service = abort_told done w managed service
own_told Synchronize done w service = shut w

abbrev pub unit_of_tag : World → ℕ → Service → ℕ → List ℕ → World
unit_of_tag w tag service now bytes = unit_told (unit_outcome bytes tag (wanted_at (entry_at w.blocks.tags tag))) w tag service now

abbrev pub unit_by : Option OwnTask → World → ℕ → Service → ℕ → List ℕ → World
unit_by None w tag service now bytes = unit_of_tag w tag service now bytes
unit_by (Some own) w tag service now bytes =
    if own.tag == tag then own_told own.kind (is_carried_out bytes tag) w service else unit_of_tag w tag service now bytes

abbrev pub unit_taken : World → ℕ → Service → ℕ → List ℕ → World
unit_taken w tag service now bytes = unit_by w.blocks.own w tag service now bytes

-- THE DISK'S PORT (5.4.8): CCS 0, it was pulled; PED 0 or PLS 6, Inactive, the device is tried again

abbrev pub is_inactive : ℕ → Bool
is_inactive value = value / 2 ^ 5 % 16 == 6

abbrev pub port_told : World → Service → ℕ → World
port_told w service value =
    if not (is_set value 0) then pulled w
    else if not (is_set value 1) || is_inactive value then failed w loss.Disabled
    else served_with w service

-- THE TABLE

abbrev pub work_advanced : Work → World → ℕ → ℕ → List ℕ → World
work_advanced work.Idle w now value bytes = with_blocks w (idle_over w.blocks)
work_advanced (work.Put tag at) w now value bytes = with_blocks w (put_over w.blocks tag at)
work_advanced (work.Serve service) w now value bytes = served w service now value bytes
work_advanced (work.Unit tag count service) w now value bytes = unit_taken w tag service now bytes
work_advanced (work.Port service) w now value bytes = with_blocks w (in_work w.blocks (work.Changes value service))
work_advanced (work.Changes old service) w now value bytes = port_told w service old
work_advanced (work.Free removal at) w now value bytes = with_blocks w (free_put w.blocks removal at now)
work_advanced (work.Context on) w now value bytes = context_taken w on now (first_word bytes)
work_advanced (work.Ring on tag) w now value bytes = with_blocks w (ring_after w.blocks on tag)
work_advanced (work.Own at) w now value bytes = with_blocks w (own_over w.blocks at)

abbrev pub blocks_advanced : World → ℕ → ℕ → List ℕ → World
blocks_advanced w now value bytes = work_advanced w.blocks.work w now value bytes

-- a device whose pipes aren't known has none
abbrev pub found_advanced : Option (UasFunction × Streams) → World → ℕ → ℕ → List ℕ → World
found_advanced None w now value bytes = w
found_advanced (Some found) w now value bytes = blocks_advanced w now value bytes
