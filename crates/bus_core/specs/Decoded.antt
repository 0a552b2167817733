-- The shared machine, read back from the world of rings.
use Rattle.std.specs.Prelude.{ℕ, zero, suc, ◌-◌, List, [], ◌∷◌, drop, length, map, Option, option_map, option_and_then, unwrap_or}
use Rattle.std.specs.List.{range_with_len, filter_map}
use Rattle.block_unit.specs.BlockMaps.{BlockMaps}
use Rattle.cycle_ring.specs.Items.{Item, ItemRing, known_of}
use Rattle.event_ring.specs.declared.Event.{Event}
use Rattle.event_ring.specs.declared.Event.TheVariants.{Transfer, Command as CommandCompletion}
use Rattle.uas_profile.specs.declared.Pipe.{Pipe}
use Rattle.uas_profile.specs.declared.Pipe.TheVariants.{Command, Status, DataIn, DataOut}
use Rattle.uas_profile.specs.declared.Direction.{Direction}
use Rattle.uas_profile.specs.declared.Direction.TheVariants.{Nothing, ToHost, ToDevice}
use Rattle.uas_profile.specs.declared.TheConstants.{MOST_TAGS}
use Rattle.uas_profile.specs.declared.Place.{Place}
use Rattle.uas_profile.specs.declared.TdState.{TdState}
use Rattle.uas_profile.specs.declared.TdState.TheVariants.{Pending, Seen, LeftOver, Retired}
use Rattle.uas_host.specs.declared.HostEntry.{HostEntry}
use Rattle.uas_host.specs.declared.HostClient.{HostClient}
use Rattle.uas_host.specs.declared.EndedTd.{EndedTd}
use Rattle.uas_host.specs.declared.Retirement.{Retirement as HostRetirement}
use Rattle.uas_host.specs.declared.RetirementStage.{RetirementStage as HostStage}
use Rattle.uas_host.specs.declared.RetirementStage.TheVariants.{Stopping, Moving as HostMoving}
use Rattle.uas_profile.specs.Tags.{place_of}
use Rattle.uas_host.specs.Events.{command_tag, ended_at}
use Rattle.shared_machine.specs.declared.Td.{Td}
use Rattle.shared_machine.specs.declared.Completion.{Completion}
use Rattle.shared_machine.specs.declared.Completion.TheVariants.{CommandDone, DataDone, StatusDone, EngineDone}
use Rattle.shared_machine.specs.Td.{Entry, data_trbs}
use Rattle.shared_machine.specs.declared.Retirement.{Retirement}
use Rattle.shared_machine.specs.declared.RetirementStage.{RetirementStage}
use Rattle.shared_machine.specs.declared.RetirementStage.TheVariants.{StopAsked, StopAnswered, MoveAsked, MoveAnswered}
use Rattle.shared_machine.specs.Part.{Part}
use Rattle.shared_machine.specs.Shared.{Shared, request_direction}
use Rattle.bus_core.specs.Hosts.{phase_by}
use Rattle.machine_invariant.specs.Matched.{times}
use Rattle.bus_core.specs.World.{World, Cell, cell_at}
use Rattle.bus_core.specs.Fits.{Fits, place_in}

-- MESSAGES AND EVENTS

-- the place whose command TRB this is, of so many clients with so many tags
abbrev pub message_in : ℕ → ℕ → Item → Option Place
message_in tags clients item = option_and_then (place_of tags clients) (option_and_then command_tag (known_of item))

-- the messages are the TRBs of the command pipe that are pending
abbrev pub decoded_messages : World → List Place
decoded_messages world = filter_map (message_in world.host.tags (length world.host.clients)) (drop world.lines.command.got world.lines.command.put)

-- which TD of a place an event is of, by its pipe
abbrev pub completion_on : Pipe → Place → Completion
completion_on Command place = CommandDone place
completion_on Status place = StatusDone place
completion_on DataIn place = DataDone place
completion_on DataOut place = DataDone place

abbrev pub completion_of_td : ℕ → ℕ → EndedTd → Option Completion
completion_of_td tags clients td = option_map (completion_on td.pipe) (place_of tags clients td.tag)

-- The TD that the host finds for an event is the one that it is of; an event of the controller's own commands is of the retirement.
abbrev pub completion_of : World → Event → Option Completion
completion_of world (Transfer pointer residual code endpoint slot) =
    option_and_then (completion_of_td world.host.tags (length world.host.clients)) (ended_at world.lines pointer)
completion_of world (CommandCompletion pointer code slot) = option_map (λ retirement. EngineDone retirement.place) world.host.retirement

abbrev pub decoded_events : World → List Completion
decoded_events world = filter_map (completion_of world) world.lines.events.pending

-- ENTRIES

-- how many TRBs were taken of a stream's TD, of so many: its ring tells while they are there
abbrev pub consumed_in : TdState → ℕ → ItemRing → ℕ
consumed_in Pending trbs ring = ring.got
consumed_in Seen trbs ring = trbs
consumed_in LeftOver trbs ring = ring.got
consumed_in Retired trbs ring = trbs

abbrev pub decoded_td : ℕ → ItemRing → TdState → Td
decoded_td trbs ring state = record { state = state; consumed = consumed_in state trbs ring }

abbrev pub data_ring : Direction → Cell → ItemRing
data_ring Nothing cell = cell.data_out
data_ring ToHost cell = cell.data_in
data_ring ToDevice cell = cell.data_out

-- an entry by its cell and the number of its messages
abbrev pub decoded_held : ℕ → Cell → HostEntry → Entry
decoded_held waiting cell held = record {
  task = record {
    ticket = held.ticket;
    request = held.request;
    buffer = unwrap_or cell.buffers.lent [];
    phase = phase_by cell.task (1 - waiting) (decoded_td 1 cell.status held.status_td) cell.buffers.status;
  };
  command_td = record { state = held.command_td; consumed = 1 - waiting };
  status_td = decoded_td 1 cell.status held.status_td;
  data_td = option_map (decoded_td (data_trbs held.request) (data_ring (request_direction held.request) cell)) held.data_td;
}

abbrev pub decoded_cell : Cell → ℕ → Option Entry
decoded_cell cell waiting = option_map (decoded_held waiting cell) cell.held

abbrev pub decoded_slot : World → List Place → ℕ → ℕ → Option Entry
decoded_slot world messages client slot = decoded_cell (cell_at world.host.tags world (place_in client slot)) (times (place_in client slot) messages)

abbrev pub decoded_entries : World → List Place → ℕ → List (Option Entry)
decoded_entries world messages client = map (decoded_slot world messages client) (range_with_len 0 MOST_TAGS)

-- PARTS

abbrev pub decoded_part : World → List Place → ℕ → HostClient → BlockMaps → Part
decoded_part world messages client held unit = record {
  number = client;
  unit = unit;
  entries = decoded_entries world messages client;
  least_ticket = held.least_ticket;
  ready = held.ready.items;
}

-- the parts of the clients, by number from this one on
abbrev pub decoded_parts : World → List Place → ℕ → List HostClient → List BlockMaps → List Part
decoded_parts world messages client [] units = []
decoded_parts world messages client (held ∷ rest) [] = []
decoded_parts world messages client (held ∷ rest) (unit ∷ units) =
    decoded_part world messages client held unit ∷ decoded_parts world messages (suc client) rest units

-- THE RETIREMENT

-- the command of a retirement was executed where the controller's command ring has it consumed
abbrev pub stage_by : HostStage → ℕ → RetirementStage
stage_by Stopping zero = StopAsked
stage_by Stopping (suc more) = StopAnswered
stage_by HostMoving zero = MoveAsked
stage_by HostMoving (suc more) = MoveAnswered

abbrev pub decoded_retirement : World → HostRetirement → Retirement
decoded_retirement world retirement =
    record { pipe = retirement.pipe; place = retirement.place; stage = stage_by retirement.stage world.lines.engine.got }

-- the whole
abbrev pub decoded : World → Shared
decoded world = record {
  tags = world.host.tags;
  parts = decoded_parts world (decoded_messages world) 0 world.host.clients world.device.units;
  messages = decoded_messages world;
  events = decoded_events world;
  status = world.controller.status;
  data_in = world.controller.data_in;
  data_out = world.controller.data_out;
  retirement = option_map (decoded_retirement world) world.host.retirement;
}

-- a world fits what is read back from it
abbrev pub FitsItself : World → Type 0
FitsItself world = Fits (decoded world) world
