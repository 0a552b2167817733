-- A cell of which the entry has another phase, or other TDs on other rings: it fits where what changed does. Cited by ManagedFits, CommandFits,
-- DoomedCells, SeenWorlds and EngineCellWrites.
use Rattle.std.proofs.Common.{◌≡◌, ℕ, Option, Some}
use Rattle.cycle_ring.specs.Items.{ItemRing}
use Rattle.solo_model.specs.declared.Phase.{Phase}
use Rattle.solo_model.specs.Soundness.{IsSound}
use Rattle.uas_target.specs.declared.DeviceTask.{DeviceTask}
use Rattle.uas_host.specs.declared.HostEntry.{HostEntry}
use Rattle.uas_profile.specs.declared.Place.{Place}
use Rattle.uas_profile.specs.Tags.{tag_of}
use Rattle.uas_host.specs.Tds.{data_td, status_td}
use Rattle.shared_machine.specs.declared.Td.{Td}
use Rattle.shared_machine.specs.Td.{Entry, request_direction}
use Rattle.bus_core.specs.Hosts.{phase_task}
use Rattle.machine_invariant.specs.Matched.{request_bytes}
use Rattle.bus_core.specs.World.{Cell}
use Rattle.bus_core.specs.Cells.{FitsCell, HasAnswerIn, HoldsData, HoldsTd, data_in_td, data_out_td, host_side}

-- the entry in another phase and with other TDs
abbrev changed_entry : Entry → Phase → Td → Td → Option Td → Entry
changed_entry entry phase command status moved =
    record entry { task = record entry.task { phase = phase }; command_td = command; status_td = status; data_td = moved }

cell-changed : (tags : ℕ) (client count : ℕ) (place : Place) (entry : Entry) (cell : Cell) (phase : Phase) (command status : Td) (moved : Option Td)
    (held : Option HostEntry) (task : Option DeviceTask) (status_ring data_in data_out : ItemRing) → FitsCell tags client count place entry cell
    → held ≡ Some (host_side (changed_entry entry phase command status moved)) → task ≡ phase_task (Some client) entry.task.request phase
    → HoldsTd status_ring (status_td (tag_of tags place)) status
    → HoldsData data_in (data_td (tag_of tags place) (request_bytes entry.task.request)) (data_in_td (request_direction entry.task.request) moved)
    → HoldsData data_out (data_td (tag_of tags place) (request_bytes entry.task.request)) (data_out_td (request_direction entry.task.request) moved)
    → HasAnswerIn phase (tag_of tags place) cell.buffers.status → IsSound count (record entry.task { phase = phase })
    → FitsCell tags client count place (changed_entry entry phase command status moved)
    (record cell { held = held; task = task; status = status_ring; data_in = data_in; data_out = data_out })
cell-changed tags client count place entry cell phase command status moved held task status_ring data_in data_out =
    λ fits held_is task_is on_status on_in on_out answer sound. record {
      held = held_is;
      task = task_is;
      status = on_status;
      data_in = on_in;
      data_out = on_out;
      lent = fits.lent;
      bytes = fits.bytes;
      unit = fits.unit;
      answer = answer;
      sound = sound;
    }

-- the entry in another phase
abbrev pub with_phase : Entry → Phase → Td → Entry
with_phase entry phase command = record entry { task = record entry.task { phase = phase }; command_td = command }

pub cell-phase : (tags : ℕ) (client count : ℕ) (place : Place) (entry : Entry) (cell : Cell) (phase : Phase) (command : Td) (held : Option HostEntry)
    (task : Option DeviceTask) → FitsCell tags client count place entry cell → held ≡ Some (host_side (with_phase entry phase command))
    → task ≡ phase_task (Some client) entry.task.request phase → HasAnswerIn phase (tag_of tags place) cell.buffers.status
    → IsSound count (record entry.task { phase = phase })
    → FitsCell tags client count place (with_phase entry phase command) (record cell { held = held; task = task })
cell-phase tags client count place entry cell phase command held task fits held_is task_is =
    cell-changed tags client count place entry cell phase command entry.status_td entry.data_td held task cell.status cell.data_in cell.data_out
    fits held_is task_is fits.status fits.data_in fits.data_out

-- the entry with other TDs
abbrev pub with_tds : Entry → Td → Td → Option Td → Entry
with_tds entry command status moved = record entry { command_td = command; status_td = status; data_td = moved }

pub cell-tds : (tags : ℕ) (client count : ℕ) (place : Place) (entry : Entry) (cell : Cell) (command status : Td) (moved : Option Td) (held : Option HostEntry)
    (status_ring data_in data_out : ItemRing) → FitsCell tags client count place entry cell → held ≡ Some (host_side (with_tds entry command status moved))
    → HoldsTd status_ring (status_td (tag_of tags place)) status
    → HoldsData data_in (data_td (tag_of tags place) (request_bytes entry.task.request)) (data_in_td (request_direction entry.task.request) moved)
    → HoldsData data_out (data_td (tag_of tags place) (request_bytes entry.task.request)) (data_out_td (request_direction entry.task.request) moved)
    → FitsCell tags client count place (with_tds entry command status moved)
    (record cell { held = held; status = status_ring; data_in = data_in; data_out = data_out })
cell-tds tags client count place entry cell command status moved held status_ring data_in data_out fits held_is on_status on_in on_out =
    cell-changed tags client count place entry cell entry.task.phase command status moved held cell.task status_ring data_in data_out
    fits held_is fits.task on_status on_in on_out fits.answer fits.sound
