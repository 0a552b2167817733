-- The response to a task management leaves over what the commands that it ended wait for: each entry of the client becomes the doomed one on both
-- sides, and each of the client's cells fits what it has then. Rings, buffers and the device's tasks are the same. Cited by the event of a response.
use Rattle.std.proofs.Common.{◌≡◌, ℕ, ◌<◌, true, false, ◌&&◌, List, map, Option, Some, None, option_map, refl, ap, sym, ◌∙◌}
use Rattle.std.specs.Prelude.{if◌then◌else◌}
use Rattle.std.proofs.Math.ListN.{get_or-map}
use Rattle.std.proofs.lemmas.List.{length-map}
use Rattle.std.proofs.lemmas.Bool.{and_parts}
use Rattle.block_unit.specs.BlockMaps.{BlockMaps}
use Rattle.xhci_trb.specs.declared.Trb.{Trb}
use Rattle.cycle_ring.specs.Items.{ItemRing}
use Rattle.scsi_cmd.specs.Request.{is_command}
use Rattle.uas_profile.specs.declared.Direction.{Direction}
use Rattle.uas_profile.specs.declared.Direction.TheVariants.{Nothing, ToHost, ToDevice}
use Rattle.scsi_cmd.specs.Held.{held_at}
use Rattle.solo_model.specs.declared.Phase.{Phase}
use Rattle.solo_model.specs.declared.Phase.TheVariants.{Queued, Begun, Sent, Gone}
use Rattle.solo_model.specs.TaggedTask.{is_noted}
use Rattle.uas_profile.specs.declared.Place.{Place}
use Rattle.uas_profile.specs.declared.TdState.TheVariants.{Pending, LeftOver}
use Rattle.uas_host.specs.declared.HostClient.{HostClient}
use Rattle.uas_host.specs.Seen.{after_response, doomed as host_doomed, is_doomed as is_host_doomed, left_over_data as host_left_over_data}
use Rattle.uas_profile.specs.TdStates.{is_pending}
use Rattle.uas_profile.specs.Tags.{tag_of}
use Rattle.uas_host.specs.Tds.{data_td, status_td}
use Rattle.shared_machine.specs.declared.Td.{Td}
use Rattle.shared_machine.specs.Td.{Entry, left_over_data, left_over_td, request_direction}
use Rattle.shared_machine.specs.Part.{Part, doomed, is_doomed}
use Rattle.machine_invariant.specs.Matched.{request_bytes}
use Rattle.bus_core.specs.World.{World, Cell, cell_at}
use Rattle.bus_core.specs.Cells.{FitsCell, FitsHeld, HoldsData, data_in_td, data_out_td, host_side, state_of, told_by}
use Rattle.bus_core.specs.Fits.{FitsPart, place_in}
use Rattle.bus_core.proofs.common.CellEntries.{cell-tds}
use Rattle.bus_core.proofs.event.HostSees.{left_over-state}
use Rattle.machine_invariant.proofs.MatchedEntries.{pending-is}
use Rattle.bus_core.proofs.event.SeenRings.{holds-left, holds-left_data}

-- THE SAME ARE DOOMED

is_doomed-side : (noted : List ℕ) (entry : Entry) → is_host_doomed noted (host_side entry) ≡ is_doomed noted entry
is_doomed-side noted entry = refl

-- a doomed entry's status TD is pending
doomed-pends : (noted : List ℕ) (entry : Entry) → is_doomed noted entry ≡ true → is_pending entry.status_td.state ≡ true
doomed-pends noted entry is =
    (and_parts (is_pending entry.status_td.state) (is_noted noted entry.task.ticket)
    (and_parts (is_command entry.task.request) (is_pending entry.status_td.state && is_noted noted entry.task.ticket) is).1).0

-- THE HOST'S SIDE OF IT

-- the entry of which the host waits for nothing more
abbrev left_entry : Entry → Entry
left_entry entry = record entry { status_td = left_over_td entry.status_td; data_td = left_over_data entry.data_td }

left-state : (td : Td) → is_pending td.state ≡ true → LeftOver ≡ (left_over_td td).state
left-state td pends = sym (ap (λ b. (if b then record td { state = LeftOver } else td).state) pends)

-- it was told nothing, and is told nothing
told-untold : (phase : Phase) → told_by phase Pending ≡ told_by phase LeftOver
told-untold Queued = refl
told-untold (Begun progress) = refl
told-untold (Sent answer) = refl
told-untold Gone = refl

left-data : (td : Option Td) → host_left_over_data (option_map state_of td) ≡ option_map state_of (left_over_data td)
left-data None = refl
left-data (Some td) = ap Some (left_over-state td.state td.consumed)

left-side : (entry : Entry) → is_pending entry.status_td.state ≡ true
    → record (host_side entry) { status_td = LeftOver; data_td = host_left_over_data (option_map state_of entry.data_td) } ≡ host_side (left_entry entry)
left-side entry pends =
    let status = left-state entry.status_td pends in
    let told = ap (told_by entry.task.phase) (pending-is entry.status_td.state pends)
    ∙ told-untold entry.task.phase ∙ ap (told_by entry.task.phase) status in
    let moved = left-data entry.data_td in
    λ i. record (host_side entry) { told = told i; status_td = status i; data_td = moved i }

pub doomed-side : (noted : List ℕ) (entry : Entry) → host_doomed noted (host_side entry) ≡ host_side (doomed noted entry)
doomed-side noted entry =
    elim (is_doomed noted entry) as (λ b. is_doomed noted entry ≡ b → host_doomed noted (host_side entry) ≡ host_side (doomed noted entry)) [
      | true ↦ λ is.
          ap (λ b. if b then record (host_side entry) { status_td = LeftOver; data_td = host_left_over_data (option_map state_of entry.data_td) }
          else host_side entry) (is_doomed-side noted entry ∙ is)
          ∙ left-side entry (doomed-pends noted entry is) ∙ ap (λ b. host_side (if b then left_entry entry else entry)) (sym is)
      | false ↦ λ is.
          ap (λ b. if b then record (host_side entry) { status_td = LeftOver; data_td = host_left_over_data (option_map state_of entry.data_td) }
          else host_side entry) (is_doomed-side noted entry ∙ is)
          ∙ ap (λ b. host_side (if b then left_entry entry else entry)) (sym is)
    ] refl

-- ONE CELL

-- the cell once the host left over what it is to leave
abbrev pub doomed_cell : List ℕ → Cell → Cell
doomed_cell noted cell = record cell { held = option_map (host_doomed noted) cell.held }

in-left : (ring : ItemRing) (trbs : List Trb) (way : Direction) (td : Option Td) → HoldsData ring trbs (data_in_td way td)
    → HoldsData ring trbs (data_in_td way (left_over_data td))
in-left ring trbs Nothing td holds = holds
in-left ring trbs ToHost td holds = holds-left_data ring trbs td holds
in-left ring trbs ToDevice td holds = holds

out-left : (ring : ItemRing) (trbs : List Trb) (way : Direction) (td : Option Td) → HoldsData ring trbs (data_out_td way td)
    → HoldsData ring trbs (data_out_td way (left_over_data td))
out-left ring trbs Nothing td holds = holds
out-left ring trbs ToHost td holds = holds
out-left ring trbs ToDevice td holds = holds-left_data ring trbs td holds

doomed-held : (tags : ℕ) (noted : List ℕ) (client count : ℕ) (place : Place) (entry : Entry) (cell : Cell) → FitsCell tags client count place entry cell
    → option_map (host_doomed noted) cell.held ≡ Some (host_side (doomed noted entry))
doomed-held tags noted client count place entry cell fits = ap (option_map (host_doomed noted)) fits.held ∙ ap Some (doomed-side noted entry)

-- what is left over stays on its rings
cell-left : (tags : ℕ) (noted : List ℕ) (client count : ℕ) (place : Place) (entry : Entry) (cell : Cell) → FitsCell tags client count place entry cell
    → option_map (host_doomed noted) cell.held ≡ Some (host_side (left_entry entry)) → FitsCell tags client count place (left_entry entry) (doomed_cell noted cell)
cell-left tags noted client count place entry cell fits held =
    let trbs : List Trb = data_td (tag_of tags place) (request_bytes entry.task.request) in
    let way : Direction = request_direction entry.task.request in
    cell-tds tags client count place entry cell entry.command_td (left_over_td entry.status_td) (left_over_data entry.data_td)
    (option_map (host_doomed noted) cell.held) cell.status cell.data_in cell.data_out fits held
    (holds-left cell.status (status_td (tag_of tags place)) entry.status_td.state entry.status_td.consumed fits.status)
    (in-left cell.data_in trbs way entry.data_td fits.data_in) (out-left cell.data_out trbs way entry.data_td fits.data_out)

cell-stays : (tags : ℕ) (noted : List ℕ) (client count : ℕ) (place : Place) (entry : Entry) (cell : Cell) → FitsCell tags client count place entry cell
    → option_map (host_doomed noted) cell.held ≡ Some (host_side entry) → FitsCell tags client count place entry (doomed_cell noted cell)
cell-stays tags noted client count place entry cell fits held =
    cell-tds tags client count place entry cell entry.command_td entry.status_td entry.data_td (option_map (host_doomed noted) cell.held)
    cell.status cell.data_in cell.data_out fits held fits.status fits.data_in fits.data_out

cell-doomed : (tags : ℕ) (noted : List ℕ) (client count : ℕ) (place : Place) (entry : Entry) (cell : Cell) → FitsCell tags client count place entry cell
    → FitsCell tags client count place (doomed noted entry) (doomed_cell noted cell)
cell-doomed tags noted client count place entry cell fits =
    let held = doomed-held tags noted client count place entry cell fits in
    elim (is_doomed noted entry) as (λ b. option_map (host_doomed noted) cell.held ≡ Some (host_side (if b then left_entry entry else entry))
    → FitsCell tags client count place (if b then left_entry entry else entry) (doomed_cell noted cell)) [
      | true ↦ λ is. cell-left tags noted client count place entry cell fits is
      | false ↦ λ is. cell-stays tags noted client count place entry cell fits is
    ] held

-- also where nothing stands
pub held-doomed : (tags : ℕ) (noted : List ℕ) (client count : ℕ) (place : Place) (held : Option Entry) (cell : Cell) → FitsHeld tags client count place held cell
    → FitsHeld tags client count place (option_map (doomed noted) held) (doomed_cell noted cell)
held-doomed tags noted client count place None cell fits = record {
  held = ap (option_map (host_doomed noted)) fits.held;
  task = fits.task;
  status = fits.status;
  data_in = fits.data_in;
  data_out = fits.data_out;
  lent = fits.lent;
}
held-doomed tags noted client count place (Some entry) cell fits = cell-doomed tags noted client count place entry cell fits

-- ONE CLIENT

abbrev pub doomed_part : List ℕ → Part → Part
doomed_part noted part = record part { entries = map (option_map (doomed noted)) part.entries }

abbrev pub doomed_client : List ℕ → HostClient → HostClient
doomed_client noted held = record held { entries = after_response noted held.entries }

pub FitsPart-doomed : (tags : ℕ) (before after : World) (client : ℕ) (unit : BlockMaps) (held : HostClient) (part : Part) (noted : List ℕ)
    → FitsPart tags before client unit held part
    → ((slot : ℕ) → slot < tags → cell_at tags after (place_in client slot) ≡ doomed_cell noted (cell_at tags before (place_in client slot)))
    → FitsPart tags after client unit (doomed_client noted held) (doomed_part noted part)
FitsPart-doomed tags before after client unit held part noted fits cells = record {
  number = fits.number;
  unit_same = fits.unit_same;
  least_ticket = fits.least_ticket;
  ready = fits.ready;
  slots = length-map part.entries (option_map (doomed noted)) ∙ fits.slots;
  cells = λ slot within.
      rw (cells slot within, get_or-map (option_map (doomed noted)) part.entries slot None)
      (held-doomed tags noted client unit.count (place_in client slot) (held_at part.entries slot) (cell_at tags before (place_in client slot)) (fits.cells slot within));
}
