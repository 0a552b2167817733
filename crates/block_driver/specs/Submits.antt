-- Which commands are taken, and what is put for one.
use Rattle.std.specs.Prelude.{ℕ, ◌-◌, ◌^◌, ◌==◌, nat_le, nat_lt, not, if◌then◌else◌, false, Option, None, Some, List}
use Rattle.block_requests.specs.declared.Submission.{Submission}
use Rattle.block_requests.specs.declared.SubmitFault.{SubmitFault}
use Rattle.block_requests.specs.Submissions.{submission_of, submit_fault}
use Rattle.block_requests.specs.Tds.{pieces_of, wanted}
use Rattle.bring_up.specs.declared.bring_up.Stage.{Stage}
use Rattle.bring_up.specs.declared.bring_up.Stage.TheVariants as stage
use Rattle.bring_up.specs.declared.controller.Controller.{Controller}
use Rattle.bring_up.specs.declared.options.Options.{Options}
use Rattle.bring_up.specs.Lending.{reach_bits}
use Rattle.disk_ready.specs.declared.puts.Way.{Way}
use Rattle.disk_ready.specs.declared.shapes.ReadyDisk.{ReadyDisk}
use Rattle.disk_ready.specs.Puts.{has_data}
use Rattle.disk_requests.specs.declared.Request.{Request}
use Rattle.disk_requests.specs.Units.{command_text}
use Rattle.host_layout.specs.declared.layout.Layout.{Layout}
use Rattle.host_layout.specs.declared.segments.Segment.{Segment}
use Rattle.block_driver.specs.declared.BlockDriver.{BlockDriver}
use Rattle.block_driver.specs.declared.Fault.{Fault}
use Rattle.block_driver.specs.declared.Fault.TheVariants as fault
use Rattle.block_driver.specs.declared.submits.Open.{Open}
use Rattle.block_driver.specs.declared.table.DataState.{DataState}
use Rattle.block_driver.specs.declared.table.DataState.TheVariants as data_state
use Rattle.block_driver.specs.declared.table.Entry.{Entry}
use Rattle.block_driver.specs.declared.table.Entry.TheVariants as entry
use Rattle.block_driver.specs.declared.kinds.Kind.TheVariants.{Free}
use Rattle.block_driver.specs.declared.table.Outstanding.{Outstanding}
use Rattle.block_driver.specs.Closings.{is_kept}
use Rattle.block_driver.specs.Table.{changed, first_of}

-- the last address that a controller reaches, or the one behind it: addresses have so many bits
abbrev pub reach_of : Options → Controller → ℕ
reach_of options c = if nat_le 64 (reach_bits options c) then 2 ^ 64 - 1 else 2 ^ reach_bits options c

-- the disk, while it is used, and the driver isn't shutting down
abbrev pub open_in : Stage → ReadyDisk → Options → Option Open
open_in (stage.Surveying s) disk options = None
open_in (stage.Wanting c) disk options = None
open_in (stage.Taken t) disk options = Some (record { disk = disk; reach = reach_of options t.controller; layout = t.layout })
open_in (stage.Refused why) disk options = None
open_in stage.Gone disk options = None

abbrev pub open_with : Option ReadyDisk → Stage → Options → Option Open
open_with None at options = None
open_with (Some disk) at options = open_in at disk options

abbrev pub open_disk : BlockDriver → Option Open
open_disk d = if is_kept d.blocks.closing then open_with d.blocks.disk d.ready.device.driver.stage d.ready.device.driver.options else None

-- THE REFUSALS: the first that holds

-- the lowest tag that is free; the last of all is for task management
abbrev pub below : Option ℕ → ℕ → Option ℕ
below None tags = None
below (Some tag) tags = if nat_lt tag tags then Some tag else None

abbrev pub free_tag : List Entry → ℕ → Option ℕ
free_tag held tags = below (first_of Free held) tags

abbrev pub refusal_behind : Option SubmitFault → Option ℕ → Option Fault
refusal_behind (Some refused) tag = Some (fault.Request refused)
refusal_behind None None = Some fault.NoTag
refusal_behind None (Some tag) = None

abbrev pub refusal_with : Option Open → BlockDriver → ℕ → Request → List Segment → Option Fault
refusal_with None d disk request segments = Some fault.NotReady
refusal_with (Some it) d disk request segments =
    if not (disk == d.blocks.number) then Some fault.OtherDisk
    else refusal_behind (submit_fault request it.disk.shape segments it.reach d.ready.device.driver.options.pieces) (free_tag d.blocks.tags it.disk.tags)

abbrev pub submit_refusal : BlockDriver → ℕ → Request → List Segment → Option Fault
submit_refusal d disk request segments = refusal_with (open_disk d) d disk request segments

-- WHAT IS PUT

abbrev pub data_begun : Way → DataState
data_begun way = if has_data way then data_state.Pending else data_state.Nothing

abbrev pub command_of : Layout → ℕ → Submission → ℕ → ℕ → Outstanding
command_of layout tag made mark limit = record {
  mark = mark;
  sent = record { tag = tag; way = made.way; unit = command_text tag 0 made.cdb; list = made.list };
  pieces = record { items = pieces_of layout tag made };
  wanted = wanted made;
  limit = limit;
  spots = None;
  data_state = data_begun made.way;
  status = None;
  is_aborted = false;
  stopped = 0;
}

abbrev pub submitted_with : Option Open → BlockDriver → Request → List Segment → ℕ → ℕ → ℕ → BlockDriver
submitted_with None d request segments mark limit tag = d
submitted_with (Some it) d request segments mark limit tag = record d {
  blocks = record d.blocks {
    tags = changed (λ before. entry.Outstanding (command_of it.layout tag (submission_of request it.disk.shape segments) mark limit)) d.blocks.tags tag;
  };
}

abbrev pub submitted_on : BlockDriver → Request → List Segment → ℕ → ℕ → ℕ → BlockDriver
submitted_on d request segments mark limit tag = submitted_with (open_disk d) d request segments mark limit tag
