-- The first range of memory that a step of endpoint 0 lacks, in the order of `stepped`.
use Rattle.std.specs.Prelude.{ℕ, ◌==◌, ◌&&◌, ◌||◌, nat_le, not, Bool, if◌then◌else◌, min, length as list_length, Option, Some, None}
use Rattle.guest_memory.specs.Bytes.{Memory}
use Rattle.guest_memory.specs.declared.rings.cursor.Cursor.{Cursor}
use Rattle.guest_memory.specs.declared.rings.trb.PipeTrb.{PipeTrb}
use Rattle.guest_memory.specs.declared.rings.trb.PipeTrb.TheVariants.{Normal, Link, NoOp, EventData, Foreign}
use Rattle.guest_memory.specs.declared.rings.wanting.Range.{Range}
use Rattle.guest_memory.specs.declared.rings.words.Words.{Words}
use Rattle.guest_memory.specs.rings.Ends.{fetched}
use Rattle.guest_memory.specs.rings.Wanted.{missing}
use Rattle.guest_pipes.specs.Gate.{gate}
use Rattle.guest_pipes.specs.Progress.{runs}
use Rattle.guest_pipes.specs.Wanted.{wanted_through}
use Rattle.xhci_control.specs.declared.pipe.ControlPipe.{ControlPipe}
use Rattle.xhci_control.specs.declared.trb.ControlTrb.{ControlTrb}
use Rattle.xhci_control.specs.declared.trb.ControlTrb.TheVariants.{SetupStage, DataStage, StatusStage, Other}
use Rattle.xhci_control.specs.Stages.{is_data, left, stalls, takes}
use Rattle.xhci_control.specs.Steps.{ControlWorld, cursor_at, is_in_data}
use Rattle.xhci_control.specs.Trbs.{control_in}

-- where the answer's next bytes go, in a TRB of this length
abbrev pub given_range : ControlPipe → ℕ → ℕ → Range
given_range pipe pointer room = record { at = pointer; count = min (min (list_length (left pipe.stage)) 121) room }

-- of a TRB of a Data Stage, in the order of `moved_by`
abbrev pub moved_wanted : Memory → ControlPipe → ℕ → ℕ → Option Range
moved_wanted memory pipe pointer room =
    if not (runs pipe.consumer.progress.ending) then None
    else if room == 0 || takes pipe.stage then None
    else missing memory (given_range pipe pointer room) None

-- of the first one: bytes go to the host alone
abbrev pub data_wanted : Memory → ControlPipe → ℕ → ℕ → Bool → Option Range
data_wanted memory pipe pointer room to_host =
    if not (is_data pipe.stage) then None
    else if stalls pipe.stage then None
    else if to_host then moved_wanted memory pipe pointer room
    else None

abbrev pub normal_wanted : Memory → ControlPipe → ℕ → ℕ → Option Range
normal_wanted memory pipe pointer room = if is_in_data pipe && nat_le room 65536 then moved_wanted memory pipe pointer room else None

abbrev pub other_wanted : Memory → ControlPipe → PipeTrb → Option Range
other_wanted memory pipe (Normal pointer room flags) = normal_wanted memory pipe pointer room
other_wanted memory pipe (Link pointer toggle flags) = None
other_wanted memory pipe (NoOp flags) = None
other_wanted memory pipe (EventData parameter flags) = None
other_wanted memory pipe Foreign = None

abbrev pub trb_wanted : Memory → ControlPipe → ControlTrb → Option Range
trb_wanted memory pipe (SetupStage setup flags) = None
trb_wanted memory pipe (DataStage pointer room to_host flags) = data_wanted memory pipe pointer room to_host
trb_wanted memory pipe (StatusStage flags) = None
trb_wanted memory pipe (Other trb) = other_wanted memory pipe trb

-- where nothing answers on the bus no byte moves
abbrev pub trb_wanted_by : Option ℕ → Memory → ControlPipe → ControlTrb → Option Range
trb_wanted_by None memory pipe trb = trb_wanted memory pipe trb
trb_wanted_by (Some code) memory pipe trb = None

-- by the words where the ring's end is: the TRB itself where a byte of it isn't there
abbrev pub words_wanted : Option ℕ → Memory → ControlPipe → Cursor → Option (Option Words) → Option Range
words_wanted fault memory pipe cursor None = Some (record { at = cursor.place; count = 16 })
words_wanted fault memory pipe cursor (Some None) = None
words_wanted fault memory pipe cursor (Some (Some words)) = trb_wanted_by fault memory pipe (control_in words)

-- by the ring's end: its dequeue pointer where a byte of that isn't there
abbrev pub front_wanted : Option ℕ → Memory → ControlPipe → Option Cursor → Option Range
front_wanted fault memory pipe None = Some (record { at = pipe.home; count = 8 })
front_wanted fault memory pipe (Some cursor) = words_wanted fault memory pipe cursor (fetched memory cursor)

abbrev pub control_wanted : Option ℕ → ControlWorld → Option Range
control_wanted fault w =
    wanted_through (gate w.memory w.events w.pipe.consumer) w.events (front_wanted fault w.memory w.pipe (cursor_at w.memory w.pipe.home))
