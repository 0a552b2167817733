-- What an event says of the three TDs of a question (xHCI 1.2, 6.4.2.1): how many bytes a TD moved, once it has ended; and what the status unit says.
use Rattle.std.specs.Prelude.{ℕ, ◌-◌, ◌==◌, ◌&&◌, if◌then◌else◌, Bool, true, false, not, Option, Some, None, is_some, List}
use Rattle.disk_requests.specs.declared.StatusKind.{StatusKind}
use Rattle.disk_requests.specs.declared.StatusKind.TheVariants.{Sense, Response, ReadReady, WriteReady}
use Rattle.disk_requests.specs.declared.StatusUnit.{StatusUnit}
use Rattle.disk_requests.specs.declared.senses.Readiness.{Readiness}
use Rattle.disk_requests.specs.Senses.{readiness_in}
use Rattle.disk_requests.specs.Statuses.{status_in}
use Rattle.disk_up.specs.Controls.{is_at}
use Rattle.host_layout.specs.declared.layout.Layout.{Layout}
use Rattle.host_layout.specs.declared.rings.Ring.TheVariants.{Status}
use Rattle.host_trbs.specs.declared.events.Completion.{Completion}
use Rattle.host_trbs.specs.declared.events.Completion.TheVariants as completion
use Rattle.host_trbs.specs.declared.events.Event.{Event}
use Rattle.host_trbs.specs.declared.events.Event.TheVariants as event
use Rattle.host_trbs.specs.Events.{transfer_completion}
use Rattle.usb_descriptors.specs.Endpoints.{context_index}
use Rattle.disk_ready.specs.declared.ends.Ends.{Ends}
use Rattle.disk_ready.specs.declared.ends.Td.{Td}
use Rattle.disk_ready.specs.declared.ends.Td.TheVariants as td
use Rattle.disk_ready.specs.declared.puts.Sent.{Sent}
use Rattle.disk_ready.specs.declared.puts.Spots.{Spots}
use Rattle.disk_ready.specs.declared.puts.Target.{Target}
use Rattle.disk_ready.specs.declared.puts.Way.{Way}
use Rattle.disk_ready.specs.Puts.{data_ring, data_target, has_data, pipe_address, place_in}

-- a command without data waits for none
abbrev pub ends_begun : Way → Ends
ends_begun way = record { data_moved = if has_data way then None else Some 0; status_moved = None; has_unit = false; is_failed = false }

abbrev pub all_ended : Ends → Bool
all_ended ends = is_some ends.data_moved && is_some ends.status_moved && ends.has_unit

-- WHOSE THE EVENT IS: of an endpoint, at a TRB; data have one TRB

abbrev pub td_if : Bool → Td → Td → Td
td_if true this that = this
td_if false this that = that

abbrev pub td_at : Layout → Target → Sent → Spots → ℕ → ℕ → Td
td_at layout target sent spots endpoint trb =
    td_if (has_data sent.way && (endpoint == data_target target.pipes sent.way) && is_at (place_in layout (data_ring sent) spots.data_third 0) trb) td.Data
    (td_if ((endpoint == context_index target.pipes.status) && is_at (place_in layout (Status sent.tag) spots.status_third 0) trb) td.Status
    (td_if ((endpoint == context_index target.pipes.command) && (trb == pipe_address spots.pipe layout)) td.Command td.Other))

-- WHAT IT SAYS

abbrev pub moved_in : Ends → Td → ℕ → Ends
moved_in ends td.Data count = record ends { data_moved = Some count }
moved_in ends td.Status count = record ends { status_moved = Some count }
moved_in ends td.Command count = record ends { has_unit = true }
moved_in ends td.Other count = ends

-- the bytes of each TD's one TRB
abbrev pub td_bytes : Td → ℕ → ℕ
td_bytes td.Data length = length
td_bytes td.Status length = 112
td_bytes td.Command length = 32
td_bytes td.Other length = 0

abbrev pub is_other : Td → Bool
is_other td.Data = false
is_other td.Status = false
is_other td.Command = false
is_other td.Other = true

-- a TD that failed may be named by no TRB
abbrev pub failed_in : Ends → Td → ℕ → Ends
failed_in ends whose trb = if is_other whose && not (trb == 0) then ends else record ends { is_failed = true }

abbrev pub completed_in : Completion → Ends → Td → ℕ → ℕ → ℕ → Ends
completed_in completion.Success ends whose length residual trb = moved_in ends whose (td_bytes whose length - residual)
completed_in completion.ShortPacket ends whose length residual trb = moved_in ends whose (td_bytes whose length - residual)
completed_in completion.Stall ends whose length residual trb = failed_in ends whose trb
completed_in completion.Transaction ends whose length residual trb = failed_in ends whose trb
completed_in completion.Failed ends whose length residual trb = failed_in ends whose trb
completed_in _ ends whose length residual trb = ends

-- endpoint 0's events are of nothing here
abbrev pub transfer_in : Ends → Layout → Target → Sent → Spots → ℕ → ℕ → ℕ → ℕ → ℕ → Ends
transfer_in ends layout target sent spots length trb residual code endpoint =
    if endpoint == 1 then ends
    else completed_in (transfer_completion code residual) ends (td_at layout target sent spots endpoint trb) length residual trb

abbrev pub ends_seen : Event → Ends → Layout → Target → Sent → Spots → ℕ → Ends
ends_seen (event.Transfer trb residual code endpoint slot) ends layout target sent spots length =
    transfer_in ends layout target sent spots length trb residual code endpoint
ends_seen (event.Command trb code slot) ends layout target sent spots length = ends
ends_seen (event.Port port) ends layout target sent spots length = ends
ends_seen (event.Controller code) ends layout target sent spots length = ends
ends_seen (event.Other kind) ends layout target sent spots length = ends

-- THE STATUS UNIT: of the tag, and of a command; another one says nothing

abbrev pub kind_told : StatusKind → Option Readiness
kind_told (Sense status sense) = Some (readiness_in status sense.items)
kind_told (Response code) = None
kind_told ReadReady = None
kind_told WriteReady = None

abbrev pub unit_told : Option StatusUnit → ℕ → Option Readiness
unit_told None tag = None
unit_told (Some unit) tag = if unit.tag == tag then kind_told unit.kind else None

abbrev pub told_in : List ℕ → ℕ → Option Readiness
told_in bytes tag = unit_told (status_in bytes) tag
