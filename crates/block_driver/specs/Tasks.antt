-- A task of the driver's own, on the disk's last tag: what is put for it, and what ends it.
use Rattle.std.specs.Prelude.{ℕ, ◌==◌, ◌&&◌, ◌||◌, not, Bool, true, false, Option, None, Some, List, [], ◌++◌, replicate}
use Rattle.byteorder.specs.Endian.{little_bytes}
use Rattle.bring_up.specs.declared.access.Access.{Access}
use Rattle.bring_up.specs.declared.access.Access.TheVariants.{Rest}
use Rattle.bring_up.specs.declared.access.Stored.TheVariants.{Four, Sixteen}
use Rattle.bring_up.specs.declared.controller.Controller.{Controller}
use Rattle.bring_up.specs.Accesses.{later, store_in}
use Rattle.disk_ready.specs.declared.puts.PipeRing.{PipeRing}
use Rattle.disk_ready.specs.declared.puts.Put.{Put}
use Rattle.disk_ready.specs.declared.puts.Put.TheVariants as put
use Rattle.disk_ready.specs.declared.puts.Sent.{Sent}
use Rattle.disk_ready.specs.declared.puts.Target.{Target}
use Rattle.disk_ready.specs.declared.puts.Way.TheVariants.{Nothing}
use Rattle.disk_ready.specs.Puts.{pipe_address, put_access, put_after}
use Rattle.disk_requests.specs.declared.Request.TheVariants.{Sync}
use Rattle.disk_requests.specs.declared.StatusKind.{StatusKind}
use Rattle.disk_requests.specs.declared.StatusKind.TheVariants as unit
use Rattle.disk_requests.specs.declared.StatusUnit.{StatusUnit}
use Rattle.disk_requests.specs.Statuses.{status_in}
use Rattle.disk_requests.specs.Commands.{request_cdb}
use Rattle.disk_requests.specs.Units.{command_text, task_text}
use Rattle.host_layout.specs.declared.layout.Area.TheVariants.{OfTag}
use Rattle.host_layout.specs.declared.layout.Layout.{Layout}
use Rattle.host_layout.specs.declared.layout.TagArea.TheVariants.{CommandUnit}
use Rattle.host_layout.specs.Places.{place_of}
use Rattle.host_trbs.specs.declared.transfers.DataTrb.{DataTrb}
use Rattle.host_trbs.specs.Transfers.{data_words}
use Rattle.host_trbs.specs.Words.{bytes_of}
use Rattle.block_driver.specs.declared.tasks.OwnKind.{OwnKind}
use Rattle.block_driver.specs.declared.tasks.OwnKind.TheVariants.{Abort, Synchronize}
use Rattle.block_driver.specs.declared.tasks.OwnTask.{OwnTask}

-- ABORT TASK (INCITS 471, Task Management unit): function 01h, of 16 bytes, in the 32 of its place
abbrev pub abort_unit : ℕ → ℕ → List ℕ
abort_unit tag managed = task_text tag 1 managed 0 ++ replicate 16 0

-- SYNCHRONIZE CACHE(10) of all blocks (SBC-3, 5.22), a Command unit of 32 bytes
abbrev pub sync_unit : ℕ → List ℕ
sync_unit tag = command_text tag 0 (request_cdb Sync false)

abbrev pub own_unit : OwnKind → ℕ → List ℕ
own_unit (Abort managed) tag = abort_unit tag managed
own_unit Synchronize tag = sync_unit tag

abbrev pub own_length : OwnKind → ℕ
own_length (Abort managed) = 16
own_length Synchronize = 32

-- what is sent: on its tag, without data
abbrev pub own_sent : OwnTask → Sent
own_sent own = record { tag = own.tag; way = Nothing; unit = own_unit own.kind own.tag; list = None }

-- its TRB on the command pipe's ring has the unit's bytes
abbrev pub own_trb : ℕ → ℕ → DataTrb
own_trb at length = record { at = at; length = length; packets_left = 0; is_last = true; is_in = false }

abbrev pub own_stored : Option ℕ → Layout → PipeRing → ℕ → Access
own_stored None layout at length = Rest 0
own_stored (Some unit) layout at length =
    store_in (Some (pipe_address at layout)) (Sixteen (bytes_of (data_words (own_trb unit length) (not at.cycle))))

abbrev pub own_last : Option ℕ → Layout → PipeRing → ℕ → Access
own_last None layout at length = Rest 0
own_last (Some unit) layout at length =
    store_in (Some (later (pipe_address at layout) 12)) (Four (little_bytes 4 (data_words (own_trb unit length) at.cycle).control))

-- its put: a command's without data, but for that TRB
abbrev pub own_access_at : Put → OwnTask → Controller → Layout → Target → Access
own_access_at put.PipeBody own c layout target =
    own_stored (place_of layout (OfTag own.tag CommandUnit)) layout own.spots.pipe (own_length own.kind)
own_access_at put.PipeLast own c layout target =
    own_last (place_of layout (OfTag own.tag CommandUnit)) layout own.spots.pipe (own_length own.kind)
own_access_at at own c layout target = put_access at c layout target (own_sent own) own.spots []

abbrev pub own_access : Option OwnTask → Put → Controller → Layout → Target → Access
own_access None at c layout target = Rest 0
own_access (Some own) at c layout target = own_access_at at own c layout target

abbrev pub own_next : Option OwnTask → Put → Option Put
own_next None at = None
own_next (Some own) at = put_after at (own_sent own) own.spots []

-- THE RESPONSE (INCITS 471, Response unit): 00h, TASK MANAGEMENT FUNCTION COMPLETE, and 08h, TASK MANAGEMENT FUNCTION SUCCEEDED; nothing else says
-- that the task was aborted
abbrev pub is_done : StatusKind → Bool
is_done (unit.Sense status sense) = false
is_done (unit.Response code) = (code == 0) || (code == 8)
is_done unit.ReadReady = false
is_done unit.WriteReady = false

abbrev pub is_done_on : Option StatusUnit → ℕ → Bool
is_done_on None tag = false
is_done_on (Some came) tag = (came.tag == tag) && is_done came.kind

abbrev pub is_carried_out : List ℕ → ℕ → Bool
is_carried_out bytes tag = is_done_on (status_in bytes) tag
