-- What is put for a command on tag 1, of a disk with the pipes 01h, 82h, 83h and 04h in slot 1: in memory lent at 10000000h for 15 tags and 31 TRBs,
-- with doorbells from 2000h of the registers on.
use Rattle.std.specs.Prelude.{◌≡◌, ℕ, List}
use Rattle.bring_up.specs.declared.access.Access.{Access}
use Rattle.bring_up.specs.declared.access.Access.TheVariants.{Write32}
use Rattle.bring_up.specs.declared.controller.Controller.{Controller}
use Rattle.host_layout.specs.declared.layout.Layout.{Layout}
use Rattle.host_layout.specs.declared.segments.Piece.{Piece}
use Rattle.host_layout.specs.declared.shape.Pieces.TheVariants.{ThirtyOne}
use Rattle.usb_descriptors.specs.Rows.{emulated_function}
use Rattle.disk_ready.specs.declared.puts.Put.{Put}
use Rattle.disk_ready.specs.declared.puts.Sent.{Sent}
use Rattle.disk_ready.specs.declared.puts.Spots.{Spots}
use Rattle.disk_ready.specs.declared.puts.Target.{Target}
use Rattle.disk_ready.specs.declared.puts.Way.{Way}
use Rattle.disk_ready.specs.Puts.{put_access}

abbrev pub row_target : Target
row_target = record { slot = 1; pipes = emulated_function.pipes }

-- a doorbell is rung with this value: DB Target, and DB Stream ID from bit 16 on
abbrev pub RowBell : Put → Way → ℕ → Type 0
RowBell put way value =
    (c : Controller) (layout : Layout) (sent : Sent) (spots : Spots) (pieces : List Piece)
    → c.doorbells ≡ 0x2000 → sent.tag ≡ 1 → sent.way ≡ way
    → put_access put c layout row_target sent spots pieces ≡ Write32 0x2004 value

-- what is stored behind data in third 0 and a status in third 1
abbrev pub RowPut : Put → Way → Access → Type 0
RowPut put way access =
    (c : Controller) (layout : Layout) (sent : Sent) (spots : Spots) (pieces : List Piece)
    → layout.base ≡ 0x10000000 → layout.shape.tags ≡ 15 → layout.shape.pieces ≡ ThirtyOne → sent.tag ≡ 1 → sent.way ≡ way
    → spots.data_third ≡ 0 → spots.status_third ≡ 1
    → put_access put c layout row_target sent spots pieces ≡ access
