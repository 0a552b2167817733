-- What row 14 stores of a disk with the pipes 01h, 82h, 83h and 04h, byte by byte: in memory lent at 10000000h for 15 tags and 31 TRBs.
use Rattle.std.specs.Prelude.{◌≡◌, ℕ, List, ◌++◌, replicate}
use Rattle.bring_up.specs.declared.access.Access.TheVariants.{Store}
use Rattle.bring_up.specs.declared.access.Stored.TheVariants.{Sixteen, ThirtyTwo}
use Rattle.bring_up.specs.declared.slots.Device.{Device}
use Rattle.host_layout.specs.declared.layout.Layout.{Layout}
use Rattle.host_layout.specs.declared.shape.Pieces.TheVariants.{ThirtyOne}
use Rattle.host_trbs.specs.declared.contexts.ContextSize.TheVariants.{Short}
use Rattle.uas_profile.specs.declared.Pipe.{Pipe}
use Rattle.usb_descriptors.specs.declared.Pipes.{Pipes}
use Rattle.usb_descriptors.specs.declared.stream_tags.Streams.{Streams}
use Rattle.usb_descriptors.specs.Rows.{emulated_function}
use Rattle.disk_up.specs.declared.pipes.Piping.TheVariants.{Stream, OfPipe}
use Rattle.disk_up.specs.PipeRows.{pipes_access}

-- 15 tags, arrays of 16
abbrev pub row_streams : Streams
row_streams = record { tags = 15; contexts = 16; max_primary_streams = 3 }

-- the context of a pipe's stream 1 stands at this address, and begins with these bytes
abbrev pub RowStream : Pipe → ℕ → List ℕ → Type 0
RowStream pipe at bytes =
    (layout : Layout) (device : Device) (pipes : Pipes) (streams : Streams)
    → layout.base ≡ 0x10000000 → layout.shape.tags ≡ 15 → layout.shape.pieces ≡ ThirtyOne
    → pipes_access (Stream pipe 1) layout device pipes streams ≡ Store at (Sixteen (bytes ++ replicate 12 0))

-- likewise a pipe's endpoint context, of 32 bytes
abbrev pub RowContext : Pipe → ℕ → List ℕ → Type 0
RowContext pipe at bytes =
    (layout : Layout) (device : Device) → layout.base ≡ 0x10000000 → layout.shape.contexts ≡ Short
    → pipes_access (OfPipe pipe) layout device emulated_function.pipes row_streams ≡ Store at (ThirtyTwo (bytes ++ replicate 12 0))
