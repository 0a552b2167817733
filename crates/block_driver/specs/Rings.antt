-- Where the next TDs of each tag stand: the thirds of its rings.
use Rattle.std.specs.Prelude.{ℕ, List, replicate, slice_set}
use Rattle.disk_ready.specs.declared.puts.PipeRing.{PipeRing}
use Rattle.disk_ready.specs.declared.puts.Spots.{Spots}
use Rattle.disk_ready.specs.declared.puts.Way.{Way}
use Rattle.disk_ready.specs.declared.puts.Way.TheVariants.{Nothing, In, Out}
use Rattle.host_layout.specs.declared.rings.Ring.{Ring}
use Rattle.host_layout.specs.declared.rings.Ring.TheVariants.{Status, DataIn, DataOut}
use Rattle.disk_up.specs.Controls.{next_third}
use Rattle.block_driver.specs.declared.kinds.StreamPipe.{StreamPipe}
use Rattle.block_driver.specs.declared.kinds.StreamPipe.TheVariants as pipe
use Rattle.block_driver.specs.declared.rings.Thirds.{Thirds}

abbrev pub thirds_begun : Thirds
thirds_begun = record { data_in = 0; data_out = 0; status = 0 }

-- a command's data stand in the third of its way's ring
abbrev pub data_third : Way → Thirds → ℕ
data_third Nothing thirds = thirds.data_in
data_third In thirds = thirds.data_in
data_third Out thirds = thirds.data_out

abbrev pub spots_at : Thirds → Way → PipeRing → Spots
spots_at thirds way pipe = record { data_third = data_third way thirds; status_third = thirds.status; pipe = pipe }

-- behind a command: each ring that it has a TD on goes on to the next third
abbrev pub thirds_by : Way → Thirds → Thirds
thirds_by Nothing thirds = record thirds { status = next_third thirds.status }
thirds_by In thirds = record thirds { data_in = next_third thirds.data_in; status = next_third thirds.status }
thirds_by Out thirds = record thirds { data_out = next_third thirds.data_out; status = next_third thirds.status }

abbrev pub thirds_after : Thirds → Way → Thirds
thirds_after thirds way = thirds_by way thirds

-- the third of a pipe's ring, and the ring of a tag on it
abbrev pub third_on : StreamPipe → Thirds → ℕ
third_on pipe.DataIn thirds = thirds.data_in
third_on pipe.DataOut thirds = thirds.data_out
third_on pipe.Status thirds = thirds.status

abbrev pub ring_on : StreamPipe → ℕ → Ring
ring_on pipe.DataIn tag = DataIn tag
ring_on pipe.DataOut tag = DataOut tag
ring_on pipe.Status tag = Status tag

-- once a disk got ready: the TDs of its questions were on tag 1, whose rings go on behind them
abbrev pub first_thirds : Spots → Thirds
first_thirds spots = record { data_in = spots.data_third; data_out = 0; status = spots.status_third }

unfoldable pub thirds_from : Spots → List Thirds
thirds_from spots = slice_set (replicate 256 thirds_begun) 1 (first_thirds spots)
