-- The pipes as they were read, as what they are of.
use Rattle.std.specs.Prelude.{◌≤◌, length}
use Rattle.controller_bytes.specs.declared.transfers.PipesText.{PipesText}
use Rattle.controller_bytes.specs.Texts.{pipe_of}
use Rattle.controller_bytes.specs.Transfers.{PipesState}

abbrev pub pipes_of : PipesText → PipesState
pipes_of t = record {
  command = t.command;
  home = t.home;
  gathered = t.gathered.now;
  status = pipe_of t.status;
  data_out = pipe_of t.data_out;
  data_in = pipe_of t.data_in;
}

-- what was read has room in them
pub record FitsPipes (t : PipesText) : Type 0 where
  pub gathered : length t.gathered.now ≤ 4096
  pub status : t.status.head.streams ≤ 256
  pub data_out : t.data_out.head.streams ≤ 256
  pub data_in : t.data_in.head.streams ≤ 256
