use Rattle.td_laws.proofs.DataInElse.{data_in_leaves}
use Rattle.td_laws.proofs.StatusElse.{status_leaves}
use Rattle.td_laws.proofs.OutElse.{command_leaves, data_out_leaves}
use Rattle.td_laws.proofs.Overtaken.{turns_leave_else}
use Rattle.td_laws.proofs.nothing_else.Goals as goal

pub returns : goal.returns
returns g c = record {
  of_data_in = λ kind. data_in_leaves kind;
  of_status = λ kind. status_leaves kind;
  of_data_out = λ kind. data_out_leaves kind;
  of_command = λ kind. command_leaves kind;
  of_each_turn = λ kind. turns_leave_else kind;
}
