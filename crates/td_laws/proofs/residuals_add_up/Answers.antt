use Rattle.td_laws.proofs.CommandTells as commands
use Rattle.td_laws.proofs.EdtlaAdds.{edtla_adds_up}
use Rattle.td_laws.proofs.OutTells as outs
use Rattle.td_laws.proofs.StatusTells as statuses
use Rattle.td_laws.proofs.Tells as tells
use Rattle.td_laws.proofs.residuals_add_up.Goals as goal

pub returns : goal.returns
returns g c = record {
  of_data_in = λ kind. tells.residuals_add_up kind;
  of_status = λ kind. statuses.status_residuals_add_up kind;
  of_data_out = λ kind. outs.out_residuals_add_up kind;
  of_command = λ kind. commands.command_residuals_add_up kind;
  of_edtla = λ kind number home. edtla_adds_up kind number home;
}
