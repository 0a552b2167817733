use Rattle.td_laws.proofs.CommandTells as commands
use Rattle.td_laws.proofs.OutTells as outs
use Rattle.td_laws.proofs.StatusTells as statuses
use Rattle.td_laws.proofs.Tells as tells
use Rattle.td_laws.proofs.an_event_each.Goals as goal

pub returns : goal.returns
returns g c = record {
  of_data_in = λ kind. tells.an_event_each kind;
  of_status = λ kind. statuses.status_event_each kind;
  of_data_out = λ kind. outs.out_event_each kind;
  of_command = λ kind. commands.command_event_each kind;
  of_none = λ kind. tells.none_without_a_trb kind;
}
