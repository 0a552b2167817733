use Rattle.td_laws.proofs.Forgotten as forgotten
use Rattle.td_laws.proofs.notes_are_beside.Goals as goal

pub returns : goal.returns
returns g c = record {
  of_data_in = λ kind. forgotten.notes_are_beside kind;
  of_data_out = λ kind. forgotten.out_notes_are_beside kind;
}
