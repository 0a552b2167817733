use Rattle.controller_bytes.proofs.transfers.read_pipes.Goals as goal

pub returns-clause-fits : goal.returns-clause-fits
returns-clause-fits c = record {
  gathered = c.in_ok-gathered.ensures.few;
  status = c.in_ok-status.ensures.few;
  data_out = c.in_ok-data_out.ensures.few;
  data_in = c.in_ok-data_in.ensures.few;
}
