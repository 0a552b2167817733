use Rattle.serve_run.proofs.Beginnings.{broken_begins}
use Rattle.serve_run.proofs.serve.broken_sessions_begin.Goals as goal

pub returns : goal.returns
returns c = broken_begins
