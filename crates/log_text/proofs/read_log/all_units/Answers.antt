use Rattle.log_text.specs.Reading.{unit_at}
use Rattle.log_text.proofs.ReadLoops.{gives_some}
use Rattle.log_text.proofs.read_log.all_units.Goals as goal

-- as many units as a client at least
pub returns-clause-some : goal.returns-clause-some
returns-clause-some c = gives_some unit_at (λ read. (read.0.items, read.1.now)) _ _ c.units.result c.in_ok-clients.ensures.least c.units.ensures
