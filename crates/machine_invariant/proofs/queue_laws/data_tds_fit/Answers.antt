-- Data TDs fit their rings.
use Rattle.machine_invariant.proofs.MatchedNext.{accepted-trbs, matched-data_trbs}
use Rattle.machine_invariant.proofs.queue_laws.data_tds_fit.Goals as goal

pub returns-clause-accepted : goal.returns-clause-accepted
returns-clause-accepted c = accepted-trbs

pub returns-clause-held : goal.returns-clause-held
returns-clause-held c = matched-data_trbs
