use Rattle.uasdisk.proofs.RefusedEnds.{refused_statuses}
use Rattle.uasdisk.proofs.start.Goals as goal

pub returns-clause-refused : goal.returns-clause-refused
returns-clause-refused g c = λ some. refused_statuses _ _ _ c.run_words-status.result _ (c.run_words-status.ensures.refused some)
