-- A submission: the faults agree, and the step fits.
use Rattle.bus_core.proofs.submit.SubmissionFaults.{faults-agree}
use Rattle.bus_core.proofs.submit.Submitting.{submissions-fit}
use Rattle.bus_core.proofs.world_laws.submissions_fit.Goals as goal

pub returns-clause-faults : goal.returns-clause-faults
returns-clause-faults c = faults-agree

pub returns-clause-step : goal.returns-clause-step
returns-clause-step c = submissions-fit
