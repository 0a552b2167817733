-- A task management: the faults agree, and the step fits.
use Rattle.bus_core.proofs.submit.TaskFaults.{task_faults-agree}
use Rattle.bus_core.proofs.submit.TaskSubmitting.{tasks-fit}
use Rattle.bus_core.proofs.world_laws.tasks_fit.Goals as goal

pub returns-clause-faults : goal.returns-clause-faults
returns-clause-faults c = task_faults-agree

pub returns-clause-step : goal.returns-clause-step
returns-clause-step c = tasks-fit
