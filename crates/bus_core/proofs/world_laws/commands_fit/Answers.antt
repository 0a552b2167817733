-- A step of the command pipe.
use Rattle.bus_core.proofs.carry.CommandFits.{command_fits, no_command_idle}
use Rattle.bus_core.proofs.world_laws.commands_fit.Goals as goal

pub returns-clause-step : goal.returns-clause-step
returns-clause-step c = command_fits

pub returns-clause-idle : goal.returns-clause-idle
returns-clause-idle c = no_command_idle
