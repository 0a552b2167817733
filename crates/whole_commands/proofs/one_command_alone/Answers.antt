use Rattle.whole_commands.proofs.BusRuns.{read-alone, write-alone}
use Rattle.whole_commands.proofs.one_command_alone.Goals as goal

pub returns-clause-read : goal.returns-clause-read
returns-clause-read c = read-alone

pub returns-clause-write : goal.returns-clause-write
returns-clause-write c = write-alone
