use Rattle.host_commands.proofs.Told.{disk_taken_told, disk_told_taken, pages_listed, pages_tell, taken_told, told_taken}
use Rattle.host_commands.proofs.laws.lists_are_true.Goals as goal

pub returns-clause-pages : goal.returns-clause-pages
returns-clause-pages c = pages_listed

pub returns-clause-lengths : goal.returns-clause-lengths
returns-clause-lengths c = pages_tell

pub returns-clause-taken : goal.returns-clause-taken
returns-clause-taken c = taken_told

pub returns-clause-told : goal.returns-clause-told
returns-clause-told c = told_taken

pub returns-clause-disk_taken : goal.returns-clause-disk_taken
returns-clause-disk_taken c = disk_taken_told

pub returns-clause-disk_told : goal.returns-clause-disk_told
returns-clause-disk_told c = disk_told_taken
