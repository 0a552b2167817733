use Rattle.host_commands.proofs.Used.{usage_is_read, usage_is_read_of_none}
use Rattle.host_commands.proofs.DiskSet.{disk_usage_is_read, disk_usage_is_read_of_none}
use Rattle.host_commands.proofs.ToldBits.{told_bits}
use Rattle.host_commands.proofs.ToldDiskBits.{disk_told_bits}
use Rattle.host_commands.proofs.laws.usage_is_what_is_read.Goals as goal

pub returns-clause-there : goal.returns-clause-there
returns-clause-there c = usage_is_read

pub returns-clause-none : goal.returns-clause-none
returns-clause-none c = usage_is_read_of_none

pub returns-clause-disk : goal.returns-clause-disk
returns-clause-disk c = disk_usage_is_read

pub returns-clause-no_disk : goal.returns-clause-no_disk
returns-clause-no_disk c = disk_usage_is_read_of_none

pub returns-clause-told : goal.returns-clause-told
returns-clause-told c = told_bits

pub returns-clause-disk_told : goal.returns-clause-disk_told
returns-clause-disk_told c = disk_told_bits
