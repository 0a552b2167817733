use Rattle.std.proofs.Common.{◌≡◌, length}
use Rattle.uas_host.specs.Events.{commands_freed}
use Rattle.uas_host.proofs.Host.free_commands.Given as goal

-- what is to be freed at last stays the same
abbrev pub invariant-loop-pointer : goal.invariant-loop-pointer
invariant-loop-pointer l = commands_freed l.self l.lines ≡ commands_freed l.self l.initial.lines

abbrev pub decreases-loop-pointer : goal.decreases-loop-pointer
decreases-loop-pointer l = length l.lines.command.put
