use Rattle.std.proofs.Common.{◌≡◌, ◌+◌, ◌*◌, ◌≤◌, ◌++◌, drop}
use Rattle.arrayvec.specs.ArrayVec.{array_vec_len}
use Rattle.host_commands.specs.OperationCodes.{command_descriptors}
use Rattle.host_commands.proofs.operation_codes.write_descriptors.Given as goal

-- what is written so far and the descriptors still to come are all of it
abbrev pub invariant-loop-command : goal.invariant-loop-command
invariant-loop-command l =
    (array_vec_len l.into ≤ 4 + 20 * l.command-index)
    × (l.into.items ++ command_descriptors l.timeouts (drop l.command-index l.commands)
    ≡ l.initial.into.items ++ command_descriptors l.timeouts l.commands)
