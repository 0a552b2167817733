use Rattle.std.proofs.Common.{◌≡◌, ◌+◌, ◌-◌, ◌*◌, ◌++◌}
use Rattle.arrayvec.specs.ArrayVec.{array_vec_len}
use Rattle.host_commands.specs.Data.{luns_from, report_luns}
use Rattle.host_commands.proofs.writer.write_luns.Given as goal

-- what is written so far and the LUNs still to come are all of it
abbrev pub invariant-loop-number : goal.invariant-loop-number
invariant-loop-number l =
    (array_vec_len l.into ≡ 8 + 8 * l.number) × (l.into.items ++ luns_from (l.count - l.number) l.number ≡ report_luns l.count)
