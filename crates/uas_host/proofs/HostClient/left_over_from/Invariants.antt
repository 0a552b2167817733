use Rattle.std.proofs.Common.{◌≡◌, ℕ, ◌<◌, ◌≤◌, false}
use Rattle.scsi_cmd.specs.Held.{held_at}
use Rattle.uas_host.specs.Left.{is_held_left_over}
use Rattle.uas_host.proofs.HostClient.left_over_from.Given as goal

-- of the slots so far no TD is left over
abbrev pub invariant-loop-slot : goal.invariant-loop-slot
invariant-loop-slot l = (other : ℕ) → l.from ≤ other → other < l.slot → is_held_left_over l.pipe (held_at l.self.entries other) ≡ false
