use Rattle.std.proofs.Common.{◌≡◌, ◌≤◌, length, take}
use Rattle.uas_host.specs.Tasks.{tickets_of}
use Rattle.uas_host.proofs.tasks.command_tickets.Given as goal

-- the tickets of the slots so far, at most one for each
abbrev pub invariant-loop-slot : goal.invariant-loop-slot
invariant-loop-slot l = record {
  tickets : l.tickets.items ≡ tickets_of (take l.slot l.entries);
  most : length l.tickets.items ≤ l.slot;
}
