use Rattle.std.proofs.Common.{◌≡◌}
use Rattle.xhci_machine.specs.Orders.{next_begun}
use Rattle.xhci_machine.proofs.orders.next_begun.Given as goal

-- none of the streams before this one was begun
abbrev pub invariant-loop-stream : goal.invariant-loop-stream
invariant-loop-stream l = next_begun l.pipe l.fn.from ≡ next_begun l.pipe l.stream
