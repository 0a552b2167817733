use Rattle.std.proofs.Common.{◌≡◌, ◌++◌}
use Rattle.draw_run.specs.picture.Frame.{client_lanes}
use Rattle.draw_run.proofs.picture.frame.push_client_lanes.Given as goal

abbrev pub invariant-loop-client : goal.invariant-loop-client
invariant-loop-client l = l.text.items ≡ l.fn.text.items ++ client_lanes l.clients l.bottom l.client
