use Rattle.std.proofs.Common.{◌≡◌}
use Rattle.serve_run.specs.Handshake.{Shaking}
use Rattle.serve_run.proofs.handshake.shake.Given as goal

abbrev pub invariant-loop-turn : goal.invariant-loop-turn
invariant-loop-turn g l = record {
  read : g.S.Source.can_fail l.input ≡ g.S.Source.can_fail l.fn.input;
  written : g.O.Output.can_fail l.output ≡ g.O.Output.can_fail l.fn.output;
  shaking : Shaking l.size l.lacks_zeros l.turn (g.S.Source.left l.fn.input) (g.S.Source.left l.input)
      (g.O.Output.written l.fn.output) (g.O.Output.written l.output);
}
