use Rattle.std.proofs.Common.{◌≡◌, []}
use Rattle.std.specs.Prelude.{IfSome}
use Rattle.uas_decode.proofs.Streams.{Goes}
use Rattle.uas_decode.proofs.run.decode.Given as goal

-- nothing waits to be written, and what was written, the line and what is left make up the whole
abbrev pub invariant-loop : goal.invariant-loop
invariant-loop g l = record {
  waits : l.lines.text.items ≡ [];
  goes : IfSome (g.S.Source.left l.fn.input)
      (λ bytes. Goes bytes (g.S.Source.left l.input) (g.O.Sink.written l.fn.output) (g.O.Sink.written l.output) l.lines.line.items l.lines.refused);
  input : g.S.Source.can_fail l.input ≡ g.S.Source.can_fail l.fn.input;
  output : g.O.Sink.can_fail l.output ≡ g.O.Sink.can_fail l.fn.output;
  stays : g.S.Source.is_there l.input ≡ g.S.Source.is_there l.fn.input;
}
