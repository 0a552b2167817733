use Rattle.std.proofs.Common.{◌≡◌, ◌*◌, length}
use Rattle.std.specs.Prelude.{IsTrue}
use Rattle.serve_run.specs.Filed.{filed}
use Rattle.serve_run.specs.Sessions.{Turns}
use Rattle.serve_run.proofs.transmission.transmit.Given as goal

abbrev pub invariant-loop-turn : goal.invariant-loop-turn
invariant-loop-turn g l = record {
  disk : l.disk ≡ l.fn.disk;
  told : g.B.Blocks.tells l.file ≡ g.B.Blocks.tells l.fn.file;
  same : g.B.Blocks.can_fail l.file ≡ g.B.Blocks.can_fail l.fn.file;
  read : g.S.Source.can_fail l.input ≡ g.S.Source.can_fail l.fn.input;
  written : g.O.Output.can_fail l.output ≡ g.O.Output.can_fail l.fn.output;
  len : IsTrue (g.B.Blocks.tells l.fn.file) → length (g.B.Blocks.holds l.file) ≡ 512 * l.fn.disk;
  turns : Turns (g.B.Blocks.can_fail l.fn.file) (g.B.Blocks.tells l.fn.file) (512 * l.fn.disk) l.turn
      (filed (g.B.Blocks.holds l.fn.file) (g.B.Blocks.synced l.fn.file)) (filed (g.B.Blocks.holds l.file) (g.B.Blocks.synced l.file))
      (g.S.Source.left l.fn.input) (g.S.Source.left l.input) (g.O.Output.written l.fn.output) (g.O.Output.written l.output);
}
