use Rattle.std.proofs.Common.{◌≡◌, map}
use Rattle.usb_serve.specs.Files.{filed}
use Rattle.usb_serve.specs.Rooms.{IsIdle}
use Rattle.usb_serve.specs.Sessions.{Served}
use Rattle.usb_serve.specs.Steps.{world}
use Rattle.usb_serve.proofs.session.serve_packets.Given as goal

abbrev pub invariant-loop-turn : goal.invariant-loop-turn
invariant-loop-turn g l =
    let files = map (filed g.B.Blocks.tells g.B.Blocks.can_fail g.B.Blocks.holds g.B.Blocks.synced g.B.Blocks.is_spoiled) in
    record {
      idle : IsIdle l.rooms;
      read : g.S.Source.can_fail l.input ≡ g.S.Source.can_fail l.fn.input;
      written : g.O.Output.can_fail l.output ≡ g.O.Output.can_fail l.fn.output;
      served : Served l.turn (world l.fn.usb (files l.fn.units)) (world l.usb (files l.units))
          (g.S.Source.left l.fn.input) (g.S.Source.left l.input) (g.O.Output.written l.fn.output) (g.O.Output.written l.output);
    }
