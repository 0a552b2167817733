use Rattle.std.proofs.Common.{◌≡◌, ℕ, List, [], map}
use Rattle.usb_serve.specs.Files.{filed}
use Rattle.usb_serve.specs.Rooms.{HasRooms}
use Rattle.usb_serve.specs.Sending.{Gathers}
use Rattle.usb_serve.specs.Steps.{Stepped, world}
use Rattle.usb_serve.proofs.session.serve_packet.Given as goal

-- so many steps were made, and what is sent of them was written but for what is gathered
abbrev pub invariant-loop-turn : goal.invariant-loop-turn
invariant-loop-turn g l =
    let files = map (filed g.B.Blocks.tells g.B.Blocks.can_fail g.B.Blocks.holds g.B.Blocks.synced g.B.Blocks.is_spoiled) in
    record {
      rooms : HasRooms l.rooms;
      written : g.O.Output.can_fail l.output ≡ g.O.Output.can_fail l.fn.output;
      steps : (text : List ℕ) × Stepped l.turn (world l.fn.usb (files l.fn.units)) text (world l.usb (files l.units))
          × Gathers [] l.rooms.gathered.items (g.O.Output.written l.fn.output) (g.O.Output.written l.output) text;
    }
