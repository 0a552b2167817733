use Rattle.std.proofs.Common.{arith}
use Rattle.tag_desk.specs.Left.{pump_number, no_server}
use Rattle.tag_desk.proofs.Finding.{place_of}
use Rattle.tag_desk.proofs.closing.pump_place.Goals as goal

pub unreachable-requires : goal.unreachable-requires
unreachable-requires c =
    let there = place_of pump_number c.args.seats.now c.args.pump c.requires in
    let within = there.1 in
    c.loop-place.invariant there.0 no_server (omega arith) (there.2 no_server)
