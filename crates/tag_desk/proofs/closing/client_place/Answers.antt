use Rattle.std.proofs.Common.{arith}
use Rattle.tag_desk.specs.Left.{client_number, no_customer}
use Rattle.tag_desk.proofs.Finding.{place_of}
use Rattle.tag_desk.proofs.closing.client_place.Goals as goal

pub unreachable-requires : goal.unreachable-requires
unreachable-requires c =
    let there = place_of client_number c.args.seats.now c.args.client c.requires in
    let within = there.1 in
    c.loop-place.invariant there.0 no_customer (omega arith) (there.2 no_customer)
