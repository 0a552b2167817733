-- The consumer's end is at the item that the address names.
use Rattle.std.proofs.Common.{◌-◌, ◌<◌, arith}
use Rattle.std.proofs.lemmas.Option.{same_Some}
use Rattle.cycle_ring.proofs.Consumers.{AtItem-end}
use Rattle.cycle_ring.proofs.segment.Segment.set_dequeue.Goals as goal

pub returns-clause-set : goal.returns-clause-set
returns-clause-set g c k pending =
    let ring = c.requires.ring in
    let below = c.in-Some.ensures.found.0 in
    let used = (c.is_in_use.ensures c.in-Some.item below c.end_at-next.ensures.end).0 c.if-not-is_in_use.false in
    let there = AtItem-end g.row.N c.args.self.now c.end_at-next.result _ c.in-Some.item ring (omega arith) c.end_at-next.ensures.end in
    let within : k < g.row.N - 1 = omega (arith, pending.1, ring.room_left, ring.least_places) in
    let same = same_Some c.in-Some.item k (c.in-Some.ensures.every k within pending.2) in
    rw (← same) (there.ring)

pub returns-clause-consumer : goal.returns-clause-consumer
returns-clause-consumer g c =
    let below = c.in-Some.ensures.found.0 in
    let used = (c.is_in_use.ensures c.in-Some.item below c.end_at-next.ensures.end).0 c.if-not-is_in_use.false in
    (AtItem-end g.row.N c.args.self.now c.end_at-next.result _ c.in-Some.item c.requires.ring (omega arith) c.end_at-next.ensures.end).consumer
