-- The consumer's end goes one place on, or over the Link.
use Rattle.std.proofs.Common.{ap, arith}
use Rattle.cycle_ring.specs.Items.{ItemRing}
use Rattle.cycle_ring.proofs.Consumers.{AtItem-next, AtItem-behind_link, text-link, within-consumer}
use Rattle.cycle_ring.proofs.segment.Segment.advance.Goals as goal

pub overflow_add-next : goal.overflow_add-next
overflow_add-next g c = omega (arith, within-consumer g.row.N c.args.self.now c.args.end c.requires.consumer, c.requires.consumer.ring.most_places)

pub overflow_sub-turn : goal.overflow_sub-turn
overflow_sub-turn g c = omega (arith, c.requires.consumer.ring.least_places)

pub returns-then-next-turn : goal.returns-then-next-turn
returns-then-next-turn g c =
    let next = AtItem-next g.row.N c.args.self.now c.args.end c.requires.consumer c.requires.pending c.if-next-turn.true in
    record { consumer = next.consumer; advanced = next.ring }

pub returns : goal.returns
returns g c =
    let segment = rw c.self.view_is at c.self.invariant in
    let base = ap (λ (q : ItemRing). q.base) c.self.view_is in
    let link = text-link g.row.N _ _ _ _ c.args.end c.args.self.now c.index.result.now base segment c.requires.consumer c.requires.pending
    c.if-next-turn.false c.index.ensures in
    let next = AtItem-behind_link g.row.N c.args.self.now c.args.end c.requires.consumer c.requires.pending c.if-next-turn.false in
    rw (c.behind_link.ensures link.0 _ link.1) (record { consumer = next.consumer; advanced = next.ring })
