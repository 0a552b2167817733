-- A consumer's end is at one of the ring's places, a multiple of 16.
use Rattle.std.proofs.Common.{arith}
use Rattle.cycle_ring.proofs.Consumers.{within-consumer}
use Rattle.cycle_ring.proofs.segment.Segment.address.Goals as goal

pub pointer-requires : goal.pointer-requires
pointer-requires g c = omega (arith, within-consumer g.row.N c.args.self.now c.args.end c.requires)

pub returns-clause-aligned : goal.returns-clause-aligned
returns-clause-aligned g c = omega (arith, c.pointer.ensures, c.requires.ring.base_aligned)
