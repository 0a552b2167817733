-- A stream's ring is its segment, with the consumer's end that its context names.
use Rattle.stream_array.proofs.Named.{AtStream-read, ring-end}
use Rattle.stream_array.proofs.streams.Streams.ring.Goals as goal

pub returns-clause-ring : goal.returns-clause-ring
returns-clause-ring c =
    let at = AtStream-read c.self.inside.segments.items c.self.inside.contexts c.args.self.now c.args.stream c.index-segment.result.now c.self.invariant.0 c.self.view_is
    c.requires.some c.requires.last c.index-segment.ensures in
    ring-end _ _ _ _ _ at c.consumer-end.result c.consumer-end.ensures.end
