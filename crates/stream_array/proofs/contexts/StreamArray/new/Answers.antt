-- Every context is that of a new ring.
use Rattle.std.proofs.Common.{◌≡◌, length, arith}
use Rattle.stream_array.proofs.Opening.{IsStored-opening}
use Rattle.stream_array.proofs.contexts.StreamArray.new.Goals as goal

pub invariant_of-result : goal.invariant_of-result
invariant_of-result g c =
    let items = c.loop-stream.contexts.items in
    let count : length items ≡ g.row.S = omega (arith, c.loop-stream.invariant.0, c.loop-stream.auto.stream-end, c.loop-stream-test.false) in
    IsStored-opening c.args.pipe g.row.S items c.requires.least_entries c.requires.most_entries count
    (λ stream within. c.loop-stream.invariant.1 stream (omega arith))
