use Rattle.std.proofs.Common.{◌≡◌, ◌<◌, ◌+◌, length, arith, ap, ◌∙◌}
use Rattle.std.specs.Prelude.{unwrap_or}
use Rattle.guest_memory.specs.Held.{held}
use Rattle.std.proofs.lemmas.List.{length-set}
use Rattle.guest_memory.specs.Ranges.{there_each, read_next}
use Rattle.guest_memory.proofs.memory.read_each.Goals as goal

pub loop-i-preserved : goal.loop-i-preserved
loop-i-preserved g c =
    let m = held g.P.Piece.part c.args.pieces.now in
    let inside : c.loop-i.i < length c.loop-i.into = omega (arith, c.loop-i-test.true, c.loop-i.invariant.size) in
    let read : c.unwrap_or.result ≡ unwrap_or (m (c.args.at + c.loop-i.i)) 0 = c.unwrap_or.ensures ∙ ap (λ b. unwrap_or b 0) c.byte_ahead.ensures in
    record {
      size = length-set c.loop-i.into c.loop-i.i c.unwrap_or.result ∙ c.loop-i.invariant.size;
      each = rw read (read_next m c.args.at c.loop-i.into c.loop-i.i inside
          (there_each m c.args.at (length c.args.into.now) c.requires c.loop-i.i c.loop-i-test.true) c.loop-i.invariant.each);
    }
