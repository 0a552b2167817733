-- New segments, and contexts that name their first places.
use Rattle.std.proofs.Common.{◌≡◌, length, ◌∙◌, arith}
use Rattle.uas_profile.specs.declared.TheConstants.{STREAMS}
use Rattle.stream_array.proofs.Fresh.{AreMarked-opening, AreOpening, AreStreams-opening, stream_ring-opening}
use Rattle.stream_array.proofs.Named.{length-rings_from}
use Rattle.stream_array.proofs.streams.Streams.new.Goals as goal

pub invariant_of-result : goal.invariant_of-result
invariant_of-result c =
    let segments : AreOpening c.args.pipe c.loop-count.segments.items = record {
      count = omega arith;
      segment = λ k within. c.loop-count.invariant.1 k (omega arith);
      consumer = λ k within. c.loop-count.invariant.2 k (omega arith);
    } in (
      AreStreams-opening c.args.pipe _ _ c.requires segments c.in_ok-contexts.ensures,
      AreMarked-opening c.args.pipe _ _ c.requires segments c.in_ok-contexts.ensures _ c.new-2.ensures.none,
    )

pub returns-clause-rings : goal.returns-clause-rings
returns-clause-rings c =
    let count : length c.loop-count.segments.items ≡ STREAMS = omega arith in
    length-rings_from 1 c.loop-count.segments.items _ ∙ count

pub returns-clause-ring : goal.returns-clause-ring
returns-clause-ring c stream some last =
    let segments : AreOpening c.args.pipe c.loop-count.segments.items = record {
      count = omega arith;
      segment = λ k within. c.loop-count.invariant.1 k (omega arith);
      consumer = λ k within. c.loop-count.invariant.2 k (omega arith);
    } in
    stream_ring-opening c.args.pipe _ _ stream c.requires segments c.in_ok-contexts.ensures some last
