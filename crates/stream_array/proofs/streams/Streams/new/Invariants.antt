use Rattle.std.proofs.Common.{◌≡◌, ℕ, ◌+◌, ◌<◌, true, vec_len, slice_index_or}
use Rattle.cycle_ring.specs.Ring.{opening}
use Rattle.cycle_ring.specs.Segment.{IsConsumer}
use Rattle.uas_profile.specs.declared.TheConstants.{STREAM_RING_PLACES}
use Rattle.stream_array.specs.Map.{ring_base}
use Rattle.stream_array.proofs.streams.Streams.new.Given as goal

abbrev pub invariant-loop-count : goal.invariant-loop-count
invariant-loop-count l =
    (vec_len l.segments ≡ l.count)
    × ((k : ℕ) → k < l.count → slice_index_or l.segments.items k (opening 0) ≡ opening (ring_base l.fn.pipe (k + 1)))
    × ((k : ℕ) → k < l.count → IsConsumer STREAM_RING_PLACES (opening (ring_base l.fn.pipe (k + 1))) (record { place = 0; cycle = true }))
