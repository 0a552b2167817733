use Rattle.std.proofs.Common.{◌≡◌, ◌-◌, ◌^◌, min, take}
use Rattle.std.specs.List.{sum_by}
use Rattle.block_requests.specs.Submissions.{length_in}
use Rattle.block_requests.proofs.submissions.lent_bytes.Given as goal

-- the bytes of the segments so far
abbrev pub invariant-loop-segment : goal.invariant-loop-segment
invariant-loop-segment l = l.lent ≡ min (sum_by length_in (take l.segment-index l.segments)) (2 ^ 64 - 1)
