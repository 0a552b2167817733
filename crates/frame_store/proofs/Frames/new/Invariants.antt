use Rattle.std.proofs.Common.{◌≡◌, replicate}
use Rattle.frame_store.specs.Buffers.{opening_buffers}
use Rattle.frame_store.proofs.Frames.new.Given as goal

abbrev pub invariant-loop : goal.invariant-loop
invariant-loop l = l.tags.items ≡ replicate l.counter opening_buffers
