-- The first stream of a pipe that waits, as the search for it answers.
use Rattle.std.proofs.Common.{◌≡◌, ℕ, ◌+◌, ◌≤◌, false, Option, Some, None, IfSome, sym, arith}
use Rattle.std.specs.Prelude.{IfNone}
use Rattle.std.proofs.lemmas.Bool.{le-ltb, lt-ltb}
use Rattle.uas_profile.specs.Pipes.{HasStreams}
use Rattle.uas_profile.specs.declared.Pipe.{Pipe}
use Rattle.uas_profile.specs.declared.Pipe.TheVariants.{Command, Status, DataIn, DataOut}
use Rattle.uas_profile.specs.declared.TheConstants.{STREAMS}
use Rattle.stream_array.specs.Map.{HasRing}
use Rattle.stream_array.specs.Rings.{HasPending, LinesState, NonePendingOn, ring_of}
use Rattle.uas_host.specs.Retirement.{has_pending}
use Rattle.uas_host.proofs.Resuming.{ring-last}
use Rattle.uas_driver.specs.Settled.{first_pending}
use Rattle.uas_driver.proofs.Least.{find-least, find-none}

ring-first : (pipe : Pipe) (stream : ℕ) → HasStreams pipe → HasRing pipe stream → 1 ≤ stream
ring-first Command stream has ring = absurd has
ring-first Status stream has ring = omega (arith, ring.0)
ring-first DataIn stream has ring = omega (arith, ring.0)
ring-first DataOut stream has ring = omega (arith, ring.0)

its-ring : (pipe : Pipe) (stream : ℕ) → HasStreams pipe → 1 ≤ stream → stream ≤ STREAMS → HasRing pipe stream
its-ring Command stream has first last = absurd has
its-ring Status stream has first last = (omega (arith, first), last)
its-ring DataIn stream has first last = (omega (arith, first), last)
its-ring DataOut stream has first last = (omega (arith, first), last)

idle : (lines : LinesState) (pipe : Pipe) (stream : ℕ) → (HasPending (ring_of lines pipe stream) → ⊥) → has_pending (ring_of lines pipe stream) ≡ false
idle lines pipe stream none = le-ltb _ _ (omega (arith, none))

pub first-told : (lines : LinesState) (pipe : Pipe) (result : Option ℕ) → HasStreams pipe
    → IfSome result (λ next. (1 ≤ next) × HasRing pipe next × HasPending (ring_of lines pipe next) × NonePendingOn lines pipe 1 next)
    → IfNone result (NonePendingOn lines pipe 1 (STREAMS + 1)) → result ≡ first_pending lines pipe
unfolding first_pending
first-told lines pipe (Some next) has there none =
    let last : next ≤ STREAMS = ring-last pipe next has there.1 in
    sym (find-least (λ stream. has_pending (ring_of lines pipe stream)) STREAMS 1 next there.0 (omega (arith, last)) (lt-ltb _ _ there.2)
    (λ other above below. idle lines pipe other (there.3 other (its-ring pipe other has above (omega (arith, last, below))) above below)))
first-told lines pipe None has there none =
    sym (find-none (λ stream. has_pending (ring_of lines pipe stream)) STREAMS 1
    (λ other above below. idle lines pipe other (none other (its-ring pipe other has above (omega (arith, below))) above (omega (arith, below)))))
