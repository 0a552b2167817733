-- No two places share a byte.
use Rattle.std.proofs.Common.{◌≡◌, ℕ, ◌<◌, ◌≤◌, refl, arith}
use Rattle.uas_profile.specs.declared.Pipe.{Pipe}
use Rattle.uas_profile.specs.declared.Pipe.TheVariants.{Command, Status, DataIn, DataOut}
use Rattle.uas_profile.specs.Pipes.{number_of}
use Rattle.stream_array.specs.Map.{IsPlace, Spot, ring_spot, engine_spot, event_spot, IsSpot, IsByteOf}
use Rattle.uas_profile.specs.declared.TheConstants.{COMMAND_RING_PLACES, STREAMS}

-- the bounds of all pipes' rings
record Bounds (pipe : Pipe) (stream place : ℕ) : Type 0 where
  least : 1 ≤ number_of pipe
  most : number_of pipe ≤ 4
  streams : stream ≤ STREAMS
  places : place < COMMAND_RING_PLACES

bounds : (pipe : Pipe) (stream place : ℕ) → IsPlace pipe stream place → Bounds pipe stream place
bounds Command stream place h = record { least = omega arith; most = omega arith; streams = omega arith; places = omega arith }
bounds pipe stream place h = record { least = omega arith; most = omega arith; streams = omega arith; places = omega arith }

-- a pipe by its number
same_pipe : (p q : Pipe) → number_of p ≡ number_of q → p ≡ q
same_pipe Command Command e = refl
same_pipe Status Status e = refl
same_pipe DataIn DataIn e = refl
same_pipe DataOut DataOut e = refl
same_pipe p q e = absurd (omega arith)

-- two places with a byte in common are one
pub same_spot : (a b : Spot) (address : ℕ) → IsSpot a → IsSpot b → IsByteOf a address → IsByteOf b address → a ≡ b
same_spot (ring_spot p s k) (ring_spot q t m) address ha hb ba bb =
    let bounds_a = bounds p s k ha in
    let bounds_b = bounds q t m hb in
    let number : number_of p ≡ number_of q = omega arith in
    let pipe = same_pipe p q number in
    let stream : s ≡ t = omega arith in
    let place : k ≡ m = omega arith in
    rw (pipe, stream, place) refl
same_spot (ring_spot p s k) (engine_spot m) address ha hb ba bb = let bounds_a = bounds p s k ha in absurd (omega arith)
same_spot (ring_spot p s k) (event_spot m) address ha hb ba bb = let bounds_a = bounds p s k ha in absurd (omega arith)
same_spot (engine_spot k) (ring_spot q t m) address ha hb ba bb = let bounds_b = bounds q t m hb in absurd (omega arith)
same_spot (engine_spot k) (engine_spot m) address ha hb ba bb = let place : k ≡ m = omega arith in rw place refl
same_spot (engine_spot k) (event_spot m) address ha hb ba bb = absurd (omega arith)
same_spot (event_spot k) (ring_spot q t m) address ha hb ba bb = let bounds_b = bounds q t m hb in absurd (omega arith)
same_spot (event_spot k) (engine_spot m) address ha hb ba bb = absurd (omega arith)
same_spot (event_spot k) (event_spot m) address ha hb ba bb = let place : k ≡ m = omega arith in rw place refl
