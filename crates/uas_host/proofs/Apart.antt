-- Rings and buffers lie apart.
use Rattle.std.proofs.Common.{◌≡◌, ℕ, ◌<◌, ◌≤◌, arith}
use Rattle.frame_store.specs.declared.Buffer.{Buffer}
use Rattle.frame_store.specs.declared.Buffer.TheVariants.{Command as CommandBuffer, Status as StatusBuffer, Window}
use Rattle.frame_store.specs.Places.{IsPlace, address_of}
use Rattle.uas_profile.specs.declared.TheConstants.{RINGS, WINDOWS}
use Rattle.uas_profile.specs.declared.Pipe.TheVariants.{Command, Status, DataIn, DataOut}
use Rattle.stream_array.specs.Map.{IsByteOf, IsSpot, Spot, ring_spot, engine_spot, event_spot}
use Rattle.uas_host.specs.Laws.{RingsAreNoBuffers, TrbsNameBuffers}

-- where the rings' bytes lie
pub record IsInRings (address : ℕ) : Type 0 where
  pub from : RINGS ≤ address
  pub below : address < WINDOWS

spot_range : (spot : Spot) (address : ℕ) → IsSpot spot → IsByteOf spot address → IsInRings address
spot_range (ring_spot Command stream place) address there byte = record { from = omega (arith, there, byte); below = omega (arith, there, byte) }
spot_range (ring_spot Status stream place) address there byte = record { from = omega (arith, there, byte); below = omega (arith, there, byte) }
spot_range (ring_spot DataIn stream place) address there byte = record { from = omega (arith, there, byte); below = omega (arith, there, byte) }
spot_range (ring_spot DataOut stream place) address there byte = record { from = omega (arith, there, byte); below = omega (arith, there, byte) }
spot_range (engine_spot place) address there byte = record { from = omega (arith, there, byte); below = omega (arith, there, byte) }
spot_range (event_spot place) address there byte = record { from = omega (arith, there, byte); below = omega (arith, there, byte) }

-- and the buffers' bytes don't
buffer_apart : (tag offset : ℕ) (buffer : Buffer) (address : ℕ) → IsPlace (record { tag = tag; buffer = buffer; offset = offset }) → IsInRings address →
    address_of (record { tag = tag; buffer = buffer; offset = offset }) ≡ address → ⊥
buffer_apart tag offset CommandBuffer address is rings same = omega (arith, is.last_tag, is.inside, rings.from, same)
buffer_apart tag offset StatusBuffer address is rings same = omega (arith, is.last_tag, is.inside, rings.from, same)
buffer_apart tag offset Window address is rings same = omega (arith, rings.below, same)

pub rings-no_buffers : RingsAreNoBuffers
rings-no_buffers spot place address there byte is = buffer_apart place.tag place.offset place.buffer address is (spot_range spot address there byte)

pub trbs-buffers : TrbsNameBuffers
trbs-buffers tag = (omega arith, omega arith, omega arith)

pub ruleset addresses_apart = (rings-no_buffers, trbs-buffers)
