-- The bytes of a tag's small buffers can be read.
use Rattle.std.proofs.Common.{◌≡◌, ℕ, ◌<◌, ◌≤◌, List, inr, refl, arith}
use Rattle.frame_store.specs.declared.Buffer.{Buffer}
use Rattle.frame_store.specs.declared.Buffer.TheVariants.{Command, Status, Window}
use Rattle.frame_store.specs.declared.TagBuffers.{TagBuffers}
use Rattle.frame_store.specs.Buffers.{IsNamed, IsWhole, Names, front_of}
use Rattle.frame_store.specs.Places.{IsPlace, address_of, room_of}
use Rattle.uas_profile.specs.declared.TheConstants.{STREAMS}

pub is_front : (tag : ℕ) (buffer : Buffer) → 0 < tag → tag ≤ STREAMS → IsPlace (front_of buffer tag)
is_front tag Command some most = record { first_tag = some; last_tag = most; inside = omega arith }
is_front tag Status some most = record { first_tag = some; last_tag = most; inside = omega arith }
is_front tag Window some most = record { first_tag = some; last_tag = most; inside = omega arith }

pub unit_names : (frames : List TagBuffers) (tag : ℕ) (buffer : Buffer) (len : ℕ) → IsWhole frames → 0 < tag → tag ≤ STREAMS
    → (buffer ≡ Window → ⊥) → len ≤ room_of buffer → Names frames (address_of (front_of buffer tag)) len (front_of buffer tag)
unit_names frames tag Command len whole some most small fits =
    let sizes = whole.sizes tag some most in
    record { first_tag = some; last_tag = most; begins = refl; within = omega (arith, sizes.command, fits) }
unit_names frames tag Status len whole some most small fits =
    let sizes = whole.sizes tag some most in
    record { first_tag = some; last_tag = most; begins = refl; within = omega (arith, sizes.status, fits) }
unit_names frames tag Window len whole some most small fits = elim (small refl) [ ]

pub unit_named : (frames : List TagBuffers) (tag : ℕ) (buffer : Buffer) (len : ℕ) → IsWhole frames → 0 < tag → tag ≤ STREAMS
    → (buffer ≡ Window → ⊥) → len ≤ room_of buffer → IsNamed frames (address_of (front_of buffer tag)) len
unit_named frames tag buffer len whole some most small fits = inr (front_of buffer tag, unit_names frames tag buffer len whole some most small fits)
