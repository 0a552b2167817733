-- What a device is to the pipes: a state, and what each call makes of it. Tags are those of tasks.
use Rattle.std.specs.Prelude.{ℕ, ◌≤◌, Bool, List, Option}
use Rattle.guest_tags.specs.declared.device.Phase.{Phase}
use Rattle.guest_tags.specs.declared.device.Phase.TheVariants.{Absent, Gives, Takes, Ended}
use Rattle.guest_tags.specs.declared.device.Received.{Received}

pub record Kind (D : Type 0) : Type 0 where
  -- what it does next on a tag
  pub phase : D → ℕ → Phase
  -- the bytes that it gives as the next chunk, or None at a bad block, and the device after that
  pub given : D → ℕ → Option (List ℕ)
  pub gave : D → ℕ → D
  -- whether it takes bytes as the next chunk, and the device after that
  pub fits : D → ℕ → List ℕ → Bool
  pub took : D → ℕ → List ℕ → D
  -- the information unit that answers a tag's task once it has ended, and the device once that was taken from it
  pub status : D → ℕ → List ℕ
  pub sent : D → ℕ → D
  -- what comes of a received information unit
  pub received : D → List ℕ → D × Received

-- a chunk has 1 to 4,096 bytes
abbrev pub IsChunk : Phase → Type 0
IsChunk Absent = Unit {0}
IsChunk (Gives count) = (1 ≤ count) × (count ≤ 4096)
IsChunk (Takes count) = (1 ≤ count) × (count ≤ 4096)
IsChunk (Ended end) = Unit {0}

-- a task has ended
abbrev pub IsEnded : Phase → Type 0
IsEnded Absent = ⊥
IsEnded (Gives count) = ⊥
IsEnded (Takes count) = ⊥
IsEnded (Ended end) = Unit {0}
