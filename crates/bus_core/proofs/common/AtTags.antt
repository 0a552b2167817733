-- A host's number of tags is that of the state which its world fits, so what is so of the world with the state's number in its host is so of the world.
use Rattle.std.proofs.Common.{◌≡◌, ℕ, subst, sym}
use Rattle.bus_core.specs.World.{World}

-- the world whose host has so many tags
abbrev pub at_tags : ℕ → World → World
at_tags tags world = record world { host = record world.host { tags = tags } }

pub at-number : (P : World → Type 0) (tags : ℕ) (world : World) → world.host.tags ≡ tags → P (at_tags tags world) → P world
at-number P tags world is there = subst P (λ i. at_tags (sym is i) world) there
