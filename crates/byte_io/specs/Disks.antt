-- How many disks there are, of how many tags each, and of how many blocks.
use Rattle.std.specs.Prelude.{ℕ, ◌≤◌, ◌*◌}
use Rattle.uas_profile.specs.Tags.{AreTags}
use Rattle.uas_profile.specs.declared.TheConstants.{MAX_BLOCKS, MAX_CLIENTS, STREAMS}
use Rattle.byte_io.specs.declared.disks.Disks.{Disks}

-- a program runs 1 to 31 clients with 2 to 16 tags each, 248 tags in all at most
abbrev pub AreClients : ℕ → ℕ → Type 0
AreClients tags clients = AreTags tags × ((1 ≤ clients) × ((clients ≤ MAX_CLIENTS) × (clients * tags ≤ STREAMS)))

-- a unit has 1 to 65,536 blocks
abbrev pub AreBlocks : ℕ → Type 0
AreBlocks blocks = (1 ≤ blocks) × (blocks ≤ MAX_BLOCKS)

-- disks of as many clients, of 1 to 65,536 blocks each
abbrev pub AreDisks : Disks → Type 0
AreDisks disks = AreClients disks.tags disks.clients × AreBlocks disks.blocks
