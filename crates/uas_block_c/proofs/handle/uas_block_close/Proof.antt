-- The end of the driver is the end of a handle: what lies at the pointer is moved out, and given to `release`.
use Rattle.std.proofs.Common.{refl}
use Rattle.c_common.proofs.Closed.{meets}
use Rattle.uas_block_c.specs.contracts.door.KeptBlock.{the_row as block_row}
use Rattle.uas_block_c.proofs.door.KeptBlock.TheLaws.{the_field_loose}
use Rattle.uas_block_c.proofs.handle.release.Symbol.{name as #release}
use Rattle.uas_block_c.proofs.handle.release.Met.{met}
use Rattle.uas_block_c.specs.contracts.handle.uas_block_close.Key.{name}
use Rattle.uas_block_c.proofs.handle.uas_block_close.Statement.{statement}
use Rattle.uas_block_c.proofs.handle.uas_block_close.Code as code

pub uas_block_close_spec : {M : Type 1} → statement M
uas_block_close_spec 𝓤 𝓛 𝓜 𝓡 wired =
    meets block_row refl #release 𝓤 𝓛 𝓜 𝓡 (the_field_loose.lawful 𝓛) name (code.unfolded 𝓤 𝓛.H 𝓜 𝓡 wired)
    (met 𝓤 𝓛 𝓜 𝓡 (code.calls-uas_block_c::handle::release 𝓡.env wired))
