-- A call of the driver is a call of a handle over a record and a slice: what lies at the pointer is lent to `serve`.
use denote.Builtin.{u8}
use Rattle.uas_block_c.proofs.OverSlice.{meets}
use Rattle.uas_block_c.specs.BlockCall.{Called}
use Rattle.uas_block_c.specs.contracts.door.UasBlockDoor.{the_row as door_row}
use Rattle.uas_block_c.specs.contracts.door.KeptBlock.{the_row as block_row}
use Rattle.uas_block_c.proofs.door.serve.Symbol.{name as #serve}
use Rattle.uas_block_c.proofs.door.serve.Met.{met}
use Rattle.uas_block_c.specs.contracts.handle.uas_block_call.Key.{name}
use Rattle.uas_block_c.proofs.handle.uas_block_call.Statement.{statement}
use Rattle.uas_block_c.proofs.handle.uas_block_call.Code as code

pub uas_block_call_spec : {M : Type 1} → statement M
uas_block_call_spec 𝓤 𝓛 𝓜 𝓡 wired =
    meets block_row door_row u8 #serve Called 𝓤 𝓛 𝓜 𝓡 name (code.unfolded 𝓤 𝓛.H 𝓜 𝓡 wired)
    (met 𝓤 𝓛 𝓜 𝓡 (code.calls-uas_block_c::door::serve 𝓡.env wired))
