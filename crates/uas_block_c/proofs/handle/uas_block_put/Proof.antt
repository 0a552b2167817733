-- A command is put by a call of a handle over a record and a slice: what lies at the pointer is lent to `put`.
use Rattle.uas_block_c.proofs.OverSlice.{meets}
use Rattle.uas_block_c.specs.Puts.{Put}
use Rattle.uas_block_c.specs.contracts.puts.UasBlockCommand.{the_row as command_row}
use Rattle.uas_block_c.specs.contracts.puts.UasSegment.{the_row as segment_row}
use Rattle.uas_block_c.specs.contracts.door.KeptBlock.{the_row as block_row}
use Rattle.uas_block_c.proofs.puts.put.Symbol.{name as #put}
use Rattle.uas_block_c.proofs.puts.put.Met.{met}
use Rattle.uas_block_c.specs.contracts.handle.uas_block_put.Key.{name}
use Rattle.uas_block_c.proofs.handle.uas_block_put.Statement.{statement}
use Rattle.uas_block_c.proofs.handle.uas_block_put.Code as code

pub uas_block_put_spec : {M : Type 1} → statement M
uas_block_put_spec 𝓤 𝓛 𝓜 𝓡 wired =
    meets block_row command_row segment_row #put Put 𝓤 𝓛 𝓜 𝓡 name (code.unfolded 𝓤 𝓛.H 𝓜 𝓡 wired)
    (met 𝓤 𝓛 𝓜 𝓡 (code.calls-uas_block_c::puts::put 𝓡.env wired))
