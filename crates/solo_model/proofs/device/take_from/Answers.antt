use Rattle.std.proofs.Common.{◌≡◌, ◌+◌, ◌-◌, ◌*◌, arith}
use Rattle.block_unit.specs.BlockMaps.{bytes_from}
use Rattle.device_server.specs.Server.{chunk_bytes}
use Rattle.scsi_cmd.specs.Work.{work_bytes}
use Rattle.solo_model.proofs.device.take_from.Goals as goal
use Rattle.uas_profile.specs.declared.TheConstants.{CHUNK_BYTES}

pub returns-clause-unit : goal.returns-clause-unit
unfolding bytes_from
returns-clause-unit c =
    let many : CHUNK_BYTES * c.args.chunk + c.chunk_len.result - CHUNK_BYTES * c.args.chunk ≡ chunk_bytes (work_bytes c.args.work.now) c.args.chunk =
    rw (← c.bytes.ensures, ← c.chunk_len.ensures.len) (omega arith) in
    rw (c.from-start.ensures, many, c.as_slice.ensures) at c.take_chunk.ensures.unit
