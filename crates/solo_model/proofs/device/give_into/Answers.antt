use Rattle.std.proofs.Common.{◌≡◌, ◌*◌, ◌∙◌, ap, arith, take, drop}
use Rattle.std.specs.Option.{unwrap_or}
use Rattle.scsi_cmd.specs.Laws.{length-written_at}
use Rattle.device_server.specs.Server.{chunk_given}
use Rattle.solo_model.proofs.Kept.{written_at-given}
use Rattle.solo_model.proofs.device.give_into.Goals as goal
use Rattle.uas_profile.specs.declared.TheConstants.{CHUNK_BYTES}

pub returns-clause-buffer : goal.returns-clause-buffer
returns-clause-buffer c =
    let place : c.range_mut-bytes.result.now ≡ take c.chunk_len.result (drop (CHUNK_BYTES * c.args.chunk) c.args.buffer.now) =
    rw c.from-start.ensures at c.range_mut-bytes.ensures.value in
    rw c.from-start.ensures
    (written_at-given c.args.buffer.now (CHUNK_BYTES * c.args.chunk) c.chunk_len.result
    (chunk_given c.args.unit.now c.args.chunk c.args.work.now) c.give_chunk.new.bytes
    (omega (arith, c.chunk_len.ensures.within, c.bytes.ensures, c.requires.whole)) (omega (arith, c.give_chunk.auto.bytes, c.range_mut-bytes.ensures.len))
    (c.give_chunk.ensures.bytes ∙ ap (unwrap_or (chunk_given c.args.unit.now c.args.chunk c.args.work.now)) place))

pub returns-clause-whole : goal.returns-clause-whole
returns-clause-whole c =
    length-written_at _ _ _
    (omega (arith, c.chunk_len.ensures.within, c.bytes.ensures, c.requires.whole, c.from-start.ensures, c.give_chunk.auto.bytes, c.range_mut-bytes.ensures.len))
