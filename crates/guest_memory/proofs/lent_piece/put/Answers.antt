use Rattle.std.proofs.Common.{◌≡◌, ◌+◌, ◌-◌, length, arith}
use Rattle.guest_memory.specs.Pieces.{pasted_part}
use Rattle.guest_memory.proofs.lent_piece.put.Goals as goal

pub returns-clause-bytes : goal.returns-clause-bytes
returns-clause-bytes c =
    let size : length c.args.bytes.now ≡ c.args.start + length c.args.bytes.now - c.args.start = omega arith in
    pasted_part c.args.cells.now c.copy_from_slice.new.self c.args.bytes.now c.args.start _ c.copy_from_slice.ensures.after size c.requires
