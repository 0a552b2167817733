use Rattle.host_layout.proofs.PieceBytes.{pieces_bytes}
use Rattle.host_layout.proofs.laws.pieces_are_the_bytes.Goals as goal

pub returns : goal.returns
returns c = pieces_bytes 0 c.args.segments.now
