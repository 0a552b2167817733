use Rattle.host_layout.proofs.PieceBytes.{pieces_data}
use Rattle.host_layout.proofs.laws.pieces_are_trbs.Goals as goal

pub returns : goal.returns
returns c = λ full. pieces_data 0 c.args.segments.now full
