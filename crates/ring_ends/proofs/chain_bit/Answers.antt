use Rattle.std.proofs.Common.{sym}
use Rattle.ring_ends.specs.EndLaws.{chain_in-byte}
use Rattle.ring_ends.proofs.ChainByte.{chain-byte}
use Rattle.ring_ends.proofs.chain_bit.Goals as goal

pub returns-clause-bit : goal.returns-clause-bit
returns-clause-bit c = sym (chain_in-byte c.args.bytes.now)

pub returns-clause-text : goal.returns-clause-text
returns-clause-text c trb cycle has_text is = chain-byte trb cycle c.args.bytes.now is
