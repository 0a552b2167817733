use Rattle.std.proofs.Common.{arith}
use Rattle.std.specs.Int.Bits.{and_lt}
use Rattle.marks.proofs.Words.{lowest_from-is, none_from}
use Rattle.marks.proofs.lowest_from.Goals as goal

pub returns-then-left-eq0-clause-none : goal.returns-then-left-eq0-clause-none
returns-then-left-eq0-clause-none c = none_from c.args.word c.args.from c.requires c.if-left-eq0.true

pub returns-else-left-eq0-clause-lowest : goal.returns-else-left-eq0-clause-lowest
returns-else-left-eq0-clause-lowest c =
    lowest_from-is c.args.word c.args.from c.requires (omega (arith, c.if-left-eq0.false)) (and_lt 64 c.args.word _ c.ranges.word.fits (omega arith))
