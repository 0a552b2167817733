use Rattle.std.proofs.Common.{rules, arith}
use Rattle.std.proofs.lemmas.Grind.{common_steps}
use Rattle.clap.specs.Words.{found_of}
use Rattle.uas_words.proofs.NumberWords.{number_read}
use Rattle.uas_words.proofs.number_in.Goals as goal

-- src/words.rt:374:18
pub returns-in_err-number-clause-number : goal.returns-in_err-number-clause-number
returns-in_err-number-clause-number c =
    rw (number_read 32 c.args.least c.args.most c.args.name.now (found_of c.args.words.now) c.get_one.result (omega (arith, c.ranges.most.fits))
    c.get_one.ensures.none c.get_one.ensures.value)
    (search rules)

-- src/words.rt:370:1
pub returns-then-number-most-clause-number : goal.returns-then-number-most-clause-number
returns-then-number-most-clause-number c =
    rw (number_read 32 c.args.least c.args.most c.args.name.now (found_of c.args.words.now) c.get_one.result (omega (arith, c.ranges.most.fits))
    c.get_one.ensures.none c.get_one.ensures.value)
    (grind (arith, common_steps))

-- src/words.rt:370:1
pub returns-else-least-number-clause-number : goal.returns-else-least-number-clause-number
returns-else-least-number-clause-number c =
    rw (number_read 32 c.args.least c.args.most c.args.name.now (found_of c.args.words.now) c.get_one.result (omega (arith, c.ranges.most.fits))
    c.get_one.ensures.none c.get_one.ensures.value)
    (grind (arith, common_steps))
