use Rattle.std.proofs.Common.{rules, arith}
use Rattle.std.proofs.lemmas.Grind.{common_steps}
use Rattle.clap.specs.Words.{found_of}
use Rattle.uas_words.proofs.NumberWords.{option_read}
use Rattle.uas_words.proofs.option_in.Goals as goal

pub returns-in-Ok-None-clause-number : goal.returns-in-Ok-None-clause-number
returns-in-Ok-None-clause-number c = rw (option_read c.args.least c.args.most c.args.name.now (found_of c.args.words.now) c.try_get_one.result (omega (arith, c.ranges.most.fits)) c.try_get_one.ensures.none c.try_get_one.ensures.value) (search rules)

pub returns-in-Ok-Some-clause-number : goal.returns-in-Ok-Some-clause-number
returns-in-Ok-Some-clause-number c = rw (option_read c.args.least c.args.most c.args.name.now (found_of c.args.words.now) c.try_get_one.result (omega (arith, c.ranges.most.fits)) c.try_get_one.ensures.none c.try_get_one.ensures.value) (grind (arith, common_steps))

pub returns-in-Ok-Some-2-clause-number : goal.returns-in-Ok-Some-2-clause-number
returns-in-Ok-Some-2-clause-number c = rw (option_read c.args.least c.args.most c.args.name.now (found_of c.args.words.now) c.try_get_one.result (omega (arith, c.ranges.most.fits)) c.try_get_one.ensures.none c.try_get_one.ensures.value) (grind (arith, common_steps))

pub returns-in-Err-clause-number : goal.returns-in-Err-clause-number
returns-in-Err-clause-number c = rw (option_read c.args.least c.args.most c.args.name.now (found_of c.args.words.now) c.try_get_one.result (omega (arith, c.ranges.most.fits)) c.try_get_one.ensures.none c.try_get_one.ensures.value) (search rules)

pub returns-in-Ok-Some-2-2-clause-number : goal.returns-in-Ok-Some-2-2-clause-number
returns-in-Ok-Some-2-2-clause-number c = rw (option_read c.args.least c.args.most c.args.name.now (found_of c.args.words.now) c.try_get_one.result (omega (arith, c.ranges.most.fits)) c.try_get_one.ensures.none c.try_get_one.ensures.value) (grind (arith, common_steps))
