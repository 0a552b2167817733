use Rattle.uas_words.proofs.PlainLines.{plainly_given}
use Rattle.uas_words.proofs.run_of.Goals as goal

pub returns-clause-plain : goal.returns-clause-plain
returns-clause-plain c = plainly_given _ c.run_by.result c.run_by.ensures.asked c.run_by.ensures.refused
