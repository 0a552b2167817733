use Rattle.block_driver.proofs.Wholes.{abort_waits, good_has_all, reply_waits}
use Rattle.block_driver.proofs.laws.replies_are_whole.Goals as goal

pub returns-clause-waits : goal.returns-clause-waits
returns-clause-waits c = reply_waits

pub returns-clause-good : goal.returns-clause-good
returns-clause-good c = good_has_all

pub returns-clause-aborts : goal.returns-clause-aborts
returns-clause-aborts c = abort_waits
