use Rattle.uas_driver.proofs.Looking.{engine-told, left_over-told, matched-told}
use Rattle.uas_driver.proofs.Driver.take_event.Goals as goal

pub returns-clause-matched : goal.returns-clause-matched
returns-clause-matched c = λ tag. matched-told c.args.self.now _ c.args.event _ _ tag c.take.ensures

pub returns-clause-engine : goal.returns-clause-engine
returns-clause-engine c = engine-told _ _ _ _ _ c.take.ensures

pub returns-clause-left_over : goal.returns-clause-left_over
returns-clause-left_over c = λ tag. left_over-told c.args.self.now _ c.args.event _ _ tag c.take.ensures
