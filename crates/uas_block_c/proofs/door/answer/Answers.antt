use Rattle.std.proofs.Common.{ap}
use Rattle.uas_block_c.proofs.Answered.{no_fault}
use Rattle.uas_block_c.proofs.door.answer.Goals as goal

pub returns-in-Ok : goal.returns-in-Ok
returns-in-Ok c =
    let none = no_fault c.args.driver.now c.args.bytes.now c.answer.result _ c.in-Ok.is c.answer.ensures.not_asked c.answer.ensures.length in
    rw none (ap (λ after. (0, after)) c.answer.ensures.state)
