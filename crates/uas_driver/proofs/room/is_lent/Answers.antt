use Rattle.uas_driver.proofs.Loans.{lent-back}
use Rattle.uas_driver.proofs.room.is_lent.Goals as goal

pub returns-clause-same : goal.returns-clause-same
returns-clause-same c =
    lent-back c.args.frames.now c.take_back.new.self c.lend.new.self c.args.tag c.in-Ok.bytes.items c.lend.result c.whole.ensures
    c.requires.first_tag c.requires.last_tag c.in-Ok.ensures.back c.in-Ok.ensures.taken c.lend.ensures.already c.lend.ensures.lent
