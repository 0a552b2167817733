use Rattle.uas_driver.proofs.Waiting.{first-told}
use Rattle.uas_driver.proofs.rings.first_pending.Goals as goal

pub returns-clause-first : goal.returns-clause-first
returns-clause-first c =
    first-told c.args.lines.now c.args.pipe c.next_pending.result c.requires c.next_pending.ensures.next c.next_pending.ensures.none
