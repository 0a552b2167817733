use Rattle.uas_c.proofs.LeftOver.{next-told}
use Rattle.uas_c.proofs.driver.next_left_over.Goals as goal

pub returns : goal.returns
returns c =
    next-told c.args.driver.now.host c.args.pipe c.args.tag c.next_left_over.result c.next_left_over.ensures.next c.next_left_over.ensures.none
