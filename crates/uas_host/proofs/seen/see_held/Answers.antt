use Rattle.uas_host.specs.Sights.{notice_by}
use Rattle.uas_host.proofs.Seeing.{saw_held}
use Rattle.uas_host.proofs.seen.see_held.Goals as goal

pub returns-then-see : goal.returns-then-see
returns-then-see c =
    saw_held (notice_by c.args.sense.now c.args.sight) c.args.held.now c.in-Some.entry c.see.new.self c.see.result c.is_ready.result c.in-Some.is
    c.see.ensures c.if-see.true
    c.is_ready.ensures
