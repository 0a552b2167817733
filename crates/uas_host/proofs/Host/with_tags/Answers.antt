use Rattle.std.proofs.Common.{◌≡◌, arith}
use Rattle.uas_host.proofs.LeftOver.{AreMarked-none}
use Rattle.uas_host.proofs.Sound.{opening-host}
use Rattle.uas_host.proofs.Host.with_tags.Goals as goal

pub invariant_of-result : goal.invariant_of-result
invariant_of-result c =
    let ends : c.loop.counter ≡ c.args.clients = omega arith in
    rw (c.loop.invariant, ends) (
      opening-host c.args.tags c.args.clients c.requires.number c.requires.some c.requires.most c.requires.streams,
      AreMarked-none c.new-2.result c.args.clients c.new-2.ensures.none,
    )
