use Rattle.std.proofs.Common.{◌≡◌, ◌-◌, Some, ap, sym, ◌∙◌}
use Rattle.block_driver.specs.Table.{place_in}
use Rattle.block_driver.proofs.Firsts.{place_is}
use Rattle.block_driver.proofs.Marks.{marks_freed}
use Rattle.block_driver.proofs.tags.Tags.take.Goals as goal

pub returns-in-Some-clause-once : goal.returns-in-Some-clause-once
returns-in-Some-clause-once c =
    let at : place_in c.args.self.now c.args.tag ≡ Some c.in-Some.place =
    ap (place_in c.args.self.now) (sym c.from.ensures) ∙ sym c.place.ensures.is ∙ c.in-Some.is in
    let there : c.in-Some.place ≡ c.args.tag - 1 = place_is c.args.self.now c.args.tag c.in-Some.place at in
    marks_freed c.take.result c.self.inside.entries.items c.args.self.now c.in-Some.place (c.args.tag - 1) c.take.new.self c.take.ensures.free
    c.self.view_is there
