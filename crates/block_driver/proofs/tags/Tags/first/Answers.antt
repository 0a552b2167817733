use Rattle.std.proofs.Common.{◌≡◌, ◌+◌, suc, Some, option_map, ap, sym, ◌∙◌, arith}
use Rattle.block_driver.specs.Table.{first_of}
use Rattle.block_driver.proofs.Firsts.{first_kind}
use Rattle.block_driver.proofs.tags.Tags.first.Goals as goal

pub returns-in-Some-clause-of : goal.returns-in-Some-clause-of
returns-in-Some-clause-of c =
    let place = c.in-Some.place in
    let found : first_of c.args.kind c.args.self.now ≡ Some (place + 1) =
    ap (first_of c.args.kind) (sym (c.deref.ensures.value ∙ c.self.view_is)) ∙ ap (option_map suc) (sym c.first_in.ensures.is ∙ c.in-Some.is)
    ∙ ap Some (omega arith) in
    first_kind c.args.kind c.args.self.now (place + 1) found
