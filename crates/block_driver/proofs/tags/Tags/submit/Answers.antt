use Rattle.std.proofs.Common.{◌≡◌, Some, ap, sym, subst, ◌∙◌}
use Rattle.std.specs.Prelude.{IfSome, slice_set}
use Rattle.block_driver.specs.declared.table.Entry.TheVariants.{Outstanding}
use Rattle.block_driver.specs.Table.{marks, place_in}
use Rattle.block_driver.proofs.Marks.{marks_set}
use Rattle.block_driver.proofs.tags.Tags.submit.Goals as goal

pub returns-in-Some-clause-once : goal.returns-in-Some-clause-once
returns-in-Some-clause-once c =
    let items = c.self.inside.entries.items in
    let place = c.in-Some.place in
    let now = Outstanding c.args.command in
    let at : place_in c.args.self.now c.args.tag ≡ Some place =
    ap (place_in c.args.self.now) (sym c.from.ensures) ∙ sym c.place.ensures.is ∙ c.in-Some.is in
    subst (λ found. IfSome found (λ p. marks (slice_set items place now) ≡ slice_set (marks c.args.self.now) p (Some c.args.command.mark))) (sym at)
    (marks_set items place now ∙ ap (λ tags. slice_set (marks tags) place (Some c.args.command.mark)) c.self.view_is)
