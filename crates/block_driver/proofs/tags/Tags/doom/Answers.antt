use Rattle.std.proofs.Common.{ap, subst, ◌∙◌}
use Rattle.std.specs.Prelude.{slice_set}
use Rattle.block_driver.proofs.Kept.{kept_set}
use Rattle.block_driver.specs.Table.{RepliesStand, entry_doomed, mark_of, marks}
use Rattle.block_driver.proofs.Marks.{marks_same}
use Rattle.block_driver.proofs.tags.Tags.doom.Goals as goal

pub returns-in-Some-clause-once : goal.returns-in-Some-clause-once
returns-in-Some-clause-once c =
    marks_same c.self.inside.entries.items c.in-Some.place c.doom.new.self c.index_mut-entry.result.now (c.doom.ensures.once ∙ ap mark_of c.index_mut-entry.ensures.value)
    ∙ ap marks c.self.view_is

pub returns-in-Some-clause-replies : goal.returns-in-Some-clause-replies
returns-in-Some-clause-replies c =
    let items = c.self.inside.entries.items in
    subst (λ view. RepliesStand view (slice_set items c.in-Some.place c.doom.new.self)) c.self.view_is
    (kept_set items c.in-Some.place c.doom.new.self c.index_mut-entry.result.now
    (λ came at. c.doom.ensures.is ∙ ap entry_doomed (c.index_mut-entry.ensures.value ∙ at)))
