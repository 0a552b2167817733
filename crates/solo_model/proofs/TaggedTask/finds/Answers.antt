use Rattle.std.proofs.Common.{rules, tests}
use Rattle.std.proofs.lemmas.Iterator.{YieldsList-from_slice}
use Rattle.std.proofs.lemmas.Iterator.Search.{any_from_yields_List}
use Rattle.std.specs.Option.{option_map_or}
use Rattle.std.specs.Prelude.{false}
use Rattle.solo_model.specs.TaggedTask.{is_under_way}
use Rattle.solo_model.proofs.TaggedTask.finds.Goals as goal

pub returns-in-Management : goal.returns-in-Management
returns-in-Management c =
    rw (← c.self.view_is, c.in-Management.is)
    (any_from_yields_List (λ held. option_map_or (is_under_way c.in-Management.noted.items) held false) _ _ _ c.any.ensures.ran
    (YieldsList-from_slice c.args.tasks.now cc) (λ held b q called. search (rules, tests)))
