-- The unit of a text's image is the unit that the text tells.
use Rattle.std.proofs.Common.{List, ℕ, ap, ◌∙◌}
use Rattle.block_unit.specs.BlockMaps.{imaged}
use Rattle.audit_run.proofs.FirstUnits.{imaged-first}
use Rattle.audit_run.proofs.replay.units.made_unit.Goals as goal

pub returns-in-Ok : goal.returns-in-Ok
returns-in-Ok c =
    c.in-Ok.ensures.image
    ∙ ap (λ (blocks : List ℕ). imaged blocks c.in_ok-bad.bad.items) c.as_slice-2.ensures
    ∙ ap (λ (bad : List ℕ). imaged c.args.first.now.blocks bad) (c.in_ok-bad.ensures.items ∙ c.as_slice.ensures)
    ∙ imaged-first c.args.first.now c.requires
