use Rattle.std.proofs.Common.{append_assoc}
use Rattle.draw_run.specs.picture.Elements.{dot}
use Rattle.draw_run.proofs.picture.elements.push_dot.Goals as goal

pub returns : goal.returns
unfolding dot
returns c =
    rw (
      c.in_ok-extend_from_slice-2.ensures.items,
      c.in_ok-push_attribute-2.ensures,
      c.in_ok-push_attribute.ensures,
      c.in_ok-extend_from_slice.ensures.items,
    ) (simp append_assoc)
