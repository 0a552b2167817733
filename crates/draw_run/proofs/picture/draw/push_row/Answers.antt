use Rattle.std.proofs.Common.{append_assoc}
use Rattle.draw_run.specs.picture.Drawn.{row_text}
use Rattle.draw_run.proofs.picture.draw.push_row.Goals as goal

pub returns : goal.returns
unfolding row_text
returns c =
    rw (
      c.in_ok-extend_from_slice.ensures.items,
      c.in_ok-push_words.ensures,
      c.in_ok-push_shape.ensures,
      c.in_ok-push_ended_bar.ensures,
      c.in_ok-push_rule.ensures,
      c.in_ok-push_row_start.ensures,
      c.kind.ensures,
      c.after-here.ensures,
      c.width_of.ensures,
      c.shape-shape.ensures,
      c.row_y-y.ensures.place,
    )
    (simp append_assoc)
