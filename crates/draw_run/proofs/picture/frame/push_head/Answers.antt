use Rattle.std.proofs.Common.{append_assoc}
use Rattle.draw_run.specs.picture.Frame.{head}
use Rattle.draw_run.proofs.picture.frame.push_head.Goals as goal

pub returns : goal.returns
unfolding head
returns c =
    rw (
      c.in_ok-push_device_lanes.ensures,
      c.in_ok-push_client_lanes.ensures,
      c.in_ok-push_style.ensures,
      c.in_ok-push_title.ensures,
      c.in_ok-push_size.ensures,
      c.width_of.ensures,
      c.row_y-bottom.ensures.place,
    ) (simp append_assoc)
