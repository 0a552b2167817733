-- Steps of data-in for a tag, one behind another, with what others do meanwhile.
use Rattle.std.specs.Prelude.{ℕ, List, [], ◌∷◌}
use Rattle.guest_memory.specs.declared.rings.context.Home.{Home}
use Rattle.guest_memory.specs.declared.rings.wanting.Range.{Range}
use Rattle.guest_pipes.specs.Gate.{after}
use Rattle.guest_tags.specs.DataIn.{stepped_in}
use Rattle.guest_tags.specs.Devices.{Kind}
use Rattle.guest_tags.specs.Tags.{TagWorld}
use Rattle.td_laws.specs.Places.{part_in}

-- a step for the tag, or what others leave of all that such a step may change
pub data TagTurn (W : Type 0) : Type 0 where
  Steps : TagTurn W
  Others : W → TagTurn W

module _ {D : Type 0} (kind : Kind D) (number : ℕ) (home : Home) where
  abbrev pub stepped : TagWorld D → TagWorld D
  stepped w = (after w (stepped_in kind w number home)).0

  abbrev pub part_filled : TagWorld D → Range
  part_filled w = part_in kind w number home

  abbrev pub all_stepped : TagWorld D → List (TagTurn (TagWorld D)) → TagWorld D
  all_stepped w [] = w
  all_stepped w (Steps ∷ turns) = all_stepped (stepped w) turns
  all_stepped w (Others other ∷ turns) = all_stepped other turns

  -- the parts of buffers that these steps fill, in their order
  abbrev pub parts_filled : TagWorld D → List (TagTurn (TagWorld D)) → List Range
  parts_filled w [] = []
  parts_filled w (Steps ∷ turns) = part_filled w ∷ parts_filled (stepped w) turns
  parts_filled w (Others other ∷ turns) = parts_filled other turns
