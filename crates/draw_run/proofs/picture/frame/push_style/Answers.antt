use Rattle.std.proofs.Common.{◌≡◌, List, ◌++◌, ℕ, append_assoc}
use Rattle.draw_run.specs.declared.picture.frame.TheConstants.{ABOUT, COLOURS, GROUND, STYLE}
use Rattle.draw_run.specs.picture.Frame.{more_colours, style}
use Rattle.draw_run.proofs.picture.frame.push_style.Goals as goal

five_parts : (t a b c d e : List ℕ) → ((((t ++ a) ++ b) ++ c) ++ d) ++ e ≡ t ++ ((((a ++ b) ++ c) ++ d) ++ e)
five_parts t a b c d e = simp append_assoc

pub returns : goal.returns
unfolding style
returns c =
    rw (
      c.in_ok-extend_from_slice-4.ensures.items,
      c.in_ok-push_more_colours.ensures,
      c.in_ok-extend_from_slice-3.ensures.items,
      c.in_ok-extend_from_slice-2.ensures.items,
      c.in_ok-extend_from_slice.ensures.items,
      c.as_bytes.ensures.value,
      c.as_bytes-2.ensures.value,
      c.as_bytes-3.ensures.value,
      c.as_bytes-4.ensures.value,
    )
    (five_parts c.args.text.now.items ABOUT.now STYLE.now COLOURS.now (more_colours c.args.clients) GROUND.now)
