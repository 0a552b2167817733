use Rattle.std.proofs.Common.{append_assoc, ◌≡◌, List, ◌++◌, ℕ}
use Rattle.draw_run.specs.declared.page.markup.TheConstants.{BODY, HEAD, STYLE}
use Rattle.draw_run.specs.page.Page.{head}
use Rattle.draw_run.proofs.page.pages.push_head.Goals as goal

three_parts : (t a b c : List ℕ) → ((t ++ a) ++ b) ++ c ≡ t ++ ((a ++ b) ++ c)
three_parts t a b c = simp append_assoc

pub returns : goal.returns
unfolding head
returns c =
    rw (
      c.in_ok-extend_from_slice-3.ensures.items,
      c.in_ok-extend_from_slice-2.ensures.items,
      c.in_ok-extend_from_slice.ensures.items,
      c.as_bytes.ensures.value,
      c.as_bytes-2.ensures.value,
      c.as_bytes-3.ensures.value,
    )
    (three_parts c.args.page.now.items HEAD.now STYLE.now BODY.now)
