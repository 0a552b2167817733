use Rattle.std.proofs.Common.{append_assoc, ◌≡◌, List, ◌++◌, ℕ}
use Rattle.draw_run.specs.declared.page.script_run.TheConstants.{SCRIPT_RUN}
use Rattle.draw_run.specs.declared.page.script_view.TheConstants.{SCRIPT_VIEW}
use Rattle.draw_run.specs.page.Page.{tail}
use Rattle.draw_run.proofs.page.pages.push_tail.Goals as goal

two_parts : (t a b : List ℕ) → (t ++ a) ++ b ≡ t ++ (a ++ b)
two_parts t a b = append_assoc t a b

pub returns : goal.returns
unfolding tail
returns c =
    rw (
      c.in_ok-extend_from_slice-2.ensures.items,
      c.in_ok-extend_from_slice.ensures.items,
      c.as_bytes.ensures.value,
      c.as_bytes-2.ensures.value,
    )
    (two_parts c.args.page.now.items SCRIPT_RUN.now SCRIPT_VIEW.now)
