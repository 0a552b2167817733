use Rattle.std.proofs.Common.{append_assoc}
use Rattle.draw_run.specs.page.Page.{numbers}
use Rattle.draw_run.proofs.page.pages.push_numbers.Goals as goal

pub returns : goal.returns
unfolding numbers
returns c =
    rw (c.in_ok-push_number-3.ensures, c.in_ok-push_number-2.ensures, c.in_ok-push_number.ensures, c.from.ensures) (simp append_assoc)
