use Rattle.std.proofs.Common.{append_assoc}
use Rattle.draw_run.specs.picture.Elements.{words_at}
use Rattle.draw_run.proofs.picture.elements.push_words_at.Goals as goal

pub returns : goal.returns
unfolding words_at
returns c =
    rw (c.in_ok-extend_from_slice.ensures.items, c.in_ok-push_escaped.ensures.text, c.shown.ensures, c.in_ok-push_text_at.ensures) (simp append_assoc)
