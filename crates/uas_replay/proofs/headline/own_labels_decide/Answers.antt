use Rattle.std.proofs.Common.{[], ap, sym, ◌∙◌}
use Rattle.solo_model.specs.Solo.{opening}
use Rattle.uas_replay.specs.Headline.{solo_lines}
use Rattle.uas_replay.proofs.ReplyLines.{reply_lines_printed}
use Rattle.uas_replay.proofs.headline.own_labels_decide.Goals as goal

pub returns-clause-said : goal.returns-clause-said
returns-clause-said c = λ tags here there first second these those said told a b unit one two at_a at_b same.
    one.own a unit at_a ∙ ap (solo_lines (opening tags unit) []) same ∙ sym (two.own b unit at_b)

pub returns-clause-printed : goal.returns-clause-printed
returns-clause-printed c = reply_lines_printed
