use Rattle.std.proofs.Common.{ap, sym, ◌∙◌}
use Rattle.log_text.specs.Reading.{whole_log}
use Rattle.log_text.proofs.ReadResults.{ok_is}
use Rattle.log_text.proofs.TakenLog.{whole_again}
use Rattle.log_text.proofs.text_laws.texts_tell_apart.Goals as goal

pub returns : goal.returns
returns c = λ one other a b e. ok_is one other (sym (whole_again one a) ∙ ap whole_log e ∙ whole_again other b)
