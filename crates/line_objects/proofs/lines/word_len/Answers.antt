use Rattle.std.proofs.Common.{◌∙◌, ap, length}
use Rattle.std.specs.Option.{unwrap_or}
use Rattle.line_objects.specs.Lines.{is_space}
use Rattle.line_objects.proofs.Words.{place-or-len}
use Rattle.line_objects.proofs.lines.word_len.Goals as goal

pub returns-clause-count : goal.returns-clause-count
returns-clause-count c = c.unwrap_or.ensures ∙ (ap (λ o. unwrap_or o (length c.args.line.now)) c.first_space.ensures ∙ place-or-len is_space c.args.line.now)
