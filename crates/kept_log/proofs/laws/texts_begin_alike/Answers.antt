use Rattle.kept_log.proofs.Growing.{text_begins}
use Rattle.kept_log.proofs.laws.texts_begin_alike.Goals as goal

pub returns : goal.returns
returns c = λ kept count. text_begins kept count
