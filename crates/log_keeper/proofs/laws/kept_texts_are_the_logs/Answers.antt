use Rattle.log_keeper.proofs.Whole.{whole_text}
use Rattle.log_keeper.proofs.laws.kept_texts_are_the_logs.Goals as goal

pub returns : goal.returns
returns c = λ log place new text after stand parts added none. whole_text log place new text after stand parts added none
