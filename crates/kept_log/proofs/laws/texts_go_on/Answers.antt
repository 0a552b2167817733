use Rattle.kept_log.proofs.Growing.{text_goes_on}
use Rattle.kept_log.proofs.laws.texts_go_on.Goals as goal

pub returns : goal.returns
returns c = λ tags units entries more. text_goes_on tags units entries more
