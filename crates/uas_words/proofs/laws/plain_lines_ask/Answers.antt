use Rattle.uas_words.proofs.CommandLineFacts.{nothing_refused}
use Rattle.uas_words.proofs.PlainLines.{plain_asks}
use Rattle.uas_words.proofs.laws.plain_lines_ask.Goals as goal

pub returns : goal.returns
returns c = λ asked words plain.
    let both = plain_asks asked words plain in
    (both.0, nothing_refused words asked both.1 both.0)
