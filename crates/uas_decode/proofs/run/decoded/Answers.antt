use Rattle.uas_decode.proofs.ByLines.{decoded-whole}
use Rattle.uas_decode.proofs.run.decoded.Goals as goal

pub returns : goal.returns
returns c = decoded-whole _ _ _ _ _ _ c.new-lines.ensures.text c.new-lines.ensures.line c.in_ok-take.ensures.text c.in_ok-end.ensures.text
