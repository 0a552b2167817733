use Rattle.draw_run.proofs.Reading.{reads_back}
use Rattle.draw_run.proofs.page.laws.embedded_reads_back.Goals as goal

pub returns : goal.returns
returns c = reads_back
