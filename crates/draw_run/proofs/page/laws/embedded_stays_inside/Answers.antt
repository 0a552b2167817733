use Rattle.draw_run.proofs.Reading.{stays_inside}
use Rattle.draw_run.proofs.page.laws.embedded_stays_inside.Goals as goal

pub returns : goal.returns
returns c = stays_inside
