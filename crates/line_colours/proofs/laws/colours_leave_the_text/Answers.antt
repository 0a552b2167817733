use Rattle.line_colours.proofs.Leaving.{text_stays}
use Rattle.line_colours.proofs.laws.colours_leave_the_text.Goals as goal

pub returns : goal.returns
returns c = text_stays
