use Rattle.line_colours.proofs.Leaving.{text-done}
use Rattle.line_colours.proofs.colouring.coloured.Goals as goal

pub returns : goal.returns
returns c = text-done _ _ _ _ _ _ c.new-painter.ensures.text c.new-painter.ensures.line c.in_ok-take.ensures c.in_ok-end.ensures.text
