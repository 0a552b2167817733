use Rattle.line_objects.proofs.ByteByByte.{text-done}
use Rattle.line_objects.proofs.telling.objects.Goals as goal

pub returns : goal.returns
returns c = text-done _ _ _ _ _ _ _ _ _ c.new-teller.ensures.form c.in_ok-take.ensures.form c.new-teller.ensures.text c.new-teller.ensures.line
    c.in_ok-take.ensures.text c.in_ok-finish.ensures
