use Rattle.disk_units.proofs.Told.{pages_listed, pages_tell}
use Rattle.disk_units.proofs.laws.disk_lists_are_true.Goals as goal

pub returns-clause-pages : goal.returns-clause-pages
returns-clause-pages c = pages_listed

pub returns-clause-lengths : goal.returns-clause-lengths
returns-clause-lengths c = pages_tell
