use Rattle.std.proofs.Common.{rules}
use Rattle.disk_image.proofs.fill.fill_file.Goals as goal

pub returns-clause-most : goal.returns-clause-most
returns-clause-most g c = search (rules, c.finish.ensures.status, c.in-Ok.ensures.most)

pub returns-clause-number : goal.returns-clause-number
returns-clause-number g c = search (rules, c.finish.ensures.status, c.in-Ok.ensures.number)

pub returns-clause-image : goal.returns-clause-image
returns-clause-image g c = search (rules, c.finish.ensures.image, c.in-Ok.ensures.medium)
