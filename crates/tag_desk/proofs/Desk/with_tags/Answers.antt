use Rattle.std.proofs.Common.{◌<◌, arith}
use Rattle.tag_desk.proofs.Seating.{free_new}
use Rattle.tag_desk.proofs.Desk.with_tags.Goals as goal

pub returns-clause-client_free : goal.returns-clause-client_free
returns-clause-client_free c =
    let desk = c.in_ok-desk.desk in
    let number = c.in_ok-desk.ensures.desk.2 in
    let some : 0 < desk.tags = let least = c.requires.tags.least in omega arith in
    free_new desk.table desk.tags desk.clients c.in_ok-customers.customers.items some c.in_ok-customers.ensures.clients
