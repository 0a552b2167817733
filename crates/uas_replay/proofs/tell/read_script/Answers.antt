use Rattle.std.proofs.Common.{rules, arith}
use Rattle.std.proofs.lemmas.Grind.{common_steps}
use Rattle.uas_replay.proofs.tell.read_script.Goals as goal

pub returns-in_err-text-clause-fault : goal.returns-in_err-text-clause-fault
returns-in_err-text-clause-fault g c =
    let h = c.in_err-text.ensures.fault c.args.disks.clients c.args.disks.tags in
    first_of (search (rules, h), grind (arith, common_steps, h))
