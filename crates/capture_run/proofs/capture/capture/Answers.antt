use Rattle.std.proofs.Common.{◌≤◌, rules, arith, sym, subst}
use Rattle.std.proofs.lemmas.Grind.{common_steps}
use Rattle.capture_run.proofs.Statuses.{told-most}
use Rattle.capture_run.proofs.capture.capture.Goals as goal

-- the text is read for any number of clients and tags
pub returns-in_err-script-clause-fault : goal.returns-in_err-script-clause-fault
returns-in_err-script-clause-fault g c =
    let h = c.read_text.ensures.fault c.args.disks.clients c.args.disks.tags in
    first_of (search (rules, h), grind (arith, common_steps, h))

pub returns-clause-status : goal.returns-clause-status
returns-clause-status g c = subst (λ status. status ≤ 1) (sym c.in_ok-kept.ensures.status) (told-most _ _ _)
