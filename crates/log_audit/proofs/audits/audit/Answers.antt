-- Both parts of an audit are the audit.
use Rattle.std.proofs.Common.{List, filter, ap, sym, subst, ◌∙◌}
use Rattle.scsi_cmd.specs.declared.Reply.{Reply}
use Rattle.shared_machine.specs.declared.Step.{Step}
use Rattle.log_audit.specs.Audit.{IsBeginning, is_taken_by, submissions_of}
use Rattle.log_audit.proofs.Accounts.{audited, solos-taken}
use Rattle.log_audit.proofs.audits.audit.Goals as goal

pub returns-then-began : goal.returns-then-began
returns-then-began c =
    let log = c.args.log.now in
    let begins : IsBeginning (submissions_of c.args.client log.steps) c.args.sent.now =
    subst (λ (steps : List Step). IsBeginning (submissions_of c.args.client steps) c.args.sent.now) c.as_slice.ensures
    (c.are_first-began.ensures.0 c.if-began.true) in
    let same = ap (λ (replies : List Reply). filter (is_taken_by log.tags c.args.client) replies) c.as_slice-2.ensures in (
      λ is. audited log c.args.client c.args.sent.now c.args.replies.now c.requires.replay c.requires.client begins
          (sym same ∙ c.are_all-took.ensures.0 is),
      λ it. c.are_all-took.ensures.1 (same ∙ solos-taken log c.args.client c.args.replies.now c.requires.replay it.told),
    )
