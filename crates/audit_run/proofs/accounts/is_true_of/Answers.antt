-- A client's account in a file is the log's that it was booked as.
use Rattle.std.proofs.Common.{◌≡◌, ◌↔◌, Bool, true, IsTrue, List, Result, Ok, Err, IfOk, ap, sym, subst, ◌∙◌}
use Rattle.std.specs.Prelude.{IsOkAnd}
use Rattle.shared_machine.specs.declared.Step.{Step}
use Rattle.uas_log.specs.declared.Log.{Log}
use Rattle.log_audit.specs.Audit.{IsAudited, submissions_of}
use Rattle.audit_run.proofs.FileAccounts.{file-audited}
use Rattle.audit_run.proofs.accounts.is_true_of.Goals as goal

told-true : {E : Type 0} (P : Type 0) (result : Result Bool E) → IsOkAnd result (λ told. IsTrue told ↔ P) → P → IfOk result (λ told. told ≡ true)
told-true P (Ok told) is holds = is.1 holds
told-true P (Err error) is holds = tt

pub returns : goal.returns
returns c =
    let log = c.args.log.now in
    let booked = c.args.booked.now in
    let sent = c.deref.ensures.value ∙ c.in_ok-sent.ensures ∙ ap (λ (steps : List Step). submissions_of c.args.client steps) c.steps.ensures in
    let holds = file-audited log booked c.args.client c.deref.result.now c.args.replies.now c.requires.replay c.log.ensures.booked c.requires.client
    sent c.requires.replies in
    told-true (IsAudited c.log.result.now c.args.client c.deref.result.now c.args.replies.now) c.audit.result c.audit.ensures
    (subst (λ (of : Log). IsAudited of c.args.client c.deref.result.now c.args.replies.now) (sym c.log.ensures.log) holds)
