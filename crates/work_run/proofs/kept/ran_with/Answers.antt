use Rattle.std.proofs.Common.{◌≡◌, ◌∙◌, ℕ, Bool, List, Option, Some, Err, IsTrue, ap, sym, subst}
use Rattle.kept_log.specs.declared.Why.TheVariants as why
use Rattle.work_run.specs.KeptTexts.{HasBeginning, HasText}
use Rattle.work_run.specs.WorkEnds.{why_of}
use Rattle.work_run.proofs.KeptLeft.{leaves_left, left_at_close, some_of, text_on_ok, whole_at_close}
use Rattle.work_run.proofs.kept.ran_with.Goals as goal

-- the log wasn't begun
pub returns-in-Err-clause-left : goal.returns-in-Err-clause-left
returns-in-Err-clause-left g c = λ told.
    let leaves = leaves_left g.J.KeptLog.tags g.J.KeptLog.units (g.K.KeptFiles.holds c.args.files.now g.J.KeptLog.name)
    (g.K.KeptFiles.holds c.keeper_of.new.files g.J.KeptLog.name) c.in-Err.stop (λ is. c.keeper_of.ensures.limits (c.in-Err.is ∙ ap Err is))
    (c.in-Err.ensures.left (subst (λ (b : Bool). IsTrue b) c.requires.tells told)) in
    rw c.stop_fault.ensures.fault (rw c.requires.name (∣ leaves ∣₁))

pub returns-in-Err-clause-fault : goal.returns-in-Err-clause-fault
returns-in-Err-clause-fault g c = λ can_fail text.
    c.stop_fault.ensures.gives_up (g.K.KeptFiles.can_fail c.args.files.now c.args.kept.file.now) can_fail text
    (λ is. subst (λ (b : Bool). IsTrue b) (sym c.requires.fails) (c.keeper_of.ensures.fault (c.in-Err.is ∙ ap Err is)))

-- no worker could start
pub returns-in_default-clause-left : goal.returns-in_default-clause-left
returns-in_default-clause-left g c = λ told.
    left_at_close g.J.KeptLog.tags g.J.KeptLog.units (g.K.KeptFiles.holds c.args.files.now c.args.kept.file.now)
    (g.K.KeptFiles.holds c.close.new.self c.args.kept.file.now) _
    (c.close.ensures c.args.kept.file.now (subst (λ (b : Bool). IsTrue b) (sym c.in-Ok.ensures.same) told) (rw c.requires.name c.end-file.ensures.file))
    (c.end-file.ensures.left (subst (λ (b : Bool). IsTrue b) c.requires.tells told))

-- the clients came to the end of their rounds
pub returns-in-None-clause-whole : goal.returns-in-None-clause-whole
returns-in-None-clause-whole g c = λ told.
    whole_at_close c.end_log-file.result.1 g.J.KeptLog.tells c.in-Ok-ran_by.finished.booked.log (why_of c.in-Ok-ran_by.finished.ended)
    (g.K.KeptFiles.holds c.close-2.new.self c.args.kept.file.now) _
    (c.close-2.ensures c.args.kept.file.now (subst (λ (b : Bool). IsTrue b) (sym c.in-Ok.ensures.same) told) (rw c.requires.name c.end_log-file.ensures.file))
    (c.fault_at.ensures.whole c.in-None.is) c.end_log-file.ensures.whole (subst (λ (b : Bool). IsTrue b) c.requires.tells told)

-- they did not, or the log isn't whole
pub returns-in-Some-clause-left : goal.returns-in-Some-clause-left
returns-in-Some-clause-left g c = λ told.
    let J = g.J.KeptLog in
    let log = c.in-Ok-ran_by.finished.booked.log in
    let old = g.K.KeptFiles.holds c.args.files.now c.args.kept.file.now in
    let new = g.K.KeptFiles.holds c.close-2.new.self c.args.kept.file.now in
    let tells : IsTrue J.tells = subst (λ (b : Bool). IsTrue b) c.requires.tells told in
    let closed = c.close-2.ensures c.args.kept.file.now (subst (λ (b : Bool). IsTrue b) (sym c.in-Ok.ensures.same) told)
    (rw c.requires.name c.end_log-file.ensures.file) in
    let same_tags : log.tags ≡ J.tags = c.in-Ok-ran_by.ensures.tags ∙ c.requires.tags in
    let same_units : log.units ≡ J.units = c.in-Ok-ran_by.ensures.units ∙ c.requires.units in
    some_of c.fault_at.result c.in-Some.fault _ c.in-Some.is
    (c.fault_at.ensures.leaves J.tags J.units old new
    (text_on_ok c.end_log-file.result.1 J.tells J.tags J.units log (why_of c.in-Ok-ran_by.finished.ended) new _ same_tags same_units closed
    c.end_log-file.ensures.whole tells)
    (λ is. subst (λ (text : Option (List ℕ)). ∥ HasText J.tags J.units (Some why.LogFull) text ∥₁) (sym closed) (c.end_log-file.ensures.full is tells))
    (subst (λ (text : Option (List ℕ)). ∥ HasBeginning J.tags J.units text ∥₁) (sym closed) (c.end_log-file.ensures.left tells)))

pub returns-in-Some-clause-fault : goal.returns-in-Some-clause-fault
returns-in-Some-clause-fault g c = λ can_fail text.
    some_of c.fault_at.result c.in-Some.fault _ c.in-Some.is
    (c.fault_at.ensures.gives_up (g.K.KeptFiles.can_fail c.args.files.now c.args.kept.file.now) can_fail text
    (λ is. subst (λ (b : Bool). IsTrue b) (sym c.requires.fails) (c.end_log-file.ensures.fault is)))
