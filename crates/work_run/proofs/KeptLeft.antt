-- What a run leaves in the file of its log that gives up.
use Rattle.std.proofs.Common.{◌≡◌, ℕ, Bool, List, Option, Some, Result, Ok, Err, IsTrue, refl, sym, subst, inr}
use Rattle.std.proofs.Math.Logic.{∥∥₁_map}
use Rattle.std.specs.Prelude.{IfSome, OnErr, OnOk}
use Rattle.uas_log.specs.declared.FirstUnit.{FirstUnit}
use Rattle.uas_log.specs.declared.Log.{Log}
use Rattle.kept_log.specs.declared.Why.{Why}
use Rattle.kept_log.specs.declared.Why.TheVariants as why
use Rattle.log_keeper.specs.declared.stops.KeepStop.{KeepStop}
use Rattle.log_keeper.specs.declared.stops.KeepStop.TheVariants as stop
use Rattle.uas_work.specs.declared.Ended.{Ended}
use Rattle.uas_work.specs.declared.Ended.TheVariants as ended
use Rattle.work_run.specs.declared.faults.WorkFault.{WorkFault}
use Rattle.work_run.specs.declared.faults.WorkFault.TheVariants.{LogFull, LogFile, Run}
use Rattle.work_run.specs.WorkEnds.{fault_of, why_of}
use Rattle.work_run.specs.KeptTexts.{HasBeginning, HasText, HasWhole}
use Rattle.work_run.specs.KeptEnds.{HasLeft, KeptLeaves, stop_fault}
use Rattle.work_run.proofs.KeptText.{whole_text}

pub leaves_left : (tags : ℕ) (units : List FirstUnit) (old new : Option (List ℕ)) (reason : KeepStop) → (reason ≡ stop.Limits → ⊥) → HasLeft tags units old new
    → KeptLeaves tags units old new (stop_fault reason)
leaves_left tags units old new stop.Limits other left = absurd (other refl)
leaves_left tags units old new stop.NoMemory other left = left
leaves_left tags units old new stop.File other left = left

pub leaves_stopped : (tags : ℕ) (units : List FirstUnit) (old new : Option (List ℕ)) (reason : KeepStop)
    → (reason ≡ stop.Limits → ∥ HasText tags units (Some why.LogFull) new ∥₁) → ∥ HasBeginning tags units new ∥₁
    → ∥ KeptLeaves tags units old new (stop_fault reason) ∥₁
leaves_stopped tags units old new stop.Limits full left = full refl
leaves_stopped tags units old new stop.NoMemory full left =
    ∥∥₁_map {B = HasLeft tags units old new} left (λ (it : HasBeginning tags units new). inr (inr it))
leaves_stopped tags units old new stop.File full left =
    ∥∥₁_map {B = HasLeft tags units old new} left (λ (it : HasBeginning tags units new). inr (inr it))

text_left : (tags : ℕ) (units : List FirstUnit) (old new : Option (List ℕ)) (reason : Why) → HasText tags units (Some reason) new → HasLeft tags units old new
text_left tags units old new reason text = inr (inr (record { ending = Some reason; text = text }))

leaves_text : (tags : ℕ) (units : List FirstUnit) (old new : Option (List ℕ)) (reason : Why) → ∥ HasText tags units (Some reason) new ∥₁
    → ∥ HasLeft tags units old new ∥₁
leaves_text tags units old new reason text =
    ∥∥₁_map {B = HasLeft tags units old new} text (λ (it : HasText tags units (Some reason) new). text_left tags units old new reason it)

pub leaves_ended : (tags : ℕ) (units : List FirstUnit) (old new : Option (List ℕ)) (of : Ended) → ∥ HasText tags units (Some (why_of of)) new ∥₁
    → IfSome (fault_of of) (λ fault. ∥ KeptLeaves tags units old new fault ∥₁)
leaves_ended tags units old new ended.Done text = tt
leaves_ended tags units old new ended.LogFull text = text
leaves_ended tags units old new ended.NoMemory text = leaves_text tags units old new why.NoMemory text
leaves_ended tags units old new ended.Stopped text = tt
leaves_ended tags units old new ended.NoThread text = leaves_text tags units old new why.NoMemory text

pub left_by : (tags : ℕ) (units : List FirstUnit) (old new : Option (List ℕ)) (fault : WorkFault) → KeptLeaves tags units old new fault → HasLeft tags units old new
left_by tags units old new LogFull text = text_left tags units old new why.LogFull text
left_by tags units old new LogFile left = left
left_by tags units old new (Run fault) left = left

-- AT THE CLOSE OF ITS FILE

pub left_at_close : (tags : ℕ) (units : List FirstUnit) (old new held : Option (List ℕ)) → new ≡ held → ∥ HasBeginning tags units held ∥₁
    → ∥ HasLeft tags units old new ∥₁
left_at_close tags units old new held same left =
    ∥∥₁_map {B = HasLeft tags units old new} left (λ (it : HasBeginning tags units held). inr (inr (subst (HasBeginning tags units) (sym same) it)))

-- a file that was closed has the whole text, unless its keeper has stopped
pub whole_at_close : (ended : Result (Unit {0}) KeepStop) (tells : Bool) (log : Log) (reason : Why) (new held : Option (List ℕ)) → new ≡ held → OnErr ended ⊥
    → OnOk ended (IsTrue tells → ∥ HasWhole log reason held ∥₁) → IsTrue tells → ∥ HasWhole log reason new ∥₁
whole_at_close (Ok done) tells log reason new held same never whole told =
    subst (λ (text : Option (List ℕ)). ∥ HasWhole log reason text ∥₁) (sym same) (whole told)
whole_at_close (Err fault) tells log reason new held same never whole told = absurd never

pub text_on_ok : (ended : Result (Unit {0}) KeepStop) (tells : Bool) (tags : ℕ) (units : List FirstUnit) (log : Log) (reason : Why) (new held : Option (List ℕ))
    → log.tags ≡ tags → log.units ≡ units → new ≡ held → OnOk ended (IsTrue tells → ∥ HasWhole log reason held ∥₁) → IsTrue tells
    → OnOk ended ∥ HasText tags units (Some reason) new ∥₁
text_on_ok (Ok done) tells tags units log reason new held same_tags same_units same whole told =
    ∥∥₁_map {B = HasText tags units (Some reason) new} (whole told) (λ (it : HasWhole log reason held).
    subst (HasText tags units (Some reason)) (sym same)
    (subst (λ (p : ℕ × List FirstUnit). HasText p.0 p.1 (Some reason) held) (λ i. (same_tags i, same_units i)) (whole_text log reason held it)))
text_on_ok (Err fault) tells tags units log reason new held same_tags same_units same whole told = tt

pub whole_left : (tags : ℕ) (units : List FirstUnit) (log : Log) (reason : Why) (old new : Option (List ℕ)) → log.tags ≡ tags → log.units ≡ units
    → ∥ HasWhole log reason new ∥₁ → ∥ HasLeft tags units old new ∥₁
whole_left tags units log reason old new same_tags same_units whole =
    leaves_text tags units old new reason
    (∥∥₁_map {B = HasText tags units (Some reason) new} whole (λ (it : HasWhole log reason new).
    subst (λ (p : ℕ × List FirstUnit). HasText p.0 p.1 (Some reason) new) (λ i. (same_tags i, same_units i)) (whole_text log reason new it)))

pub left_by_fault : (tags : ℕ) (units : List FirstUnit) (old new : Option (List ℕ)) (fault : WorkFault) → ∥ KeptLeaves tags units old new fault ∥₁
    → ∥ HasLeft tags units old new ∥₁
left_by_fault tags units old new fault leaves =
    ∥∥₁_map {B = HasLeft tags units old new} leaves (λ (it : KeptLeaves tags units old new fault). left_by tags units old new fault it)

-- what holds of a fault that is there
pub some_of : (found : Option WorkFault) (fault : WorkFault) (Holds : WorkFault → Type 0) → found ≡ Some fault → IfSome found Holds → Holds fault
some_of found fault Holds is holds = subst (λ (it : Option WorkFault). IfSome it Holds) is holds
