use Rattle.std.proofs.Common.{◌≡◌, true, Result, Ok, Err, refl, sym, ◌∙◌, rules}
use Rattle.std.specs.Prelude.{IsErrAnd}
use Rattle.log_keeper.specs.declared.KeepFault.{KeepFault}
use Rattle.log_keeper.specs.declared.KeepFault.TheVariants as fault
use Rattle.log_keeper.specs.declared.stops.KeepStop.{KeepStop}
use Rattle.log_keeper.specs.declared.stops.KeepStop.TheVariants as stop
use Rattle.log_keeper.specs.Stops.{record_stop}
use Rattle.log_keeper.proofs.Behind.{all_summed}
use Rattle.log_file.proofs.GivenRecords.{given_all, given_waiting, given_written, not_all_fit}
use Rattle.log_file.proofs.records.give_records.Goals as goal

pub loop-waiting-preserved : goal.loop-waiting-preserved
loop-waiting-preserved g c =
    let was = c.loop-waiting.invariant in
    record {
      given = given_written _ _ _ _ _ _ _ _ _ _ _ _ was.given c.add_some.ensures.added c.in_ok-write_waiting.ensures.text c.in_ok-write_waiting.ensures.none;
      same = c.write_waiting.ensures.same ∙ was.same;
      stays = c.write_waiting.ensures.stays ∙ was.stays;
      file = c.write_waiting.ensures.file ∙ was.file;
    }

-- a limit of the run is one of the record
limit_of : (why : KeepFault) → record_stop why ≡ stop.Limits → why ≡ fault.Limits
limit_of fault.Limits is = refl
limit_of fault.NoMemory is = absurd (cc)

err_limit : {A : Type 0} (why : KeepFault) (result : Result A KeepStop) → IsErrAnd result (λ given. given ≡ record_stop why) → result ≡ Err stop.Limits
    → why ≡ fault.Limits
err_limit why (Ok done) given is = absurd given
err_limit why (Err given_stop) given is = let same : given_stop ≡ stop.Limits = cc in limit_of why (sym given ∙ same)

pub returns-in_err-add_some-clause-limits : goal.returns-in_err-add_some-clause-limits
returns-in_err-add_some-clause-limits g c = λ is fit.
    not_all_fit _ _ _ _ _ _ _ _ _ _ c.loop-waiting.invariant.given c.add_some.ensures.added
    (c.in_err-add_some.ensures.limits (err_limit c.in_err-add_some.field-0.0 c.from_residual.result c.from_residual.ensures.1 is)) fit

pub returns-clause-text : goal.returns-clause-text
returns-clause-text g c =
    let ended : c.add_some.result ≡ Ok true = search rules in
    given_all _ _ _ _ _ _ _ _ (given_waiting _ _ _ _ _ _ _ _ _ _ c.loop-waiting.invariant.given c.add_some.ensures.added) (c.add_some.ensures.none ended)

pub returns-clause-sum : goal.returns-clause-sum
returns-clause-sum g c =
    let ended : c.add_some.result ≡ Ok true = search rules in
    let all = given_waiting _ _ _ _ _ _ _ _ _ _ c.loop-waiting.invariant.given c.add_some.ensures.added in
    all_summed _ _ _ _ _ all.added (c.add_some.ensures.none ended)
