-- A log that is true replays once it is saved.
use Rattle.std.proofs.Common.{◌≡◌, ◌≢◌, ℕ, List, map, Some, None, Result, Ok, Err, IfErr, refl, ap, sym, subst, ◌∙◌}
use Rattle.std.specs.Prelude.{slice_get}
use Rattle.shared_machine.specs.Replay.{replay}
use Rattle.uas_log.specs.declared.Log.{Log}
use Rattle.uas_log.specs.Booking.{IsReplay, first_units, log_opening, replies_of}
use Rattle.log_text.specs.Kept.{kept, with_client}
use Rattle.log_text.specs.Plain.{plain_log}
use Rattle.uas_work.specs.Booked.{BookedState}
use Rattle.audit_run.specs.declared.replay.ReplayFault.{ReplayFault}
use Rattle.audit_run.specs.declared.replay.ReplayFault.TheVariants.{NotDue, Refused, OtherReplies, NoMemory}
use Rattle.audit_run.specs.replay.Replaying.{IsReplayed, Replays, first_fault}
use Rattle.audit_run.proofs.KeptSteps.{kept-replays}

pub true_log-replays : (log : Log) → IsReplay log → Replays (plain_log log)
true_log-replays log it =
    let all = kept-replays 0 (log_opening log) log.steps it.acted in
    record {
      faultless =
          subst (λ (refusals : List ℕ). first_fault 0 (log_opening log) (kept log.steps refusals) ≡ None) (sym it.refusals) all.faultless;
      told =
          ap (λ (refusals : List ℕ). map (with_client log.tags) (replies_of (replay log.tags (first_units log) (kept log.steps refusals)).1)) it.refusals
          ∙ ap (map (with_client log.tags)) (all.replies ∙ sym it.replies);
    }

none-some : (fault : ReplayFault) → None ≢ Some fault
none-some fault e = cc

pub true_log-replayed : (log : Log) (result : Result BookedState ReplayFault) → Replays (plain_log log) → IsReplayed (plain_log log) result
    → IfErr result (λ fault. fault ≡ NoMemory)
true_log-replayed log (Ok booked) it is = tt
true_log-replayed log (Err (NotDue number)) it is = absurd (none-some (NotDue number) (sym it.faultless ∙ is))
true_log-replayed log (Err (Refused number)) it is = absurd (none-some (Refused number) (sym it.faultless ∙ is))
true_log-replayed log (Err (OtherReplies number)) it is = absurd (is.1.differ (ap (λ (replies : List _). slice_get replies number) it.told))
true_log-replayed log (Err NoMemory) it is = refl
