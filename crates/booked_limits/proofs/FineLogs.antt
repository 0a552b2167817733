-- A true log fits its text: its steps and replies one by one, as they come of its replay.
use Rattle.std.proofs.Common.{◌≡◌, ℕ, zero, suc, ◌*◌, ◌<◌, ◌≤◌, true, false, cond, List, [], ◌∷◌, ◌++◌, map, length, length-append, Option, Some, None}
use Rattle.std.proofs.Common.{IfSome, inr, refl, arith, ap, sym, subst, ◌∙◌}
use Rattle.std.specs.Prelude.{◌==◌, option_to_list}
use Rattle.std.specs.List.{AllByRecursion}
use Rattle.std.proofs.lemmas.Bool.{eqb-true}
use Rattle.std.proofs.lemmas.Option.{none-some, same_Some}
use Rattle.block_unit.specs.BlockMaps.{BlockMaps}
use Rattle.uas_profile.specs.declared.TheConstants.{STREAMS, TAGS}
use Rattle.scsi_cmd.specs.declared.Reply.{Reply}
use Rattle.shared_machine.specs.Bus.{AllTicketed}
use Rattle.shared_machine.specs.Laws.{AllDue}
use Rattle.shared_machine.specs.Replay.{replayed}
use Rattle.shared_machine.specs.Shared.{Shared, shared_step}
use Rattle.shared_machine.specs.declared.Outcome.{Outcome}
use Rattle.shared_machine.specs.declared.Step.{Step}
use Rattle.shared_machine.proofs.NumberOfClients.{length-parts}
use Rattle.shared_machine.proofs.NumberOfTags.{kept-tags}
use Rattle.shared_machine.proofs.Opening.{length-new_parts}
use Rattle.machine_invariant.specs.Matched.{IsMatched}
use Rattle.machine_invariant.proofs.MatchedOpening.{opening-matched}
use Rattle.machine_invariant.proofs.MatchedSteps.{shared_step-matched}
use Rattle.uas_log.specs.declared.FirstUnit.{FirstUnit}
use Rattle.uas_log.specs.declared.Log.{Log}
use Rattle.uas_log.specs.Booking.{IsReplay, first_maps, first_units, log_opening, log_replay, refusal_of, replies_of}
use Rattle.log_text.specs.declared.Version.TheVariants.{Second}
use Rattle.log_text.specs.Kept.{kept, version_with, with_client}
use Rattle.log_text.specs.Text.{IsWithin, ReplyFits, StepFits}
use Rattle.booked_limits.specs.Fitting.{FittingLogsSave, HasFields, TrueLogsFit}
use Rattle.booked_limits.proofs.FineTasks.{IsWide}
use Rattle.booked_limits.proofs.FineReplies.{Fits}
use Rattle.booked_limits.proofs.FineSteps.{AreFine, AreWide, opening-fine, shared_step-fine}
use Rattle.booked_limits.proofs.StepLimits.{step-fits}

-- LENGTHS

outcomes-length : (state : Shared) (steps : List Step) → length (replayed state steps).1 ≡ length steps
outcomes-length state [] = refl
outcomes-length state (step ∷ rest) = ap suc (outcomes-length (shared_step state step).0 rest)

mapped-length : {A B : Type 0} (f : A → B) (list : List A) → length (map f list) ≡ length list
mapped-length f [] = refl
mapped-length f (x ∷ xs) = ap suc (mapped-length f xs)

kept-length : (steps : List Step) (refusals : List ℕ) → length (kept steps refusals) ≤ length steps
kept-length [] refusals = omega arith
kept-length (step ∷ rest) [] = omega arith
kept-length (step ∷ rest) (number ∷ numbers) =
    elim (number == 0) as (λ b. length (cond b (step ∷ kept rest numbers) (kept rest numbers)) ≤ length (step ∷ rest)) [
      | true ↦ omega (arith, kept-length rest numbers)
      | false ↦ omega (arith, kept-length rest numbers)
    ]

told-length : (told : Option Reply) → length (option_to_list told) ≤ 1
told-length None = omega arith
told-length (Some reply) = omega arith

replies-length : (outcomes : List Outcome) → length (replies_of outcomes) ≤ length outcomes
replies-length [] = omega arith
replies-length (outcome ∷ rest) =
    omega (arith, length-append (option_to_list outcome.reply) (replies_of rest), told-length outcome.reply, replies-length rest)

-- THE REPLAY

-- what comes of steps fits, and what they leave is fine
record FitsAll (units : List BlockMaps) (tags clients : ℕ) (steps : List Step) (after : Shared × List Outcome) : Type 0 where
  steps_fit : AllByRecursion (StepFits Second clients) (kept steps (map refusal_of after.1))
  replies_fit : AllByRecursion (ReplyFits clients) (map (with_client tags) (replies_of after.1))
  parts_fine : AreFine units after.0.parts

more-replies : (tags clients : ℕ) (told : Option Reply) (rest : List Reply) → IfSome told (Fits tags clients)
    → AllByRecursion (ReplyFits clients) (map (with_client tags) rest)
    → AllByRecursion (ReplyFits clients) (map (with_client tags) (option_to_list told ++ rest))
more-replies tags clients None rest fits all = all
more-replies tags clients (Some reply) rest fits all = (fits, all)

replay-fits : (units : List BlockMaps) → AreWide units → (tags clients : ℕ) (state : Shared) (steps : List Step) → 0 < tags → state.tags ≡ tags
    → length state.parts ≡ clients → clients * tags ≤ STREAMS → IsMatched state → AreFine units state.parts → AllDue state steps → AllTicketed steps
    → AllByRecursion HasFields steps → FitsAll units tags clients steps (replayed state steps)
replay-fits units wide tags clients state [] some number many most matched all due has fields =
    record { steps_fit = tt; replies_fit = tt; parts_fine = all }
replay-fits units wide tags clients state (step ∷ rest) some number many most matched all due has fields =
    let now : Shared × Outcome = shared_step state step in
    let fine = shared_step-fine units wide tags clients state step number many most has.0 matched all in
    let later : FitsAll units tags clients rest (replayed now.0 rest) =
    replay-fits units wide tags clients now.0 rest some (kept-tags state step ∙ number) (length-parts state step ∙ many) most
    (shared_step-matched state step matched) fine.parts_fine due.1 has.1 fields.1 in
    let numbers : List ℕ = map refusal_of (replayed now.0 rest).1 in
    let few : length state.parts * state.tags ≤ STREAMS = subst (λ (p : ℕ × ℕ). p.0 * p.1 ≤ STREAMS) (λ i. (sym many i, sym number i)) most in
    record {
      steps_fit =
          elim (refusal_of now.1 == 0) as (λ b. (refusal_of now.1 == 0) ≡ b
          → AllByRecursion (StepFits Second clients) (cond b (step ∷ kept rest numbers) (kept rest numbers))) [
            | true ↦ λ is. (
              subst (λ n. StepFits Second n step) many
                  (step-fits state step (omega (arith, number, some)) few due.0 has.0 fields.0 (eqb-true (refusal_of now.1) 0 is)),
              later.steps_fit,
            )
            | false ↦ λ is. later.steps_fit
          ] refl;
      replies_fit = more-replies tags clients now.1.reply (replies_of (replayed now.0 rest).1) fine.reply_fits later.replies_fit;
      parts_fine = later.parts_fine;
    }

-- THE LOG

first-wide : (firsts : List FirstUnit) → AreWide (map first_maps firsts)
first-wide [] client first is = absurd (none-some first is)
first-wide (one ∷ rest) zero first is = subst (λ (unit : BlockMaps). IsWide unit) (same_Some (first_maps one) first is) (omega arith)
first-wide (one ∷ rest) (suc client) first is = first-wide rest client first is

log-fits : (log : Log) → IsReplay log → AllByRecursion HasFields log.steps
    → FitsAll (first_units log) log.tags (length log.units) log.steps (log_replay log)
log-fits log is_true fields =
    let least = is_true.tags.least in
    replay-fits (first_units log) (first-wide log.units) log.tags (length log.units) (log_opening log) log.steps (omega (arith, least)) refl
    (length-new_parts 0 (first_units log) ∙ mapped-length first_maps log.units) is_true.streams (opening-matched log.tags (first_units log) is_true.tags)
    (opening-fine 0 (first_units log)) is_true.acted is_true.ticketed fields

-- its replay has a part for each of its units
pub log-parts : (log : Log) → length (log_replay log).0.parts ≡ length log.units
log-parts log =
    replayed-parts (log_opening log) log.steps ∙ length-new_parts 0 (first_units log) ∙ mapped-length first_maps log.units
  where
    replayed-parts : (state : Shared) (steps : List Step) → length (replayed state steps).0.parts ≡ length state.parts
    replayed-parts state [] = refl
    replayed-parts state (step ∷ rest) = replayed-parts (shared_step state step).0 rest ∙ length-parts state step

-- what a log's replay leaves is fine
pub log-fine : (log : Log) → IsReplay log → AllByRecursion HasFields log.steps → AreFine (first_units log) (log_replay log).0.parts
log-fine log is_true fields = (log-fits log is_true fields).parts_fine

pub true-logs-fit : TrueLogsFit
true-logs-fit log is_true few units fields =
    let it : FitsAll (first_units log) log.tags (length log.units) log.steps (log_replay log) = log-fits log is_true fields in
    let long : length (log_replay log).1 ≡ length log.steps = outcomes-length (log_opening log) log.steps in
    let told : length log.refusals ≡ length log.steps = ap length is_true.refusals ∙ mapped-length refusal_of (log_replay log).1 ∙ long in
    let taken : length log.replies ≡ length (replies_of (log_replay log).1) = ap length is_true.replies in
    record {
      told = told;
      units_fit = units;
      steps_fit = subst (λ (refusals : List ℕ). AllByRecursion (StepFits Second (length log.units)) (kept log.steps refusals)) (sym is_true.refusals) it.steps_fit;
      few_steps = omega (arith, few, kept-length log.steps log.refusals);
      replies_fit = subst (λ (replies : List Reply). AllByRecursion (ReplyFits (length log.units)) (map (with_client log.tags) replies)) (sym is_true.replies)
          it.replies_fit;
      few_replies = omega (arith, few, long, taken, replies-length (log_replay log).1, mapped-length (with_client log.tags) log.replies);
    }

-- of clients of 16 tags there are 15 at most
pub fitting-logs-save : FittingLogsSave
fitting-logs-save log is_true number it =
    let few : length log.units ≤ 15 =
    let all : length log.units * TAGS ≤ STREAMS = subst (λ n. length log.units * n ≤ STREAMS) number is_true.streams in omega (arith, all) in
    let within : IsWithin (record { version = version_with TAGS; units = log.units; steps = kept log.steps log.refusals; replies = map (with_client log.tags) log.replies }) =
    record {
      some = is_true.some;
      most = few;
      units = it.units_fit;
      steps = it.steps_fit;
      few_steps = it.few_steps;
      replies = it.replies_fit;
      few_replies = it.few_replies;
    } in
    record {
      tags = inr number;
      told = it.told;
      within =
          subst (λ tags. IsWithin (record {
            version = version_with tags;
            units = log.units;
            steps = kept log.steps log.refusals;
            replies = map (with_client log.tags) log.replies;
          })) (sym number) within;
    }
