-- A log that is true stays true with one more step that acted.
use Rattle.std.proofs.Common.{◌≡◌, ℕ, ◌*◌, ◌≤◌, true, List, [], ◌∷◌, ◌++◌, length, map, refl, ap, sym, ◌∙◌, append_assoc}
use Rattle.std.specs.Prelude.{option_to_list}
use Rattle.std.proofs.lemmas.List.{append-nil}
use Rattle.uas_profile.specs.declared.TheConstants.{MAX_CLIENTS, STREAMS}
use Rattle.uas_profile.specs.Tags.{AreTags}
use Rattle.shared_machine.specs.declared.Step.{Step}
use Rattle.shared_machine.specs.declared.Outcome.{Outcome}
use Rattle.shared_machine.specs.Bus.{AllTicketed, HasTicket}
use Rattle.shared_machine.specs.Shared.{Shared, due, shared_step}
use Rattle.shared_machine.specs.Replay.{replayed}
use Rattle.shared_machine.specs.ReplayLaws.{stepped_on}
use Rattle.shared_machine.specs.Laws.{AllDue}
use Rattle.shared_machine.proofs.Replays.{replayed_more}
use Rattle.uas_log.specs.declared.FirstUnit.{FirstUnit}
use Rattle.uas_log.specs.declared.Log.{Log}
use Rattle.uas_log.specs.Booking.{IsReplay, empty_log, log_opening, log_replay, refusal_of, replies_of, with_entry}

-- LISTS THAT GROW AT THEIR END

map_more : {A B : Type 0} (f : A → B) (xs : List A) (x : A) → map f (xs ++ x ∷ []) ≡ map f xs ++ f x ∷ []
map_more f [] x = refl
map_more f (first ∷ rest) x = ap (λ list. f first ∷ list) (map_more f rest x)

replies_more : (outcomes : List Outcome) (outcome : Outcome) → replies_of (outcomes ++ outcome ∷ []) ≡ replies_of outcomes ++ option_to_list outcome.reply
replies_more [] outcome = append-nil (option_to_list outcome.reply)
replies_more (first ∷ rest) outcome =
    ap (λ list. option_to_list first.reply ++ list) (replies_more rest outcome)
    ∙ sym (append_assoc (option_to_list first.reply) (replies_of rest) (option_to_list outcome.reply))

due_more : (state : Shared) (steps : List Step) (step : Step) → AllDue state steps → due (replayed state steps).0 step ≡ true
    → AllDue state (steps ++ step ∷ [])
due_more state [] step all is = (is, tt)
due_more state (first ∷ rest) step all is = (all.0, due_more (shared_step state first).0 rest step all.1 is)

ticketed_more : (steps : List Step) (step : Step) → AllTicketed steps → HasTicket step → AllTicketed (steps ++ step ∷ [])
ticketed_more [] step all has = (has, tt)
ticketed_more (first ∷ rest) step all has = (all.0, ticketed_more rest step all.1 has)

-- THE LOG

-- a log without a step is true
pub empty_log-true : (tags : ℕ) (units : List FirstUnit) → AreTags tags → 1 ≤ length units → length units ≤ MAX_CLIENTS → length units * tags ≤ STREAMS
    → IsReplay (empty_log tags units)
empty_log-true tags units are some most streams = record {
  tags = are;
  some = some;
  most = most;
  streams = streams;
  refusals = refl;
  replies = refl;
  acted = tt;
  ticketed = tt;
}

-- its replay goes on by one step
pub with_entry-replay : (log : Log) (step : Step) (outcome : Outcome) → log_replay (with_entry log step outcome) ≡ stepped_on (log_replay log) step
with_entry-replay log step outcome = replayed_more (log_opening log) log.steps step

-- a true log with one more step that acted, and the outcome that it came to, is true
pub with_entry-true : (log : Log) (step : Step) (state : Shared) → IsReplay log → (log_replay log).0 ≡ state → HasTicket step → due state step ≡ true
    → IsReplay (with_entry log step (shared_step state step).1)
with_entry-true log step state it at has is =
    let outcome : Outcome = (shared_step state step).1 in
    let goes_on : (log_replay (with_entry log step outcome)).1 ≡ (log_replay log).1 ++ outcome ∷ [] =
    ap (λ (came : Shared × List Outcome). came.1) (with_entry-replay log step outcome)
    ∙ ap (λ now. (log_replay log).1 ++ (shared_step now step).1 ∷ []) at in
    record {
      tags = it.tags;
      some = it.some;
      most = it.most;
      streams = it.streams;
      refusals = ap (λ list. list ++ refusal_of outcome ∷ []) it.refusals ∙ sym (map_more refusal_of (log_replay log).1 outcome)
          ∙ sym (ap (map refusal_of) goes_on);
      replies = ap (λ list. list ++ option_to_list outcome.reply) it.replies ∙ sym (replies_more (log_replay log).1 outcome)
          ∙ sym (ap replies_of goes_on);
      acted = due_more (log_opening log) log.steps step it.acted (ap (λ now. due now step) at ∙ is);
      ticketed = ticketed_more log.steps step it.ticketed has;
    }

-- the state after it
pub with_entry-state : (log : Log) (step : Step) (outcome : Outcome) (state : Shared) → (log_replay log).0 ≡ state
    → (log_replay (with_entry log step outcome)).0 ≡ (shared_step state step).0
with_entry-state log step outcome state at =
    ap (λ (came : Shared × List Outcome). came.0) (with_entry-replay log step outcome) ∙ ap (λ now. (shared_step now step).0) at
