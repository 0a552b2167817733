-- What a run of the shared machine is to each client's own solo machine.
use Rattle.std.proofs.Common.{◌≡◌, ℕ, List, [], ◌∷◌, ◌++◌, Option, Some, option_to_list, refl, sym, subst, rules}
use Rattle.scsi_cmd.specs.declared.Reply.{Reply}
use Rattle.solo_model.specs.declared.Label.{Label}
use Rattle.solo_model.specs.Solo.{SoloState, solo_run}
use Rattle.shared_machine.specs.declared.Step.{Step}
use Rattle.shared_machine.specs.declared.Outcome.{Outcome}
use Rattle.shared_machine.specs.Shared.{Shared, shared_step}
use Rattle.shared_machine.specs.Bus.{AllTicketed, HasTicket}
use Rattle.shared_machine.specs.Replay.{replayed}
use Rattle.shared_machine.proofs.NumberOfTags.{kept-tags}
use Rattle.isolation.specs.Isolation.{IsIsolated, own_label, own_labels, own_reply, own_replies, own_state}
use Rattle.isolation.proofs.Acts.{solo_try}
use Rattle.isolation.proofs.Routes.{shared_step-own}

-- a run goes on after one label, or none
pub solo_run-append : (old now new : SoloState) (label : Option Label) (labels : List Label) (reply : Option Reply) (replies : List Reply) →
    solo_try old label ≡ Some (now, reply) → solo_run now labels ≡ Some (new, replies) →
    solo_run old (option_to_list label ++ labels) ≡ Some (new, option_to_list reply ++ replies)
solo_run-append old now new label labels reply replies first rest = search rules

-- isolation: a client's own labels are a run of its own solo machine, with its own replies, to its own state after them
pub replayed-isolated : (state : Shared) (steps : List Step) (client : ℕ) → IsIsolated state steps (replayed state steps).1 (replayed state steps).0 client
replayed-isolated state [] client = refl
replayed-isolated state (step ∷ steps) client =
    let after = shared_step state step in
    let rest = replayed after.0 steps in
    solo_run-append (own_state state client) (own_state after.0 client) (own_state rest.0 client)
    (own_label state.tags client step after.1) (own_labels state.tags client steps rest.1)
    (own_reply state.tags client after.1) (own_replies state.tags client rest.1) (shared_step-own client state step)
    (subst (λ tags. solo_run (own_state after.0 client) (own_labels tags client steps rest.1) ≡ Some (own_state rest.0 client, own_replies tags client rest.1))
    (kept-tags state step) (replayed-isolated after.0 steps client))

-- so is whatever is the shared machine's run
pub run_isolated : (old new : Shared) (steps : List Step) (outcomes : List Outcome) (client : ℕ) → (new, outcomes) ≡ replayed old steps →
    IsIsolated old steps outcomes new client
run_isolated old new steps outcomes client is =
    let P : Shared × List Outcome → Type 0 = λ run. IsIsolated old steps run.1 run.0 client in
    subst P (sym is) (replayed-isolated old steps client)

-- a step with a small ticket goes on after others
pub all_ticketed_push : (steps : List Step) (step : Step) → AllTicketed steps → HasTicket step → AllTicketed (steps ++ step ∷ [])
all_ticketed_push [] step all has = (has, tt)
all_ticketed_push (first ∷ rest) step all has = (all.0, all_ticketed_push rest step all.1 has)
