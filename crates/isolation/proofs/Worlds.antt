-- Two worlds: a client's run depends on its own labels alone.
use Rattle.std.proofs.Common.{◌≡◌, ℕ, List, Option, Some, ap, sym, ◌∙◌}
use Rattle.std.proofs.lemmas.Option.{some_pair_parts}
use Rattle.scsi_cmd.specs.declared.Reply.{Reply}
use Rattle.solo_model.specs.Solo.{SoloState, solo_run}
use Rattle.shared_machine.specs.declared.Step.{Step}
use Rattle.shared_machine.specs.Shared.{Shared}
use Rattle.shared_machine.specs.Replay.{replayed}
use Rattle.isolation.specs.Isolation.{own_labels, own_replies, own_state}
use Rattle.isolation.proofs.WholeRuns.{replayed-isolated}

-- who starts alike and does alike is answered alike and ends alike
pub replayed-agree : (here there : Shared) (first second : List Step) (a b : ℕ) → own_state here a ≡ own_state there b →
    own_labels here.tags a first (replayed here first).1 ≡ own_labels there.tags b second (replayed there second).1 →
    (own_replies here.tags a (replayed here first).1 ≡ own_replies there.tags b (replayed there second).1)
    × (own_state (replayed here first).0 a ≡ own_state (replayed there second).0 b)
replayed-agree here there first second a b start does =
    let run : solo_run (own_state here a) (own_labels here.tags a first (replayed here first).1) ≡ solo_run (own_state there b)
    (own_labels there.tags b second (replayed there second).1) =
    ap (λ state. solo_run state (own_labels here.tags a first (replayed here first).1)) start ∙ ap (solo_run (own_state there b)) does in
    let both : ◌≡◌ {A = Option (SoloState × List Reply)}
    (Some (own_state (replayed here first).0 a, own_replies here.tags a (replayed here first).1))
    (Some (own_state (replayed there second).0 b, own_replies there.tags b (replayed there second).1)) =
    sym (replayed-isolated here first a) ∙ run ∙ replayed-isolated there second b in
    let parts = some_pair_parts _ _ _ _ both in
    (parts.1, parts.0)
