-- The headline, as statements that a contract can name.
use Rattle.std.specs.Prelude.{◌≡◌, ℕ, List}
use Rattle.shared_machine.specs.declared.Step.{Step}
use Rattle.shared_machine.specs.Shared.{Shared}
use Rattle.shared_machine.specs.Replay.{replayed}
use Rattle.isolation.specs.Isolation.{IsIsolated, own_labels, own_replies, own_state}

-- The headline holds of every run of the shared machine.
abbrev pub HeadlineHolds : Type 0
HeadlineHolds =
    (state : Shared) (steps : List Step) (client : ℕ)
    → IsIsolated state steps (replayed state steps).1 (replayed state steps).0 client

-- Two clients, each in a world of its own, that start alike and do alike are answered alike and end alike, whatever
-- the other clients of their worlds do.
abbrev pub WorldsAgree : Type 0
WorldsAgree =
    (here there : Shared) (first second : List Step) (a b : ℕ)
    → own_state here a ≡ own_state there b
    → own_labels here.tags a first (replayed here first).1 ≡ own_labels there.tags b second (replayed there second).1
    → (own_replies here.tags a (replayed here first).1 ≡ own_replies there.tags b (replayed there second).1)
    × (own_state (replayed here first).0 a ≡ own_state (replayed there second).0 b)
