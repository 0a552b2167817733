-- The drain: rounds of tries until nothing acts.
use Rattle.std.specs.Prelude.{◌≡◌, ℕ, zero, suc, ◌-◌, ◌<◌, ◌==◌, Bool, true, false, List, [], ◌∷◌, ◌++◌, length, map, if◌then◌else◌}
use Rattle.std.specs.List.{range_with_len}
use Rattle.uas_profile.specs.declared.Pipe.{Pipe}
use Rattle.uas_profile.specs.declared.Pipe.TheVariants.{Status, DataIn, DataOut}
use Rattle.shared_machine.specs.declared.Step.{Step}
use Rattle.shared_machine.specs.declared.Step.TheVariants.{CommandPipe, Data, Status as StatusStep, Engine, Event, Retire}
use Rattle.shared_machine.specs.Shared.{Shared, due, greatest_tag, shared_step}

-- the tags up to the greatest, rising
abbrev pub all_tags : ℕ → List ℕ
all_tags greatest = range_with_len 1 greatest

-- the retirements on a pipe, by rising tag
abbrev pub retirements : ℕ → Pipe → List Step
retirements greatest pipe = map (Retire pipe) (all_tags greatest)

-- The tries of a round, in order: the command pipe, the controller's command ring, the event ring, the data stream of each tag, the status
-- stream of each tag, the retirement of each tag's TD on pipe 2, 3 and 4.
abbrev pub tries : ℕ → List Step
tries greatest =
    CommandPipe ∷ Engine ∷ Event ∷ [] ++ map Data (all_tags greatest) ++ map StatusStep (all_tags greatest)
    ++ retirements greatest Status ++ retirements greatest DataIn ++ retirements greatest DataOut

-- the shared machine, and how many more steps may act
abbrev pub tried_one : Shared × ℕ → Step → Shared × ℕ
tried_one now step =
    if now.1 == 0 then now
    else (if due now.0 step then ((shared_step now.0 step).0, now.1 - 1) else now)

-- a list of tries, of which so many may act
abbrev pub tried : Shared × ℕ → List Step → Shared × ℕ
tried now [] = now
tried now (step ∷ steps) = tried (tried_one now step) steps

-- neither stream is due of any tag between two others
abbrev pub AreQuiet : Shared → ℕ → ℕ → Type 0
AreQuiet state tag next = (other : ℕ) → tag < other → other < next → (due state (Data other) ≡ false) × (due state (StatusStep other) ≡ false)

-- no TD on a pipe is left over of any tag between two others
abbrev pub AreNotLeftOver : Shared → Pipe → ℕ → ℕ → Type 0
AreNotLeftOver state pipe tag next = (other : ℕ) → tag < other → other < next → due state (Retire pipe other) ≡ false

-- a whole round
abbrev pub round : Shared × ℕ → Shared × ℕ
round now = tried now (tries (greatest_tag now.0))

-- What a drain leaves: the shared machine, how many more steps could have acted, and whether it ended because none was
-- due.
pub record Drained : Type 0 where
  pub state : Shared
  pub left : ℕ
  pub quiet : Bool

-- A drain of at most so many rounds, of which so many steps may act. It ends after a round in which nothing acted, or
-- as soon as no more step may act.
unfoldable pub rounds : ℕ → Shared × ℕ → Drained
rounds zero now = record { state = now.0; left = now.1; quiet = false }
rounds (suc more) now =
    let after = round now in
    if after.1 == 0 then record { state = after.0; left = 0; quiet = false }
    else (if after.1 == now.1 then record { state = after.0; left = after.1; quiet = true }
    else rounds more after)

-- The drain: each round but the last takes a step, so that it has no more rounds than steps may act, and one.
abbrev pub drained : Shared → ℕ → Drained
drained state limit = rounds (suc limit) (state, limit)
