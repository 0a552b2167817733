-- A list of tasks with one at most. Cited by WriteRuns.
use Rattle.std.proofs.Common.{◌≡◌, ℕ, zero, suc, List, [], ◌∷◌, Option, Some, None, refl, ap, subst}
use Rattle.std.specs.Prelude.{replicate, slice_set}
use Rattle.std.proofs.lemmas.Option.{none-some}
use Rattle.scsi_cmd.specs.Held.{held_at, held_under, with_held_under}
use Rattle.solo_model.specs.TaggedTask.{TaggedTask}
use Rattle.uas_profile.specs.declared.TheConstants.{MOST_TAGS}

-- so many places that hold nothing
abbrev empty : ℕ → List (Option TaggedTask)
empty many = replicate many None

-- nothing but what is under this index
abbrev pub lone : ℕ → Option TaggedTask → List (Option TaggedTask)
lone index held = with_held_under (empty MOST_TAGS) index held

empty-at : (many slot : ℕ) (task : TaggedTask) → held_at (empty many) slot ≡ Some task → ⊥
empty-at zero slot task is = none-some task is
empty-at (suc many) zero task is = none-some task is
empty-at (suc many) (suc slot) task is = empty-at many slot task is

-- an empty place under any index
pub none-under : (tasks : List (Option TaggedTask)) (index : ℕ) (task : TaggedTask) → tasks ≡ empty MOST_TAGS → held_under tasks index ≡ Some task → ⊥
none-under tasks zero task none is = none-some task is
none-under tasks (suc slot) task none is = empty-at MOST_TAGS slot task (subst (λ places. held_at places slot ≡ Some task) none is)

set-at : (many slot other : ℕ) (held : Option TaggedTask) (task : TaggedTask) → held_at (slice_set (empty many) slot held) other ≡ Some task →
    (other ≡ slot) × (held ≡ Some task)
set-at zero slot other held task is = absurd (none-some task is)
set-at (suc many) zero zero held task is = (refl, is)
set-at (suc many) zero (suc other) held task is = absurd (empty-at many other task is)
set-at (suc many) (suc slot) zero held task is = absurd (none-some task is)
set-at (suc many) (suc slot) (suc other) held task is = let both = set-at many slot other held task is in (ap suc both.0, both.1)

-- a task that is held is the one under the index
pub lone-held : (index other : ℕ) (held : Option TaggedTask) (task : TaggedTask) → held_under (lone index held) other ≡ Some task → (other ≡ index) × (held ≡ Some task)
lone-held index zero held task is = absurd (none-some task is)
lone-held zero (suc slot) held task is = absurd (empty-at MOST_TAGS slot task is)
lone-held (suc at) (suc slot) held task is = let both = set-at MOST_TAGS at slot held task is in (ap suc both.0, both.1)

set-set : (tasks : List (Option TaggedTask)) (slot : ℕ) (was now : Option TaggedTask) → slice_set (slice_set tasks slot was) slot now ≡ slice_set tasks slot now
set-set [] slot was now = refl
set-set (task ∷ tasks) zero was now = refl
set-set (task ∷ tasks) (suc slot) was now = ap (λ rest. task ∷ rest) (set-set tasks slot was now)

-- what is under the index is another now
pub lone-now : (index : ℕ) (was now : Option TaggedTask) → with_held_under (lone index was) index now ≡ lone index now
lone-now zero was now = refl
lone-now (suc slot) was now = set-set (empty MOST_TAGS) slot was now

set-none : (many slot : ℕ) → slice_set (empty many) slot None ≡ empty many
set-none zero slot = refl
set-none (suc many) zero = refl
set-none (suc many) (suc slot) = ap (λ rest. None ∷ rest) (set-none many slot)

pub lone-none : (index : ℕ) → lone index None ≡ empty MOST_TAGS
lone-none zero = refl
lone-none (suc slot) = set-none MOST_TAGS slot
