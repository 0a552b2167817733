-- What follows of rounds: nobody is left out, and where a round takes no step no tag has work that could be done.
use Rattle.std.specs.Prelude.{◌≡◌, ℕ, suc, ◌≤◌, ◌<◌, Bool, true, false, Option, Some, None}
use Rattle.guest_pipes.specs.declared.acted.Acted.{Acted}
use Rattle.guest_pipes.specs.declared.acted.Acted.TheVariants.{Off, Idle, Full, Emptied, Waits, Worked as HasWorked}
use Rattle.marks.specs.Marks.{is_marked}
use Rattle.uas_tasks.specs.Machine.{has_task}
use Rattle.xhci_machine.specs.Rounds.{Turning, data_of, front_turned, status_of, turned}
use Rattle.xhci_machine.specs.Turns.{World}
use Rattle.xhci_machine.specs.Worked.{dropped_at, is_busy, tags_turned, turned_if, with_failure}

-- a round when it comes to this tag
abbrev pub come_to : ℕ → World × ℕ → Turning
come_to tag at = tags_turned tag (front_turned at.1 at.0)

-- The round comes to this tag with steps left for its data and its status. Where it is active then, it has its turn.
pub record HasItsTurn (at : World × ℕ) (tag : ℕ) : Type 0 where
  pub seen : World × ℕ
  pub comes : come_to tag at ≡ (seen, true)
  pub left : 2 ≤ seen.1
  pub turn : come_to (suc tag) at ≡ turned_if (is_marked seen.0.machine.device.active tag) tag seen

abbrev pub takes_step : Option Acted → Bool
takes_step None = false
takes_step (Some Off) = false
takes_step (Some Idle) = false
takes_step (Some Full) = false
takes_step (Some Emptied) = true
takes_step (Some Waits) = false
takes_step (Some HasWorked) = true

-- of the tag's data nothing can be done, nor of its status behind that
pub record HasNothing (w : World) (left tag : ℕ) : Type 0 where
  pub of_data : takes_step (data_of w tag).1 ≡ false
  pub of_status : takes_step (status_of (turned left w (data_of w tag)).0.0 tag).1 ≡ false

-- the round comes to this tag, and where it is active and busy nothing can be done for it
pub record IsLeftIdle (at : World × ℕ) (tag : ℕ) : Type 0 where
  pub seen : World
  pub comes : come_to tag at ≡ ((seen, at.1), true)
  pub nothing : is_marked seen.machine.device.active tag ≡ true → is_busy (dropped_at seen tag).machine tag ≡ true
      → HasNothing (dropped_at seen tag) at.1 tag

-- the same of a tag with a task
pub record IsTaskIdle (at : World × ℕ) (tag : ℕ) : Type 0 where
  pub seen : World
  pub comes : come_to tag at ≡ ((seen, at.1), true)
  pub nothing : has_task seen.machine.device.tasks tag ≡ true → is_busy (dropped_at seen tag).machine tag ≡ true
      → HasNothing (dropped_at seen tag) at.1 tag

-- memory wasn't there: a host system error
abbrev pub IsFailed : World → Type 0
IsFailed after = (last : World) × (after ≡ record last { machine = with_failure last.machine })

-- in the round that begins here nothing could be done for any active tag
abbrev pub AllAreLeftIdle : World × ℕ → Type 0
AllAreLeftIdle at = (tag : ℕ) → tag < 241 → IsLeftIdle at tag

-- nor for any task
abbrev pub AllTasksAreIdle : World × ℕ → Type 0
AllTasksAreIdle at = (tag : ℕ) → tag < 241 → IsTaskIdle at tag
