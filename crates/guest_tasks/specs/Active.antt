-- Which tags are active, what each call makes of that, and which of them have a request that is to be asked.
use Rattle.std.specs.Prelude.{◌≡◌, ℕ, ◌<◌, nat_lt, Bool, true, false, ◌&&◌, if◌then◌else◌, List, length}
use Rattle.marks.specs.Marks.{is_marked, with_mark}
use Rattle.guest_tags.specs.declared.device.Received.{Received}
use Rattle.guest_tags.specs.declared.device.Received.TheVariants.{Began, Overlap, Dropped}
use Rattle.uas_tasks.specs.declared.Wants.{Wants}
use Rattle.uas_tasks.specs.declared.Wants.TheVariants.{Absent, Asks, Waits, Gives, Takes, Ends}
use Rattle.uas_tasks.specs.Machine.{has_task, wanted}
use Rattle.guest_tasks.specs.declared.GuestTasks.{GuestTasks}

-- no tag is active
abbrev pub IsIdle : GuestTasks → Type 0
IsIdle device = (tag : ℕ) → is_marked device.active tag ≡ false

-- each tag with a task is active, and there is a mark for each
pub record TasksAreActive (device : GuestTasks) : Type 0 where
  pub room : length device.active ≡ 4
  pub active : (tag : ℕ) → tag < 256 → has_task device.tasks tag ≡ true → is_marked device.active tag ≡ true

-- a tag is active from now on
abbrev pub with_active : List ℕ → ℕ → List ℕ
with_active active tag = if nat_lt tag 256 then with_mark active tag true else active

-- the tag is active on which an information unit came
abbrev pub active_after : List ℕ → Received → List ℕ
active_after active (Began tag) = with_active active tag
active_after active (Overlap tag) = with_active active tag
active_after active Dropped = active

abbrev pub is_absent : Wants → Bool
is_absent Absent = true
is_absent Asks = false
is_absent Waits = false
is_absent (Gives count) = false
is_absent (Takes count) = false
is_absent Ends = false

-- a tag that has no task isn't active any more
abbrev pub rested : GuestTasks → ℕ → GuestTasks
rested device tag =
    if nat_lt tag 256 && is_absent (wanted device.tasks tag) then record device { active = with_mark device.active tag false } else device

-- whether a tag is active
abbrev pub is_active : GuestTasks → ℕ → Bool
is_active device tag = nat_lt tag 256 && is_marked device.active tag

-- a tag is active from now on, or isn't any more; there is a mark for each below 256
abbrev pub set_active : GuestTasks → ℕ → Bool → GuestTasks
set_active device tag active = if nat_lt tag 256 then record device { active = with_mark device.active tag active } else device

abbrev pub is_asking : Wants → Bool
is_asking Absent = false
is_asking Asks = true
is_asking Waits = false
is_asking (Gives count) = false
is_asking (Takes count) = false
is_asking Ends = false

-- an active tag's request is to be asked
abbrev pub asks_on : GuestTasks → ℕ → Bool
asks_on device tag = is_marked device.active tag && is_asking (wanted device.tasks tag)
