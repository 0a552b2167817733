-- Of which tags a request is to be asked, by the next active tag.
use Rattle.std.proofs.Common.{◌≡◌, ℕ, ◌+◌, ◌<◌, ◌≤◌, false, arith, inl, inr}
use Rattle.std.proofs.lemmas.Bool.{and_left, and_right, cases_lt}
use Rattle.marks.specs.Marks.{is_marked}
use Rattle.uas_tasks.specs.Machine.{wanted}
use Rattle.guest_tasks.specs.declared.GuestTasks.{GuestTasks}
use Rattle.guest_tasks.specs.Active.{asks_on, is_asking}

-- up to the next active tag
pub up_to : (device : GuestTasks) (from tag active : ℕ) →
    ((other : ℕ) → from ≤ other → other < tag → asks_on device other ≡ false) →
    ((other : ℕ) → tag ≤ other → other < active → is_marked device.active other ≡ false) →
    (other : ℕ) → from ≤ other → other < active → asks_on device other ≡ false
up_to device from tag active before rest other low high = elim (cases_lt other tag) [
  | inl below ↦ before other low below
  | inr past ↦ and_left _ _ (rest other past high)
]

-- past the next active tag, whose request isn't to be asked
pub past : (device : GuestTasks) (from tag active : ℕ) →
    ((other : ℕ) → from ≤ other → other < tag → asks_on device other ≡ false) →
    ((other : ℕ) → tag ≤ other → other < active → is_marked device.active other ≡ false) →
    is_asking (wanted device.tasks active) ≡ false →
    (other : ℕ) → from ≤ other → other < active + 1 → asks_on device other ≡ false
past device from tag active before rest quiet other low high = elim (cases_lt other active) [
  | inl below ↦ up_to device from tag active before rest other low below
  | inr at ↦
      let here : other ≡ active = omega (arith, at, high) in
      rw here (and_right _ _ quiet)
]
