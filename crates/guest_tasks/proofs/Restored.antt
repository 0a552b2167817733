-- The marks of a device whose tasks were restored. Cited by its loop.
use Rattle.std.proofs.Common.{◌≡◌, ℕ, ◌+◌, ◌<◌, Bool, false, List, get_or, arith, inl, inr, subst, sym, ◌∙◌}
use Rattle.std.proofs.lemmas.Bool.{cases_eq}
use Rattle.marks.specs.Marks.{is_marked}
use Rattle.uas_tasks.specs.Machine.{Machine}
use Rattle.guest_tasks.specs.declared.GuestTasks.{GuestTasks}

-- the tags below one have the marks that they are to have
pub record MarkedBelow (tag : ℕ) (tasks : Machine) (marks : List Bool) (device : GuestTasks) : Type 0 where
  pub tasks_are : device.tasks ≡ tasks
  pub below : (other : ℕ) → other < tag → is_marked device.active other ≡ get_or marks other false

pub marked_more : (tag : ℕ) (tasks : Machine) (marks : List Bool) (before after : GuestTasks) → MarkedBelow tag tasks marks before → after.tasks ≡ before.tasks →
    is_marked after.active tag ≡ get_or marks tag false →
    ((other : ℕ) → (other ≡ tag → ⊥) → is_marked after.active other ≡ is_marked before.active other) → MarkedBelow (tag + 1) tasks marks after
marked_more tag tasks marks before after was same here others = record {
  tasks_are = same ∙ was.tasks_are;
  below = below;
}
  where
    below : (other : ℕ) → other < tag + 1 → is_marked after.active other ≡ get_or marks other false
    below other less =
        elim (cases_eq other tag) [
          | inl it ↦
              let P : ℕ → Type 0 = λ t. is_marked after.active t ≡ get_or marks t false in
              subst P (sym it) here
          | inr apart ↦ others other apart ∙ was.below other (omega (arith, apart))
        ]
