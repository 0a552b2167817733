-- What the next request is, by the facts of its answer.
use Rattle.std.proofs.Common.{◌≡◌, ℕ, zero, suc, ◌+◌, ◌<◌, ◌≤◌, true, false, length, Option, Some, None, IfSome, sym, ap, ap₂, ◌∙◌, arith, inl, inr}
use Rattle.std.specs.Prelude.{IfNone}
use Rattle.std.proofs.lemmas.Bool.{and_parts, cases_lt, false≢true}
use Rattle.std.proofs.lemmas.List.{get_or_past}
use Rattle.c_common.proofs.Least.{find-least, find-none}
use Rattle.guest_tasks.specs.Active.{asks_on, is_asking}
use Rattle.guest_tasks.specs.declared.GuestTasks.{GuestTasks}
use Rattle.uas_tasks.specs.declared.Next.{Next}
use Rattle.uas_tasks.specs.Machine.{Machine as Tasks, next_of, no_slot, slot_of}
use Rattle.uas_tasks.specs.Slots.{SlotState, slot_wants}
use Rattle.uas_tasks.proofs.Keeping.{wanted-free}
use Rattle.xhci_machine.specs.declared.Machine.{Machine}
use Rattle.xhci_machine.specs.Bulk.{as_asked}
use Rattle.xhci_machine.specs.Bus.{is_bulk}
use Rattle.uas_xhci_c.specs.XhciCall.{first_asking, next_request, with_tasks}

-- a tag that asks has a slot
has_slot : (device : GuestTasks) (tag : ℕ) → 1 ≤ tag → asks_on device tag ≡ true → tag < 1 + length device.tasks.slots
has_slot device zero least asks = absurd (omega (arith, least))
has_slot device (suc place) least asks = elim (cases_lt place (length device.tasks.slots)) [
  | inl there ↦ omega (arith, there)
  | inr past ↦
      let none : slot_of device.tasks (suc place) ≡ no_slot = get_or_past device.tasks.slots place no_slot past in
      let wants = wanted-free (λ w. is_asking w ≡ true) false≢true device.tasks (suc place) (and_parts _ _ asks).1 in
      absurd (false≢true (sym (ap (λ (slot : SlotState). is_asking (slot_wants slot)) none) ∙ wants))
]

pub request-told : (old new : Machine) (result : Option Next)
    → IfSome result (λ next. (tag : ℕ) × (1 ≤ tag) × (asks_on old.device tag ≡ true)
    × ((other : ℕ) → 1 ≤ other → other < tag → asks_on old.device other ≡ false) × ((new.device.tasks, next) ≡ as_asked (is_bulk old) (next_of old.device.tasks tag)))
    → IfNone result ((new ≡ old) × ((other : ℕ) → 1 ≤ other → asks_on old.device other ≡ false))
    → new ≡ with_tasks old new.device.tasks → (new, result) ≡ next_request old
request-told old new None some none rest =
    let quiet : first_asking old.device ≡ None = find-none (asks_on old.device) (length old.device.tasks.slots) 1 none.1 in
    rw quiet (ap (λ (m : Machine). (m, None)) none.0)
request-told old new (Some next) some none rest =
    let first : first_asking old.device ≡ Some some.0 =
    find-least (asks_on old.device) (length old.device.tasks.slots) 1 some.0 some.1 (has_slot old.device some.0 some.1 some.2) some.2 some.3 in
    let tasks : new ≡ with_tasks old (next_of old.device.tasks some.0).0 =
    rest ∙ ap (λ (p : Tasks × Next). with_tasks old p.0) some.4 in
    rw first (ap₂ (λ (m : Machine) (n : Next). (m, Some n)) tasks (ap (λ (p : Tasks × Next). p.1) some.4))
