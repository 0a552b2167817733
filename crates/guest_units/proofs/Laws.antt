-- The laws.
use Rattle.std.proofs.Common.{◌≡◌, ℕ, ◌+◌, ◌%◌, ◌^◌, ◌/◌, ◌==◌, true, false, not, List, [], ◌∷◌, ◌++◌, length, refl, sym, subst}
use Rattle.std.specs.Prelude.{nat_le, ◌||◌}
use Rattle.std.specs.List.{AllByRecursion, filter}
use Rattle.uas_tasks.specs.Machine.{Machine as Tasks}
use Rattle.units_apart.specs.Apart.{Alike, IsOwned, KeepsTo, Owner, is_of}
use Rattle.units_apart.specs.Calls.{Call, PowerOn, called}
use Rattle.units_apart.specs.Runs.{after}
use Rattle.units_apart.proofs.Runs.{IsGood, stays_good, units_apart}
use Rattle.xhci_registers.specs.declared.Effect.{Effect}
use Rattle.xhci_registers.specs.declared.Effect.TheVariants.{Nothing, Reset, PortReset, Halted, CommandRingStopped, CommandDoorbell, Doorbell, EventRing, Dequeued}
use Rattle.xhci_registers.specs.declared.Width.{Width}
use Rattle.xhci_registers.specs.declared.Width.TheVariants.{One, Two, Four, Eight}
use Rattle.xhci_registers.specs.Writes.{word_written}
use Rattle.xhci_machine.specs.declared.Machine.{Machine}
use Rattle.xhci_machine.specs.Effects.{bytes_done, effected, word_done}
use Rattle.xhci_machine.proofs.Device.{either}
use Rattle.guest_units.specs.Laws.{PlugsAreResets, RunsAreCalls, UnitsStayApart, WritesAreResets}
use Rattle.guest_units.specs.Turns.{IsPowerOn, tasks_of}
use Rattle.guest_units.proofs.Rounds.{work_made}
use Rattle.guest_units.proofs.Turns.{joined}

pub runs_are_calls : RunsAreCalls
runs_are_calls = work_made

-- RESETS
abbrev Resets : Tasks → Tasks → Type 0
Resets start end = (calls : List Call) × AllByRecursion IsPowerOn calls × (end ≡ after called start calls)

none : (start : Tasks) → Resets start start
none start = ([], tt {0}, refl)

once : (start : Tasks) → Resets start (called start PowerOn)
once start = (PowerOn ∷ [], (tt {0}, tt {0}), refl)

all_append : (first rest : List Call) → AllByRecursion IsPowerOn first → AllByRecursion IsPowerOn rest → AllByRecursion IsPowerOn (first ++ rest)
all_append [] rest all too = too
all_append (call ∷ first) rest all too = (all.0, all_append first rest all.1 too)

effected_made : (effect : Effect) (m : Machine) → Resets m.device.tasks (effected effect m).device.tasks
effected_made Nothing m = none m.device.tasks
effected_made Reset m = once m.device.tasks
effected_made PortReset m = once m.device.tasks
effected_made Halted m = none m.device.tasks
effected_made CommandRingStopped m = none m.device.tasks
effected_made CommandDoorbell m = none m.device.tasks
effected_made (Doorbell target stream) m =
    either (λ (x : Machine). Resets m.device.tasks x.device.tasks) (target == 1) _ _ (none m.device.tasks) (none m.device.tasks)
effected_made EventRing m = none m.device.tasks
effected_made (Dequeued clears) m = none m.device.tasks

word_made : (m : Machine) (offset value : ℕ) → Resets m.device.tasks (word_done m offset value).device.tasks
unfolding word_done
word_made m offset value =
    effected_made (word_written m.registers offset value).1 (record m { registers = (word_written m.registers offset value).0 })

bytes_made : (m : Machine) (offset : ℕ) (width : Width) (value : ℕ) → Resets m.device.tasks (bytes_done m offset width value).device.tasks
bytes_made m offset One value = none m.device.tasks
bytes_made m offset Two value = none m.device.tasks
bytes_made m offset Four value = word_made m offset (value % 2 ^ 32)
bytes_made m offset Eight value =
    let low : Machine = word_done m offset (value % 2 ^ 32) in
    let one = word_made m offset (value % 2 ^ 32) in
    let two = word_made low (offset + 4) (value / 2 ^ 32) in (
      one.0 ++ two.0,
      all_append one.0 two.0 one.1 two.1,
      joined m.device.tasks low.device.tasks (word_done low (offset + 4) (value / 2 ^ 32)).device.tasks one.0 two.0 one.2 two.2,
    )

pub writes_are_resets : WritesAreResets
writes_are_resets m offset width value =
    either (λ (x : Machine). Resets m.device.tasks x.device.tasks) (not (offset % 4 == 0) || nat_le 4096 offset) m (bytes_done m offset width value)
    (none m.device.tasks) (bytes_made m offset width value)

pub plugs_are_resets : PlugsAreResets
plugs_are_resets m true = ([], record { one = tt {0}; is = refl })
plugs_are_resets m false = (PowerOn ∷ [], record { one = tt {0}; is = refl })

-- LOGICAL UNITS
good_after : (owner : Owner) (many : ℕ) (start : Tasks) (calls : List Call) → IsGood owner many start → AllByRecursion (KeepsTo owner many) calls
    → IsGood owner many (after called start calls)
good_after owner many start [] good keeps = good
good_after owner many start (call ∷ calls) good keeps =
    good_after owner many (called start call) calls (stays_good owner many start call good keeps.0) keeps.1

pub units_stay_apart : UnitsStayApart
units_stay_apart owner user budget w now worked owned rounds =
    let made = work_made budget w now worked rounds in
    let start : Tasks = tasks_of w in (
      made.0,
      made.1,
      λ keeps.
          let good : IsGood owner (length start.units) (after called start made.0) =
          good_after owner (length start.units) start made.0 (record { owned = owned; units = refl }) keeps in (
            subst (IsOwned owner) (sym made.2) good.owned,
            subst (λ m. Alike owner user m (after called start (filter (is_of owner user) made.0))) (sym made.2)
                (units_apart owner user start made.0 owned keeps).1,
          ),
    )
