-- Where nothing is done soon, and what comes of a request that is. Cited by the proofs on commands and on taking.
use Rattle.std.proofs.Common.{◌≡◌, ℕ, ◌-◌, ◌<◌, false, List, length, take, Some, None}
use Rattle.std.proofs.Common.{refl, arith, ap, ap₂, sym, subst, ◌∙◌}
use Rattle.std.specs.Prelude.{slice_get, slice_set}
use Rattle.block_unit.specs.BlockMaps.{BlockMaps}
use Rattle.uas_target.specs.Device.{Device}
use Rattle.uas_target.specs.Soundness.{counts_of}
use Rattle.uas_tasks.specs.declared.LogicalUnit.{LogicalUnit}
use Rattle.uas_tasks.specs.declared.Outcome.{Outcome}
use Rattle.uas_tasks.specs.declared.Wants.TheVariants.{Asks}
use Rattle.uas_tasks.specs.declared.Next.TheVariants.{Asks as NextAsks}
use Rattle.uas_tasks.specs.declared.slot.Out.{Out}
use Rattle.uas_tasks.specs.Machine.{answer_fault, no_slot, slot_of, with_slot_under}
use Rattle.uas_tasks.specs.Slots.{SlotState, answered_slot, asked_slot, slot_wants}
use Rattle.uas_tasks.specs.Stale.{unit_in}
use Rattle.task_laws.specs.Backed.{Backed, done_at_once, done_soon, is_reading}
use Rattle.task_laws.specs.Same.{Same}
use Rattle.task_laws.proofs.Cases.{SlotCases, slot_cases}
use Rattle.task_laws.proofs.Devices.{backed_with}
use Rattle.task_laws.proofs.Free.{IsFree, asks_fresh, written_free}
use Rattle.task_laws.proofs.Lists.{IsThere, length-with_slot_under, slot_so, slot_under-with, with_slot_under-twice}
use Rattle.task_laws.proofs.Settling.{IsQuiet, done_soon-asked, done_soon-quiet, settled_there, absent_asks, ends_asks, gives_asks, takes_asks}

-- NOTHING IS DONE SOON WHERE BOTH ARE THE SAME

quiet_cases : (counts : List ℕ) (tag : ℕ) → SlotCases counts (λ task slot. IsQuiet tag slot)
quiet_cases counts tag = record {
  none = λ slot same wants. absurd (absent_asks wants);
  ended = λ slot unit answer same wants. absurd (ends_asks wants);
  gives = λ slot unit op bytes work given same sound wants. absurd (gives_asks (length slot.given - 0) wants);
  reads = λ slot number op chunk lba count work same sound wants. refl;
  writes = λ slot number op chunk lba count through work same sound wants. absurd (takes_asks _ wants);
}

none_quiet : (tag : ℕ) → IsQuiet tag no_slot
none_quiet tag wants = absurd (absent_asks wants)

pub done_soon-same : (device : Device) (backed : Backed) (tag : ℕ) → Same device backed → done_soon backed tag ≡ backed
done_soon-same device backed tag same =
    done_soon-quiet backed tag
    (slot_so (λ task slot. IsQuiet tag slot) (counts_of device.units) device.tasks backed.machine.slots tag (none_quiet tag)
    (slot_cases (counts_of device.units) (λ task slot. IsQuiet tag slot) (quiet_cases (counts_of device.units) tag)) same.tasks)

-- so both are the same as soon as they are
pub soon_too : (device : Device) (backed : Backed) (tag : ℕ) → Same device backed → Same device (done_soon backed tag)
soon_too device backed tag same = subst (Same device) (sym (done_soon-same device backed tag same)) same

-- A REQUEST IS DONE SOON

-- the device without blocks once a logical unit and a tag's slot were written
abbrev pub backed_at : Backed → ℕ → LogicalUnit → ℕ → SlotState → Backed
backed_at backed number unit tag slot = record {
  machine = record {
    units = slice_set backed.machine.units number unit;
    set = backed.machine.set;
    slots = with_slot_under backed.machine.slots tag slot;
  };
  maps = backed.maps;
}

pub soon_done : (backed : Backed) (number : ℕ) (unit : LogicalUnit) (tag : ℕ) (slot : SlotState) (out : Out) (maps : BlockMaps)
    (after : BlockMaps × Outcome × List ℕ) → IsFree backed.machine → IsThere tag backed.machine.slots → tag < 256 → slot_wants slot ≡ Asks →
    (asked_slot slot).out ≡ Some out →
    is_reading (NextAsks 0 out.request) ≡ false → unit_in out.request ≡ number → slice_get backed.maps number ≡ Some maps →
    done_at_once maps out.request (take out.len slot.bytes) ≡ after → answer_fault backed.machine.set (asked_slot slot) out after.1 (length after.2) ≡ None →
    done_soon (backed_at backed number unit tag slot) tag ≡ backed_with backed number unit after.0 tag (answered_slot (asked_slot slot) out after.1 after.2)
soon_done backed number unit tag slot out maps after free here small wants asks other on at done right =
    let first : Backed = backed_at backed number unit tag slot in
    let now : SlotState = answered_slot (asked_slot slot) out after.1 after.2 in
    let is : slot_of first.machine tag ≡ slot = slot_under-with backed.machine.slots tag slot here in
    let long : length (with_slot_under backed.machine.slots tag slot) ≡ length backed.machine.slots = length-with_slot_under backed.machine.slots tag slot in
    let there : IsThere tag first.machine.slots = (here.0, omega (arith, here.1, long)) in
    let by_number : ℕ → List SlotState → Backed = λ n slots. record {
      machine = record { units = slice_set backed.machine.units number unit; set = backed.machine.set; slots = slots };
      maps = slice_set backed.maps n after.0;
    } in
    let free_first : IsFree first.machine = written_free backed.machine tag slot free (asks_fresh slot wants) in
    done_soon-asked first tag slot out free_first is wants asks other
    ∙ settled_there first tag slot out maps after free_first there small is wants asks (ap (slice_get backed.maps) on ∙ at) done right
    ∙ ap₂ by_number on (with_slot_under-twice backed.machine.slots tag slot now)
