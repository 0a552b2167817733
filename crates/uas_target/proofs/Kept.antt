-- What a call leaves alone: the tasks of other tags, the commands to other units, and the number of tags. Cited by the laws.
use Rattle.std.proofs.Common.{◌≡◌, ℕ, zero, suc, Bool, true, false, not, ◌&&◌, ◌||◌, cond, List, length, map, Option, Some, None, IfSome, Result, Ok, Err}
use Rattle.std.proofs.Common.{refl, ap, sym, ◌∙◌}
use Rattle.std.specs.Prelude.{◌==◌, nat_le, is_some, slice_index}
use Rattle.std.proofs.lemmas.Bool.{eqb-false, or_parts}
use Rattle.std.proofs.lemmas.List.{get_or-set_other, length-map}
use Rattle.block_unit.specs.BlockMaps.{BlockMaps}
use Rattle.scsi_cmd.specs.Held.{held_under, with_held_under}
use Rattle.uas_iu.specs.Faults.{first_fault, identifier}
use Rattle.uas_target.specs.declared.Overlap.{Overlap}
use Rattle.uas_target.specs.declared.Took.{Took}
use Rattle.uas_target.specs.declared.Took.TheVariants.{Began}
use Rattle.uas_target.specs.Device.{Device, Receive, Give, Take, Send, aborted_on, dropped, executed, has_place, managed, on_its_tag, queried_on, received, received_unit}
use Rattle.uas_target.specs.Device.{received_unreadable, reset_on, task_of, with_code, with_response, with_units_and_task}
use Rattle.uas_target.specs.Fields.{addressed, tag_in, lun_in, cdb_in, function_in, task_tag_in}
use Rattle.uas_target.specs.Laws.{OtherTagsAreKept, OtherUnitsAreKept, TagsAreKept}
use Rattle.uas_target.specs.Tasks.{is_command_of, spared}
use Rattle.uas_target.proofs.Managed.{held_under-map, held_under-spared, spared-same}
use Rattle.uas_target.proofs.Sound.{length-with_held}

-- what one tag has now is nothing to another
pub held_under-other : {T : Type 0} (places : List (Option T)) (tag other : ℕ) (now : Option T) → (other ≡ tag → ⊥) →
    held_under (with_held_under places tag now) other ≡ held_under places other
held_under-other places zero other now apart = refl
held_under-other places (suc slot) zero now apart = refl
held_under-other places (suc slot) (suc other) now apart = get_or-set_other places slot other now None (λ same. apart (ap suc same))

-- RECEIVING

-- so it is of a device that is one of two
either : (P : Device → Type 0) (test : Bool) (first second : Device × Result Took Overlap) → (test ≡ true → P first.0) → P second.0 →
    P (cond test first second).0
either P true first second one two = one refl
either P false first second one two = two

on_its_tag_so : (P : Device → Type 0) (device after : Device) (tag : ℕ) → P device → P after → P (on_its_tag device tag after).0
on_its_tag_so P device after tag same so =
    either P (not (has_place device tag)) (dropped device) (cond (is_some (task_of device tag)) (device, Err (record {})) (after, Ok (Began tag))) (λ is. same)
    (either P (is_some (task_of device tag)) (device, Err (record {})) (after, Ok (Began tag)) (λ is. same) so)

-- received bytes leave the device, execute a command, do a task management function or answer 02h
pub received_so : (P : Device → Type 0) (device : Device) (bytes : List ℕ) → P device
    → P (with_units_and_task device (tag_in bytes) (executed device.units (lun_in bytes) (cdb_in bytes)))
    → ((identifier bytes == 5) ≡ true → P (with_code (tag_in bytes) (managed device (function_in bytes) (task_tag_in bytes) (lun_in bytes))))
    → P (with_response device (tag_in bytes) 2)
    → P (received device bytes).0
received_so P device bytes same run told unreadable =
    let tag = tag_in bytes in
    let commanded = with_units_and_task device tag (executed device.units (lun_in bytes) (cdb_in bytes)) in
    let after = with_code tag (managed device (function_in bytes) (task_tag_in bytes) (lun_in bytes)) in
    either P (is_some (first_fault bytes)) (received_unreadable device bytes tag) (received_unit device bytes tag)
    (λ fault.
    either P (nat_le 4 (length bytes) && has_place device tag && not (is_some (task_of device tag))) (with_response device tag 2, Ok (Began tag)) (dropped device)
    (λ is. unreadable) same)
    (either P (identifier bytes == 1) (on_its_tag device tag commanded) (cond (identifier bytes == 5) (on_its_tag device tag after) (dropped device))
    (λ is. on_its_tag_so P device commanded tag same run)
    (either P (identifier bytes == 5) (on_its_tag device tag after) (dropped device) (λ is. on_its_tag_so P device after tag same (told is)) same))

-- TASK MANAGEMENT

one_of_three : (P : Device → Type 0) (abort reset other : Device × ℕ) (is_abort is_reset : Bool) → P other.0 → (is_abort ≡ true → P abort.0) →
    (is_reset ≡ true → P reset.0) → P (cond is_abort abort (cond is_reset reset other)).0
one_of_three P abort reset other true is_reset same one two = one refl
one_of_three P abort reset other false true same one two = two refl
one_of_three P abort reset other false false same one two = same

-- a query and what isn't supported leave the device
queried_so : (P : Device → Type 0) (device : Device) (number tag : ℕ) (unit : Option BlockMaps) (is_query : Bool) → P device →
    P (cond is_query (queried_on device number tag unit) (device, 4)).0
queried_so P device number tag None true same = same
queried_so P device number tag (Some unit) true same = same
queried_so P device number tag unit false same = same

aborted_so : (P : Device → Type 0) (device : Device) (number tag : ℕ) (unit : Option BlockMaps) → P device →
    P (record device { tasks = with_held_under device.tasks tag (spared number (held_under device.tasks tag)) }) → P (aborted_on device number tag unit).0
aborted_so P device number tag None same so = same
aborted_so P device number tag (Some unit) same so = so

-- a reset leaves alone what is so of the tasks once the commands to its unit are gone, whatever the units are
reset_so : (P : Device → Type 0) (device : Device) (number : ℕ) (unit : Option BlockMaps) → P device →
    ((units : List BlockMaps) → P (record { units = units; tasks = map (spared number) device.tasks })) → P (reset_on device number unit).0
reset_so P device number None same so = same
reset_so P device number (Some unit) same so = so _

-- a task management function leaves the device, spares all but the command that an abort names, or all but those to a unit
managed_so : (P : Device → Type 0) (device : Device) (function named : ℕ) (lun : List ℕ) → P device →
    ((function == 1) ≡ true → P (record device { tasks = with_held_under device.tasks named (spared (slice_index lun 1) (held_under device.tasks named)) })) →
    ((function == 8) ≡ true → (units : List BlockMaps) → P (record { units = units; tasks = map (spared (slice_index lun 1)) device.tasks })) →
    P (managed device function named lun).0
managed_so P device function named lun same aborted reset =
    let number = slice_index lun 1 in
    let unit = addressed device.units lun in
    one_of_three P (aborted_on device number named unit) (reset_on device number unit)
    (cond (function == 128) (queried_on device number named unit) (device, 4)) (function == 1) (function == 8)
    (queried_so P device number named unit (function == 128) same)
    (λ is. aborted_so P device number named unit same (aborted is)) (λ is. reset_so P device number unit same (reset is))

-- a test that is false isn't true
not_both : (b : Bool) → b ≡ false → b ≡ true → ⊥
not_both true fails holds = let it : ◌≡◌ {A = Bool} true false = fails in cc
not_both false fails holds = let it : ◌≡◌ {A = Bool} false true = holds in cc

-- the tag that an abort names is another
not_named : (abort reset same : Bool) → (reset || (abort && same)) ≡ false → abort ≡ true → same ≡ false
not_named true reset same is holds = (or_parts reset same is).1
not_named false reset same is holds = let it : ◌≡◌ {A = Bool} false true = holds in cc

managed_reaches : (device : Device) (function named other : ℕ) (lun : List ℕ) → (function == 8 || (function == 1 && named == other)) ≡ false →
    task_of (managed device function named lun).0 other ≡ task_of device other
managed_reaches device function named other lun apart =
    managed_so (λ after. task_of after other ≡ task_of device other) device function named lun refl
    (λ abort.
    held_under-other device.tasks named other _
    (λ same. eqb-false named other (not_named (function == 1) (function == 8) (named == other) apart abort) (sym same)))
    (λ reset. absurd (not_both (function == 8) (or_parts (function == 8) (function == 1 && named == other) apart).0 reset))

managed_units : (device : Device) (function named other : ℕ) (lun : List ℕ) →
    IfSome (task_of device other) (λ task. is_command_of (slice_index lun 1) task ≡ false) →
    task_of (managed device function named lun).0 other ≡ task_of device other
managed_units device function named other lun spares =
    let number = slice_index lun 1 in
    managed_so (λ after. task_of after other ≡ task_of device other) device function named lun refl
    (λ abort. held_under-spared device.tasks number named other spares)
    (λ reset units. held_under-map (spared number) device.tasks other refl ∙ spared-same number (task_of device other) spares)

managed_tags : (device : Device) (function named : ℕ) (lun : List ℕ) → length (managed device function named lun).0.tasks ≡ length device.tasks
managed_tags device function named lun =
    managed_so (λ after. length after.tasks ≡ length device.tasks) device function named lun refl
    (λ abort. length-with_held device.tasks named _)
    (λ reset units. length-map device.tasks (spared (slice_index lun 1)))

-- THE LAWS

-- a unit that names this tag for an abort, or any for a reset, is a Task Management unit
not_management : (task_unit reached : Bool) → (task_unit && reached) ≡ false → task_unit ≡ true → reached ≡ false
not_management true reached is holds = is
not_management false reached is holds = let it : ◌≡◌ {A = Bool} false true = holds in cc

pub others_kept : OtherTagsAreKept
others_kept device (Receive bytes) other apart unreached =
    received_so (λ after. task_of after other ≡ task_of device other) device bytes refl (held_under-other device.tasks (tag_in bytes) other _ apart)
    (λ task_unit.
    held_under-other (managed device (function_in bytes) (task_tag_in bytes) (lun_in bytes)).0.tasks (tag_in bytes) other _ apart
    ∙ managed_reaches device (function_in bytes) (task_tag_in bytes) other (lun_in bytes)
    (not_management (identifier bytes == 5) (function_in bytes == 8 || (function_in bytes == 1 && task_tag_in bytes == other)) unreached task_unit))
    (held_under-other device.tasks (tag_in bytes) other _ apart)
others_kept device (Give tag) other apart unreached = held_under-other device.tasks tag other _ apart
others_kept device (Take tag bytes) other apart unreached = held_under-other device.tasks tag other _ apart
others_kept device (Send tag) other apart unreached = held_under-other device.tasks tag other _ apart

pub units_kept : OtherUnitsAreKept
units_kept device bytes other apart spares =
    received_so (λ after. task_of after other ≡ task_of device other) device bytes refl (held_under-other device.tasks (tag_in bytes) other _ apart)
    (λ task_unit.
    held_under-other (managed device (function_in bytes) (task_tag_in bytes) (lun_in bytes)).0.tasks (tag_in bytes) other _ apart
    ∙ managed_units device (function_in bytes) (task_tag_in bytes) other (lun_in bytes) spares)
    (held_under-other device.tasks (tag_in bytes) other _ apart)

pub tags_kept : TagsAreKept
tags_kept device (Receive bytes) =
    received_so (λ after. length after.tasks ≡ length device.tasks) device bytes refl (length-with_held device.tasks (tag_in bytes) _)
    (λ task_unit.
    length-with_held (managed device (function_in bytes) (task_tag_in bytes) (lun_in bytes)).0.tasks (tag_in bytes) _
    ∙ managed_tags device (function_in bytes) (task_tag_in bytes) (lun_in bytes))
    (length-with_held device.tasks (tag_in bytes) _)
tags_kept device (Give tag) = length-with_held device.tasks tag _
tags_kept device (Take tag bytes) = length-with_held device.tasks tag _
tags_kept device (Send tag) = length-with_held device.tasks tag _

pub ruleset kept = (others_kept, units_kept, tags_kept)
