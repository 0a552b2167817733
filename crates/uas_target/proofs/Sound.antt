-- Tasks stay sound. Cited by the answers of the receiver, of the chunks and of every call of a target.
use Rattle.std.proofs.Common.{◌≡◌, ℕ, zero, suc, ◌<◌, Bool, true, false, ◌&&◌, cond, List, [], ◌∷◌, ◌++◌, length, take, drop, replicate, length-set, ◌≤◌, Option}
use Rattle.std.proofs.Common.{Some, None, IfSome, Result, Ok, Err, refl, arith, ap, sym, ◌∙◌, subst}
use Rattle.std.specs.Prelude.{◌==◌, slice_get, slice_index_or, IsOk}
use Rattle.std.proofs.lemmas.Bool.{eqb-false}
use Rattle.std.proofs.lemmas.List.{length-map, length-replicate}
use Rattle.std.proofs.Math.Seq.{take-append_seam}
use Rattle.std.proofs.lemmas.Option.{slice_get-get_or}
use Rattle.block_unit.specs.BlockMaps.{BlockMaps, with_attention}
use Rattle.scsi_cmd.specs.declared.Op.{Op}
use Rattle.scsi_cmd.specs.declared.Sense.{Sense}
use Rattle.scsi_cmd.specs.declared.Work.{Work}
use Rattle.scsi_cmd.specs.Held.{AllHeld, held_under, with_held_under}
use Rattle.scsi_cmd.specs.Laws.{AllHeld-at, AllHeld-held, AllHeld-set, asked_in_range, checked-none, work_bytes-work_without_unit, work_without_unit-asked}
use Rattle.scsi_cmd.specs.Meaning.{asked, checked, op_fault}
use Rattle.scsi_cmd.specs.Op.{moved_bytes}
use Rattle.scsi_cmd.specs.Sense.{reset_occurred}
use Rattle.scsi_cmd.specs.Work.{asked_without_unit, cdb_reports_attention, work_asked, work_asked_without_unit, work_bytes, work_of, work_without_unit}
use Rattle.device_server.specs.declared.Answer.TheVariants.{Good, Check}
use Rattle.device_server.specs.declared.Progress.{Progress}
use Rattle.device_server.specs.declared.Progress.TheVariants.{Moving as MovingOn, Ended as EndedWith}
use Rattle.device_server.specs.Laws.{HasChunk-after, HasChunk-begun}
use Rattle.device_server.specs.Server.{HasChunk, begun, progress_after, progress_asked}
use Rattle.uas_target.specs.declared.DeviceTask.{DeviceTask}
use Rattle.uas_target.specs.declared.DeviceTask.TheVariants.{Moving, Ended}
use Rattle.uas_target.specs.Moved.{HasLeft, gone_on}
use Rattle.uas_target.specs.Soundness.{IsSoundTask, IsSoundDevice, IsOn, counts_of}
use Rattle.uas_target.specs.Tasks.{task_in, begun_by}
use Rattle.uas_profile.specs.declared.TheConstants.{MAX_CLIENTS, STREAMS}
use Rattle.uas_target.proofs.Counts.{slice_get-counts_of}

-- what a tag has is sound
pub AllHeld-under : {T : Type 0} (P : T → Type 0) (places : List (Option T)) (tag : ℕ) (held : T) → AllHeld P places →
    held_under places tag ≡ Some held → P held
AllHeld-under {T} P places zero held all is = let no : ◌≡◌ {A = Option T} None (Some held) = is in cc
AllHeld-under P places (suc slot) held all is = AllHeld-held P places slot held all is

-- a tag may have what is so
pub AllHeld-with : {T : Type 0} (P : T → Type 0) (places : List (Option T)) (tag : ℕ) (now : Option T) → AllHeld P places → IfSome now P →
    AllHeld P (with_held_under places tag now)
AllHeld-with P places zero now all so = all
AllHeld-with P places (suc slot) now all so = AllHeld-set P places slot now all so

pub length-with_held : {T : Type 0} (places : List (Option T)) (tag : ℕ) (now : Option T) → length (with_held_under places tag now) ≡ length places
length-with_held places zero now = refl
length-with_held places (suc slot) now = length-set places slot now

-- A COMMAND THAT BEGINS

-- a command that is at this on a unit of so many blocks is sound
pub HasChunk-sound : (counts : List ℕ) (number blocks : ℕ) (op : Op) (progress : Progress) → slice_get counts number ≡ Some blocks →
    HasChunk blocks op progress →
    IfSome (task_in (Some number) (Ok op) progress) (IsSoundTask counts)
HasChunk-sound counts number blocks op (MovingOn chunk) is has = rw is (has.0, has.1)
HasChunk-sound counts number blocks op (EndedWith answer) is has = tt

begun_asked_sound : (counts : List ℕ) (number : ℕ) (unit : BlockMaps) (reports : Bool) (asks : Result Op Sense) → slice_get counts number ≡ Some unit.count →
    ((op : Op) → asks ≡ Ok op → op_fault op unit.count ≡ None) →
    IfSome (task_in (Some number) asks (begun unit reports (work_asked unit.count asks)).1) (IsSoundTask counts)
begun_asked_sound counts number unit reports (Err sense) is in_range =
    elim (reports && unit.attention) as (λ b.
    IfSome (task_in (Some number) (Err sense)
    (cond {A = BlockMaps × Progress} b (with_attention unit false, EndedWith (Check reset_occurred)) (unit, EndedWith (Check sense))).1) (IsSoundTask counts)) [
      | true ↦ tt
      | false ↦ tt
    ]
begun_asked_sound counts number unit reports (Ok op) is in_range =
    let asked : checked op unit.count ≡ Ok op = checked-none op unit.count (in_range op refl) in
    let P : Result Op Sense → Type 0 = λ asks. HasChunk unit.count op (begun unit reports (work_asked unit.count asks)).1 in
    HasChunk-sound counts number unit.count op (begun unit reports (work_asked unit.count (Ok op))).1 is (subst P asked (HasChunk-begun unit reports op))

pub begun_sound : (counts : List ℕ) (number : ℕ) (unit : BlockMaps) (cdb : List ℕ) → slice_get counts number ≡ Some unit.count →
    IfSome (task_in (Some number) (asked cdb unit.count) (begun_by unit cdb (asked cdb unit.count)).1) (IsSoundTask counts)
begun_sound counts number unit cdb is =
    begun_asked_sound counts number unit (cdb_reports_attention cdb) (asked cdb unit.count) is (asked_in_range cdb unit.count)

-- without a unit
missing_work_sound : (counts : List ℕ) (op : Op) (works : Result Work Sense) → works ≡ work_without_unit op → IsOk (work_without_unit op) →
    IfSome (task_in None (Ok op) (progress_asked works)) (IsSoundTask counts)
missing_work_sound counts op (Err sense) is on = tt
missing_work_sound counts op (Ok work) is on =
    let all : work_bytes work ≡ moved_bytes op = work_bytes-work_without_unit op work (sym is) in
    elim (work_bytes work == 0) as (λ b. (work_bytes work == 0) ≡ b → IfSome (task_in None (Ok op) (cond b (EndedWith Good) (MovingOn 0))) (IsSoundTask counts)) [
      | true ↦ λ empty. tt
      | false ↦ λ some. let apart : work_bytes work ≡ 0 → ⊥ = eqb-false (work_bytes work) 0 some in (omega arith, on)
    ] refl

missing_asked_sound : (counts : List ℕ) (asks : Result Op Sense) → ((op : Op) → asks ≡ Ok op → IsOk (work_without_unit op)) →
    IfSome (task_in None asks (progress_asked (work_asked_without_unit asks))) (IsSoundTask counts)
missing_asked_sound counts (Err sense) on = tt
missing_asked_sound counts (Ok op) on = missing_work_sound counts op (work_without_unit op) refl (on op refl)

pub missing_sound : (counts cdb : List ℕ) →
    IfSome (task_in None (asked_without_unit cdb) (progress_asked (work_asked_without_unit (asked_without_unit cdb)))) (IsSoundTask counts)
missing_sound counts cdb = missing_asked_sound counts (asked_without_unit cdb) (work_without_unit-asked cdb)

-- WHERE A TASK STANDS

-- a task is on a unit that is there
pub on_within : (units : List BlockMaps) (number : ℕ) (op : Op) → IsOn (counts_of units) op (Some number) → number < length units
on_within [] number op on = absurd on
on_within (unit ∷ units) zero op on = omega arith
on_within (unit ∷ units) (suc number) op on = let within = on_within units number op on in omega arith

-- which can execute it
pub on_in_range : (units : List BlockMaps) (number : ℕ) (op : Op) (read : BlockMaps) → IsOn (counts_of units) op (Some number) →
    op_fault op (slice_index_or units number read).count ≡ None
on_in_range [] number op read on = absurd on
on_in_range (unit ∷ units) zero op read on = on
on_in_range (unit ∷ units) (suc number) op read on = on_in_range units number op read on

-- a task is sound after its next chunk
HasChunk-gone_on : (counts : List ℕ) (number blocks chunk : ℕ) (op : Op) (progress : Progress) → slice_get counts number ≡ Some blocks →
    HasChunk blocks op progress → IsSoundTask counts (gone_on (Moving (Some number) op chunk) progress)
HasChunk-gone_on counts number blocks chunk op (MovingOn next) is has = rw is (has.0, has.1)
HasChunk-gone_on counts number blocks chunk op (EndedWith answer) is has = tt

pub left_sound : (units : List BlockMaps) (number chunk : ℕ) (op : Op) (read : BlockMaps) → IsOn (counts_of units) op (Some number) →
    IsSoundTask (counts_of units)
    (gone_on (Moving (Some number) op chunk)
    (progress_after (slice_index_or units number read) chunk (work_of op (slice_index_or units number read).count)))
left_sound units number chunk op read on =
    let unit = slice_index_or units number read in
    HasChunk-gone_on (counts_of units) number unit.count chunk op (progress_after unit chunk (work_of op unit.count))
    (slice_get-counts_of units number unit (slice_get-get_or units number read (on_within units number op on)))
    (HasChunk-after unit chunk op unit.count (on_in_range units number op read on))

-- THE DEVICE

length-counts_of : (units : List BlockMaps) → length (counts_of units) ≡ length units
length-counts_of units = simp length-map

-- the device stays sound where the units keep their sizes and a tag gets a sound task
pub IsSoundDevice-step : (units after : List BlockMaps) (held : List (Option DeviceTask)) (tag : ℕ) (now : Option DeviceTask) → IsSoundDevice units held →
    counts_of after ≡ counts_of units → IfSome now (IsSoundTask (counts_of after)) → IsSoundDevice after (with_held_under held tag now)
IsSoundDevice-step units after held tag now sound same so =
    let many : length after ≡ length units = sym (length-counts_of after) ∙ ap length same ∙ length-counts_of units in
    record {
      some_unit = omega (arith, many, sound.some_unit);
      most_units = omega (arith, many, sound.most_units);
      places = rw (length-with_held held tag now) sound.places;
      tasks = AllHeld-with (IsSoundTask (counts_of after)) held tag now (rw same sound.tasks) so;
    }

-- units of the same sizes, written back over the others
pub written_units : (len : ℕ) (items now : List BlockMaps) → len ≡ length items → counts_of now ≡ counts_of items →
    take len (now ++ drop (length now) items) ≡ now
written_units len items now long same =
    let many : length now ≡ length items = sym (length-counts_of now) ∙ ap length same ∙ length-counts_of items in
    let whole : len ≡ length now = long ∙ sym many in
    rw whole (take-append_seam now (drop (length now) items))

-- whatever a tag has is sound
pub held_under-sound : (units : List BlockMaps) (held : List (Option DeviceTask)) (tag : ℕ) → IsSoundDevice units held →
    IfSome (held_under held tag) (IsSoundTask (counts_of units))
held_under-sound units held zero sound = tt
held_under-sound units held (suc slot) sound = AllHeld-at (IsSoundTask (counts_of units)) held slot sound.tasks

-- and has bytes left, where it moves data
sound-left : (counts : List ℕ) (task : DeviceTask) → IsSoundTask counts task → HasLeft task
sound-left counts (Moving unit op chunk) sound = sound.0
sound-left counts (Ended unit answer) sound = tt

pub held_left : (units : List BlockMaps) (held : List (Option DeviceTask)) (tag : ℕ) (task : DeviceTask) → IsSoundDevice units held →
    held_under held tag ≡ Some task → HasLeft task
held_left units held tag task sound is =
    sound-left (counts_of units) task (AllHeld-under (IsSoundTask (counts_of units)) held tag task sound.tasks is)

-- NO TASK YET

AllHeld-none : {T : Type 0} (P : T → Type 0) (many : ℕ) → AllHeld P (replicate many None)
AllHeld-none P zero = tt
AllHeld-none P (suc many) = (tt, AllHeld-none P many)

-- a device of so many tags opens sound
pub opening_sound : (units : List BlockMaps) (len tags : ℕ) → len ≡ length units → 1 ≤ len → len ≤ MAX_CLIENTS → tags ≤ STREAMS →
    IsSoundDevice units (replicate tags None)
opening_sound units len tags long some most few = record {
  some_unit = rw (← long) some;
  most_units = rw (← long) most;
  places = rw (length-replicate {A = Option DeviceTask} tags None) few;
  tasks = AllHeld-none (IsSoundTask (counts_of units)) tags;
}

-- and is sound again once it was reset
pub reset_sound : (units after : List BlockMaps) (held : List (Option DeviceTask)) → IsSoundDevice units held → counts_of after ≡ counts_of units →
    IsSoundDevice after (replicate (length held) None)
reset_sound units after held sound same =
    let kept : IsSoundDevice after held = IsSoundDevice-step units after held 0 None sound same tt in
    opening_sound after (length after) (length held) refl kept.some_unit kept.most_units kept.places
