-- The units in a tag's buffers.
use Rattle.std.proofs.Common.{◌+◌, ◌*◌, ◌/◌, ◌%◌, None, ◌≡◌, ℕ, zero, suc, ◌-◌, ◌∷◌, [], List, length, Some, arith, refl, ap, ◌∙◌, length-append}
use Rattle.std.specs.Prelude.{slice_set, slice_index_or}
use Rattle.uas_profile.specs.declared.TheConstants.{COMMAND_BYTES}
use Rattle.uas_iu.specs.declared.Iu.{Iu}
use Rattle.uas_iu.specs.declared.Iu.TheVariants.{Command, Sense, Response, Task}
use Rattle.uas_iu.specs.Faults.{first_fault}
use Rattle.uas_host.specs.Events.{answer_by, answer_in}
use Rattle.uas_iu.specs.Units.{unit_text, Fits}
use Rattle.frame_store.specs.declared.TagBuffers.{TagBuffers}
use Rattle.frame_store.specs.Buffers.{held_for, no_buffers, with_held, with_lent}

-- the bytes of a Command unit
pub command_text-length : (tag : ℕ) (lun cdb : List ℕ) → Fits (Command tag lun cdb) → length (unit_text (Command tag lun cdb)) ≡ COMMAND_BYTES
unfolding unit_text
command_text-length tag lun cdb fits = omega (arith, fits.1, fits.2, length-append lun cdb)

-- and a Task Management unit 16
pub task_text-length : (tag function task_tag : ℕ) (lun : List ℕ) → Fits (Task tag function task_tag lun) →
    length (unit_text (Task tag function task_tag lun)) ≡ 16
unfolding unit_text
task_text-length tag function task_tag lun fits = omega (arith, fits.2)

-- a place written twice, the second time from what the first wrote
pub set-set_from : {A : Type 0} → (list : List A) (at : ℕ) (first none : A) (change : A → A) →
    slice_set (slice_set list at first) at (change (slice_index_or (slice_set list at first) at none)) ≡ slice_set list at (change first)
set-set_from [] at first none change = refl
set-set_from (head ∷ rest) zero first none change = refl
set-set_from (head ∷ rest) (suc at) first none change = ap (λ list. head ∷ list) (set-set_from rest at first none change)

-- the unit is written, and then the vector is lent
pub lent-written : (frames between after : List TagBuffers) (tag : ℕ) (unit buffer : List ℕ) →
    between ≡ with_held frames tag (record (held_for frames tag) { command = unit }) → after ≡ with_lent between tag (Some buffer) →
    after ≡ with_held frames tag (record { command = unit; status = (held_for frames tag).status; lent = Some buffer })
lent-written frames between after tag unit buffer written then =
    then ∙ (ap (λ f. with_lent f tag (Some buffer)) written
    ∙ set-set_from frames (tag - 1) (record (held_for frames tag) { command = unit }) no_buffers (λ held. record held { lent = Some buffer }))

-- a Sense unit is told by its first byte, its tag and its status, and its sense is what follows
pub answer_by-text : (tag : ℕ) (unit : Iu) → Fits unit → first_fault (unit_text unit) ≡ None → answer_by tag unit ≡ answer_in tag (unit_text unit)
unfolding unit_text
answer_by-text tag (Command told lun cdb) fits sound = rw sound refl
answer_by-text tag (Sense told status sense) fits sound =
    let number : told / 256 % 256 * 256 + told % 256 ≡ told = omega (arith, fits.0) in rw (sound, number) refl
answer_by-text tag (Response told code) fits sound =
    let number : told / 256 % 256 * 256 + told % 256 ≡ told = omega (arith, fits) in rw (sound, number) refl
answer_by-text tag (Task told function task_tag lun) fits sound = rw sound refl
