-- What comes of the text of a unit.
use Rattle.std.proofs.Common.{◌≡◌, ℕ, ◌+◌, ◌*◌, ◌/◌, ◌%◌, ◌<◌, ◌^◌, List, [], ◌∷◌, take, refl, arith, ap, ◌∙◌}
use Rattle.std.proofs.lemmas.List.{take_at, drop_at, take_all}
use Rattle.uas_iu.specs.declared.Iu.TheVariants.{Command, Sense, Response, Task}
use Rattle.uas_iu.specs.Units.{Fits, unit_text}
use Rattle.uas_iu.proofs.Laws.{first_fault-unit_text}
use Rattle.scsi_cmd.specs.Laws.{asked-cdb_bytes, cdb_reports_attention-cdb_bytes}
use Rattle.scsi_cmd.specs.Work.{work_asked}
use Rattle.device_server.specs.Server.{begun}
use Rattle.uas_target.specs.Device.{Device, called, executed, managed, on_its_tag, received_unit, with_code, with_units_and_task}
use Rattle.uas_target.specs.Fields.{tag_in, lun_in, cdb_in, task_tag_in}
use Rattle.uas_target.specs.Laws.{CommandsAreExecuted, TasksAreManaged, SensesAreDropped, ResponsesAreDropped, BeginsAsAsked, CallsAreFolded}

-- a number below 2^16 is that of its two bytes
two_bytes : (n : ℕ) → n < 2 ^ 16 → n / 256 % 256 * 256 + n % 256 ≡ n
two_bytes n less = omega arith

tag_in-command : (tag : ℕ) (lun cdb : List ℕ) → Fits (Command tag lun cdb) → tag_in (unit_text (Command tag lun cdb)) ≡ tag
unfolding unit_text
tag_in-command tag lun cdb fits = two_bytes tag fits.0

lun_in-command : (tag : ℕ) (lun cdb : List ℕ) → Fits (Command tag lun cdb) → lun_in (unit_text (Command tag lun cdb)) ≡ lun
unfolding unit_text
lun_in-command tag lun cdb fits = take_at lun cdb 8 fits.1

cdb_in-command : (tag : ℕ) (lun cdb : List ℕ) → Fits (Command tag lun cdb) → cdb_in (unit_text (Command tag lun cdb)) ≡ cdb
unfolding unit_text
cdb_in-command tag lun cdb fits = ap (take 16) (drop_at lun cdb 8 fits.1) ∙ take_all 16 cdb (omega (arith, fits.2))

tag_in-task : (tag function task_tag : ℕ) (lun : List ℕ) → Fits (Task tag function task_tag lun) → tag_in (unit_text (Task tag function task_tag lun)) ≡ tag
unfolding unit_text
tag_in-task tag function task_tag lun fits = two_bytes tag fits.0

-- what is made of the fields of a Command is made of what it was written with
pub at_command : {X : Type 0} (made : ℕ → List ℕ → List ℕ → X) (tag : ℕ) (lun cdb : List ℕ) → Fits (Command tag lun cdb) →
    made (tag_in (unit_text (Command tag lun cdb))) (lun_in (unit_text (Command tag lun cdb))) (cdb_in (unit_text (Command tag lun cdb))) ≡ made tag lun cdb
at_command made tag lun cdb fits = rw (tag_in-command tag lun cdb fits, lun_in-command tag lun cdb fits, cdb_in-command tag lun cdb fits) refl

command_unit : (device : Device) (tag : ℕ) (lun cdb : List ℕ) → Fits (Command tag lun cdb) →
    received_unit device (unit_text (Command tag lun cdb)) (tag_in (unit_text (Command tag lun cdb)))
    ≡ on_its_tag device tag (with_units_and_task device tag (executed device.units lun cdb))
unfolding unit_text
command_unit device = at_command (λ tag lun cdb. on_its_tag device tag (with_units_and_task device tag (executed device.units lun cdb)))

pub received-command : CommandsAreExecuted
received-command device tag lun cdb fits = rw (first_fault-unit_text (Command tag lun cdb) fits) (command_unit device tag lun cdb fits)

task_tag_in-task : (tag function task_tag : ℕ) (lun : List ℕ) → Fits (Task tag function task_tag lun) →
    task_tag_in (unit_text (Task tag function task_tag lun)) ≡ task_tag
unfolding unit_text
task_tag_in-task tag function task_tag lun fits = two_bytes task_tag fits.1

lun_in-task : (tag function task_tag : ℕ) (lun : List ℕ) → Fits (Task tag function task_tag lun) → lun_in (unit_text (Task tag function task_tag lun)) ≡ lun
unfolding unit_text
lun_in-task tag function task_tag lun fits = take_all 8 lun (omega (arith, fits.2))

-- the same of a Task Management
pub at_task : {X : Type 0} (made : ℕ → ℕ → List ℕ → X) (tag function task_tag : ℕ) (lun : List ℕ) → Fits (Task tag function task_tag lun) →
    made (tag_in (unit_text (Task tag function task_tag lun))) (task_tag_in (unit_text (Task tag function task_tag lun)))
    (lun_in (unit_text (Task tag function task_tag lun))) ≡ made tag task_tag lun
at_task made tag function task_tag lun fits =
    rw (tag_in-task tag function task_tag lun fits, task_tag_in-task tag function task_tag lun fits, lun_in-task tag function task_tag lun fits) refl

task_unit : (device : Device) (tag function task_tag : ℕ) (lun : List ℕ) → Fits (Task tag function task_tag lun) →
    received_unit device (unit_text (Task tag function task_tag lun)) (tag_in (unit_text (Task tag function task_tag lun)))
    ≡ on_its_tag device tag (with_code tag (managed device function task_tag lun))
unfolding unit_text
task_unit device tag function = at_task (λ tag task_tag lun. on_its_tag device tag (with_code tag (managed device function task_tag lun))) tag function

pub received-task : TasksAreManaged
received-task device tag function task_tag lun fits =
    rw (first_fault-unit_text (Task tag function task_tag lun) fits) (task_unit device tag function task_tag lun fits)

pub received-sense : SensesAreDropped
unfolding unit_text
received-sense device tag status sense fits = rw (first_fault-unit_text (Sense tag status sense) fits) refl

pub received-response : ResponsesAreDropped
unfolding unit_text
received-response device tag code fits = rw (first_fault-unit_text (Response tag code) fits) refl

-- the CDB of an operation that a host asks for
pub begins_as_asked : BeginsAsAsked
begins_as_asked unit op =
    λ i. begun unit (cdb_reports_attention-cdb_bytes op i) (work_asked unit.count (asked-cdb_bytes op unit.count i))

-- one call more
pub folded : CallsAreFolded
folded device [] call = refl
folded device (first ∷ calls) call = folded (called device first) calls call

pub ruleset of_texts = (received-command, received-task, received-sense, received-response, begins_as_asked, folded)
