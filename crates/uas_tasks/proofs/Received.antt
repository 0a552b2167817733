-- What comes of the text of an information unit. Cited by the answers of `receive`.
use Rattle.std.proofs.Common.{◌≡◌, ℕ, List, refl}
use Rattle.arrayvec.specs.ArrayVec.{ArrayVec}
use Rattle.uas_iu.specs.declared.Iu.TheVariants.{Command, Sense, Response, Task}
use Rattle.uas_iu.specs.Units.{Fits, unit_text}
use Rattle.uas_iu.proofs.Laws.{first_fault-unit_text}
use Rattle.uas_target.specs.Fields.{tag_in}
use Rattle.uas_target.proofs.Received.{at_command, at_task}
use Rattle.uas_tasks.specs.Machine.{Machine, dropped, executed, managed, on_its_tag, received, received_unit, with_answer}

command_unit : (machine : Machine) (tag : ℕ) (lun cdb : List ℕ) → Fits (Command tag lun cdb) →
    received_unit machine (unit_text (Command tag lun cdb)) (tag_in (unit_text (Command tag lun cdb)))
    ≡ on_its_tag machine tag (executed machine tag lun cdb)
unfolding unit_text
command_unit machine = at_command (λ tag lun cdb. on_its_tag machine tag (executed machine tag lun cdb))

pub received-command : (machine : Machine) (tag : ℕ) (lun cdb : List ℕ) → Fits (Command tag lun cdb) →
    received machine (unit_text (Command tag lun cdb)) ≡ on_its_tag machine tag (executed machine tag lun cdb)
received-command machine tag lun cdb fits = rw (first_fault-unit_text (Command tag lun cdb) fits) (command_unit machine tag lun cdb fits)

task_unit : (machine : Machine) (tag function task_tag : ℕ) (lun : List ℕ) → Fits (Task tag function task_tag lun) →
    received_unit machine (unit_text (Task tag function task_tag lun)) (tag_in (unit_text (Task tag function task_tag lun)))
    ≡ on_its_tag machine tag (with_answer tag (managed machine function task_tag lun))
unfolding unit_text
task_unit machine tag function = at_task (λ tag task_tag lun. on_its_tag machine tag (with_answer tag (managed machine function task_tag lun))) tag function

pub received-task : (machine : Machine) (tag function task_tag : ℕ) (lun : List ℕ) → Fits (Task tag function task_tag lun) →
    received machine (unit_text (Task tag function task_tag lun)) ≡ on_its_tag machine tag (with_answer tag (managed machine function task_tag lun))
received-task machine tag function task_tag lun fits =
    rw (first_fault-unit_text (Task tag function task_tag lun) fits) (task_unit machine tag function task_tag lun fits)

pub received-sense : (machine : Machine) (tag status : ℕ) (sense : ArrayVec ℕ) → Fits (Sense tag status sense) →
    received machine (unit_text (Sense tag status sense)) ≡ dropped machine
unfolding unit_text
received-sense machine tag status sense fits = rw (first_fault-unit_text (Sense tag status sense) fits) refl

pub received-response : (machine : Machine) (tag code : ℕ) → Fits (Response tag code) →
    received machine (unit_text (Response tag code)) ≡ dropped machine
unfolding unit_text
received-response machine tag code fits = rw (first_fault-unit_text (Response tag code) fits) refl
