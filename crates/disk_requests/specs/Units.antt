-- Information units (INCITS 471) by the grammar of uas_iu: those that the host sends, to a logical unit by its number, and those of a device.
use Rattle.std.specs.Prelude.{ℕ, List}
use Rattle.uas_iu.specs.declared.Iu.TheVariants.{Command, Response, Sense, Task}
use Rattle.uas_iu.specs.Lun.{lun_text}
use Rattle.uas_iu.specs.Units.{unit_text}

abbrev pub command_text : ℕ → ℕ → List ℕ → List ℕ
command_text tag lun cdb = unit_text (Command tag (lun_text lun) cdb)

abbrev pub task_text : ℕ → ℕ → ℕ → ℕ → List ℕ
task_text tag function managed lun = unit_text (Task tag function managed (lun_text lun))

abbrev pub sense_text : ℕ → ℕ → List ℕ → List ℕ
sense_text tag status sense = unit_text (Sense tag status (record { items = sense }))

abbrev pub response_text : ℕ → ℕ → List ℕ
response_text tag code = unit_text (Response tag code)
