-- What a tag is answered.
use Rattle.std.specs.Prelude.{ℕ}
use Rattle.uas_iu.specs.declared.Iu.{Iu}
use Rattle.uas_target.specs.Tasks.{answer_unit}
use Rattle.uas_tasks.specs.declared.answers.Told.{Told}
use Rattle.uas_tasks.specs.declared.answers.Told.TheVariants.{Answer, Failure}
use Rattle.uas_tasks.specs.Slots.{failure_unit}

-- its information unit
abbrev pub told_unit : ℕ → Told → Iu
told_unit tag (Answer answer) = answer_unit tag answer
told_unit tag (Failure failure) = failure_unit tag failure
