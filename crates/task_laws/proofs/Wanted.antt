-- What a tag wants and answers, in both devices. Cited by the laws.
use Rattle.std.proofs.Common.{◌≡◌, ℕ, ◌-◌, List, length, Option, option_and_then, refl, arith, ap, sym, ◌∙◌}
use Rattle.std.specs.Option.{option_map_or}
use Rattle.scsi_cmd.specs.declared.Work.TheVariants.{Reads as ReadsWork, Writes as WritesWork}
use Rattle.uas_target.specs.declared.DeviceTask.{DeviceTask}
use Rattle.uas_target.specs.declared.Phase.TheVariants.{Absent, Gives}
use Rattle.uas_target.specs.Soundness.{counts_of}
use Rattle.uas_target.specs.Tasks.{task_answer as target_answer, task_wants as target_wants}
use Rattle.uas_tasks.specs.Slots.{SlotState, slot_wants, task_answer}
use Rattle.uas_tasks.specs.Machine.{slot_of}
use Rattle.task_laws.specs.Backed.{phase_of}
use Rattle.task_laws.specs.Laws.{AnswersAreSame, TagsWantTheSame}
use Rattle.task_laws.proofs.Cases.{SlotCases, slot_cases}
use Rattle.task_laws.proofs.Free.{answer_free, same_free, wanted_free}
use Rattle.task_laws.proofs.Lists.{slot_so}
use Rattle.task_laws.proofs.Works.{moves_gives, moves_on, wanted_gives, wanted_reads, wanted_writes}

abbrev WantsAlike : Option DeviceTask → SlotState → Type 0
WantsAlike task slot = phase_of slot (slot_wants slot) ≡ option_map_or target_wants task Absent

wants_cases : (counts : List ℕ) → SlotCases counts WantsAlike
wants_cases counts = record {
  none = λ slot same. refl;
  ended = λ slot unit answer same. refl;
  gives = λ slot unit op bytes work given same sound.
      ap (λ (l : List ℕ). Gives (length l - 0)) given ∙ sym (wanted_gives op bytes (moves_gives counts op unit bytes work) (omega (arith, sound.0)));
  reads = λ slot number op chunk lba count work same sound.
      sym (wanted_reads op lba count chunk (moves_on counts op number (ReadsWork lba count) work) sound.0);
  writes = λ slot number op chunk lba count through work same sound.
      sym (wanted_writes op lba count chunk through (moves_on counts op number (WritesWork lba count through) work) sound.0);
}

pub wants_alike : TagsWantTheSame
wants_alike device backed tag same =
    ap (phase_of (slot_of backed.machine tag)) (wanted_free backed.machine tag (same_free device backed same))
    ∙ slot_so WantsAlike (counts_of device.units) device.tasks backed.machine.slots tag refl
    (slot_cases (counts_of device.units) WantsAlike (wants_cases (counts_of device.units))) same.tasks

abbrev AnswersAlike : ℕ → Option DeviceTask → SlotState → Type 0
AnswersAlike tag task slot = option_and_then (task_answer tag) slot.task ≡ option_and_then (target_answer tag) task

answers_cases : (counts : List ℕ) (tag : ℕ) → SlotCases counts (AnswersAlike tag)
answers_cases counts tag = record {
  none = λ slot same. refl;
  ended = λ slot unit answer same. refl;
  gives = λ slot unit op bytes work given same sound. refl;
  reads = λ slot number op chunk lba count work same sound. refl;
  writes = λ slot number op chunk lba count through work same sound. refl;
}

pub answers_alike : AnswersAreSame
answers_alike device backed tag same =
    answer_free backed.machine tag (same_free device backed same)
    ∙ slot_so (AnswersAlike tag) (counts_of device.units) device.tasks backed.machine.slots tag refl
    (slot_cases (counts_of device.units) (AnswersAlike tag) (answers_cases (counts_of device.units) tag)) same.tasks
