-- A whole script, from new units.
use Rattle.std.proofs.Common.{◌∙◌, ℕ, List, [], fold, ap, sym}
use Rattle.block_unit.specs.BlockMaps.{BlockMaps}
use Rattle.solo_model.specs.Solo.{SoloState}
use Rattle.shared_machine.specs.Shared.{opening}
use Rattle.isolation.specs.Laws.{HeadlineHolds}
use Rattle.isolation.specs.FirstBlocks.{OpensAsSolo}
use Rattle.uas_script.specs.declared.Line.{Line}
use Rattle.uas_replay.specs.Told.{Telling, opening_run, told_line, drained_run, whole_run, told}
use Rattle.uas_replay.specs.Headline.{IsToldBy, ScriptsAreReplays, solo_lines}
use Rattle.uas_replay.proofs.Goes.{Goes, goes_on, labels_in}
use Rattle.uas_replay.proofs.Notes.{opening_noted, opening_knows}
use Rattle.uas_replay.proofs.Transitions.{lines_go, drained_goes}

told_by : OpensAsSolo → (tags : ℕ) (units : List BlockMaps) (lines : List Line) (it : Goes (opening_run tags units) (whole_run tags units lines))
    → IsToldBy tags units lines it.steps it.said
unfolding told
told_by opens tags units lines it = record {
  machine = sym it.machine;
  text = it.text;
  deliveries = it.deliveries;
  own = λ client unit found.
      (it.own (opening_noted tags units) client [] (opening_knows tags units client)).0
      ∙ ap (λ (s : SoloState). solo_lines s [] (labels_in (opening tags units) it.steps client)) (opens tags units client unit found);
}

pub scripts_told : HeadlineHolds → OpensAsSolo → ScriptsAreReplays
scripts_told isolated opens tags units lines =
    let run : Telling = fold told_line (opening_run tags units) lines in
    let whole : Goes (opening_run tags units) (whole_run tags units lines) =
    goes_on isolated (opening_run tags units) run (drained_run run) (lines_go isolated lines (opening_run tags units)) (drained_goes isolated run) in
    (whole.steps, (whole.said, told_by opens tags units lines whole))
