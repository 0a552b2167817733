use Rattle.uas_replay.proofs.WholeScripts.{scripts_told}
use Rattle.uas_replay.proofs.headline.scripts_are_replays.Goals as goal

pub returns : goal.returns
returns c = scripts_told c.isolated.ensures c.opens_as_solo.ensures.solo
