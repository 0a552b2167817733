-- What a log tells of a bus, and when that is true.
use Rattle.std.specs.Prelude.{◌≡◌, ℕ, ◌*◌, ◌≤◌, false, List, [], ◌∷◌, ◌++◌, length, map, option_to_list}
use Rattle.std.specs.Option.{option_map_or}
use Rattle.block_unit.specs.BlockMaps.{BlockMaps, block_count}
use Rattle.scsi_cmd.specs.declared.Reply.{Reply}
use Rattle.scsi_cmd.specs.Faults.{fault_number}
use Rattle.uas_profile.specs.declared.TheConstants.{MAX_CLIENTS, STREAMS}
use Rattle.uas_profile.specs.Tags.{AreTags}
use Rattle.shared_machine.specs.declared.Step.{Step}
use Rattle.shared_machine.specs.declared.Outcome.{Outcome}
use Rattle.shared_machine.specs.Bus.{AllTicketed}
use Rattle.shared_machine.specs.Shared.{Shared, opening}
use Rattle.shared_machine.specs.Replay.{replay}
use Rattle.shared_machine.specs.Laws.{AllDue}
use Rattle.uas_log.specs.declared.FirstUnit.{FirstUnit}
use Rattle.uas_log.specs.declared.Log.{Log}

-- THE OPENING

-- a unit as the log began: its medium has its blocks, and no attention is established; 1,024 bytes are 2 blocks
abbrev pub first_maps : FirstUnit → BlockMaps
first_maps first = record {
  count = block_count first.blocks;
  blocks = first.blocks;
  medium = first.blocks;
  attention = false;
  bad = first.bad;
}

-- the units of a log's clients
abbrev pub first_units : Log → List BlockMaps
first_units log = map first_maps log.units

-- the shared machine that a log begins with, whose clients have as many tags as the log says
abbrev pub log_opening : Log → Shared
log_opening log = opening log.tags (first_units log)

-- THE REPLAY

-- the shared machine after a log's steps, and the outcome of each
abbrev pub log_replay : Log → Shared × List Outcome
log_replay log = replay log.tags (first_units log) log.steps

-- the number of a refusal, 0 for none
abbrev pub refusal_of : Outcome → ℕ
refusal_of outcome = option_map_or (λ refusal. fault_number refusal.fault) outcome.refused 0

-- the replies of outcomes, in order
abbrev pub replies_of : List Outcome → List Reply
replies_of [] = []
replies_of (outcome ∷ rest) = option_to_list outcome.reply ++ replies_of rest

-- A log is true: its refusals and replies are those of the replay of its steps on its first units, with its number of tags, which
-- is one that a client may have, and its clients have no more tags than there are streams. It has only steps that acted, and no more
-- than a bus can take.
pub record IsReplay (log : Log) : Type 0 where
  pub tags : AreTags log.tags
  pub some : 1 ≤ length log.units
  pub most : length log.units ≤ MAX_CLIENTS
  pub streams : length log.units * log.tags ≤ STREAMS
  pub refusals : log.refusals ≡ map refusal_of (log_replay log).1
  pub replies : log.replies ≡ replies_of (log_replay log).1
  pub acted : AllDue (log_opening log) log.steps
  pub ticketed : AllTicketed log.steps

-- ONE MORE STEP

-- the log of a bus that took no step, with so many tags of each client
abbrev pub empty_log : ℕ → List FirstUnit → Log
empty_log tags units = record { tags = tags; units = units; steps = []; refusals = []; replies = [] }

-- the log once a step came to an outcome
abbrev pub with_entry : Log → Step → Outcome → Log
with_entry log step outcome = record log {
  steps = log.steps ++ step ∷ [];
  refusals = log.refusals ++ refusal_of outcome ∷ [];
  replies = log.replies ++ option_to_list outcome.reply;
}

-- the log without its lists of steps, refusals and replies
abbrev pub without_lists : Log → Log
without_lists log = record log { steps = []; refusals = []; replies = [] }
