-- What a client of `uasdisk work` submits.
use Rattle.std.specs.Prelude.{ℕ, zero, suc, ◌+◌, ◌*◌, ◌%◌, false, List, [], ◌∷◌, ◌++◌, replicate}
use Rattle.uas_profile.specs.declared.TheConstants.{BLOCK_BYTES}
use Rattle.scsi_cmd.specs.declared.Op.{Op}
use Rattle.scsi_cmd.specs.declared.Op.TheVariants.{Read, Write}
use Rattle.shared_machine.specs.declared.Step.{Step}
use Rattle.shared_machine.specs.declared.Step.TheVariants.{Submit}

-- so many of a byte
unfoldable pub filled : ℕ → ℕ → List ℕ
filled count byte = replicate count byte

-- A command is of 8 blocks, and after 8 rounds a client is back at its first ones: in round 9 it is at block 8.
abbrev pub round_block : ℕ → ℕ
round_block round = 8 * (round % 8)

-- what a client's WRITE brings in a round: of client 1 in round 2 the byte 18
abbrev pub round_byte : ℕ → ℕ → ℕ
round_byte client round = (16 * client + round) % 256

-- The tag of a ticket: a client that has so many commands out at a time takes its tags in turn, from its first on. Of 16 tags each client 2's
-- first is 33, and of 8 it is 17. By hand: of 16 tags and 3 at a time, tickets 0 to 3 of client 1 are on tags 17, 18, 19 and 17.
abbrev pub planned_tag : ℕ → ℕ → ℕ → ℕ → ℕ
planned_tag tags depth client ticket = tags * client + ticket % depth + 1

-- a submission of 8 blocks
abbrev pub planned_step : ℕ → ℕ → ℕ → ℕ → Op → ℕ → Step
planned_step tags depth client ticket op byte =
    Submit client (planned_tag tags depth client ticket) ticket (record { op = op; buffer = filled (BLOCK_BYTES * 8) byte })

abbrev pub planned_write : ℕ → ℕ → ℕ → ℕ → Step
planned_write tags depth client round = planned_step tags depth client (2 * round) (Write (round_block round) 8 false) (round_byte client round)

abbrev pub planned_read : ℕ → ℕ → ℕ → ℕ → Step
planned_read tags depth client round = planned_step tags depth client (2 * round + 1) (Read (round_block round) 8 false) 0

-- a client's submissions of so many rounds, in order
abbrev pub planned_steps : ℕ → ℕ → ℕ → ℕ → List Step
planned_steps tags depth client zero = []
planned_steps tags depth client (suc round) =
    planned_steps tags depth client round ++ planned_write tags depth client round ∷ planned_read tags depth client round ∷ []
