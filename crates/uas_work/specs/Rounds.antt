-- What a client does in a round: it writes eight blocks, and reads them again.
use Rattle.std.specs.Prelude.{ℕ, ◌+◌, ◌*◌, ◌/◌, ◌%◌, ◌<◌, ◌≤◌, ◌==◌, if◌then◌else◌, false, List, [], ◌∷◌, replicate}
use Rattle.scsi_cmd.specs.declared.Command.{Command}
use Rattle.scsi_cmd.specs.declared.Op.{Op}
use Rattle.scsi_cmd.specs.declared.Op.TheVariants.{Read, Write}
use Rattle.scsi_cmd.specs.declared.Reply.{Reply}
use Rattle.tag_desk.specs.declared.Slip.{Slip}
use Rattle.tag_desk.specs.declared.Slip.TheVariants.{Ask, AskTask, Answer, Refused, Unserved}
use Rattle.uas_profile.specs.declared.TheConstants.{BLOCK_BYTES}
use Rattle.uas_work.specs.declared.rounds.Half.{Half}
use Rattle.uas_work.specs.declared.rounds.Half.TheVariants as half

-- eight blocks from this one on: after eight rounds the same again
abbrev pub round_op : ℕ → Half → Op
round_op round half.Write = Write (8 * (round % 8)) 8 false
round_op round half.Read = Read (8 * (round % 8)) 8 false

-- what the buffer is filled with: the bytes that are written, or zeros for those that are read
abbrev pub round_fill : ℕ → ℕ → Half → ℕ
round_fill client round half.Write = (16 * client + round) % 256
round_fill client round half.Read = 0

abbrev pub round_command : ℕ → ℕ → Half → Command
round_command client round which = record { op = round_op round which; buffer = replicate (8 * BLOCK_BYTES) (round_fill client round which) }

-- a client's tickets are of a WRITE and of a READ in turn
abbrev pub half_at : ℕ → Half
half_at ticket = if ticket % 2 == 0 then half.Write else half.Read

-- What it asks for with a ticket, whatever it has out at a time. By hand: of client 1, ticket 4 is the WRITE of round 2, of the byte 18, and
-- ticket 5 the READ of round 2.
abbrev pub ticket_command : ℕ → ℕ → Command
ticket_command client ticket = round_command client (ticket / 2) (half_at ticket)

-- of so many tags of a client, one of them for task management, 1 to the other ones have a command out at a time
abbrev pub IsDepth : ℕ → ℕ → Type 0
IsDepth tags depth = (1 ≤ depth) × (depth < tags)

-- what a client keeps of the slip with which the pump finished: its reply, and nothing of a command that was refused or not served
abbrev pub kept_of : Slip → List Reply
kept_of (Ask ticket command) = []
kept_of (AskTask ticket task) = []
kept_of (Answer reply) = reply ∷ []
kept_of (Refused ticket fault buffer) = []
kept_of (Unserved ticket buffer) = []
