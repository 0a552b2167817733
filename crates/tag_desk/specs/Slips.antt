-- Which slips a client posts, and which a pump finishes with.
use Rattle.std.specs.Prelude.{◌≡◌, ◌≢◌, ℕ}
use Rattle.scsi_cmd.specs.Replies.{reply_tag, reply_ticket}
use Rattle.tag_desk.specs.declared.Slip.{Slip}
use Rattle.tag_desk.specs.declared.Slip.TheVariants.{Ask, AskTask, Answer, Refused, Unserved}
use Rattle.uas_profile.specs.Tags.{slot_of, task_slot}

-- a client posts task managements on its last tag and commands on the others, each with its ticket
abbrev pub IsAsk : ℕ → ℕ → ℕ → Slip → Type 0
IsAsk tags tag ticket (Ask n command) = (n ≡ ticket) × (slot_of tags tag ≢ task_slot tags)
IsAsk tags tag ticket (AskTask n task) = (n ≡ ticket) × (slot_of tags tag ≡ task_slot tags)
IsAsk tags tag ticket (Answer reply) = ⊥
IsAsk tags tag ticket (Refused n fault buffer) = ⊥
IsAsk tags tag ticket (Unserved n buffer) = ⊥

-- the slip of a command's tag
abbrev pub IsCommand : ℕ → Slip → Type 0
IsCommand ticket (Ask n command) = n ≡ ticket
IsCommand ticket (AskTask n task) = ⊥
IsCommand ticket (Answer reply) = ⊥
IsCommand ticket (Refused n fault buffer) = ⊥
IsCommand ticket (Unserved n buffer) = ⊥

-- the slip of a tag for task management
abbrev pub IsTask : ℕ → Slip → Type 0
IsTask ticket (Ask n command) = ⊥
IsTask ticket (AskTask n task) = n ≡ ticket
IsTask ticket (Answer reply) = ⊥
IsTask ticket (Refused n fault buffer) = ⊥
IsTask ticket (Unserved n buffer) = ⊥

-- a pump finishes with an answer that names the tag and the ticket, or gives the ticket back refused or unserved
abbrev pub IsEnd : ℕ → ℕ → Slip → Type 0
IsEnd tag ticket (Ask n command) = ⊥
IsEnd tag ticket (AskTask n task) = ⊥
IsEnd tag ticket (Answer reply) = (reply_tag reply ≡ tag) × (reply_ticket reply ≡ ticket)
IsEnd tag ticket (Refused n fault buffer) = n ≡ ticket
IsEnd tag ticket (Unserved n buffer) = n ≡ ticket

abbrev pub ticket_in : Slip → ℕ
ticket_in (Ask n command) = n
ticket_in (AskTask n task) = n
ticket_in (Answer reply) = reply_ticket reply
ticket_in (Refused n fault buffer) = n
ticket_in (Unserved n buffer) = n
