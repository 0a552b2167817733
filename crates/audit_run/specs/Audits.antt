-- What is told of a log's text.
use Rattle.std.specs.Prelude.{◌≡◌, ℕ, zero, suc, ◌==◌, Bool, true, false, nat_eq, if◌then◌else◌, List, [], ◌∷◌, ◌++◌, length, filter, map, codes, Option, Some, None, is_some, option_map, Ok, Err}
use Rattle.std.specs.List.{starts_with}
use Rattle.std.specs.Fmt.{decimal}
use Rattle.std.specs.Int.{w32, to_be_bytes}
use Rattle.hex.specs.Hex.{encode_lower}
use Rattle.scsi_cmd.specs.declared.Reply.{Reply}
use Rattle.kept_log.specs.declared.Loaded.{Loaded}
use Rattle.kept_log.specs.Loading.{IsLoaded}
use Rattle.kept_log.specs.Loading as kept
use Rattle.kept_log.specs.Saved.{plain_of as plain_of_kept}
use Rattle.kept_log.specs.Sums.{step_in}
use Rattle.log_text.specs.declared.MigrateFault.{MigrateFault}
use Rattle.log_text.specs.declared.SavedReply.{SavedReply}
use Rattle.log_text.specs.Loading.{Loads}
use Rattle.log_text.specs.Migration.{Migrates, migrated}
use Rattle.log_text.specs.Reading.{whole_log}
use Rattle.log_text.specs.Plain.{Plain, plain_of}
use Rattle.log_text.specs.Text.{Saved}
use Rattle.audit_run.specs.declared.replay.ReplayFault.{ReplayFault}
use Rattle.audit_run.specs.replay.Replaying.{IsReplayed, replayed_replies, steps_fault}
use Rattle.audit_run.specs.declared.AuditFault.{AuditFault}
use Rattle.audit_run.specs.declared.HeadAt.{HeadAt}
use Rattle.audit_run.specs.declared.KeptState.{KeptState}
use Rattle.audit_run.specs.declared.AuditFault.TheVariants.{File, TooLarge, Text, Kept, Old, OtherHead, Replay, Output, NoMemory}

-- LINES

-- the replies of a log that are a client's, in order
abbrev pub replies_to : ℕ → List SavedReply → List Reply
replies_to client replies = map (λ saved. saved.reply) (filter (λ saved. saved.client == client) replies)

-- `client C replies R true`
abbrev pub line_text : ℕ → ℕ → List ℕ
line_text client count = codes "client " ++ (decimal client ++ (codes " replies " ++ (decimal count ++ codes " true\n")))

-- a client's line: how many replies it took
abbrev pub client_line : Plain → ℕ → List ℕ
client_line log client = line_text client (length (replies_to client log.replies))

-- the lines of so many clients, by number
abbrev pub audit_lines : Plain → ℕ → List ℕ
audit_lines log zero = []
audit_lines log (suc client) = audit_lines log client ++ client_line log client

-- a line for each client of a log
abbrev pub audit_text : Plain → List ℕ
audit_text log = audit_lines log (length log.units)

-- `beginning of N steps`, where there is no end
abbrev pub beginning_line : ℕ → List ℕ
beginning_line steps = codes "beginning of " ++ (decimal steps ++ codes " steps\n")

abbrev pub beginning_text : KeptState → List ℕ
beginning_text state = if state.has_end then [] else beginning_line state.steps

-- `torn at byte N`, where a record was cut off
abbrev pub torn_line : ℕ → List ℕ
torn_line place = codes "torn at byte " ++ (decimal place ++ codes "\n")

abbrev pub torn_text : Option ℕ → List ℕ
torn_text None = []
torn_text (Some place) = torn_line place

-- what is told of a log that was kept as it grew; of another nothing
abbrev pub state_text : Option KeptState → List ℕ
state_text None = []
state_text (Some state) = beginning_text state ++ torn_text state.torn

-- `head HEX at step N`, the checksum in 8 hexadecimal digits
abbrev pub head_line : ℕ → ℕ → List ℕ
head_line sum step = codes "head " ++ (encode_lower (to_be_bytes w32 sum) ++ (codes " at step " ++ (decimal step ++ codes "\n")))

-- what is told of a checksum that was found
abbrev pub found_text : Option HeadAt → List ℕ
found_text None = []
found_text (Some at) = head_line at.sum at.step

-- ANSWERS

-- how a text of the third version begins: `UASLOG` and its number
abbrev pub is_kept : List ℕ → Bool
is_kept bytes = starts_with nat_eq bytes (0x55 ∷ 0x41 ∷ 0x53 ∷ 0x4C ∷ 0x4F ∷ 0x47 ∷ 0 ∷ 3 ∷ [])

-- behind how many steps of a text's log a checksum stands first; an older log has none
abbrev pub step_found : ℕ → List ℕ → Option ℕ
step_found sum bytes = if is_kept bytes then step_in sum bytes else None

-- What is told of the checksum that is asked for. Where none is asked for that is nothing; one that isn't the log's can't be told of.
abbrev pub head_text : Option ℕ → List ℕ → Option (List ℕ)
head_text None bytes = Some []
head_text (Some sum) bytes = option_map (head_line sum) (step_found sum bytes)

-- a text of the first or second version is a log's, which can be brought over to this one
pub record IsLogOf (bytes : List ℕ) (log : Plain) : Type 0 where
  pub saved : Saved
  pub moved : Saved
  pub older : is_kept bytes ≡ false
  pub read : whole_log bytes ≡ Ok saved
  pub brought : migrated saved ≡ Ok moved
  pub log_is : log ≡ plain_of moved

-- what there is of a log that was kept as it grew
abbrev pub state_of : Loaded → KeptState
state_of loaded = record { steps = length loaded.log.entries; has_end = is_some loaded.log.ending; torn = loaded.torn }

-- a text of the third version is a log's, whose clients keep their number of tags, and of which there is so much
pub record IsKeptLogOf (bytes : List ℕ) (log : Plain) (state : KeptState) : Type 0 where
  pub loaded : Loaded
  pub third : is_kept bytes ≡ true
  pub read : IsLoaded bytes loaded
  pub log_is : log ≡ plain_of_kept loaded.log
  pub state_is : state ≡ state_of loaded

-- a text is a log's, of either kind
abbrev pub IsFileLog : List ℕ → Plain → Option KeptState → Type 0
IsFileLog bytes log None = IsLogOf bytes log
IsFileLog bytes log (Some state) = IsKeptLogOf bytes log state

-- A text that is answered, where this checksum is asked for: it is the log's, the log's steps are all due and accepted in their turn, its
-- replies are those that come of them, and this is told.
pub record IsAnswered (head : Option ℕ) (bytes told : List ℕ) : Type 0 where
  pub log : Plain
  pub state : Option KeptState
  pub is : IsFileLog bytes log state
  pub steps : steps_fault log ≡ None
  pub replies : replayed_replies log ≡ log.replies
  pub last : List ℕ
  pub found : head_text head bytes ≡ Some last
  pub text : told ≡ (audit_text log ++ state_text state) ++ last

-- a log that can't be brought over
pub record CantBeBrought (bytes : List ℕ) (fault : MigrateFault) : Type 0 where
  pub saved : Saved
  pub older : is_kept bytes ≡ false
  pub read : whole_log bytes ≡ Ok saved
  pub because : Migrates (Err fault) (migrated saved)

-- a log of which the checksum that is asked for is none
pub record IsOtherLog (head : Option ℕ) (bytes : List ℕ) : Type 0 where
  pub log : Plain
  pub state : Option KeptState
  pub is : IsFileLog bytes log state
  pub other : head_text head bytes ≡ None

-- a log of which it is one, and that isn't the replay of its steps
pub record CantBeReplayed (head : Option ℕ) (bytes : List ℕ) (fault : ReplayFault) : Type 0 where
  pub log : Plain
  pub state : Option KeptState
  pub is : IsFileLog bytes log state
  pub last : List ℕ
  pub found : head_text head bytes ≡ Some last
  pub because : IsReplayed log (Err fault)

-- What is wrong with a text: its form, what it has of clients, the checksum that is asked for, its steps or replies. Want of memory can
-- always be.
abbrev pub IsRefusedBy : Option ℕ → List ℕ → AuditFault → Type 0
IsRefusedBy head bytes File = ⊥
IsRefusedBy head bytes TooLarge = ⊥
IsRefusedBy head bytes (Text fault) = (is_kept bytes ≡ false) × Loads (Err fault) (whole_log bytes)
IsRefusedBy head bytes (Kept fault) = (is_kept bytes ≡ true) × kept.IsRefusedBy bytes fault
IsRefusedBy head bytes (Old fault) = CantBeBrought bytes fault
IsRefusedBy head bytes OtherHead = IsOtherLog head bytes
IsRefusedBy head bytes (Replay fault) = CantBeReplayed head bytes fault
IsRefusedBy head bytes Output = ⊥
IsRefusedBy head bytes NoMemory = Unit {0}
