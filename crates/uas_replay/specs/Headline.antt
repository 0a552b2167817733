-- The headline of the program: what a script tells is the replay of a list of steps, and each client's replies in it are
-- those of a disk that the client has alone.
use Rattle.std.specs.Prelude.{◌≡◌, ℕ, ◌==◌, Bool, false, ◌||◌, if◌then◌else◌, List, [], ◌∷◌, ◌++◌, Option, Some, None, option_map, option_to_list}
use Rattle.std.specs.Prelude.{slice_get, map}
use Rattle.block_unit.specs.BlockMaps.{BlockMaps}
use Rattle.scsi_cmd.specs.declared.Reply.{Reply}
use Rattle.scsi_cmd.specs.declared.SubmitFault.{SubmitFault}
use Rattle.scsi_cmd.specs.Op.{direction_of}
use Rattle.solo_model.specs.declared.Label.{Label}
use Rattle.solo_model.specs.declared.Label.TheVariants.{Submit, Task, Carry, Move, Send, Settle}
use Rattle.solo_model.specs.Solo.{SoloState, solo_step, opening as solo_opening}
use Rattle.tag_range.specs.declared.Refused.{Refused}
use Rattle.shared_machine.specs.declared.Step.{Step}
use Rattle.shared_machine.specs.declared.Outcome.{Outcome}
use Rattle.shared_machine.specs.Replay.{replay}
use Rattle.isolation.specs.Isolation.{renumbered, own_labels}
use Rattle.uas_script.specs.declared.Line.{Line}
use Rattle.uas_replay.specs.Printed.{reply_line, refusal_line, fault_name, refused_name, idle_line}
use Rattle.scsi_cmd.specs.Replies.{reply_ticket}
use Rattle.uas_replay.specs.Told.{is_to_host, told, whole_run}

-- WHAT IS SAID

-- What a printed line says: a reply to a client, whose command moves data to the host or not; a client's submission that
-- the bus refused, or that the client's own tags refused; or that a single step wasn't due.
pub data Said : Type 0 where
  replied : ℕ → Bool → Reply → Said
  refused_by_bus : ℕ → SubmitFault → Said
  refused_by_tags : ℕ → Refused → Said
  idle : Said

abbrev pub line_of : Said → List ℕ
line_of (replied client brings_in reply) = reply_line client brings_in reply
line_of (refused_by_bus client fault) = refusal_line client (fault_name fault)
line_of (refused_by_tags client refused) = refusal_line client (refused_name refused)
line_of idle = idle_line

abbrev pub text_of : List Said → List ℕ
text_of [] = []
text_of (said ∷ rest) = line_of said ++ text_of rest

-- DELIVERIES: what a step of the bus tells a client

pub data Delivery : Type 0 where
  reply_to : ℕ → Reply → Delivery
  refusal_to : ℕ → SubmitFault → Delivery

-- what is delivered in a line: a client's own tags and an idle step are none
abbrev pub deliveries_said : Said → List Delivery
deliveries_said (replied client brings_in reply) = reply_to client reply ∷ []
deliveries_said (refused_by_bus client fault) = refusal_to client fault ∷ []
deliveries_said (refused_by_tags client refused) = []
deliveries_said idle = []

abbrev pub all_deliveries_said : List Said → List Delivery
all_deliveries_said [] = []
all_deliveries_said (said ∷ rest) = deliveries_said said ++ all_deliveries_said rest

-- what is delivered in an outcome, which is to its owner
abbrev pub deliveries_to : Outcome → Option ℕ → List Delivery
deliveries_to outcome None = []
deliveries_to outcome (Some client) =
    option_to_list (option_map (reply_to client) outcome.reply)
    ++ option_to_list (option_map (λ refused. refusal_to client refused.fault) outcome.refused)

abbrev pub all_deliveries : List Outcome → List Delivery
all_deliveries [] = []
all_deliveries (outcome ∷ outcomes) = deliveries_to outcome outcome.owner ++ all_deliveries outcomes

-- A CLIENT'S OWN LINES

-- What a line shows of a reply to this client, which has so many tags, the tag counted from the client's first: whether its
-- command moves data to the host, and the reply.
abbrev pub own_line : ℕ → ℕ → Said → Option (Bool × Reply)
own_line tags client (replied other brings_in reply) = if other == client then Some (brings_in, renumbered tags client reply) else None
own_line tags client (refused_by_bus other fault) = None
own_line tags client (refused_by_tags other refused) = None
own_line tags client idle = None

abbrev pub own_lines : ℕ → ℕ → List Said → List (Bool × Reply)
own_lines tags client [] = []
own_lines tags client (said ∷ rest) = option_to_list (own_line tags client said) ++ own_lines tags client rest

-- the label is of a command under this ticket that moves data to the host
abbrev pub is_to_host_under : ℕ → Label → Bool
is_to_host_under ticket (Submit index given command) = if given == ticket then is_to_host (direction_of command.op) else false
is_to_host_under ticket (Task given task) = false
is_to_host_under ticket (Carry index) = false
is_to_host_under ticket (Move index) = false
is_to_host_under ticket (Send index) = false
is_to_host_under ticket (Settle index) = false

abbrev pub has_to_host : ℕ → List Label → Bool
has_to_host ticket [] = false
has_to_host ticket (label ∷ labels) = is_to_host_under ticket label || has_to_host ticket labels

-- what is shown of the reply of a solo machine that took these labels before
abbrev pub shown : List Label → Reply → Bool × Reply
shown before reply = (has_to_host (reply_ticket reply) before, reply)

abbrev pub shown_then : (SoloState → List (Bool × Reply)) → List Label → Option (SoloState × Option Reply) → List (Bool × Reply)
shown_then rest before None = []
shown_then rest before (Some after) = option_to_list (option_map (shown before) after.1) ++ rest after.0

-- What is shown of the replies of a solo machine to labels, which took others before them.
abbrev pub solo_lines : SoloState → List Label → List Label → List (Bool × Reply)
solo_lines state before [] = []
solo_lines state before (label ∷ labels) =
    shown_then (λ now. solo_lines now (before ++ label ∷ []) labels) before (solo_step state label)

-- the line of a reply to this client
abbrev pub reply_line_to : ℕ → Said → Option (List ℕ)
reply_line_to client (replied other brings_in reply) = if other == client then Some (reply_line other brings_in reply) else None
reply_line_to client (refused_by_bus other fault) = None
reply_line_to client (refused_by_tags other refused) = None
reply_line_to client idle = None

-- the lines of the replies to this client, in order
abbrev pub reply_lines_to : ℕ → List Said → List (List ℕ)
reply_lines_to client [] = []
reply_lines_to client (said ∷ rest) = option_to_list (reply_line_to client said) ++ reply_lines_to client rest

-- THE LAWS

-- With so many tags of each client, these steps are what the lines do, and this is what they say: the shared machine is as the
-- steps' replay leaves it, the text is what is said, the replies and refusals by the bus among it are those of the replay's
-- outcomes in order, and what is said of a client's replies is what its own labels bring from a solo machine on its unit.
pub record IsToldBy (tags : ℕ) (units : List BlockMaps) (lines : List Line) (steps : List Step) (said : List Said) : Type 0 where
  pub machine : (whole_run tags units lines).machine ≡ (replay tags units steps).0
  pub text : (told tags units lines).0 ≡ text_of said
  pub deliveries : all_deliveries_said said ≡ all_deliveries (replay tags units steps).1
  pub own : (client : ℕ) (unit : BlockMaps) → slice_get units client ≡ Some unit
      → own_lines tags client said ≡ solo_lines (solo_opening tags unit) [] (own_labels tags client steps (replay tags units steps).1)

-- Every script is the replay of a list of steps, whatever the number of tags.
abbrev pub ScriptsAreReplays : Type 0
ScriptsAreReplays =
    (tags : ℕ) (units : List BlockMaps) (lines : List Line) → (steps : List Step) × ((said : List Said) × IsToldBy tags units lines steps said)

-- Two clients with the same first unit and as many tags, each in a script of its own, that do alike are told alike, up to the
-- client's number, however many other clients there are and whatever their lines do.
abbrev pub OwnLabelsDecide : Type 0
OwnLabelsDecide =
    (tags : ℕ) (here there : List BlockMaps) (first second : List Line) (these those : List Step) (said told : List Said) (a b : ℕ) (unit : BlockMaps)
    → IsToldBy tags here first these said → IsToldBy tags there second those told
    → slice_get here a ≡ Some unit → slice_get there b ≡ Some unit
    → own_labels tags a these (replay tags here these).1 ≡ own_labels tags b those (replay tags there those).1
    → own_lines tags a said ≡ own_lines tags b told

-- A client's reply lines print what they show of its replies, with the client's number in front.
abbrev pub ReplyLinesShowOwn : Type 0
ReplyLinesShowOwn =
    (tags client : ℕ) (said : List Said)
    → reply_lines_to client said ≡ map (λ (shown : Bool × Reply). reply_line client shown.0 shown.1) (own_lines tags client said)
