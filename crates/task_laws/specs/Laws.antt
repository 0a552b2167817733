-- The laws: the device without blocks, with each request done at once, is the device with blocks.
use Rattle.std.specs.Prelude.{◌≡◌, ℕ, ◌+◌, ◌<◌, Bool, List, [], ◌∷◌, ◌++◌, length, sum, Option, Result}
use Rattle.std.specs.List.{concat}
use Rattle.block_unit.specs.BlockMaps.{BlockMaps}
use Rattle.host_commands.specs.Shapes.{Shape}
use Rattle.uas_iu.specs.declared.Iu.{Iu}
use Rattle.uas_target.specs.declared.Overlap.{Overlap}
use Rattle.uas_target.specs.declared.Phase.{Phase}
use Rattle.uas_target.specs.declared.Phase.TheVariants.{Absent, Gives, Takes, Ends}
use Rattle.uas_target.specs.declared.Took.{Took}
use Rattle.uas_profile.specs.declared.TheConstants.{GREATEST_TAG}
use Rattle.uas_target.specs.Device.{Device, Call, Receive, Give, Take, Send, answered, called, device_after, fits, given, opening, received, reset_device, wanted}
use Rattle.uas_tasks.specs.declared.Wants.TheVariants.{Gives as GivesBytes}
use Rattle.uas_tasks.specs.Machine as tasks
use Rattle.uas_tasks.specs.Machine.{Machine}
use Rattle.task_laws.specs.Backed.{Backed, backed_answered, backed_called, backed_fits, backed_gave, backed_given, backed_opening, backed_received, backed_reset, backed_wanted, gave_parts, given_parts, settled, took_parts}
use Rattle.task_laws.specs.Same.{Same, AreNew}

-- WHAT A HOST SEES

-- of a call: what came of received bytes, the bytes of a chunk, or none at a bad block, whether a chunk was taken, and the answer
-- that is sent
pub data Seen : Type 0 where
  Received : Result Took Overlap → Seen
  Given : Option (List ℕ) → Seen
  Taken : Bool → Seen
  Sent : Option Iu → Seen

abbrev pub seen : Device → Call → Seen
seen device (Receive bytes) = Received (received device bytes).1
seen device (Give tag) = Given (given device tag)
seen device (Take tag bytes) = Taken (fits device tag)
seen device (Send tag) = Sent (answered device tag)

abbrev pub backed_seen : Backed → Call → Seen
backed_seen backed (Receive bytes) = Received (backed_received backed bytes).1
backed_seen backed (Give tag) = Given (backed_given backed tag)
backed_seen backed (Take tag bytes) = Taken (backed_fits backed tag bytes)
backed_seen backed (Send tag) = Sent (backed_answered backed tag)

-- of a list of calls
abbrev pub all_seen : Device → List Call → List Seen
all_seen device [] = []
all_seen device (call ∷ calls) = seen device call ∷ all_seen (called device call) calls

abbrev pub all_backed_seen : Backed → List Call → List Seen
all_backed_seen backed [] = []
all_backed_seen backed (call ∷ calls) = backed_seen backed call ∷ all_backed_seen (backed_called backed call) calls

abbrev pub backed_after : Backed → List Call → Backed
backed_after backed [] = backed
backed_after backed (call ∷ calls) = backed_after (backed_called backed call) calls

-- WHICH CALLS A TRANSPORT MAKES

abbrev pub IsGives : Phase → Type 0
IsGives Absent = ⊥
IsGives (Gives bytes) = Unit {0}
IsGives (Takes bytes) = ⊥
IsGives Ends = ⊥

-- whatever bytes come may be received; a chunk is given where the tag gives one, and taken whole where it takes one
abbrev pub IsWanted : Device → Call → Type 0
IsWanted device (Receive bytes) = Unit {0}
IsWanted device (Give tag) = IsGives (wanted device tag)
IsWanted device (Take tag bytes) = wanted device tag ≡ Takes (length bytes)
IsWanted device (Send tag) = Unit {0}

abbrev pub AreWanted : Device → List Call → Type 0
AreWanted device [] = Unit {0}
AreWanted device (call ∷ calls) = IsWanted device call × AreWanted (called device call) calls

-- THE LAWS

-- new devices are the same
abbrev pub OpeningsAreSame : Type 0
OpeningsAreSame = (units : List BlockMaps) (shapes : List Shape) → AreNew units shapes → Same (opening GREATEST_TAG units) (backed_opening shapes units)

-- each call leaves them the same, and shows the same
abbrev pub CallsAreSame : Type 0
CallsAreSame =
    (device : Device) (backed : Backed) (call : Call) → Same device backed → IsWanted device call
    → Same (called device call) (backed_called backed call) × (backed_seen backed call ≡ seen device call)

-- so does a reset
abbrev pub ResetsAreSame : Type 0
ResetsAreSame = (device : Device) (backed : Backed) → Same device backed → Same (reset_device device) (backed_reset backed)

-- so from any two that are the same, as after a reset, a list of calls shows the same and leaves them the same
abbrev pub RunsAreSame : Type 0
RunsAreSame =
    (device : Device) (backed : Backed) (calls : List Call) → Same device backed → AreWanted device calls
    → (all_backed_seen backed calls ≡ all_seen device calls) × Same (device_after device calls) (backed_after backed calls)

-- each tag wants the same of a transport
abbrev pub TagsWantTheSame : Type 0
TagsWantTheSame = (device : Device) (backed : Backed) (tag : ℕ) → Same device backed → backed_wanted backed tag ≡ wanted device tag

-- and has the same answer
abbrev pub AnswersAreSame : Type 0
AnswersAreSame = (device : Device) (backed : Backed) (tag : ℕ) → Same device backed → backed_answered backed tag ≡ answered device tag

-- A READ'S BLOCKS MAY BE READ EARLY: before the chunk is given, where no other call comes between
abbrev pub ReadsMayBeEarly : Type 0
ReadsMayBeEarly =
    (device : Device) (backed : Backed) (tag : ℕ) → Same device backed
    → (backed_gave (settled backed tag) tag ≡ backed_gave backed tag) × (backed_given (settled backed tag) tag ≡ backed_given backed tag)

-- A CHUNK IN PARTS: the device with blocks moves whole chunks, the one without any parts of them

-- a chunk of which parts of any sizes are given in turn, and then the rest, is the chunk
abbrev pub GivesInParts : Type 0
GivesInParts =
    (machine : Machine) (tag : ℕ) (sizes : List ℕ) (rest : ℕ) → 0 < rest → tasks.wanted machine tag ≡ GivesBytes (sum sizes + rest)
    → (tasks.wanted (gave_parts machine tag sizes) tag ≡ GivesBytes rest)
    × (tasks.gave (gave_parts machine tag sizes) tag rest ≡ tasks.gave machine tag (sum sizes + rest))
    × (given_parts machine tag sizes ++ tasks.given (gave_parts machine tag sizes) tag rest ≡ tasks.given machine tag (sum sizes + rest))

-- so is one of which any parts are taken in turn, and then the rest
abbrev pub TakesInParts : Type 0
TakesInParts =
    (device : Device) (backed : Backed) (tag : ℕ) (parts : List (List ℕ)) (rest : List ℕ) → 0 < length rest → Same device backed
    → wanted device tag ≡ Takes (length (concat parts ++ rest))
    → tasks.took (took_parts backed.machine tag parts) tag rest ≡ tasks.took backed.machine tag (concat parts ++ rest)

-- THE HEADLINE

-- Whatever a transport does, a host sees the same of both devices.
abbrev pub OneDevice : Type 0
OneDevice =
    (units : List BlockMaps) (shapes : List Shape) (calls : List Call) → AreNew units shapes → AreWanted (opening GREATEST_TAG units) calls
    → all_backed_seen (backed_opening shapes units) calls ≡ all_seen (opening GREATEST_TAG units) calls

-- and the two are the same afterwards, block by block and tag by tag
abbrev pub StaysOneDevice : Type 0
StaysOneDevice =
    (units : List BlockMaps) (shapes : List Shape) (calls : List Call) → AreNew units shapes → AreWanted (opening GREATEST_TAG units) calls
    → Same (device_after (opening GREATEST_TAG units) calls) (backed_after (backed_opening shapes units) calls)
