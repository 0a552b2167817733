-- What a host knows, and what is true of it.
use Rattle.std.specs.Prelude.{◌≡◌, ℕ, ◌*◌, ◌<◌, ◌≤◌, Bool, true, false, cond, ◌&&◌, List, [], ◌∷◌, ◌++◌, length, replicate, Option, Some, None}
use Rattle.std.specs.Prelude.{IfSome, slice_set, slice_index_or}
use Rattle.uas_profile.specs.TdStates.{is_seen, is_over, one_if, times_in}
use Rattle.uas_profile.specs.Pipes.{HasStreams}
use Rattle.scsi_cmd.specs.Request.{is_command}
use Rattle.uas_profile.specs.Tags.{AreTags}
use Rattle.uas_profile.specs.declared.TheConstants.{MOST_TAGS, MAX_CLIENTS, STREAMS}
use Rattle.scsi_cmd.specs.Held.{AllHeld, held_at}
use Rattle.uas_profile.specs.declared.TdState.{TdState}
use Rattle.uas_profile.specs.declared.TdState.TheVariants.{LeftOver, Retired}
use Rattle.uas_host.specs.declared.HostAnswer.{HostAnswer}
use Rattle.uas_host.specs.declared.HostAnswer.TheVariants.{Status, Response}
use Rattle.scsi_cmd.specs.declared.Request.{Request}
use Rattle.scsi_cmd.specs.declared.Request.TheVariants.{Execute, Manage}
use Rattle.uas_host.specs.declared.HostEntry.{HostEntry}
use Rattle.uas_host.specs.declared.HostClient.{HostClient}
use Rattle.uas_host.specs.declared.Retirement.{Retirement}

-- how many tags each client has, the clients by number, and the retirement under way
pub record HostState : Type 0 where
  pub tags : ℕ
  pub clients : List HostClient
  pub retirement : Option Retirement

-- a client that has submitted nothing
abbrev pub new_client : HostClient
new_client = record { entries = replicate MOST_TAGS None; least_ticket = 0; ready = record { items = [] } }

-- the host of so many clients with so many tags each that have submitted nothing
abbrev pub opening : ℕ → ℕ → HostState
opening tags clients = record { tags = tags; clients = replicate clients new_client; retirement = None }

-- the client of this number
abbrev pub client_of : HostState → ℕ → HostClient
client_of host client = slice_index_or host.clients client new_client

-- the host with this for the client of this number
abbrev pub with_client : HostState → ℕ → HostClient → HostState
with_client host client now = record host { clients = slice_set host.clients client now }

-- TDS

-- its event doesn't come: it was left over, and may be retired
abbrev pub is_given_up : TdState → Bool
is_given_up LeftOver = true
is_given_up Retired = true
is_given_up _ = false

-- a command without data has no data TD
abbrev pub is_data_over : Option TdState → Bool
is_data_over None = true
is_data_over (Some td) = is_over td

-- A command is ready once its command event was seen, its status TD was seen or, of a doomed one, retired, and its data TD
-- was seen or retired. A task management is ready once its command event and its response were seen.
abbrev pub is_ready : HostEntry → Bool
is_ready held = is_seen held.command_td && (is_over held.status_td && is_data_over held.data_td)

-- THE READY SLOTS

abbrev pub readied_of : Option HostEntry → ℕ
readied_of None = 0
readied_of (Some held) = one_if (is_ready held)

-- the slots whose entries are ready are queued, each once, and no other slot is
abbrev pub AreReady : List (Option HostEntry) → List ℕ → Type 0
AreReady entries queue = (slot : ℕ) → times_in slot queue ≡ readied_of (held_at entries slot)

-- the queue once a slot may have become ready; it is the last then
abbrev pub queued_if : Bool → List ℕ → ℕ → List ℕ
queued_if ready queue slot = cond ready (queue ++ slot ∷ []) queue

-- WHAT IS TRUE OF EVERY HOST

abbrev pub is_status : HostAnswer → Bool
is_status (Status status sense) = true
is_status _ = false

abbrev pub is_response : HostAnswer → Bool
is_response (Response code) = true
is_response _ = false

-- a command is answered by a status, a task management by a response
abbrev pub is_answer_to : Request → HostAnswer → Bool
is_answer_to (Execute op) told = is_status told
is_answer_to (Manage task noted) told = is_response told

-- a status TD that was seen told the answer, and a task management's is never given up
pub record WasTold (held : HostEntry) : Type 0 where
  pub answer : is_seen held.status_td ≡ true → is_answer_to held.request held.told ≡ true
  pub command : is_given_up held.status_td ≡ true → is_command held.request ≡ true

-- The slots from its number of tags on are empty: the tag of such a slot would be another client's.
pub record IsHostClient (tags : ℕ) (held : HostClient) : Type 0 where
  pub slots : length held.entries ≡ MOST_TAGS
  pub empty : (slot : ℕ) → tags ≤ slot → held_at held.entries slot ≡ None
  pub ready : AreReady held.entries held.ready.items
  pub told : AllHeld WasTold held.entries

-- a retirement is of a pipe with streams and of a tag of a client that is there
pub record IsRetirement (tags clients : ℕ) (retirement : Retirement) : Type 0 where
  pub streams : HasStreams retirement.pipe
  pub client : retirement.place.client < clients
  pub slot : retirement.place.slot < tags

-- each tag has its streams
pub record IsHost (host : HostState) : Type 0 where
  pub number : AreTags host.tags
  pub some : 1 ≤ length host.clients
  pub most : length host.clients ≤ MAX_CLIENTS
  pub streams : length host.clients * host.tags ≤ STREAMS
  pub clients : (client : ℕ) → client < length host.clients → IsHostClient host.tags (client_of host client)
  pub retirement : IfSome host.retirement (IsRetirement host.tags (length host.clients))
