-- What the host makes of what an event tells.
use Rattle.std.specs.Prelude.{ℕ, ◌==◌, not, Bool, true, false, ◌&&◌, if◌then◌else◌, List, [], map, length, slice_set, Option, Some, None, option_map}
use Rattle.std.specs.Prelude.{option_and_then}
use Rattle.std.specs.Option.{option_map_or}
use Rattle.std.specs.List.{list_any}
use Rattle.uas_profile.specs.declared.Pipe.{Pipe}
use Rattle.uas_profile.specs.declared.Pipe.TheVariants.{Command, Status, DataIn, DataOut}
use Rattle.uas_profile.specs.declared.Direction.{Direction}
use Rattle.uas_profile.specs.declared.Direction.TheVariants.{ToHost, ToDevice}
use Rattle.scsi_cmd.specs.Request.{ended_by, is_command, request_direction}
use Rattle.scsi_cmd.specs.Held.{held_at}
use Rattle.uas_profile.specs.declared.TdState.{TdState}
use Rattle.uas_profile.specs.declared.TdState.TheVariants.{Seen, LeftOver, Retired}
use Rattle.uas_host.specs.declared.HostAnswer.TheVariants.{Status as AnsweredStatus, Response as AnsweredResponse}
use Rattle.scsi_cmd.specs.declared.Request.{Request}
use Rattle.scsi_cmd.specs.declared.Request.TheVariants.{Execute, Manage}
use Rattle.uas_host.specs.declared.HostEntry.{HostEntry}
use Rattle.uas_host.specs.declared.HostClient.{HostClient}
use Rattle.uas_host.specs.Notices.{Notice, CommandSeen, DataInSeen, DataOutSeen, Answered, Responded, TdRetired}
use Rattle.uas_profile.specs.declared.Place.{Place}
use Rattle.uas_profile.specs.TdStates.{is_left_over, is_pending}
use Rattle.uas_host.specs.State.{HostState, client_of, is_ready, queued_if, with_client}
use Rattle.uas_profile.specs.Tags.{place_of}

-- TDS

abbrev pub left_over_td : TdState → TdState
left_over_td td = if is_pending td then LeftOver else td

abbrev pub left_over_data : Option TdState → Option TdState
left_over_data td = option_map left_over_td td

-- CHECK CONDITION, 02h, leaves an unseen data TD over
abbrev pub data_after : ℕ → Option TdState → Option TdState
data_after status td = if status == 2 then left_over_data td else td

-- data of this direction goes over this pipe
abbrev pub is_way_of : Pipe → Direction → Bool
is_way_of DataIn ToHost = true
is_way_of DataOut ToDevice = true
is_way_of _ _ = false

abbrev pub goes_to_host : Direction → Bool
goes_to_host way = is_way_of DataIn way

abbrev pub goes_to_device : Direction → Bool
goes_to_device way = is_way_of DataOut way

-- the data TD is seen, where it waits and the event is of its pipe
abbrev pub seen_data : Bool → HostEntry → Option TdState → Option HostEntry
seen_data right held None = None
seen_data right held (Some td) = if right && is_pending td then Some (record held { data_td = Some Seen }) else None

-- the data TD is left over, and of this pipe
abbrev pub is_data_left_over : Bool → HostEntry → Bool
is_data_left_over right held = right && option_map_or is_left_over held.data_td false

-- the entry's TD on a pipe is left over; that of the command pipe never is
abbrev pub is_td_left_over : Pipe → HostEntry → Bool
is_td_left_over Command held = false
is_td_left_over Status held = is_left_over held.status_td
is_td_left_over DataIn held = is_data_left_over (goes_to_host (request_direction held.request)) held
is_td_left_over DataOut held = is_data_left_over (goes_to_device (request_direction held.request)) held

-- the entry's TD on a pipe is retired
abbrev pub with_retired : Pipe → HostEntry → HostEntry
with_retired Command held = held
with_retired Status held = record held { status_td = Retired }
with_retired DataIn held = record held { data_td = Some Retired }
with_retired DataOut held = record held { data_td = Some Retired }

-- ONE ENTRY

-- The entry once the host has seen the event, or none where it waits for no such event: a status is a command's, a response
-- a task management's.
abbrev pub seen : Notice → HostEntry → Option HostEntry
seen CommandSeen held = if is_pending held.command_td then Some (record held { command_td = Seen }) else None
seen DataInSeen held = seen_data (goes_to_host (request_direction held.request)) held held.data_td
seen DataOutSeen held = seen_data (goes_to_device (request_direction held.request)) held held.data_td
seen (Answered status sense) held =
    if is_command held.request && is_pending held.status_td
    then Some (record held { told = AnsweredStatus status sense; status_td = Seen; data_td = data_after status held.data_td })
    else None
seen (Responded code) held =
    if not (is_command held.request) && is_pending held.status_td
    then Some (record held { told = AnsweredResponse code; status_td = Seen })
    else None
seen (TdRetired pipe) held = if is_td_left_over pipe held then Some (with_retired pipe held) else None

-- THE DOOMED COMMANDS

-- the tickets of the commands that a task management ends
abbrev pub ended_in : Request → List ℕ
ended_in (Execute op) = []
ended_in (Manage task noted) = (ended_by task noted).items

-- A command that the task management ends, still under its tag by its ticket, whose status can't come any more once the
-- response COMPLETE came.
abbrev pub is_doomed : List ℕ → HostEntry → Bool
is_doomed noted held = is_command held.request && (is_pending held.status_td && list_any (λ ticket. ticket == held.ticket) noted)

-- its status TD is left over, and its data TD where unseen
abbrev pub doomed : List ℕ → HostEntry → HostEntry
doomed noted held =
    if is_doomed noted held then record held { status_td = LeftOver; data_td = left_over_data held.data_td } else held

abbrev pub after_response : List ℕ → List (Option HostEntry) → List (Option HostEntry)
after_response noted entries = map (option_map (doomed noted)) entries

-- the response COMPLETE is 00h
abbrev pub completes : Notice → Bool
completes (Responded code) = code == 0
completes _ = false

-- ONE CLIENT AND THE HOST

-- the entries once one of them was seen
abbrev pub entries_after : Notice → Request → List (Option HostEntry) → List (Option HostEntry)
entries_after notice request entries = if completes notice then after_response (ended_in request) entries else entries

-- What is ready now is the last of the ready ones. No doomed command is ready by the response, as its status TD is left over.
abbrev pub with_seen : Notice → HostClient → ℕ → HostEntry → HostClient
with_seen notice client slot now = record {
  entries = entries_after notice now.request (slice_set client.entries slot (Some now));
  least_ticket = client.least_ticket;
  ready = record { items = queued_if (is_ready now) client.ready.items slot };
}

abbrev pub client_seen : Notice → HostClient → ℕ → Option HostClient
client_seen notice client slot = option_map (with_seen notice client slot) (option_and_then (seen notice) (held_at client.entries slot))

abbrev pub place_seen : Notice → HostState → Place → Option HostState
place_seen notice host place = option_map (with_client host place.client) (client_seen notice (client_of host place.client) place.slot)

-- the host once it has seen the event of a tag
abbrev pub host_seen : Notice → HostState → ℕ → Option HostState
host_seen notice host tag = option_and_then (place_seen notice host) (place_of host.tags (length host.clients) tag)

-- what the host has under a tag
abbrev pub held_of : HostState → ℕ → Option HostEntry
held_of host tag = option_and_then (λ place. held_at (client_of host place.client).entries place.slot) (place_of host.tags (length host.clients) tag)
