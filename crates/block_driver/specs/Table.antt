-- What a tag has, and what becomes of it: Free, Outstanding from the submission on, Replied until the reply is taken.
use Rattle.std.specs.Prelude.{◌≡◌, slice_get, ℕ, ◌+◌, ◌-◌, ◌^◌, drop, fold, length, ◌==◌, ◌||◌, ◌&&◌, suc, min, nat_le, nat_lt, not, if◌then◌else◌, Bool, true, false, Option, None, Some, is_none, is_some, option_map, List, map, slice_index_or, slice_set}
use Rattle.std.specs.List.{position}
use Rattle.block_requests.specs.declared.outcomes.Outcome.{Outcome}
use Rattle.block_requests.specs.declared.outcomes.Outcome.TheVariants as outcome
use Rattle.bring_up.specs.declared.access.Access.{Access}
use Rattle.bring_up.specs.declared.access.Access.TheVariants.{Rest}
use Rattle.bring_up.specs.declared.controller.Controller.{Controller}
use Rattle.disk_ready.specs.declared.puts.Put.{Put}
use Rattle.disk_ready.specs.declared.puts.Spots.{Spots}
use Rattle.disk_ready.specs.declared.puts.Target.{Target}
use Rattle.disk_ready.specs.declared.puts.Way.{Way}
use Rattle.disk_ready.specs.declared.puts.Way.TheVariants as way
use Rattle.disk_ready.specs.Puts.{put_access, put_after}
use Rattle.host_layout.specs.declared.layout.Layout.{Layout}
use Rattle.block_driver.specs.declared.table.DataState.{DataState}
use Rattle.block_driver.specs.declared.table.DataState.TheVariants as data_state
use Rattle.block_driver.specs.declared.table.Ending.TheVariants as ending
use Rattle.block_driver.specs.declared.table.Entry.{Entry}
use Rattle.block_driver.specs.declared.table.Entry.TheVariants as entry
use Rattle.block_driver.specs.declared.kinds.Kind.{Kind}
use Rattle.block_driver.specs.declared.kinds.Kind.TheVariants as kind
use Rattle.block_driver.specs.declared.kinds.StreamPipe.{StreamPipe}
use Rattle.block_driver.specs.declared.kinds.StreamPipe.TheVariants as pipe
use Rattle.block_driver.specs.declared.table.Loss.{Loss}
use Rattle.block_driver.specs.declared.table.Outstanding.{Outstanding}
use Rattle.block_driver.specs.declared.table.Came.{Came}
use Rattle.block_driver.specs.declared.table.Told.{Told}

-- ONE TAG

-- the mark of the command that it has
abbrev pub mark_of : Entry → Option ℕ
mark_of entry.Free = None
mark_of (entry.Outstanding command) = Some command.mark
mark_of (entry.Replied came) = Some came.mark

abbrev pub is_pending : DataState → Bool
is_pending data_state.Nothing = false
is_pending data_state.Pending = true
is_pending (data_state.Moved count) = false

abbrev pub is_way : Way → Bool → Bool
is_way way.Nothing is_in = false
is_way way.In is_in = is_in
is_way way.Out is_in = not is_in

-- when its time is over; that of its data is where its status came without them
abbrev pub limit_with : Option Told → ℕ → ℕ
limit_with None limit = limit
limit_with (Some told) limit = min limit told.until

abbrev pub command_limit : Outstanding → ℕ
command_limit command = limit_with command.status command.limit

-- its data's TD is to be taken off at this time: the time of its data is over
abbrev pub is_data_stuck : Outstanding → ℕ → Bool
is_data_stuck command now = is_some command.spots && is_pending command.data_state && nat_le (command_limit command) now

-- its status's TD is: the disk aborted it, and no status came
abbrev pub is_status_stuck : Outstanding → Bool
is_status_stuck command = command.is_aborted && is_none command.status

abbrev pub is_stuck : StreamPipe → Outstanding → ℕ → Bool
is_stuck pipe.DataIn command now = is_data_stuck command now && is_way command.sent.way true
is_stuck pipe.DataOut command now = is_data_stuck command now && is_way command.sent.way false
is_stuck pipe.Status command now = is_status_stuck command

-- its TD on a pipe is pending
abbrev pub has_moving_data : Outstanding → Bool → Bool
has_moving_data command is_in = is_some command.spots && is_pending command.data_state && is_way command.sent.way is_in

abbrev pub is_moving : StreamPipe → Outstanding → Bool
is_moving pipe.DataIn command = has_moving_data command true
is_moving pipe.DataOut command = has_moving_data command false
is_moving pipe.Status command = is_some command.spots && is_none command.status

-- a command waits until its TDs have places
abbrev pub is_command : Kind → Outstanding → Bool
is_command kind.Free command = false
is_command kind.Waiting command = is_none command.spots
is_command kind.Replied command = false
is_command (kind.Stuck on now) command = is_stuck on command now
is_command (kind.Moving on) command = is_moving on command
is_command (kind.Late now) command = nat_le command.limit now
is_command kind.Out command = true

abbrev pub is_free_kind : Kind → Bool
is_free_kind kind.Free = true
is_free_kind _ = false

abbrev pub is_replied_kind : Kind → Bool
is_replied_kind kind.Replied = true
is_replied_kind _ = false

abbrev pub is_kind : Kind → Entry → Bool
is_kind which entry.Free = is_free_kind which
is_kind which (entry.Outstanding command) = is_command which command
is_kind which (entry.Replied came) = is_replied_kind which

-- the way of its data
abbrev pub way_of : Entry → Way
way_of entry.Free = way.Nothing
way_of (entry.Outstanding command) = command.sent.way
way_of (entry.Replied came) = way.Nothing

-- the bytes of its data
abbrev pub wanted_at : Entry → ℕ
wanted_at entry.Free = 0
wanted_at (entry.Outstanding command) = command.wanted
wanted_at (entry.Replied came) = 0

-- its put
abbrev pub access_at : Option Spots → Outstanding → Put → Controller → Layout → Target → Access
access_at None command at c layout target = Rest 0
access_at (Some spots) command at c layout target = put_access at c layout target command.sent spots command.pieces.items

abbrev pub command_access : Outstanding → Put → Controller → Layout → Target → Access
command_access command at c layout target = access_at command.spots command at c layout target

abbrev pub entry_access : Entry → Put → Controller → Layout → Target → Access
entry_access entry.Free at c layout target = Rest 0
entry_access (entry.Outstanding command) at c layout target = command_access command at c layout target
entry_access (entry.Replied came) at c layout target = Rest 0

abbrev pub next_at : Option Spots → Outstanding → Put → Option Put
next_at None command at = None
next_at (Some spots) command at = put_after at command.sent spots command.pieces.items

abbrev pub command_next : Outstanding → Put → Option Put
command_next command at = next_at command.spots command at

abbrev pub entry_next : Entry → Put → Option Put
entry_next entry.Free at = None
entry_next (entry.Outstanding command) at = command_next command at
entry_next (entry.Replied came) at = None

abbrev pub entry_put : Spots → Entry → Entry
entry_put spots entry.Free = entry.Free
entry_put spots (entry.Outstanding command) = entry.Outstanding (record command { spots = Some spots })
entry_put spots (entry.Replied came) = entry.Replied came

-- when its time is over
abbrev pub entry_limit : Entry → ℕ
entry_limit entry.Free = 2 ^ 64 - 1
entry_limit (entry.Outstanding command) = command_limit command
entry_limit (entry.Replied came) = 2 ^ 64 - 1

-- whether it is out, and whether its TDs have places
abbrev pub is_outstanding : Entry → Bool
is_outstanding entry.Free = false
is_outstanding (entry.Outstanding command) = true
is_outstanding (entry.Replied came) = false

abbrev pub is_put : Entry → Bool
is_put entry.Free = false
is_put (entry.Outstanding command) = is_some command.spots
is_put (entry.Replied came) = false

-- ITS END: a reply waits for the data and the status

abbrev pub moved_count : DataState → Option ℕ
moved_count data_state.Nothing = Some 0
moved_count data_state.Pending = None
moved_count (data_state.Moved count) = Some count

-- a TD ends once
abbrev pub data_moved_in : DataState → ℕ → DataState
data_moved_in data_state.Nothing count = data_state.Nothing
data_moved_in data_state.Pending count = data_state.Moved count
data_moved_in (data_state.Moved before) count = data_state.Moved before

-- GOOD is short where fewer bytes were moved than were wanted
abbrev pub ended_with : Outcome → ℕ → ℕ → Outcome
ended_with outcome.Good moved wanted = if moved == wanted then outcome.Good else outcome.Short
ended_with other moved wanted = other

abbrev pub told_came : Outstanding → ℕ → Told → Came
told_came command moved told = record {
  mark = command.mark;
  moved = moved;
  ending = ending.Told (ended_with told.outcome moved command.wanted);
}

abbrev pub settled_told : Option Told → Outstanding → ℕ → Entry
settled_told None command moved = entry.Outstanding command
settled_told (Some told) command moved = entry.Replied (told_came command moved told)

abbrev pub settled_by : Option ℕ → Outstanding → Entry
settled_by None command = entry.Outstanding command
settled_by (Some moved) command = settled_told command.status command moved

abbrev pub settled_command : Outstanding → Entry
settled_command command = settled_by (moved_count command.data_state) command

abbrev pub settled : Entry → Entry
settled entry.Free = entry.Free
settled (entry.Outstanding command) = settled_command command
settled (entry.Replied came) = entry.Replied came

abbrev pub entry_moved : ℕ → Entry → Entry
entry_moved count entry.Free = entry.Free
entry_moved count (entry.Outstanding command) = settled_command (record command { data_state = data_moved_in command.data_state count })
entry_moved count (entry.Replied came) = entry.Replied came

-- they were stopped, and so many bytes were moved so far
abbrev pub entry_stopped : ℕ → Entry → Entry
entry_stopped count entry.Free = entry.Free
entry_stopped count (entry.Outstanding command) = entry.Outstanding (record command { stopped = count })
entry_stopped count (entry.Replied came) = entry.Replied came

-- they were taken off: what was moved before they were stopped counts
abbrev pub entry_freed : Entry → Entry
entry_freed entry.Free = entry.Free
entry_freed (entry.Outstanding command) = settled_command (record command { data_state = data_moved_in command.data_state command.stopped })
entry_freed (entry.Replied came) = entry.Replied came

abbrev pub entry_told : Told → Entry → Entry
entry_told told entry.Free = entry.Free
entry_told told (entry.Outstanding command) = settled_command (record command { status = Some told })
entry_told told (entry.Replied came) = entry.Replied came

-- AN ABORT: a command that isn't put yet ends at once; the time of another is over

abbrev pub aborted_came : Outstanding → ℕ → Came
aborted_came command moved = record { mark = command.mark; moved = moved; ending = ending.Aborted }

abbrev pub doomed_by : Option Spots → Outstanding → Entry
doomed_by None command = entry.Replied (aborted_came command 0)
doomed_by (Some spots) command = entry.Outstanding (record command { limit = 0 })

abbrev pub entry_doomed : Entry → Entry
entry_doomed entry.Free = entry.Free
entry_doomed (entry.Outstanding command) = doomed_by command.spots command
entry_doomed (entry.Replied came) = entry.Replied came

-- the disk aborted it, if it is put; another that has its tag by now isn't
abbrev pub entry_aborted : Entry → Entry
entry_aborted entry.Free = entry.Free
entry_aborted (entry.Outstanding command) = entry.Outstanding (record command { is_aborted = is_some command.spots })
entry_aborted (entry.Replied came) = entry.Replied came

-- the status's TD of one that the disk aborted was taken off: its reply waits for its data too
abbrev pub unanswered_by : Option ℕ → Bool → Outstanding → Entry
unanswered_by None is command = entry.Outstanding command
unanswered_by (Some moved) is command = if is then entry.Replied (aborted_came command moved) else entry.Outstanding command

abbrev pub unanswered : Outstanding → Entry
unanswered command = unanswered_by (moved_count command.data_state) (is_status_stuck command) command

abbrev pub entry_unanswered : Entry → Entry
entry_unanswered entry.Free = entry.Free
entry_unanswered (entry.Outstanding command) = unanswered command
entry_unanswered (entry.Replied came) = entry.Replied came

-- its TD on a pipe was taken off
abbrev pub entry_off : StreamPipe → Entry → Entry
entry_off pipe.DataIn one = entry_freed one
entry_off pipe.DataOut one = entry_freed one
entry_off pipe.Status one = entry_unanswered one

-- what an outstanding command came to isn't known any more
abbrev pub lost_came : Outstanding → Loss → Came
lost_came command loss = record { mark = command.mark; moved = 0; ending = ending.Lost loss }

abbrev pub entry_lost : Loss → Entry → Entry
entry_lost loss entry.Free = entry.Free
entry_lost loss (entry.Outstanding command) = entry.Replied (lost_came command loss)
entry_lost loss (entry.Replied came) = entry.Replied came

-- a reply that is taken leaves the tag free
abbrev pub came_in : Entry → Option Came
came_in entry.Free = None
came_in (entry.Outstanding command) = None
came_in (entry.Replied came) = Some came

abbrev pub entry_taken : Entry → Entry
entry_taken entry.Free = entry.Free
entry_taken (entry.Outstanding command) = entry.Outstanding command
entry_taken (entry.Replied came) = entry.Free

-- ALL TAGS, tag 1 first

abbrev pub place_in : List Entry → ℕ → Option ℕ
place_in tags tag = if (tag == 0) || nat_lt (length tags) tag then None else Some (tag - 1)

-- a tag that isn't there has nothing
abbrev pub entry_under : Option ℕ → List Entry → Entry
entry_under None tags = entry.Free
entry_under (Some place) tags = slice_index_or tags place entry.Free

abbrev pub entry_at : List Entry → ℕ → Entry
entry_at tags tag = entry_under (place_in tags tag) tags

-- a tag has what this makes of what it had
abbrev pub changed_under : Option ℕ → (Entry → Entry) → List Entry → List Entry
changed_under None change tags = tags
changed_under (Some place) change tags = slice_set tags place (change (slice_index_or tags place entry.Free))

abbrev pub changed : (Entry → Entry) → List Entry → ℕ → List Entry
changed change tags tag = changed_under (place_in tags tag) change tags

-- the marks of all tags' commands: what a call may change of them is told of each
abbrev pub marks : List Entry → List (Option ℕ)
marks tags = map mark_of tags

-- each reply before stands behind
pub record RepliesStand (before behind : List Entry) : Type 0 where
  pub stand : (place : ℕ) (came : Came) → slice_get before place ≡ Some (entry.Replied came) → slice_get behind place ≡ Some (entry.Replied came)

-- the lowest tag of a kind
abbrev pub first_of : Kind → List Entry → Option ℕ
first_of which tags = option_map suc (position (is_kind which) tags)

-- the lowest above a tag
abbrev pub next_of : Kind → List Entry → ℕ → Option ℕ
next_of which tags tag = option_map (λ place. tag + place + 1) (position (is_kind which) (drop tag tags))

-- the time at which the first of all is over
abbrev pub least_limit : List Entry → ℕ
least_limit tags = fold (λ least one. min least (entry_limit one)) (2 ^ 64 - 1) tags

abbrev pub all_lost : List Entry → Loss → List Entry
all_lost tags loss = map (entry_lost loss) tags
