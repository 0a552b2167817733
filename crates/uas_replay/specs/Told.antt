-- What a script tells: the text that its run prints, and a number.
use Rattle.std.specs.Prelude.{ℕ, zero, suc, Bool, true, false, ◌||◌, if◌then◌else◌, List, [], ◌∷◌, ◌++◌, length, fold, replicate, slice_get, option_to_list}
use Rattle.std.specs.Prelude.{slice_set, slice_index_or, Option, Some, None, Result, Ok, Err}
use Rattle.std.specs.Option.{option_map_or}
use Rattle.block_unit.specs.BlockMaps.{BlockMaps, fresh}
use Rattle.scsi_cmd.specs.declared.Command.{Command}
use Rattle.uas_profile.specs.declared.Direction.{Direction}
use Rattle.uas_profile.specs.declared.Direction.TheVariants.{Nothing, ToHost, ToDevice}
use Rattle.scsi_cmd.specs.declared.Reply.{Reply}
use Rattle.scsi_cmd.specs.Replies.{reply_tag, reply_ticket}
use Rattle.scsi_cmd.specs.Op.{moved_bytes, direction_of}
use Rattle.tag_range.specs.declared.Refused.{Refused}
use Rattle.tag_range.specs.Tags.{CountedTags, opening_counted, issue_counted, issue_task_counted, free_counted, is_issued_counted}
use Rattle.shared_machine.specs.declared.Step.{Step}
use Rattle.shared_machine.specs.declared.Step.TheVariants as step
use Rattle.shared_machine.specs.declared.Refusal.{Refusal}
use Rattle.shared_machine.specs.declared.Outcome.{Outcome}
use Rattle.shared_machine.specs.Shared.{Shared, opening, due, shared_step}
use Rattle.shared_machine.specs.Drain.{drained}
use Rattle.uas_replay.specs.declared.replay.Handed.{Handed}
use Rattle.uas_replay.specs.declared.replay.Handed.TheVariants as hand
use Rattle.uas_script.specs.declared.Request.{Request}
use Rattle.uas_script.specs.declared.Line.{Line}
use Rattle.uas_script.specs.declared.Line.TheVariants as line
use Rattle.uas_replay.specs.Printed.{reply_line, is_failure, refused_name, fault_name, refusal_line, idle_line}

-- a drain takes so many steps at most
abbrev pub drain_limit : ℕ
drain_limit = 100000

-- A script's run so far: the shared machine, each client's tags, for each client and each ticket that it was given
-- whether the bus took a command under it that moves data to the host, the text, and whether that tells a check, an
-- abort or a refusal.
pub record Telling : Type 0 where
  pub machine : Shared
  pub ranges : List CountedTags
  pub brings_in : List (List Bool)
  pub text : List ℕ
  pub failed : Bool

-- so many units of zeroed blocks, in each of which this block is bad where the unit has it
abbrev pub zeroed_units : ℕ → ℕ → Option ℕ → List BlockMaps
zeroed_units clients blocks bad = replicate clients (fresh blocks (option_to_list bad))

-- the tags of the clients below this number, so many of each, none of them out
abbrev pub opening_ranges : ℕ → ℕ → List CountedTags
opening_ranges tags zero = []
opening_ranges tags (suc client) = opening_ranges tags client ++ opening_counted tags client ∷ []

-- the run before its first line, with so many tags of each client
abbrev pub opening_run : ℕ → List BlockMaps → Telling
opening_run tags units = record {
  machine = opening tags units;
  ranges = opening_ranges tags (length units);
  brings_in = replicate (length units) [];
  text = [];
  failed = false;
}

-- the machine after a step, and what came of it
unfoldable pub step_of : Shared → Step → Shared × Outcome
step_of machine step = shared_step machine step

unfoldable pub is_due : Shared → Step → Bool
is_due machine step = due machine step

-- the machine after a drain of so many steps at most
unfoldable pub drained_machine : Shared → ℕ → Shared
drained_machine machine limit = (drained machine limit).state

-- SUBMISSIONS

abbrev pub is_to_host : Direction → Bool
is_to_host Nothing = false
is_to_host ToHost = true
is_to_host ToDevice = false

-- the operation, with a buffer of the fill byte, as long as what it moves
abbrev pub command_of : Request → Command
command_of request = record { op = request.op; buffer = replicate (moved_bytes request.op) request.fill }

-- a refusal prints its name and is a failure
abbrev pub refused_run : Telling → ℕ → List ℕ → Telling
refused_run run client name = record run { text = run.text ++ refusal_line client name; failed = true }

-- a tag that is out is freed
abbrev pub freed_tags : CountedTags → ℕ → CountedTags
freed_tags tags tag = if is_issued_counted tags tag then free_counted tags tag else tags

abbrev pub freed_range : List CountedTags → ℕ → ℕ → Option CountedTags → List CountedTags
freed_range ranges client tag None = ranges
freed_range ranges client tag (Some tags) = slice_set ranges client (freed_tags tags tag)

abbrev pub freed_run : Telling → ℕ → ℕ → Telling
freed_run run client tag = record run { ranges = freed_range run.ranges client tag (slice_get run.ranges client) }

-- what the bus made of a submission: its refusal skips the ticket and frees the tag
abbrev pub handed_over : Telling → ℕ → ℕ → Option Refusal → Telling
handed_over run client tag None = run
handed_over run client tag (Some refusal) = refused_run (freed_run run client tag) client (fault_name refusal.fault)

-- whether the bus took a command of this direction, and it is to the host
abbrev pub took_to_host : Direction → Option Refusal → Bool
took_to_host direction None = is_to_host direction
took_to_host direction (Some refusal) = false

-- it is noted of the client's ticket that was given out last
abbrev pub noted : List (List Bool) → ℕ → Bool → Option (List Bool) → List (List Bool)
noted all client brings_in None = all
noted all client brings_in (Some before) = slice_set all client (before ++ brings_in ∷ [])

abbrev pub noted_run : Telling → ℕ → Bool → Telling
noted_run run client brings_in =
    record run { brings_in = noted run.brings_in client brings_in (slice_get run.brings_in client) }

-- what was noted of a ticket of a client, false where nothing was
abbrev pub is_brought_in : List (List Bool) → ℕ → ℕ → Bool
is_brought_in all client ticket = option_map_or (λ noted. slice_index_or noted ticket false) (slice_get all client) false

abbrev pub with_range : Telling → ℕ → CountedTags → Telling
with_range run client tags = record run { ranges = slice_set run.ranges client tags }

-- the client's own tags give a command a tag and a ticket, and a task management the task tag and a ticket, or refuse it
abbrev pub issued_for : Handed → CountedTags → CountedTags × Result (ℕ × ℕ) Refused
issued_for (hand.Command request) tags = issue_counted tags
issued_for (hand.Task task) tags = issue_task_counted tags

-- the step that hands it in under them
abbrev pub handing_in : Handed → ℕ → ℕ × ℕ → Step
handing_in (hand.Command request) client given = step.Submit client given.0 given.1 (command_of request)
handing_in (hand.Task task) client given = step.Task client given.1 task

abbrev pub brought_in_by : Handed → Option Refusal → Bool
brought_in_by (hand.Command request) refused = took_to_host (direction_of request.op) refused
brought_in_by (hand.Task task) refused = false

-- what was handed in once the client's tags gave it a tag and a ticket, or refused it
abbrev pub given_run : Telling → ℕ → Handed → Result (ℕ × ℕ) Refused → Telling
given_run run client handed (Err refused) = refused_run run client (refused_name refused)
given_run run client handed (Ok given) =
    let after = step_of run.machine (handing_in handed client given) in
    handed_over (noted_run (record run { machine = after.0 }) client (brought_in_by handed after.1.refused)) client given.0 after.1.refused

abbrev pub handed_in_by : Telling → ℕ → Handed → Option CountedTags → Telling
handed_in_by run client handed None = run
handed_in_by run client handed (Some tags) = given_run (with_range run client (issued_for handed tags).0) client handed (issued_for handed tags).1

unfoldable pub handed_in : Telling → ℕ → Handed → Telling
handed_in run client handed = handed_in_by run client handed (slice_get run.ranges client)

-- STEPS AND REPLIES

-- a reply prints its line and frees its tag
abbrev pub replied : Telling → ℕ → Option Reply → Telling
replied run client None = run
replied run client (Some reply) = record (freed_run run client (reply_tag reply)) {
  text = run.text ++ reply_line client (is_brought_in run.brings_in client (reply_ticket reply)) reply;
  failed = run.failed || is_failure reply;
}

-- a client takes a reply, where one is ready
unfoldable pub taken : Telling → ℕ → Telling
taken run client =
    let after = step_of run.machine (step.Take client) in
    if is_due run.machine (step.Take client) then replied (record run { machine = after.0 }) client after.1.reply else run

abbrev pub idle_run : Telling → Telling
idle_run run = record run { text = run.text ++ idle_line }

-- a step of the bus prints nothing where it acts
unfoldable pub stepped : Telling → Step → Telling
stepped run step = if is_due run.machine step then record run { machine = (step_of run.machine step).0 } else idle_run run

-- the step Take as a line
unfoldable pub taken_or_idle : Telling → ℕ → Telling
taken_or_idle run client = if is_due run.machine (step.Take client) then taken run client else idle_run run

-- a client takes its replies, so many at most
abbrev pub taken_times : ℕ → Telling → ℕ → Telling
taken_times zero run client = run
taken_times (suc times) run client = taken (taken_times times run client) client

-- A client takes its replies until none is ready: one a tag at most.
unfoldable pub all_taken_by : Telling → ℕ → Telling
all_taken_by run client = taken_times run.machine.tags run client

-- the clients below this number take theirs, by rising number
abbrev pub taken_below : ℕ → Telling → Telling
taken_below zero run = run
taken_below (suc client) run = all_taken_by (taken_below client run) client

unfoldable pub all_taken : Telling → Telling
all_taken run = taken_below (length run.ranges) run

-- the line `drain`
unfoldable pub drained_run : Telling → Telling
drained_run run = all_taken (record run { machine = drained_machine run.machine drain_limit })

-- SCRIPTS

unfoldable pub told_line : Telling → Line → Telling
told_line run (line.Submit client request) = handed_in run client (hand.Command request)
told_line run (line.Task client task) = handed_in run client (hand.Task task)
told_line run line.CommandPipe = stepped run step.CommandPipe
told_line run line.Engine = stepped run step.Engine
told_line run line.Event = stepped run step.Event
told_line run (line.Data tag) = stepped run (step.Data tag)
told_line run (line.Status tag) = stepped run (step.Status tag)
told_line run (line.Retire pipe tag) = stepped run (step.Retire pipe tag)
told_line run (line.Take client) = taken_or_idle run client
told_line run line.Drain = drained_run run

-- the whole run of these lines, with so many tags of each client: a drain follows the last one
abbrev pub whole_run : ℕ → List BlockMaps → List Line → Telling
whole_run tags units lines = drained_run (fold told_line (opening_run tags units) lines)

-- Script meaning: the text printed for these lines on these units, with so many tags of each client, and 1 where it tells a
-- check, an abort or a refusal, else 0.
unfoldable pub told : ℕ → List BlockMaps → List Line → List ℕ × ℕ
told tags units lines = let after = whole_run tags units lines in (after.text, if after.failed then 1 else 0)
