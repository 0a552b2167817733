-- Rows 15 and 16: what comes after each step's access.
use Rattle.std.specs.Prelude.{ℕ, ◌==◌, ◌&&◌, min, nat_le, not, if◌then◌else◌, Bool, true, false, Option, Some, None, is_some, List, [], length}
use Rattle.byteorder.specs.Endian.{little_number}
use Rattle.bring_up.specs.declared.checks.PortCheck.{PortCheck}
use Rattle.bring_up.specs.declared.commands.Completed.{Completed}
use Rattle.bring_up.specs.declared.commands.Putting.{Putting}
use Rattle.bring_up.specs.declared.commands.Putting.TheVariants as putting
use Rattle.bring_up.specs.declared.service.Served.{Served}
use Rattle.bring_up.specs.declared.service.Served.TheVariants.{On, Closed, Broken}
use Rattle.bring_up.specs.declared.service.Service.{Service}
use Rattle.bring_up.specs.declared.service.Serving.{Serving}
use Rattle.bring_up.specs.declared.service.Serving.TheVariants as serving
use Rattle.bring_up.specs.declared.taken.Taken.{Taken}
use Rattle.bring_up.specs.declared.why.Why.TheVariants.{NeverReady}
use Rattle.bring_up.specs.Accesses.{later}
use Rattle.bring_up.specs.CommandRings.{begun_command, command_address, next_command}
use Rattle.bring_up.specs.Completions.{given_up, restarted, tried_again}
use Rattle.bring_up.specs.PortChecks.{check_advanced, event_passed}
use Rattle.bring_up.specs.Services.{closing, passed, rested, service_after, service_begun, taken_event, woken}
use Rattle.disk_requests.specs.declared.senses.Readiness.{Readiness}
use Rattle.disk_requests.specs.declared.senses.Readiness.TheVariants as readiness
use Rattle.disk_up.specs.Endings.{is_controller_event}
use Rattle.host_trbs.specs.declared.events.Completion.{Completion}
use Rattle.host_trbs.specs.declared.events.Completion.TheVariants.{Success, ContextState}
use Rattle.host_trbs.specs.declared.events.EndpointState.{EndpointState}
use Rattle.host_trbs.specs.declared.events.EndpointState.TheVariants.{Stopped}
use Rattle.host_trbs.specs.declared.events.Event.{Event}
use Rattle.host_trbs.specs.declared.events.Event.TheVariants as event
use Rattle.host_trbs.specs.Events.{completion_in, endpoint_state_in}
use Rattle.usb_descriptors.specs.declared.Pipes.{Pipes}
use Rattle.usb_descriptors.specs.declared.UasFunction.{UasFunction}
use Rattle.usb_descriptors.specs.declared.stream_tags.Streams.{Streams}
use Rattle.disk_ready.specs.declared.puts.Put.{Put}
use Rattle.disk_ready.specs.declared.puts.Put.TheVariants.{CommandUnit}
use Rattle.disk_ready.specs.declared.questions.Heard.{Heard}
use Rattle.disk_ready.specs.declared.questions.Next.{Next}
use Rattle.disk_ready.specs.declared.questions.Next.TheVariants as next
use Rattle.disk_ready.specs.declared.questions.Question.{Question}
use Rattle.disk_ready.specs.declared.questions.Question.TheVariants as question
use Rattle.disk_ready.specs.declared.steps.Awaited.{Awaited}
use Rattle.disk_ready.specs.declared.steps.Freeing.{Freeing}
use Rattle.disk_ready.specs.declared.steps.Freeing.TheVariants.{Stop, Move}
use Rattle.disk_ready.specs.declared.steps.Readying.{Readying}
use Rattle.disk_ready.specs.declared.steps.ReadyStep.{ReadyStep}
use Rattle.disk_ready.specs.declared.steps.ReadyStep.TheVariants as step
use Rattle.disk_ready.specs.declared.steps.Removal.{Removal}
use Rattle.disk_ready.specs.declared.steps.Told.{Told}
use Rattle.disk_ready.specs.declared.steps.Verdict.{Verdict}
use Rattle.disk_ready.specs.declared.ends.Ends.{Ends}
use Rattle.disk_ready.specs.Ends.{all_ended, ends_begun, ends_seen, told_in}
use Rattle.disk_ready.specs.Puts.{put_after, spots_after}
use Rattle.disk_ready.specs.Questions.{data_bytes, heard}
use Rattle.disk_ready.specs.Steps.{World, in_step, pieces_of, sent_of, target_of, with_ready, with_taken}

-- A QUESTION

abbrev pub asked : Readying → Question → Readying
asked r next = in_step r (step.Sending next CommandUnit)

-- a row begins with its first question, and has 30,000 ms from then on
abbrev pub row_begun : Readying → Question → ℕ → Readying
row_begun r first now = asked (record r { limit = later now 30000 }) first

-- when all is put its events are awaited, up to the row's limit
abbrev pub sending_after : Readying → Question → Option Put → Readying
sending_after r question (Some at) = in_step r (step.Sending question at)
sending_after r question None =
    in_step r (step.Serve (record {
      question = question;
      ends = ends_begun (sent_of question).way;
      told = None;
      service = record { limit = r.limit; seen = 0; at = serving.Status };
    }))

-- what an answer leads to; the TDs' places are passed
abbrev pub next_step : World → Next → ℕ → World
next_step w (next.Ask question) now = with_ready w (asked w.ready question)
next_step w next.Size now = with_ready w (row_begun w.ready question.ShortCapacity now)
next_step w (next.Pause question) now = with_ready w (in_step w.ready (step.Pause question (later now 200)))
next_step w (next.Refused why) now = with_taken w (given_up w.taken why)
next_step w next.Ready now = with_ready w (in_step w.ready step.Ready)

abbrev pub heard_by : World → Question → Heard → ℕ → World
heard_by w question came now =
    next_step (with_ready w (record w.ready { learned = came.learned; spots = spots_after w.ready.spots (sent_of question).way })) came.next now

abbrev pub concluded : World → Verdict → List ℕ → ℕ → World
concluded w verdict bytes now = heard_by w verdict.question (heard w.ready.learned verdict.question verdict.how bytes) now

-- ITS EVENTS

abbrev pub serve_on : Readying → Awaited → Readying
serve_on r awaited = in_step r (step.Serve awaited)

abbrev pub looked : Awaited → Service → Awaited
looked awaited service = record awaited { service = service }

-- the limit is over: of row 15 the disk isn't used, of row 16 the device is tried again
abbrev pub is_row_15 : Question → Bool
is_row_15 question.Inquiry = true
is_row_15 question.UnitReady = true
is_row_15 question.StartUnit = true
is_row_15 question.ShortCapacity = false
is_row_15 question.LongCapacity = false
is_row_15 question.PageList = false
is_row_15 question.Limits = false

abbrev pub late : Taken → Question → Taken
late t question = if is_row_15 question then given_up t NeverReady else tried_again t

abbrev pub rest_or_late : World → Awaited → ℕ → World
rest_or_late w awaited now =
    if nat_le awaited.service.limit now then with_taken w (late w.taken awaited.question)
    else with_ready w (serve_on w.ready (looked awaited (rested awaited.service now)))

-- the data's TD is taken off: at once where the status isn't GOOD, else after 1,000 ms
abbrev pub is_freed : Ends → Told → ℕ → Bool
is_freed ends told now = not (is_some ends.data_moved) && nat_le told.until now && ends.has_unit

abbrev pub free_begun : World → Verdict → ℕ → World
free_begun w verdict now = with_ready w (in_step w.ready (step.Free verdict (Stop now) (begun_command w.taken.commands)))

abbrev pub count_of : Option ℕ → ℕ
count_of (Some count) = count
count_of None = 0

-- all came: the data are loaded, where there are any
abbrev pub take_begun : World → Verdict → ℕ → ℕ → World
take_begun w verdict count now =
    if count == 0 then concluded w verdict [] now
    else with_ready w (in_step w.ready (step.Take verdict (min count (data_bytes verdict.question))))

abbrev pub verdict_of : Awaited → Told → Verdict
verdict_of awaited told = record { question = awaited.question; how = told.how }

abbrev pub closed_told : World → Awaited → Told → ℕ → World
closed_told w awaited told now =
    if all_ended awaited.ends then take_begun w (verdict_of awaited told) (count_of awaited.ends.data_moved) now
    else if is_freed awaited.ends told now then free_begun w (verdict_of awaited told) now
    else rest_or_late w (record awaited { told = Some told }) now

-- the status unit is loaded, once it came
abbrev pub closed_untold : Option ℕ → World → Awaited → ℕ → World
closed_untold None w awaited now = rest_or_late w awaited now
closed_untold (Some count) w awaited now = with_ready w (in_step w.ready (step.Status awaited (min count 112)))

abbrev pub closed_by : Option Told → World → Awaited → ℕ → World
closed_by None w awaited now = closed_untold awaited.ends.status_moved w awaited now
closed_by (Some told) w awaited now = closed_told w awaited told now

-- a TD that failed has the device tried again
abbrev pub closed : World → Awaited → ℕ → World
closed w awaited now = if awaited.ends.is_failed then with_taken w (tried_again w.taken) else closed_by awaited.told w awaited now

abbrev pub went : World → Awaited → ℕ → Served → World
went w awaited now (On next) = with_ready w (serve_on w.ready (looked awaited next))
went w awaited now Closed = closed w awaited now
went w awaited now Broken = with_taken w (restarted w.taken now)

abbrev pub seen_by : World → Pipes → Awaited → Event → Awaited
seen_by w pipes awaited came = record awaited {
  ends = ends_seen came awaited.ends w.taken.layout (target_of w.taken pipes) (sent_of awaited.question) w.ready.spots (data_bytes awaited.question);
  service = passed awaited.service;
}

abbrev pub event_taken : Bool → World → Pipes → Awaited → ℕ → Event → World
event_taken true w pipes awaited now came = with_taken w (restarted w.taken now)
event_taken false w pipes awaited now came = with_ready w (serve_on w.ready (seen_by w pipes awaited came))

abbrev pub event_came : World → Pipes → Awaited → ℕ → Event → World
event_came w pipes awaited now came =
    event_taken (is_controller_event came) (with_taken w (event_passed w.taken came)) pipes awaited now came

abbrev pub served_by : Serving → World → Pipes → Awaited → ℕ → ℕ → List ℕ → World
served_by serving.Event w pipes awaited now value bytes = event_came w pipes awaited now (taken_event bytes)
served_by _ w pipes awaited now value bytes = went w awaited now (service_after awaited.service w.taken.events.cycle value)

-- a check of the device's port comes first
abbrev pub served : Option PortCheck → World → Pipes → Awaited → ℕ → ℕ → List ℕ → World
served (Some check) w pipes awaited now value bytes = with_taken w (check_advanced w.taken check value)
served None w pipes awaited now value bytes = served_by awaited.service.at w pipes awaited now value bytes

-- THE STATUS UNIT: another tag's, or none of a command, has the device tried again

abbrev pub grace : Readiness → ℕ → ℕ
grace readiness.Ready now = later now 1000
grace _ now = now

abbrev pub status_taken : World → Awaited → ℕ → Option Readiness → World
status_taken w awaited now None = with_taken w (tried_again w.taken)
status_taken w awaited now (Some how) = closed_told w awaited (record { how = how; until = grace how now }) now

-- TAKING THE DATA'S TD OFF

abbrev pub freeing_put : Readying → Verdict → Freeing → Putting → ℕ → Readying
freeing_put r verdict freeing putting.Link now = in_step r (step.Free verdict freeing putting.Body)
freeing_put r verdict freeing putting.Body now = in_step r (step.Free verdict freeing putting.Last)
freeing_put r verdict freeing putting.Last now = in_step r (step.Free verdict freeing putting.Bell)
freeing_put r verdict freeing putting.Bell now =
    in_step r (step.ServeFree (record { verdict = verdict; freeing = freeing; came = None; service = service_begun now 5000 }))

abbrev pub moving : World → Verdict → World
moving w verdict = with_ready w (in_step w.ready (step.Free verdict Move (begun_command w.taken.commands)))

-- Context State Error of Stop Endpoint: again, for 100 ms; then the endpoint's state says whether it stands
abbrev pub stop_again : World → Verdict → ℕ → ℕ → World
stop_again w verdict since now =
    if nat_le (later since 100) now then with_ready w (in_step w.ready (step.Context verdict))
    else with_ready w (in_step w.ready (step.Free verdict (Stop since) (begun_command w.taken.commands)))

abbrev pub stop_ended : Completion → World → Verdict → ℕ → ℕ → World
stop_ended Success w verdict since now = moving w verdict
stop_ended ContextState w verdict since now = stop_again w verdict since now
stop_ended _ w verdict since now = with_taken w (restarted w.taken now)

-- the stream's context is mended, where it has to be
abbrev pub moved : World → Verdict → ℕ → World
moved w verdict now =
    if w.taken.quirks.has_stale_streams then with_ready w (in_step w.ready (step.Mend verdict)) else concluded w verdict [] now

abbrev pub move_ended : Completion → World → Verdict → ℕ → World
move_ended Success w verdict now = moved w verdict now
move_ended _ w verdict now = with_taken w (restarted w.taken now)

abbrev pub freed_by : Freeing → World → Verdict → Completion → ℕ → World
freed_by (Stop since) w verdict completion now = stop_ended completion w verdict since now
freed_by Move w verdict completion now = move_ended completion w verdict now

abbrev pub free_on : Readying → Removal → Readying
free_on r removal = in_step r (step.ServeFree removal)

-- a command that is silent for too long has the controller taken anew
abbrev pub free_closed_by : Option Completed → World → Removal → ℕ → World
free_closed_by (Some ended) w removal now =
    freed_by removal.freeing (with_taken w (record w.taken { commands = next_command w.taken.commands })) removal.verdict (completion_in ended.code) now
free_closed_by None w removal now =
    if nat_le removal.service.limit now then with_taken w (restarted w.taken now)
    else with_ready w (free_on w.ready (record removal { service = rested removal.service now }))

abbrev pub free_closed : World → Removal → ℕ → World
free_closed w removal now = free_closed_by removal.came w removal now

abbrev pub free_passed : World → Removal → World
free_passed w removal = with_ready w (free_on w.ready (record removal { service = passed removal.service }))

abbrev pub free_command : Bool → World → Removal → Completed → World
free_command true w removal ended =
    with_ready w (free_on w.ready (record removal { came = Some ended; service = closing removal.service }))
free_command false w removal ended = free_passed w removal

abbrev pub free_taken : Event → World → Removal → ℕ → World
free_taken (event.Transfer trb residual code endpoint slot) w removal now = free_passed w removal
free_taken (event.Command trb code slot) w removal now =
    free_command (trb == command_address w.taken.commands w.taken.layout) w removal (record { code = code; slot = slot })
free_taken (event.Port port) w removal now = free_passed w removal
free_taken (event.Controller code) w removal now = with_taken w (restarted w.taken now)
free_taken (event.Other kind) w removal now = free_passed w removal

abbrev pub free_event : World → Removal → ℕ → Event → World
free_event w removal now came = free_taken came (with_taken w (event_passed w.taken came)) removal now

abbrev pub free_went : World → Removal → ℕ → Served → World
free_went w removal now (On next) = with_ready w (free_on w.ready (record removal { service = next }))
free_went w removal now Closed = free_closed w removal now
free_went w removal now Broken = with_taken w (restarted w.taken now)

abbrev pub free_served_by : Serving → World → Removal → ℕ → ℕ → List ℕ → World
free_served_by serving.Event w removal now value bytes = free_event w removal now (taken_event bytes)
free_served_by _ w removal now value bytes = free_went w removal now (service_after removal.service w.taken.events.cycle value)

abbrev pub free_served : Option PortCheck → World → Removal → ℕ → ℕ → List ℕ → World
free_served (Some check) w removal now value bytes = with_taken w (check_advanced w.taken check value)
free_served None w removal now value bytes = free_served_by removal.service.at w removal now value bytes

-- 6.2.3: an endpoint that stands is Stopped, 3
abbrev pub is_stopped : EndpointState → Bool
is_stopped Stopped = true
is_stopped _ = false

abbrev pub context_taken : World → Verdict → ℕ → World
context_taken w verdict word = if is_stopped (endpoint_state_in word) then moving w verdict else with_taken w (tried_again w.taken)

-- the first word of a context that was loaded
abbrev pub first_word : List ℕ → ℕ
first_word bytes = if length bytes == 32 then little_number 4 bytes else 0

abbrev pub pause_over : World → Question → ℕ → World
pause_over w question now =
    if nat_le w.ready.limit now then with_taken w (late w.taken question) else with_ready w (asked w.ready question)

-- THE TABLE

abbrev pub step_advanced : ReadyStep → World → Pipes → ℕ → ℕ → List ℕ → World
step_advanced step.Begin w pipes now value bytes = with_ready w (row_begun w.ready question.Inquiry now)
step_advanced (step.Sending question at) w pipes now value bytes =
    with_ready w (sending_after w.ready question (put_after at (sent_of question) w.ready.spots (pieces_of w.taken.layout question)))
step_advanced (step.Serve awaited) w pipes now value bytes = served w.taken.check w pipes awaited now value bytes
step_advanced (step.Status awaited count) w pipes now value bytes = status_taken w awaited now (told_in bytes 1)
step_advanced (step.Free verdict freeing at) w pipes now value bytes = with_ready w (freeing_put w.ready verdict freeing at now)
step_advanced (step.ServeFree removal) w pipes now value bytes = free_served w.taken.check w removal now value bytes
step_advanced (step.Context verdict) w pipes now value bytes = context_taken w verdict (first_word bytes)
step_advanced (step.Mend verdict) w pipes now value bytes = concluded w verdict [] now
step_advanced (step.Take verdict count) w pipes now value bytes = concluded w verdict bytes now
step_advanced (step.Pause question until) w pipes now value bytes = pause_over w question now
step_advanced step.Ready w pipes now value bytes = w

abbrev pub ready_advanced : World → Pipes → ℕ → ℕ → List ℕ → World
ready_advanced w pipes now value bytes = step_advanced w.ready.step w pipes now value bytes

-- a device whose pipes aren't known has none
abbrev pub found_advanced : Option (UasFunction × Streams) → World → ℕ → ℕ → List ℕ → World
found_advanced None w now value bytes = w
found_advanced (Some found) w now value bytes = ready_advanced w found.0.pipes now value bytes

-- an interrupt ends a rest between looks for events
abbrev pub step_interrupted : ReadyStep → ReadyStep
step_interrupted (step.Serve awaited) = step.Serve (looked awaited (woken awaited.service))
step_interrupted (step.ServeFree removal) = step.ServeFree (record removal { service = woken removal.service })
step_interrupted other = other

abbrev pub ready_interrupted : Readying → Readying
ready_interrupted r = in_step r (step_interrupted r.step)
