-- Rows 15 and 16: what each step tells.
use Rattle.std.specs.Prelude.{◌-◌, ◌^◌, ◌==◌, not, if◌then◌else◌, Option, Some, None, List, [], ◌∷◌}
use Rattle.bring_up.specs.declared.access.Access.{Access}
use Rattle.bring_up.specs.declared.access.Access.TheVariants.{Rest}
use Rattle.bring_up.specs.declared.commands.Putting.{Putting}
use Rattle.bring_up.specs.declared.taken.Taken.{Taken}
use Rattle.bring_up.specs.Accesses.{load_in}
use Rattle.bring_up.specs.CommandRings.{command_put}
use Rattle.bring_up.specs.PortChecks.{look_access}
use Rattle.disk_requests.specs.Commands.{asking_cdb}
use Rattle.disk_requests.specs.Units.{command_text}
use Rattle.disk_up.specs.Controls.{at_or_zero, next_third}
use Rattle.disk_up.specs.PipeRows.{stream_mended}
use Rattle.host_layout.specs.declared.layout.Area.TheVariants.{At, OfTag}
use Rattle.host_layout.specs.declared.layout.Fixed.TheVariants.{Buffer, DeviceContext}
use Rattle.host_layout.specs.declared.layout.Layout.{Layout}
use Rattle.host_layout.specs.declared.layout.TagArea.TheVariants.{StatusUnit}
use Rattle.host_layout.specs.declared.rings.Ring.TheVariants.{DataIn}
use Rattle.host_layout.specs.declared.segments.Piece.{Piece}
use Rattle.host_layout.specs.Places.{address_of, context_of, place_of}
use Rattle.host_trbs.specs.declared.commands.Command.{Command}
use Rattle.host_trbs.specs.declared.commands.Command.TheVariants.{StopEndpoint, SetDequeue}
use Rattle.host_trbs.specs.Commands.{command_words}
use Rattle.uas_profile.specs.declared.Pipe.TheVariants.{DataIn as PipeIn}
use Rattle.usb_descriptors.specs.declared.Pipes.{Pipes}
use Rattle.usb_descriptors.specs.declared.UasFunction.{UasFunction}
use Rattle.usb_descriptors.specs.declared.stream_tags.Streams.{Streams}
use Rattle.usb_descriptors.specs.Endpoints.{context_index}
use Rattle.disk_ready.specs.declared.puts.Sent.{Sent}
use Rattle.disk_ready.specs.declared.puts.Target.{Target}
use Rattle.disk_ready.specs.declared.puts.Way.TheVariants.{Nothing, In}
use Rattle.disk_ready.specs.declared.questions.Question.{Question}
use Rattle.disk_ready.specs.declared.steps.Freeing.{Freeing}
use Rattle.disk_ready.specs.declared.steps.Freeing.TheVariants.{Stop, Move}
use Rattle.disk_ready.specs.declared.steps.Readying.{Readying}
use Rattle.disk_ready.specs.declared.steps.ReadyStep.{ReadyStep}
use Rattle.disk_ready.specs.declared.steps.ReadyStep.TheVariants as step
use Rattle.disk_ready.specs.Puts.{place_in, put_access, spots_begun}
use Rattle.disk_ready.specs.Questions.{asking_of, data_bytes, nothing_learned}

-- the disk that is asked, and the controller
pub record World : Type 0 where
  pub ready : Readying
  pub taken : Taken

abbrev pub with_ready : World → Readying → World
with_ready w ready = record { ready = ready; taken = w.taken }

abbrev pub with_taken : World → Taken → World
with_taken w taken = record { ready = w.ready; taken = taken }

abbrev pub in_step : Readying → ReadyStep → Readying
in_step r next = record r { step = next }

-- first INQUIRY; each row has 30,000 ms, from its first access on
abbrev pub begun_readying : Readying
begun_readying = record { spots = spots_begun; learned = nothing_learned; limit = 0; step = step.Begin }

-- THE COMMAND OF A QUESTION: on tag 1, to logical unit 0; its data come into the buffer, in one TRB

abbrev pub sent_of : Question → Sent
sent_of question = record {
  tag = 1;
  way = if data_bytes question == 0 then Nothing else In;
  unit = command_text 1 0 (asking_cdb (asking_of question));
  list = None;
}

abbrev pub pieces_of : Layout → Question → List Piece
pieces_of layout question =
    (record { at = address_of layout (At Buffer); length = data_bytes question; end = data_bytes question }) ∷ []

abbrev pub target_of : Taken → Pipes → Target
target_of t pipes = record { slot = t.device.slot; pipes = pipes }

-- TAKING THE DATA'S TD OFF: 4.6.9, then 4.6.10 to the next third

abbrev pub freeing_command : World → Pipes → Freeing → Command
freeing_command w pipes (Stop since) = StopEndpoint w.taken.device.slot (context_index pipes.data_in)
freeing_command w pipes Move =
    SetDequeue (at_or_zero (place_in w.taken.layout (DataIn 1) (next_third w.ready.spots.data_third) 0)) 1 w.taken.device.slot (context_index pipes.data_in)

abbrev pub freeing_access : World → Pipes → Freeing → Putting → Access
freeing_access w pipes freeing at =
    command_put w.taken.commands w.taken.controller w.taken.layout at (command_words (freeing_command w pipes freeing) w.taken.commands.cycle)
    (command_words (freeing_command w pipes freeing) (not w.taken.commands.cycle))

-- THE ACCESS

abbrev pub step_access : ReadyStep → World → Pipes → Access
step_access step.Begin w pipes = Rest 0
step_access (step.Sending question at) w pipes =
    put_access at w.taken.controller w.taken.layout (target_of w.taken pipes) (sent_of question) w.ready.spots (pieces_of w.taken.layout question)
step_access (step.Serve awaited) w pipes = look_access w.taken.check w.taken awaited.service
step_access (step.Status awaited count) w pipes = load_in (place_of w.taken.layout (OfTag 1 StatusUnit)) count
step_access (step.Free verdict freeing at) w pipes = freeing_access w pipes freeing at
step_access (step.ServeFree removal) w pipes = look_access w.taken.check w.taken removal.service
step_access (step.Context verdict) w pipes = load_in (context_of w.taken.layout DeviceContext 32 (context_index pipes.data_in)) 32
step_access (step.Mend verdict) w pipes = stream_mended w.taken.layout PipeIn 1
step_access (step.Take verdict count) w pipes = load_in (Some (address_of w.taken.layout (At Buffer))) count
step_access (step.Pause question until) w pipes = Rest until
step_access step.Ready w pipes = Rest (2 ^ 64 - 1)

abbrev pub ready_access : World → Pipes → Access
ready_access w pipes = step_access w.ready.step w pipes

-- a device whose pipes aren't known has none
abbrev pub found_access : Option (UasFunction × Streams) → World → Access
found_access None w = Rest (2 ^ 64 - 1)
found_access (Some found) w = ready_access w found.0.pipes
