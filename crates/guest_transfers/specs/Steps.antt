-- The steps: each loads the consumer of one ring and one tag, takes a step of that pipe, and stores them.
use Rattle.std.specs.Prelude.{ℕ, nat_lt, Bool, true, false, not, ◌&&◌, ◌||◌, if◌then◌else◌, Option, Some, None}
use Rattle.guest_memory.specs.declared.rings.context.Home.TheVariants.{Endpoint}
use Rattle.guest_pipes.specs.declared.acted.Acted.{Acted}
use Rattle.guest_pipes.specs.declared.consumer.EndpointState.{EndpointState}
use Rattle.guest_pipes.specs.declared.consumer.EndpointState.TheVariants.{Disabled, Running, Halted, Stopped, Error}
use Rattle.guest_pipes.specs.Progress.{runs}
use Rattle.guest_pipes.specs.Gate.{after, is_running}
use Rattle.guest_pipes.specs.Pipe.{PipeState, home_of, loaded, progress_on, rung_on, stored}
use Rattle.guest_tags.specs.declared.device.End.{End}
use Rattle.guest_tags.specs.declared.device.Phase.{Phase}
use Rattle.guest_tags.specs.declared.device.Phase.TheVariants.{Absent, Gives, Takes, Ended}
use Rattle.guest_tags.specs.declared.device.Received.{Received}
use Rattle.guest_tags.specs.declared.device.Received.TheVariants.{Began, Overlap, Dropped}
use Rattle.guest_tags.specs.Devices.{Kind}
use Rattle.guest_tags.specs.Tags.{TagWorld}
use Rattle.guest_tags.specs.DataIn.{ends_td, has_chunk, is_status, stepped_in}
use Rattle.guest_tags.specs.Status.{stepped_status}
use Rattle.guest_out.specs.Worlds.{OutWorld}
use Rattle.guest_out.specs.DataOut.{is_good, stepped_out}
use Rattle.guest_out.specs.Command.{command_after, stepped_command}
use Rattle.guest_transfers.specs.declared.slot.Slot.{Slot}
use Rattle.guest_transfers.specs.State.{TransfersState, TransfersWorld, begun, overlapped, slot_of, with_slot}

-- whether an endpoint in this state goes on with a TD that was begun: at once, or once a doorbell has started it again
abbrev pub keeps_begun : EndpointState → Bool
keeps_begun Disabled = false
keeps_begun Running = true
keeps_begun Halted = false
keeps_begun Stopped = true
keeps_begun Error = false

-- DATA-IN OPEN: the data-in ring of a tag has still to end a TD, or the rest of one, before a status; a Response ends none
abbrev pub in_open : PipeState → Slot → ℕ → End → Bool
in_open pipe slot tag end =
    ((is_running pipe.state && rung_on pipe tag) || (keeps_begun pipe.state && (progress_on pipe tag).begun))
    && (is_status end && (ends_td slot.tag (progress_on pipe tag).fed || not (runs (progress_on pipe tag).ending)))

-- DATA-OUT OPEN: the rest of a TD that was begun has still to be dropped
abbrev pub out_open : PipeState → ℕ → End → Bool
out_open pipe tag end = keeps_begun pipe.state && (is_good end && (progress_on pipe tag).begun)

-- the answer of a tag's task is due: it has ended, nothing is left of its chunk, and no TD is open
abbrev pub due_by : TransfersState → ℕ → Phase → Bool
due_by t tag Absent = false
due_by t tag (Gives count) = false
due_by t tag (Takes count) = false
due_by t tag (Ended end) =
    not (has_chunk (slot_of t tag).tag) && (not (in_open t.data_in (slot_of t tag) tag end) && not (out_open t.data_out tag end))

-- what is kept of the tags once something came of an information unit; a tag above 240 has nothing
abbrev pub received_on : TransfersState → Received → TransfersState
received_on t (Began tag) = if nat_lt tag 241 then with_slot t tag (begun (slot_of t tag)) else t
received_on t (Overlap tag) = if nat_lt tag 241 then with_slot t tag (overlapped (slot_of t tag)) else t
received_on t Dropped = t

module _ {D : Type 0} (kind : Kind D) where
  -- DATA-IN
  abbrev pub in_world : TransfersWorld D → ℕ → TagWorld D
  in_world w tag = record {
    ring = record { memory = w.memory; events = w.events; consumer = loaded w.transfers.data_in tag };
    tag = (slot_of w.transfers tag).tag;
    device = w.device;
  }

  abbrev pub in_kept : TransfersWorld D → ℕ → TagWorld D × Option Acted → TransfersWorld D × Option Acted
  in_kept w tag done = (
    record {
      memory = done.0.ring.memory;
      events = done.0.ring.events;
      transfers = record (with_slot w.transfers tag (record (slot_of w.transfers tag) { tag = done.0.tag })) {
        data_in = stored w.transfers.data_in tag done.0.ring.consumer;
      };
      device = done.0.device;
    },
    done.1,
  )

  abbrev pub in_stepped : TransfersWorld D → ℕ → TransfersWorld D × Option Acted
  in_stepped w tag = in_kept w tag (after (in_world w tag) (stepped_in kind (in_world w tag) tag (home_of w.transfers.data_in tag)))

  -- DATA-OUT
  abbrev pub out_world : TransfersWorld D → ℕ → OutWorld D
  out_world w tag = record {
    ring = record { memory = w.memory; events = w.events; consumer = loaded w.transfers.data_out tag };
    taken = (slot_of w.transfers tag).taken;
    device = w.device;
  }

  abbrev pub out_kept : TransfersWorld D → ℕ → OutWorld D × Option Acted → TransfersWorld D × Option Acted
  out_kept w tag done = (
    record {
      memory = done.0.ring.memory;
      events = done.0.ring.events;
      transfers = record (with_slot w.transfers tag (record (slot_of w.transfers tag) { taken = done.0.taken })) {
        data_out = stored w.transfers.data_out tag done.0.ring.consumer;
      };
      device = done.0.device;
    },
    done.1,
  )

  abbrev pub out_stepped : TransfersWorld D → ℕ → TransfersWorld D × Option Acted
  out_stepped w tag = out_kept w tag (after (out_world w tag) (stepped_out kind (out_world w tag) tag (home_of w.transfers.data_out tag)))

  -- STATUS
  abbrev pub status_world : TransfersWorld D → ℕ → TagWorld D
  status_world w tag = record {
    ring = record { memory = w.memory; events = w.events; consumer = loaded w.transfers.status tag };
    tag = (slot_of w.transfers tag).tag;
    device = w.device;
  }

  abbrev pub status_kept : TransfersWorld D → ℕ → TagWorld D × Option Acted → TransfersWorld D × Option Acted
  status_kept w tag done = (
    record {
      memory = done.0.ring.memory;
      events = done.0.ring.events;
      transfers = record (with_slot w.transfers tag (record (slot_of w.transfers tag) { tag = done.0.tag })) {
        status = stored w.transfers.status tag done.0.ring.consumer;
      };
      device = done.0.device;
    },
    done.1,
  )

  abbrev pub status_stepped : TransfersWorld D → ℕ → TransfersWorld D × Option Acted
  status_stepped w tag = status_kept w tag
      (after (status_world w tag) (stepped_status kind (status_world w tag) tag (due_by w.transfers tag (kind.phase w.device tag)) (home_of w.transfers.status tag)))

  -- COMMAND
  abbrev pub command_world : TransfersWorld D → OutWorld D
  command_world w = record {
    ring = record { memory = w.memory; events = w.events; consumer = w.transfers.command };
    taken = w.transfers.gathered;
    device = w.device;
  }

  abbrev pub command_back : TransfersWorld D → OutWorld D → TransfersWorld D
  command_back w done = record {
    memory = done.ring.memory;
    events = done.ring.events;
    transfers = record w.transfers { command = done.ring.consumer; gathered = done.taken };
    device = done.device;
  }

  abbrev pub command_kept : TransfersWorld D → OutWorld D → Option (Acted × Received) → TransfersWorld D × Option Acted
  command_kept w done None = (command_back w done, None)
  command_kept w done (Some answer) =
      (record (command_back w done) { transfers = received_on (command_back w done).transfers answer.1 }, Some answer.0)

  abbrev pub command_done : TransfersWorld D → OutWorld D × Option (Acted × Received) → TransfersWorld D × Option Acted
  command_done w done = command_kept w done.0 done.1

  abbrev pub command_stepped : TransfersWorld D → TransfersWorld D × Option Acted
  command_stepped w =
      command_done w (command_after kind (command_world w) (stepped_command kind (command_world w) (Endpoint w.transfers.home)))
