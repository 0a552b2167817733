-- Turns of a device's four pipes and of their driver, and where each may write.
use Rattle.std.specs.Prelude.{ℕ, List, [], ◌∷◌}
use Rattle.guest_memory.specs.declared.rings.context.Home.TheVariants.{Endpoint}
use Rattle.guest_memory.specs.declared.rings.wanting.Range.{Range}
use Rattle.guest_memory.specs.rings.Events.{free_by}
use Rattle.guest_memory.specs.rings.Wanted.{home_range}
use Rattle.guest_pipes.specs.Pipe.{home_of}
use Rattle.guest_tags.specs.Devices.{Kind}
use Rattle.guest_transfers.specs.Calls.{rung_at}
use Rattle.guest_transfers.specs.State.{TransfersWorld}
use Rattle.guest_transfers.specs.Steps.{command_stepped, due_by, in_stepped, in_world, out_stepped, status_stepped, status_world}
use Rattle.td_laws.specs.Places.{part_in, part_status}

-- a step of data-in, data-out or status for a tag; a step of the command pipe; a doorbell of an endpoint and a stream; and that the
-- driver moves his dequeue pointer to a place of the event ring
pub data Turn : Type 0 where
  DataIn : ℕ → Turn
  DataOut : ℕ → Turn
  Status : ℕ → Turn
  Command : Turn
  Rings : ℕ → ℕ → Turn
  Frees : ℕ → Turn

module _ {D : Type 0} (kind : Kind D) where
  abbrev pub turned : TransfersWorld D → Turn → TransfersWorld D
  turned w (DataIn tag) = (in_stepped kind w tag).0
  turned w (DataOut tag) = (out_stepped kind w tag).0
  turned w (Status tag) = (status_stepped kind w tag).0
  turned w Command = (command_stepped kind w).0
  turned w (Rings endpoint stream) = record w { transfers = rung_at w.transfers endpoint stream }
  turned w (Frees place) = record w { events = record w.events { free = free_by w.events place } }

  abbrev pub all_turned : TransfersWorld D → List Turn → TransfersWorld D
  all_turned w [] = w
  all_turned w (turn ∷ turns) = all_turned (turned w turn) turns

  -- where a turn may write, beside the next event's place
  abbrev pub written_by : TransfersWorld D → Turn → List Range
  written_by w (DataIn tag) =
      let home = home_of w.transfers.data_in tag in
      part_in kind (in_world kind w tag) tag home ∷ home_range home ∷ []
  written_by w (DataOut tag) = home_range (home_of w.transfers.data_out tag) ∷ []
  written_by w (Status tag) =
      let home = home_of w.transfers.status tag in
      part_status kind (status_world kind w tag) tag (due_by w.transfers tag (kind.phase w.device tag)) home ∷ home_range home ∷ []
  written_by w Command = home_range (Endpoint w.transfers.home) ∷ []
  written_by w (Rings endpoint stream) = []
  written_by w (Frees place) = []
