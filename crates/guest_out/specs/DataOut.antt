-- A step of the data-out pipe for a tag: one equation over memory, event ring, consumer, what is gathered and device.
use Rattle.std.specs.Prelude.{ℕ, ◌-◌, min, ◌==◌, nat_le, Bool, true, false, ◌&&◌, if◌then◌else◌, List, [], ◌++◌, length as list_length, Option, Some, None, option_map}
use Rattle.guest_memory.specs.declared.rings.context.Home.{Home}
use Rattle.guest_memory.specs.declared.rings.context.Front.{Front}
use Rattle.guest_memory.specs.declared.rings.context.Found.{Found}
use Rattle.guest_memory.specs.declared.rings.context.Found.TheVariants.{WrongKind, NotYet, Item}
use Rattle.guest_memory.specs.declared.rings.trb.PipeTrb.{PipeTrb}
use Rattle.guest_memory.specs.declared.rings.trb.PipeTrb.TheVariants.{Normal, Link, NoOp, EventData, Foreign}
use Rattle.guest_memory.specs.rings.Ends.{looked}
use Rattle.guest_pipes.specs.declared.acted.Acted.{Acted}
use Rattle.guest_pipes.specs.declared.acted.Acted.TheVariants.{Emptied, Waits, Worked}
use Rattle.guest_pipes.specs.declared.progress.Ending.{Ending}
use Rattle.guest_pipes.specs.declared.progress.Ending.TheVariants.{Runs, Told, Owed}
use Rattle.guest_pipes.specs.Progress.{counted}
use Rattle.guest_pipes.specs.Step.{World, failed, filled, filled_if, refused, skipped, used_up, with_progress}
use Rattle.guest_pipes.specs.Gate.{gate, through, took_other}
use Rattle.guest_tags.specs.declared.device.End.{End}
use Rattle.guest_tags.specs.declared.device.End.TheVariants.{Good, Check, Response}
use Rattle.guest_tags.specs.declared.device.Phase.{Phase}
use Rattle.guest_tags.specs.declared.device.Phase.TheVariants.{Absent, Gives, Takes, Ended}
use Rattle.guest_tags.specs.declared.buffer.Buffer.{Buffer}
use Rattle.guest_tags.specs.Devices.{Kind}
use Rattle.guest_out.specs.Immediate.{bytes_out, tallied}
use Rattle.guest_out.specs.Worlds.{OutWorld}

abbrev pub is_good : End → Bool
is_good Good = true
is_good Check = false
is_good Response = false

-- after GOOD the rest of the TD that was begun is dropped
abbrev pub drops_rest : End → Bool → Bool
drops_rest end begun = is_good end && begun

module _ {D : Type 0} (kind : Kind D) where
  abbrev pub out_with : OutWorld D → World → OutWorld D
  out_with w ring = record w { ring = ring }

  -- bytes of the TRB in front are gathered for the next chunk
  unfoldable pub out_gathered : OutWorld D → List ℕ → OutWorld D
  out_gathered w bytes = record w {
    ring = with_progress w.ring (counted w.ring.consumer.progress (list_length bytes));
    taken = w.taken ++ bytes;
  }

  -- the TRB is consumed where it is full
  abbrev pub out_filled : OutWorld D → Front → Buffer → OutWorld D
  out_filled w front buffer = out_with w (filled_if (nat_le buffer.length w.ring.consumer.progress.moved) w.ring front buffer.flags)

  abbrev pub out_filled_if : Bool → OutWorld D → Front → Buffer → OutWorld D
  out_filled_if true w front buffer = out_filled w front buffer
  out_filled_if false w front buffer = w

  -- the device takes the chunk; at a bad block the TRB stays where it is
  unfoldable pub out_handed : OutWorld D → ℕ → OutWorld D
  out_handed w number = record w {
    taken = [];
    device = kind.took w.device number w.taken;
  }

  unfoldable pub out_took : OutWorld D → ℕ → Front → Buffer → OutWorld D
  out_took w number front buffer = out_filled_if (kind.fits w.device number w.taken) (out_handed w number) front buffer

  -- a chunk that is full goes to the device
  abbrev pub out_went : OutWorld D → ℕ → ℕ → Front → Buffer → OutWorld D
  out_went w number count front buffer =
      if list_length w.taken == count then out_took w number front buffer else out_filled w front buffer

  -- how many bytes a step moves: the lesser of what the chunk lacks and of what is left of the TRB
  abbrev pub out_count : OutWorld D → ℕ → Buffer → ℕ
  out_count w count buffer = min (count - list_length w.taken) (buffer.length - w.ring.consumer.progress.moved)

  abbrev pub out_drawn : Option (List ℕ) → OutWorld D → ℕ → ℕ → Front → Buffer → OutWorld D
  out_drawn None w number count front buffer = out_with w (failed w.ring front buffer.length buffer.flags)
  out_drawn (Some bytes) w number count front buffer = out_went (out_gathered w bytes) number count front buffer

  unfoldable pub out_moved : OutWorld D → ℕ → ℕ → Front → Buffer → OutWorld D
  out_moved w number count front buffer =
      out_drawn (bytes_out w.ring.memory buffer w.ring.consumer.progress.moved (out_count w count buffer)) w number count front buffer

  -- what is left of the TRB is dropped, as if it had moved
  unfoldable pub out_dropped : OutWorld D → Front → Buffer → OutWorld D
  out_dropped w front buffer =
      let progress = tallied w.ring.consumer.progress (buffer.length - w.ring.consumer.progress.moved) in
      out_with w (filled (with_progress w.ring progress) front buffer.flags)

  abbrev pub out_dropped_if : Bool → OutWorld D → Front → Buffer → OutWorld D × Acted
  out_dropped_if true w front buffer = (out_dropped w front buffer, Worked)
  out_dropped_if false w front buffer = (w, Waits)

  -- a TRB of a TD whose bytes move, by what the device does next
  abbrev pub out_by : Phase → OutWorld D → ℕ → Front → Buffer → OutWorld D × Acted
  out_by Absent w number front buffer = (w, Waits)
  out_by (Gives count) w number front buffer = (w, Waits)
  out_by (Takes count) w number front buffer = (out_moved w number count front buffer, Worked)
  out_by (Ended end) w number front buffer = out_dropped_if (drops_rest end w.ring.consumer.progress.begun) w front buffer

  -- a Normal TRB of a TD whose bytes move
  unfoldable pub out_ran : OutWorld D → ℕ → Front → Buffer → OutWorld D × Acted
  out_ran w number front buffer =
      if nat_le buffer.length w.ring.consumer.progress.moved then (out_with w (filled w.ring front buffer.flags), Worked)
      else out_by (kind.phase w.device number) w number front buffer

  abbrev pub out_normal : Ending → OutWorld D → ℕ → Front → Buffer → OutWorld D × Acted
  out_normal Runs w number front buffer = out_ran w number front buffer
  out_normal (Told code) w number front buffer = (out_with w (skipped w.ring front buffer.length buffer.flags), Worked)
  out_normal Owed w number front buffer = (out_with w (skipped w.ring front buffer.length buffer.flags), Worked)

  abbrev pub out_trb : OutWorld D → ℕ → Front → PipeTrb → OutWorld D × Acted
  out_trb w number front (Normal pointer length flags) =
      out_normal w.ring.consumer.progress.ending w number front (record { pointer = pointer; length = length; flags = flags })
  out_trb w number front (Link pointer toggle flags) = (out_with w (took_other w.ring front (Link pointer toggle flags)), Worked)
  out_trb w number front (NoOp flags) = (out_with w (took_other w.ring front (NoOp flags)), Worked)
  out_trb w number front (EventData parameter flags) = (out_with w (took_other w.ring front (EventData parameter flags)), Worked)
  out_trb w number front Foreign = (out_with w (took_other w.ring front Foreign), Worked)

  abbrev pub out_acted : OutWorld D → ℕ → Front → Found → OutWorld D × Acted
  out_acted w number front WrongKind = (out_with w (refused w.ring 10), Worked)
  out_acted w number front NotYet = (out_with w (used_up w.ring), Emptied)
  out_acted w number front (Item trb) = out_trb w number front trb

  abbrev pub out_at : OutWorld D → ℕ → Front → OutWorld D × Acted
  out_at w number front = out_acted w number front front.found

  -- a step for a tag whose stream's end is kept there; None where a byte of the controller's own structures isn't there
  abbrev pub stepped_out : OutWorld D → ℕ → Home → Option (OutWorld D × Acted)
  stepped_out w number home =
      through w (gate w.ring.memory w.ring.events w.ring.consumer) (option_map (out_at w number) (looked w.ring.memory home))
