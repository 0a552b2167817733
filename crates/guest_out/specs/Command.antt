-- A step of the command pipe: one equation over memory, event ring, consumer, what is gathered and device.
use Rattle.std.specs.Prelude.{ℕ, ◌-◌, min, Bool, true, false, not, ◌&&◌, List, [], ◌++◌, length as list_length, Option, Some, None, option_map}
use Rattle.guest_memory.specs.declared.rings.context.Home.{Home}
use Rattle.guest_memory.specs.declared.rings.context.Front.{Front}
use Rattle.guest_memory.specs.declared.rings.context.Found.{Found}
use Rattle.guest_memory.specs.declared.rings.context.Found.TheVariants.{WrongKind, NotYet, Item}
use Rattle.guest_memory.specs.declared.rings.trb.Flags.{Flags}
use Rattle.guest_memory.specs.declared.rings.trb.PipeTrb.{PipeTrb}
use Rattle.guest_memory.specs.declared.rings.trb.PipeTrb.TheVariants.{Normal, Link, NoOp, EventData, Foreign}
use Rattle.guest_memory.specs.rings.Ends.{looked}
use Rattle.guest_pipes.specs.declared.acted.Acted.{Acted}
use Rattle.guest_pipes.specs.declared.acted.Acted.TheVariants.{Emptied, Worked}
use Rattle.guest_pipes.specs.declared.progress.Ending.{Ending}
use Rattle.guest_pipes.specs.declared.progress.Ending.TheVariants.{Runs, Told, Owed}
use Rattle.guest_pipes.specs.Progress.{runs}
use Rattle.guest_pipes.specs.Step.{World, failed, filled, refused, skipped, used_up, with_progress}
use Rattle.guest_pipes.specs.Gate.{gate, took_other}
use Rattle.guest_tags.specs.declared.device.Received.{Received}
use Rattle.guest_tags.specs.declared.device.Received.TheVariants.{Dropped}
use Rattle.guest_tags.specs.declared.buffer.Buffer.{Buffer}
use Rattle.guest_tags.specs.Devices.{Kind}
use Rattle.guest_out.specs.Immediate.{bytes_out, tallied}
use Rattle.guest_out.specs.Worlds.{OutWorld}

module _ {D : Type 0} (kind : Kind D) where
  abbrev pub command_with : OutWorld D → World → OutWorld D
  command_with w ring = record w { ring = ring }

  -- the device receives what was gathered
  unfoldable pub unit_received : OutWorld D → OutWorld D × Received
  unit_received w =
      let after = kind.received w.device w.taken in
      (record w { taken = []; device = after.0 }, after.1)

  -- at its TD's last TRB
  abbrev pub received_if : Bool → OutWorld D → OutWorld D × Received
  received_if true w = unit_received w
  received_if false w = (w, Dropped)

  -- the buffer isn't there: no information unit comes of the TD
  unfoldable pub command_lost : OutWorld D → Front → Buffer → OutWorld D
  command_lost w front buffer = record w { ring = failed w.ring front buffer.length buffer.flags; taken = [] }

  -- bytes of the information unit are gathered, and the TRB is consumed
  unfoldable pub command_gathered : OutWorld D → List ℕ → Front → Buffer → OutWorld D
  command_gathered w bytes front buffer = record w {
    ring = filled (with_progress w.ring (tallied w.ring.consumer.progress buffer.length)) front buffer.flags;
    taken = w.taken ++ bytes;
  }

  -- how many bytes of a TRB are gathered: up to 1,024 of a TD, and what is above is dropped
  abbrev pub command_count : OutWorld D → Buffer → ℕ
  command_count w buffer = min buffer.length (1024 - list_length w.taken)

  abbrev pub command_drawn : Option (List ℕ) → OutWorld D → Front → Buffer → OutWorld D × Received
  command_drawn None w front buffer = (command_lost w front buffer, Dropped)
  command_drawn (Some bytes) w front buffer = received_if (not buffer.flags.chain) (command_gathered w bytes front buffer)

  -- a Normal TRB of a TD whose bytes move
  unfoldable pub command_ran : OutWorld D → Front → Buffer → OutWorld D × Received
  command_ran w front buffer = command_drawn (bytes_out w.ring.memory buffer 0 (command_count w buffer)) w front buffer

  abbrev pub command_normal : Ending → OutWorld D → Front → Buffer → OutWorld D × Received
  command_normal Runs w front buffer = command_ran w front buffer
  command_normal (Told code) w front buffer = (command_with w (skipped w.ring front buffer.length buffer.flags), Dropped)
  command_normal Owed w front buffer = (command_with w (skipped w.ring front buffer.length buffer.flags), Dropped)

  abbrev pub command_other : OutWorld D → Front → PipeTrb → OutWorld D
  command_other w front trb = command_with w (took_other w.ring front trb)

  -- another TRB that may be its TD's last
  abbrev pub command_last : OutWorld D → Front → PipeTrb → Flags → OutWorld D × Received
  command_last w front trb flags =
      received_if (runs w.ring.consumer.progress.ending && not flags.chain) (command_other w front trb)

  abbrev pub command_trb : OutWorld D → Front → PipeTrb → OutWorld D × Received
  command_trb w front (Normal pointer length flags) =
      command_normal w.ring.consumer.progress.ending w front (record { pointer = pointer; length = length; flags = flags })
  command_trb w front (Link pointer toggle flags) = (command_other w front (Link pointer toggle flags), Dropped)
  command_trb w front (NoOp flags) = command_last w front (NoOp flags) flags
  command_trb w front (EventData parameter flags) = command_last w front (EventData parameter flags) flags
  command_trb w front Foreign = (command_other w front Foreign, Dropped)

  -- what a step did, and what came of an information unit
  abbrev pub worked : OutWorld D × Received → OutWorld D × (Acted × Received)
  worked done = (done.0, (Worked, done.1))

  abbrev pub command_acted : OutWorld D → Front → Found → OutWorld D × (Acted × Received)
  command_acted w front WrongKind = (command_with w (refused w.ring 10), (Worked, Dropped))
  command_acted w front NotYet = (command_with w (used_up w.ring), (Emptied, Dropped))
  command_acted w front (Item trb) = worked (command_trb w front trb)

  abbrev pub command_at : OutWorld D → Front → OutWorld D × (Acted × Received)
  command_at w front = command_acted w front front.found

  abbrev pub command_through : OutWorld D → Option (Option Acted) → Option (OutWorld D × (Acted × Received)) → Option (OutWorld D × (Acted × Received))
  command_through w None step = None
  command_through w (Some None) step = step
  command_through w (Some (Some acted)) step = Some (w, (acted, Dropped))

  -- a step of the command pipe, whose end is kept there; None where a byte of the controller's own structures isn't there
  abbrev pub stepped_command : OutWorld D → Home → Option (OutWorld D × (Acted × Received))
  stepped_command w home =
      command_through w (gate w.ring.memory w.ring.events w.ring.consumer) (option_map (command_at w) (looked w.ring.memory home))

  -- a refused step leaves the world
  abbrev pub command_after : OutWorld D → Option (OutWorld D × (Acted × Received)) → OutWorld D × Option (Acted × Received)
  command_after w None = (w, None)
  command_after w (Some done) = (done.0, Some done.1)
