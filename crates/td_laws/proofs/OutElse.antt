-- What a step of data-out and of the command pipe leaves.
use Rattle.std.proofs.Common.{◌≡◌, ℕ, ◌-◌, ◌==◌, Bool, true, false, List, length as list_length, Option, Some, None, refl, subst}
use Rattle.std.specs.Prelude.{nat_le, not, ◌&&◌, if◌then◌else◌, option_map}
use Rattle.guest_memory.specs.declared.rings.context.Home.{Home}
use Rattle.guest_memory.specs.declared.rings.context.Front.{Front}
use Rattle.guest_memory.specs.declared.rings.context.Found.{Found}
use Rattle.guest_memory.specs.declared.rings.context.Found.TheVariants.{WrongKind, NotYet, Item}
use Rattle.guest_memory.specs.declared.rings.trb.Flags.{Flags}
use Rattle.guest_memory.specs.declared.rings.trb.PipeTrb.{PipeTrb}
use Rattle.guest_memory.specs.declared.rings.trb.PipeTrb.TheVariants.{Normal, Link, NoOp, EventData, Foreign}
use Rattle.guest_memory.specs.rings.Ends.{looked}
use Rattle.guest_memory.specs.rings.Events.{has_room}
use Rattle.guest_pipes.specs.declared.acted.Acted.{Acted}
use Rattle.guest_pipes.specs.declared.acted.Acted.TheVariants.{Worked}
use Rattle.guest_pipes.specs.declared.progress.Ending.{Ending}
use Rattle.guest_pipes.specs.declared.progress.Ending.TheVariants.{Runs, Told, Owed}
use Rattle.guest_pipes.specs.Gate.{gate}
use Rattle.guest_pipes.specs.Progress.{runs}
use Rattle.guest_pipes.specs.Step.{filled, with_progress}
use Rattle.guest_tags.specs.declared.device.Phase.{Phase}
use Rattle.guest_tags.specs.declared.device.Phase.TheVariants.{Absent, Gives, Takes, Ended}
use Rattle.guest_tags.specs.declared.buffer.Buffer.{Buffer}
use Rattle.guest_tags.specs.Devices.{Kind}
use Rattle.guest_out.specs.Command.{command_acted, command_after, command_at, command_count, command_drawn, command_gathered, command_last, command_lost, command_normal, command_other, command_ran, command_through, received_if, unit_received}
use Rattle.guest_out.specs.DataOut.{drops_rest, out_acted, out_at, out_by, out_count, out_drawn, out_dropped, out_dropped_if, out_filled, out_filled_if, out_gathered, out_handed, out_moved, out_normal, out_ran, out_took, out_went, out_with}
use Rattle.guest_out.specs.Immediate.{bytes_out, tallied}
use Rattle.guest_out.specs.Worlds.{OutWorld}
use Rattle.td_laws.specs.Places.{nowhere}
use Rattle.td_laws.specs.NothingElse.{CommandLeavesElse, DataOutLeavesElse, LeavesElse}
use Rattle.td_laws.proofs.Fronts.{by_front, gate_room, looked_home}
use Rattle.td_laws.proofs.RingElse.{Keeps, failed-keeps, filled-keeps, filled_if-keeps, in_part, refused-keeps, skipped-keeps, took_other-keeps, unchanged, used_up-keeps}

module _ {D : Type 0} (kind : Kind D) where
  abbrev KeepsTo : OutWorld D → OutWorld D → Front → Type 0
  KeepsTo w done front = Keeps w.ring.memory w.ring.events done.ring front.home

  -- DATA-OUT
  out_filled-keeps : (w : OutWorld D) (front : Front) (buffer : Buffer) → has_room w.ring.events ≡ true → KeepsTo w (out_filled kind w front buffer) front
  out_filled-keeps w front buffer room = filled_if-keeps (nat_le buffer.length w.ring.consumer.progress.moved) w.ring front buffer.flags room

  out_took-keeps : (fits : Bool) (w : OutWorld D) (number : ℕ) (front : Front) (buffer : Buffer) → has_room w.ring.events ≡ true
      → KeepsTo w (out_filled_if kind fits (out_handed kind w number) front buffer) front
  unfolding out_handed
  out_took-keeps true w number front buffer room = out_filled-keeps (out_handed kind w number) front buffer room
  out_took-keeps false w number front buffer room = unchanged w.ring front.home

  out_went-keeps : (w : OutWorld D) (number count : ℕ) (front : Front) (buffer : Buffer) → has_room w.ring.events ≡ true
      → KeepsTo w (out_went kind w number count front buffer) front
  unfolding out_took
  out_went-keeps w number count front buffer room = by_size (list_length w.taken == count)
    where
      by_size : (full : Bool) → KeepsTo w (if full then out_took kind w number front buffer else out_filled kind w front buffer) front
      by_size true = out_took-keeps (kind.fits w.device number w.taken) w number front buffer room
      by_size false = out_filled-keeps w front buffer room

  out_drawn-keeps : (bytes : Option (List ℕ)) (w : OutWorld D) (number count : ℕ) (front : Front) (buffer : Buffer) → has_room w.ring.events ≡ true
      → KeepsTo w (out_drawn kind bytes w number count front buffer) front
  unfolding out_gathered
  out_drawn-keeps None w number count front buffer room = failed-keeps w.ring front buffer.length buffer.flags room
  out_drawn-keeps (Some bytes) w number count front buffer room = out_went-keeps (out_gathered kind w bytes) number count front buffer room

  out_dropped_if-keeps : (drops : Bool) (w : OutWorld D) (front : Front) (buffer : Buffer) → has_room w.ring.events ≡ true
      → KeepsTo w (out_dropped_if kind drops w front buffer).0 front
  unfolding out_dropped
  out_dropped_if-keeps true w front buffer room =
      filled-keeps (with_progress w.ring (tallied w.ring.consumer.progress (buffer.length - w.ring.consumer.progress.moved))) front buffer.flags room
  out_dropped_if-keeps false w front buffer room = unchanged w.ring front.home

  out_by-keeps : (phase : Phase) (w : OutWorld D) (number : ℕ) (front : Front) (buffer : Buffer) → has_room w.ring.events ≡ true
      → KeepsTo w (out_by kind phase w number front buffer).0 front
  unfolding out_moved
  out_by-keeps Absent w number front buffer room = unchanged w.ring front.home
  out_by-keeps (Gives count) w number front buffer room = unchanged w.ring front.home
  out_by-keeps (Takes count) w number front buffer room =
      out_drawn-keeps (bytes_out w.ring.memory buffer w.ring.consumer.progress.moved (out_count kind w count buffer)) w number count front buffer room
  out_by-keeps (Ended end) w number front buffer room = out_dropped_if-keeps (drops_rest end w.ring.consumer.progress.begun) w front buffer room

  out_ran-keeps : (w : OutWorld D) (number : ℕ) (front : Front) (buffer : Buffer) → has_room w.ring.events ≡ true
      → KeepsTo w (out_ran kind w number front buffer).0 front
  unfolding out_ran
  out_ran-keeps w number front buffer room = by_room (nat_le buffer.length w.ring.consumer.progress.moved)
    where
      by_room : (full : Bool) → KeepsTo w
          (if full then (out_with kind w (filled w.ring front buffer.flags), Worked) else out_by kind (kind.phase w.device number) w number front buffer).0 front
      by_room true = filled-keeps w.ring front buffer.flags room
      by_room false = out_by-keeps (kind.phase w.device number) w number front buffer room

  out_normal-keeps : (ending : Ending) (w : OutWorld D) (number : ℕ) (front : Front) (buffer : Buffer) → has_room w.ring.events ≡ true
      → KeepsTo w (out_normal kind ending w number front buffer).0 front
  out_normal-keeps Runs w number front buffer room = out_ran-keeps w number front buffer room
  out_normal-keeps (Told code) w number front buffer room = skipped-keeps w.ring front buffer.length buffer.flags room
  out_normal-keeps Owed w number front buffer room = skipped-keeps w.ring front buffer.length buffer.flags room

  out_acted-keeps : (found : Found) (w : OutWorld D) (number : ℕ) (front : Front) → has_room w.ring.events ≡ true
      → KeepsTo w (out_acted kind w number front found).0 front
  out_acted-keeps WrongKind w number front room = refused-keeps w.ring 10 front.home room
  out_acted-keeps NotYet w number front room = used_up-keeps w.ring front.home
  out_acted-keeps (Item (Normal pointer length flags)) w number front room =
      out_normal-keeps w.ring.consumer.progress.ending w number front (record { pointer = pointer; length = length; flags = flags }) room
  out_acted-keeps (Item (Link pointer toggle flags)) w number front room = took_other-keeps w.ring front (Link pointer toggle flags) room
  out_acted-keeps (Item (NoOp flags)) w number front room = took_other-keeps w.ring front (NoOp flags) room
  out_acted-keeps (Item (EventData parameter flags)) w number front room = took_other-keeps w.ring front (EventData parameter flags) room
  out_acted-keeps (Item Foreign) w number front room = took_other-keeps w.ring front Foreign room

  pub data_out_leaves : DataOutLeavesElse kind
  data_out_leaves w number home =
      by_front w w.ring home (out_at kind w number) (λ (new : OutWorld D) (f : Option Front). LeavesElse w.ring.memory w.ring.events new.ring home nowhere)
      (in_part (unchanged w.ring home))
      (λ front there room. subst (λ (h : Home). LeavesElse w.ring.memory w.ring.events (out_at kind w number front).0.ring h nowhere) there
      (in_part (out_acted-keeps front.found w number front room)))

  -- COMMAND
  received_if-keeps : (last : Bool) (w v : OutWorld D) (front : Front) → KeepsTo w v front → KeepsTo w (received_if kind last v).0 front
  unfolding unit_received
  received_if-keeps true w v front kept = kept
  received_if-keeps false w v front kept = kept

  command_drawn-keeps : (bytes : Option (List ℕ)) (w : OutWorld D) (front : Front) (buffer : Buffer) → has_room w.ring.events ≡ true
      → KeepsTo w (command_drawn kind bytes w front buffer).0 front
  unfolding command_lost command_gathered
  command_drawn-keeps None w front buffer room = failed-keeps w.ring front buffer.length buffer.flags room
  command_drawn-keeps (Some bytes) w front buffer room =
      received_if-keeps (not buffer.flags.chain) w (command_gathered kind w bytes front buffer) front
      (filled-keeps (with_progress w.ring (tallied w.ring.consumer.progress buffer.length)) front buffer.flags room)

  command_normal-keeps : (ending : Ending) (w : OutWorld D) (front : Front) (buffer : Buffer) → has_room w.ring.events ≡ true
      → KeepsTo w (command_normal kind ending w front buffer).0 front
  unfolding command_ran
  command_normal-keeps Runs w front buffer room = command_drawn-keeps (bytes_out w.ring.memory buffer 0 (command_count kind w buffer)) w front buffer room
  command_normal-keeps (Told code) w front buffer room = skipped-keeps w.ring front buffer.length buffer.flags room
  command_normal-keeps Owed w front buffer room = skipped-keeps w.ring front buffer.length buffer.flags room

  command_last-keeps : (w : OutWorld D) (front : Front) (trb : PipeTrb) (flags : Flags) → has_room w.ring.events ≡ true
      → KeepsTo w (command_last kind w front trb flags).0 front
  command_last-keeps w front trb flags room =
      received_if-keeps (runs w.ring.consumer.progress.ending && not flags.chain) w (command_other kind w front trb) front (took_other-keeps w.ring front trb room)

  command_acted-keeps : (found : Found) (w : OutWorld D) (front : Front) → has_room w.ring.events ≡ true
      → KeepsTo w (command_acted kind w front found).0 front
  command_acted-keeps WrongKind w front room = refused-keeps w.ring 10 front.home room
  command_acted-keeps NotYet w front room = used_up-keeps w.ring front.home
  command_acted-keeps (Item (Normal pointer length flags)) w front room =
      command_normal-keeps w.ring.consumer.progress.ending w front (record { pointer = pointer; length = length; flags = flags }) room
  command_acted-keeps (Item (Link pointer toggle flags)) w front room = took_other-keeps w.ring front (Link pointer toggle flags) room
  command_acted-keeps (Item (NoOp flags)) w front room = command_last-keeps w front (NoOp flags) flags room
  command_acted-keeps (Item (EventData parameter flags)) w front room = command_last-keeps w front (EventData parameter flags) flags room
  command_acted-keeps (Item Foreign) w front room = took_other-keeps w.ring front Foreign room

  pub command_leaves : CommandLeavesElse kind
  command_leaves w home =
      by_gate (gate w.ring.memory w.ring.events w.ring.consumer) (looked w.ring.memory home)
      (gate_room w.ring.memory w.ring.events w.ring.consumer) (looked_home w.ring.memory home)
    where
      by_gate : (opens : Option (Option Acted)) (found : Option Front) → (opens ≡ Some None → has_room w.ring.events ≡ true)
          → ((front : Front) → found ≡ Some front → front.home ≡ home)
          → LeavesElse w.ring.memory w.ring.events (command_after kind w (command_through kind w opens (option_map (command_at kind w) found))).0.ring home nowhere
      by_gate None found room homes = in_part (unchanged w.ring home)
      by_gate (Some None) None room homes = in_part (unchanged w.ring home)
      by_gate (Some None) (Some front) room homes =
          subst (λ (h : Home). LeavesElse w.ring.memory w.ring.events (command_at kind w front).0.ring h nowhere) (homes front refl)
          (in_part (command_acted-keeps front.found w front (room refl)))
      by_gate (Some (Some acted)) found room homes = in_part (unchanged w.ring home)
