-- WHAT IS TOLD of the TRBs of data-out and of the command pipe.
use Rattle.std.specs.Prelude.{◌≡◌, ℕ, ◌+◌, ◌-◌, ◌≤◌, ◌⊎◌, length as list_length, Some, None}
use Rattle.guest_memory.specs.declared.rings.context.Home.{Home}
use Rattle.guest_memory.specs.declared.rings.context.Front.{Front}
use Rattle.guest_memory.specs.declared.rings.context.Found.TheVariants.{Item}
use Rattle.guest_memory.specs.declared.rings.trb.PipeTrb.{PipeTrb}
use Rattle.guest_memory.specs.rings.Wanted.{home_range}
use Rattle.guest_pipes.specs.Step.{World, about}
use Rattle.guest_tags.specs.declared.buffer.Buffer.{Buffer}
use Rattle.guest_tags.specs.declared.device.End.TheVariants.{Good}
use Rattle.guest_tags.specs.declared.device.Phase.TheVariants.{Ended, Takes}
use Rattle.guest_tags.specs.Devices.{Kind}
use Rattle.guest_tags.specs.Wanted.{moving}
use Rattle.guest_out.specs.Command.{command_after, command_count, stepped_command}
use Rattle.guest_out.specs.DataOut.{out_count}
use Rattle.guest_out.specs.Immediate.{bytes_out}
use Rattle.guest_out.specs.Worlds.{OutWorld}
use Rattle.td_laws.specs.Places.{AreApart, event_range, front_of}
use Rattle.td_laws.specs.OutInOrder.{bytes_taken, out_stepped}
use Rattle.td_laws.specs.Told.{Counts, HasTold, IsToldOf, Tells, edtla_behind, edtla_past}

-- what a step told of the Normal TRB in front, of whose buffer it took so many bytes
pub data IsToldOut (old new : World) (place : ℕ) (buffer : Buffer) (count : ℕ) (Over Missing : Type 0) : Type 0 where
  -- the TRB stays in front, and nothing is written
  Partly : old.consumer.progress.moved + count ≤ buffer.length → new.memory ≡ old.memory → new.events ≡ old.events
      → new.consumer.progress.ending ≡ old.consumer.progress.ending
      → Counts new.consumer.progress (old.consumer.progress.moved + count) (old.consumer.progress.edtla + count)
      → IsToldOut old new place buffer count Over Missing
  -- all of it was taken: with IOC, code 1 and no residual
  Wholly : old.consumer.progress.moved + count ≡ buffer.length → Tells buffer.flags.ioc old.events new (about old.consumer place 0 1) buffer.flags.bei
      → Counts new.consumer.progress 0 (edtla_behind buffer.flags.chain (old.consumer.progress.edtla + count))
      → IsToldOut old new place buffer count Over Missing
  -- the task takes no more, and what is left is dropped: it is told as if it had been taken
  Drops : Over → Tells buffer.flags.ioc old.events new (about old.consumer place 0 1) buffer.flags.bei
      → Counts new.consumer.progress 0 (edtla_behind buffer.flags.chain (old.consumer.progress.edtla + (buffer.length - old.consumer.progress.moved)))
      → IsToldOut old new place buffer count Over Missing
  -- its buffer isn't there: code 2 and its length
  Misses : HasTold old.events new (about old.consumer place buffer.length 2) buffer.flags.bei → Missing
      → new.consumer.progress.moved ≡ 0
      → IsToldOut old new place buffer count Over Missing

module _ {D : Type 0} (kind : Kind D) where
  -- a byte of the part that the device takes next isn't there
  abbrev pub IsOutMissing : OutWorld D → ℕ → Buffer → Type 0
  IsOutMissing w number buffer =
      (count : ℕ) × (kind.phase w.device number ≡ Takes count) × (bytes_out w.ring.memory buffer w.ring.consumer.progress.moved (out_count kind w count buffer) ≡ None)

  -- DATA-OUT: the rest of a TD is dropped once its task has ended with GOOD
  abbrev pub OutResidualsAddUp : Type 0
  OutResidualsAddUp =
      (w : OutWorld D) (number : ℕ) (home : Home) (front : Front) (buffer : Buffer) → front_of w.ring home ≡ Some front
      → moving w.ring.consumer front ≡ Some buffer → w.ring.consumer.progress.moved ≤ buffer.length
      → AreApart (event_range w.ring.events) (home_range home)
      → IsToldOut w.ring (out_stepped kind number home w).ring front.cursor.place buffer (list_length (bytes_taken kind number home w))
      (kind.phase w.device number ≡ Ended Good) (IsOutMissing w number buffer)

  abbrev pub OutEventEach : Type 0
  OutEventEach =
      (w : OutWorld D) (number : ℕ) (home : Home) (front : Front) (trb : PipeTrb) → front_of w.ring home ≡ Some front
      → front.found ≡ Item trb → moving w.ring.consumer front ≡ None → AreApart (event_range w.ring.events) (home_range home)
      → IsToldOf trb w.ring.consumer w.ring.events (out_stepped kind number home w).ring front.cursor.place
      × ((out_stepped kind number home w).ring.consumer.progress.edtla ≡ edtla_past trb w.ring.consumer.progress.edtla)

  abbrev pub command_stepped : Home → OutWorld D → OutWorld D
  command_stepped home w = (command_after kind w (stepped_command kind w home)).0

  -- COMMAND: a TRB is taken whole, what of it has room in an information unit; or a byte of that isn't there
  abbrev pub CommandResidualsAddUp : Type 0
  CommandResidualsAddUp =
      (w : OutWorld D) (home : Home) (front : Front) (buffer : Buffer) → front_of w.ring home ≡ Some front
      → moving w.ring.consumer front ≡ Some buffer → AreApart (event_range w.ring.events) (home_range home)
      → (Tells buffer.flags.ioc w.ring.events (command_stepped home w).ring (about w.ring.consumer front.cursor.place 0 1) buffer.flags.bei
      × Counts (command_stepped home w).ring.consumer.progress 0 (edtla_behind buffer.flags.chain (w.ring.consumer.progress.edtla + buffer.length)))
      ⊎ (HasTold w.ring.events (command_stepped home w).ring (about w.ring.consumer front.cursor.place buffer.length 2) buffer.flags.bei
      × (bytes_out w.ring.memory buffer 0 (command_count kind w buffer) ≡ None))

  abbrev pub CommandEventEach : Type 0
  CommandEventEach =
      (w : OutWorld D) (home : Home) (front : Front) (trb : PipeTrb) → front_of w.ring home ≡ Some front
      → front.found ≡ Item trb → moving w.ring.consumer front ≡ None → AreApart (event_range w.ring.events) (home_range home)
      → IsToldOf trb w.ring.consumer w.ring.events (command_stepped home w).ring front.cursor.place
      × ((command_stepped home w).ring.consumer.progress.edtla ≡ edtla_past trb w.ring.consumer.progress.edtla)
