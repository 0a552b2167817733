-- NOTHING ELSE is written: a step writes the part of the buffer that is moved, the next event's place, and where the ring's end is kept.
use Rattle.std.specs.Prelude.{◌≡◌, ℕ, ◌⊎◌, Bool, true}
use Rattle.guest_memory.specs.Bytes.{Memory}
use Rattle.guest_memory.specs.declared.rings.context.Home.{Home}
use Rattle.guest_memory.specs.declared.rings.wanting.Range.{Range}
use Rattle.guest_memory.specs.rings.Events.{EventEnd, enqueued, has_room}
use Rattle.guest_memory.specs.rings.Wanted.{home_range}
use Rattle.guest_pipes.specs.Gate.{after}
use Rattle.guest_pipes.specs.Step.{World}
use Rattle.guest_tags.specs.DataIn.{stepped_in}
use Rattle.guest_tags.specs.Devices.{Kind}
use Rattle.guest_tags.specs.Status.{stepped_status}
use Rattle.guest_tags.specs.Tags.{TagWorld}
use Rattle.guest_out.specs.Command.{command_after, stepped_command}
use Rattle.guest_out.specs.DataOut.{stepped_out}
use Rattle.guest_out.specs.Worlds.{OutWorld}
use Rattle.td_laws.specs.Places.{IsOutside, event_range, nowhere, part_in, part_status}

-- the event ring is as it was, or has one event more where two places were free
abbrev pub HasOneMoreAtMost : EventEnd → EventEnd → Type 0
HasOneMoreAtMost old new = (new ≡ old) ⊎ ((quiet : Bool) × (has_room old ≡ true) × (new ≡ enqueued old quiet))

-- what a step at a ring's end leaves of the memory and of the event ring that it found
pub record LeavesElse (memory : Memory) (ring : EventEnd) (new : World) (home : Home) (part : Range) : Type 0 where
  pub others : (a : ℕ) → IsOutside a part → IsOutside a (event_range ring) → IsOutside a (home_range home) → new.memory a ≡ memory a
  pub events : HasOneMoreAtMost ring new.events

module _ {D : Type 0} (kind : Kind D) where
  abbrev pub DataInLeavesElse : Type 0
  DataInLeavesElse =
      (w : TagWorld D) (number : ℕ) (home : Home)
      → LeavesElse w.ring.memory w.ring.events (after w (stepped_in kind w number home)).0.ring home (part_in kind w number home)

  abbrev pub StatusLeavesElse : Type 0
  StatusLeavesElse =
      (w : TagWorld D) (number : ℕ) (due : Bool) (home : Home)
      → LeavesElse w.ring.memory w.ring.events (after w (stepped_status kind w number due home)).0.ring home (part_status kind w number due home)

  -- the OUT pipes write no buffer
  abbrev pub DataOutLeavesElse : Type 0
  DataOutLeavesElse =
      (w : OutWorld D) (number : ℕ) (home : Home)
      → LeavesElse w.ring.memory w.ring.events (after w (stepped_out kind w number home)).0.ring home nowhere

  abbrev pub CommandLeavesElse : Type 0
  CommandLeavesElse =
      (w : OutWorld D) (home : Home)
      → LeavesElse w.ring.memory w.ring.events (command_after kind w (stepped_command kind w home)).0.ring home nowhere
