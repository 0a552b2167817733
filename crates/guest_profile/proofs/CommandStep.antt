-- A step of the command pipe at a TRB that is a whole TD.
use Rattle.std.proofs.Common.{◌≡◌, ℕ, ◌+◌, ◌≤◌, min, Bool, true, false, List, [], Option, Some, None, refl, ap, arith}
use Rattle.guest_memory.specs.Bytes.{Memory, bytes_from}
use Rattle.guest_memory.specs.declared.rings.cursor.Cursor.{Cursor}
use Rattle.guest_memory.specs.declared.rings.context.Home.{Home}
use Rattle.guest_memory.specs.declared.rings.context.Found.TheVariants.{Item, NotYet}
use Rattle.guest_memory.specs.declared.rings.trb.Flags.{Flags}
use Rattle.guest_memory.specs.declared.rings.trb.PipeTrb.TheVariants.{Link, Normal}
use Rattle.guest_memory.specs.rings.Ends.{followed, looked}
use Rattle.guest_memory.specs.rings.Events.{EventEnd}
use Rattle.guest_pipes.specs.declared.acted.Acted.{Acted}
use Rattle.guest_pipes.specs.declared.acted.Acted.TheVariants.{Emptied, Worked}
use Rattle.guest_pipes.specs.Step.{World, used_up}
use Rattle.guest_tags.specs.declared.device.Received.{Received}
use Rattle.guest_tags.specs.declared.device.Received.TheVariants.{Dropped}
use Rattle.guest_pipes.specs.Progress.{fresh}
use Rattle.guest_pipes.specs.Gate.{gate}
use Rattle.guest_tags.specs.Devices.{Kind}
use Rattle.guest_out.specs.Immediate.{bytes_out, tallied}
use Rattle.guest_out.specs.Worlds.{OutWorld}
use Rattle.guest_out.specs.Command.{command_gathered, command_ran, command_with, stepped_command, unit_received}
use Rattle.guest_profile.specs.Rings.{link_flags}
use Rattle.guest_profile.specs.Ready.{rung_consumer}
use Rattle.guest_profile.proofs.TdStep.{filled-whole, linked-quiet, linked_world, told_world}

-- the lesser of two numbers that are in order
min-less : (a b : ℕ) → a ≤ b → min a b ≡ a
min-less a b less = omega arith

module _ {D : Type 0} (kind : Kind D) where
  abbrev pub ready_out : Memory → EventEnd → ℕ → D → OutWorld D
  ready_out memory events endpoint device = record {
    ring = record { memory = memory; events = events; consumer = rung_consumer endpoint };
    taken = [];
    device = device;
  }

  -- the same flags without CH and IDT
  abbrev alone : Flags → Flags
  alone flags = record { chain = false; ioc = flags.ioc; isp = flags.isp; bei = flags.bei; idt = false }

  -- what is done once the device received an information unit
  abbrev done_with : D × Received → World → Option (OutWorld D × (Acted × Received))
  done_with after ring = Some (record { ring = ring; taken = []; device = after.0 }, (Worked, after.1))

  pub command-whole : (memory : Memory) (events : EventEnd) (endpoint : ℕ) (device : D) (home : Home) (cursor : Cursor) (pointer length : ℕ) (flags : Flags) (bytes : List ℕ)
      → gate memory events (rung_consumer endpoint) ≡ Some None
      → looked memory home ≡ Some (record { home = home; cursor = cursor; found = Item (Normal pointer length flags) })
      → flags.chain ≡ false → flags.ioc ≡ true → flags.idt ≡ false → length ≤ 1024 → bytes_from memory pointer length ≡ Some bytes
      → stepped_command kind (ready_out memory events endpoint device) home
      ≡ Some (
        record { ring = told_world memory events endpoint home cursor 0 1 flags.bei; taken = []; device = (kind.received device bytes).0 },
        (Worked, (kind.received device bytes).1),
      )
  unfolding command_ran command_gathered unit_received bytes_out
  command-whole memory events endpoint device home cursor pointer length flags bytes opens looks last told plain short there =
      let count : min length 1024 ≡ length = min-less length 1024 short in
      let at : pointer + 0 ≡ pointer = omega arith in
      rw (opens, looks, plain, count, at, there, last)
      (ap (done_with (kind.received device bytes))
      (filled-whole memory events endpoint (tallied fresh length)
      (record { home = home; cursor = cursor; found = Item (Normal pointer length (alone flags)) }) (alone flags) refl told))

  -- at a Link, and where no TRB is there
  pub command-link : (memory : Memory) (events : EventEnd) (endpoint : ℕ) (device : D) (home : Home) (cursor : Cursor) (pointer : ℕ) (toggle chain : Bool)
      → gate memory events (rung_consumer endpoint) ≡ Some None
      → looked memory home ≡ Some (record { home = home; cursor = cursor; found = Item (Link pointer toggle (link_flags chain false)) })
      → stepped_command kind (ready_out memory events endpoint device) home
      ≡ Some (
        record { ring = linked_world memory events endpoint home (followed cursor pointer toggle); taken = []; device = device },
        (Worked, Dropped),
      )
  command-link memory events endpoint device home cursor pointer toggle chain opens looks =
      rw (opens, looks)
      (ap (λ (ring : World). Some (record { ring = ring; taken = []; device = device }, (Worked, Dropped)))
      (linked-quiet memory events endpoint (record { home = home; cursor = cursor; found = Item (Link pointer toggle (link_flags chain false)) }) pointer toggle chain))

  pub command-none : (memory : Memory) (events : EventEnd) (endpoint : ℕ) (device : D) (home : Home) (cursor : Cursor)
      → gate memory events (rung_consumer endpoint) ≡ Some None
      → looked memory home ≡ Some (record { home = home; cursor = cursor; found = NotYet })
      → stepped_command kind (ready_out memory events endpoint device) home
      ≡ Some (command_with kind (ready_out memory events endpoint device) (used_up (ready_out memory events endpoint device).ring), (Emptied, Dropped))
  command-none memory events endpoint device home cursor opens looks = rw (opens, looks) refl
