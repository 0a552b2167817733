-- What is done at the end of a ring whose bytes nothing can serve (xHCI 1.2, 4.8.3 and 4.10.2): a TRB that moves bytes is told with what is left of
-- it, the consumer stays, and the endpoint halts. Any other TRB means what it means on every pipe, and so does what is left of a TD that has ended.
use Rattle.std.specs.Prelude.{ℕ, ◌-◌, false, Option, option_map}
use Rattle.guest_memory.specs.declared.rings.context.Home.{Home}
use Rattle.guest_memory.specs.declared.rings.context.Front.{Front}
use Rattle.guest_memory.specs.declared.rings.context.Found.{Found}
use Rattle.guest_memory.specs.declared.rings.context.Found.TheVariants.{WrongKind, NotYet, Item}
use Rattle.guest_memory.specs.declared.rings.trb.PipeTrb.{PipeTrb}
use Rattle.guest_memory.specs.declared.rings.trb.PipeTrb.TheVariants.{Normal, Link, NoOp, EventData, Foreign}
use Rattle.guest_memory.specs.rings.Ends.{looked}
use Rattle.guest_pipes.specs.declared.acted.Acted.{Acted}
use Rattle.guest_pipes.specs.declared.acted.Acted.TheVariants.{Emptied, Worked}
use Rattle.guest_pipes.specs.declared.consumer.EndpointState.TheVariants.{Halted}
use Rattle.guest_pipes.specs.declared.progress.Ending.{Ending}
use Rattle.guest_pipes.specs.declared.progress.Ending.TheVariants.{Runs, Told, Owed}
use Rattle.guest_memory.specs.declared.rings.trb.Flags.{Flags}
use Rattle.guest_pipes.specs.Gate.{gate, through, took_other}
use Rattle.guest_pipes.specs.Step.{World, about, in_state, posted, refused, skipped, used_up}

-- the TRB in front is told with what is left of it and this code; the endpoint halts
abbrev pub stuck : World → Front → ℕ → ℕ → World
stuck w front left code = in_state (posted w (about w.consumer front.cursor.place left code) false) Halted

-- a Normal TRB, whose TD's bytes move, or which is skipped
abbrev pub unserved_bytes : Ending → World → Front → ℕ → ℕ → Flags → World
unserved_bytes Runs w front code length flags = stuck w front (length - w.consumer.progress.moved) code
unserved_bytes (Told told) w front code length flags = skipped w front length flags
unserved_bytes Owed w front code length flags = skipped w front length flags

abbrev pub unserved_trb : World → Front → ℕ → PipeTrb → World
unserved_trb w front code (Normal pointer length flags) = unserved_bytes w.consumer.progress.ending w front code length flags
unserved_trb w front code (Link pointer toggle flags) = took_other w front (Link pointer toggle flags)
unserved_trb w front code (NoOp flags) = took_other w front (NoOp flags)
unserved_trb w front code (EventData parameter flags) = took_other w front (EventData parameter flags)
unserved_trb w front code Foreign = took_other w front Foreign

abbrev pub unserved_found : World → Front → ℕ → Found → World × Acted
unserved_found w front code WrongKind = (refused w 10, Worked)
unserved_found w front code NotYet = (used_up w, Emptied)
unserved_found w front code (Item trb) = (unserved_trb w front code trb, Worked)

abbrev pub unserved_at : World → ℕ → Front → World × Acted
unserved_at w code front = unserved_found w front code front.found

-- a step; None where a byte of the event's place, of the ring's end or of the TRB there isn't there
abbrev pub unserved_stepped : World → Home → ℕ → Option (World × Acted)
unserved_stepped w home code = through w (gate w.memory w.events w.consumer) (option_map (unserved_at w code) (looked w.memory home))
