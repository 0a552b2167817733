-- A turn that lacks nothing isn't refused.
use Rattle.std.proofs.Common.{◌≡◌, Bool, true, false, Option, Some, None, refl, sym}
use Rattle.std.proofs.lemmas.Bool.{false≢true}
use Rattle.std.proofs.lemmas.Option.{none-some}
use Rattle.std.specs.Prelude.{is_some, if◌then◌else◌, not, ◌&&◌, Ok, Err}
use Rattle.guest_memory.specs.Bytes.{Memory}
use Rattle.guest_memory.specs.declared.rings.cursor.Cursor.{Cursor}
use Rattle.guest_memory.specs.declared.rings.wanting.Range.{Range}
use Rattle.guest_memory.specs.declared.rings.words.Words.{Words}
use Rattle.guest_memory.specs.rings.Ends.{fetched, followed}
use Rattle.guest_memory.specs.rings.Events.{EventEnd, has_room}
use Rattle.guest_memory.specs.rings.WantedLaws.{there_if}
use Rattle.guest_pipes.specs.declared.acted.Acted.{Acted}
use Rattle.guest_pipes.specs.declared.acted.Acted.TheVariants.{Full, Idle, Off}
use Rattle.guest_pipes.specs.declared.consumer.Consumer.{Consumer}
use Rattle.guest_pipes.specs.Gate.{gate, is_running, room_gate}
use Rattle.guest_pipes.specs.Step.{has_place}
use Rattle.guest_pipes.specs.Wanted.{place_range, wanted_through}
use Rattle.xhci_machine.specs.declared.Machine.{Machine}
use Rattle.xhci_machine.specs.declared.command.Command.{Command}
use Rattle.xhci_machine.specs.declared.command.Command.TheVariants.{Link, NoOp, OnSlot, OnEndpoint, Foreign}
use Rattle.xhci_machine.specs.declared.wanting.End.TheVariants.{Acts}
use Rattle.xhci_machine.specs.Commands.{command_in}
use Rattle.xhci_machine.specs.Lacking.{command_wanted, taken_wanted, words_wanted}
use Rattle.xhci_machine.specs.Ring.{command_cursor, ended, has_command, on_slot_done}
use Rattle.xhci_machine.specs.Steps.{command_taken, commands_stepped, endpoint_command_taken, fetched_taken, front_taken, link_followed}
use Rattle.xhci_machine.specs.Steps.{slot_command_taken, stop_posted, through, worked_if}
use Rattle.xhci_machine.specs.Turns.{World}
use Rattle.xhci_machine.specs.Bus.{has_no_tags}
use Rattle.xhci_machine.specs.Contexts.{context_wanted, in_context, is_asleep, is_due, of_endpoint, of_tag}
use Rattle.xhci_machine.specs.Wanted.{Look, acts, acts_in_context, commands_looked, lacks_nothing, needs, place_wanted, ring_wanted}
use Rattle.xhci_machine.specs.Wanted.{then_look}
use Rattle.xhci_machine.proofs.OrdersTaken.{order_ends}
use Rattle.xhci_machine.proofs.SlotTaken.{Executes, ends, slot_done, slot_ends, stands}

-- LOOKS

pub needs_nothing : (wanted : Option Range) (rest : Look) → lacks_nothing (then_look (needs wanted) rest) ≡ true
    → (wanted ≡ None) × (lacks_nothing rest ≡ true)
needs_nothing None rest is = (refl, is)
needs_nothing (Some range) rest is = absurd (false≢true is)

pub needs_whole : (wanted : Option Range) → lacks_nothing (needs wanted) ≡ true → wanted ≡ None
needs_whole None is = refl
needs_whole (Some range) is = absurd (false≢true is)

pub acts_whole : (wanted : Option Range) → lacks_nothing (acts wanted) ≡ true → wanted ≡ None
acts_whole None is = refl
acts_whole (Some range) is = absurd (false≢true is)

-- a turn that is due only where something may be wanted
pub wants_nothing : (due : Bool) (memory : Memory) (m : Machine) (wanted : Option Range) → (due ≡ false → wanted ≡ None)
    → lacks_nothing (if due then acts_in_context memory m wanted else Ok tt) ≡ true → wanted ≡ None
wants_nothing true memory m wanted idle is = acts_whole wanted (needs_nothing (context_wanted memory m.slot) (acts wanted) is).1
wants_nothing false memory m wanted idle is = idle refl

-- a step whose context is there where it is due
in_there : (w : World) (due : Bool) (step : World × Option Acted) → (due ≡ true → context_wanted w.memory w.machine.slot ≡ None)
    → is_some step.1 ≡ true → is_some (in_context w due step).1 ≡ true
in_there w true step there is = by_room (has_room w.events)
  where
    by_room : (room : Bool) → is_some (if room && is_some (context_wanted w.memory w.machine.slot) then (w, None) else step).1 ≡ true
    by_room true = rw (there refl) is
    by_room false = is
in_there w false step there is = is

-- the same of a step of an endpoint, which has none while the port is suspended
pub of_there : (w : World) (due : Bool) (step : World × Option Acted) → (due ≡ true → context_wanted w.memory w.machine.slot ≡ None)
    → is_some step.1 ≡ true → is_some (of_endpoint w due step).1 ≡ true
of_there w due step there is = by_port (is_asleep w.machine)
  where
    by_port : (asleep : Bool) → is_some (if asleep then (w, Some Idle) else in_context w due step).1 ≡ true
    by_port true = refl
    by_port false = in_there w due step there is

-- and of a tag, which has none while nothing serves tags
pub of_tag_there : (w : World) (due : Bool) (step : World × Option Acted) → (due ≡ true → context_wanted w.memory w.machine.slot ≡ None)
    → is_some step.1 ≡ true → is_some (of_tag w (of_endpoint w due step)).1 ≡ true
of_tag_there w due step there is = by_bus (has_no_tags w.machine)
  where
    by_bus : (silent : Bool) → is_some (if silent then (w, Some Idle) else of_endpoint w due step).1 ≡ true
    by_bus true = refl
    by_bus false = of_there w due step there is

-- a turn that is due needs the context
pub needs_context : (due : Bool) (memory : Memory) (m : Machine) (wanted : Option Range)
    → lacks_nothing (if due then acts_in_context memory m wanted else Ok tt) ≡ true → due ≡ true → context_wanted memory m.slot ≡ None
needs_context true memory m wanted is due = (needs_nothing (context_wanted memory m.slot) (acts wanted) is).0
needs_context false memory m wanted is due = absurd (false≢true due)

-- a ring that isn't looked at
pub idle_gate : (memory : Memory) (events : EventEnd) (consumer : Consumer) (rest : Option Range) → is_due consumer ≡ false
    → wanted_through (gate memory events consumer) events rest ≡ None
unfolding gate
idle_gate memory events consumer rest idle = by_test (is_running consumer.state) consumer.rung idle
  where
    by_test : (runs rung : Bool) → (runs && rung) ≡ false
        → wanted_through (if not runs then Some (Some Off) else if not rung then Some (Some Idle) else room_gate memory events) events rest ≡ None
    by_test false rung idle = refl
    by_test true false idle = refl
    by_test true true idle = absurd (false≢true (sym idle))

-- THE COMMAND RING

works : (done : World × Bool) → done.1 ≡ true → is_some (worked_if done).1 ≡ true
works (w, true) is = refl
works (w, false) is = absurd (false≢true is)

takes : Executes → (w : World) (cursor : Cursor) (command : Command) → has_place w.memory w.events ≡ true
    → context_wanted w.memory w.machine.slot ≡ None → taken_wanted w.memory w.machine command ≡ None → is_some (command_taken w cursor command).1 ≡ true
unfolding link_followed slot_command_taken endpoint_command_taken
takes executes w cursor (Link pointer toggle ioc) place context none = works _ (by_ioc ioc)
  where
    by_ioc : (told : Bool) → (link_followed w cursor (followed cursor pointer toggle) told).1 ≡ true
    by_ioc true = stands w cursor.place (ended 1 0) (followed cursor pointer toggle) place
    by_ioc false = refl
takes executes w cursor NoOp place context none = works _ (ends w cursor (ended 1 0) place)
takes executes w cursor (OnSlot slot command) place context none =
    works _ (slot_ends w cursor (on_slot_done w.memory w.machine slot command) (slot_done executes w.memory w.machine slot command w.events place none))
takes executes w cursor (OnEndpoint slot id order) place context none = works _ (order_ends w cursor slot id order place context none)
takes executes w cursor Foreign place context none = works _ (ends w cursor (ended 5 0) place)

fetches : Executes → (w : World) (found : Option (Option Words)) → has_place w.memory w.events ≡ true
    → context_wanted w.memory w.machine.slot ≡ None → words_wanted w.memory w.machine (command_cursor w.machine) found ≡ None → is_some (fetched_taken w found).1 ≡ true
fetches executes w None place context none = absurd (none-some _ (sym none))
fetches executes w (Some None) place context none = refl
fetches executes w (Some (Some words)) place context none =
    takes executes w (command_cursor w.machine) (command_in words) place context none

fronts : Executes → (w : World) → has_place w.memory w.events ≡ true → lacks_nothing (ring_wanted w.memory w.machine) ≡ true
    → is_some (front_taken w).1 ≡ true
unfolding front_taken
fronts executes w place is = by_stop w.machine.commands.owes_stop is
  where
    by_stop : (owes : Bool)
        → lacks_nothing (if owes then Err Acts else acts_in_context w.memory w.machine (command_wanted w.memory w.machine)) ≡ true
        → is_some (if owes then stop_posted w else fetched_taken w (fetched w.memory (command_cursor w.machine))).1 ≡ true
    by_stop true is = rw place refl
    by_stop false is =
        let parts = needs_nothing (context_wanted w.memory w.machine.slot) (acts (command_wanted w.memory w.machine)) is in
        fetches executes w (fetched w.memory (command_cursor w.machine)) place parts.0 (acts_whole _ parts.1)

pub commands_taken : Executes → (w : World) → lacks_nothing (commands_looked w.memory w.machine w.events) ≡ true → is_some (commands_stepped w).1 ≡ true
unfolding commands_looked commands_stepped room_gate
commands_taken executes w is = by_test (has_command w.machine) is
  where
    by_room : (room place : Bool) → place ≡ true → is_some (front_taken w).1 ≡ true
        → is_some (through w (if not room then Some (Some Full) else if place then Some None else None)).1 ≡ true
    by_room false place there taken = refl
    by_room true true there taken = taken
    by_room true false there taken = absurd (false≢true there)

    by_test : (has : Bool)
        → lacks_nothing (if has then then_look (needs (place_wanted w.memory w.events)) (ring_wanted w.memory w.machine) else Ok tt) ≡ true
        → is_some (if not has then (w, Some Idle) else through w (room_gate w.memory w.events)).1 ≡ true
    by_test false is = refl
    by_test true is =
        let parts = needs_nothing (place_wanted w.memory w.events) (ring_wanted w.memory w.machine) is in
        let place = (there_if (has_place w.memory w.events) (place_range w.events) None parts.0).0 in
        by_room (has_room w.events) (has_place w.memory w.events) place (fronts executes w place parts.1)
