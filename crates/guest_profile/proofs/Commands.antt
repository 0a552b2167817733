-- The command pipe's steps of both controllers.
use Rattle.std.proofs.Common.{◌≡◌, ℕ, ◌+◌, ◌-◌, ◌/◌, ◌%◌, ◌^◌, ◌<◌, ◌==◌, nat_lt, Bool, true, false, List, [], length as list_length, Option, Some, refl, ap, ◌∙◌, arith}
use Rattle.std.proofs.lemmas.Bool.{lt-ltb}
use Rattle.std.proofs.lemmas.Option.{slice_get_within}
use Rattle.std.proofs.Math.Nat.{mod-lt}
use Rattle.uas_profile.specs.declared.Pipe.TheVariants.{Command}
use Rattle.uas_profile.specs.declared.TheConstants.{COMMAND_ENDPOINT, COMMAND_RING_PLACES, MOST_EVENTS, SLOT, SUCCESS}
use Rattle.xhci_trb.specs.declared.TrbFlags.{TrbFlags}
use Rattle.cycle_ring.specs.Ring.{place_of, pointer_of}
use Rattle.cycle_ring.specs.Items.{IsItemRing, ItemRing}
use Rattle.event_ring.specs.declared.Event.TheVariants.{Transfer}
use Rattle.event_ring.specs.Events.{IsWritable}
use Rattle.frame_store.specs.Buffers.{bytes_at}
use Rattle.uas_target.specs.Device.{Device, received}
use Rattle.xhci_ctl.specs.declared.Acted.TheVariants.{Acted as ActedOn}
use Rattle.xhci_ctl.specs.Steps.{Sides, began_tag, commanded, completed}
use Rattle.guest_memory.specs.Bytes.{Memory, written}
use Rattle.guest_memory.specs.declared.rings.cursor.Cursor.{Cursor}
use Rattle.guest_memory.specs.declared.rings.context.Home.{Home}
use Rattle.guest_memory.specs.declared.rings.context.Home.TheVariants.{Endpoint}
use Rattle.guest_memory.specs.rings.Ends.{behind, home_at, home_bytes}
use Rattle.guest_memory.specs.rings.Events.{EventEnd, enqueue_pointer, enqueued}
use Rattle.guest_pipes.specs.declared.acted.Acted.{Acted}
use Rattle.guest_tags.specs.declared.device.Received.{Received}
use Rattle.guest_out.specs.Worlds.{OutWorld}
use Rattle.guest_pipes.specs.declared.acted.Acted.TheVariants.{Worked}
use Rattle.guest_pipes.specs.declared.consumer.Consumer.{Consumer}
use Rattle.guest_profile.specs.target.Targets.{received_as, target_kind}
use Rattle.guest_transfers.specs.State.{TransfersState, TransfersWorld}
use Rattle.guest_transfers.specs.Steps.{command_done, command_stepped, command_world, received_on}
use Rattle.guest_out.specs.Command.{command_after, stepped_command}
use Rattle.guest_profile.specs.Rings.{cursor_at, flags_of}
use Rattle.guest_profile.specs.Layout.{Layout}
use Rattle.guest_profile.specs.Ready.{rung_consumer, told_memory}
use Rattle.guest_profile.specs.Steps.{CommandsAreTaken, HasCommand, command_event}
use Rattle.guest_profile.proofs.Events.{events_are_alike}
use Rattle.guest_profile.proofs.Fronts.{gate_laid, looked_td}
use Rattle.guest_profile.proofs.LaidFrames.{named_from}
use Rattle.guest_profile.proofs.LaidSteps.{laid_completed}
use Rattle.guest_profile.proofs.TdStep.{told_world}
use Rattle.guest_profile.proofs.CommandStep.{command-whole}

-- the event of an item can be written
pub writable_event : (n : ℕ) (r : ItemRing) (k residual code endpoint : ℕ) → IsItemRing n r → residual < 2 ^ 24 → code < 2 ^ 8 → endpoint < 2 ^ 5
    → IsWritable (Transfer (pointer_of n r k) residual code endpoint SLOT)
writable_event n r k residual code endpoint ring left told of =
    let least = ring.least_places in
    let below : place_of n r k < n - 1 = mod-lt (r.at + k) (omega arith) in
    ((omega (arith, ring.base_below, ring.most_places, below), left, told, of, omega arith), tt)

-- what stands in memory of an event
pub told_same : (memory : Memory) (events : EventEnd) (endpoint : ℕ) (home : Home) (cursor : Cursor) (residual code : ℕ) (quiet : Bool)
    → IsWritable (Transfer cursor.place residual code endpoint SLOT)
    → (told_world memory events endpoint home cursor residual code quiet).memory
    ≡ told_memory memory events (Transfer cursor.place residual code endpoint SLOT) home (behind cursor)
told_same memory events endpoint home cursor residual code quiet is =
    ap (λ (bytes : List ℕ). written (written memory (enqueue_pointer events) bytes) (home_at home) (home_bytes home 1 (behind cursor)))
    (events_are_alike cursor.place residual code endpoint events.cycle is)

-- the same pipes
pub same_pipes : (t : TransfersState) (consumer : Consumer) (taken : List ℕ) → t.command ≡ consumer → t.gathered ≡ taken
    → record t { command = consumer; gathered = taken } ≡ t
same_pipes t consumer taken a b = rw (← a, ← b) refl

-- the profile's step
command_here : (sides : Sides) (layout : Layout) (w : TransfersWorld Device) (pointer length td_size : ℕ) (flags : TrbFlags) → HasCommand layout sides w pointer length td_size flags
    → commanded sides
    ≡ (
      record {
        lines = completed sides.lines Command 0 (pointer_of COMMAND_RING_PLACES sides.lines.command sides.lines.command.got) 0 SUCCESS;
        frames = sides.frames;
        device = (received sides.device (bytes_at sides.frames pointer length)).0;
      },
      ActedOn (began_tag (received sides.device (bytes_at sides.frames pointer length)).1),
    )
command_here sides layout w pointer length td_size flags has =
    let room : nat_lt (list_length sides.lines.events.pending) MOST_EVENTS ≡ true = lt-ltb _ _ (omega (arith, has.room)) in
    let front = has.td.front in
    rw (room, front) refl

-- the other's step
command_there : (sides : Sides) (layout : Layout) (w : TransfersWorld Device) (pointer length td_size : ℕ) (flags : TrbFlags) → HasCommand layout sides w pointer length td_size flags
    → stepped_command target_kind (command_world target_kind w) (Endpoint w.transfers.home)
    ≡ Some (
      record {
        ring = told_world w.memory w.events COMMAND_ENDPOINT (Endpoint layout.command) (cursor_at COMMAND_RING_PLACES sides.lines.command sides.lines.command.got) 0 1 (flags_of flags).bei;
        taken = [];
        device = (received sides.device (bytes_at sides.frames pointer length)).0;
      },
      (Worked, received_as (bytes_at sides.frames pointer length) (received sides.device (bytes_at sides.frames pointer length)).1),
    )
command_there sides layout w pointer length td_size flags has =
    let laid = has.mirrors.laid in
    let ring = laid.rings Command 0 refl in
    let ready = has.ready in
    let plain : (flags_of flags).idt ≡ false = flag_clear (flags.0 / 32 % 2) has.own.0.1 in
    let bytes = named_from sides.frames w.memory pointer length laid.whole laid.buffers has.own.0.2 in
    rw (ready.consumer, ready.gathered, ready.home, has.mirrors.device)
    (command-whole target_kind w.memory w.events COMMAND_ENDPOINT sides.device (Endpoint layout.command)
    (cursor_at COMMAND_RING_PLACES sides.lines.command sides.lines.command.got) pointer length (flags_of flags) (bytes_at sides.frames pointer length)
    (gate_laid layout sides.lines sides.frames w.memory w.events COMMAND_ENDPOINT laid has.room)
    (looked_td COMMAND_RING_PLACES sides.lines.command w.memory (Endpoint layout.command) pointer length td_size flags ring has.item has.td)
    has.td.last has.td.told plain (omega (arith, has.own.1)) bytes)
  where
    flag_clear : (bit : ℕ) → bit ≡ 0 → (bit == 1) ≡ false
    flag_clear bit clear = rw clear refl

-- the world that it leaves
done_with : (w : TransfersWorld Device) (layout : Layout) (sides : Sides) → List ℕ → Bool → TransfersWorld Device
done_with w layout sides bytes quiet = record {
  memory = told_memory w.memory w.events (command_event sides.lines) (Endpoint layout.command)
      (behind (cursor_at COMMAND_RING_PLACES sides.lines.command sides.lines.command.got));
  events = enqueued w.events quiet;
  transfers = received_on w.transfers (received_as bytes (received sides.device bytes).1);
  device = (received sides.device bytes).0;
}

command_whole : (layout : Layout) (sides : Sides) (w : TransfersWorld Device) (pointer length td_size : ℕ) (flags : TrbFlags) → HasCommand layout sides w pointer length td_size flags
    → command_stepped target_kind w ≡ (done_with w layout sides (bytes_at sides.frames pointer length) (flags_of flags).bei, Some Worked)
unfolding done_with
command_whole layout sides w pointer length td_size flags has =
    let bytes = bytes_at sides.frames pointer length in
    let ring = has.mirrors.laid.rings Command 0 refl in
    let writable = writable_event COMMAND_RING_PLACES sides.lines.command sides.lines.command.got 0 SUCCESS COMMAND_ENDPOINT ring.ring (omega arith) (omega arith) (omega arith) in
    let told = told_same w.memory w.events COMMAND_ENDPOINT (Endpoint layout.command) (cursor_at COMMAND_RING_PLACES sides.lines.command sides.lines.command.got) 0 1
    (flags_of flags).bei writable in
    let pipes = same_pipes w.transfers (rung_consumer COMMAND_ENDPOINT) [] has.ready.consumer has.ready.gathered in
    ap (λ (done : Option (OutWorld Device × (Acted × Received))). command_done target_kind w (command_after target_kind (command_world target_kind w) done))
    (command_there sides layout w pointer length td_size flags has)
    ∙ ap (λ (memory : Memory). (
      record {
        memory = memory;
        events = enqueued w.events (flags_of flags).bei;
        transfers = received_on (record w.transfers { command = rung_consumer COMMAND_ENDPOINT; gathered = [] }) (received_as bytes (received sides.device bytes).1);
        device = (received sides.device bytes).0;
      },
      Some Worked,
    )) told
    ∙ ap (λ (t : TransfersState). (
      record {
        memory = told_memory w.memory w.events (command_event sides.lines) (Endpoint layout.command)
            (behind (cursor_at COMMAND_RING_PLACES sides.lines.command sides.lines.command.got));
        events = enqueued w.events (flags_of flags).bei;
        transfers = received_on t (received_as bytes (received sides.device bytes).1);
        device = (received sides.device bytes).0;
      },
      Some Worked,
    )) pipes

pub commands_are_taken : CommandsAreTaken
unfolding done_with
commands_are_taken layout sides w pointer length td_size flags is has =
    let bytes = bytes_at sides.frames pointer length in
    let laid = has.mirrors.laid in
    let ring = laid.rings Command 0 refl in
    let writable = writable_event COMMAND_RING_PLACES sides.lines.command sides.lines.command.got 0 SUCCESS COMMAND_ENDPOINT ring.ring (omega arith) (omega arith) (omega arith) in
    let here = command_here sides layout w pointer length td_size flags has in
    let there = command_whole layout sides w pointer length td_size flags has in
    let some : sides.lines.command.got < list_length sides.lines.command.put = slice_get_within sides.lines.command.put sides.lines.command.got _ has.td.front in
    let after = laid_completed layout sides.lines sides.frames w.memory w.events Command 0 0 SUCCESS (flags_of flags).bei is laid refl some has.room writable in
    record {
      mirrors = rw (here, there) (record { laid = after; device = refl });
      acted = ap (λ (done : TransfersWorld Device × Option Acted). done.1) there;
      device = ap (λ (done : TransfersWorld Device × Option Acted). done.0.device) there;
      memory = ap (λ (done : TransfersWorld Device × Option Acted). done.0.memory) there;
      pipes = ap (λ (done : TransfersWorld Device × Option Acted). done.0.transfers) there;
    }
