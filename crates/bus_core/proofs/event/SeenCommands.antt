-- An event of the command pipe is seen: the oldest TRB of its ring is free again, and the world after it fits.
use Rattle.std.proofs.Common.{◌≡◌, ℕ, zero, suc, ◌+◌, ◌-◌, ◌*◌, ◌%◌, ◌≤◌, true, false, cond, List, [], ◌∷◌, ◌++◌, take, drop, length, length-set, map, Some, None}
use Rattle.std.proofs.Common.{refl, arith, ap, sym, subst, ◌∙◌}
use Rattle.std.specs.Prelude.{slice_get, option_and_then}
use Rattle.std.specs.Option.{option_map_or}
use Rattle.std.proofs.lemmas.Bool.{false≢true}
use Rattle.std.proofs.lemmas.List.{append-nil}
use Rattle.cycle_ring.specs.Ring.{pointer_of, reclaimed}
use Rattle.event_ring.specs.declared.Event.{Event}
use Rattle.event_ring.specs.declared.Event.TheVariants.{Transfer}
use Rattle.cycle_ring.specs.Items.{Item}
use Rattle.uas_profile.specs.declared.Pipe.TheVariants.{Command as CommandPipe, Status, DataIn, DataOut}
use Rattle.uas_profile.specs.declared.TheConstants.{STREAMS, COMMAND_RING_PLACES, SLOT, SUCCESS}
use Rattle.stream_array.specs.Rings.{LinesState, with_ring}
use Rattle.scsi_cmd.specs.Held.{held_at}
use Rattle.uas_host.specs.declared.Handled.TheVariants.{Matched}
use Rattle.uas_host.specs.declared.HostEntry.{HostEntry}
use Rattle.uas_host.specs.Notices.{CommandSeen}
use Rattle.uas_profile.specs.declared.Place.{Place}
use Rattle.uas_profile.specs.TdStates.{is_pending}
use Rattle.uas_host.specs.State.{HostState, client_of}
use Rattle.uas_profile.specs.Tags.{tag_of}
use Rattle.uas_host.specs.Events.{awaits_command, done_before, is_awaited as is_awaited_by, with_commands_freed}
use Rattle.xhci_ctl.specs.Steps.{endpoint_of}
use Rattle.shared_machine.specs.declared.Completion.{Completion}
use Rattle.shared_machine.specs.declared.Completion.TheVariants.{CommandDone, DataDone, StatusDone, EngineDone}
use Rattle.shared_machine.specs.Bus.{IsPlace}
use Rattle.shared_machine.specs.Td.{Entry, with_event_seen}
use Rattle.shared_machine.specs.Shared.{Shared}
use Rattle.machine_invariant.specs.Matched.{IsPendingCommand, carried_places, is_td_event, pipe_places, times}
use Rattle.bus_core.specs.World.{World, Cell}
use Rattle.bus_core.specs.Cells.{host_side}
use Rattle.bus_core.specs.Fits.{command_item, command_trb, event_texts, Fits, FitsQueues}
use Rattle.bus_core.specs.WorldSteps.{without_event}
use Rattle.bus_core.proofs.common.CellWrites.{clients-length}
use Rattle.bus_core.proofs.common.EventTds.{HasCell, command_tag-trb, command_text-waits, fits-cell}
use Rattle.bus_core.proofs.common.EventTexts.{AreWithin, event_texts-shifted, events-within, one-reads}
use Rattle.bus_core.proofs.common.Framing.{EndsStay}
use Rattle.bus_core.proofs.event.HostSees.{command_seen-side, host_with}
use Rattle.machine_invariant.proofs.MatchedBounds.{held-place, matched-once}
use Rattle.machine_invariant.proofs.MatchedEngine.{place_of-tag_of}
use Rattle.machine_invariant.proofs.MatchedEntries.{awaited-pends}
use Rattle.machine_invariant.proofs.MatchedNext.{matched-pending, times-member}
use Rattle.machine_invariant.proofs.MatchedPlaces.{one_self}
use Rattle.machine_invariant.proofs.MatchedSteps.{seen_state}
use Rattle.bus_core.proofs.event.SeenStreams.{HasEventFit, data-fits, event-done, status-fits}
use Rattle.bus_core.proofs.event.SeenWorlds.{FreesOne, IsSeenAt, event-fits, handled-is, seen-at, seen-cell, seen-others, seen_world}
use Rattle.uas_profile.proofs.TagLaws.{tags-apart as places-apart}
use Rattle.uas_profile.specs.Tags.{place_of}

-- WHAT THE HOST WAITS FOR

-- the command TD of a place is pending, or isn't
is_awaited-trb : (tags : ℕ) (host : HostState) (place : Place) (held : HostEntry) → tag_of tags place ≤ STREAMS → host.tags ≡ tags
    → IsPlace tags (length host.clients) place
    → held_at (client_of host place.client).entries place.slot ≡ Some held → is_awaited_by host (command_trb tags place) ≡ is_pending held.command_td
is_awaited-trb tags host place held most number there is =
    ap (λ tag. option_map_or (awaits_command host) tag false) (command_tag-trb tags place most)
    ∙ ap (λ t. option_map_or (λ (h : HostEntry). is_pending h.command_td)
    (option_and_then (λ (p : Place). held_at (client_of host p.client).entries p.slot) (place_of t (length host.clients) (tag_of tags place))) false) number
    ∙ ap (λ at. option_map_or (λ (h : HostEntry). is_pending h.command_td)
    (option_and_then (λ (p : Place). held_at (client_of host p.client).entries p.slot) at) false)
    (place_of-tag_of tags (length host.clients) place there)
    ∙ ap (λ h. option_map_or (λ (h : HostEntry). is_pending h.command_td) h false) is

-- the first TRB is freed, and the next stays
done_before-next : (tags : ℕ) (host : HostState) (n : ℕ) (places : List Place)
    → ((place : Place) → slice_get places 0 ≡ Some place → is_awaited_by host (command_trb tags place) ≡ true)
    → done_before host (take n (map (command_item tags) places)) ≡ 0
done_before-next tags host zero places waits = refl
done_before-next tags host (suc n) [] waits = refl
done_before-next tags host (suc n) (place ∷ places) waits = ap (λ b. cond b 0 (suc (done_before host (take n (map (command_item tags) places))))) (waits place refl)

pub done_before-first : (tags : ℕ) (host : HostState) (n : ℕ) (first : Place) (places : List Place) → is_awaited_by host (command_trb tags first) ≡ false
    → ((place : Place) → slice_get places 0 ≡ Some place → is_awaited_by host (command_trb tags place) ≡ true)
    → done_before host (take (suc n) (map (command_item tags) (first ∷ places))) ≡ 1
done_before-first tags host n first places seen waits =
    ap (λ b. cond b 0 (suc (done_before host (take n (map (command_item tags) places))))) seen ∙ ap suc (done_before-next tags host n places waits)

-- THE RINGS AND THE QUEUES

-- the entry once its command event was seen
abbrev command_seen : Entry → Entry
command_seen entry = record entry { command_td = with_event_seen entry.command_td }

-- the oldest TRB is freed
abbrev command_lines : World → LinesState
command_lines world = with_ring (without_event world.lines) CommandPipe 0 (reclaimed COMMAND_RING_PLACES 1 world.lines.command)

abbrev after_command : World → Place → Entry → World
after_command world place entry = seen_world world (command_lines world) place (command_seen entry)

command-frees : (state : Shared) (world : World) (place : Place) (rest : List Completion) (at : IsSeenAt state world (CommandDone place) rest)
    → FreesOne state.tags world (command_lines world) place (command_seen at.entry)
command-frees state world place rest at = record {
  engine = refl;
  status_others = λ tag some apart. refl;
  data_in_others = λ tag some apart. refl;
  data_out_others = λ tag some apart. refl;
  status = at.cell.status;
  data_in = at.cell.data_in;
  data_out = at.cell.data_out;
}

-- item i is the old item 1 + i
shifted : (at base i : ℕ) → base + 16 * (((at + 1) % (2 * (COMMAND_RING_PLACES - 1)) + i) % (COMMAND_RING_PLACES - 1)) ≡ base + 16 * ((at + (1 + i)) % (COMMAND_RING_PLACES - 1))
shifted at base i = omega arith

command-queues : (state : Shared) (world : World) (place : Place) (rest : List Completion) (at : IsSeenAt state world (CommandDone place) rest)
    → Fits state world
    → FitsQueues (seen_state state place at.part (command_seen at.entry) rest) (after_command world place at.entry)
command-queues state world place rest at fits =
    let after : World = after_command world place at.entry in
    let same : rest ≡ rest ++ [] = sym (append-nil rest) in
    let put = fits.queues.put ∙ ap (λ es. map (command_item state.tags) (carried_places es ++ state.messages)) at.is in
    let got : world.lines.command.got ≡ suc (length (carried_places rest)) = fits.queues.got ∙ ap (λ es. length (carried_places es)) at.is in
    let within : AreWithin state.tags (CommandDone place ∷ rest) = subst (AreWithin state.tags) at.is (events-within state fits.matched) in
    let reads = one-reads state.tags world after place rest at.is_place.slot within.1 refl
    (seen-others state world (CommandDone place) rest (command_lines world) (command_seen at.entry) at (command-frees state world place rest at))
    (λ some. (refl, refl)) (λ some. (refl, refl)) in
    record {
      put = ap (λ (ts : List Item). drop 1 ts) put ∙ ap (λ es. map (command_item state.tags) (carried_places es ++ state.messages)) same;
      got = omega (arith, got, ap (λ es. length (carried_places es)) same);
      texts = ap (λ (es : List Event). drop 1 es) (fits.queues.texts ∙ ap (event_texts state.tags world 0) at.is)
          ∙ sym (event_texts-shifted state.tags world after 1 0 rest (λ i. shifted world.lines.command.at world.lines.command.base i) reads)
          ∙ ap (event_texts state.tags after 0) same;
    }

-- ONE TRB IS FREED

-- a place that is there is also one of the host's clients after the event
there-after : (state : Shared) (world : World) (place other : Place) (entry : Entry) → Fits state world → IsPlace state.tags (length state.parts) other
    → IsPlace state.tags (length (host_with world.host place entry).clients) other
there-after state world place other entry fits there =
    let long : length (host_with world.host place entry).clients ≡ length state.parts =
    length-set world.host.clients place.client _ ∙ clients-length state.tags world state.parts fits.clients in
    subst (λ n. IsPlace state.tags n other) (sym long) there

-- another TRB of the command pipe is still awaited
next-awaited : (state : Shared) (world : World) (place : Place) (rest : List Completion) (at : IsSeenAt state world (CommandDone place) rest)
    (next : Place) → Fits state world
    → slice_get (carried_places rest ++ state.messages) 0 ≡ Some next
    → is_awaited_by (host_with world.host place (command_seen at.entry)) (command_trb state.tags next) ≡ true
next-awaited state world place rest at next fits is =
    let first : pipe_places state ≡ place ∷ (carried_places rest ++ state.messages) = ap (λ es. carried_places es ++ state.messages) at.is in
    let once = (matched-once state fits.matched place).command in
    let none : times place (carried_places rest ++ state.messages) ≡ 0 = omega (arith, once, ap (times place) first, one_self place) in
    let some : 1 ≤ times next (carried_places rest ++ state.messages) = times-member (carried_places rest ++ state.messages) 0 next is in
    let other : IsPendingCommand state.parts next = matched-pending state fits.matched 1 next (ap (λ places. slice_get places 1) first ∙ is) in
    let there : IsPlace state.tags (length state.parts) next = held-place state next other.entry fits.matched other.held in
    let cell : HasCell state.tags world next other.entry = fits-cell state world next other.entry fits other.held in
    let within = at.is_place.slot in
    let inside = there.slot in
    let apart : tag_of state.tags next ≡ tag_of state.tags place → ⊥ = λ same.
    let one : next ≡ place = places-apart state.tags next place inside within same in
    omega (arith, none, some, ap (λ p. times p (carried_places rest ++ state.messages)) one) in
    let kept = seen-others state world (CommandDone place) rest (command_lines world) (command_seen at.entry) at
    (command-frees state world place rest at) next.client next.slot inside apart in
    is_awaited-trb state.tags (host_with world.host place (command_seen at.entry)) next (host_side other.entry) cell.tag fits.tags
    (there-after state world place next (command_seen at.entry) fits there)
    (ap (λ (c : Cell). c.held) kept ∙ cell.fits.held)
    ∙ ap is_pending other.pending

first-seen : (state : Shared) (world : World) (place : Place) (rest : List Completion) (at : IsSeenAt state world (CommandDone place) rest) → Fits state world
    → is_awaited_by (host_with world.host place (command_seen at.entry)) (command_trb state.tags place) ≡ false
first-seen state world place rest at fits =
    is_awaited-trb state.tags (host_with world.host place (command_seen at.entry)) place (host_side (command_seen at.entry)) at.most fits.tags
    (there-after state world place place (command_seen at.entry) fits at.is_place)
    (seen-cell state world (CommandDone place) rest (command_lines world) at
    (with_event_seen at.entry.command_td) at.entry.status_td at.entry.data_td fits
    (command-frees state world place rest at)).held

one-done : (state : Shared) (world : World) (place : Place) (rest : List Completion) (at : IsSeenAt state world (CommandDone place) rest) → Fits state world
    → done_before (host_with world.host place (command_seen at.entry)) (take world.lines.command.got world.lines.command.put) ≡ 1
one-done state world place rest at fits =
    let host : HostState = host_with world.host place (command_seen at.entry) in
    let got : world.lines.command.got ≡ suc (length (carried_places rest)) = fits.queues.got ∙ ap (λ es. length (carried_places es)) at.is in
    let put : world.lines.command.put ≡ map (command_item state.tags) (place ∷ (carried_places rest ++ state.messages)) =
    fits.queues.put ∙ ap (λ es. map (command_item state.tags) (carried_places es ++ state.messages)) at.is in
    ap (λ n. done_before host (take n world.lines.command.put)) got
    ∙ ap (λ (ts : List Item). done_before host (take (suc (length (carried_places rest))) ts)) put
    ∙ done_before-first state.tags host (length (carried_places rest)) place (carried_places rest ++ state.messages) (first-seen state world place rest at fits)
    (λ next is. next-awaited state world place rest at next fits is)

-- no stream is touched
command-ends : (state : Shared) (world : World) (place : Place) (rest : List Completion) (at : IsSeenAt state world (CommandDone place) rest)
    → EndsStay state world (after_command world place at.entry) place
command-ends state world place rest at CommandPipe streams left = absurd streams
command-ends state world place rest at Status streams left = record { base = refl; at = refl; put = refl }
command-ends state world place rest at DataIn streams left = record { base = refl; at = refl; put = refl }
command-ends state world place rest at DataOut streams left = record { base = refl; at = refl; put = refl }

-- ALL TOGETHER

abbrev command_text : World → Event
command_text world = Transfer (pointer_of COMMAND_RING_PLACES world.lines.command 0) 0 SUCCESS (endpoint_of CommandPipe) SLOT

pub command-fits : (state : Shared) (world : World) (place : Place) (rest : List Completion) → Fits state world → state.events ≡ CommandDone place ∷ rest
    → HasEventFit state world (CommandDone place)
command-fits state world place rest fits is =
    let at : IsSeenAt state world (CommandDone place) rest = seen-at state world (CommandDone place) rest fits is refl in
    let now : Entry = command_seen at.entry in
    let there : IsPlace state.tags (length world.host.clients) place =
    subst (λ n. IsPlace state.tags n place) (sym (clients-length state.tags world state.parts fits.clients)) at.is_place in
    let ended = command_text-waits state world 0 place fits (ap (λ es. slice_get (carried_places es) 0) is) in
    let does = handled-is state.tags world place at.entry (command_seen at.entry) CommandPipe
    (pointer_of COMMAND_RING_PLACES world.lines.command 0) 0 SUCCESS CommandSeen refl fits.tags there at.cell.held ended
    refl (command_seen-side at.entry (awaited-pends at.entry.command_td 1 at.awaits))
    ∙ ap (λ n. (
      record { host = host_with world.host place (command_seen at.entry); lines = with_commands_freed (without_event world.lines) n },
      Matched
          (tag_of state.tags place),
    ))
    (one-done state world place rest at fits) in (
      command_text world,
      ap (λ (es : List Event). slice_get es 0) (fits.queues.texts ∙ ap (event_texts state.tags world 0) is),
      event-done state world (command_text world) (CommandDone place) rest (command_lines world) (command_seen at.entry) is refl refl does
          (event-fits state world (CommandDone place) rest (command_lines world) at
          (with_event_seen at.entry.command_td) at.entry.status_td at.entry.data_td fits refl (λ entries. refl)
          (ap (λ b. cond b (Some (command_seen at.entry)) None) at.awaits) (command-frees state world place rest at)
          (command-ends state world place rest at)
          (command-queues state world place rest at fits)),
    )

-- EVERY EVENT OF A TD

pub td-event-fits : (state : Shared) (world : World) (done : Completion) (rest : List Completion) → is_td_event done ≡ true → Fits state world
    → state.events ≡ done ∷ rest → HasEventFit state world done
td-event-fits state world (CommandDone place) rest of_td fits is = command-fits state world place rest fits is
td-event-fits state world (DataDone place) rest of_td fits is = data-fits state world place rest fits is
td-event-fits state world (StatusDone place) rest of_td fits is = status-fits state world place rest fits is
td-event-fits state world (EngineDone place) rest of_td fits is = absurd (false≢true of_td)
