-- A submission without a fault: its rings have room, and the world after it fits the shared machine after it.
use Rattle.std.proofs.Common.{◌≡◌, ℕ, ◌+◌, ◌*◌, ◌<◌, ◌≤◌, true, false, cond, List, [], ◌∷◌, ◌++◌, length, length-set, map, Option, Some}
use Rattle.std.proofs.Common.{None, is_some, option_map, refl, arith, ap, sym, subst, ◌∙◌}
use Rattle.std.specs.Prelude.{slice_get, slice_set, ◌==◌}
use Rattle.std.specs.Option.{option_map_or}
use Rattle.std.proofs.lemmas.Bool.{lt-ltb, le-leb, false≢true}
use Rattle.std.proofs.lemmas.List.{length-map, map-append, append_assoc}
use Rattle.cycle_ring.specs.Items.{Item, known, ItemRing}
use Rattle.event_ring.specs.Events.{Events}
use Rattle.uas_profile.specs.declared.Pipe.TheVariants.{Status as StatusPipe}
use Rattle.stream_array.specs.Contexts.{has_stream}
use Rattle.stream_array.specs.Rings.{stream_ring}
use Rattle.frame_store.specs.declared.TagBuffers.{TagBuffers}
use Rattle.scsi_cmd.specs.declared.Command.{Command}
use Rattle.uas_profile.specs.declared.Direction.{Direction}
use Rattle.scsi_cmd.specs.declared.SubmitFault.{SubmitFault}
use Rattle.scsi_cmd.specs.declared.Request.TheVariants.{Execute}
use Rattle.uas_profile.specs.declared.TheConstants.{STREAMS, MOST_DATA_TRBS}
use Rattle.scsi_cmd.specs.Held.{held_at}
use Rattle.scsi_cmd.specs.Laws.{submit_fault-none}
use Rattle.scsi_cmd.specs.Op.{direction_of, moved_bytes}
use Rattle.uas_profile.specs.declared.Place.{Place}
use Rattle.uas_host.specs.declared.HostClient.{HostClient}
use Rattle.uas_profile.specs.Doors.{submission_doors}
use Rattle.uas_host.specs.State.{client_of}
use Rattle.uas_host.specs.Submit.{HasRoomFor, new_entry as host_entry, data_td_for as host_data_td}
use Rattle.uas_host.specs.Submit.{submitted_client}
use Rattle.uas_profile.specs.Tags.{tag_of}
use Rattle.uas_host.specs.Tds.{command_td, status_td}
use Rattle.xhci_ctl.specs.Pipes.{ControllerState}
use Rattle.shared_machine.specs.declared.Step.TheVariants.{Submit}
use Rattle.shared_machine.specs.Pipes.{rung_unless}
use Rattle.shared_machine.specs.Part.{Part, new_entry, data_td_for, submitted_part}
use Rattle.shared_machine.specs.Td.{pushed as pushed_td, data_trbs, is_left_over_on}
use Rattle.shared_machine.specs.Shared.{Shared, is_held, accepted, with_streams_rung}
use Rattle.machine_invariant.specs.Matched.{held_in, carried_places, IsMatchedAt, IsMatched, pipe_places}
use Rattle.bus_core.specs.World.{World, cell_at}
use Rattle.bus_core.specs.Cells.{state_of, host_side, FitsHeld, FitsCell, IsEmptyCell}
use Rattle.bus_core.specs.Fits.{command_item, event_texts, Fits, FitsQueues, IsSoundWorld, place_in}
use Rattle.bus_core.specs.WorldSteps.{SubmissionsFit, SubmitFits, submit_world, rung_all}
use Rattle.bus_core.proofs.common.CellWrites.{stream_ring-other, held_for-same, held_for-other, client_of-found, entry_at-same}
use Rattle.bus_core.proofs.common.CellWrites.{entry_at-other}
use Rattle.bus_core.proofs.common.EventTexts.{KeepsOthers, event_texts-one}
use Rattle.bus_core.proofs.common.Framing.{AllFit, AllFit-set, EndsStay, FitsPart-set, ChangesCell, IsFound, engine-changed, found, held-host, unused-kept}
use Rattle.machine_invariant.proofs.MatchedBounds.{matched-room}
use Rattle.machine_invariant.proofs.MatchedEnds.{unfaulted, IsUnfaulted}
use Rattle.machine_invariant.proofs.MatchedNext.{accepted-trbs}
use Rattle.machine_invariant.proofs.MatchedSteps.{shared_step-matched}
use Rattle.shared_machine.proofs.Standing.{slice_get-back, get-within, not_some}
use Rattle.bus_core.proofs.submit.SubmittedLines.{IsAccepted, accepted-is, submit_step-is, data_in_after}
use Rattle.bus_core.proofs.submit.SubmittedLines.{data_out_after, with_streams_rung-is}
use Rattle.bus_core.proofs.submit.SubmittedLines.{rung_all-is, lines-command, lines-engine}
use Rattle.bus_core.proofs.submit.SubmittedLines.{lines-events, ring_put, lines-status, data_in-other, data_out-other, put_empty}
use Rattle.bus_core.proofs.submit.SubmittedLines.{data_in-holds, data_out-holds, command_trb-command, data_room}
use Rattle.uas_profile.specs.Tags.{task_slot}
use Rattle.bus_core.proofs.common.Framing.{beyond-apart}
use Rattle.shared_machine.specs.Bus.{IsPlace}
use Rattle.shared_machine.specs.Shared.{greatest_tag}
use Rattle.uas_profile.proofs.TagLaws.{tags-within, slot-of_tag}
use Rattle.uas_profile.specs.Tags.{slot_of}

-- THE CELL

-- the host's data TD is the entry's
data_td-state : (bytes : ℕ) → host_data_td bytes ≡ option_map state_of (data_td_for bytes)
data_td-state bytes =
    elim (bytes == 0) as (λ b. cond b None (Some pushed_td.state) ≡ option_map state_of (cond b None (Some pushed_td))) [
      | true ↦ refl
      | false ↦ refl
    ]

host_entry-side : (ticket : ℕ) (command : Command) → host_entry ticket command.op ≡ host_side (new_entry ticket command)
host_entry-side ticket command = ap (λ td. record (host_entry ticket command.op) { data_td = td }) (data_td-state (moved_bytes command.op))

-- what a submission finds at its place
record IsFreeAt (state : Shared) (world : World) (client slot ticket : ℕ) (command : Command) (part : Part) : Type 0 where
  there : slice_get state.parts client ≡ Some part
  within : slot < state.tags
  below : slot < (task_slot state.tags)
  most : tag_of state.tags (place_in client slot) ≤ STREAMS
  it : IsFound state.tags world client part
  none : held_at part.entries slot ≡ None
  empty : IsEmptyCell (cell_at state.tags world (place_in client slot))
  short : data_trbs (Execute command.op) ≤ MOST_DATA_TRBS
  whole : length command.buffer ≡ moved_bytes command.op
  matched : IsMatchedAt state (place_in client slot) None

free-at : (state : Shared) (world : World) (client tag ticket : ℕ) (command : Command) (at : IsAccepted state client tag ticket command) → Fits state world
    → IsFreeAt state world client at.slot ticket command at.part
free-at state world client tag ticket command at fits =
    let it : IsFound state.tags world client at.part = found state.tags world state.parts client at.part fits.clients at.there in
    let free : IsUnfaulted (is_some (held_at at.part.entries at.slot)) command.op = unfaulted
    (is_some (held_at at.part.entries at.slot)) at.part.least_ticket ticket command at.unfaulted in
    let none : held_at at.part.entries at.slot ≡ None = not_some (held_at at.part.entries at.slot) free.free in
    let within : at.slot < state.tags = omega (arith, at.own.within) in
    record {
      there = at.there;
      within = within;
      below = at.own.within;
      most = omega (arith, (tags-within state.tags (length state.parts) (place_in client at.slot) at.own.there within).1, fits.most_tags);
      it = it;
      none = none;
      empty = subst (λ held. FitsHeld state.tags client at.part.unit.count (place_in client at.slot) held (cell_at state.tags world (place_in client at.slot))) none
          (it.fits.cells at.slot within);
      short = accepted-trbs (is_some (held_at at.part.entries at.slot)) at.part.least_ticket ticket command at.unfaulted;
      whole = submit_fault-none true (is_some (held_at at.part.entries at.slot)) at.part.least_ticket ticket command
          (ap (λ (f : Option SubmitFault). is_some f) at.unfaulted);
      matched = subst (λ held. IsMatchedAt state (place_in client at.slot) held)
          (ap (λ found. option_map_or (held_in (place_in client at.slot)) found None) at.there ∙ none) (fits.matched.places (place_in client at.slot));
    }

tag_stream : (tags client slot : ℕ) → tag_of tags (place_in client slot) ≤ STREAMS → has_stream (tag_of tags (place_in client slot)) ≡ true
tag_stream tags client slot most = rw (lt-ltb 0 (client * tags + slot + 1) (omega arith), le-leb (client * tags + slot + 1) STREAMS (omega (arith, most))) refl

submitted-entries : (state : Shared) (world : World) (client slot ticket : ℕ) (command : Command) → world.host.tags ≡ state.tags → slot < state.tags
    → (submitted_client (client_of world.host client) (slot_of world.host.tags (tag_of state.tags (place_in client slot))) ticket command.op).entries
    ≡ slice_set (client_of world.host client).entries slot (Some (host_entry ticket command.op))
submitted-entries state world client slot ticket command number within =
    ap (λ s. slice_set (client_of world.host client).entries s (Some (host_entry ticket command.op)))
    (ap (λ t. slot_of t (tag_of state.tags (place_in client slot))) number ∙ slot-of_tag state.tags client slot within)

-- the tag of a place, and the world after a submission there
abbrev tag_at : ℕ → ℕ → ℕ → ℕ
tag_at tags client slot = tag_of tags (place_in client slot)

abbrev after_at : ℕ → World → ℕ → ℕ → ℕ → Command → World
after_at tags world client slot ticket command = submit_world world client (tag_at tags client slot) ticket command

submit-others : (state : Shared) (world : World) (client slot ticket : ℕ) (command : Command) (part : Part)
    → IsFreeAt state world client slot ticket command part → world.host.tags ≡ state.tags
    → KeepsOthers state.tags world (after_at state.tags world client slot ticket command) (place_in client slot)
submit-others state world client slot ticket command part free number other at inside apart =
    let tag : ℕ = tag_at state.tags client slot in
    let held_is = entry_at-other state.tags world.host client slot other at (submitted_client (client_of world.host client) (slot_of world.host.tags tag) ticket command.op)
    (Some (host_entry ticket command.op))
    (get-within world.host.clients client free.it.held free.it.held_is) (submitted-entries state world client slot ticket command number free.within) apart in
    let status_is = ap (λ rs. stream_ring rs (tag_at state.tags other at)) (lines-status world.lines (direction_of command.op) tag (moved_bytes command.op))
    ∙ stream_ring-other world.lines.status tag (tag_at state.tags other at) (ring_put world.lines.status tag (status_td tag)) (omega arith) (omega arith) apart in
    let in_is = data_in-other world.lines (direction_of command.op) tag (moved_bytes command.op) (tag_at state.tags other at) (omega arith) (omega arith) apart in
    let out_is = data_out-other world.lines (direction_of command.op) tag (moved_bytes command.op) (tag_at state.tags other at) (omega arith) (omega arith) apart in
    let buffers_is = held_for-other world.frames tag (tag_at state.tags other at) _ (omega arith) (omega arith) apart in
    λ i. record (cell_at state.tags world (place_in other at)) {
      held = held_is i;
      status = status_is i;
      data_in = in_is i;
      data_out = out_is i;
      buffers = buffers_is i;
    }

submit-cell : (state : Shared) (world : World) (client slot ticket : ℕ) (command : Command) (part : Part)
    → IsFreeAt state world client slot ticket command part → Fits state world
    → FitsCell state.tags client part.unit.count (place_in client slot) (new_entry ticket command)
    (cell_at state.tags (after_at state.tags world client slot ticket command) (place_in client slot))
submit-cell state world client slot ticket command part free fits =
    let tag : ℕ = tag_at state.tags client slot in
    let some : 0 < tag_at state.tags client slot = omega arith in
    let most : tag_at state.tags client slot ≤ STREAMS = omega (arith, free.most) in
    let there = get-within world.host.clients client free.it.held free.it.held_is in
    let slots : slot < length (client_of world.host client).entries = omega (arith, free.within, (fits.sound.host.clients client there).slots, fits.matched.tags.most) in
    let status_is = ap (λ rs. stream_ring rs tag) (lines-status world.lines (direction_of command.op) tag (moved_bytes command.op)) in
    let status_holds = put_empty world.lines.status tag (status_td tag) some (omega (arith, most, fits.sound.lines.status)) free.empty.status in
    let buffers_is = held_for-same world.frames tag _ some (omega (arith, most, fits.sound.frames.tags)) in
    record {
      held = entry_at-same world.host client slot (submitted_client (client_of world.host client) (slot_of world.host.tags tag) ticket command.op)
          (client_of world.host client).entries
          (Some (host_entry ticket command.op)) there slots (submitted-entries state world client slot ticket command fits.tags free.within)
          ∙ ap Some (host_entry-side ticket command);
      task = free.empty.task;
      status = (ap (λ (r : ItemRing). r.put) status_is ∙ status_holds.0, ap (λ (r : ItemRing). r.got) status_is ∙ status_holds.1);
      data_in = data_in-holds world.lines (direction_of command.op) tag (moved_bytes command.op) some
          (omega (arith, most, fits.sound.lines.data_in)) free.empty.data_in;
      data_out = data_out-holds world.lines (direction_of command.op) tag (moved_bytes command.op) some
          (omega (arith, most, fits.sound.lines.data_out)) free.empty.data_out;
      lent = ap (λ (b : TagBuffers). b.lent) buffers_is;
      bytes = tt;
      unit = ap (λ (b : TagBuffers). b.command) buffers_is;
      answer = tt;
      sound = record { whole = free.whole; chunk = tt };
    }

submit-queues : (state : Shared) (world : World) (client slot ticket : ℕ) (command : Command) (part : Part)
    → IsFreeAt state world client slot ticket command part → Fits state world
    → FitsQueues (accepted state part (place_in client slot) (tag_at state.tags client slot) ticket command).0 (after_at state.tags world client slot ticket command)
submit-queues state world client slot ticket command part free fits =
    let place : Place = place_in client slot in
    let tag : ℕ = tag_at state.tags client slot in
    let events_is : (with_streams_rung state (direction_of command.op) tag).events ≡ state.events =
    ap (λ (s : Shared). s.events) (with_streams_rung-is state (direction_of command.op) tag) in
    let tags_are : (with_streams_rung state (direction_of command.op) tag).tags ≡ state.tags =
    ap (λ (s : Shared). s.tags) (with_streams_rung-is state (direction_of command.op) tag) in
    let lines_is = lines-command world.lines (direction_of command.op) tag (moved_bytes command.op) in
    record {
      put = ap (λ (r : ItemRing). r.put) lines_is ∙ ap (λ (ts : List Item). ts ++ map known (command_td tag)) fits.queues.put
          ∙ ap (λ ts. map (command_item state.tags) (carried_places state.events ++ state.messages) ++ ts) (ap (map known) (sym (command_trb-command state.tags client slot free.below)))
          ∙ sym (map-append (command_item state.tags) (carried_places state.events ++ state.messages) (place ∷ []))
          ∙ ap (map (command_item state.tags)) (append_assoc (carried_places state.events) state.messages (place ∷ []))
          ∙ ap (λ es. map (command_item state.tags) (carried_places es ++ (state.messages ++ place ∷ []))) (sym events_is)
          ∙ ap (λ t. map (command_item t) (carried_places (with_streams_rung state (direction_of command.op) tag).events ++ (state.messages ++ place ∷ [])))
          (sym tags_are);
      got = ap (λ (r : ItemRing). r.got) lines_is ∙ fits.queues.got ∙ ap (λ es. length (carried_places es)) (sym events_is);
      texts = ap (λ (e : Events). e.pending) (lines-events world.lines (direction_of command.op) tag (moved_bytes command.op)) ∙ fits.queues.texts
          ∙ sym (event_texts-one state world (after_at state.tags world client slot ticket command) place 0 fits.matched free.within
          (ap (λ (r : ItemRing). r.base) lines_is, ap (λ (r : ItemRing). r.at) lines_is)
          (lines-engine world.lines (direction_of command.op) tag (moved_bytes command.op)) (submit-others state world client slot ticket command part free fits.tags)
          (λ some. absurd (omega (arith, some, free.matched.moved))) (λ some. absurd (omega (arith, some, free.matched.sent))))
          ∙ ap (event_texts state.tags (after_at state.tags world client slot ticket command) 0) (sym events_is)
          ∙ ap (λ t. event_texts t (after_at state.tags world client slot ticket command) 0 (with_streams_rung state (direction_of command.op) tag).events)
          (sym tags_are);
    }

-- nothing stands at a free place, so that no retirement is of it
submit-ends : (state : Shared) (world : World) (client slot ticket : ℕ) (command : Command) (part : Part)
    → IsFreeAt state world client slot ticket command part
    → EndsStay state world (after_at state.tags world client slot ticket command) (place_in client slot)
submit-ends state world client slot ticket command part free pipe streams left =
    let nothing = ap (λ found. option_map_or (held_in (place_in client slot)) found None) free.there ∙ free.none in
    absurd (false≢true (ap (λ held. option_map_or (is_left_over_on pipe) held false) (sym nothing) ∙ left))

submit-fits : (state : Shared) (world : World) (client slot ticket : ℕ) (command : Command) (part : Part)
    → IsFreeAt state world client slot ticket command part → Fits state world
    → IsMatched (accepted state part (place_in client slot) (tag_at state.tags client slot) ticket command).0 → IsSoundWorld (after_at state.tags world client slot ticket command)
    → Fits (accepted state part (place_in client slot) (tag_at state.tags client slot) ticket command).0 (after_at state.tags world client slot ticket command)
submit-fits state world client slot ticket command part free fits matched sound =
    let tag : ℕ = tag_at state.tags client slot in
    let way : Direction = direction_of command.op in
    let held_now : HostClient = submitted_client (client_of world.host client) (slot_of world.host.tags tag) ticket command.op in
    let rang = ap (λ held. rung_all world.controller (submission_doors held way tag)) (held-host state world fits.engine)
    ∙ rung_all-is world.controller (is_held state) way tag (tag_stream state.tags client slot free.most) in
    let rung = with_streams_rung-is state way tag in
    let changes : ChangesCell state.tags world (after_at state.tags world client slot ticket command) client slot held_now part.unit = record {
      hosts = refl;
      units = sym (slice_get-back world.device.units client part.unit free.it.unit_is);
      others = submit-others state world client slot ticket command part free fits.tags;
    } in
    let queue_is : part.ready ≡ held_now.ready.items =
    free.it.fits.ready ∙ ap (λ (c : HostClient). c.ready.items) (sym (client_of-found world.host client free.it.held free.it.held_is)) in
    let greatest : greatest_tag (accepted state part (place_in client slot) (tag_at state.tags client slot) ticket command).0 ≡ greatest_tag state =
    ap (λ (s : Shared). length (slice_set state.parts client (submitted_part part slot ticket command)) * s.tags) rung
    ∙ ap (λ n. n * state.tags) (length-set state.parts client (submitted_part part slot ticket command)) in
    let is_place : IsPlace state.tags (length state.parts) (place_in client slot) =
    record { client = get-within state.parts client part free.there; slot = free.within } in
    record {
      tags = fits.tags ∙ sym (ap (λ (s : Shared). s.tags) rung);
      some_client = omega (arith, fits.some_client, length-set state.parts client (submitted_part part slot ticket command));
      most_clients = omega (arith, fits.most_clients, length-set state.parts client (submitted_part part slot ticket command));
      most_tags = omega (arith, fits.most_tags, greatest);
      status = ap (λ (c : ControllerState). c.status) rang ∙ ap (λ p. rung_unless (is_held state StatusPipe) p tag) fits.status
          ∙ sym (ap (λ (s : Shared). s.status) rung);
      data_in = ap (λ (c : ControllerState). c.data_in) rang ∙ ap (λ p. data_in_after (is_held state) way p tag) fits.data_in
          ∙ sym (ap (λ (s : Shared). s.data_in) rung);
      data_out = ap (λ (c : ControllerState). c.data_out) rang ∙ ap (λ p. data_out_after (is_held state) way p tag) fits.data_out
          ∙ sym (ap (λ (s : Shared). s.data_out) rung);
      sound = sound;
      queues = submit-queues state world client slot ticket command part free fits;
      engine = engine-changed state (accepted state part (place_in client slot) tag ticket command).0 world
          (after_at state.tags world client slot ticket command) (place_in client slot) fits.matched fits.engine
          (ap (λ (s : Shared). s.tags) rung) (ap (λ (s : Shared). s.retirement) rung) refl (lines-engine world.lines way tag (moved_bytes command.op)) free.within
          (submit-others state world client slot ticket command part free fits.tags)
          (submit-ends state world client slot ticket command part free);
      matched = matched;
      clients = subst (λ t. AllFit t (after_at state.tags world client slot ticket command) (slice_set state.parts client (submitted_part part slot ticket command)))
          (sym (ap (λ (s : Shared). s.tags) rung))
          (AllFit-set state.tags world (after_at state.tags world client slot ticket command) state.parts client slot part.unit held_now part
          (submitted_part part slot ticket command)
          fits.clients free.there free.within changes
          (FitsPart-set state.tags fits.matched.tags world (after_at state.tags world client slot ticket command) client slot part.unit part.unit free.it.held held_now part
          (Some (new_entry ticket command)) (ticket + 1) part.ready
          free.it.fits free.within changes refl refl queue_is (submit-cell state world client slot ticket command part free fits)));
      others = λ other over. fits.others other (omega (arith, over, greatest));
      unused = λ other over.
          unused-kept state.tags world (after_at state.tags world client slot ticket command) (place_in client slot) other fits.matched.tags
          (submit-others state world client slot ticket command part free fits.tags) (omega (arith, over))
          (beyond-apart state.tags (length state.parts) (place_in client slot) other is_place (omega (arith, over, greatest)))
          (fits.unused other (omega (arith, over, greatest)));
    }

submit-room : (state : Shared) (world : World) (client slot ticket : ℕ) (command : Command) (part : Part)
    → IsFreeAt state world client slot ticket command part → Fits state world
    → HasRoomFor world.lines world.frames (tag_at state.tags client slot) command.op
submit-room state world client slot ticket command part free fits =
    let room = matched-room state fits.matched in
    record {
      tds = record {
        on_data = data_room world.lines (direction_of command.op) (tag_at state.tags client slot)
            (moved_bytes command.op) free.short free.empty.data_in free.empty.data_out;
        on_status = omega (arith, ap (λ (ts : List Item). length ts) free.empty.status.0);
        on_command = omega (arith, ap (λ (ts : List Item). length ts) fits.queues.put, length-map (pipe_places state) (command_item state.tags), room.pipe, fits.most_tags);
      };
      window = free.empty.lent;
    }

submit-at : (state : Shared) (world : World) (client tag ticket : ℕ) (command : Command) (at : IsAccepted state client tag ticket command) → Fits state world
    → tag ≡ tag_at state.tags client at.slot → SubmitFits state world client tag ticket command
submit-at state world client tag ticket command at fits is =
    let free : IsFreeAt state world client at.slot ticket command at.part = free-at state world client tag ticket command at fits in
    let matched = shared_step-matched state (Submit client tag ticket command) fits.matched in
    let stepped = submit_step-is state client tag ticket command at in
    record {
      room = subst (λ t. HasRoomFor world.lines world.frames t command.op) (sym is) (submit-room state world client at.slot ticket command at.part free fits);
      fits = subst (λ s. IsSoundWorld (submit_world world client tag ticket command) → Fits s (submit_world world client tag ticket command)) (sym stepped)
          (subst (λ t. IsMatched (accepted state at.part (place_in client at.slot) t ticket command).0
          → IsSoundWorld (submit_world world client t ticket command)
          → Fits (accepted state at.part (place_in client at.slot) t ticket command).0 (submit_world world client t ticket command)) (sym is)
          (submit-fits state world client at.slot ticket command at.part free fits) (subst IsMatched stepped matched));
    }

pub submissions-fit : SubmissionsFit
submissions-fit state world client tag ticket command fits small none =
    let at : IsAccepted state client tag ticket command = accepted-is state world client tag ticket command fits none in
    submit-at state world client tag ticket command at fits (omega (arith, at.own.index))
