-- No ring of a world that fits a state is ever full. Cited by Bus::lines.
use Rattle.std.proofs.Common.{◌≡◌, ℕ, zero, suc, ◌*◌, ◌<◌, ◌≤◌, List, [], ◌∷◌, length, Option, Some, None, refl, arith, ap, sym}
use Rattle.std.proofs.Common.{◌⊎◌, inl, inr, subst}
use Rattle.std.specs.Prelude.{slice_get, IfSome}
use Rattle.std.specs.Option.{option_map_or}
use Rattle.std.proofs.lemmas.Bool.{cases_lt}
use Rattle.std.proofs.lemmas.List.{length-map}
use Rattle.std.proofs.lemmas.Option.{none-some}
use Rattle.xhci_trb.specs.declared.Trb.{Trb}
use Rattle.cycle_ring.specs.Items.{Item, ItemRing, known}
use Rattle.event_ring.specs.declared.Event.{Event}
use Rattle.uas_profile.specs.declared.Pipe.{Pipe}
use Rattle.uas_profile.specs.declared.Pipe.TheVariants.{Command, Status, DataIn, DataOut}
use Rattle.uas_profile.specs.declared.Place.{Place}
use Rattle.uas_profile.specs.declared.TdState.{TdState}
use Rattle.uas_profile.specs.declared.TdState.TheVariants.{Pending, Seen, LeftOver, Retired}
use Rattle.uas_profile.specs.declared.TheConstants.{WINDOW_BYTES, MOST_DATA_TRBS}
use Rattle.uas_profile.specs.Pipes.{HasStreams}
use Rattle.uas_profile.specs.Tags.{tag_of}
use Rattle.scsi_cmd.specs.Held.{held_at}
use Rattle.stream_array.specs.Rings.{LinesState, ring_of, stream_ring}
use Rattle.uas_host.specs.Tds.{data_td, data_trb_count, status_td, window_of}
use Rattle.shared_machine.specs.declared.Completion.{Completion}
use Rattle.shared_machine.specs.declared.Completion.TheVariants.{CommandDone, DataDone, StatusDone, EngineDone}
use Rattle.shared_machine.specs.declared.Retirement.{Retirement}
use Rattle.shared_machine.specs.declared.RetirementStage.{RetirementStage}
use Rattle.shared_machine.specs.declared.RetirementStage.TheVariants.{StopAsked, StopAnswered, MoveAsked, MoveAnswered}
use Rattle.shared_machine.specs.declared.Td.{Td}
use Rattle.shared_machine.specs.Part.{Part}
use Rattle.shared_machine.specs.Shared.{Shared, request_direction}
use Rattle.shared_machine.specs.Td.{Entry}
use Rattle.machine_invariant.specs.Matched.{IsMatchedEntry, held_in, pipe_places, request_bytes}
use Rattle.machine_invariant.proofs.MatchedBounds.{matched-room}
use Rattle.bus_core.specs.World.{World, cell_at}
use Rattle.bus_core.specs.Cells.{FitsHeld, HoldsData, HoldsIn, HoldsTrbs, data_in_td, data_out_td}
use Rattle.bus_core.specs.Fits.{command_item, event_texts, Fits, HoldsCommand, HoldsCommandOf}
use Rattle.bus_core.specs.Shows.{AreNeverFull}
use Rattle.bus_core.proofs.common.DataTrbs.{length-data_trbs}
use Rattle.bus_core.proofs.common.Framing.{IsFound, found}
use Rattle.uas_host.specs.Retirement.{stop_trb, move_trb}
use Rattle.uas_profile.proofs.TagLaws.{named-is_place, unnamed-is_above}
use Rattle.uas_profile.specs.Tags.{place_of}

-- ONE RING

put-most : (ring : ItemRing) (trbs : List Trb) (taken most : ℕ) → length trbs ≤ most → HoldsTrbs ring trbs taken → length ring.put ≤ most
put-most ring trbs taken most few holds = omega (arith, few, ap (λ (ts : List Item). length ts) holds.0, length-map trbs known)

held-most : (ring : ItemRing) (trbs : List Trb) (consumed most : ℕ) (state : TdState) → length trbs ≤ most → HoldsIn ring trbs consumed state
    → length ring.put ≤ most
held-most ring trbs consumed most Pending few holds = put-most ring trbs consumed most few holds
held-most ring trbs consumed most Seen few holds = put-most ring [] 0 most (omega arith) holds.0
held-most ring trbs consumed most LeftOver few holds = put-most ring trbs consumed most few holds
held-most ring trbs consumed most Retired few holds = put-most ring [] 0 most (omega arith) holds.0

data-most : (ring : ItemRing) (trbs : List Trb) (most : ℕ) (td : Option Td) → length trbs ≤ most → HoldsData ring trbs td → length ring.put ≤ most
data-most ring trbs most None few holds = put-most ring [] 0 most (omega arith) holds
data-most ring trbs most (Some td) few holds = held-most ring trbs td.consumed most td.state few holds

-- a data TD of at most 65,536 bytes
data_td-most : (tag bytes : ℕ) → bytes ≤ WINDOW_BYTES → length (data_td tag bytes) ≤ MOST_DATA_TRBS
data_td-most tag bytes small = omega (arith, small, length-data_trbs (data_trb_count bytes) (window_of tag) bytes)

-- ONE PLACE

record HasFewTrbs (lines : LinesState) (tag : ℕ) : Type 0 where
  status : length (stream_ring lines.status tag).put ≤ MOST_DATA_TRBS
  data_in : length (stream_ring lines.data_in tag).put ≤ MOST_DATA_TRBS
  data_out : length (stream_ring lines.data_out tag).put ≤ MOST_DATA_TRBS

few-held : (tags : ℕ) (world : World) (client count : ℕ) (place : Place) (held : Option Entry) → FitsHeld tags client count place held (cell_at tags world place)
    → IfSome held (IsMatchedEntry tags place.slot) → HasFewTrbs world.lines (tag_of tags place)
few-held tags world client count place None fits sound = record {
  status = put-most (stream_ring world.lines.status (tag_of tags place)) [] 0 MOST_DATA_TRBS (omega arith) fits.status;
  data_in = put-most (stream_ring world.lines.data_in (tag_of tags place)) [] 0 MOST_DATA_TRBS (omega arith) fits.data_in;
  data_out = put-most (stream_ring world.lines.data_out (tag_of tags place)) [] 0 MOST_DATA_TRBS (omega arith) fits.data_out;
}
few-held tags world client count place (Some entry) fits sound =
    let few : length (data_td (tag_of tags place) (request_bytes entry.task.request)) ≤ MOST_DATA_TRBS =
    data_td-most (tag_of tags place) (request_bytes entry.task.request) sound.small in
    record {
      status =
          held-most (stream_ring world.lines.status (tag_of tags place)) (status_td (tag_of tags place)) entry.status_td.consumed MOST_DATA_TRBS
          entry.status_td.state (omega arith) fits.status;
      data_in =
          data-most (stream_ring world.lines.data_in (tag_of tags place)) _ MOST_DATA_TRBS (data_in_td (request_direction entry.task.request) entry.data_td)
          few fits.data_in;
      data_out =
          data-most (stream_ring world.lines.data_out (tag_of tags place)) _ MOST_DATA_TRBS (data_out_td (request_direction entry.task.request) entry.data_td)
          few fits.data_out;
    }

few-found : (state : Shared) (world : World) (place : Place) (found_part : Option Part) → Fits state world
    → slice_get state.parts place.client ≡ found_part → place.client < length state.parts → place.slot < state.tags
    → IfSome (option_map_or (held_in place) found_part None) (IsMatchedEntry state.tags place.slot) → HasFewTrbs world.lines (tag_of state.tags place)
few-found state world place None fits is there within sound = absurd (missing state.parts place.client there is)
  where
    missing : (parts : List Part) (at : ℕ) → at < length parts → slice_get parts at ≡ None → ⊥
    missing [] at there is = omega arith
    missing (part ∷ rest) zero there is = none-some part (sym is)
    missing (part ∷ rest) (suc at) there is = missing rest at (omega arith) is
few-found state world place (Some part) fits is there within sound =
    let at : IsFound state.tags world place.client part = found state.tags world state.parts place.client part fits.clients is in
    few-held state.tags world place.client part.unit.count place (held_at part.entries place.slot) (at.fits.cells place.slot within) sound

few-at : (state : Shared) (world : World) (place : Place) → Fits state world → place.client < length state.parts → place.slot < state.tags
    → HasFewTrbs world.lines (tag_of state.tags place)
few-at state world place fits there within =
    few-found state world place (slice_get state.parts place.client) fits refl there within (fits.matched.places place).sound

-- EVERY STREAM

few-named : (state : Shared) (world : World) (tag : ℕ) → Fits state world → 1 ≤ tag → (length state.parts * state.tags < tag) ⊎ (tag ≤ length state.parts * state.tags)
    → HasFewTrbs world.lines tag
few-named state world tag fits some (inl beyond) = record {
  status = put-most (stream_ring world.lines.status tag) [] 0 MOST_DATA_TRBS (omega arith) (fits.unused tag beyond).status;
  data_in = put-most (stream_ring world.lines.data_in tag) [] 0 MOST_DATA_TRBS (omega arith) (fits.unused tag beyond).data_in;
  data_out = put-most (stream_ring world.lines.data_out tag) [] 0 MOST_DATA_TRBS (omega arith) (fits.unused tag beyond).data_out;
}
few-named state world tag fits some (inr within) =
    elim (place_of state.tags (length state.parts) tag) as (λ at. place_of state.tags (length state.parts) tag ≡ at → HasFewTrbs world.lines tag) [
      | Some place ↦ λ is.
          let named = named-is_place state.tags (length state.parts) tag place (omega (arith, fits.matched.tags.least)) is in
          subst (HasFewTrbs world.lines) (sym named.is) (few-at state world place fits named.client named.slot)
      | None ↦ λ is. absurd (omega (arith, within, unnamed-is_above state.tags (length state.parts) tag some is))
    ] refl

few : (state : Shared) (world : World) → Fits state world → (pipe : Pipe) (stream : ℕ) → HasStreams pipe → HasFewTrbs world.lines stream
    → length (ring_of world.lines pipe stream).put ≤ MOST_DATA_TRBS
few state world fits Command stream streams it = absurd streams
few state world fits Status stream streams it = it.status
few state world fits DataIn stream streams it = it.data_in
few state world fits DataOut stream streams it = it.data_out

-- THE COMMAND RING AND THE EVENTS

one-stage : (tags : ℕ) (lines : LinesState) (pipe : Pipe) (place : Place) (stage : RetirementStage) → HoldsCommand tags lines pipe place stage → length lines.engine.put ≤ 1
one-stage tags lines pipe place StopAsked holds = put-most lines.engine (stop_trb pipe ∷ []) 0 1 (omega arith) holds
one-stage tags lines pipe place StopAnswered holds = put-most lines.engine (stop_trb pipe ∷ []) 1 1 (omega arith) holds
one-stage tags lines pipe place MoveAsked holds = put-most lines.engine (move_trb lines pipe (tag_of tags place) ∷ []) 0 1 (omega arith) holds
one-stage tags lines pipe place MoveAnswered holds = put-most lines.engine (move_trb lines pipe (tag_of tags place) ∷ []) 1 1 (omega arith) holds

one-command : (tags : ℕ) (lines : LinesState) (retirement : Option Retirement) → HoldsCommandOf tags lines retirement → length lines.engine.put ≤ 1
one-command tags lines None holds = put-most lines.engine [] 0 1 (omega arith) holds
one-command tags lines (Some r) holds = one-stage tags lines r.pipe r.place r.stage holds

length-texts : (tags : ℕ) (world : World) (k : ℕ) (events : List Completion) → length (event_texts tags world k events) ≡ length events
length-texts tags world k [] = refl
length-texts tags world k (CommandDone place ∷ rest) = ap suc (length-texts tags world (suc k) rest)
length-texts tags world k (DataDone place ∷ rest) = ap suc (length-texts tags world k rest)
length-texts tags world k (StatusDone place ∷ rest) = ap suc (length-texts tags world k rest)
length-texts tags world k (EngineDone place ∷ rest) = ap suc (length-texts tags world k rest)

-- THE WHOLE

pub never-full : (state : Shared) (world : World) → Fits state world → AreNeverFull world.lines
never-full state world fits =
    let room = matched-room state fits.matched in
    let most = fits.most_tags in
    record {
      command =
          omega
          (arith, room.pipe, most, ap (λ (ts : List Item). length ts) fits.queues.put, length-map (pipe_places state) (command_item state.tags));
      streams = λ pipe stream streams some. few state world fits pipe stream streams (few-named state world stream fits some (cases_lt (length state.parts * state.tags) stream));
      engine = one-command state.tags world.lines state.retirement fits.engine.commands;
      events = omega (arith, room.events, most, ap (λ (es : List Event). length es) fits.queues.texts, length-texts state.tags world 0 state.events);
    }
