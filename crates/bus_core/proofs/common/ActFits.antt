-- A step of the device at one place: where the cell and the queues fit, the whole world fits.
use Rattle.std.proofs.Common.{◌≡◌, ℕ, zero, suc, ◌<◌, Bool, false, List, ◌++◌, length, length-set, Option, Some, None, refl}
use Rattle.std.proofs.Common.{arith, ap, sym, subst, ◌∙◌}
use Rattle.std.specs.Prelude.{slice_get, slice_set}
use Rattle.std.specs.Option.{option_map_or}
use Rattle.block_unit.specs.BlockMaps.{BlockMaps}
use Rattle.scsi_cmd.specs.Held.{held_at}
use Rattle.uas_target.specs.declared.DeviceTask.{DeviceTask}
use Rattle.uas_target.specs.Device.{task_of}
use Rattle.uas_profile.specs.declared.Place.{Place}
use Rattle.uas_profile.specs.Tags.{place_of, tag_of}
use Rattle.shared_machine.specs.declared.Completion.{Completion}
use Rattle.shared_machine.specs.Td.{Entry}
use Rattle.shared_machine.specs.Bus.{IsPlace}
use Rattle.shared_machine.specs.Part.{Part, with_entry}
use Rattle.shared_machine.specs.Shared.{Shared, entry_fact, part_fact, place_fact}
use Rattle.bus_core.specs.Hosts.{device_task}
use Rattle.machine_invariant.specs.Matched.{IsMatched, held_in, under}
use Rattle.bus_core.specs.World.{World, cell_at}
use Rattle.bus_core.specs.Cells.{FitsCell, FitsHeld}
use Rattle.bus_core.specs.Fits.{Fits, FitsPart, FitsQueues, IsSoundWorld}
use Rattle.bus_core.proofs.common.Framing.{AllFit-set, EndsStay, FitsPart-set, ChangesCell, IsFound, beyond-apart, found, engine-changed, unused-kept}
use Rattle.bus_core.proofs.common.EventTexts.{KeepsOthers}
use Rattle.machine_invariant.proofs.MatchedBounds.{held-place}
use Rattle.machine_invariant.proofs.MatchedSteps.{IsHeld, matched-held}
use Rattle.shared_machine.proofs.Standing.{slice_get-back, get-none}
use Rattle.shared_machine.specs.Shared.{greatest_tag}
use Rattle.std.proofs.Common.{◌*◌}
use Rattle.uas_profile.proofs.TagLaws.{named-is_place, unnamed-is_above}

-- WHERE SOMETHING STANDS

-- an entry of a world that fits: its client's part, unit and record of the host, and its cell
pub record IsPlaced (state : Shared) (world : World) (place : Place) (entry : Entry) : Type 0 where
  pub part : Part
  pub there : slice_get state.parts place.client ≡ Some part
  pub held : held_at part.entries place.slot ≡ Some entry
  pub matched : IsHeld state place entry
  pub is_place : IsPlace state.tags (length state.parts) place
  pub client : IsFound state.tags world place.client part
  pub cell : FitsCell state.tags place.client part.unit.count place entry (cell_at state.tags world place)

pub placed : (state : Shared) (world : World) (place : Place) (entry : Entry) → Fits state world → under state.parts place ≡ Some entry
    → IsPlaced state world place entry
placed state world place entry fits is =
    let at : IsHeld state place entry = matched-held state place entry fits.matched is in
    let part : Part = at.found.part in
    let client : IsFound state.tags world place.client part = found state.tags world state.parts place.client part fits.clients at.found.there in
    let is_place : IsPlace state.tags (length state.parts) place = held-place state place entry fits.matched is in
    record {
      part = part;
      there = at.found.there;
      held = at.found.held;
      matched = at;
      is_place = is_place;
      client = client;
      cell = subst (λ h. FitsHeld state.tags place.client part.unit.count place h (cell_at state.tags world place)) at.found.held (client.fits.cells place.slot is_place.slot);
    }

-- THE STEP

-- the state after a step of the device at a place
abbrev pub acted_state : Shared → Place → Part → BlockMaps → Entry → List Place → List Completion → Shared
acted_state state place part unit entry rest posted = record state {
  parts = slice_set state.parts place.client (with_entry (record part { unit = unit }) place.slot entry);
  messages = rest;
  events = state.events ++ posted;
}

-- what the step changed of the world: the unit, the cell and the queues
pub record IsActed (state : Shared) (before after : World) (place : Place) (part : Part) (unit : BlockMaps) (new : Entry) (rest : List Place)
    (posted : List Completion) : Type 0 where
  pub host : after.host ≡ before.host
  pub controller : after.controller ≡ before.controller
  pub engine : after.lines.engine ≡ before.lines.engine
  pub units : after.device.units ≡ slice_set before.device.units place.client unit
  pub tasks : (tag : ℕ) → (tag ≡ tag_of state.tags place → ⊥) → task_of after.device tag ≡ task_of before.device tag
  pub others : KeepsOthers state.tags before after place
  pub ends : EndsStay state before after place
  pub count : unit.count ≡ part.unit.count
  pub cell : FitsCell state.tags place.client part.unit.count place new (cell_at state.tags after place)
  pub queues : FitsQueues (acted_state state place part unit new rest posted) after

acted-changes : (state : Shared) (before after : World) (place : Place) (part : Part) (unit : BlockMaps) (new : Entry) (rest : List Place)
    (posted : List Completion) (it : IsFound state.tags before place.client part) → IsActed state before after place part unit new rest posted
    → ChangesCell state.tags before after place.client place.slot it.held unit
acted-changes state before after place part unit new rest posted it acted = record {
  hosts = ap (λ h. h.clients) acted.host ∙ sym (slice_get-back before.host.clients place.client it.held it.held_is);
  units = acted.units;
  others = acted.others;
}

pub acted-fits : (state : Shared) (before after : World) (place : Place) (old new : Entry) (unit : BlockMaps) (rest : List Place)
    (posted : List Completion) (at : IsPlaced state before place old) → Fits state before
    → IsActed state before after place at.part unit new rest posted → IsMatched (acted_state state place at.part unit new rest posted)
    → IsSoundWorld after → Fits (acted_state state place at.part unit new rest posted) after
acted-fits state before after place old new unit rest posted at fits acted matched sound =
    let changes : ChangesCell state.tags before after place.client place.slot at.client.held unit =
    acted-changes state before after place at.part unit new rest posted at.client acted in
    let part : FitsPart state.tags after place.client unit at.client.held (with_entry (record at.part { unit = unit }) place.slot new) =
    FitsPart-set state.tags fits.matched.tags before after place.client place.slot at.part.unit unit at.client.held at.client.held at.part (Some new) at.part.least_ticket at.part.ready
    at.client.fits at.is_place.slot changes acted.count at.client.fits.least_ticket at.client.fits.ready acted.cell in
    let long : length (acted_state state place at.part unit new rest posted).parts ≡ length state.parts =
    length-set state.parts place.client (with_entry (record at.part { unit = unit }) place.slot new) in
    let greatest : greatest_tag (acted_state state place at.part unit new rest posted) ≡ greatest_tag state = ap (λ n. n * state.tags) long in
    record {
      tags = ap (λ h. h.tags) acted.host ∙ fits.tags;
      some_client = omega (arith, long, fits.some_client);
      most_clients = omega (arith, long, fits.most_clients);
      most_tags = omega (arith, greatest, fits.most_tags);
      status = ap (λ c. c.status) acted.controller ∙ fits.status;
      data_in = ap (λ c. c.data_in) acted.controller ∙ fits.data_in;
      data_out = ap (λ c. c.data_out) acted.controller ∙ fits.data_out;
      sound = sound;
      queues = acted.queues;
      engine = engine-changed state (acted_state state place at.part unit new rest posted) before after place fits.matched fits.engine refl refl
          (ap (λ h. h.retirement) acted.host) acted.engine at.is_place.slot acted.others acted.ends;
      matched = matched;
      clients = AllFit-set state.tags before after state.parts place.client place.slot unit at.client.held at.part
          (with_entry (record at.part { unit = unit }) place.slot new) fits.clients at.there at.is_place.slot changes part;
      others = λ tag above.
          acted.tasks tag (beyond-apart state.tags (length state.parts) place tag at.is_place (omega (arith, above, greatest)))
          ∙ fits.others tag (omega (arith, above, greatest));
      unused = λ tag above.
          unused-kept state.tags before after place tag fits.matched.tags acted.others (omega (arith, above))
          (beyond-apart state.tags (length state.parts) place tag at.is_place (omega (arith, above, greatest)))
          (fits.unused tag (omega (arith, above, greatest)));
    }

-- WHAT STANDS UNDER A TAG

-- a tag that names a place is its tag
pub place_of-tag : (tags clients tag : ℕ) (place : Place) → 0 < tags → place_of tags clients tag ≡ Some place → tag_of tags place ≡ tag
place_of-tag tags clients tag place some is = sym (named-is_place tags clients tag place some is).is

-- Where a tag has an entry, the device's task is what it has of that entry, and a fact of the tag is one of that entry; else there is
-- no task, and no fact is so.
slot-by : (state : Shared) (world : World) (place : Place) (fact : Entry → Bool) (part : Part) (P : Option DeviceTask → Bool → Type 0) → Fits state world
    → slice_get state.parts place.client ≡ Some part → place.slot < state.tags → P None false
    → ((entry : Entry) → IsPlaced state world place entry → P (device_task place.client entry) (fact entry))
    → P (task_of world.device (tag_of state.tags place)) (option_map_or fact (held_at part.entries place.slot) false)
slot-by state world place fact part P fits there within none each =
    let client : IsFound state.tags world place.client part = found state.tags world state.parts place.client part fits.clients there in
    let cell : FitsHeld state.tags place.client part.unit.count place (held_at part.entries place.slot) (cell_at state.tags world place) = client.fits.cells place.slot within in
    elim (held_at part.entries place.slot) as (λ h. held_at part.entries place.slot ≡ h → FitsHeld state.tags place.client part.unit.count place h (cell_at state.tags world place)
    → P (task_of world.device (tag_of state.tags place)) (option_map_or fact h false)) [
      | None ↦ λ is empty. subst (λ t. P t false) (sym empty.task) none
      | Some entry ↦ λ is full.
          let stands : under state.parts place ≡ Some entry = ap (λ o. option_map_or (held_in place) o None) there ∙ is in
          subst (λ t. P t (fact entry)) (sym full.task) (each entry (placed state world place entry fits stands))
    ] refl cell

client-by : (state : Shared) (world : World) (place : Place) (fact : Entry → Bool) (P : Option DeviceTask → Bool → Type 0) → Fits state world
    → place.client < length state.parts → place.slot < state.tags → P None false
    → ((entry : Entry) → IsPlaced state world place entry → P (device_task place.client entry) (fact entry))
    → P (task_of world.device (tag_of state.tags place)) (part_fact state place.client (entry_fact fact place.slot))
client-by state world place fact P fits known within none each =
    elim (slice_get state.parts place.client) as (λ o. slice_get state.parts place.client ≡ o
    → P (task_of world.device (tag_of state.tags place)) (option_map_or (entry_fact fact place.slot) o false)) [
      | None ↦ λ is. absurd (omega (arith, get-none state.parts place.client is))
      | Some part ↦ λ is. slot-by state world place fact part P fits is within none each
    ] refl

pub by-tag : (state : Shared) (world : World) (tag : ℕ) (fact : Entry → Bool) (P : Option DeviceTask → Bool → Type 0) → Fits state world → P None false
    → ((place : Place) (entry : Entry) → tag_of state.tags place ≡ tag → IsPlaced state world place entry → P (device_task place.client entry) (fact entry))
    → P (task_of world.device tag) (place_fact state tag fact)
by-tag state world zero fact P fits none each = none
by-tag state world (suc before) fact P fits none each =
    elim (place_of state.tags (length state.parts) (suc before)) as (λ named. place_of state.tags (length state.parts) (suc before) ≡ named
    → P (task_of world.device (suc before)) (option_map_or (λ (p : Place). part_fact state p.client (entry_fact fact p.slot)) named false)) [
      | Some place ↦ λ is.
          let named = named-is_place state.tags (length state.parts) (suc before) place (omega (arith, fits.matched.tags.least)) is in
          subst (λ t. P (task_of world.device t) (part_fact state place.client (entry_fact fact place.slot))) (sym named.is)
          (client-by state world place fact P fits named.client named.slot none (λ entry at. each place entry (sym named.is) at))
      | None ↦ λ is.
          subst (λ t. P t false) (sym (fits.others (suc before) (unnamed-is_above state.tags (length state.parts) (suc before) (omega arith) is))) none
    ] refl
