-- The frame of every step on the world of rings: one cell changed, or several of one client, with the client's record and unit, so all
-- others fit as before. The streams of nobody stay empty, and the controller's own command ring fits as before where the enqueue place of no
-- TD that is left over moved. Cited by the proofs of all steps.
use Rattle.std.proofs.Common.{◌≡◌, ℕ, ◌+◌, ◌-◌, ◌*◌, ◌/◌, ◌%◌, ◌<◌, ◌≤◌, true, false, List, [], ◌∷◌, length, length-set, Option, Some, None, refl, arith}
use Rattle.std.proofs.Common.{option_map, ap, sym, subst, ◌∙◌}
use Rattle.std.specs.Prelude.{slice_get, slice_set, ◌==◌}
use Rattle.std.specs.Option.{option_map_or}
use Rattle.std.proofs.lemmas.Bool.{eqb-true, eqb-false}
use Rattle.std.proofs.lemmas.List.{get_or-set_same, get_or-set_other}
use Rattle.block_unit.specs.BlockMaps.{BlockMaps}
use Rattle.xhci_trb.specs.declared.Trb.TheVariants.{SetDequeue}
use Rattle.cycle_ring.specs.Items.{known, ItemRing}
use Rattle.uas_profile.specs.declared.Pipe.{Pipe}
use Rattle.uas_profile.specs.declared.Pipe.TheVariants.{Command, Status, DataIn, DataOut}
use Rattle.uas_profile.specs.Pipes.{HasStreams}
use Rattle.stream_array.specs.Map.{places_of}
use Rattle.stream_array.specs.Rings.{LinesState, ring_of}
use Rattle.uas_profile.specs.declared.TheConstants.{MAX_CLIENTS, STREAMS}
use Rattle.scsi_cmd.specs.Held.{held_at}
use Rattle.uas_host.specs.declared.HostClient.{HostClient}
use Rattle.uas_profile.specs.declared.Place.{Place}
use Rattle.uas_profile.specs.Pipes.{target_of}
use Rattle.uas_host.specs.declared.Retirement.{Retirement as HostRetirement}
use Rattle.uas_profile.specs.Pipes.{same_pipe}
use Rattle.uas_host.specs.Retirement.{is_held as is_host_held, move_trb}
use Rattle.uas_profile.specs.Tags.{AreTags, client_of, slot_of, tag_of}
use Rattle.uas_profile.proofs.TagLaws.{place-of_its_tag, slots-below_tags, tags-within, tags-apart as places-apart}
use Rattle.uas_target.specs.Device.{task_of}
use Rattle.xhci_ctl.specs.Pipes.{ControllerState}
use Rattle.shared_machine.specs.declared.Retirement.{Retirement}
use Rattle.shared_machine.specs.declared.RetirementStage.{RetirementStage}
use Rattle.shared_machine.specs.declared.RetirementStage.TheVariants.{StopAsked, StopAnswered, MoveAsked, MoveAnswered}
use Rattle.shared_machine.specs.Td.{Entry}
use Rattle.shared_machine.specs.Bus.{IsPlace}
use Rattle.shared_machine.specs.Part.{Part}
use Rattle.shared_machine.specs.Shared.{Shared, greatest_tag, is_held}
use Rattle.machine_invariant.specs.Matched.{IsMatched, IsRetiring, is_left_over_at}
use Rattle.bus_core.specs.World.{World, Cell, cell_at}
use Rattle.bus_core.specs.Cells.{FitsHeld, HoldsTrbs}
use Rattle.bus_core.specs.Fits.{AreUnused, Fits, FitsPart, FitsClient, FitsEngine, FitsQueues, HoldsCommand, HoldsCommandOf, IsSoundWorld, host_retirement}
use Rattle.bus_core.specs.Fits.{place_in}
use Rattle.machine_invariant.proofs.MatchedRetirement.{retiring-of}
use Rattle.shared_machine.proofs.Standing.{slice_get-slice_set_same, slice_get-slice_set_other}

-- TAGS

-- a tag is of one place
pub tags-apart : (tags : ℕ) (one other slot at : ℕ) → slot < tags → at < tags → (one ≡ other → ⊥) → tag_of tags (place_in one slot) ≡ tag_of tags (place_in other at) → ⊥
tags-apart tags one other slot at within there apart same =
    apart (ap (λ (p : Place). p.client) (places-apart tags (place_in one slot) (place_in other at) within there same))

pub slots-apart : (tags : ℕ) (client slot at : ℕ) → (slot ≡ at → ⊥) → tag_of tags (place_in client slot) ≡ tag_of tags (place_in client at) → ⊥
slots-apart tags client slot at apart same = apart (omega arith)

-- no tag above the greatest is a place's
pub beyond-apart : (tags clients : ℕ) (place : Place) (tag : ℕ) → IsPlace tags clients place → clients * tags < tag → tag ≡ tag_of tags place → ⊥
beyond-apart tags clients place tag there above same = omega (arith, (tags-within tags clients place there.client there.slot).1, above, same)

-- THE CONTROLLER'S COMMAND RING

-- the producer's end of a ring is where it was: of a ring Set TR Dequeue Pointer tells no more
pub record EndsAlike (before after : ItemRing) : Type 0 where
  pub base : after.base ≡ before.base
  pub at : after.at ≡ before.at
  pub put : after.put ≡ before.put

pub ends-same : (before after : ItemRing) → after ≡ before → EndsAlike before after
ends-same before after same =
    record { base = ap (λ (r : ItemRing). r.base) same; at = ap (λ (r : ItemRing). r.at) same; put = ap (λ (r : ItemRing). r.put) same }

pub move_trb-kept : (before after : LinesState) (pipe : Pipe) (tag : ℕ) → EndsAlike (ring_of before pipe tag) (ring_of after pipe tag)
    → move_trb after pipe tag ≡ move_trb before pipe tag
move_trb-kept before after pipe tag ends = λ i. SetDequeue (ends.base i + 16 * ((ends.at i + length (ends.put i)) % (places_of pipe - 1)))
    ((ends.at i + length (ends.put i)) / (places_of pipe - 1) % 2 == 0) tag (target_of pipe) 1

command-kept : (tags : ℕ) (before after : LinesState) (pipe : Pipe) (place : Place) (stage : RetirementStage) → after.engine ≡ before.engine
    → move_trb after pipe (tag_of tags place) ≡ move_trb before pipe (tag_of tags place) → HoldsCommand tags before pipe place stage → HoldsCommand tags after pipe place stage
command-kept tags before after pipe place StopAsked same moves holds = (ap (λ (r : ItemRing). r.put) same ∙ holds.0, ap (λ (r : ItemRing). r.got) same ∙ holds.1)
command-kept tags before after pipe place StopAnswered same moves holds = (ap (λ (r : ItemRing). r.put) same ∙ holds.0, ap (λ (r : ItemRing). r.got) same ∙ holds.1)
command-kept tags before after pipe place MoveAsked same moves holds =
    (ap (λ (r : ItemRing). r.put) same ∙ holds.0 ∙ ap (λ trb. known trb ∷ []) (sym moves), ap (λ (r : ItemRing). r.got) same ∙ holds.1)
command-kept tags before after pipe place MoveAnswered same moves holds =
    (ap (λ (r : ItemRing). r.put) same ∙ holds.0 ∙ ap (λ trb. known trb ∷ []) (sym moves), ap (λ (r : ItemRing). r.got) same ∙ holds.1)

-- the enqueue place of the ring from which a retirement's TD goes is the same
abbrev pub MovesAlike : ℕ → Option Retirement → LinesState → LinesState → Type 0
MovesAlike tags retirement before after =
    (r : Retirement) → retirement ≡ Some r → move_trb after r.pipe (tag_of tags r.place) ≡ move_trb before r.pipe (tag_of tags r.place)

holds-kept : (tags : ℕ) (before after : LinesState) (retirement : Option Retirement) → after.engine ≡ before.engine → MovesAlike tags retirement before after
    → HoldsCommandOf tags before retirement → HoldsCommandOf tags after retirement
holds-kept tags before after None same moves holds = (ap (λ (r : ItemRing). r.put) same ∙ holds.0, ap (λ (r : ItemRing). r.got) same ∙ holds.1)
holds-kept tags before after (Some r) same moves holds = command-kept tags before after r.pipe r.place r.stage same (moves r refl) holds

-- a step that leaves that ring and the retirement alone
pub engine-kept : (state now : Shared) (before after : World) → FitsEngine state before → now.tags ≡ state.tags → now.retirement ≡ state.retirement
    → after.host.retirement ≡ before.host.retirement → after.lines.engine ≡ before.lines.engine → MovesAlike state.tags state.retirement before.lines after.lines
    → FitsEngine now after
engine-kept state now before after fits number stays host same moves = record {
  retirement = host ∙ fits.retirement ∙ ap (option_map host_retirement) (sym stays);
  commands = subst (λ t. HoldsCommandOf t after.lines now.retirement) (sym number)
      (subst (λ r. HoldsCommandOf state.tags after.lines r) (sym stays) (holds-kept state.tags before.lines after.lines state.retirement same moves fits.commands));
}

-- HELD PIPES

held-by : (retirement : Option Retirement) (pipe : Pipe)
    → option_map_or (λ (r : HostRetirement). same_pipe r.pipe pipe) (option_map host_retirement retirement) false
    ≡ option_map_or (λ (r : Retirement). same_pipe r.pipe pipe) retirement false
held-by None pipe = refl
held-by (Some r) pipe = refl

-- the host holds the pipes that the shared machine holds
pub held-host : (state : Shared) (world : World) → FitsEngine state world → is_host_held world.host ≡ is_held state
held-host state world fits = λ i. λ pipe.
    (ap (λ r. option_map_or (λ (one : HostRetirement). same_pipe one.pipe pipe) r false) fits.retirement ∙ held-by state.retirement pipe) i

-- ONE CELL CHANGES

pub record ChangesCell (tags : ℕ) (before after : World) (client slot : ℕ) (held : HostClient) (unit : BlockMaps) : Type 0 where
  pub hosts : after.host.clients ≡ slice_set before.host.clients client held
  pub units : after.device.units ≡ slice_set before.device.units client unit
  pub others : (other at : ℕ) → at < tags → (tag_of tags (place_in other at) ≡ tag_of tags (place_in client slot) → ⊥)
      → cell_at tags after (place_in other at) ≡ cell_at tags before (place_in other at)

-- so the rings of a stream of another tag are the same
rings-kept : (tags : ℕ) (before after : World) (pipe : Pipe) (place : Place) → HasStreams pipe → cell_at tags after place ≡ cell_at tags before place
    → ring_of after.lines pipe (tag_of tags place) ≡ ring_of before.lines pipe (tag_of tags place)
rings-kept tags before after Command place streams same = absurd streams
rings-kept tags before after Status place streams same = ap (λ (c : Cell). c.status) same
rings-kept tags before after DataIn place streams same = ap (λ (c : Cell). c.data_in) same
rings-kept tags before after DataOut place streams same = ap (λ (c : Cell). c.data_out) same

-- all cells but that of a place are the same
abbrev pub KeepsOthers : ℕ → World → World → Place → Type 0
KeepsOthers tags before after place =
    (other at : ℕ) → at < tags → (tag_of tags (place_in other at) ≡ tag_of tags place → ⊥) → cell_at tags after (place_in other at) ≡ cell_at tags before (place_in other at)

-- the streams of nobody stay empty, since each of their tags would be one of some place
pub unused-kept : (tags : ℕ) (before after : World) (place : Place) (tag : ℕ) → AreTags tags → KeepsOthers tags before after place → 0 < tag → (tag ≡ tag_of tags place → ⊥)
    → AreUnused before.lines tag → AreUnused after.lines tag
unused-kept tags before after place tag are others some apart unused =
    let tagged : 0 < tags = omega (arith, are.least) in
    let is : tag_of tags (place_in (client_of tags tag) (slot_of tags tag)) ≡ tag = place-of_its_tag tags tag tagged some in
    let same = others (client_of tags tag) (slot_of tags tag) (slots-below_tags tags tag tagged) (λ one. apart (sym is ∙ one)) in
    subst (AreUnused after.lines) is
    (let was : AreUnused before.lines (tag_of tags (place_in (client_of tags tag) (slot_of tags tag))) = subst (AreUnused before.lines) (sym is) unused in
    record {
      status = subst (λ (c : Cell). HoldsTrbs c.status [] 0) (sym same) was.status;
      data_in = subst (λ (c : Cell). HoldsTrbs c.data_in [] 0) (sym same) was.data_in;
      data_out = subst (λ (c : Cell). HoldsTrbs c.data_out [] 0) (sym same) was.data_out;
    })

-- THE RETIREMENT'S RING

-- the enqueue places of the rings of a place that may be the retirement's
abbrev pub EndsStay : Shared → World → World → Place → Type 0
EndsStay state before after place =
    (pipe : Pipe) → HasStreams pipe → is_left_over_at state pipe place ≡ true
    → EndsAlike (ring_of before.lines pipe (tag_of state.tags place)) (ring_of after.lines pipe (tag_of state.tags place))

moves-at : (state : Shared) (before after : World) (place : Place) (r : Retirement) → IsRetiring state r → place.slot < state.tags
    → KeepsOthers state.tags before after place → EndsStay state before after place
    → move_trb after.lines r.pipe (tag_of state.tags r.place) ≡ move_trb before.lines r.pipe (tag_of state.tags r.place)
moves-at state before after place r retiring within others ends =
    let inside : r.place.slot < state.tags = retiring.there.slot in
    move_trb-kept before.lines after.lines r.pipe (tag_of state.tags r.place)
    (elim (tag_of state.tags r.place == tag_of state.tags place) as (λ b. (tag_of state.tags r.place == tag_of state.tags place) ≡ b
    → EndsAlike (ring_of before.lines r.pipe (tag_of state.tags r.place)) (ring_of after.lines r.pipe (tag_of state.tags r.place))) [
      | true ↦ λ is.
          let one : place ≡ r.place =
          places-apart state.tags place r.place within inside (sym (eqb-true (tag_of state.tags r.place) (tag_of state.tags place) is)) in
          subst (λ p. EndsStay state before after p) one ends r.pipe retiring.streams retiring.left
      | false ↦ λ is.
          ends-same (ring_of before.lines r.pipe (tag_of state.tags r.place)) (ring_of after.lines r.pipe (tag_of state.tags r.place))
          (rings-kept state.tags before after r.pipe r.place retiring.streams
          (others r.place.client r.place.slot inside (eqb-false (tag_of state.tags r.place) (tag_of state.tags place) is)))
    ] refl)

-- a step at one place leaves the controller's command ring as it was, where it moves no enqueue place of a TD that is left over
pub engine-changed : (state now : Shared) (before after : World) (place : Place) → IsMatched state → FitsEngine state before
    → now.tags ≡ state.tags → now.retirement ≡ state.retirement → after.host.retirement ≡ before.host.retirement → after.lines.engine ≡ before.lines.engine → place.slot < state.tags
    → KeepsOthers state.tags before after place → EndsStay state before after place → FitsEngine now after
engine-changed state now before after place all fits number stays host same within others ends =
    engine-kept state now before after fits number stays host same
    (λ r is. moves-at state before after place r (retiring-of state r all is) within others ends)

-- ONE CLIENT

-- all its cells are the same
abbrev pub CellsStay : ℕ → World → World → ℕ → Type 0
CellsStay tags before after client = (slot : ℕ) → slot < tags → cell_at tags after (place_in client slot) ≡ cell_at tags before (place_in client slot)

-- another client's part fits as before
FitsPart-kept : (tags : ℕ) (before after : World) (client : ℕ) (unit : BlockMaps) (held : HostClient) (part : Part) → FitsPart tags before client unit held part
    → CellsStay tags before after client → FitsPart tags after client unit held part
FitsPart-kept tags before after client unit held part fits kept = record {
  number = fits.number;
  unit_same = fits.unit_same;
  least_ticket = fits.least_ticket;
  ready = fits.ready;
  slots = fits.slots;
  cells = λ slot within. rw (kept slot within) (fits.cells slot within);
}

-- the client's own part fits where what its slot has now fits the cell
pub FitsPart-set : (tags : ℕ) → AreTags tags → (before after : World) (client slot : ℕ) (unit unit_now : BlockMaps) (held held_now : HostClient) (part : Part) (now : Option Entry)
    (least : ℕ) (queue : List ℕ)
    → FitsPart tags before client unit held part → slot < tags → ChangesCell tags before after client slot held_now unit_now
    → unit_now.count ≡ unit.count → least ≡ held_now.least_ticket → queue ≡ held_now.ready.items
    → FitsHeld tags client unit.count (place_in client slot) now (cell_at tags after (place_in client slot))
    → FitsPart tags after client unit_now held_now
    (record { number = part.number; unit = unit_now; entries = slice_set part.entries slot now; least_ticket = least; ready = queue })
FitsPart-set tags are before after client slot unit unit_now held held_now part now least queue fits within changes count least_is queue_is here = record {
  number = fits.number;
  unit_same = refl;
  least_ticket = least_is;
  ready = queue_is;
  slots = length-set part.entries slot now ∙ fits.slots;
  cells = λ at inside.
      let Goal : ℕ → Type 0 = λ a. FitsHeld tags client unit_now.count (place_in client a) (held_at (slice_set part.entries slot now) a)
      (cell_at tags after (place_in client a)) in
      let there : slot < length part.entries = omega (arith, fits.slots, within, are.most) in
      rw count
      (elim (at == slot) as (λ b. (at == slot) ≡ b → FitsHeld tags client unit.count (place_in client at) (held_at (slice_set part.entries slot now) at)
      (cell_at tags after (place_in client at))) [
        | true ↦ λ is. let same : slot ≡ at = sym (eqb-true at slot is) in
            subst (λ a. FitsHeld tags client unit.count (place_in client a) (held_at (slice_set part.entries slot now) a) (cell_at tags after (place_in client a))) same
            (rw (get_or-set_same part.entries slot now None there) here)
        | false ↦ λ is. let apart : at ≡ slot → ⊥ = eqb-false at slot is in
            rw (get_or-set_other part.entries slot at now None apart, changes.others client at inside (slots-apart tags client at slot apart)) (fits.cells at inside)
      ] refl);
}

-- ALL CLIENTS

-- a client of which all cells are the same
pub FitsClient-kept : (tags : ℕ) (before after : World) (client : ℕ) (unit : Option BlockMaps) (held : Option HostClient) (part : Option Part)
    → FitsClient tags before client unit held part → ((there : Part) → part ≡ Some there → CellsStay tags before after client)
    → FitsClient tags after client unit held part
FitsClient-kept tags before after client None None None fits kept = tt
FitsClient-kept tags before after client None None (Some part) fits kept = absurd fits
FitsClient-kept tags before after client None (Some held) part fits kept = absurd fits
FitsClient-kept tags before after client (Some unit) None part fits kept = absurd fits
FitsClient-kept tags before after client (Some unit) (Some held) None fits kept = absurd fits
FitsClient-kept tags before after client (Some unit) (Some held) (Some part) fits kept =
    FitsPart-kept tags before after client unit held part fits (kept part refl)

-- the unit and the host's record of a client that is there
pub record IsFound (tags : ℕ) (world : World) (client : ℕ) (part : Part) : Type 0 where
  pub held : HostClient
  pub unit_is : slice_get world.device.units client ≡ Some part.unit
  pub held_is : slice_get world.host.clients client ≡ Some held
  pub fits : FitsPart tags world client part.unit held part

found_at : (tags : ℕ) (world : World) (client : ℕ) (part : Part) (unit : Option BlockMaps) (held : Option HostClient) → slice_get world.device.units client ≡ unit
    → slice_get world.host.clients client ≡ held → FitsClient tags world client unit held (Some part) → IsFound tags world client part
found_at tags world client part None None unit_is held_is fits = absurd fits
found_at tags world client part None (Some held) unit_is held_is fits = absurd fits
found_at tags world client part (Some unit) None unit_is held_is fits = absurd fits
found_at tags world client part (Some unit) (Some held) unit_is held_is fits = record {
  held = held;
  unit_is = unit_is ∙ ap Some (sym fits.unit_same);
  held_is = held_is;
  fits = subst (λ u. FitsPart tags world client u held part) (sym fits.unit_same) fits;
}

abbrev pub AllFit : ℕ → World → List Part → Type 0
AllFit tags world parts = (client : ℕ) → FitsClient tags world client (slice_get world.device.units client) (slice_get world.host.clients client) (slice_get parts client)

pub found : (tags : ℕ) (world : World) (parts : List Part) (client : ℕ) (part : Part) → AllFit tags world parts → slice_get parts client ≡ Some part → IsFound tags world client part
found tags world parts client part all is =
    found_at tags world client part (slice_get world.device.units client) (slice_get world.host.clients client) refl refl
    (subst (λ p. FitsClient tags world client (slice_get world.device.units client) (slice_get world.host.clients client) p) is (all client))

FitsClient-at : (tags : ℕ) (world : World) (client : ℕ) (unit unit_is : Option BlockMaps) (held held_is : Option HostClient) (part part_is : Option Part)
    → unit ≡ unit_is → held ≡ held_is → part ≡ part_is → FitsClient tags world client unit_is held_is part_is → FitsClient tags world client unit held part
FitsClient-at tags world client unit unit_is held held_is part part_is one two three fits =
    subst (λ u. FitsClient tags world client u held part) (sym one)
    (subst (λ h. FitsClient tags world client unit_is h part) (sym two) (subst (λ p. FitsClient tags world client unit_is held_is p) (sym three) fits))

-- the client's record and unit were written, and no cell of another client that is there
pub record ChangesClient (tags : ℕ) (before after : World) (parts : List Part) (client : ℕ) (held : HostClient) (unit : BlockMaps) : Type 0 where
  pub hosts : after.host.clients ≡ slice_set before.host.clients client held
  pub units : after.device.units ≡ slice_set before.device.units client unit
  pub others : (other : ℕ) (there : Part) → (other ≡ client → ⊥) → slice_get parts other ≡ Some there → CellsStay tags before after other

-- so all fit again where what the client has now fits
pub AllFit-client : (tags : ℕ) (before after : World) (parts : List Part) (client : ℕ) (unit : BlockMaps) (held : HostClient) (was part : Part)
    → AllFit tags before parts → slice_get parts client ≡ Some was → ChangesClient tags before after parts client held unit
    → FitsPart tags after client unit held part → AllFit tags after (slice_set parts client part)
AllFit-client tags before after parts client unit held was part all is changes fits other =
    let it = found tags before parts client was all is in
    elim (client == other) as (λ b. (client == other) ≡ b → FitsClient tags after other (slice_get after.device.units other)
    (slice_get after.host.clients other) (slice_get (slice_set parts client part) other)) [
      | true ↦ λ same.
          subst (λ c. FitsClient tags after c (slice_get after.device.units c) (slice_get after.host.clients c) (slice_get (slice_set parts client part) c))
          (eqb-true client other same)
          (FitsClient-at tags after client (slice_get after.device.units client) (Some unit) (slice_get after.host.clients client) (Some held)
          (slice_get (slice_set parts client part) client) (Some part)
          (ap (λ us. slice_get us client) changes.units ∙ slice_get-slice_set_same before.device.units client was.unit unit it.unit_is)
          (ap (λ hs. slice_get hs client) changes.hosts ∙ slice_get-slice_set_same before.host.clients client it.held held it.held_is)
          (slice_get-slice_set_same parts client was part is) fits)
      | false ↦ λ differs. let apart : client ≡ other → ⊥ = eqb-false client other differs in
          FitsClient-at tags after other (slice_get after.device.units other) (slice_get before.device.units other) (slice_get after.host.clients other)
          (slice_get before.host.clients other)
          (slice_get (slice_set parts client part) other) (slice_get parts other)
          (ap (λ us. slice_get us other) changes.units ∙ slice_get-slice_set_other before.device.units client other unit apart)
          (ap (λ hs. slice_get hs other) changes.hosts ∙ slice_get-slice_set_other before.host.clients client other held apart)
          (slice_get-slice_set_other parts client other part apart)
          (FitsClient-kept tags before after other (slice_get before.device.units other) (slice_get before.host.clients other) (slice_get parts other) (all other)
          (λ there found_is. changes.others other there (λ same. apart (sym same)) found_is))
    ] refl

-- also where it was written under one of its tags
pub AllFit-set : (tags : ℕ) (before after : World) (parts : List Part) (client slot : ℕ) (unit : BlockMaps) (held : HostClient) (was part : Part)
    → AllFit tags before parts → slice_get parts client ≡ Some was → slot < tags → ChangesCell tags before after client slot held unit
    → FitsPart tags after client unit held part → AllFit tags after (slice_set parts client part)
AllFit-set tags before after parts client slot unit held was part all is within changes fits =
    AllFit-client tags before after parts client unit held was part all is (record {
      hosts = changes.hosts;
      units = changes.units;
      others = λ other there apart found_is at inside. changes.others other at inside (tags-apart tags other client at slot inside within apart);
    }) fits

-- ALL TOGETHER

-- the controller's pipes are the state's
pub record SamePipes (controller : ControllerState) (state : Shared) : Type 0 where
  pub status : controller.status ≡ state.status
  pub data_in : controller.data_in ≡ state.data_in
  pub data_out : controller.data_out ≡ state.data_out

-- what a step leaves of a state and a world that fit, of as many clients, fits where all of its parts do
pub fits-anew : (state now : Shared) (before after : World) → Fits state before → now.tags ≡ state.tags → after.host.tags ≡ before.host.tags
    → length now.parts ≡ length state.parts → SamePipes after.controller now
    → IsSoundWorld after → FitsQueues now after → FitsEngine now after → IsMatched now → AllFit state.tags after now.parts
    → ((tag : ℕ) → greatest_tag state < tag → task_of after.device tag ≡ None)
    → ((tag : ℕ) → greatest_tag state < tag → AreUnused after.lines tag) → Fits now after
fits-anew state now before after fits number host long pipes sound queues engine matched clients others unused =
    let greatest : greatest_tag now ≡ greatest_tag state = ap (λ n. n * now.tags) long ∙ ap (λ t. length state.parts * t) number in
    record {
      tags = host ∙ fits.tags ∙ sym number;
      some_client = subst (λ clients. 1 ≤ clients) (sym long) fits.some_client;
      most_clients = subst (λ clients. clients ≤ MAX_CLIENTS) (sym long) fits.most_clients;
      most_tags = subst (λ most. most ≤ STREAMS) (sym greatest) fits.most_tags;
      status = pipes.status;
      data_in = pipes.data_in;
      data_out = pipes.data_out;
      sound = sound;
      queues = queues;
      engine = engine;
      matched = matched;
      clients = subst (λ t. AllFit t after now.parts) (sym number) clients;
      others = λ tag above. others tag (omega (arith, above, greatest));
      unused = λ tag above. unused tag (omega (arith, above, greatest));
    }
