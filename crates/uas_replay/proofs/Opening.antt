-- The walk before a script's first line.
use Rattle.std.proofs.Common.{◌≡◌, ◌∙◌, ℕ, ◌+◌, ◌-◌, ◌<◌, ◌≤◌, Bool, false, List, [], length, get_or, refl, arith, ap, ap₂, sym}
use Rattle.std.specs.Prelude.{replicate}
use Rattle.block_unit.specs.BlockMaps.{BlockMaps}
use Rattle.tag_range.specs.Tags.{CountedTags}
use Rattle.shared_machine.specs.Shared.{Shared, opening}
use Rattle.bus_core.specs.World.{World}
use Rattle.bus_core.specs.WorldSteps.{opening_world}
use Rattle.uas_replay.specs.Told.{Telling, opening_ranges, opening_run}
use Rattle.uas_replay.specs.Walks.{Walk, new_rings, opening_lines, opening_walk}
use Rattle.std.proofs.lemmas.List.FromFn.{fill_by_all}
use Rattle.uas_profile.specs.declared.Pipe.{Pipe}
use Rattle.uas_profile.specs.declared.Pipe.TheVariants.{Command, Status, DataIn, DataOut}
use Rattle.uas_profile.specs.declared.TheConstants.{ENGINE_RING, STREAMS}
use Rattle.cycle_ring.specs.Ring.{opening as new_ring}
use Rattle.cycle_ring.specs.Items.{ItemRing}
use Rattle.event_ring.specs.Events.{Events}
use Rattle.stream_array.specs.Map.{ring_base}
use Rattle.stream_array.specs.Rings.{IsLines, IsOpeningLines, LinesState, stream_ring}

-- NEW RINGS

rings_new : (pipe : Pipe) (rings : List ItemRing) → length rings ≡ STREAMS
    → ((stream : ℕ) → 0 < stream → stream ≤ STREAMS → stream_ring rings stream ≡ new_ring (ring_base pipe stream)) → rings ≡ new_rings pipe
rings_new pipe rings count each =
    fill_by_all (λ (k : ℕ). new_ring (ring_base pipe (k + 1))) rings STREAMS (new_ring 0) count
    (λ k within.
    let same : k ≡ k + 1 - 1 = omega arith in
    ap (λ (n : ℕ). get_or rings n (new_ring 0)) same ∙ each (k + 1) (omega arith) (omega arith))

-- all rings are new at their addresses, so they are these
lines_new : (lines : LinesState) → IsLines lines → IsOpeningLines lines → lines ≡ opening_lines
unfolding opening_lines
lines_new lines are new =
    let of : ItemRing → List ItemRing → List ItemRing → List ItemRing → ItemRing → Events → LinesState =
    λ command status data_in data_out engine events.
    record { command = command; status = status; data_in = data_in; data_out = data_out; engine = engine; events = events } in
    ap (λ (r : ItemRing). of r lines.status lines.data_in lines.data_out lines.engine lines.events) (new.ring Command 0 refl)
    ∙ ap (λ (r : List ItemRing). of (new_ring (ring_base Command 0)) r lines.data_in lines.data_out lines.engine lines.events)
    (rings_new Status lines.status are.status (λ stream some last. new.ring Status stream (some, last)))
    ∙ ap (λ (r : List ItemRing). of (new_ring (ring_base Command 0)) (new_rings Status) r lines.data_out lines.engine lines.events)
    (rings_new DataIn lines.data_in are.data_in (λ stream some last. new.ring DataIn stream (some, last)))
    ∙ ap (λ (r : List ItemRing). of (new_ring (ring_base Command 0)) (new_rings Status) (new_rings DataIn) r lines.engine lines.events)
    (rings_new DataOut lines.data_out are.data_out (λ stream some last. new.ring DataOut stream (some, last)))
    ∙ ap (λ (r : ItemRing). of (new_ring (ring_base Command 0)) (new_rings Status) (new_rings DataIn) (new_rings DataOut) r lines.events) new.engine
    ∙ ap (of (new_ring (ring_base Command 0)) (new_rings Status) (new_rings DataIn) (new_rings DataOut) (new_ring ENGINE_RING)) new.events

-- THE WALK

abbrev telling_of : Shared → List CountedTags → List (List Bool) → List ℕ → Telling
telling_of machine ranges notes text = record { machine = machine; ranges = ranges; brings_in = notes; text = text; failed = false }

abbrev pub walk_of : Shared → List CountedTags → List (List Bool) → List ℕ → World → Walk
walk_of machine ranges notes text world = record { telling = telling_of machine ranges notes text; world = world }

pub opening_by : (number : ℕ) (units held : List BlockMaps) (clients : ℕ) (machine : Shared) (ranges : List CountedTags) (notes : List (List Bool)) (text : List ℕ)
    (world : World) → held ≡ units → length units ≡ clients → machine ≡ opening number held → ranges ≡ opening_ranges number clients → notes ≡ replicate clients []
    → text ≡ [] → world ≡ opening_world number held (length held) world.lines → IsLines world.lines → IsOpeningLines world.lines
    → walk_of machine ranges notes text world ≡ opening_walk number units
opening_by number units held clients machine ranges notes text world same count opens tags none empty stands are new =
    let telling : telling_of machine ranges notes text ≡ opening_run number units =
    ap (λ (m : Shared). telling_of m ranges notes text) (opens ∙ ap (opening number) same)
    ∙ ap (λ (r : List CountedTags). telling_of (opening number units) r notes text) (tags ∙ ap (opening_ranges number) (sym count))
    ∙ ap (λ (n : List (List Bool)). telling_of (opening number units) (opening_ranges number (length units)) n text) (none ∙ ap (λ (n : ℕ). replicate n []) (sym count))
    ∙ ap (telling_of (opening number units) (opening_ranges number (length units)) (replicate (length units) [])) empty in
    ap₂ (λ (t : Telling) (w : World). record { telling = t; world = w }) telling
    (stands ∙ ap (λ (all : List BlockMaps). opening_world number all (length all) world.lines) same
    ∙ ap (opening_world number units (length units)) (lines_new world.lines are new))
