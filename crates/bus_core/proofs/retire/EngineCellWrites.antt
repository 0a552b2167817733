-- The cell of a TD that is left over, and that cell once the TD's ring and the TD were changed: a step of a retirement writes one
-- ring of one tag. Cited by the proofs of Engine and of the event of the controller's command.
use Rattle.std.proofs.Common.{◌≡◌, ℕ, zero, suc, ◌<◌, ◌≤◌, Bool, true, false, ◌&&◌, List, [], ◌∷◌, length, Option, Some, None}
use Rattle.std.proofs.Common.{option_map, refl, arith, ap, sym, subst, ◌∙◌}
use Rattle.std.specs.Prelude.{nat_lt, slice_set, slice_index_or}
use Rattle.std.specs.Option.{option_map_or}
use Rattle.std.proofs.lemmas.Bool.{false≢true, ltb-true, and_parts}
use Rattle.uas_profile.specs.declared.TheConstants.{WINDOW_BYTES, MOST_DATA_TRBS}
use Rattle.xhci_trb.specs.declared.Trb.{Trb}
use Rattle.cycle_ring.specs.Ring.{opening}
use Rattle.cycle_ring.specs.Items.{ItemRing}
use Rattle.uas_profile.specs.declared.Pipe.{Pipe}
use Rattle.uas_profile.specs.declared.Pipe.TheVariants.{Command, Status, DataIn, DataOut}
use Rattle.uas_profile.specs.Pipes.{HasStreams}
use Rattle.stream_array.specs.Rings.{ring_of}
use Rattle.uas_profile.specs.declared.Direction.{Direction}
use Rattle.uas_profile.specs.declared.Direction.TheVariants.{Nothing, ToHost, ToDevice}
use Rattle.uas_host.specs.declared.HostEntry.{HostEntry}
use Rattle.uas_profile.specs.declared.Place.{Place}
use Rattle.uas_profile.specs.declared.TdState.TheVariants.{LeftOver}
use Rattle.uas_profile.specs.Tags.{tag_of}
use Rattle.uas_host.specs.Tds.{data_td, data_trb_count, status_td, window_of}
use Rattle.shared_machine.specs.declared.Td.{Td}
use Rattle.shared_machine.specs.Td.{Entry, data_in_td, data_out_td, has_data_trb, has_trb_on, is_in_ring, is_left_over_on, is_td_left_over}
use Rattle.shared_machine.specs.Td.{request_direction, td_on, trbs_on, with_td_on}
use Rattle.shared_machine.specs.Shared.{Shared}
use Rattle.machine_invariant.specs.Matched.{request_bytes, under}
use Rattle.bus_core.specs.World.{Cell, World, cell_at}
use Rattle.bus_core.specs.Cells.{FitsCell, HoldsData, HoldsIn, HoldsTd, HoldsTrbs, host_side}
use Rattle.bus_core.proofs.common.CellEntries.{cell-tds}
use Rattle.bus_core.proofs.common.DataTrbs.{length-data_trbs}
use Rattle.bus_core.proofs.common.EventTds.{data_trbs-count}
use Rattle.machine_invariant.proofs.MatchedLeftOver.{left-state}

-- WHAT IS LEFT OVER

-- something stands where a fact is so
pub record StandsWith (state : Shared) (place : Place) (fact : Entry → Bool) : Type 0 where
  pub entry : Entry
  pub held : under state.parts place ≡ Some entry
  pub so : fact entry ≡ true

stands_by : (state : Shared) (place : Place) (fact : Entry → Bool) (found : Option Entry) → under state.parts place ≡ found
    → option_map_or fact found false ≡ true → StandsWith state place fact
stands_by state place fact None is so = absurd (false≢true so)
stands_by state place fact (Some entry) is so = record { entry = entry; held = is; so = so }

pub stands-with : (state : Shared) (place : Place) (fact : Entry → Bool) → option_map_or fact (under state.parts place) false ≡ true
    → StandsWith state place fact
stands-with state place fact so = stands_by state place fact (under state.parts place) refl so

-- the TRBs of an entry's TD on a pipe
abbrev pub td_trbs : Pipe → ℕ → Entry → List Trb
td_trbs Command tag entry = []
td_trbs Status tag entry = status_td tag
td_trbs DataIn tag entry = data_td tag (request_bytes entry.task.request)
td_trbs DataOut tag entry = data_td tag (request_bytes entry.task.request)

-- they are as many as the shared machine counts
pub length-td_trbs : (pipe : Pipe) (tag : ℕ) (entry : Entry) → HasStreams pipe → length (td_trbs pipe tag entry) ≡ trbs_on pipe entry
length-td_trbs Command tag entry streams = absurd streams
length-td_trbs Status tag entry streams = refl
length-td_trbs DataIn tag entry streams =
    length-data_trbs (data_trb_count (request_bytes entry.task.request)) (window_of tag) (request_bytes entry.task.request)
    ∙ sym (data_trbs-count entry.task.request)
length-td_trbs DataOut tag entry streams =
    length-data_trbs (data_trb_count (request_bytes entry.task.request)) (window_of tag) (request_bytes entry.task.request)
    ∙ sym (data_trbs-count entry.task.request)

-- and 16 at most
pub trbs_on-most : (pipe : Pipe) (entry : Entry) → request_bytes entry.task.request ≤ WINDOW_BYTES → trbs_on pipe entry ≤ MOST_DATA_TRBS
trbs_on-most Command entry small = omega arith
trbs_on-most Status entry small = omega arith
trbs_on-most DataIn entry small = omega (arith, small, data_trbs-count entry.task.request)
trbs_on-most DataOut entry small = omega (arith, small, data_trbs-count entry.task.request)

-- the ring of a cell's pipe
abbrev pub cell_ring : Pipe → Cell → ItemRing
cell_ring Command cell = opening 0
cell_ring Status cell = cell.status
cell_ring DataIn cell = cell.data_in
cell_ring DataOut cell = cell.data_out

-- it is the ring of the tag's stream
pub ring-of-cell : (tags : ℕ) (world : World) (pipe : Pipe) (place : Place) → HasStreams pipe → ring_of world.lines pipe (tag_of tags place)
    ≡ cell_ring pipe (cell_at tags world place)
ring-of-cell tags world Command place streams = absurd streams
ring-of-cell tags world Status place streams = refl
ring-of-cell tags world DataIn place streams = refl
ring-of-cell tags world DataOut place streams = refl

-- a TD that is left over stands on its ring
pub record IsLeftOn (pipe : Pipe) (tag : ℕ) (entry : Entry) (ring : ItemRing) : Type 0 where
  pub td : Td
  pub on : td_on pipe entry ≡ Some td
  pub left : td.state ≡ LeftOver
  pub holds : HoldsTrbs ring (td_trbs pipe tag entry) td.consumed

left-data : (ring : ItemRing) (trbs : List Trb) (found : Option Td) → is_td_left_over found ≡ true → HoldsData ring trbs found
    → (td : Td) × (found ≡ Some td) × (td.state ≡ LeftOver) × HoldsTrbs ring trbs td.consumed
left-data ring trbs None so holds = absurd (false≢true so)
left-data ring trbs (Some td) so holds =
    let left : td.state ≡ LeftOver = left-state td.state so in (td, refl, left, subst (HoldsIn ring trbs td.consumed) left holds)

pub left-on : (tags : ℕ) (client count : ℕ) (pipe : Pipe) (place : Place) (entry : Entry) (cell : Cell) → FitsCell tags client count place entry cell
    → is_left_over_on pipe entry ≡ true → IsLeftOn pipe (tag_of tags place) entry (cell_ring pipe cell)
left-on tags client count Command place entry cell fits so = absurd (false≢true so)
left-on tags client count Status place entry cell fits so =
    let left : entry.status_td.state ≡ LeftOver = left-state entry.status_td.state so in
    record {
      td = entry.status_td;
      on = refl;
      left = left;
      holds = subst (HoldsIn cell.status (status_td (tag_of tags place)) entry.status_td.consumed) left fits.status;
    }
left-on tags client count DataIn place entry cell fits so =
    let it = left-data cell.data_in (data_td (tag_of tags place) (request_bytes entry.task.request))
    (data_in_td (request_direction entry.task.request) entry.data_td) so fits.data_in in
    record { td = it.0; on = it.1; left = it.2; holds = it.3 }
left-on tags client count DataOut place entry cell fits so =
    let it = left-data cell.data_out (data_td (tag_of tags place) (request_bytes entry.task.request))
    (data_out_td (request_direction entry.task.request) entry.data_td) so fits.data_out in
    record { td = it.0; on = it.1; left = it.2; holds = it.3 }

-- a TRB of it is left where the controller may take one
pub left-unconsumed : (pipe : Pipe) (entry : Entry) (td : Td) → td_on pipe entry ≡ Some td → has_trb_on pipe entry ≡ true → td.consumed < trbs_on pipe entry
left-unconsumed pipe entry td on has =
    let one : (is_in_ring td.state && nat_lt td.consumed (trbs_on pipe entry)) ≡ true = ap (has_data_trb (trbs_on pipe entry)) (sym on) ∙ has in
    ltb-true td.consumed (trbs_on pipe entry) (and_parts (is_in_ring td.state) (nat_lt td.consumed (trbs_on pipe entry)) one).1

-- THE CELL WITH A CHANGE OF THAT TD AND OF ITS RING

abbrev pub with_cell_ring : Pipe → Cell → ItemRing → Cell
with_cell_ring Command cell ring = cell
with_cell_ring Status cell ring = record cell { status = ring }
with_cell_ring DataIn cell ring = record cell { data_in = ring }
with_cell_ring DataOut cell ring = record cell { data_out = ring }

in-changed : (ring : ItemRing) (trbs : List Trb) (change : Td → Td) (way : Direction) (found : Option Td) → is_td_left_over (data_in_td way found) ≡ true
    → ((td : Td) → data_in_td way found ≡ Some td → td.state ≡ LeftOver → HoldsTd ring trbs (change td))
    → HoldsData ring trbs (data_in_td way (option_map change found))
in-changed ring trbs change Nothing found so holds = absurd (false≢true so)
in-changed ring trbs change ToHost None so holds = absurd (false≢true so)
in-changed ring trbs change ToHost (Some td) so holds = holds td refl (left-state td.state so)
in-changed ring trbs change ToDevice found so holds = absurd (false≢true so)

out-changed : (ring : ItemRing) (trbs : List Trb) (change : Td → Td) (way : Direction) (found : Option Td) → is_td_left_over (data_out_td way found) ≡ true
    → ((td : Td) → data_out_td way found ≡ Some td → td.state ≡ LeftOver → HoldsTd ring trbs (change td))
    → HoldsData ring trbs (data_out_td way (option_map change found))
out-changed ring trbs change Nothing found so holds = absurd (false≢true so)
out-changed ring trbs change ToHost found so holds = absurd (false≢true so)
out-changed ring trbs change ToDevice None so holds = absurd (false≢true so)
out-changed ring trbs change ToDevice (Some td) so holds = holds td refl (left-state td.state so)

-- the ring of the other direction has nothing
out-kept : (ring : ItemRing) (trbs : List Trb) (change : Td → Td) (way : Direction) (found : Option Td) → is_td_left_over (data_in_td way found) ≡ true
    → HoldsData ring trbs (data_out_td way found) → HoldsData ring trbs (data_out_td way (option_map change found))
out-kept ring trbs change Nothing found so holds = holds
out-kept ring trbs change ToHost found so holds = holds
out-kept ring trbs change ToDevice found so holds = absurd (false≢true so)

in-kept : (ring : ItemRing) (trbs : List Trb) (change : Td → Td) (way : Direction) (found : Option Td) → is_td_left_over (data_out_td way found) ≡ true
    → HoldsData ring trbs (data_in_td way found) → HoldsData ring trbs (data_in_td way (option_map change found))
in-kept ring trbs change Nothing found so holds = holds
in-kept ring trbs change ToHost found so holds = absurd (false≢true so)
in-kept ring trbs change ToDevice found so holds = holds

pub cell-changed : (tags : ℕ) (client count : ℕ) (pipe : Pipe) (place : Place) (entry : Entry) (cell : Cell) (change : Td → Td) (ring : ItemRing) (held : Option HostEntry)
    → FitsCell tags client count place entry cell → is_left_over_on pipe entry ≡ true
    → ((td : Td) → td_on pipe entry ≡ Some td → td.state ≡ LeftOver → HoldsTd ring (td_trbs pipe (tag_of tags place) entry) (change td))
    → held ≡ Some (host_side (with_td_on change pipe entry))
    → FitsCell tags client count place (with_td_on change pipe entry) (record (with_cell_ring pipe cell ring) { held = held })
cell-changed tags client count Command place entry cell change ring held fits so holds is = absurd (false≢true so)
cell-changed tags client count Status place entry cell change ring held fits so holds is =
    cell-tds tags client count place entry cell entry.command_td (change entry.status_td) entry.data_td held ring cell.data_in cell.data_out fits is
    (holds entry.status_td refl (left-state entry.status_td.state so)) fits.data_in fits.data_out
cell-changed tags client count DataIn place entry cell change ring held fits so holds is =
    let trbs : List Trb = data_td (tag_of tags place) (request_bytes entry.task.request) in
    let way : Direction = request_direction entry.task.request in
    cell-tds tags client count place entry cell entry.command_td entry.status_td (option_map change entry.data_td) held cell.status ring cell.data_out fits is
    fits.status (in-changed ring trbs change way entry.data_td so holds) (out-kept cell.data_out trbs change way entry.data_td so fits.data_out)
cell-changed tags client count DataOut place entry cell change ring held fits so holds is =
    let trbs : List Trb = data_td (tag_of tags place) (request_bytes entry.task.request) in
    let way : Direction = request_direction entry.task.request in
    cell-tds tags client count place entry cell entry.command_td entry.status_td (option_map change entry.data_td) held cell.status cell.data_in ring fits is
    fits.status (in-kept cell.data_in trbs change way entry.data_td so fits.data_in) (out-changed ring trbs change way entry.data_td so holds)

-- RINGS THAT DIFFER IN WHAT IS CONSUMED

-- a ring without the count of its consumed TRBs: an event reads nothing else of it
abbrev pub uncounted : ItemRing → ItemRing
uncounted ring = record ring { got = 0 }

pub uncounted-set : (rings : List ItemRing) (at other got : ℕ)
    → uncounted (slice_index_or (slice_set rings at (record (slice_index_or rings at (opening 0)) { got = got })) other (opening 0))
    ≡ uncounted (slice_index_or rings other (opening 0))
uncounted-set [] at other got = refl
uncounted-set (ring ∷ rings) zero zero got = refl
uncounted-set (ring ∷ rings) zero (suc other) got = refl
uncounted-set (ring ∷ rings) (suc at) zero got = refl
uncounted-set (ring ∷ rings) (suc at) (suc other) got = uncounted-set rings at other got
