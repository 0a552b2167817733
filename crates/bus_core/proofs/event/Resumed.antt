-- The doorbells of a pipe that is held no more: the host rings the streams whose rings have pending TRBs, and those are the ones that
-- the shared machine rings. Cited by the proof of the event of Set TR Dequeue Pointer.
use Rattle.std.proofs.Common.{◌≡◌, ℕ, zero, suc, ◌+◌, ◌*◌, ◌/◌, ◌%◌, ◌<◌, ◌≤◌, Bool, true, false, ◌&&◌, cond, List, [], ◌∷◌, length, map, Option, Some, None}
use Rattle.std.proofs.Common.{refl, arith, ap, sym, subst, ◌∙◌}
use Rattle.std.specs.Prelude.{nat_lt, filter, fold}
use Rattle.std.specs.List.{range_with_len}
use Rattle.std.specs.Option.{option_map_or}
use Rattle.std.proofs.lemmas.Bool.{lt-ltb, le-leb}
use Rattle.xhci_trb.specs.declared.Trb.{Trb}
use Rattle.cycle_ring.specs.Items.{ItemRing}
use Rattle.uas_profile.specs.declared.Pipe.{Pipe}
use Rattle.uas_profile.specs.declared.Pipe.TheVariants.{Command, Status, DataIn, DataOut}
use Rattle.uas_profile.specs.declared.TheConstants.{STREAMS}
use Rattle.stream_array.specs.Contexts.{has_stream}
use Rattle.uas_profile.specs.Pipes.{HasStreams}
use Rattle.stream_array.specs.Rings.{ring_of, stream_ring}
use Rattle.uas_profile.specs.declared.Place.{Place}
use Rattle.uas_profile.specs.declared.TdState.{TdState}
use Rattle.uas_profile.specs.declared.TdState.TheVariants.{Pending, Seen, LeftOver, Retired}
use Rattle.uas_profile.specs.Doors.{door}
use Rattle.uas_profile.specs.Pipes.{target_of}
use Rattle.uas_host.specs.Retirement.{has_pending, resumed_doors}
use Rattle.uas_profile.specs.Tags.{place_of, tag_of}
use Rattle.xhci_ctl.specs.Doorbells.{pipe_at, rung_by, rung_in, rung_on}
use Rattle.xhci_ctl.specs.Pipes.{ControllerState}
use Rattle.shared_machine.specs.declared.Td.{Td}
use Rattle.shared_machine.specs.Bus.{IsPlace}
use Rattle.shared_machine.specs.Td.{Entry, has_data_trb, has_trb_on, is_in_ring, td_on}
use Rattle.shared_machine.specs.Pipes.{all_rung}
use Rattle.shared_machine.specs.Shared.{Shared, entry_fact, part_fact, pipe_of, place_fact, streams_pending, with_pipe}
use Rattle.bus_core.specs.World.{Cell, World, cell_at}
use Rattle.bus_core.specs.Cells.{FitsCell, HoldsData, HoldsIn, HoldsTrbs}
use Rattle.bus_core.specs.Fits.{AreUnused}
use Rattle.bus_core.specs.WorldSteps.{rung_all}
use Rattle.bus_core.proofs.common.ActFits.{place_of-tag}
use Rattle.bus_core.proofs.retire.EngineCells.{at-place, is-place}
use Rattle.bus_core.proofs.retire.EngineCellWrites.{cell_ring, length-td_trbs, ring-of-cell, td_trbs}
use Rattle.bus_core.proofs.retire.EngineDue.{has_pending-holds}
use Rattle.bus_core.proofs.common.Framing.{SamePipes}
use Rattle.bus_core.proofs.common.Framing.{AllFit}
use Rattle.shared_machine.specs.Shared.{greatest_tag}
use Rattle.uas_profile.proofs.TagLaws.{unnamed-is_above}
use Rattle.uas_profile.specs.Tags.{AreTags}

-- WHICH STREAMS

-- of a TD that is on its ring a TRB is pending exactly where the controller may take one
held-pending : (ring : ItemRing) (trbs : List Trb) (state : TdState) (consumed : ℕ) → HoldsIn ring trbs consumed state
    → has_pending ring ≡ (is_in_ring state && nat_lt consumed (length trbs))
held-pending ring trbs Pending consumed holds = has_pending-holds ring trbs consumed holds
held-pending ring trbs Seen consumed holds = has_pending-holds ring [] 0 holds.0
held-pending ring trbs LeftOver consumed holds = has_pending-holds ring trbs consumed holds
held-pending ring trbs Retired consumed holds = has_pending-holds ring [] 0 holds.0

data-pending : (ring : ItemRing) (trbs : List Trb) (td : Option Td) → HoldsData ring trbs td → has_pending ring ≡ has_data_trb (length trbs) td
data-pending ring trbs None holds = has_pending-holds ring [] 0 holds
data-pending ring trbs (Some td) holds = held-pending ring trbs td.state td.consumed holds

cell-pending : (tags : ℕ) (client count : ℕ) (pipe : Pipe) (place : Place) (entry : Entry) (cell : Cell) → HasStreams pipe → FitsCell tags client count place entry cell
    → has_pending (cell_ring pipe cell) ≡ has_trb_on pipe entry
cell-pending tags client count Command place entry cell streams fits = absurd streams
cell-pending tags client count Status place entry cell streams fits =
    held-pending cell.status (td_trbs Status (tag_of tags place) entry) entry.status_td.state entry.status_td.consumed fits.status
cell-pending tags client count DataIn place entry cell streams fits =
    data-pending cell.data_in (td_trbs DataIn (tag_of tags place) entry) (td_on DataIn entry) fits.data_in
    ∙ ap (λ n. has_data_trb n (td_on DataIn entry)) (length-td_trbs DataIn (tag_of tags place) entry streams)
cell-pending tags client count DataOut place entry cell streams fits =
    data-pending cell.data_out (td_trbs DataOut (tag_of tags place) entry) (td_on DataOut entry) fits.data_out
    ∙ ap (λ n. has_data_trb n (td_on DataOut entry)) (length-td_trbs DataOut (tag_of tags place) entry streams)

-- nothing is pending where no entry stands
empty-pending : (ring : ItemRing) → HoldsTrbs ring [] 0 → has_pending ring ≡ false
empty-pending ring holds = has_pending-holds ring [] 0 holds

cell-empty : (pipe : Pipe) (cell : Cell) → HasStreams pipe → HoldsTrbs cell.status [] 0 → HoldsTrbs cell.data_in [] 0 → HoldsTrbs cell.data_out [] 0
    → has_pending (cell_ring pipe cell) ≡ false
cell-empty Command cell streams status data_in data_out = absurd streams
cell-empty Status cell streams status data_in data_out = empty-pending cell.status status
cell-empty DataIn cell streams status data_in data_out = empty-pending cell.data_in data_in
cell-empty DataOut cell streams status data_in data_out = empty-pending cell.data_out data_out

unused-ring : (world : World) (pipe : Pipe) (tag : ℕ) → HasStreams pipe → AreUnused world.lines tag → has_pending (ring_of world.lines pipe tag) ≡ false
unused-ring world Command tag streams none = absurd streams
unused-ring world Status tag streams none = empty-pending (stream_ring world.lines.status tag) none.status
unused-ring world DataIn tag streams none = empty-pending (stream_ring world.lines.data_in tag) none.data_in
unused-ring world DataOut tag streams none = empty-pending (stream_ring world.lines.data_out tag) none.data_out

-- the cells of all clients fit, and the rings of all other tags are empty
pub record StreamsFit (state : Shared) (world : World) : Type 0 where
  pub number : AreTags state.tags
  pub all : AllFit state.tags world state.parts
  pub unused : (tag : ℕ) → greatest_tag state < tag → AreUnused world.lines tag

pending-at : (state : Shared) (world : World) (pipe : Pipe) (place : Place) → HasStreams pipe → StreamsFit state world → IsPlace state.tags (length state.parts) place
    → has_pending (ring_of world.lines pipe (tag_of state.tags place)) ≡ part_fact state place.client (entry_fact (has_trb_on pipe) place.slot)
pending-at state world pipe place streams fits there =
    ap (λ (ring : ItemRing). has_pending ring) (ring-of-cell state.tags world pipe place streams)
    ∙ at-place state.tags state.parts world place (has_trb_on pipe) (λ (cell : Cell) fact. has_pending (cell_ring pipe cell) ≡ fact) fits.all there
    (λ empty. cell-empty pipe (cell_at state.tags world place) streams empty.status empty.data_in empty.data_out)
    (λ entry count full. cell-pending state.tags place.client count pipe place entry (cell_at state.tags world place) streams full)

pub pending-same : (state : Shared) (world : World) (pipe : Pipe) (tag : ℕ) → HasStreams pipe → StreamsFit state world → 1 ≤ tag
    → has_pending (ring_of world.lines pipe tag) ≡ place_fact state tag (has_trb_on pipe)
pending-same state world pipe tag streams fits some =
    elim (place_of state.tags (length state.parts) tag) as (λ o. place_of state.tags (length state.parts) tag ≡ o
    → has_pending (ring_of world.lines pipe tag) ≡ option_map_or (λ (p : Place). part_fact state p.client (entry_fact (has_trb_on pipe) p.slot)) o false) [
      | None ↦ λ is. unused-ring world pipe tag streams (fits.unused tag (unnamed-is_above state.tags (length state.parts) tag some is))
      | Some place ↦ λ is.
          subst (λ t. has_pending (ring_of world.lines pipe t) ≡ part_fact state place.client (entry_fact (has_trb_on pipe) place.slot))
          (place_of-tag state.tags (length state.parts) tag place (omega (arith, fits.number.least)) is)
          (pending-at state world pipe place streams fits
          (is-place state.tags (length state.parts) tag place (omega (arith, fits.number.least)) is))
    ] refl

filter-alike : (one other : ℕ → Bool) (first count : ℕ) → 1 ≤ first → ((tag : ℕ) → 1 ≤ tag → one tag ≡ other tag)
    → filter one (range_with_len first count) ≡ filter other (range_with_len first count)
filter-alike one other first zero some same = refl
filter-alike one other first (suc count) some same =
    ap (λ b. cond b (first ∷ filter one (range_with_len (first + 1) count)) (filter one (range_with_len (first + 1) count))) (same first some)
    ∙ ap (λ rest. cond (other first) (first ∷ rest) rest) (filter-alike one other (first + 1) count (omega arith) same)

-- the doorbells that the host rings are the shared machine's
pub resumed-same : (state : Shared) (world : World) (pipe : Pipe) → HasStreams pipe → StreamsFit state world
    → resumed_doors world.lines pipe ≡ map (door (target_of pipe)) (streams_pending state pipe)
unfolding resumed_doors
resumed-same state world pipe streams fits =
    ap (λ list. map (door (target_of pipe)) list)
    (filter-alike (λ tag. has_pending (ring_of world.lines pipe tag)) (λ tag. place_fact state tag (has_trb_on pipe)) 1 STREAMS (omega arith)
    (λ tag some. pending-same state world pipe tag streams fits some))

-- WHAT THEY RING

-- a doorbell rings its stream
rung-stream : (controller : ControllerState) (target tag : ℕ) (pipe : Pipe) → target < 256 → 1 ≤ tag → tag ≤ STREAMS → pipe_at target ≡ Some pipe
    → rung_by controller (door target tag) ≡ rung_on controller pipe tag
rung-stream controller target tag pipe small some most is =
    let reserved : (target + 65536 * tag) / 256 % 256 ≡ 0 = omega arith in
    let stream : (target + 65536 * tag) / 65536 ≡ tag = omega arith in
    let low : (target + 65536 * tag) % 256 ≡ target = omega arith in
    let has : has_stream tag ≡ true = rw (lt-ltb 0 tag some, le-leb tag STREAMS most) refl in
    let named : rung_in (door target tag) ≡ Some (pipe, tag) = rw (reserved, stream, low, has, is) refl in
    ap (λ rung. option_map_or (λ r. rung_on controller r.0 r.1) rung controller) named

rung-pipe : (controller : ControllerState) (pipe : Pipe) (tag : ℕ) → HasStreams pipe → 1 ≤ tag → tag ≤ STREAMS
    → rung_by controller (door (target_of pipe) tag) ≡ rung_on controller pipe tag
rung-pipe controller Command tag streams some most = absurd streams
rung-pipe controller Status tag streams some most = rung-stream controller 3 tag Status (omega arith) some most refl
rung-pipe controller DataIn tag streams some most = rung-stream controller 5 tag DataIn (omega arith) some most refl
rung-pipe controller DataOut tag streams some most = rung-stream controller 4 tag DataOut (omega arith) some most refl

-- these streams of a pipe are rung
abbrev on_pipe : Pipe → ControllerState → ℕ → ControllerState
on_pipe pipe controller tag = rung_on controller pipe tag

rung-range : (controller : ControllerState) (pipe : Pipe) (test : ℕ → Bool) (first count : ℕ) → HasStreams pipe → 1 ≤ first → first + count ≤ STREAMS + 1
    → rung_all controller (map (door (target_of pipe)) (filter test (range_with_len first count)))
    ≡ fold (on_pipe pipe) controller (filter test (range_with_len first count))
rung-range controller pipe test first zero streams some most = refl
rung-range controller pipe test first (suc count) streams some most =
    let rest : List ℕ = filter test (range_with_len (first + 1) count) in
    let further : (c : ControllerState) → rung_all c (map (door (target_of pipe)) (filter test (range_with_len (first + 1) count)))
    ≡ fold (on_pipe pipe) c (filter test (range_with_len (first + 1) count)) =
    λ c. rung-range c pipe test (first + 1) count streams (omega arith) (omega (arith, most)) in
    elim (test first) as (λ b. rung_all controller (map (door (target_of pipe)) (cond b (first ∷ rest) rest))
    ≡ fold (on_pipe pipe) controller (cond b (first ∷ rest) rest)) [
      | true ↦
          ap (λ c. rung_all c (map (door (target_of pipe)) (filter test (range_with_len (first + 1) count))))
          (rung-pipe controller pipe first streams some (omega (arith, most)))
          ∙ further (rung_on controller pipe first)
      | false ↦ further controller
    ]

-- the pipe has them rung, and the others are as they were
fold-status : (controller : ControllerState) (streams : List ℕ)
    → fold (on_pipe Status) controller streams ≡ record controller { status = all_rung controller.status streams }
fold-status controller [] = refl
fold-status controller (tag ∷ rest) = fold-status (rung_on controller Status tag) rest

fold-in : (controller : ControllerState) (streams : List ℕ)
    → fold (on_pipe DataIn) controller streams ≡ record controller { data_in = all_rung controller.data_in streams }
fold-in controller [] = refl
fold-in controller (tag ∷ rest) = fold-in (rung_on controller DataIn tag) rest

fold-out : (controller : ControllerState) (streams : List ℕ)
    → fold (on_pipe DataOut) controller streams ≡ record controller { data_out = all_rung controller.data_out streams }
fold-out controller [] = refl
fold-out controller (tag ∷ rest) = fold-out (rung_on controller DataOut tag) rest

fold-pipes : (controller : ControllerState) (state : Shared) (pipe : Pipe) (streams : List ℕ) → HasStreams pipe → SamePipes controller state
    → SamePipes (fold (on_pipe pipe) controller streams) (with_pipe state pipe (all_rung (pipe_of state pipe) streams))
fold-pipes controller state Command streams has same = absurd has
fold-pipes controller state Status streams has same =
    subst (λ c. SamePipes c (record state { status = all_rung state.status streams })) (sym (fold-status controller streams))
    (record { status = ap (λ p. all_rung p streams) same.status; data_in = same.data_in; data_out = same.data_out })
fold-pipes controller state DataIn streams has same =
    subst (λ c. SamePipes c (record state { data_in = all_rung state.data_in streams })) (sym (fold-in controller streams))
    (record { status = same.status; data_in = ap (λ p. all_rung p streams) same.data_in; data_out = same.data_out })
fold-pipes controller state DataOut streams has same =
    subst (λ c. SamePipes c (record state { data_out = all_rung state.data_out streams })) (sym (fold-out controller streams))
    (record { status = same.status; data_in = same.data_in; data_out = ap (λ p. all_rung p streams) same.data_out })

-- the controller rings what the shared machine rings
pub resumed-pipes : (controller : ControllerState) (state : Shared) (world : World) (pipe : Pipe) → HasStreams pipe → StreamsFit state world
    → SamePipes controller state
    → SamePipes (rung_all controller (resumed_doors world.lines pipe)) (with_pipe state pipe (all_rung (pipe_of state pipe) (streams_pending state pipe)))
resumed-pipes controller state world pipe streams fits same =
    subst (λ c. SamePipes c (with_pipe state pipe (all_rung (pipe_of state pipe) (streams_pending state pipe))))
    (sym (ap (rung_all controller) (resumed-same state world pipe streams fits)
    ∙ rung-range controller pipe (λ tag. place_fact state tag (has_trb_on pipe)) 1 STREAMS streams (omega arith) (omega arith)))
    (fold-pipes controller state pipe (streams_pending state pipe) streams same)
