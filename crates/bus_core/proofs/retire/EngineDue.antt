-- Where the steps of a retirement are due: Engine where the controller's command ring has a pending TRB, Retire where the host
-- finds the TD left over and no retirement under way. Cited by the laws of where steps are due and by the answers of the bus.
use Rattle.std.proofs.Common.{◌≡◌, ℕ, Bool, true, false, ◌&&◌, List, [], ◌∷◌, length, Option, Some, None, option_map, refl, ap, sym, ◌∙◌}
use Rattle.std.specs.Prelude.{nat_lt, is_none, is_some, option_and_then, if◌then◌else◌}
use Rattle.std.specs.Option.{option_map_or}
use Rattle.std.proofs.lemmas.Bool.{false≢true}
use Rattle.std.proofs.lemmas.List.{length-map}
use Rattle.xhci_trb.specs.declared.Trb.{Trb}
use Rattle.cycle_ring.specs.Items.{ItemRing, Item, known}
use Rattle.uas_profile.specs.declared.Pipe.{Pipe}
use Rattle.uas_profile.specs.declared.Pipe.TheVariants.{Command, Status, DataIn, DataOut}
use Rattle.stream_array.specs.Rings.{LinesState}
use Rattle.uas_profile.specs.declared.Direction.{Direction}
use Rattle.uas_profile.specs.declared.Direction.TheVariants.{Nothing, ToHost, ToDevice}
use Rattle.scsi_cmd.specs.Held.{held_at}
use Rattle.uas_host.specs.declared.HostEntry.{HostEntry}
use Rattle.uas_profile.specs.declared.Place.{Place}
use Rattle.uas_host.specs.declared.Retirement.{Retirement as HostRetirement}
use Rattle.uas_host.specs.declared.RetirementStage.TheVariants.{Stopping}
use Rattle.uas_profile.specs.TdStates.{is_left_over}
use Rattle.uas_host.specs.State.{client_of}
use Rattle.uas_host.specs.Retirement.{is_left_over_on as is_host_left_over_on, stop_trb, move_trb}
use Rattle.uas_host.specs.Seen.{goes_to_device, goes_to_host, is_td_left_over as is_host_td_left_over}
use Rattle.uas_profile.specs.Tags.{place_of, tag_of}
use Rattle.xhci_ctl.specs.Pipes.{has_pending}
use Rattle.shared_machine.specs.declared.Retirement.{Retirement}
use Rattle.shared_machine.specs.declared.RetirementStage.{RetirementStage}
use Rattle.shared_machine.specs.declared.RetirementStage.TheVariants.{StopAsked, StopAnswered, MoveAsked, MoveAnswered}
use Rattle.shared_machine.specs.declared.Td.{Td}
use Rattle.shared_machine.specs.Bus.{IsPlace}
use Rattle.shared_machine.specs.Td.{Entry, data_in_td, data_out_td, is_left_over_on, is_td_left_over, request_direction}
use Rattle.shared_machine.specs.declared.Step.TheVariants.{Retire}
use Rattle.shared_machine.specs.Shared.{Shared, due, entry_fact, is_asked, part_fact, place_fact}
use Rattle.bus_core.specs.World.{World, Cell}
use Rattle.bus_core.specs.Cells.{HoldsTrbs, host_side, state_of}
use Rattle.bus_core.specs.Fits.{Fits, HoldsCommand, HoldsCommandOf, host_retirement}
use Rattle.bus_core.specs.WorldDue.{EnginesAreDue, RetirementsAreDue}
use Rattle.bus_core.proofs.common.CellWrites.{clients-length}
use Rattle.bus_core.proofs.retire.EngineCells.{at-place, is-place}
use Rattle.std.proofs.Common.{arith}

-- ENGINE

-- a ring that holds so many TRBs and has so many of them consumed
pub has_pending-holds : (ring : ItemRing) (trbs : List Trb) (taken : ℕ) → HoldsTrbs ring trbs taken → has_pending ring ≡ nat_lt taken (length trbs)
has_pending-holds ring trbs taken holds =
    ap (λ k. nat_lt k (length ring.put)) holds.1 ∙ ap (λ (ts : List Item). nat_lt taken (length ts)) holds.0 ∙ ap (nat_lt taken) (length-map trbs known)

asked-pends : (tags : ℕ) (lines : LinesState) (pipe : Pipe) (place : Place) (stage : RetirementStage) → HoldsCommand tags lines pipe place stage
    → is_asked stage ≡ has_pending lines.engine
asked-pends tags lines pipe place StopAsked holds = sym (has_pending-holds lines.engine (stop_trb pipe ∷ []) 0 holds)
asked-pends tags lines pipe place StopAnswered holds = sym (has_pending-holds lines.engine (stop_trb pipe ∷ []) 1 holds)
asked-pends tags lines pipe place MoveAsked holds = sym (has_pending-holds lines.engine (move_trb lines pipe (tag_of tags place) ∷ []) 0 holds)
asked-pends tags lines pipe place MoveAnswered holds = sym (has_pending-holds lines.engine (move_trb lines pipe (tag_of tags place) ∷ []) 1 holds)

command-pends : (tags : ℕ) (lines : LinesState) (retirement : Option Retirement) → HoldsCommandOf tags lines retirement
    → option_map_or (λ (r : Retirement). is_asked r.stage) retirement false ≡ has_pending lines.engine
command-pends tags lines None holds = sym (has_pending-holds lines.engine [] 0 holds)
command-pends tags lines (Some retirement) holds = asked-pends tags lines retirement.pipe retirement.place retirement.stage holds

pub engines-are-due : EnginesAreDue
engines-are-due state world fits = command-pends state.tags world.lines state.retirement fits.engine.commands

-- RETIRE

data-left : (td : Option Td) → option_map_or is_left_over (option_map state_of td) false ≡ is_td_left_over td
data-left None = refl
data-left (Some td) = refl

in-left : (way : Direction) (td : Option Td) → (goes_to_host way && option_map_or is_left_over (option_map state_of td) false)
    ≡ is_td_left_over (data_in_td way td)
in-left Nothing td = refl
in-left ToHost td = data-left td
in-left ToDevice td = refl

out-left : (way : Direction) (td : Option Td) → (goes_to_device way && option_map_or is_left_over (option_map state_of td) false)
    ≡ is_td_left_over (data_out_td way td)
out-left Nothing td = refl
out-left ToHost td = refl
out-left ToDevice td = data-left td

-- the host finds a TD left over exactly where it is
pub left_over-side : (pipe : Pipe) (entry : Entry) → is_host_td_left_over pipe (host_side entry) ≡ is_left_over_on pipe entry
left_over-side Command entry = refl
left_over-side Status entry = refl
left_over-side DataIn entry = in-left (request_direction entry.task.request) entry.data_td
left_over-side DataOut entry = out-left (request_direction entry.task.request) entry.data_td

left_over-at : (state : Shared) (world : World) (pipe : Pipe) (place : Place) → Fits state world → IsPlace state.tags (length state.parts) place
    → part_fact state place.client (entry_fact (is_left_over_on pipe) place.slot)
    ≡ option_map_or (is_host_td_left_over pipe) (held_at (client_of world.host place.client).entries place.slot) false
left_over-at state world pipe place fits there =
    at-place state.tags state.parts world place (is_left_over_on pipe) (λ (cell : Cell) fact. fact ≡ option_map_or (is_host_td_left_over pipe) cell.held false)
    fits.clients there
    (λ empty. ap (λ (h : Option HostEntry). option_map_or (is_host_td_left_over pipe) h false) (sym empty.held))
    (λ entry count full. sym (left_over-side pipe entry) ∙ ap (λ (h : Option HostEntry). option_map_or (is_host_td_left_over pipe) h false) (sym full.held))

pub left_over-of : (state : Shared) (world : World) (pipe : Pipe) (tag : ℕ) → Fits state world
    → place_fact state tag (is_left_over_on pipe) ≡ is_host_left_over_on world.host pipe tag
left_over-of state world pipe tag fits =
    let entry : Place → Option HostEntry = λ place. held_at (client_of world.host place.client).entries place.slot in
    elim (place_of state.tags (length state.parts) tag) as (λ o. place_of state.tags (length state.parts) tag ≡ o
    → option_map_or (λ (p : Place). part_fact state p.client (entry_fact (is_left_over_on pipe) p.slot)) o false
    ≡ option_map_or (is_host_td_left_over pipe) (option_and_then (λ (p : Place). held_at (client_of world.host p.client).entries p.slot) o) false) [
      | None ↦ λ is. refl
      | Some place ↦ λ is. left_over-at state world pipe place fits (is-place state.tags (length state.parts) tag place (omega (arith, fits.matched.tags.least)) is)
    ] refl
    ∙ ap (λ n. option_map_or (is_host_td_left_over pipe) (option_and_then (λ (p : Place). held_at (client_of world.host p.client).entries p.slot)
    (place_of state.tags n tag)) false)
    (sym (clients-length state.tags world state.parts fits.clients))
    ∙ ap (λ t. option_map_or (is_host_td_left_over pipe) (option_and_then (λ (p : Place). held_at (client_of world.host p.client).entries p.slot)
    (place_of t (length world.host.clients) tag)) false) (sym fits.tags)

none-same : (retirement : Option Retirement) → is_none retirement ≡ is_none (option_map host_retirement retirement)
none-same None = refl
none-same (Some retirement) = refl

-- no retirement is under way on either side, or one is on both
pub none_under_way : (state : Shared) (world : World) → Fits state world → is_none state.retirement ≡ is_none world.host.retirement
none_under_way state world fits = none-same state.retirement ∙ ap (λ (r : Option HostRetirement). is_none r) (sym fits.engine.retirement)

-- there is none, or something
pub none-there : {T : Type 0} (found : Option T) → is_some found ≡ false → true ≡ is_none found
none-there None none = refl
none-there (Some x) none = absurd (false≢true (sym none))

-- both find the same
pub retire-due : (state : Shared) (world : World) (pipe : Pipe) (tag : ℕ) → Fits state world
    → due state (Retire pipe tag) ≡ (is_none world.host.retirement && is_host_left_over_on world.host pipe tag)
retire-due state world pipe tag fits =
    ap (λ b. b && place_fact state tag (is_left_over_on pipe)) (none_under_way state world fits)
    ∙ ap (λ b. is_none world.host.retirement && b) (left_over-of state world pipe tag fits)

-- where a TD is left over its tag names a place
named-some : (world : World) (pipe : Pipe) (tag : ℕ) (none : Bool)
    → (none && is_host_left_over_on world.host pipe tag)
    ≡ is_some {T = HostRetirement} (if none && is_host_left_over_on world.host pipe tag
    then option_map (λ place. record { pipe = pipe; place = place; stage = Stopping }) (place_of world.host.tags (length world.host.clients) tag) else None)
named-some world pipe tag none =
    elim (place_of world.host.tags (length world.host.clients) tag) as (λ o.
    let left : Bool = option_map_or (is_host_td_left_over pipe) (option_and_then (λ (p : Place). held_at (client_of world.host p.client).entries p.slot) o)
    false in
    (none && left) ≡ is_some {T = HostRetirement} (if none && left then option_map (λ place. record { pipe = pipe; place = place; stage = Stopping }) o
    else None)) [
      | None ↦ none-left none
      | Some place ↦ some-left (none && option_map_or (is_host_td_left_over pipe) (held_at (client_of world.host place.client).entries place.slot) false)
          pipe place
    ]
  where
    none-left : (none : Bool) → (none && false) ≡ is_some {T = HostRetirement} (if none && false then None else None)
    none-left true = refl
    none-left false = refl

    some-left : (b : Bool) (pipe : Pipe) (place : Place) → b ≡ is_some {T = HostRetirement}
        (if b then Some (record { pipe = pipe; place = place; stage = Stopping }) else None)
    some-left true pipe place = refl
    some-left false pipe place = refl

pub retirements-are-due : RetirementsAreDue
retirements-are-due state world pipe tag fits = retire-due state world pipe tag fits ∙ named-some world pipe tag (is_none world.host.retirement)
