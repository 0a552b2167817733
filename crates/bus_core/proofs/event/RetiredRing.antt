-- The ring of a TD that is retired, emptied, and the world with it. Cited by RetiredSeen.
use Rattle.std.proofs.Common.{◌≡◌, ℕ, zero, suc, ◌<◌, ◌≤◌, true, false, cond, List, [], ◌++◌, drop, length, Option, Some, None}
use Rattle.std.proofs.Common.{option_map, refl, arith, ap, sym, ◌∙◌, take, map, ◌∷◌}
use Rattle.std.specs.Prelude.{is_some, slice_set, option_and_then, unwrap_or}
use Rattle.std.specs.Option.{option_map_or}
use Rattle.std.proofs.Math.Seq.{drop-length}
use Rattle.std.proofs.lemmas.Bool.{false≢true, eqb-true, ltb-true}
use Rattle.std.proofs.lemmas.List.{length-map}
use Rattle.xhci_trb.specs.declared.Trb.{Trb}
use Rattle.cycle_ring.specs.Ring.{reclaimed}
use Rattle.cycle_ring.specs.Items.{ItemRing, known, Item}
use Rattle.uas_profile.specs.declared.Pipe.{Pipe}
use Rattle.uas_profile.specs.declared.Pipe.TheVariants.{Command, Status, DataIn, DataOut}
use Rattle.uas_profile.specs.Pipes.{HasStreams}
use Rattle.stream_array.specs.Map.{places_of}
use Rattle.stream_array.specs.Rings.{IsLines, LinesState, ring_of, with_ring}
use Rattle.uas_profile.specs.declared.Direction.{Direction}
use Rattle.uas_profile.specs.declared.Direction.TheVariants.{Nothing, ToHost, ToDevice}
use Rattle.uas_profile.specs.declared.TheConstants.{STREAMS}
use Rattle.scsi_cmd.specs.Held.{held_at}
use Rattle.solo_model.specs.declared.Phase.{Phase}
use Rattle.solo_model.specs.declared.Phase.TheVariants.{Queued, Begun, Sent, Gone}
use Rattle.uas_host.specs.declared.HostClient.{HostClient}
use Rattle.uas_host.specs.Notices.{TdRetired}
use Rattle.uas_profile.specs.declared.Place.{Place}
use Rattle.uas_host.specs.declared.Retirement.{Retirement as HostRetirement}
use Rattle.uas_host.specs.declared.RetirementStage.TheVariants.{Moving}
use Rattle.uas_profile.specs.declared.TdState.{TdState}
use Rattle.uas_profile.specs.declared.TdState.TheVariants.{LeftOver, Retired}
use Rattle.uas_host.specs.Retirement.{resumed_doors, retired_host, with_first_freed, trbs_before}
use Rattle.uas_host.specs.Seen.{seen, with_retired, with_seen}
use Rattle.uas_host.specs.State.{HostState, client_of, with_client}
use Rattle.uas_profile.specs.Tags.{tag_of}
use Rattle.shared_machine.specs.declared.Completion.{Completion}
use Rattle.shared_machine.specs.declared.RetirementStage.TheVariants.{MoveAnswered}
use Rattle.shared_machine.specs.declared.Td.{Td}
use Rattle.shared_machine.specs.Pipes.{all_rung}
use Rattle.shared_machine.specs.Td.{Entry, data_in_td, data_out_td, is_left_over_on, is_td_left_over, request_direction}
use Rattle.shared_machine.specs.Td.{data_trbs, retired_td, td_on, trbs_on, with_td_on}
use Rattle.shared_machine.specs.Part.{Part}
use Rattle.shared_machine.specs.Shared.{Shared, pipe_of, streams_pending, with_pipe}
use Rattle.machine_invariant.specs.Matched.{IsMatchedEntry, is_whole}
use Rattle.machine_invariant.specs.Matched.{is_whole_on, request_bytes}
use Rattle.bus_core.specs.World.{World, cell_at}
use Rattle.bus_core.specs.Cells.{HoldsTrbs, host_side, state_of, told_by}
use Rattle.bus_core.specs.Fits.{Fits}
use Rattle.bus_core.proofs.common.CellWrites.{stream_ring-same}
use Rattle.bus_core.proofs.retire.EngineCellWrites.{IsLeftOn, cell_ring, left-on, length-td_trbs, td_trbs, with_cell_ring}
use Rattle.bus_core.proofs.retire.EngineDue.{left_over-side}
use Rattle.bus_core.proofs.retire.EngineFits.{IsUnderWay}
use Rattle.bus_core.proofs.common.EventTds.{data_trbs-count}
use Rattle.bus_core.proofs.event.HostSees.{host_with}
use Rattle.machine_invariant.proofs.MatchedSteps.{seen_part}
use Rattle.bus_core.proofs.retire.EngineSeen.{freed_lines}
use Rattle.bus_core.proofs.retire.EngineSeen.{handled_world}
use Rattle.machine_invariant.proofs.MatchedLeftOver.{left-in, left-out, left-state}

-- THE HOST RETIRES THE TD

-- the entry once its TD on a pipe is retired
abbrev pub retired_entry : Pipe → Entry → Entry
retired_entry pipe entry = with_td_on retired_td pipe entry

pub untold : (phase : Phase) (state : TdState) → state ≡ LeftOver → told_by phase state ≡ told_by phase Retired
untold Queued state left = refl
untold (Begun progress) state left = refl
untold (Sent answer) state left = ap (λ s. told_by (Sent answer) s) left
untold Gone state left = refl

pub retired-states : (pipe : Pipe) (entry : Entry) → is_left_over_on pipe entry ≡ true → with_retired pipe (host_side entry) ≡ host_side (retired_entry pipe entry)
retired-states Command entry so = absurd (false≢true so)
retired-states Status entry so =
    ap (λ told. record (host_side entry) { told = told; status_td = Retired })
    (untold entry.task.phase entry.status_td.state (left-state entry.status_td.state so))
retired-states DataIn entry so = ap (λ states. record (host_side entry) { data_td = states })
    (in-states (request_direction entry.task.request) entry.data_td so)
  where
    in-states : (way : Direction) (td : Option Td) → is_td_left_over (data_in_td way td) ≡ true → Some Retired ≡ option_map state_of (option_map retired_td td)
    in-states Nothing td so = absurd (false≢true so)
    in-states ToHost None so = absurd (false≢true so)
    in-states ToHost (Some td) so = refl
    in-states ToDevice td so = absurd (false≢true so)
retired-states DataOut entry so = ap (λ states. record (host_side entry) { data_td = states })
    (out-states (request_direction entry.task.request) entry.data_td so)
  where
    out-states : (way : Direction) (td : Option Td) → is_td_left_over (data_out_td way td) ≡ true → Some Retired
        ≡ option_map state_of (option_map retired_td td)
    out-states Nothing td so = absurd (false≢true so)
    out-states ToHost td so = absurd (false≢true so)
    out-states ToDevice None so = absurd (false≢true so)
    out-states ToDevice (Some td) so = refl

pub retired-side : (pipe : Pipe) (entry : Entry) → is_left_over_on pipe entry ≡ true
    → seen (TdRetired pipe) (host_side entry) ≡ Some (host_side (retired_entry pipe entry))
retired-side pipe entry so =
    ap (λ b. cond b (Some (with_retired pipe (host_side entry))) None) (left_over-side pipe entry ∙ so)
    ∙ ap (λ h. Some h) (retired-states pipe entry so)

abbrev pub moving : Pipe → Place → HostRetirement
moving pipe place = record { pipe = pipe; place = place; stage = Moving }

-- the host without the retirement, whose entry of the place became this one's side
abbrev pub host_after : HostState → Place → Entry → HostState
host_after host place now = record (host_with host place now) { retirement = None }

pub retired_host-is : (host : HostState) (pipe : Pipe) (place : Place) (entry : Entry) → is_left_over_on pipe entry ≡ true
    → held_at (client_of host place.client).entries place.slot ≡ Some (host_side entry)
    → retired_host host (moving pipe place) ≡ host_after host place (retired_entry pipe entry)
retired_host-is host pipe place entry so held =
    let client : HostClient = client_of host place.client in
    ap (λ h. record (unwrap_or (option_map (with_client host place.client)
    (option_map (with_seen (TdRetired pipe) (client_of host place.client) place.slot) (option_and_then (seen (TdRetired pipe)) h))) host)
    { retirement = None }) held
    ∙ ap (λ h. record (unwrap_or (option_map (with_client host place.client)
    (option_map (with_seen (TdRetired pipe) (client_of host place.client) place.slot) h)) host) { retirement = None }) (retired-side pipe entry so)

-- ITS RING IS FREE AGAIN

pub first_freed-some : (lines : LinesState) (pipe : Pipe) (tag count : ℕ) → 1 ≤ count
    → with_first_freed lines pipe tag count ≡ with_ring lines pipe tag (reclaimed (places_of pipe) count (ring_of lines pipe tag))
first_freed-some lines pipe tag zero some = absurd (omega (arith, some))
first_freed-some lines pipe tag (suc more) some = refl

-- the ring of the TD, all of it freed
abbrev pub emptied_ring : ℕ → World → Pipe → Place → ItemRing
emptied_ring tags world pipe place =
    reclaimed (places_of pipe) (ring_of (freed_lines world) pipe (tag_of tags place)).got (ring_of (freed_lines world) pipe (tag_of tags place))

abbrev pub retired_lines : ℕ → World → Pipe → Place → LinesState
retired_lines tags world pipe place = with_ring (freed_lines world) pipe (tag_of tags place) (emptied_ring tags world pipe place)

pub ring-of-freed : (tags : ℕ) (world : World) (pipe : Pipe) (place : Place) → HasStreams pipe → ring_of (freed_lines world) pipe (tag_of tags place)
    ≡ cell_ring pipe (cell_at tags world place)
ring-of-freed tags world Command place streams = absurd streams
ring-of-freed tags world Status place streams = refl
ring-of-freed tags world DataIn place streams = refl
ring-of-freed tags world DataOut place streams = refl

-- a TD that is there has a TRB
pub data-some : (tags : ℕ) (slot : ℕ) (entry : Entry) → is_td_left_over entry.data_td ≡ true → IsMatchedEntry tags slot entry → 1 ≤ data_trbs entry.task.request
data-some tags slot entry left sound =
    let some : 0 < request_bytes entry.task.request = ltb-true 0 (request_bytes entry.task.request) (sym sound.moves ∙ there entry.data_td left) in
    omega (arith, some, data_trbs-count entry.task.request)
  where
    there : (td : Option Td) → is_td_left_over td ≡ true → is_some td ≡ true
    there None left = absurd (false≢true left)
    there (Some td) left = refl

pub trbs-some : (tags : ℕ) (pipe : Pipe) (slot : ℕ) (entry : Entry) → is_left_over_on pipe entry ≡ true → IsMatchedEntry tags slot entry → 1 ≤ trbs_on pipe entry
trbs-some tags Command slot entry so sound = absurd (false≢true so)
trbs-some tags Status slot entry so sound = omega arith
trbs-some tags DataIn slot entry so sound = data-some tags slot entry (left-in (request_direction entry.task.request) entry.data_td so).1 sound
trbs-some tags DataOut slot entry so sound = data-some tags slot entry (left-out (request_direction entry.task.request) entry.data_td so).1 sound

-- once the controller was moved, all TRBs of the TD are consumed
pub whole-once-moved : (state : Shared) (world : World) (pipe : Pipe) (place : Place) (td : Td) → (at : IsUnderWay state world pipe place MoveAnswered)
    → td_on pipe at.entry ≡ Some td → td.consumed ≡ trbs_on pipe at.entry
whole-once-moved state world pipe place td at on =
    eqb-true td.consumed (trbs_on pipe at.entry)
    (ap (is_whole (trbs_on pipe at.entry)) (sym on) ∙ ap (λ o. option_map_or (is_whole_on pipe) o false) (sym at.held) ∙ at.retiring.stage.1)

-- of TRBs alone, as many come before the first foreign bytes as there are
trbs_before-known : (n : ℕ) (trbs : List Trb) → n ≤ length trbs → trbs_before (take n (map known trbs)) ≡ n
trbs_before-known zero trbs few = refl
trbs_before-known (suc n) [] few = absurd (omega (arith, few))
trbs_before-known (suc n) (trb ∷ rest) few = ap suc (trbs_before-known n rest (omega (arith, few)))

pub record IsEmptied (tags : ℕ) (world : World) (pipe : Pipe) (place : Place) (entry : Entry) : Type 0 where
  pub some : 1 ≤ (ring_of (freed_lines world) pipe (tag_of tags place)).got
  pub empty : HoldsTrbs (emptied_ring tags world pipe place) [] 0
  pub freed : trbs_before (take (ring_of (freed_lines world) pipe (tag_of tags place)).got (ring_of (freed_lines world) pipe (tag_of tags place)).put)
      ≡ (ring_of (freed_lines world) pipe (tag_of tags place)).got
  pub whole : (td : Td) → td_on pipe entry ≡ Some td → td.consumed ≡ length (td_trbs pipe (tag_of tags place) entry)

pub emptied-is : (state : Shared) (world : World) (pipe : Pipe) (place : Place) → Fits state world
    → (at : IsUnderWay state world pipe place MoveAnswered) → IsEmptied state.tags world pipe place at.entry
emptied-is state world pipe place fits at =
    let left : IsLeftOn pipe (tag_of state.tags place) at.entry (cell_ring pipe (cell_at state.tags world place)) =
    left-on state.tags place.client at.at.part.unit.count pipe place at.entry (cell_at state.tags world place) at.at.cell at.left in
    let ring : ItemRing = ring_of (freed_lines world) pipe (tag_of state.tags place) in
    let same = ring-of-freed state.tags world pipe place at.retiring.streams in
    let all : left.td.consumed ≡ trbs_on pipe at.entry = whole-once-moved state world pipe place left.td at left.on in
    let count : length (td_trbs pipe (tag_of state.tags place) at.entry) ≡ trbs_on pipe at.entry = length-td_trbs pipe (tag_of state.tags place) at.entry at.retiring.streams in
    let put = ap (λ (r : ItemRing). r.put) same ∙ left.holds.0 in
    let got = ap (λ (r : ItemRing). r.got) same ∙ left.holds.1 in
    let long : (ring_of (freed_lines world) pipe (tag_of state.tags place)).got ≡ length (ring_of (freed_lines world) pipe (tag_of state.tags place)).put =
    got ∙ all ∙ sym count ∙ sym (length-map (td_trbs pipe (tag_of state.tags place) at.entry) known) ∙ sym (ap length put) in
    record {
      some = omega (arith, got, all, trbs-some state.tags pipe place.slot at.entry at.left at.at.matched.here.sound);
      empty = (
        ap (λ n. drop n (ring_of (freed_lines world) pipe (tag_of state.tags place)).put) long ∙ drop-length (ring_of (freed_lines world) pipe (tag_of state.tags place)).put,
        omega arith,
      );
      freed =
          ap (λ (ts : List Item). trbs_before (take (ring_of (freed_lines world) pipe (tag_of state.tags place)).got ts)) put
          ∙ trbs_before-known (ring_of (freed_lines world) pipe (tag_of state.tags place)).got (td_trbs pipe (tag_of state.tags place) at.entry)
          (omega (arith, got, all, count));
      whole = λ td on. whole-once-moved state world pipe place td at on ∙ sym count;
    }

-- THE WORLD AFTER IT

abbrev pub retired_doors : ℕ → World → Pipe → Place → List ℕ
retired_doors tags world pipe place = resumed_doors (retired_lines tags world pipe place) pipe

abbrev pub retired_world : ℕ → World → Pipe → Place → Entry → World
retired_world tags world pipe place entry = handled_world world
    (record { host = host_after world.host place (retired_entry pipe entry); lines = retired_lines tags world pipe place }) (retired_doors tags world pipe place)

-- the part once the TD is retired
abbrev pub retired_part : Pipe → Place → Part → Entry → Part
retired_part pipe place part entry = seen_part part place.slot (retired_entry pipe entry)

-- the state before the streams are rung, and once they are
abbrev pub unrung_state : Shared → Pipe → Place → Part → Entry → List Completion → Shared
unrung_state state pipe place part entry rest = record state {
  parts = slice_set state.parts place.client (retired_part pipe place part entry);
  events = rest ++ [];
  retirement = None;
}

abbrev pub rung_state : Shared → Pipe → Place → Part → Entry → List Completion → Shared
rung_state state pipe place part entry rest =
    with_pipe (unrung_state state pipe place part entry rest) pipe
    (all_rung (pipe_of (unrung_state state pipe place part entry rest) pipe) (streams_pending (unrung_state state pipe place part entry rest) pipe))

pub ring-here : (tags : ℕ) (world : World) (pipe : Pipe) (place : Place) (entry : Entry) → IsLines world.lines → tag_of tags place ≤ STREAMS → HasStreams pipe
    → cell_at tags (retired_world tags world pipe place entry) place
    ≡ record (with_cell_ring pipe (cell_at tags world place) (emptied_ring tags world pipe place)) { held = (cell_at tags (retired_world tags world pipe place entry) place).held }
ring-here tags world Command place entry lines most streams = absurd streams
ring-here tags world Status place entry lines most streams =
    ap (λ ring. record (cell_at tags (retired_world tags world Status place entry) place) { status = ring })
    (stream_ring-same world.lines.status (tag_of tags place) (emptied_ring tags world Status place) (omega arith) (omega (arith, most, lines.status)))
ring-here tags world DataIn place entry lines most streams =
    ap (λ ring. record (cell_at tags (retired_world tags world DataIn place entry) place) { data_in = ring })
    (stream_ring-same world.lines.data_in (tag_of tags place) (emptied_ring tags world DataIn place) (omega arith) (omega (arith, most, lines.data_in)))
ring-here tags world DataOut place entry lines most streams =
    ap (λ ring. record (cell_at tags (retired_world tags world DataOut place entry) place) { data_out = ring })
    (stream_ring-same world.lines.data_out (tag_of tags place) (emptied_ring tags world DataOut place) (omega arith) (omega (arith, most, lines.data_out)))
