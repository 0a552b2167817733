-- What a step of Bulk-Out or Bulk-In makes of the device: at most one call on it. `P` holds of the device before, `Q` behind a call and where none
-- was made.
use Rattle.std.proofs.Common.{◌≡◌, refl, ℕ, ◌+◌, Bool, true, false, cond, List, ◌++◌, Option, Some, None, sym}
use Rattle.std.specs.Prelude.{◌&&◌, nat_le, not, option_map, Result, Ok, Err}
use Rattle.bulk_only.specs.declared.command.Cbw.{Cbw}
use Rattle.bulk_only.specs.declared.command.CbwFault.{CbwFault}
use Rattle.bulk_only.specs.declared.status.Csw.{Csw}
use Rattle.bulk_only.specs.Command.{cbw_in}
use Rattle.guest_bulk.specs.declared.bulk.BulkCommand.{BulkCommand}
use Rattle.guest_bulk.specs.declared.bulk.BulkStage.{BulkStage}
use Rattle.guest_bulk.specs.declared.bulk.BulkStage.TheVariants.{Awaits, Faulty, Moves, Tells}
use Rattle.guest_bulk.specs.declared.bulk.KeptSense.{KeptSense}
use Rattle.guest_bulk.specs.declared.bulk.Stepped.{Stepped}
use Rattle.guest_bulk.specs.Breaks.{in_break_at, in_break_by, out_break_at, out_break_by}
use Rattle.guest_bulk.specs.Commands.{BulkWorld, begun_by, begun_if, cbw_count, cbw_drawn, cbw_gathered, cbw_lost, cbw_ran, cbw_taken, is_for, kept_begun, received_if, takes_bytes, gives_bytes, task_begun, unit_of, with_moved}
use Rattle.guest_bulk.specs.Incoming.{chunk_moved, chunk_poured, in_beside, in_broken, in_by, in_last_by, in_ran, in_staged, moved_if, refilled, refilled_moved, settled_told, told_staged, zeros_moved, zeros_poured}
use Rattle.guest_bulk.specs.Outgoing.{data_dropped, ends_cbw, handed_if, out_beside, out_broken, out_by, out_drawn, out_filled, out_gathered, out_handed, out_last, out_moved, out_ran, out_staged, out_went, rest_dropped}
use Rattle.guest_bulk.specs.Steps.{bulk_after, bulk_through, in_acted, in_at, in_bytes, in_normal, in_stepped, in_took, out_acted, out_at, out_bytes, out_normal, out_stepped, out_took}
use Rattle.guest_bulk.specs.Verdicts.{answered, broken_off, csw_ended, csw_full, csw_lost, csw_moved, csw_on, csw_poured, csw_ran, csw_short, csw_some, csw_babbled, csw_went, data_closed, has_chunk, kept_told, settled, settled_by}
use Rattle.guest_memory.specs.declared.rings.context.Home.{Home}
use Rattle.guest_memory.specs.declared.rings.context.Front.{Front}
use Rattle.guest_memory.specs.declared.rings.context.Found.{Found}
use Rattle.guest_memory.specs.declared.rings.context.Found.TheVariants.{WrongKind, NotYet, Item}
use Rattle.guest_memory.specs.declared.rings.trb.Flags.{Flags}
use Rattle.guest_memory.specs.declared.rings.trb.PipeTrb.{PipeTrb}
use Rattle.guest_memory.specs.declared.rings.trb.PipeTrb.TheVariants.{Normal, Link, NoOp, EventData, Foreign}
use Rattle.guest_memory.specs.rings.Ends.{looked}
use Rattle.guest_out.specs.Immediate.{bytes_out}
use Rattle.guest_pipes.specs.declared.acted.Acted.{Acted}
use Rattle.guest_pipes.specs.declared.progress.Ending.{Ending}
use Rattle.guest_pipes.specs.declared.progress.Ending.TheVariants.{Runs, Told, Owed}
use Rattle.guest_pipes.specs.Gate.{gate}
use Rattle.guest_tags.specs.declared.buffer.Buffer.{Buffer}
use Rattle.guest_tags.specs.declared.device.Phase.{Phase}
use Rattle.guest_tags.specs.declared.device.Phase.TheVariants.{Absent, Gives, Takes, Ended}
use Rattle.guest_tags.specs.Devices.{Kind}
use Rattle.xhci_machine.proofs.Device.{either}

-- what a call of Bulk-Out on tag 1 makes of what holds before it: a CBW that is gathered before, or with the bytes of the TRB in front, is
-- received as a Command, and bytes are taken
pub record OutCalls {D : Type 0} (kind : Kind D) (w : BulkWorld D) (P Q : D → Type 0) : Type 0 where
  pub stays : (device : D) → P device → Q device
  pub took : (device : D) (bytes : List ℕ) → P device → Q (kind.took device 1 bytes)
  pub received : (device : D) (cbw : Cbw) → cbw_in w.bulk.taken ≡ Ok cbw → P device → Q (kind.received device (unit_of cbw)).0
  pub drawn : (device : D) (buffer : Buffer) (bytes : List ℕ) (cbw : Cbw) → bytes_out w.ring.memory buffer 0 (cbw_count kind w buffer) ≡ Some bytes
      → cbw_in (w.bulk.taken ++ bytes) ≡ Ok cbw → P device → Q (kind.received device (unit_of cbw)).0

-- and one of Bulk-In: a chunk is given, and the answer is sent
pub record InCalls {D : Type 0} (kind : Kind D) (P Q : D → Type 0) : Type 0 where
  pub stays : (device : D) → P device → Q device
  pub gave : (device : D) → P device → Q (kind.gave device 1)
  pub sent : (device : D) → P device → Q (kind.sent device 1)

abbrev Behind : {D : Type 0} → (D → Type 0) → BulkWorld D × Stepped → Type 0
Behind Q done = Q done.0.device

-- BULK-OUT
module _ {D : Type 0} (kind : Kind D) (w : BulkWorld D) (P Q : D → Type 0) (calls : OutCalls kind w P Q) where
  begun_kept : (kept : Option KeptSense) (now : BulkWorld D) (cbw : Cbw) → Q now.device → Q (kind.received now.device (unit_of cbw)).0
      → Q (begun_by kind kept now cbw).device
  unfolding task_begun kept_begun
  begun_kept None now cbw stays is = is
  begun_kept (Some kept) now cbw stays is = by_for (is_for kept cbw)
    where
      by_for : (is : Bool) → Q (begun_if kind is now kept cbw).device
      by_for true = stays
      by_for false = is

  taken_kept : (read : Result Cbw CbwFault) (now : BulkWorld D) → Q now.device
      → ((cbw : Cbw) → read ≡ Ok cbw → Q (kind.received now.device (unit_of cbw)).0) → Q (cbw_taken kind read now).0.device
  taken_kept (Err fault) now stays is = stays
  taken_kept (Ok cbw) now stays is = begun_kept now.bulk.kept (record now { bulk = record now.bulk { kept = None } }) cbw stays (is cbw refl)

  ended_kept : (b : Bool) (now : BulkWorld D) → now.device ≡ w.device → now.bulk.taken ≡ w.bulk.taken → P w.device
      → Q (received_if kind b now).0.device
  ended_kept true now same taken p =
      taken_kept (cbw_in now.bulk.taken) now (rw same (calls.stays w.device p))
      (λ cbw is. rw same (calls.received w.device cbw (rw (sym taken) is) p))
  ended_kept false now same taken p = rw same (calls.stays w.device p)

  gathered_kept : (b : Bool) (front : Front) (buffer : Buffer) (bytes : List ℕ)
      → bytes_out w.ring.memory buffer 0 (cbw_count kind w buffer) ≡ Some bytes → P w.device
      → Q (received_if kind b (cbw_gathered kind w bytes front buffer)).0.device
  unfolding cbw_gathered
  gathered_kept true front buffer bytes is p =
      taken_kept (cbw_in (w.bulk.taken ++ bytes)) (cbw_gathered kind w bytes front buffer) (calls.stays w.device p)
      (λ cbw reads. calls.drawn w.device buffer bytes cbw is reads p)
  gathered_kept false front buffer bytes is p = calls.stays w.device p

  drawn_kept : (drawn : Option (List ℕ)) (front : Front) (buffer : Buffer) → bytes_out w.ring.memory buffer 0 (cbw_count kind w buffer) ≡ drawn
      → P w.device → Q (cbw_drawn kind drawn w front buffer).0.device
  unfolding cbw_lost
  drawn_kept None front buffer is p = calls.stays w.device p
  drawn_kept (Some bytes) front buffer is p = gathered_kept _ front buffer bytes is p

  ran_kept : (front : Front) (buffer : Buffer) → P w.device → Q (cbw_ran kind w front buffer).0.device
  unfolding cbw_ran
  ran_kept front buffer p = drawn_kept _ front buffer refl p

  rest_kept : (now : BulkWorld D) (front : Front) (buffer : Buffer) → Q now.device → Q (rest_dropped kind now front buffer).device
  unfolding rest_dropped
  rest_kept now front buffer q = q

  dropped_kept : (command : BulkCommand) (front : Front) (buffer : Buffer) → Q w.device → Q (data_dropped kind w command front buffer).device
  unfolding data_dropped rest_dropped
  dropped_kept command front buffer q = q

  handed_kept : (b : Bool) (now : BulkWorld D) (command : BulkCommand) → P now.device → Q (handed_if kind b now command).device
  unfolding out_handed
  handed_kept true now command p = calls.took now.device now.bulk.taken p
  handed_kept false now command p = calls.stays now.device p

  moved_by : (drawn : Option (List ℕ)) (command : BulkCommand) (count : ℕ) (front : Front) (buffer : Buffer) → P w.device
      → Q (out_drawn kind drawn w command count front buffer).device
  unfolding out_gathered
  moved_by None command count front buffer p = calls.stays w.device p
  moved_by (Some bytes) command count front buffer p = handed_kept _ (out_gathered kind w command bytes) _ p

  moved_kept : (command : BulkCommand) (count : ℕ) (front : Front) (buffer : Buffer) → P w.device
      → Q (out_moved kind w command count front buffer).device
  unfolding out_moved
  moved_kept command count front buffer p = moved_by _ command count front buffer p

  broken_kept : (command : BulkCommand) (count : ℕ) → P w.device → Behind Q (out_broken kind w command count)
  unfolding broken_off
  broken_kept command count p = calls.stays w.device p

  by_kept : (phase : Phase) (command : BulkCommand) (front : Front) (buffer : Buffer) → P w.device
      → Behind Q (out_by kind phase w command front buffer)
  by_kept Absent command front buffer p = calls.stays w.device p
  by_kept (Gives count) command front buffer p = broken_kept command count p
  by_kept (Takes count) command front buffer p = moved_kept command count front buffer p
  by_kept (Ended end) command front buffer p = dropped_kept command front buffer (calls.stays w.device p)

  data_kept : (command : BulkCommand) (front : Front) (buffer : Buffer) → P w.device → Behind Q (out_ran kind w command front buffer)
  unfolding out_ran
  data_kept command front buffer p =
      either (Behind Q) (nat_le buffer.length w.ring.consumer.progress.moved) _ _ (calls.stays w.device p)
      (either (Behind Q) (has_chunk w.bulk) _ _ (broken_kept command 0 p)
      (either (Behind Q) command.is_kept _ _ (dropped_kept command front buffer (calls.stays w.device p))
      (by_kept (kind.phase w.device 1) command front buffer p)))

  beside_kept : (front : Front) (buffer : Buffer) → P w.device → Behind Q (out_beside kind w front buffer)
  beside_kept front buffer p =
      either (Behind Q) w.ring.consumer.progress.fed _ _ (rest_kept w front buffer (calls.stays w.device p)) (calls.stays w.device p)

  staged_kept : (stage : BulkStage) (front : Front) (buffer : Buffer) → P w.device → Behind Q (out_staged kind stage w front buffer)
  staged_kept Awaits front buffer p =
      either (Behind Q) w.ring.consumer.progress.fed _ _ (rest_kept w front buffer (calls.stays w.device p)) (ran_kept front buffer p)
  staged_kept Faulty front buffer p = calls.stays w.device p
  staged_kept (Moves command) front buffer p =
      either (Behind Q) (takes_bytes command) _ _ (data_kept command front buffer p) (beside_kept front buffer p)
  staged_kept (Tells csw sent) front buffer p = beside_kept front buffer p

  normal_kept : (ending : Ending) (front : Front) (buffer : Buffer) → P w.device → Behind Q (out_normal kind ending w front buffer)
  normal_kept Runs front buffer p = staged_kept w.bulk.stage front buffer p
  normal_kept (Told code) front buffer p = calls.stays w.device p
  normal_kept Owed front buffer p = calls.stays w.device p

  bytes_kept : (fault : Option ℕ) (front : Front) (buffer : Buffer) → P w.device → Behind Q (out_bytes kind fault w front buffer)
  bytes_kept None front buffer p = normal_kept w.ring.consumer.progress.ending front buffer p
  bytes_kept (Some code) front buffer p = calls.stays w.device p

  out_acted_kept : (fault : Option ℕ) (found : Found) (front : Front) → P w.device → Behind Q (out_acted kind fault w front found)
  out_acted_kept fault WrongKind front p = calls.stays w.device p
  out_acted_kept fault NotYet front p = calls.stays w.device p
  out_acted_kept fault (Item (Normal pointer length flags)) front p =
      bytes_kept fault front (record { pointer = pointer; length = length; flags = flags }) p
  out_acted_kept fault (Item (Link pointer toggle flags)) front p = calls.stays w.device p
  out_acted_kept fault (Item (NoOp flags)) front p = ended_kept (ends_cbw kind w flags) _ refl refl p
  out_acted_kept fault (Item (EventData parameter flags)) front p = ended_kept (ends_cbw kind w flags) _ refl refl p
  out_acted_kept fault (Item Foreign) front p = calls.stays w.device p

  pub bulk_out_kept : (fault : Option ℕ) (home : Home) → P w.device → Q (bulk_after w (out_stepped kind fault w home)).0.device
  bulk_out_kept fault home p = by_gate (gate w.ring.memory w.ring.events w.ring.consumer) (looked w.ring.memory home)
    where
      by_gate : (opens : Option (Option Acted)) (found : Option Front)
          → Q (bulk_after w (bulk_through w opens (option_map (out_at kind fault w) found))).0.device
      by_gate None found = calls.stays w.device p
      by_gate (Some (Some acted)) found = calls.stays w.device p
      by_gate (Some None) None = calls.stays w.device p
      by_gate (Some None) (Some front) = out_acted_kept fault front.found front p

-- THE CSW is no call
module _ {D : Type 0} (kind : Kind D) (R : D → Type 0) where
  abbrev Stands : BulkWorld D → Type 0
  Stands w = R w.device

  on_kept : (full out : Bool) (w : BulkWorld D) (csw : Csw) (front : Front) (flags : Flags) → R w.device → R (csw_on kind full out w csw front flags).device
  unfolding csw_full csw_babbled
  on_kept true out w csw front flags p = p
  on_kept false true w csw front flags p = p
  on_kept false false w csw front flags p = p

  csw_moved_kept : (w : BulkWorld D) (csw : Csw) (sent : ℕ) (front : Front) (buffer : Buffer) → R w.device
      → R (csw_moved kind w csw sent front buffer).device
  unfolding csw_short
  csw_moved_kept w csw sent front buffer p = either Stands _ _ _ p (on_kept _ _ w csw front buffer.flags p)

  some_kept : (w : BulkWorld D) (csw : Csw) (sent count : ℕ) (front : Front) (buffer : Buffer) → R w.device
      → R (csw_some kind w csw sent count front buffer).device
  unfolding csw_some csw_lost csw_poured
  some_kept w csw sent count front buffer p =
      either Stands _ _ _ (csw_moved_kept (csw_poured kind w csw sent (buffer.pointer + w.ring.consumer.progress.moved) count) csw (sent + count) front buffer p) p

  went_kept : (w : BulkWorld D) (csw : Csw) (sent : ℕ) (front : Front) (buffer : Buffer) → R w.device
      → R (csw_went kind w csw sent front buffer).device
  unfolding csw_went
  went_kept w csw sent front buffer p =
      either Stands _ _ _ (csw_moved_kept w csw sent front buffer p) (some_kept w csw sent _ front buffer p)

  closed_kept : (w : BulkWorld D) (front : Front) (buffer : Buffer) → R w.device → R (data_closed kind w front buffer).device
  unfolding data_closed
  closed_kept w front buffer p = either Stands _ _ _ p p

  csw_ran_kept : (w : BulkWorld D) (csw : Csw) (sent : ℕ) (front : Front) (buffer : Buffer) → R w.device
      → R (csw_ran kind w csw sent front buffer).device
  unfolding csw_ran
  csw_ran_kept w csw sent front buffer p = either Stands _ _ _ (closed_kept w front buffer p) (went_kept w csw sent front buffer p)

  csw_ended_kept : (out : Bool) (w : BulkWorld D) (csw : Csw) (front : Front) (trb : PipeTrb) (flags : Flags) → R w.device
      → R (csw_ended kind out w csw front trb flags).device
  unfolding csw_babbled
  csw_ended_kept true w csw front trb flags p = p
  csw_ended_kept false w csw front trb flags p = p

  chunk_kept : (w : BulkWorld D) (command : BulkCommand) (front : Front) (buffer : Buffer) → R w.device
      → R (chunk_moved kind w command front buffer).device
  unfolding chunk_moved chunk_poured
  chunk_kept w command front buffer p = either Stands _ _ _ p p

  zeros_kept : (w : BulkWorld D) (command : BulkCommand) (front : Front) (buffer : Buffer) → R w.device
      → R (zeros_moved kind w command front buffer).device
  unfolding zeros_moved zeros_poured
  zeros_kept w command front buffer p = either Stands _ _ _ p p

  told_kept : (stage : BulkStage) (after : BulkWorld D × Bool) (front : Front) (buffer : Buffer) → R after.0.device
      → R (told_staged kind stage after front buffer).0.device
  told_kept Awaits after front buffer p = p
  told_kept Faulty after front buffer p = p
  told_kept (Moves command) after front buffer p = p
  told_kept (Tells csw sent) after front buffer p = csw_ran_kept after.0 csw sent front buffer p

-- BULK-IN
module _ {D : Type 0} (kind : Kind D) (P Q : D → Type 0) (calls : InCalls kind P Q) where
  moved_if_kept : (b : Bool) (w : BulkWorld D) (command : BulkCommand) (front : Front) (buffer : Buffer) → Q w.device
      → Q (moved_if kind b w command front buffer).device
  moved_if_kept true w command front buffer q = chunk_kept kind Q w command front buffer q
  moved_if_kept false w command front buffer q = q

  refilled_kept : (w : BulkWorld D) (command : BulkCommand) → P w.device → Q (refilled kind w command).device
  unfolding refilled
  refilled_kept w command p = calls.gave w.device p

  in_broken_kept : (w : BulkWorld D) (command : BulkCommand) (count : ℕ) → P w.device → Behind Q (in_broken kind w command count)
  unfolding broken_off
  in_broken_kept w command count p = calls.stays w.device p

  in_by_kept : (phase : Phase) (w : BulkWorld D) (command : BulkCommand) (front : Front) (buffer : Buffer) → P w.device
      → Behind Q (in_by kind phase w command front buffer)
  in_by_kept Absent w command front buffer p = calls.stays w.device p
  in_by_kept (Gives count) w command front buffer p =
      moved_if_kept (has_chunk (refilled kind w command).bulk) (refilled kind w command) _ front buffer (refilled_kept w command p)
  in_by_kept (Takes count) w command front buffer p = in_broken_kept w command count p
  in_by_kept (Ended end) w command front buffer p = zeros_kept kind Q w command front buffer (calls.stays w.device p)

  in_ran_kept : (w : BulkWorld D) (command : BulkCommand) (front : Front) (buffer : Buffer) → P w.device
      → Behind Q (in_ran kind w command front buffer)
  unfolding in_ran
  in_ran_kept w command front buffer p =
      either (Behind Q) (nat_le buffer.length w.ring.consumer.progress.moved) _ _ (calls.stays w.device p)
      (either (Behind Q) (has_chunk w.bulk) _ _ (chunk_kept kind Q w command front buffer (calls.stays w.device p))
      (either (Behind Q) command.is_kept _ _ (zeros_kept kind Q w command front buffer (calls.stays w.device p))
      (in_by_kept (kind.phase w.device 1) w command front buffer p)))

  settled_by_kept : (phase : Phase) (w : BulkWorld D) (command : BulkCommand) → P w.device → Q (settled_by kind phase w command).0.device
  unfolding broken_off answered
  settled_by_kept Absent w command p = calls.stays w.device p
  settled_by_kept (Gives count) w command p = calls.stays w.device p
  settled_by_kept (Takes count) w command p = calls.stays w.device p
  settled_by_kept (Ended end) w command p = calls.sent w.device p

  settled_kept : (w : BulkWorld D) (command : BulkCommand) → P w.device → Q (settled kind w command).0.device
  unfolding settled broken_off kept_told
  settled_kept w command p =
      either (λ (x : BulkWorld D × Bool). Q x.0.device) (has_chunk w.bulk) _ _ (calls.stays w.device p)
      (either (λ (x : BulkWorld D × Bool). Q x.0.device) command.is_kept _ _ (calls.stays w.device p)
      (settled_by_kept (kind.phase w.device 1) w command p))

  in_beside_kept : (w : BulkWorld D) (command : BulkCommand) (front : Front) (buffer : Buffer) → P w.device
      → Behind Q (in_beside kind w command front buffer)
  in_beside_kept w command front buffer p =
      let after = settled kind w command in
      either (Behind Q) (takes_bytes command) _ _ (calls.stays w.device p)
      (either (Behind Q) w.ring.consumer.progress.fed _ _ (closed_kept kind Q w front buffer (calls.stays w.device p))
      (told_kept kind Q after.0.bulk.stage after front buffer (settled_kept w command p)))

  in_staged_kept : (stage : BulkStage) (w : BulkWorld D) (front : Front) (buffer : Buffer) → P w.device
      → Behind Q (in_staged kind stage w front buffer)
  in_staged_kept Awaits w front buffer p = calls.stays w.device p
  in_staged_kept Faulty w front buffer p = calls.stays w.device p
  in_staged_kept (Moves command) w front buffer p =
      either (Behind Q) (gives_bytes command) _ _ (in_ran_kept w command front buffer p) (in_beside_kept w command front buffer p)
  in_staged_kept (Tells csw sent) w front buffer p = csw_ran_kept kind Q w csw sent front buffer (calls.stays w.device p)

  in_normal_kept : (ending : Ending) (w : BulkWorld D) (front : Front) (buffer : Buffer) → P w.device
      → Behind Q (in_normal kind ending w front buffer)
  in_normal_kept Runs w front buffer p = in_staged_kept w.bulk.stage w front buffer p
  in_normal_kept (Told code) w front buffer p = calls.stays w.device p
  in_normal_kept Owed w front buffer p = calls.stays w.device p

  last_kept : (stage : BulkStage) (w : BulkWorld D) (front : Front) (trb : PipeTrb) (flags : Flags) → Q w.device
      → Q (in_last_by kind stage w front trb flags).device
  last_kept Awaits w front trb flags q = q
  last_kept Faulty w front trb flags q = q
  last_kept (Moves command) w front trb flags q = q
  last_kept (Tells csw sent) w front trb flags q =
      either (λ (x : BulkWorld D). Q x.device) _ _ _ (csw_ended_kept kind Q _ w csw front trb flags q) q

  in_bytes_kept : (fault : Option ℕ) (w : BulkWorld D) (front : Front) (buffer : Buffer) → P w.device → Behind Q (in_bytes kind fault w front buffer)
  in_bytes_kept None w front buffer p = in_normal_kept w.ring.consumer.progress.ending w front buffer p
  in_bytes_kept (Some code) w front buffer p = calls.stays w.device p

  in_acted_kept : (fault : Option ℕ) (found : Found) (w : BulkWorld D) (front : Front) → P w.device → Behind Q (in_acted kind fault w front found)
  in_acted_kept fault WrongKind w front p = calls.stays w.device p
  in_acted_kept fault NotYet w front p = calls.stays w.device p
  in_acted_kept fault (Item (Normal pointer length flags)) w front p =
      in_bytes_kept fault w front (record { pointer = pointer; length = length; flags = flags }) p
  in_acted_kept fault (Item (Link pointer toggle flags)) w front p = calls.stays w.device p
  in_acted_kept fault (Item (NoOp flags)) w front p = last_kept w.bulk.stage w front (NoOp flags) flags (calls.stays w.device p)
  in_acted_kept fault (Item (EventData parameter flags)) w front p =
      last_kept w.bulk.stage w front (EventData parameter flags) flags (calls.stays w.device p)
  in_acted_kept fault (Item Foreign) w front p = calls.stays w.device p

  pub bulk_in_kept : (fault : Option ℕ) (w : BulkWorld D) (home : Home) → P w.device → Q (bulk_after w (in_stepped kind fault w home)).0.device
  bulk_in_kept fault w home p = by_gate (gate w.ring.memory w.ring.events w.ring.consumer) (looked w.ring.memory home)
    where
      by_gate : (opens : Option (Option Acted)) (found : Option Front)
          → Q (bulk_after w (bulk_through w opens (option_map (in_at kind fault w) found))).0.device
      by_gate None found = calls.stays w.device p
      by_gate (Some (Some acted)) found = calls.stays w.device p
      by_gate (Some None) None = calls.stays w.device p
      by_gate (Some None) (Some front) = in_acted_kept fault front.found w front p

-- TO BREAK OFF is no call
abbrev pub OfBreak : {D : Type 0} → (D → Type 0) → Option (BulkWorld D × Stepped) → Type 0
OfBreak R None = Unit {0}
OfBreak R (Some done) = R done.0.device

module _ {D : Type 0} (kind : Kind D) (R : D → Type 0) where
  in_break_of : (phase : Phase) (w : BulkWorld D) (command : BulkCommand) → R w.device → OfBreak R (in_break_by kind phase w command)
  unfolding broken_off
  in_break_of Absent w command p = tt
  in_break_of (Gives count) w command p = tt
  in_break_of (Takes count) w command p = p
  in_break_of (Ended end) w command p = tt

  pub in_break_kept : (stage : BulkStage) (w : BulkWorld D) → R w.device → OfBreak R (in_break_at kind stage w)
  in_break_kept Awaits w p = tt
  in_break_kept Faulty w p = tt
  in_break_kept (Moves command) w p =
      either (OfBreak R) (gives_bytes command && (not (has_chunk w.bulk) && not command.is_kept)) (in_break_by kind (kind.phase w.device 1) w command) None
      (in_break_of (kind.phase w.device 1) w command p) tt
  in_break_kept (Tells csw sent) w p = tt

  out_break_of : (phase : Phase) (w : BulkWorld D) (command : BulkCommand) → R w.device → OfBreak R (out_break_by kind phase w command)
  unfolding broken_off
  out_break_of Absent w command p = tt
  out_break_of (Gives count) w command p = p
  out_break_of (Takes count) w command p = tt
  out_break_of (Ended end) w command p = tt

  out_chunk_kept : (w : BulkWorld D) (command : BulkCommand) → R w.device → OfBreak R (Some (out_broken kind w command 0))
  unfolding broken_off
  out_chunk_kept w command p = p

  pub out_break_kept : (stage : BulkStage) (w : BulkWorld D) → R w.device → OfBreak R (out_break_at kind stage w)
  out_break_kept Awaits w p = tt
  out_break_kept Faulty w p = tt
  out_break_kept (Moves command) w p =
      let phase : Phase = kind.phase w.device 1 in
      let last : Option (BulkWorld D × Stepped) = cond command.is_kept None (out_break_by kind phase w command) in
      let chunk : Option (BulkWorld D × Stepped) = cond (has_chunk w.bulk) (Some (out_broken kind w command 0)) last in
      either (OfBreak R) (not (takes_bytes command)) None chunk tt
      (either (OfBreak R) (has_chunk w.bulk) (Some (out_broken kind w command 0)) last (out_chunk_kept w command p)
      (either (OfBreak R) command.is_kept None (out_break_by kind phase w command) tt (out_break_of phase w command p)))
  out_break_kept (Tells csw sent) w p = tt
