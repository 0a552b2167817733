-- What a step of the pipes makes of the device: at most one call on it. `P` holds of the device before, `Q` behind a call and where none was made.
use Rattle.std.proofs.Common.{◌≡◌, refl, ℕ, ◌+◌, ◌==◌, ◌++◌, Bool, true, false, cond, List, length, Option, Some, None, not}
use Rattle.std.specs.Prelude.{nat_le, option_map}
use Rattle.guest_memory.specs.declared.rings.context.Home.{Home}
use Rattle.guest_memory.specs.declared.rings.context.Home.TheVariants.{Endpoint}
use Rattle.guest_memory.specs.declared.rings.context.Front.{Front}
use Rattle.guest_memory.specs.declared.rings.context.Found.{Found}
use Rattle.guest_memory.specs.declared.rings.context.Found.TheVariants.{WrongKind, NotYet, Item}
use Rattle.guest_memory.specs.declared.rings.trb.Flags.{Flags}
use Rattle.guest_memory.specs.declared.rings.trb.PipeTrb.{PipeTrb}
use Rattle.guest_memory.specs.declared.rings.trb.PipeTrb.TheVariants.{Normal, Link, NoOp, EventData, Foreign}
use Rattle.guest_memory.specs.rings.Ends.{looked}
use Rattle.guest_pipes.specs.declared.acted.Acted.{Acted}
use Rattle.guest_pipes.specs.declared.acted.Acted.TheVariants.{Off, Idle, Full, Emptied, Waits, Worked}
use Rattle.guest_pipes.specs.declared.progress.Ending.{Ending}
use Rattle.guest_pipes.specs.declared.progress.Ending.TheVariants.{Runs, Told, Owed}
use Rattle.guest_pipes.specs.Gate.{after, gate, room_gate, through}
use Rattle.guest_pipes.specs.Pipe.{home_of}
use Rattle.guest_pipes.specs.Step.{filled}
use Rattle.guest_tags.specs.declared.buffer.Buffer.{Buffer}
use Rattle.guest_tags.specs.declared.device.Phase.{Phase}
use Rattle.guest_tags.specs.declared.device.Phase.TheVariants.{Absent, Gives, Takes, Ended}
use Rattle.guest_tags.specs.declared.device.Received.{Received}
use Rattle.guest_tags.specs.Devices.{Kind}
use Rattle.guest_tags.specs.Tags.{TagWorld}
use Rattle.guest_tags.specs.DataIn.{acted, acted_at, closed, closed_if, gave_by, given_to, has_chunk, lost, moved_if, moved_in, normal, ran, refilled, stepped_in, with_ring}
use Rattle.guest_tags.specs.Status.{answer_taken, has_unit, overlap_taken, sent_to, status_acted, status_at, status_ending, status_normal, status_with, stepped_status, unit_babbled, unit_full, unit_lost, unit_moved, unit_on, unit_over, unit_ran, unit_ready, unit_short, unit_some, unit_taken, unit_went}
use Rattle.guest_out.specs.Worlds.{OutWorld}
use Rattle.guest_out.specs.DataOut.{out_acted, out_at, out_by, out_drawn, out_dropped, out_dropped_if, out_filled_if, out_gathered, out_handed, out_moved, out_normal, out_ran, out_took, out_went, stepped_out}
use Rattle.guest_out.specs.Command.{command_acted, command_after, command_at, command_count, command_drawn, command_gathered, command_lost, command_normal, command_other, command_ran, command_through, received_if, stepped_command, unit_received}
use Rattle.guest_out.specs.Immediate.{bytes_out}
use Rattle.guest_transfers.specs.State.{TransfersWorld}
use Rattle.guest_transfers.specs.Orders.{chunk_dropped, data_by, data_stepped, drops_now, or_out}
use Rattle.guest_transfers.specs.State.{slot_of}
use Rattle.guest_transfers.specs.Steps.{command_kept, command_stepped, command_world, due_by, in_stepped, in_world, out_world, status_stepped, status_world}
use Rattle.xhci_machine.specs.Bus.{has_no_tags}
use Rattle.xhci_machine.specs.Contexts.{in_context, is_asleep, lacks_context, of_endpoint, of_tag}
use Rattle.xhci_machine.specs.Turns.{World}

pub either : {A : Type 0} (Q : A → Type 0) (b : Bool) (x y : A) → Q x → Q y → Q (cond b x y)
either Q true x y first second = first
either Q false x y first second = second

-- what holds where an endpoint has no step, where its context isn't there, and behind its step
pub of_each : (Q : World × Option Acted → Type 0) (w : World) (due : Bool) (step : World × Option Acted) → Q (w, Some Idle) → Q (w, None) → Q step
    → Q (of_endpoint w due step)
of_each Q w due step idle lacks works =
    either Q (is_asleep w.machine) (w, Some Idle) (in_context w due step) idle (either Q (lacks_context w due) (w, None) step lacks works)

-- the same of a tag, which has no step either where nothing serves tags
pub of_tags : (Q : World × Option Acted → Type 0) (w : World) (due : Bool) (step : World × Option Acted) → Q (w, Some Idle) → Q (w, None) → Q step
    → Q (of_tag w (of_endpoint w due step))
of_tags Q w due step idle lacks works =
    either Q (has_no_tags w.machine) (w, Some Idle) (of_endpoint w due step) idle (of_each Q w due step idle lacks works)

-- what a call on this tag makes of what holds before it: of its data, and of its status
pub record Moves {D : Type 0} (kind : Kind D) (number : ℕ) (P Q : D → Type 0) : Type 0 where
  pub stays : (device : D) → P device → Q device
  pub gave : (device : D) → P device → Q (kind.gave device number)
  pub took : (device : D) (bytes : List ℕ) → P device → Q (kind.took device number bytes)

pub record Sends {D : Type 0} (kind : Kind D) (number : ℕ) (P Q : D → Type 0) : Type 0 where
  pub stays : (device : D) → P device → Q device
  pub sent : (device : D) → P device → Q (kind.sent device number)

-- a step that did nothing made no call
abbrev pub Made : {D : Type 0} (P Q : D → Type 0) → Acted → D → Type 0
Made P Q Off device = P device
Made P Q Idle device = P device
Made P Q Full device = P device
Made P Q Emptied device = P device
Made P Q Waits device = P device
Made P Q Worked device = Q device

abbrev pub MadeBy : {D : Type 0} (P Q : D → Type 0) → Option Acted → D → Type 0
MadeBy P Q None device = P device
MadeBy P Q (Some acted) device = Made P Q acted device

-- WHAT IS NO CALL keeps all that holds of a device
module _ {D : Type 0} (kind : Kind D) (R : D → Type 0) where
  pub in_moved : (w : TagWorld D) (front : Front) (buffer : Buffer) → R w.device → R (moved_in kind w front buffer).device
  unfolding moved_in given_to lost
  in_moved w front buffer p = either (λ (x : TagWorld D). R x.device) _ _ _ p p

  pub in_moved_if : (b : Bool) (w : TagWorld D) (front : Front) (buffer : Buffer) → R w.device → R (moved_if kind b w front buffer).device
  in_moved_if true w front buffer p = in_moved w front buffer p
  in_moved_if false w front buffer p = p

  pub unit_on_kept : (full out : Bool) (w : TagWorld D) (front : Front) (flags : Flags) → R w.device → R (unit_on kind full out w front flags).device
  unfolding unit_full unit_babbled
  unit_on_kept true out w front flags p = p
  unit_on_kept false true w front flags p = p
  unit_on_kept false false w front flags p = p

  pub unit_moved_kept : (w : TagWorld D) (front : Front) (buffer : Buffer) → R w.device → R (unit_moved kind w front buffer).device
  unfolding unit_short
  unit_moved_kept w front buffer p = either (λ (x : TagWorld D). R x.device) _ _ _ p (unit_on_kept _ _ w front buffer.flags p)

  pub sent_kept : (w : TagWorld D) (to count : ℕ) → R w.device → R (sent_to kind w to count).device
  unfolding sent_to
  sent_kept w to count p = p

  pub unit_some_kept : (w : TagWorld D) (count : ℕ) (front : Front) (buffer : Buffer) → R w.device → R (unit_some kind w count front buffer).device
  unfolding unit_some unit_lost
  unit_some_kept w count front buffer p =
      let to = buffer.pointer + w.ring.consumer.progress.moved in
      either (λ (x : TagWorld D). R x.device) _ _ _ (unit_moved_kept (sent_to kind w to count) front buffer (sent_kept w to count p)) p

  pub unit_went_kept : (w : TagWorld D) (front : Front) (buffer : Buffer) → R w.device → R (unit_went kind w front buffer).device
  unfolding unit_went
  unit_went_kept w front buffer p =
      either (λ (x : TagWorld D). R x.device) _ _ _ (unit_moved_kept w front buffer p) (unit_some_kept w _ front buffer p)

  pub unit_ran_kept : (w : TagWorld D) (front : Front) (buffer : Buffer) → R w.device → R (unit_ran kind w front buffer).0.device
  unfolding unit_ran
  unit_ran_kept w front buffer p =
      let full : TagWorld D × Acted = (status_with kind w (filled w.ring front buffer.flags) w.tag, Worked) in
      let is_full : Bool = nat_le buffer.length w.ring.consumer.progress.moved in
      either (λ (x : TagWorld D × Acted). R x.0.device) (has_unit w.tag) (unit_went kind w front buffer, Worked) (cond is_full full (w, Waits))
      (unit_went_kept w front buffer p) (either (λ (x : TagWorld D × Acted). R x.0.device) is_full full (w, Waits) p p)

  pub unit_over_kept : (out : Bool) (w : TagWorld D) (front : Front) (trb : PipeTrb) (flags : Flags) → R w.device
      → R (unit_over kind out w front trb flags).device
  unfolding unit_babbled
  unit_over_kept true w front trb flags p = p
  unit_over_kept false w front trb flags p = p

  pub status_ending_kept : (w : TagWorld D) (front : Front) (trb : PipeTrb) (flags : Flags) → R w.device
      → R (status_ending kind w front trb flags).device
  status_ending_kept w front trb flags p = either (λ (x : TagWorld D). R x.device) _ _ _ (unit_over_kept _ w front trb flags p) p

  pub out_filled_kept : (b : Bool) (w : OutWorld D) (front : Front) (buffer : Buffer) → R w.device → R (out_filled_if kind b w front buffer).device
  out_filled_kept true w front buffer p = p
  out_filled_kept false w front buffer p = p

  pub out_gathered_kept : (w : OutWorld D) (bytes : List ℕ) → R w.device → R (out_gathered kind w bytes).device
  unfolding out_gathered
  out_gathered_kept w bytes p = p

  pub out_dropped_kept : (b : Bool) (w : OutWorld D) (front : Front) (buffer : Buffer) → R w.device → R (out_dropped_if kind b w front buffer).0.device
  unfolding out_dropped
  out_dropped_kept true w front buffer p = p
  out_dropped_kept false w front buffer p = p

module _ {D : Type 0} (kind : Kind D) (number : ℕ) (P Q : D → Type 0) (moves : Moves kind number P Q) where
  unmade : (acted : Acted) (device : D) → P device → Made P Q acted device
  unmade Off device p = p
  unmade Idle device p = p
  unmade Full device p = p
  unmade Emptied device p = p
  unmade Waits device p = p
  unmade Worked device p = moves.stays device p

  made : (acted : Acted) (device : D) → Made P Q acted device → Q device
  made Off device p = moves.stays device p
  made Idle device p = moves.stays device p
  made Full device p = moves.stays device p
  made Emptied device p = moves.stays device p
  made Waits device p = moves.stays device p
  made Worked device q = q

  pub made_by : (acted : Option Acted) (device : D) → MadeBy P Q acted device → Q device
  made_by None device p = moves.stays device p
  made_by (Some acted) device p = made acted device p

  -- DATA-IN
  in_refilled : (w : TagWorld D) → P w.device → Q (refilled kind w number).device
  unfolding refilled
  in_refilled w p = moves.gave w.device p

  in_closed : (b : Bool) (w : TagWorld D) (front : Front) (buffer : Buffer) → P w.device
      → Made P Q (closed_if kind b w front buffer).1 (closed_if kind b w front buffer).0.device
  unfolding closed
  in_closed true w front buffer p = moves.stays w.device p
  in_closed false w front buffer p = p

  in_by : (phase : Phase) (w : TagWorld D) (front : Front) (buffer : Buffer) → P w.device
      → Made P Q (gave_by kind phase w number front buffer).1 (gave_by kind phase w number front buffer).0.device
  in_by Absent w front buffer p = p
  in_by (Gives count) w front buffer p =
      in_moved_if kind Q (has_chunk (refilled kind w number).tag) (refilled kind w number) front buffer (in_refilled w p)
  in_by (Takes count) w front buffer p = p
  in_by (Ended end) w front buffer p = in_closed _ w front buffer p

  in_ran : (w : TagWorld D) (front : Front) (buffer : Buffer) → P w.device
      → Made P Q (ran kind w number front buffer).1 (ran kind w number front buffer).0.device
  unfolding ran
  in_ran w front buffer p =
      let full : TagWorld D × Acted = (with_ring kind w (filled w.ring front buffer.flags), Worked) in
      let rest : TagWorld D × Acted = cond (has_chunk w.tag) (moved_in kind w front buffer, Worked) (gave_by kind (kind.phase w.device number) w number front buffer) in
      either (λ (x : TagWorld D × Acted). Made P Q x.1 x.0.device) (nat_le buffer.length w.ring.consumer.progress.moved) full rest (moves.stays w.device p)
      (either (λ (x : TagWorld D × Acted). Made P Q x.1 x.0.device) (has_chunk w.tag) (moved_in kind w front buffer, Worked)
      (gave_by kind (kind.phase w.device number) w number front buffer)
      (in_moved kind Q w front buffer (moves.stays w.device p)) (in_by (kind.phase w.device number) w front buffer p))

  in_normal : (ending : Ending) (w : TagWorld D) (front : Front) (buffer : Buffer) → P w.device
      → Made P Q (normal kind ending w number front buffer).1 (normal kind ending w number front buffer).0.device
  in_normal Runs w front buffer p = in_ran w front buffer p
  in_normal (Told code) w front buffer p = moves.stays w.device p
  in_normal Owed w front buffer p = moves.stays w.device p

  in_acted : (found : Found) (w : TagWorld D) (front : Front) → P w.device
      → Made P Q (acted kind w number front found).1 (acted kind w number front found).0.device
  in_acted WrongKind w front p = moves.stays w.device p
  in_acted NotYet w front p = p
  in_acted (Item (Normal pointer length flags)) w front p =
      in_normal w.ring.consumer.progress.ending w front (record { pointer = pointer; length = length; flags = flags }) p
  in_acted (Item (Link pointer toggle flags)) w front p = moves.stays w.device p
  in_acted (Item (NoOp flags)) w front p = moves.stays w.device p
  in_acted (Item (EventData parameter flags)) w front p = moves.stays w.device p
  in_acted (Item Foreign) w front p = moves.stays w.device p

  in_step : (w : TagWorld D) (home : Home) → P w.device
      → MadeBy P Q (after w (stepped_in kind w number home)).1 (after w (stepped_in kind w number home)).0.device
  in_step w home p = by_gate (gate w.ring.memory w.ring.events w.ring.consumer) (looked w.ring.memory home)
    where
      by_gate : (opens : Option (Option Acted)) (found : Option Front)
          → MadeBy P Q (after w (through w opens (option_map (acted_at kind w number) found))).1
          (after w (through w opens (option_map (acted_at kind w number) found))).0.device
      by_gate None found = p
      by_gate (Some (Some acted)) found = unmade acted w.device p
      by_gate (Some None) None = p
      by_gate (Some None) (Some front) = in_acted front.found w front p

  -- DATA-OUT
  out_handed_kept : (w : OutWorld D) → P w.device → Q (out_handed kind w number).device
  unfolding out_handed
  out_handed_kept w p = moves.took w.device w.taken p

  out_took_kept : (w : OutWorld D) (front : Front) (buffer : Buffer) → P w.device → Q (out_took kind w number front buffer).device
  unfolding out_took
  out_took_kept w front buffer p = out_filled_kept kind Q _ (out_handed kind w number) front buffer (out_handed_kept w p)

  out_went_kept : (w : OutWorld D) (count : ℕ) (front : Front) (buffer : Buffer) → P w.device
      → Q (out_went kind w number count front buffer).device
  out_went_kept w count front buffer p =
      either (λ (x : OutWorld D). Q x.device) _ _ _ (out_took_kept w front buffer p) (moves.stays w.device p)

  out_drawn_kept : (drawn : Option (List ℕ)) (w : OutWorld D) (count : ℕ) (front : Front) (buffer : Buffer) → P w.device
      → Q (out_drawn kind drawn w number count front buffer).device
  out_drawn_kept None w count front buffer p = moves.stays w.device p
  out_drawn_kept (Some bytes) w count front buffer p =
      out_went_kept (out_gathered kind w bytes) count front buffer (out_gathered_kept kind P w bytes p)

  out_moved_kept : (w : OutWorld D) (count : ℕ) (front : Front) (buffer : Buffer) → P w.device
      → Q (out_moved kind w number count front buffer).device
  unfolding out_moved
  out_moved_kept w count front buffer p = out_drawn_kept _ w count front buffer p

  out_by_kept : (phase : Phase) (w : OutWorld D) (front : Front) (buffer : Buffer) → P w.device
      → Q (out_by kind phase w number front buffer).0.device
  out_by_kept Absent w front buffer p = moves.stays w.device p
  out_by_kept (Gives count) w front buffer p = moves.stays w.device p
  out_by_kept (Takes count) w front buffer p = out_moved_kept w count front buffer p
  out_by_kept (Ended end) w front buffer p = out_dropped_kept kind Q _ w front buffer (moves.stays w.device p)

  out_ran_kept : (w : OutWorld D) (front : Front) (buffer : Buffer) → P w.device → Q (out_ran kind w number front buffer).0.device
  unfolding out_ran
  out_ran_kept w front buffer p =
      either (λ (x : OutWorld D × Acted). Q x.0.device) _ _ _ (moves.stays w.device p)
      (out_by_kept (kind.phase w.device number) w front buffer p)

  out_normal_kept : (ending : Ending) (w : OutWorld D) (front : Front) (buffer : Buffer) → P w.device
      → Q (out_normal kind ending w number front buffer).0.device
  out_normal_kept Runs w front buffer p = out_ran_kept w front buffer p
  out_normal_kept (Told code) w front buffer p = moves.stays w.device p
  out_normal_kept Owed w front buffer p = moves.stays w.device p

  out_acted_kept : (found : Found) (w : OutWorld D) (front : Front) → P w.device → Q (out_acted kind w number front found).0.device
  out_acted_kept WrongKind w front p = moves.stays w.device p
  out_acted_kept NotYet w front p = moves.stays w.device p
  out_acted_kept (Item (Normal pointer length flags)) w front p =
      out_normal_kept w.ring.consumer.progress.ending w front (record { pointer = pointer; length = length; flags = flags }) p
  out_acted_kept (Item (Link pointer toggle flags)) w front p = moves.stays w.device p
  out_acted_kept (Item (NoOp flags)) w front p = moves.stays w.device p
  out_acted_kept (Item (EventData parameter flags)) w front p = moves.stays w.device p
  out_acted_kept (Item Foreign) w front p = moves.stays w.device p

  out_step : (w : OutWorld D) (home : Home) → P w.device → Q (after w (stepped_out kind w number home)).0.device
  out_step w home p = by_gate (gate w.ring.memory w.ring.events w.ring.consumer) (looked w.ring.memory home)
    where
      by_gate : (opens : Option (Option Acted)) (found : Option Front)
          → Q (after w (through w opens (option_map (out_at kind w number) found))).0.device
      by_gate None found = moves.stays w.device p
      by_gate (Some (Some acted)) found = moves.stays w.device p
      by_gate (Some None) None = moves.stays w.device p
      by_gate (Some None) (Some front) = out_acted_kept front.found w front p

  -- A STEP
  or_out_kept : (done : TransfersWorld D × Option Acted) → MadeBy P Q done.1 done.0.device → Q (or_out kind done number).0.device
  or_out_kept (w, None) p = moves.stays w.device p
  or_out_kept (w, Some Off) p = out_step (out_world kind w number) (home_of w.transfers.data_out number) p
  or_out_kept (w, Some Idle) p = out_step (out_world kind w number) (home_of w.transfers.data_out number) p
  or_out_kept (w, Some Full) p = out_step (out_world kind w number) (home_of w.transfers.data_out number) p
  or_out_kept (w, Some Emptied) p = moves.stays w.device p
  or_out_kept (w, Some Waits) p = out_step (out_world kind w number) (home_of w.transfers.data_out number) p
  or_out_kept (w, Some Worked) q = q

  chunk_dropped_kept : (w : TransfersWorld D) → P w.device → Q (chunk_dropped kind w number).device
  unfolding chunk_dropped
  chunk_dropped_kept w p = moves.gave w.device p

  dropped_kept : (opens : Option (Option Acted)) (w : TransfersWorld D) → P w.device
      → Q (after w (through w opens (Some (chunk_dropped kind w number, Worked)))).0.device
  dropped_kept None w p = moves.stays w.device p
  dropped_kept (Some (Some acted)) w p = moves.stays w.device p
  dropped_kept (Some None) w p = chunk_dropped_kept w p

  data_by_kept : (b : Bool) (w : TransfersWorld D) → P w.device → Q (data_by kind b w number).0.device
  data_by_kept true w p = dropped_kept (room_gate w.memory w.events) w p
  data_by_kept false w p =
      or_out_kept (in_stepped kind w number) (in_step (in_world kind w number) (home_of w.transfers.data_in number) p)

  pub data_kept : (w : TransfersWorld D) → P w.device → Q (data_stepped kind w number).0.device
  data_kept w p = data_by_kept (drops_now (slot_of w.transfers number).tag.drops (kind.phase w.device number)) w p

-- STATUS
module _ {D : Type 0} (kind : Kind D) (number : ℕ) (P Q : D → Type 0) (sends : Sends kind number P Q) where
  unit_taken_kept : (w : TagWorld D) (due : Bool) → P w.device → Q (unit_taken kind w number due).device
  unfolding overlap_taken answer_taken
  unit_taken_kept w due p =
      either (λ (x : TagWorld D). Q x.device) (not (w.tag.overlaps == 0)) (overlap_taken kind w number) (cond due (answer_taken kind w number) w)
      (sends.stays w.device p)
      (either (λ (x : TagWorld D). Q x.device) due (answer_taken kind w number) w (sends.sent w.device p) (sends.stays w.device p))

  unit_ready_kept : (w : TagWorld D) (due : Bool) → P w.device → Q (unit_ready kind w number due).device
  unit_ready_kept w due p =
      either (λ (x : TagWorld D). Q x.device) (has_unit w.tag) w (unit_taken kind w number due) (sends.stays w.device p) (unit_taken_kept w due p)

  status_normal_kept : (ending : Ending) (w : TagWorld D) (due : Bool) (front : Front) (buffer : Buffer) → P w.device
      → Q (status_normal kind ending w number due front buffer).0.device
  status_normal_kept Runs w due front buffer p = unit_ran_kept kind Q (unit_ready kind w number due) front buffer (unit_ready_kept w due p)
  status_normal_kept (Told code) w due front buffer p = sends.stays w.device p
  status_normal_kept Owed w due front buffer p = sends.stays w.device p

  status_acted_kept : (found : Found) (w : TagWorld D) (due : Bool) (front : Front) → P w.device
      → Q (status_acted kind w number due front found).0.device
  status_acted_kept WrongKind w due front p = sends.stays w.device p
  status_acted_kept NotYet w due front p = sends.stays w.device p
  status_acted_kept (Item (Normal pointer length flags)) w due front p =
      status_normal_kept w.ring.consumer.progress.ending w due front (record { pointer = pointer; length = length; flags = flags }) p
  status_acted_kept (Item (Link pointer toggle flags)) w due front p = sends.stays w.device p
  status_acted_kept (Item (NoOp flags)) w due front p = status_ending_kept kind Q w front (NoOp flags) flags (sends.stays w.device p)
  status_acted_kept (Item (EventData parameter flags)) w due front p =
      status_ending_kept kind Q w front (EventData parameter flags) flags (sends.stays w.device p)
  status_acted_kept (Item Foreign) w due front p = sends.stays w.device p

  status_step : (w : TagWorld D) (due : Bool) (home : Home) → P w.device → Q (after w (stepped_status kind w number due home)).0.device
  status_step w due home p = by_gate (gate w.ring.memory w.ring.events w.ring.consumer) (looked w.ring.memory home)
    where
      by_gate : (opens : Option (Option Acted)) (found : Option Front)
          → Q (after w (through w opens (option_map (status_at kind w number due) found))).0.device
      by_gate None found = sends.stays w.device p
      by_gate (Some (Some acted)) found = sends.stays w.device p
      by_gate (Some None) None = sends.stays w.device p
      by_gate (Some None) (Some front) = status_acted_kept front.found w due front p

  pub status_kept : (w : TransfersWorld D) → P w.device → Q (status_stepped kind w number).0.device
  status_kept w p =
      status_step (status_world kind w number) (due_by w.transfers number (kind.phase w.device number)) (home_of w.transfers.status number) p

-- THE COMMAND PIPE: what it receives are bytes that it has gathered before, or these and those of the TRB in front
pub record Receives {D : Type 0} (kind : Kind D) (w : OutWorld D) (P Q : D → Type 0) : Type 0 where
  pub stays : (device : D) → P device → Q device
  pub received : (device : D) → P device → Q (kind.received device w.taken).0
  pub drawn : (device : D) (buffer : Buffer) (bytes : List ℕ) → bytes_out w.ring.memory buffer 0 (command_count kind w buffer) ≡ Some bytes
      → P device → Q (kind.received device (w.taken ++ bytes)).0

module _ {D : Type 0} (kind : Kind D) (w : OutWorld D) (P Q : D → Type 0) (receives : Receives kind w P Q) where
  ended_kept : (b : Bool) (now : OutWorld D) → now.device ≡ w.device → now.taken ≡ w.taken → P w.device → Q (received_if kind b now).0.device
  unfolding unit_received
  ended_kept true now same taken p = rw (same, taken) (receives.received w.device p)
  ended_kept false now same taken p = rw same (receives.stays w.device p)

  gathered_kept : (b : Bool) (front : Front) (buffer : Buffer) (bytes : List ℕ)
      → bytes_out w.ring.memory buffer 0 (command_count kind w buffer) ≡ Some bytes → P w.device
      → Q (received_if kind b (command_gathered kind w bytes front buffer)).0.device
  unfolding unit_received command_gathered
  gathered_kept true front buffer bytes is p = receives.drawn w.device buffer bytes is p
  gathered_kept false front buffer bytes is p = receives.stays w.device p

  command_drawn_kept : (drawn : Option (List ℕ)) (front : Front) (buffer : Buffer)
      → bytes_out w.ring.memory buffer 0 (command_count kind w buffer) ≡ drawn → P w.device
      → Q (command_drawn kind drawn w front buffer).0.device
  unfolding command_lost
  command_drawn_kept None front buffer is p = receives.stays w.device p
  command_drawn_kept (Some bytes) front buffer is p = gathered_kept _ front buffer bytes is p

  command_ran_kept : (front : Front) (buffer : Buffer) → P w.device → Q (command_ran kind w front buffer).0.device
  unfolding command_ran
  command_ran_kept front buffer p = command_drawn_kept _ front buffer refl p

  command_normal_kept : (ending : Ending) (front : Front) (buffer : Buffer) → P w.device
      → Q (command_normal kind ending w front buffer).0.device
  command_normal_kept Runs front buffer p = command_ran_kept front buffer p
  command_normal_kept (Told code) front buffer p = receives.stays w.device p
  command_normal_kept Owed front buffer p = receives.stays w.device p

  command_acted_kept : (found : Found) (front : Front) → P w.device → Q (command_acted kind w front found).0.device
  command_acted_kept WrongKind front p = receives.stays w.device p
  command_acted_kept NotYet front p = receives.stays w.device p
  command_acted_kept (Item (Normal pointer length flags)) front p =
      command_normal_kept w.ring.consumer.progress.ending front (record { pointer = pointer; length = length; flags = flags }) p
  command_acted_kept (Item (Link pointer toggle flags)) front p = receives.stays w.device p
  command_acted_kept (Item (NoOp flags)) front p = ended_kept _ (command_other kind w front (NoOp flags)) refl refl p
  command_acted_kept (Item (EventData parameter flags)) front p = ended_kept _ (command_other kind w front (EventData parameter flags)) refl refl p
  command_acted_kept (Item Foreign) front p = receives.stays w.device p

  command_step : (home : Home) → P w.device → Q (command_after kind w (stepped_command kind w home)).0.device
  command_step home p = by_gate (gate w.ring.memory w.ring.events w.ring.consumer) (looked w.ring.memory home)
    where
      by_gate : (opens : Option (Option Acted)) (found : Option Front)
          → Q (command_after kind w (command_through kind w opens (option_map (command_at kind w) found))).0.device
      by_gate None found = receives.stays w.device p
      by_gate (Some (Some acted)) found = receives.stays w.device p
      by_gate (Some None) None = receives.stays w.device p
      by_gate (Some None) (Some front) = command_acted_kept front.found front p

answer_kept : {D : Type 0} (kind : Kind D) (Q : D → Type 0) (w : TransfersWorld D) (done : OutWorld D) (answer : Option (Acted × Received))
    → Q done.device → Q (command_kept kind w done answer).0.device
answer_kept kind Q w done None q = q
answer_kept kind Q w done (Some answer) q = q

pub command_pipe_kept : {D : Type 0} (kind : Kind D) (P Q : D → Type 0) (w : TransfersWorld D) → Receives kind (command_world kind w) P Q
    → P w.device → Q (command_stepped kind w).0.device
command_pipe_kept kind P Q w receives p =
    let done = command_after kind (command_world kind w) (stepped_command kind (command_world kind w) (Endpoint w.transfers.home)) in
    answer_kept kind Q w done.0 done.1 (command_step kind (command_world kind w) P Q receives (Endpoint w.transfers.home) p)
