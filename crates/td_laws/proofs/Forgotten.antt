-- A device that notes does what it does without its notes.
use Rattle.std.proofs.Common.{◌≡◌, ℕ, ◌+◌, ◌==◌, Bool, true, false, List, length as list_length, Option, Some, None, refl, ap}
use Rattle.std.specs.Prelude.{nat_le, ◌&&◌, if◌then◌else◌, option_map}
use Rattle.guest_memory.specs.Bytes.{is_there}
use Rattle.guest_memory.specs.declared.rings.context.Front.{Front}
use Rattle.guest_memory.specs.declared.rings.context.Found.{Found}
use Rattle.guest_memory.specs.declared.rings.context.Found.TheVariants.{WrongKind, NotYet, Item}
use Rattle.guest_memory.specs.declared.rings.trb.PipeTrb.TheVariants.{Normal, Link, NoOp, EventData, Foreign}
use Rattle.guest_memory.specs.rings.Ends.{looked}
use Rattle.guest_pipes.specs.declared.acted.Acted.{Acted}
use Rattle.guest_pipes.specs.declared.acted.Acted.TheVariants.{Worked}
use Rattle.guest_pipes.specs.declared.progress.Ending.{Ending}
use Rattle.guest_pipes.specs.declared.progress.Ending.TheVariants.{Runs, Told, Owed}
use Rattle.guest_pipes.specs.Gate.{gate, through}
use Rattle.guest_pipes.specs.Step.{filled}
use Rattle.guest_tags.specs.declared.device.Phase.{Phase}
use Rattle.guest_tags.specs.declared.device.Phase.TheVariants.{Absent, Gives, Takes, Ended}
use Rattle.guest_tags.specs.declared.buffer.Buffer.{Buffer}
use Rattle.guest_tags.specs.Devices.{Kind}
use Rattle.guest_tags.specs.Tags.{TagWorld}
use Rattle.guest_tags.specs.DataIn.{acted, acted_at, closed, closed_if, ends_td, filled_ring, gave_by, given_to, has_chunk, is_status, lost, moved_count, moved_if, moved_in, normal, ran, refilled, with_ring}
use Rattle.guest_out.specs.DataOut.{drops_rest, out_acted, out_at, out_by, out_count, out_drawn, out_dropped, out_dropped_if, out_filled, out_filled_if, out_gathered, out_handed, out_moved, out_normal, out_ran, out_took, out_with}
use Rattle.guest_out.specs.Immediate.{bytes_out}
use Rattle.guest_out.specs.Worlds.{OutWorld}
use Rattle.td_laws.specs.Noting.{Noted, noting}
use Rattle.td_laws.specs.Beside.{NotesAreBeside, OutNotesAreBeside, forgotten, out_forgotten}

module _ {D : Type 0} (kind : Kind D) where
  abbrev Tags : Type 0
  Tags = TagWorld (Noted D)

  abbrev without : Tags × Acted → TagWorld D × Acted
  without done = (forgotten done.0, done.1)

  worked : (a b : TagWorld D) → a ≡ b → ◌≡◌ {A = TagWorld D × Acted} (a, Worked) (b, Worked)
  worked a b same = ap (λ (v : TagWorld D). (v, Worked)) same

  moved_in-beside : (w : Tags) (front : Front) (buffer : Buffer) → forgotten (moved_in (noting kind) w front buffer) ≡ moved_in kind (forgotten w) front buffer
  unfolding moved_in given_to lost
  moved_in-beside w front buffer = by_there (is_there w.ring.memory (buffer.pointer + w.ring.consumer.progress.moved) (moved_count (noting kind) w buffer))
    where
      by_there : (there : Bool)
          → forgotten (if there then filled_ring (noting kind) (w.ring.consumer.progress.moved + moved_count (noting kind) w buffer == buffer.length) (given_to (noting kind) w (buffer.pointer + w.ring.consumer.progress.moved) (moved_count (noting kind) w buffer)) front buffer else lost (noting kind) w front buffer)
          ≡ (if there then filled_ring kind (w.ring.consumer.progress.moved + moved_count (noting kind) w buffer == buffer.length) (given_to kind (forgotten w) (buffer.pointer + w.ring.consumer.progress.moved) (moved_count (noting kind) w buffer)) front buffer else lost kind (forgotten w) front buffer)
      by_there true = refl
      by_there false = refl

  moved_if-beside : (some : Bool) (w : Tags) (front : Front) (buffer : Buffer) → forgotten (moved_if (noting kind) some w front buffer) ≡ moved_if kind some (forgotten w) front buffer
  moved_if-beside true w front buffer = moved_in-beside w front buffer
  moved_if-beside false w front buffer = refl

  closed_if-beside : (closes : Bool) (w : Tags) (front : Front) (buffer : Buffer) → without (closed_if (noting kind) closes w front buffer) ≡ closed_if kind closes (forgotten w) front buffer
  unfolding closed
  closed_if-beside true w front buffer = refl
  closed_if-beside false w front buffer = refl

  gave_by-beside : (phase : Phase) (w : Tags) (number : ℕ) (front : Front) (buffer : Buffer) → without (gave_by (noting kind) phase w number front buffer) ≡ gave_by kind phase (forgotten w) number front buffer
  unfolding refilled
  gave_by-beside Absent w number front buffer = refl
  gave_by-beside (Gives count) w number front buffer =
      let v = refilled (noting kind) w number in
      worked _ _ (moved_if-beside (has_chunk v.tag) v front buffer)
  gave_by-beside (Takes count) w number front buffer = refl
  gave_by-beside (Ended end) w number front buffer = closed_if-beside (is_status end && ends_td w.tag w.ring.consumer.progress.fed) w front buffer

  ran-beside : (w : Tags) (number : ℕ) (front : Front) (buffer : Buffer) → without (ran (noting kind) w number front buffer) ≡ ran kind (forgotten w) number front buffer
  unfolding ran
  ran-beside w number front buffer = by_tests (nat_le buffer.length w.ring.consumer.progress.moved) (has_chunk w.tag)
    where
      by_tests : (full some : Bool)
          → without (if full then (with_ring (noting kind) w (filled w.ring front buffer.flags), Worked) else if some then (moved_in (noting kind) w front buffer, Worked) else gave_by (noting kind) (kind.phase w.device.device number) w number front buffer)
          ≡ (if full then (with_ring kind (forgotten w) (filled w.ring front buffer.flags), Worked) else if some then (moved_in kind (forgotten w) front buffer, Worked) else gave_by kind (kind.phase w.device.device number) (forgotten w) number front buffer)
      by_tests true some = refl
      by_tests false true = worked _ _ (moved_in-beside w front buffer)
      by_tests false false = gave_by-beside (kind.phase w.device.device number) w number front buffer

  normal-beside : (ending : Ending) (w : Tags) (number : ℕ) (front : Front) (buffer : Buffer) → without (normal (noting kind) ending w number front buffer) ≡ normal kind ending (forgotten w) number front buffer
  normal-beside Runs w number front buffer = ran-beside w number front buffer
  normal-beside (Told code) w number front buffer = refl
  normal-beside Owed w number front buffer = refl

  acted-beside : (found : Found) (w : Tags) (number : ℕ) (front : Front) → without (acted (noting kind) w number front found) ≡ acted kind (forgotten w) number front found
  acted-beside WrongKind w number front = refl
  acted-beside NotYet w number front = refl
  acted-beside (Item (Normal pointer length flags)) w number front =
      normal-beside w.ring.consumer.progress.ending w number front (record { pointer = pointer; length = length; flags = flags })
  acted-beside (Item (Link pointer toggle flags)) w number front = refl
  acted-beside (Item (NoOp flags)) w number front = refl
  acted-beside (Item (EventData parameter flags)) w number front = refl
  acted-beside (Item Foreign) w number front = refl

  pub notes_are_beside : NotesAreBeside kind
  notes_are_beside w number home = by_gate (gate w.ring.memory w.ring.events w.ring.consumer) (looked w.ring.memory home)
    where
      by_gate : (opens : Option (Option Acted)) (found : Option Front)
          → option_map without (through w opens (option_map (acted_at (noting kind) w number) found)) ≡ through (forgotten w) opens (option_map (acted_at kind (forgotten w) number) found)
      by_gate None found = refl
      by_gate (Some None) None = refl
      by_gate (Some None) (Some front) = ap Some (acted-beside front.found w number front)
      by_gate (Some (Some acted)) found = refl

  -- DATA-OUT
  abbrev Outs : Type 0
  Outs = OutWorld (Noted D)

  abbrev out_without : Outs × Acted → OutWorld D × Acted
  out_without done = (out_forgotten done.0, done.1)

  out_worked : (a b : OutWorld D) → a ≡ b → ◌≡◌ {A = OutWorld D × Acted} (a, Worked) (b, Worked)
  out_worked a b same = ap (λ (v : OutWorld D). (v, Worked)) same

  out_went-beside : (full fits : Bool) (w : Outs) (number : ℕ) (front : Front) (buffer : Buffer)
      → out_forgotten (if full then out_filled_if (noting kind) fits (out_handed (noting kind) w number) front buffer else out_filled (noting kind) w front buffer)
      ≡ (if full then out_filled_if kind fits (out_handed kind (out_forgotten w) number) front buffer else out_filled kind (out_forgotten w) front buffer)
  unfolding out_handed
  out_went-beside true true w number front buffer = refl
  out_went-beside true false w number front buffer = refl
  out_went-beside false fits w number front buffer = refl

  out_drawn-beside : (bytes : Option (List ℕ)) (w : Outs) (number count : ℕ) (front : Front) (buffer : Buffer)
      → out_forgotten (out_drawn (noting kind) bytes w number count front buffer) ≡ out_drawn kind bytes (out_forgotten w) number count front buffer
  unfolding out_took out_gathered
  out_drawn-beside None w number count front buffer = refl
  out_drawn-beside (Some bytes) w number count front buffer =
      let v = out_gathered (noting kind) w bytes in
      out_went-beside (list_length v.taken == count) (kind.fits w.device.device number v.taken) v number front buffer

  out_dropped_if-beside : (drops : Bool) (w : Outs) (front : Front) (buffer : Buffer) → out_without (out_dropped_if (noting kind) drops w front buffer) ≡ out_dropped_if kind drops (out_forgotten w) front buffer
  unfolding out_dropped
  out_dropped_if-beside true w front buffer = refl
  out_dropped_if-beside false w front buffer = refl

  out_by-beside : (phase : Phase) (w : Outs) (number : ℕ) (front : Front) (buffer : Buffer) → out_without (out_by (noting kind) phase w number front buffer) ≡ out_by kind phase (out_forgotten w) number front buffer
  unfolding out_moved
  out_by-beside Absent w number front buffer = refl
  out_by-beside (Gives count) w number front buffer = refl
  out_by-beside (Takes count) w number front buffer =
      out_worked _ _ (out_drawn-beside (bytes_out w.ring.memory buffer w.ring.consumer.progress.moved (out_count (noting kind) w count buffer)) w number count front buffer)
  out_by-beside (Ended end) w number front buffer = out_dropped_if-beside (drops_rest end w.ring.consumer.progress.begun) w front buffer

  out_ran-beside : (w : Outs) (number : ℕ) (front : Front) (buffer : Buffer) → out_without (out_ran (noting kind) w number front buffer) ≡ out_ran kind (out_forgotten w) number front buffer
  unfolding out_ran
  out_ran-beside w number front buffer = by_room (nat_le buffer.length w.ring.consumer.progress.moved)
    where
      by_room : (full : Bool)
          → out_without (if full then (out_with (noting kind) w (filled w.ring front buffer.flags), Worked) else out_by (noting kind) (kind.phase w.device.device number) w number front buffer)
          ≡ (if full then (out_with kind (out_forgotten w) (filled w.ring front buffer.flags), Worked) else out_by kind (kind.phase w.device.device number) (out_forgotten w) number front buffer)
      by_room true = refl
      by_room false = out_by-beside (kind.phase w.device.device number) w number front buffer

  out_normal-beside : (ending : Ending) (w : Outs) (number : ℕ) (front : Front) (buffer : Buffer) → out_without (out_normal (noting kind) ending w number front buffer) ≡ out_normal kind ending (out_forgotten w) number front buffer
  out_normal-beside Runs w number front buffer = out_ran-beside w number front buffer
  out_normal-beside (Told code) w number front buffer = refl
  out_normal-beside Owed w number front buffer = refl

  out_acted-beside : (found : Found) (w : Outs) (number : ℕ) (front : Front) → out_without (out_acted (noting kind) w number front found) ≡ out_acted kind (out_forgotten w) number front found
  out_acted-beside WrongKind w number front = refl
  out_acted-beside NotYet w number front = refl
  out_acted-beside (Item (Normal pointer length flags)) w number front =
      out_normal-beside w.ring.consumer.progress.ending w number front (record { pointer = pointer; length = length; flags = flags })
  out_acted-beside (Item (Link pointer toggle flags)) w number front = refl
  out_acted-beside (Item (NoOp flags)) w number front = refl
  out_acted-beside (Item (EventData parameter flags)) w number front = refl
  out_acted-beside (Item Foreign) w number front = refl

  pub out_notes_are_beside : OutNotesAreBeside kind
  out_notes_are_beside w number home = by_gate (gate w.ring.memory w.ring.events w.ring.consumer) (looked w.ring.memory home)
    where
      by_gate : (opens : Option (Option Acted)) (found : Option Front)
          → option_map out_without (through w opens (option_map (out_at (noting kind) w number) found)) ≡ through (out_forgotten w) opens (option_map (out_at kind (out_forgotten w) number) found)
      by_gate None found = refl
      by_gate (Some None) None = refl
      by_gate (Some None) (Some front) = ap Some (out_acted-beside front.found w number front)
      by_gate (Some (Some acted)) found = refl
