-- A step of data-out that lacks nothing is the same with another memory beside this one.
use Rattle.std.proofs.Common.{◌≡◌, ℕ, ◌+◌, ◌-◌, ◌==◌, Bool, true, false, List, length as list_length, Option, Some, None, refl, sym, ap, ◌∙◌}
use Rattle.std.specs.Prelude.{min, nat_le, if◌then◌else◌}
use Rattle.guest_memory.specs.Bytes.{Memory, bytes_from}
use Rattle.guest_memory.specs.declared.rings.context.Front.{Front}
use Rattle.guest_memory.specs.declared.rings.context.Found.{Found}
use Rattle.guest_memory.specs.declared.rings.context.Found.TheVariants.{WrongKind, NotYet, Item}
use Rattle.guest_memory.specs.declared.rings.trb.PipeTrb.TheVariants.{Normal, Link, NoOp, EventData, Foreign}
use Rattle.guest_memory.specs.rings.Wanted.{part_wanted}
use Rattle.guest_memory.specs.rings.WantedLaws.{part_there}
use Rattle.guest_pipes.specs.declared.acted.Acted.{Acted}
use Rattle.guest_pipes.specs.declared.acted.Acted.TheVariants.{Worked}
use Rattle.guest_pipes.specs.declared.progress.Ending.{Ending}
use Rattle.guest_pipes.specs.declared.progress.Ending.TheVariants.{Runs, Told, Owed}
use Rattle.guest_pipes.specs.Progress.{runs}
use Rattle.guest_pipes.specs.Step.{World, filled, with_progress}
use Rattle.guest_tags.specs.declared.buffer.Buffer.{Buffer}
use Rattle.guest_tags.specs.declared.device.Phase.{Phase}
use Rattle.guest_tags.specs.declared.device.Phase.TheVariants.{Absent, Gives, Takes, Ended}
use Rattle.guest_tags.specs.Devices.{Kind}
use Rattle.guest_tags.specs.Wanted.{buffer_of}
use Rattle.guest_out.specs.DataOut.{drops_rest, out_acted, out_by, out_count, out_drawn, out_dropped, out_dropped_if, out_filled, out_filled_if, out_gathered, out_handed}
use Rattle.guest_out.specs.DataOut.{out_moved, out_normal, out_ran, out_took, out_went, out_with}
use Rattle.guest_out.specs.Immediate.{bytes_out, immediate_bytes, is_immediate, tallied}
use Rattle.guest_out.specs.Wanted.{drawn_part, out_part, taken_next}
use Rattle.guest_out.specs.Worlds.{OutWorld}
use Rattle.guest_transfers.specs.Beside.{beside}
use Rattle.guest_transfers.proofs.BesideRing.{bytes-beside, failed-beside, filled-beside, filled_if-beside, refused-beside, ring_beside, skipped-beside, took_other-beside}

-- what isn't asked for is read from this one
pub bytes_out-beside : (memory rest : Memory) (buffer : Buffer) (moved count : ℕ) → drawn_part memory buffer moved count ≡ None
    → bytes_out (beside memory rest) buffer moved count ≡ bytes_out memory buffer moved count
unfolding bytes_out
bytes_out-beside memory rest buffer moved count none = by_place (is_immediate buffer) none
  where
    by_place : (immediate : Bool) → (if immediate then None else part_wanted memory buffer.pointer moved count) ≡ None
        → (if immediate then Some (immediate_bytes buffer moved count) else bytes_from (beside memory rest) (buffer.pointer + moved) count)
        ≡ (if immediate then Some (immediate_bytes buffer moved count) else bytes_from memory (buffer.pointer + moved) count)
    by_place true none = refl
    by_place false none = bytes-beside memory rest (buffer.pointer + moved) count (part_there memory buffer.pointer moved count none)

module _ {D : Type 0} (kind : Kind D) where
  -- all that a step of an OUT pipe may change, with that memory beside
  abbrev pub out_beside : OutWorld D → Memory → OutWorld D
  out_beside w rest = record w { ring = ring_beside w.ring rest }

  abbrev pub out_done : OutWorld D × Acted → Memory → OutWorld D × Acted
  out_done done rest = (out_beside done.0 rest, done.1)

  with_same : (w : OutWorld D) (a b : World) → a ≡ b → out_with kind w a ≡ out_with kind w b
  with_same w a b same = let out : World → OutWorld D = λ v. out_with kind w v in ap out same

  worked : (a b : OutWorld D) → a ≡ b → ◌≡◌ {A = OutWorld D × Acted} (a, Worked) (b, Worked)
  worked a b same = let out : OutWorld D → OutWorld D × Acted = λ v. (v, Worked) in ap out same

  gathered-beside : (w : OutWorld D) (rest : Memory) (bytes : List ℕ) → out_beside (out_gathered kind w bytes) rest ≡ out_gathered kind (out_beside w rest) bytes
  unfolding out_gathered
  gathered-beside w rest bytes = refl

  out_filled-beside : (w : OutWorld D) (rest : Memory) (front : Front) (buffer : Buffer) → out_beside (out_filled kind w front buffer) rest ≡ out_filled kind (out_beside w rest) front buffer
  out_filled-beside w rest front buffer =
      with_same w _ _ (filled_if-beside (nat_le buffer.length w.ring.consumer.progress.moved) w.ring rest front buffer.flags)

  out_filled_if-beside : (fits : Bool) (w : OutWorld D) (rest : Memory) (front : Front) (buffer : Buffer)
      → out_beside (out_filled_if kind fits w front buffer) rest ≡ out_filled_if kind fits (out_beside w rest) front buffer
  out_filled_if-beside true w rest front buffer = out_filled-beside w rest front buffer
  out_filled_if-beside false w rest front buffer = refl

  took-beside : (w : OutWorld D) (rest : Memory) (number : ℕ) (front : Front) (buffer : Buffer)
      → out_beside (out_took kind w number front buffer) rest ≡ out_took kind (out_beside w rest) number front buffer
  unfolding out_took out_handed
  took-beside w rest number front buffer = out_filled_if-beside (kind.fits w.device number w.taken) (out_handed kind w number) rest front buffer

  went-beside : (w : OutWorld D) (rest : Memory) (number count : ℕ) (front : Front) (buffer : Buffer)
      → out_beside (out_went kind w number count front buffer) rest ≡ out_went kind (out_beside w rest) number count front buffer
  went-beside w rest number count front buffer = by_full (list_length w.taken == count)
    where
      by_full : (full : Bool) → out_beside (if full then out_took kind w number front buffer else out_filled kind w front buffer) rest
          ≡ (if full then out_took kind (out_beside w rest) number front buffer else out_filled kind (out_beside w rest) front buffer)
      by_full true = took-beside w rest number front buffer
      by_full false = out_filled-beside w rest front buffer

  drawn-beside : (bytes : Option (List ℕ)) (w : OutWorld D) (rest : Memory) (number count : ℕ) (front : Front) (buffer : Buffer)
      → out_beside (out_drawn kind bytes w number count front buffer) rest ≡ out_drawn kind bytes (out_beside w rest) number count front buffer
  drawn-beside None w rest number count front buffer = with_same w _ _ (failed-beside w.ring rest front buffer.length buffer.flags)
  drawn-beside (Some bytes) w rest number count front buffer =
      let next : OutWorld D → OutWorld D = λ v. out_went kind v number count front buffer in
      went-beside (out_gathered kind w bytes) rest number count front buffer ∙ ap next (gathered-beside w rest bytes)

  moved-beside : (w : OutWorld D) (rest : Memory) (number count : ℕ) (front : Front) (buffer : Buffer)
      → drawn_part w.ring.memory buffer w.ring.consumer.progress.moved (out_count kind w count buffer) ≡ None
      → out_beside (out_moved kind w number count front buffer) rest ≡ out_moved kind (out_beside w rest) number count front buffer
  unfolding out_moved
  moved-beside w rest number count front buffer none =
      let next : Option (List ℕ) → OutWorld D = λ bytes. out_drawn kind bytes (out_beside w rest) number count front buffer in
      drawn-beside (bytes_out w.ring.memory buffer w.ring.consumer.progress.moved (out_count kind w count buffer)) w rest number count front buffer
      ∙ ap next (sym (bytes_out-beside w.ring.memory rest buffer w.ring.consumer.progress.moved (out_count kind w count buffer) none))

  dropped-beside : (w : OutWorld D) (rest : Memory) (front : Front) (buffer : Buffer) → out_beside (out_dropped kind w front buffer) rest ≡ out_dropped kind (out_beside w rest) front buffer
  unfolding out_dropped
  dropped-beside w rest front buffer =
      let progress = tallied w.ring.consumer.progress (buffer.length - w.ring.consumer.progress.moved) in
      with_same w _ _ (filled-beside (with_progress w.ring progress) rest front buffer.flags)

  dropped_if-beside : (drops : Bool) (w : OutWorld D) (rest : Memory) (front : Front) (buffer : Buffer)
      → out_done (out_dropped_if kind drops w front buffer) rest ≡ out_dropped_if kind drops (out_beside w rest) front buffer
  dropped_if-beside true w rest front buffer = worked _ _ (dropped-beside w rest front buffer)
  dropped_if-beside false w rest front buffer = refl

  by-beside : (phase : Phase) (w : OutWorld D) (rest : Memory) (number : ℕ) (front : Front) (buffer : Buffer)
      → drawn_part w.ring.memory buffer w.ring.consumer.progress.moved (min (taken_next phase - list_length w.taken) (buffer.length - w.ring.consumer.progress.moved)) ≡ None
      → out_done (out_by kind phase w number front buffer) rest ≡ out_by kind phase (out_beside w rest) number front buffer
  by-beside Absent w rest number front buffer none = refl
  by-beside (Gives count) w rest number front buffer none = refl
  by-beside (Takes count) w rest number front buffer none = worked _ _ (moved-beside w rest number count front buffer none)
  by-beside (Ended end) w rest number front buffer none = dropped_if-beside (drops_rest end w.ring.consumer.progress.begun) w rest front buffer

  ran-beside : (w : OutWorld D) (rest : Memory) (number : ℕ) (front : Front) (buffer : Buffer)
      → drawn_part w.ring.memory buffer w.ring.consumer.progress.moved (min (taken_next (kind.phase w.device number) - list_length w.taken) (buffer.length - w.ring.consumer.progress.moved)) ≡ None
      → out_done (out_ran kind w number front buffer) rest ≡ out_ran kind (out_beside w rest) number front buffer
  unfolding out_ran
  ran-beside w rest number front buffer none = by_full (nat_le buffer.length w.ring.consumer.progress.moved)
    where
      by_full : (full : Bool) → out_done (if full then (out_with kind w (filled w.ring front buffer.flags), Worked) else out_by kind (kind.phase w.device number) w number front buffer) rest
          ≡ (if full then (out_with kind (out_beside w rest) (filled (ring_beside w.ring rest) front buffer.flags), Worked) else out_by kind (kind.phase w.device number) (out_beside w rest) number front buffer)
      by_full true = worked _ _ (with_same w _ _ (filled-beside w.ring rest front buffer.flags))
      by_full false = by-beside (kind.phase w.device number) w rest number front buffer none

  normal-beside : (ending : Ending) (w : OutWorld D) (rest : Memory) (number : ℕ) (front : Front) (buffer : Buffer)
      → (if runs ending then out_part w.ring.memory w.ring.consumer (taken_next (kind.phase w.device number) - list_length w.taken) (Some buffer) else None) ≡ None
      → out_done (out_normal kind ending w number front buffer) rest ≡ out_normal kind ending (out_beside w rest) number front buffer
  normal-beside Runs w rest number front buffer none = ran-beside w rest number front buffer none
  normal-beside (Told code) w rest number front buffer none = worked _ _ (with_same w _ _ (skipped-beside w.ring rest front buffer.length buffer.flags))
  normal-beside Owed w rest number front buffer none = worked _ _ (with_same w _ _ (skipped-beside w.ring rest front buffer.length buffer.flags))

  pub out_acted-beside : (found : Found) (w : OutWorld D) (rest : Memory) (number : ℕ) (front : Front)
      → out_part w.ring.memory w.ring.consumer (taken_next (kind.phase w.device number) - list_length w.taken) (if runs w.ring.consumer.progress.ending then buffer_of found else None) ≡ None
      → out_done (out_acted kind w number front found) rest ≡ out_acted kind (out_beside w rest) number front found
  out_acted-beside WrongKind w rest number front none = worked _ _ (with_same w _ _ (refused-beside w.ring rest 10))
  out_acted-beside NotYet w rest number front none = refl
  out_acted-beside (Item (Normal pointer length flags)) w rest number front none =
      normal-beside w.ring.consumer.progress.ending w rest number front (record { pointer = pointer; length = length; flags = flags })
      (by_ending (runs w.ring.consumer.progress.ending) none)
    where
      by_ending : (moves : Bool) → out_part w.ring.memory w.ring.consumer (taken_next (kind.phase w.device number) - list_length w.taken) (if moves then Some (record { pointer = pointer; length = length; flags = flags }) else None) ≡ None
          → (if moves then out_part w.ring.memory w.ring.consumer (taken_next (kind.phase w.device number) - list_length w.taken) (Some (record { pointer = pointer; length = length; flags = flags })) else None) ≡ None
      by_ending true none = none
      by_ending false none = refl
  out_acted-beside (Item (Link pointer toggle flags)) w rest number front none = worked _ _ (with_same w _ _ (took_other-beside w.ring rest front (Link pointer toggle flags)))
  out_acted-beside (Item (NoOp flags)) w rest number front none = worked _ _ (with_same w _ _ (took_other-beside w.ring rest front (NoOp flags)))
  out_acted-beside (Item (EventData parameter flags)) w rest number front none = worked _ _ (with_same w _ _ (took_other-beside w.ring rest front (EventData parameter flags)))
  out_acted-beside (Item Foreign) w rest number front none = worked _ _ (with_same w _ _ (took_other-beside w.ring rest front Foreign))
