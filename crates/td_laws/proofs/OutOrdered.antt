-- The bytes that a device takes, over any steps of data-out for its tag.
use Rattle.std.proofs.Common.{◌≡◌, ℕ, ◌+◌, ◌≤◌, ◌==◌, Bool, true, false, List, [], ◌∷◌, ◌++◌, length as list_length, take, drop, Option, Some, None, refl, sym, ap, ◌∙◌, arith, append_assoc, append-nil}
use Rattle.std.specs.Prelude.{nat_le, if◌then◌else◌, unwrap_or}
use Rattle.std.proofs.lemmas.Bool.{leb-true}
use Rattle.byteorder.specs.Endian.{little_bytes}
use Rattle.guest_memory.specs.Bytes.{Memory, bytes_from, ◌>>=◌}
use Rattle.guest_memory.specs.declared.rings.context.Home.{Home}
use Rattle.guest_memory.specs.declared.rings.context.Front.{Front}
use Rattle.guest_memory.specs.declared.rings.context.Found.{Found}
use Rattle.guest_memory.specs.declared.rings.context.Found.TheVariants.{WrongKind, NotYet, Item}
use Rattle.guest_memory.specs.declared.rings.trb.PipeTrb.TheVariants.{Normal, Link, NoOp, EventData, Foreign}
use Rattle.guest_pipes.specs.declared.acted.Acted.TheVariants.{Worked}
use Rattle.guest_pipes.specs.declared.progress.Ending.{Ending}
use Rattle.guest_pipes.specs.declared.progress.Ending.TheVariants.{Runs, Told, Owed}
use Rattle.guest_pipes.specs.Progress.{runs}
use Rattle.guest_pipes.specs.Step.{filled}
use Rattle.guest_tags.specs.declared.device.Phase.{Phase}
use Rattle.guest_tags.specs.declared.device.Phase.TheVariants.{Absent, Gives, Takes, Ended}
use Rattle.guest_tags.specs.declared.buffer.Buffer.{Buffer}
use Rattle.guest_tags.specs.Devices.{Kind}
use Rattle.guest_tags.specs.Wanted.{buffer_of, moving}
use Rattle.guest_out.specs.DataOut.{drops_rest, out_acted, out_at, out_by, out_count, out_drawn, out_dropped, out_dropped_if, out_filled, out_filled_if, out_gathered, out_handed, out_moved, out_normal, out_ran, out_took, out_with}
use Rattle.guest_out.specs.Immediate.{bytes_out, is_immediate}
use Rattle.guest_out.specs.Worlds.{OutWorld}
use Rattle.td_laws.specs.Noting.{Noted, noting}
use Rattle.td_laws.specs.Runs.{Others, Steps, TagTurn}
use Rattle.td_laws.proofs.Fronts.{by_front}
use Rattle.td_laws.specs.OutInOrder.{LeaveHanded, TakenInOrder, all_out_stepped, all_taken, bytes_taken, handed, out_stepped, taken_by, taken_of}

pub no_bytes : (memory : Memory) (buffer : Buffer) (moved count : ℕ) → count ≡ 0 → bytes_out memory buffer moved count ≡ Some []
unfolding bytes_out bytes_from
no_bytes memory buffer moved count none = rw none (by_kind (is_immediate buffer))
  where
    by_kind : (immediate : Bool) → (if immediate then Some (take 0 (drop moved (little_bytes 8 buffer.pointer))) else bytes_from memory (buffer.pointer + moved) 0) ≡ Some []
    by_kind true = refl
    by_kind false = refl

module _ {D : Type 0} (kind : Kind D) (number : ℕ) (home : Home) where
  abbrev Outs : Type 0
  Outs = OutWorld (Noted D)

  abbrev Hands : Outs → Outs → List ℕ → Type 0
  Hands w new bytes = handed new ≡ handed w ++ bytes

  nothing : (w : Outs) (bytes : List ℕ) → bytes ≡ [] → Hands w w bytes
  nothing w bytes none = sym (append-nil (handed w)) ∙ ap (λ (b : List ℕ). handed w ++ b) (sym none)

  went : (fits full : Bool) (w : Outs) (bytes : List ℕ) (front : Front) (buffer : Buffer)
      → Hands w (if full then out_filled_if (noting kind) fits (out_handed (noting kind) (out_gathered (noting kind) w bytes) number) front buffer
      else out_filled (noting kind) (out_gathered (noting kind) w bytes) front buffer) bytes
  unfolding out_gathered out_handed
  went true true w bytes front buffer = append-nil (w.device.taken ++ (w.taken ++ bytes)) ∙ sym (append_assoc w.device.taken w.taken bytes)
  went false true w bytes front buffer = append-nil (w.device.taken ++ (w.taken ++ bytes)) ∙ sym (append_assoc w.device.taken w.taken bytes)
  went fits false w bytes front buffer = sym (append_assoc w.device.taken w.taken bytes)

  drawn : (bytes : Option (List ℕ)) (w : Outs) (count : ℕ) (front : Front) (buffer : Buffer)
      → Hands w (out_drawn (noting kind) bytes w number count front buffer) (unwrap_or bytes [])
  unfolding out_took out_gathered
  drawn None w count front buffer = nothing w [] refl
  drawn (Some bytes) w count front buffer = went (kind.fits w.device.device number (w.taken ++ bytes)) (list_length (w.taken ++ bytes) == count) w bytes front buffer

  dropped : (drops : Bool) (w : Outs) (front : Front) (buffer : Buffer) → Hands w (out_dropped_if (noting kind) drops w front buffer).0 []
  unfolding out_dropped
  dropped true w front buffer = nothing w [] refl
  dropped false w front buffer = nothing w [] refl

  by_phase : (phase : Phase) (w : Outs) (front : Front) (buffer : Buffer)
      → Hands w (out_by (noting kind) phase w number front buffer).0 (taken_by (noting kind) number home phase w buffer)
  unfolding out_moved
  by_phase Absent w front buffer = nothing w [] refl
  by_phase (Gives count) w front buffer = nothing w [] refl
  by_phase (Takes count) w front buffer =
      drawn (bytes_out w.ring.memory buffer w.ring.consumer.progress.moved (out_count (noting kind) w count buffer)) w count front buffer
  by_phase (Ended end) w front buffer = dropped (drops_rest end w.ring.consumer.progress.begun) w front buffer

  full_takes : (phase : Phase) (w : Outs) (buffer : Buffer) → buffer.length ≤ w.ring.consumer.progress.moved → taken_by (noting kind) number home phase w buffer ≡ []
  full_takes Absent w buffer past = refl
  full_takes (Gives count) w buffer past = refl
  full_takes (Takes count) w buffer past =
      let none : out_count (noting kind) w count buffer ≡ 0 = omega (arith, past) in
      ap (λ (bytes : Option (List ℕ)). unwrap_or bytes []) (no_bytes w.ring.memory buffer w.ring.consumer.progress.moved (out_count (noting kind) w count buffer) none)
  full_takes (Ended end) w buffer past = refl

  ran : (w : Outs) (front : Front) (buffer : Buffer)
      → Hands w (out_ran (noting kind) w number front buffer).0 (taken_by (noting kind) number home (kind.phase w.device.device number) w buffer)
  unfolding out_ran
  ran w front buffer = by_room (nat_le buffer.length w.ring.consumer.progress.moved) refl
    where
      by_room : (full : Bool) → nat_le buffer.length w.ring.consumer.progress.moved ≡ full → Hands w
          (if full then (out_with (noting kind) w (filled w.ring front buffer.flags), Worked) else out_by (noting kind) (kind.phase w.device.device number) w number front buffer).0
          (taken_by (noting kind) number home (kind.phase w.device.device number) w buffer)
      by_room true is = nothing w _ (full_takes (kind.phase w.device.device number) w buffer (leb-true buffer.length w.ring.consumer.progress.moved is))
      by_room false is = by_phase (kind.phase w.device.device number) w front buffer

  normal : (ending : Ending) (w : Outs) (front : Front) (buffer : Buffer)
      → Hands w (out_normal (noting kind) ending w number front buffer).0 (taken_of (noting kind) number home (if runs ending then Some buffer else None) w)
  normal Runs w front buffer = ran w front buffer
  normal (Told code) w front buffer = nothing w [] refl
  normal Owed w front buffer = nothing w [] refl

  other : (w : Outs) (moves : Bool) → Hands w w (taken_of (noting kind) number home (if moves then None else None) w)
  other w true = nothing w [] refl
  other w false = nothing w [] refl

  acted : (found : Found) (w : Outs) (front : Front)
      → Hands w (out_acted (noting kind) w number front found).0 (taken_of (noting kind) number home (if runs w.ring.consumer.progress.ending then buffer_of found else None) w)
  acted WrongKind w front = other w (runs w.ring.consumer.progress.ending)
  acted NotYet w front = other w (runs w.ring.consumer.progress.ending)
  acted (Item (Normal pointer length flags)) w front =
      normal w.ring.consumer.progress.ending w front (record { pointer = pointer; length = length; flags = flags })
  acted (Item (Link pointer toggle flags)) w front = other w (runs w.ring.consumer.progress.ending)
  acted (Item (NoOp flags)) w front = other w (runs w.ring.consumer.progress.ending)
  acted (Item (EventData parameter flags)) w front = other w (runs w.ring.consumer.progress.ending)
  acted (Item Foreign) w front = other w (runs w.ring.consumer.progress.ending)

  one : (w : Outs) → Hands w (out_stepped (noting kind) number home w) (bytes_taken (noting kind) number home w)
  one w =
      by_front w w.ring home (out_at (noting kind) w number)
      (λ (new : Outs) (f : Option Front). Hands w new (taken_of (noting kind) number home (f >>= moving w.ring.consumer) w))
      (nothing w [] refl) (λ front there room. acted front.found w front)

  in_order : (turns : List (TagTurn Outs)) (w : Outs) → LeaveHanded kind number home w turns
      → Hands w (all_out_stepped (noting kind) number home w turns) (all_taken (noting kind) number home w turns)
  in_order [] w left = nothing w [] refl
  in_order (Steps ∷ turns) w left =
      let v = out_stepped (noting kind) number home w in
      let first = bytes_taken (noting kind) number home w in
      in_order turns v left ∙ ap (λ (b : List ℕ). b ++ all_taken (noting kind) number home v turns) (one w) ∙ append_assoc (handed w) first (all_taken (noting kind) number home v turns)
  in_order (Others other ∷ turns) w left = in_order turns other left.1 ∙ ap (λ (b : List ℕ). b ++ all_taken (noting kind) number home other turns) left.0

  pub taken_in_order : TakenInOrder kind number home
  taken_in_order w turns left = in_order turns w left
