-- What a step of data-in leaves.
use Rattle.std.proofs.Common.{◌≡◌, ℕ, ◌+◌, ◌-◌, ◌==◌, Bool, true, false, length as list_length, take, Option, Some, None, subst, arith}
use Rattle.std.specs.Prelude.{min, nat_le, ◌&&◌, if◌then◌else◌}
use Rattle.std.proofs.lemmas.List.{length-take-le}
use Rattle.guest_memory.specs.Bytes.{is_there, ◌>>=◌}
use Rattle.guest_memory.specs.declared.rings.context.Home.{Home}
use Rattle.guest_memory.specs.declared.rings.context.Front.{Front}
use Rattle.guest_memory.specs.declared.rings.context.Found.{Found}
use Rattle.guest_memory.specs.declared.rings.context.Found.TheVariants.{WrongKind, NotYet, Item}
use Rattle.guest_memory.specs.declared.rings.trb.PipeTrb.TheVariants.{Normal, Link, NoOp, EventData, Foreign}
use Rattle.guest_memory.specs.declared.rings.wanting.Range.{Range}
use Rattle.guest_memory.specs.rings.Events.{has_room}
use Rattle.guest_pipes.specs.declared.acted.Acted.{Acted}
use Rattle.guest_pipes.specs.declared.acted.Acted.TheVariants.{Worked}
use Rattle.guest_pipes.specs.declared.progress.Ending.{Ending}
use Rattle.guest_pipes.specs.declared.progress.Ending.TheVariants.{Runs, Told, Owed}
use Rattle.guest_pipes.specs.Progress.{runs}
use Rattle.guest_pipes.specs.Step.{filled, filled_if, poured}
use Rattle.guest_tags.specs.declared.device.Phase.{Phase}
use Rattle.guest_tags.specs.declared.device.Phase.TheVariants.{Absent, Gives, Takes, Ended}
use Rattle.guest_tags.specs.declared.buffer.Buffer.{Buffer}
use Rattle.guest_tags.specs.Devices.{Kind}
use Rattle.guest_tags.specs.Tags.{TagWorld}
use Rattle.guest_tags.specs.DataIn.{acted, acted_at, closed, closed_if, ends_td, filled_ring, gave_by, given_to, has_chunk, is_status, lost, moved_count, moved_if, moved_in, normal, ran, refilled, with_ring}
use Rattle.guest_tags.specs.Wanted.{buffer_of, moving}
use Rattle.td_laws.specs.Places.{coming, given_by, nowhere, part_of, where_there}
use Rattle.td_laws.specs.NothingElse.{DataInLeavesElse, LeavesElse}
use Rattle.td_laws.proofs.Fronts.{by_front}
use Rattle.td_laws.proofs.RingElse.{failed-keeps, filled-keeps, filled_if-keeps, in_part, poured_in, refused-keeps, shortened-keeps, skipped-keeps, took_other-keeps, unchanged, used_up-keeps}

module _ {D : Type 0} (kind : Kind D) where
  -- what a step left, of a part of a buffer
  abbrev Leaves : TagWorld D → TagWorld D × Acted → Front → Range → Type 0
  Leaves w done front part = LeavesElse w.ring.memory w.ring.events done.0.ring front.home part

  abbrev part_here : TagWorld D → ℕ → Buffer → Range
  part_here w count buffer = record { at = buffer.pointer + w.ring.consumer.progress.moved; count = min count (buffer.length - w.ring.consumer.progress.moved) }

  given_to-leaves : (w : TagWorld D) (front : Front) (buffer : Buffer) (full : Bool) → has_room w.ring.events ≡ true
      → LeavesElse w.ring.memory w.ring.events
      (filled_ring kind full (given_to kind w (buffer.pointer + w.ring.consumer.progress.moved) (moved_count kind w buffer)) front buffer).ring
      front.home (part_here w (list_length w.tag.chunk) buffer)
  unfolding given_to poured
  given_to-leaves w front buffer full room =
      let to = buffer.pointer + w.ring.consumer.progress.moved in
      let count = moved_count kind w buffer in
      let bytes = take count w.tag.chunk in
      let v = poured w.ring to bytes in
      let size : list_length (take count w.tag.chunk) ≡ count = length-take-le count w.tag.chunk (omega arith) in
      poured_in w.ring (filled_if full v front buffer.flags) front.home to count bytes size (filled_if-keeps full v front buffer.flags room)

  moved_in-leaves : (w : TagWorld D) (front : Front) (buffer : Buffer) → has_room w.ring.events ≡ true
      → LeavesElse w.ring.memory w.ring.events (moved_in kind w front buffer).ring front.home
      (where_there w.ring.memory (part_here w (list_length w.tag.chunk) buffer))
  unfolding moved_in lost
  moved_in-leaves w front buffer room = by_there (is_there w.ring.memory (buffer.pointer + w.ring.consumer.progress.moved) (moved_count kind w buffer))
    where
      by_there : (there : Bool) → LeavesElse w.ring.memory w.ring.events
          (if there then filled_ring kind (w.ring.consumer.progress.moved + moved_count kind w buffer == buffer.length) (given_to kind w (buffer.pointer + w.ring.consumer.progress.moved) (moved_count kind w buffer)) front buffer
          else lost kind w front buffer).ring front.home
          (if there then part_here w (list_length w.tag.chunk) buffer else nowhere)
      by_there true = given_to-leaves w front buffer (w.ring.consumer.progress.moved + moved_count kind w buffer == buffer.length) room
      by_there false = in_part (failed-keeps w.ring front buffer.length buffer.flags room)

  moved_if-leaves : (some : Bool) (w : TagWorld D) (front : Front) (buffer : Buffer) → has_room w.ring.events ≡ true
      → LeavesElse w.ring.memory w.ring.events (moved_if kind some w front buffer).ring front.home
      (where_there w.ring.memory (part_here w (list_length w.tag.chunk) buffer))
  moved_if-leaves true w front buffer room = moved_in-leaves w front buffer room
  moved_if-leaves false w front buffer room = in_part (unchanged w.ring front.home)

  closed_if-leaves : (closes : Bool) (w : TagWorld D) (front : Front) (buffer : Buffer) (part : Range) → has_room w.ring.events ≡ true
      → Leaves w (closed_if kind closes w front buffer) front part
  unfolding closed
  closed_if-leaves true w front buffer part room =
      in_part (shortened-keeps w.ring front (buffer.length - w.ring.consumer.progress.moved) buffer.flags room)
  closed_if-leaves false w front buffer part room = in_part (unchanged w.ring front.home)

  gave_by-leaves : (phase : Phase) (w : TagWorld D) (number : ℕ) (front : Front) (buffer : Buffer) → has_room w.ring.events ≡ true
      → Leaves w (gave_by kind phase w number front buffer) front
      (where_there w.ring.memory (part_here w (list_length (given_by phase (kind.given w.device number))) buffer))
  unfolding refilled
  gave_by-leaves Absent w number front buffer room = in_part (unchanged w.ring front.home)
  gave_by-leaves (Gives count) w number front buffer room =
      let v = refilled kind w number in
      moved_if-leaves (has_chunk v.tag) v front buffer room
  gave_by-leaves (Takes count) w number front buffer room = in_part (unchanged w.ring front.home)
  gave_by-leaves (Ended end) w number front buffer room =
      closed_if-leaves (is_status end && ends_td w.tag w.ring.consumer.progress.fed) w front buffer _ room

  ran-leaves : (w : TagWorld D) (number : ℕ) (front : Front) (buffer : Buffer) → has_room w.ring.events ≡ true
      → Leaves w (ran kind w number front buffer) front (part_of w.ring.memory w.ring.consumer (list_length (coming kind w number)) (Some buffer))
  unfolding ran
  ran-leaves w number front buffer room = by_tests (nat_le buffer.length w.ring.consumer.progress.moved) (has_chunk w.tag)
    where
      by_tests : (full some : Bool) → Leaves w
          (if full then (with_ring kind w (filled w.ring front buffer.flags), Worked)
          else if some then (moved_in kind w front buffer, Worked)
          else gave_by kind (kind.phase w.device number) w number front buffer) front
          (part_of w.ring.memory w.ring.consumer (list_length (if some then w.tag.chunk else given_by (kind.phase w.device number) (kind.given w.device number))) (Some buffer))
      by_tests true some = in_part (filled-keeps w.ring front buffer.flags room)
      by_tests false true = moved_in-leaves w front buffer room
      by_tests false false = gave_by-leaves (kind.phase w.device number) w number front buffer room

  normal-leaves : (ending : Ending) (w : TagWorld D) (number : ℕ) (front : Front) (buffer : Buffer) → has_room w.ring.events ≡ true
      → Leaves w (normal kind ending w number front buffer) front
      (part_of w.ring.memory w.ring.consumer (list_length (coming kind w number)) (if runs ending then Some buffer else None))
  normal-leaves Runs w number front buffer room = ran-leaves w number front buffer room
  normal-leaves (Told code) w number front buffer room = in_part (skipped-keeps w.ring front buffer.length buffer.flags room)
  normal-leaves Owed w number front buffer room = in_part (skipped-keeps w.ring front buffer.length buffer.flags room)

  acted-leaves : (found : Found) (w : TagWorld D) (number : ℕ) (front : Front) → has_room w.ring.events ≡ true
      → Leaves w (acted kind w number front found) front
      (part_of w.ring.memory w.ring.consumer (list_length (coming kind w number)) (if runs w.ring.consumer.progress.ending then buffer_of found else None))
  acted-leaves WrongKind w number front room = in_part (refused-keeps w.ring 10 front.home room)
  acted-leaves NotYet w number front room = in_part (used_up-keeps w.ring front.home)
  acted-leaves (Item (Normal pointer length flags)) w number front room =
      normal-leaves w.ring.consumer.progress.ending w number front (record { pointer = pointer; length = length; flags = flags }) room
  acted-leaves (Item (Link pointer toggle flags)) w number front room = in_part (took_other-keeps w.ring front (Link pointer toggle flags) room)
  acted-leaves (Item (NoOp flags)) w number front room = in_part (took_other-keeps w.ring front (NoOp flags) room)
  acted-leaves (Item (EventData parameter flags)) w number front room = in_part (took_other-keeps w.ring front (EventData parameter flags) room)
  acted-leaves (Item Foreign) w number front room = in_part (took_other-keeps w.ring front Foreign room)

  pub data_in_leaves : DataInLeavesElse kind
  data_in_leaves w number home =
      by_front w w.ring home (acted_at kind w number)
      (λ (new : TagWorld D) (f : Option Front). LeavesElse w.ring.memory w.ring.events new.ring home
      (part_of w.ring.memory w.ring.consumer (list_length (coming kind w number)) (f >>= moving w.ring.consumer)))
      (in_part (unchanged w.ring home))
      (λ front there room. subst (λ (h : Home). LeavesElse w.ring.memory w.ring.events (acted_at kind w number front).0.ring h
      (part_of w.ring.memory w.ring.consumer (list_length (coming kind w number)) (moving w.ring.consumer front))) there (acted-leaves front.found w number front room))
