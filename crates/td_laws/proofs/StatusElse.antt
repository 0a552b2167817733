-- What a step of status leaves.
use Rattle.std.proofs.Common.{◌≡◌, ℕ, ◌+◌, ◌-◌, ◌==◌, Bool, true, false, length as list_length, take, Option, Some, None, refl, sym, subst, arith}
use Rattle.std.specs.Prelude.{nat_le, nat_lt, not, ◌&&◌, if◌then◌else◌}
use Rattle.std.proofs.lemmas.List.{length-take-le}
use Rattle.guest_memory.specs.Bytes.{is_there, ◌>>=◌}
use Rattle.guest_memory.specs.declared.rings.context.Home.{Home}
use Rattle.guest_memory.specs.declared.rings.context.Front.{Front}
use Rattle.guest_memory.specs.declared.rings.context.Found.{Found}
use Rattle.guest_memory.specs.declared.rings.context.Found.TheVariants.{WrongKind, NotYet, Item}
use Rattle.guest_memory.specs.declared.rings.trb.Flags.{Flags}
use Rattle.guest_memory.specs.declared.rings.trb.PipeTrb.{PipeTrb}
use Rattle.guest_memory.specs.declared.rings.trb.PipeTrb.TheVariants.{Normal, Link, NoOp, EventData, Foreign}
use Rattle.guest_memory.specs.declared.rings.wanting.Range.{Range}
use Rattle.guest_memory.specs.rings.Events.{has_room}
use Rattle.guest_pipes.specs.declared.acted.Acted.{Acted}
use Rattle.guest_pipes.specs.declared.acted.Acted.TheVariants.{Waits, Worked}
use Rattle.guest_pipes.specs.declared.progress.Ending.{Ending}
use Rattle.guest_pipes.specs.declared.progress.Ending.TheVariants.{Runs, Told, Owed}
use Rattle.guest_pipes.specs.Gate.{took_other}
use Rattle.guest_pipes.specs.Progress.{runs}
use Rattle.guest_pipes.specs.Step.{World, filled, poured}
use Rattle.guest_tags.specs.declared.buffer.Buffer.{Buffer}
use Rattle.guest_tags.specs.Devices.{Kind}
use Rattle.guest_tags.specs.Tags.{TagWorld}
use Rattle.guest_tags.specs.Status.{answer_taken, has_begun, has_unit, is_out, left_of, overlap_taken, sent_to, status_acted, status_at, status_ending, status_normal, status_with, unit_babbled, unit_count, unit_full, unit_lost, unit_moved, unit_on, unit_over, unit_ran, unit_ready, unit_short, unit_some, unit_went}
use Rattle.guest_tags.specs.Wanted.{buffer_of, coming_status, moving}
use Rattle.td_laws.specs.Places.{nowhere, part_of, where_there}
use Rattle.td_laws.specs.NothingElse.{LeavesElse, StatusLeavesElse}
use Rattle.td_laws.proofs.Fronts.{by_front}
use Rattle.td_laws.proofs.RingElse.{Keeps, babbled-keeps, failed-keeps, filled-keeps, in_part, poured_in, refused-keeps, shortened-keeps, skipped-keeps, took_other-keeps, unchanged, used_up-keeps}

module _ {D : Type 0} (kind : Kind D) where
  abbrev Leaves : TagWorld D → TagWorld D → Front → Range → Type 0
  Leaves w done front part = LeavesElse w.ring.memory w.ring.events done.ring front.home part

  abbrev LeavesDone : TagWorld D → TagWorld D × Acted → Front → Range → Type 0
  LeavesDone w done front part = Leaves w done.0 front part

  -- the buffer takes what is left of the unit
  abbrev part_here : TagWorld D → Buffer → Range
  part_here w buffer = record { at = buffer.pointer + w.ring.consumer.progress.moved; count = unit_count kind w buffer }

  unit_on-keeps : (chain out : Bool) (w : TagWorld D) (front : Front) (flags : Flags) → has_room w.ring.events ≡ true
      → Keeps w.ring.memory w.ring.events (unit_on kind chain out w front flags).ring front.home
  unfolding unit_full unit_babbled
  unit_on-keeps true out w front flags room = filled-keeps w.ring front flags room
  unit_on-keeps false true w front flags room = filled-keeps w.ring front flags room
  unit_on-keeps false false w front flags room = babbled-keeps w.ring front flags room

  unit_moved-keeps : (w : TagWorld D) (front : Front) (buffer : Buffer) → has_room w.ring.events ≡ true
      → Keeps w.ring.memory w.ring.events (unit_moved kind w front buffer).ring front.home
  unfolding unit_short
  unit_moved-keeps w front buffer room = by_room (nat_lt w.ring.consumer.progress.moved buffer.length)
    where
      by_room : (short : Bool) → Keeps w.ring.memory w.ring.events
          (if short then unit_short kind w front buffer else unit_on kind buffer.flags.chain (is_out w.tag) w front buffer.flags).ring front.home
      by_room true = shortened-keeps w.ring front (buffer.length - w.ring.consumer.progress.moved) buffer.flags room
      by_room false = unit_on-keeps buffer.flags.chain (is_out w.tag) w front buffer.flags room

  sent_to-leaves : (w : TagWorld D) (front : Front) (buffer : Buffer) → has_room w.ring.events ≡ true
      → LeavesElse w.ring.memory w.ring.events
      (unit_moved kind (sent_to kind w (buffer.pointer + w.ring.consumer.progress.moved) (unit_count kind w buffer)) front buffer).ring
      front.home (part_here w buffer)
  unfolding sent_to poured
  sent_to-leaves w front buffer room =
      let to = buffer.pointer + w.ring.consumer.progress.moved in
      let count = unit_count kind w buffer in
      let v = sent_to kind w to count in
      let bytes = take count (left_of w.tag.unit) in
      let size : list_length (take count (left_of w.tag.unit)) ≡ count = length-take-le count (left_of w.tag.unit) (omega arith) in
      poured_in w.ring (unit_moved kind v front buffer).ring front.home to count bytes size (unit_moved-keeps v front buffer room)

  unit_went-leaves : (w : TagWorld D) (front : Front) (buffer : Buffer) → has_room w.ring.events ≡ true
      → Leaves w (unit_went kind w front buffer) front (where_there w.ring.memory (part_here w buffer))
  unfolding unit_went unit_some unit_lost
  unit_went-leaves w front buffer room = by_tests (unit_count kind w buffer == 0) (is_there w.ring.memory (buffer.pointer + w.ring.consumer.progress.moved) (unit_count kind w buffer))
    where
      by_tests : (none there : Bool) → LeavesElse w.ring.memory w.ring.events
          (if none then unit_moved kind w front buffer
          else (if there then unit_moved kind (sent_to kind w (buffer.pointer + w.ring.consumer.progress.moved) (unit_count kind w buffer)) front buffer
          else unit_lost kind w front buffer)).ring front.home
          (if there then part_here w buffer else nowhere)
      by_tests true there = in_part (unit_moved-keeps w front buffer room)
      by_tests false true = sent_to-leaves w front buffer room
      by_tests false false = in_part (failed-keeps w.ring front buffer.length buffer.flags room)

  unit_ran-leaves : (w : TagWorld D) (front : Front) (buffer : Buffer) → has_room w.ring.events ≡ true
      → Leaves w (unit_ran kind w front buffer).0 front (where_there w.ring.memory (part_here w buffer))
  unfolding unit_ran
  unit_ran-leaves w front buffer room = by_tests (has_unit w.tag) (nat_le buffer.length w.ring.consumer.progress.moved)
    where
      by_tests : (some full : Bool) → LeavesDone w
          (if some then (unit_went kind w front buffer, Worked)
          else if full then (status_with kind w (filled w.ring front buffer.flags) w.tag, Worked)
          else (w, Waits)) front (where_there w.ring.memory (part_here w buffer))
      by_tests true full = unit_went-leaves w front buffer room
      by_tests false true = in_part (filled-keeps w.ring front buffer.flags room)
      by_tests false false = in_part (unchanged w.ring front.home)

  -- the next unit is taken beside the ring
  pub ready_ring : (w : TagWorld D) (number : ℕ) (due : Bool) → (unit_ready kind w number due).ring ≡ w.ring
  unfolding overlap_taken answer_taken
  ready_ring w number due = by_tests (has_unit w.tag) (not (w.tag.overlaps == 0)) due
    where
      by_tests : (has overlaps due : Bool) → (if has then w else (if overlaps then overlap_taken kind w number else if due then answer_taken kind w number else w)).ring ≡ w.ring
      by_tests true overlaps due = refl
      by_tests false true due = refl
      by_tests false false true = refl
      by_tests false false false = refl

  status_normal-leaves : (ending : Ending) (w : TagWorld D) (number : ℕ) (due : Bool) (front : Front) (buffer : Buffer) → has_room w.ring.events ≡ true
      → Leaves w (status_normal kind ending w number due front buffer).0 front
      (part_of w.ring.memory w.ring.consumer (coming_status kind w number due) (if runs ending then Some buffer else None))
  status_normal-leaves Runs w number due front buffer room =
      let v = unit_ready kind w number due in
      let new = (unit_ran kind v front buffer).0.ring in
      let same = ready_ring w number due in
      let room_there : has_room v.ring.events ≡ true = subst (λ (ring : World). has_room ring.events ≡ true) (sym same) room in
      subst (λ (ring : World). LeavesElse ring.memory ring.events new front.home (part_of ring.memory ring.consumer (coming_status kind w number due) (Some buffer)))
      same (unit_ran-leaves v front buffer room_there)
  status_normal-leaves (Told code) w number due front buffer room = in_part (skipped-keeps w.ring front buffer.length buffer.flags room)
  status_normal-leaves Owed w number due front buffer room = in_part (skipped-keeps w.ring front buffer.length buffer.flags room)

  unit_over-keeps : (out : Bool) (w : TagWorld D) (front : Front) (trb : PipeTrb) (flags : Flags) → has_room w.ring.events ≡ true
      → Keeps w.ring.memory w.ring.events (unit_over kind out w front trb flags).ring front.home
  unfolding unit_babbled
  unit_over-keeps true w front trb flags room = took_other-keeps w.ring front trb room
  unit_over-keeps false w front trb flags room = babbled-keeps w.ring front flags room

  status_ending-keeps : (w : TagWorld D) (front : Front) (trb : PipeTrb) (flags : Flags) → has_room w.ring.events ≡ true
      → Keeps w.ring.memory w.ring.events (status_ending kind w front trb flags).ring front.home
  status_ending-keeps w front trb flags room = by_end (has_begun w.tag && not flags.chain)
    where
      by_end : (ends : Bool) → Keeps w.ring.memory w.ring.events
          (if ends then unit_over kind (is_out w.tag) w front trb flags else status_with kind w (took_other w.ring front trb) w.tag).ring front.home
      by_end true = unit_over-keeps (is_out w.tag) w front trb flags room
      by_end false = took_other-keeps w.ring front trb room

  status_acted-leaves : (found : Found) (w : TagWorld D) (number : ℕ) (due : Bool) (front : Front) → has_room w.ring.events ≡ true
      → Leaves w (status_acted kind w number due front found).0 front
      (part_of w.ring.memory w.ring.consumer (coming_status kind w number due) (if runs w.ring.consumer.progress.ending then buffer_of found else None))
  status_acted-leaves WrongKind w number due front room = in_part (refused-keeps w.ring 10 front.home room)
  status_acted-leaves NotYet w number due front room = in_part (used_up-keeps w.ring front.home)
  status_acted-leaves (Item (Normal pointer length flags)) w number due front room =
      status_normal-leaves w.ring.consumer.progress.ending w number due front (record { pointer = pointer; length = length; flags = flags }) room
  status_acted-leaves (Item (Link pointer toggle flags)) w number due front room = in_part (took_other-keeps w.ring front (Link pointer toggle flags) room)
  status_acted-leaves (Item (NoOp flags)) w number due front room = in_part (status_ending-keeps w front (NoOp flags) flags room)
  status_acted-leaves (Item (EventData parameter flags)) w number due front room = in_part (status_ending-keeps w front (EventData parameter flags) flags room)
  status_acted-leaves (Item Foreign) w number due front room = in_part (took_other-keeps w.ring front Foreign room)

  pub status_leaves : StatusLeavesElse kind
  status_leaves w number due home =
      by_front w w.ring home (status_at kind w number due)
      (λ (new : TagWorld D) (f : Option Front). LeavesElse w.ring.memory w.ring.events new.ring home
      (part_of w.ring.memory w.ring.consumer (coming_status kind w number due) (f >>= moving w.ring.consumer)))
      (in_part (unchanged w.ring home))
      (λ front there room. subst (λ (h : Home). LeavesElse w.ring.memory w.ring.events (status_at kind w number due front).0.ring h
      (part_of w.ring.memory w.ring.consumer (coming_status kind w number due) (moving w.ring.consumer front))) there (status_acted-leaves front.found w number due front room))
