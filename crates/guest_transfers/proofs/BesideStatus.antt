-- A step of status that lacks nothing is the same with another memory beside this one.
use Rattle.std.proofs.Common.{◌≡◌, ℕ, ◌+◌, ◌-◌, ◌==◌, Bool, true, false, length as list_length, take, Some, None, refl, sym, ap, subst, ◌∙◌, ◌&&◌}
use Rattle.std.specs.Prelude.{not, min, nat_le, nat_lt, if◌then◌else◌}
use Rattle.guest_memory.specs.Bytes.{Memory, is_there}
use Rattle.guest_memory.specs.declared.rings.context.Front.{Front}
use Rattle.guest_memory.specs.declared.rings.context.Found.{Found}
use Rattle.guest_memory.specs.declared.rings.context.Found.TheVariants.{WrongKind, NotYet, Item}
use Rattle.guest_memory.specs.declared.rings.trb.Flags.{Flags}
use Rattle.guest_memory.specs.declared.rings.trb.PipeTrb.{PipeTrb}
use Rattle.guest_memory.specs.declared.rings.trb.PipeTrb.TheVariants.{Normal, Link, NoOp, EventData, Foreign}
use Rattle.guest_memory.specs.rings.WantedLaws.{part_there}
use Rattle.guest_pipes.specs.declared.acted.Acted.{Acted}
use Rattle.guest_pipes.specs.declared.acted.Acted.TheVariants.{Waits, Worked}
use Rattle.guest_pipes.specs.declared.progress.Ending.{Ending}
use Rattle.guest_pipes.specs.declared.progress.Ending.TheVariants.{Runs, Told, Owed}
use Rattle.guest_pipes.specs.Progress.{runs}
use Rattle.guest_pipes.specs.Step.{World, filled}
use Rattle.guest_tags.specs.declared.buffer.Buffer.{Buffer}
use Rattle.guest_tags.specs.declared.tag.Tag.{Tag}
use Rattle.guest_tags.specs.Devices.{Kind}
use Rattle.guest_tags.specs.Tags.{TagWorld}
use Rattle.guest_tags.specs.Status.{answer_taken, has_begun, has_unit, is_out, left_of, nothing, overlap_taken, rewound, sent_to, status_acted, status_ending, status_normal, status_other, status_with}
use Rattle.guest_tags.specs.Status.{unit_babbled, unit_count, unit_full, unit_moved, unit_on, unit_over, unit_ran, unit_ready, unit_short, unit_some, unit_went, with_unit}
use Rattle.guest_tags.specs.Wanted.{buffer_of, coming_status, moved_part}
use Rattle.guest_transfers.proofs.BesideRing.{babbled-beside, filled-beside, poured-beside, refused-beside, ring_beside, shortened-beside, skipped-beside, there-beside, took_other-beside}
use Rattle.guest_transfers.proofs.BesideTags.{done_beside, tag_beside}

module _ {D : Type 0} (kind : Kind D) where
  with_tag : (w : TagWorld D) (tag : Tag) (a b : World) → a ≡ b → status_with kind w a tag ≡ status_with kind w b tag
  with_tag w tag a b same = let out : World → TagWorld D = λ v. status_with kind w v tag in ap out same

  worked : (a b : TagWorld D) → a ≡ b → ◌≡◌ {A = TagWorld D × Acted} (a, Worked) (b, Worked)
  worked a b same = let out : TagWorld D → TagWorld D × Acted = λ v. (v, Worked) in ap out same

  -- taking the next unit has nothing to do with memory
  ready-beside : (w : TagWorld D) (rest : Memory) (number : ℕ) (due : Bool) → tag_beside kind (unit_ready kind w number due) rest ≡ unit_ready kind (tag_beside kind w rest) number due
  unfolding overlap_taken answer_taken
  ready-beside w rest number due = by_tests (has_unit w.tag) (not (w.tag.overlaps == 0)) due
    where
      by_tests : (some overlaps is_due : Bool)
          → tag_beside kind (if some then w else (if overlaps then overlap_taken kind w number else if is_due then answer_taken kind w number else w)) rest
          ≡ (if some then tag_beside kind w rest else (if overlaps then overlap_taken kind (tag_beside kind w rest) number else if is_due then answer_taken kind (tag_beside kind w rest) number else tag_beside kind w rest))
      by_tests true overlaps is_due = refl
      by_tests false true is_due = refl
      by_tests false false true = refl
      by_tests false false false = refl

  ready_ring : (w : TagWorld D) (number : ℕ) (due : Bool) → (unit_ready kind w number due).ring ≡ w.ring
  unfolding overlap_taken answer_taken
  ready_ring w number due = by_tests (has_unit w.tag) (not (w.tag.overlaps == 0)) due
    where
      by_tests : (some overlaps is_due : Bool)
          → (if some then w else (if overlaps then overlap_taken kind w number else if is_due then answer_taken kind w number else w)).ring ≡ w.ring
      by_tests true overlaps is_due = refl
      by_tests false true is_due = refl
      by_tests false false true = refl
      by_tests false false false = refl

  sent_to-beside : (w : TagWorld D) (rest : Memory) (to count : ℕ) → tag_beside kind (sent_to kind w to count) rest ≡ sent_to kind (tag_beside kind w rest) to count
  unfolding sent_to
  sent_to-beside w rest to count =
      with_tag w (with_unit w.tag (record w.tag.unit { sent = w.tag.unit.sent + count })) _ _ (poured-beside w.ring rest to (take count (left_of w.tag.unit)))

  short-beside : (w : TagWorld D) (rest : Memory) (front : Front) (buffer : Buffer) → tag_beside kind (unit_short kind w front buffer) rest ≡ unit_short kind (tag_beside kind w rest) front buffer
  unfolding unit_short
  short-beside w rest front buffer =
      with_tag w (with_unit w.tag nothing) _ _ (shortened-beside w.ring rest front (buffer.length - w.ring.consumer.progress.moved) buffer.flags)

  full-beside : (w : TagWorld D) (rest : Memory) (front : Front) (flags : Flags) → tag_beside kind (unit_full kind w front flags) rest ≡ unit_full kind (tag_beside kind w rest) front flags
  unfolding unit_full
  full-beside w rest front flags = with_tag w (with_unit w.tag nothing) _ _ (filled-beside w.ring rest front flags)

  unit_babbled-beside : (w : TagWorld D) (rest : Memory) (front : Front) (flags : Flags) → tag_beside kind (unit_babbled kind w front flags) rest ≡ unit_babbled kind (tag_beside kind w rest) front flags
  unfolding unit_babbled
  unit_babbled-beside w rest front flags = with_tag w (rewound w.tag) _ _ (babbled-beside w.ring rest front flags)

  on-beside : (chain out : Bool) (w : TagWorld D) (rest : Memory) (front : Front) (flags : Flags)
      → tag_beside kind (unit_on kind chain out w front flags) rest ≡ unit_on kind chain out (tag_beside kind w rest) front flags
  on-beside true out w rest front flags = with_tag w w.tag _ _ (filled-beside w.ring rest front flags)
  on-beside false true w rest front flags = full-beside w rest front flags
  on-beside false false w rest front flags = unit_babbled-beside w rest front flags

  moved-beside : (w : TagWorld D) (rest : Memory) (front : Front) (buffer : Buffer) → tag_beside kind (unit_moved kind w front buffer) rest ≡ unit_moved kind (tag_beside kind w rest) front buffer
  moved-beside w rest front buffer = by_room (nat_lt w.ring.consumer.progress.moved buffer.length)
    where
      by_room : (room : Bool) → tag_beside kind (if room then unit_short kind w front buffer else unit_on kind buffer.flags.chain (is_out w.tag) w front buffer.flags) rest
          ≡ (if room then unit_short kind (tag_beside kind w rest) front buffer else unit_on kind buffer.flags.chain (is_out w.tag) (tag_beside kind w rest) front buffer.flags)
      by_room true = short-beside w rest front buffer
      by_room false = on-beside buffer.flags.chain (is_out w.tag) w rest front buffer.flags

  some-beside : (w : TagWorld D) (rest : Memory) (count : ℕ) (front : Front) (buffer : Buffer)
      → is_there w.ring.memory (buffer.pointer + w.ring.consumer.progress.moved) count ≡ true
      → tag_beside kind (unit_some kind w count front buffer) rest ≡ unit_some kind (tag_beside kind w rest) count front buffer
  unfolding unit_some
  some-beside w rest count front buffer there =
      let to = buffer.pointer + w.ring.consumer.progress.moved in
      let next : TagWorld D → TagWorld D = λ v. unit_moved kind v front buffer in
      rw (there, there-beside w.ring.memory rest to count there)
      (moved-beside (sent_to kind w to count) rest front buffer ∙ ap next (sent_to-beside w rest to count))

  went-beside : (w : TagWorld D) (rest : Memory) (front : Front) (buffer : Buffer)
      → is_there w.ring.memory (buffer.pointer + w.ring.consumer.progress.moved) (unit_count kind w buffer) ≡ true
      → tag_beside kind (unit_went kind w front buffer) rest ≡ unit_went kind (tag_beside kind w rest) front buffer
  unfolding unit_went
  went-beside w rest front buffer there = by_count (unit_count kind w buffer == 0)
    where
      by_count : (nought : Bool) → tag_beside kind (if nought then unit_moved kind w front buffer else unit_some kind w (unit_count kind w buffer) front buffer) rest
          ≡ (if nought then unit_moved kind (tag_beside kind w rest) front buffer else unit_some kind (tag_beside kind w rest) (unit_count kind w buffer) front buffer)
      by_count true = moved-beside w rest front buffer
      by_count false = some-beside w rest (unit_count kind w buffer) front buffer there

  unit_ran-beside : (w : TagWorld D) (rest : Memory) (front : Front) (buffer : Buffer)
      → is_there w.ring.memory (buffer.pointer + w.ring.consumer.progress.moved) (unit_count kind w buffer) ≡ true
      → done_beside kind (unit_ran kind w front buffer) rest ≡ unit_ran kind (tag_beside kind w rest) front buffer
  unfolding unit_ran
  unit_ran-beside w rest front buffer there = by_tests (has_unit w.tag) (nat_le buffer.length w.ring.consumer.progress.moved)
    where
      by_tests : (some full : Bool)
          → done_beside kind (if some then (unit_went kind w front buffer, Worked) else if full then (status_with kind w (filled w.ring front buffer.flags) w.tag, Worked) else (w, Waits)) rest
          ≡ (if some then (unit_went kind (tag_beside kind w rest) front buffer, Worked)
          else if full then (status_with kind (tag_beside kind w rest) (filled (ring_beside w.ring rest) front buffer.flags) w.tag, Worked) else (tag_beside kind w rest, Waits))
      by_tests true full = worked _ _ (went-beside w rest front buffer there)
      by_tests false true = worked _ _ (with_tag w w.tag _ _ (filled-beside w.ring rest front buffer.flags))
      by_tests false false = refl

  status_normal-beside : (ending : Ending) (w : TagWorld D) (rest : Memory) (number : ℕ) (due : Bool) (front : Front) (buffer : Buffer)
      → (if runs ending then moved_part w.ring.memory w.ring.consumer (coming_status kind w number due) (Some buffer) else None) ≡ None
      → done_beside kind (status_normal kind ending w number due front buffer) rest ≡ status_normal kind ending (tag_beside kind w rest) number due front buffer
  status_normal-beside Runs w rest number due front buffer none =
      let v = unit_ready kind w number due in
      let next : TagWorld D → TagWorld D × Acted = λ u. unit_ran kind u front buffer in
      let Fits : World → Type 0 = λ ring. is_there ring.memory (buffer.pointer + ring.consumer.progress.moved) (min (list_length (left_of v.tag.unit)) (buffer.length - ring.consumer.progress.moved)) ≡ true in
      let there : Fits w.ring = part_there w.ring.memory buffer.pointer w.ring.consumer.progress.moved (min (coming_status kind w number due) (buffer.length - w.ring.consumer.progress.moved)) none in
      unit_ran-beside v rest front buffer (subst Fits (sym (ready_ring w number due)) there) ∙ ap next (ready-beside w rest number due)
  status_normal-beside (Told code) w rest number due front buffer none = worked _ _ (with_tag w w.tag _ _ (skipped-beside w.ring rest front buffer.length buffer.flags))
  status_normal-beside Owed w rest number due front buffer none = worked _ _ (with_tag w w.tag _ _ (skipped-beside w.ring rest front buffer.length buffer.flags))

  other-beside : (w : TagWorld D) (rest : Memory) (front : Front) (trb : PipeTrb) → tag_beside kind (status_other kind w front trb) rest ≡ status_other kind (tag_beside kind w rest) front trb
  other-beside w rest front trb = with_tag w w.tag _ _ (took_other-beside w.ring rest front trb)

  over-beside : (out : Bool) (w : TagWorld D) (rest : Memory) (front : Front) (trb : PipeTrb) (flags : Flags)
      → tag_beside kind (unit_over kind out w front trb flags) rest ≡ unit_over kind out (tag_beside kind w rest) front trb flags
  over-beside true w rest front trb flags = with_tag w (with_unit w.tag nothing) _ _ (took_other-beside w.ring rest front trb)
  over-beside false w rest front trb flags = unit_babbled-beside w rest front flags

  ending-beside : (w : TagWorld D) (rest : Memory) (front : Front) (trb : PipeTrb) (flags : Flags)
      → tag_beside kind (status_ending kind w front trb flags) rest ≡ status_ending kind (tag_beside kind w rest) front trb flags
  ending-beside w rest front trb flags = by_last (has_begun w.tag && not flags.chain)
    where
      by_last : (last : Bool) → tag_beside kind (if last then unit_over kind (is_out w.tag) w front trb flags else status_other kind w front trb) rest
          ≡ (if last then unit_over kind (is_out w.tag) (tag_beside kind w rest) front trb flags else status_other kind (tag_beside kind w rest) front trb)
      by_last true = over-beside (is_out w.tag) w rest front trb flags
      by_last false = other-beside w rest front trb

  pub status_acted-beside : (found : Found) (w : TagWorld D) (rest : Memory) (number : ℕ) (due : Bool) (front : Front)
      → moved_part w.ring.memory w.ring.consumer (coming_status kind w number due) (if runs w.ring.consumer.progress.ending then buffer_of found else None) ≡ None
      → done_beside kind (status_acted kind w number due front found) rest ≡ status_acted kind (tag_beside kind w rest) number due front found
  status_acted-beside WrongKind w rest number due front none = worked _ _ (with_tag w w.tag _ _ (refused-beside w.ring rest 10))
  status_acted-beside NotYet w rest number due front none = refl
  status_acted-beside (Item (Normal pointer length flags)) w rest number due front none =
      status_normal-beside w.ring.consumer.progress.ending w rest number due front (record { pointer = pointer; length = length; flags = flags })
      (by_ending (runs w.ring.consumer.progress.ending) none)
    where
      by_ending : (moves : Bool) → moved_part w.ring.memory w.ring.consumer (coming_status kind w number due) (if moves then Some (record { pointer = pointer; length = length; flags = flags }) else None) ≡ None
          → (if moves then moved_part w.ring.memory w.ring.consumer (coming_status kind w number due) (Some (record { pointer = pointer; length = length; flags = flags })) else None) ≡ None
      by_ending true none = none
      by_ending false none = refl
  status_acted-beside (Item (Link pointer toggle flags)) w rest number due front none = worked _ _ (other-beside w rest front (Link pointer toggle flags))
  status_acted-beside (Item (NoOp flags)) w rest number due front none = worked _ _ (ending-beside w rest front (NoOp flags) flags)
  status_acted-beside (Item (EventData parameter flags)) w rest number due front none = worked _ _ (ending-beside w rest front (EventData parameter flags) flags)
  status_acted-beside (Item Foreign) w rest number due front none = worked _ _ (other-beside w rest front Foreign)
