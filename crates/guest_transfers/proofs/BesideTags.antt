-- A step of data-in or status that lacks nothing is the same with another memory beside this one.
use Rattle.std.proofs.Common.{◌≡◌, ℕ, ◌+◌, ◌-◌, ◌≤◌, ◌==◌, Bool, true, false, [], length as list_length, take, drop, Some, None, refl, ap, ◌∙◌, arith, ◌&&◌}
use Rattle.std.specs.Prelude.{min, nat_le, if◌then◌else◌, unwrap_or}
use Rattle.guest_memory.specs.Bytes.{Memory, is_there}
use Rattle.guest_memory.specs.Ranges.{there_by_each, there_each}
use Rattle.guest_memory.specs.declared.rings.context.Front.{Front}
use Rattle.guest_memory.specs.declared.rings.context.Found.{Found}
use Rattle.guest_memory.specs.declared.rings.context.Found.TheVariants.{WrongKind, NotYet, Item}
use Rattle.guest_memory.specs.declared.rings.trb.PipeTrb.TheVariants.{Normal, Link, NoOp, EventData, Foreign}
use Rattle.guest_memory.specs.rings.WantedLaws.{part_there}
use Rattle.guest_pipes.specs.declared.acted.Acted.{Acted}
use Rattle.guest_pipes.specs.declared.acted.Acted.TheVariants.{Worked}
use Rattle.guest_pipes.specs.declared.progress.Ending.{Ending}
use Rattle.guest_pipes.specs.declared.progress.Ending.TheVariants.{Runs, Told, Owed}
use Rattle.guest_pipes.specs.Progress.{runs}
use Rattle.guest_pipes.specs.Step.{World, filled}
use Rattle.guest_tags.specs.declared.device.Phase.{Phase}
use Rattle.guest_tags.specs.declared.device.Phase.TheVariants.{Absent, Gives, Takes, Ended}
use Rattle.guest_tags.specs.declared.buffer.Buffer.{Buffer}
use Rattle.guest_tags.specs.Devices.{Kind}
use Rattle.guest_tags.specs.Tags.{TagWorld}
use Rattle.guest_tags.specs.DataIn.{acted, closed, closed_if, ends_td, filled_ring, gave_by, given_to, has_chunk, is_status, moved_count, moved_if, moved_in, normal, ran, refilled, with_ring}
use Rattle.guest_tags.specs.Wanted.{buffer_of, coming_in, given_next, moved_part}
use Rattle.guest_transfers.specs.Beside.{GivesAtMost}
use Rattle.guest_transfers.proofs.BesideRing.{filled-beside, filled_if-beside, poured-beside, refused-beside, ring_beside, shortened-beside, skipped-beside, there-beside, took_other-beside}

module _ {D : Type 0} (kind : Kind D) where
  -- all that a step for a tag may change, with that memory beside
  abbrev pub tag_beside : TagWorld D → Memory → TagWorld D
  tag_beside w rest = record w { ring = ring_beside w.ring rest }

  abbrev pub done_beside : TagWorld D × Acted → Memory → TagWorld D × Acted
  done_beside done rest = (tag_beside done.0 rest, done.1)

  with_worked : (w : TagWorld D) (a b : World) → a ≡ b → ◌≡◌ {A = TagWorld D × Acted} (record w { ring = a }, Worked) (record w { ring = b }, Worked)
  with_worked w a b same = let out : World → TagWorld D × Acted = λ v. (record w { ring = v }, Worked) in ap out same

  filled_ring-beside : (full : Bool) (w : TagWorld D) (rest : Memory) (front : Front) (buffer : Buffer)
      → tag_beside (filled_ring kind full w front buffer) rest ≡ filled_ring kind full (tag_beside w rest) front buffer
  filled_ring-beside full w rest front buffer =
      let out : World → TagWorld D = λ v. record w { ring = v } in
      ap out (filled_if-beside full w.ring rest front buffer.flags)

  given_to-beside : (w : TagWorld D) (rest : Memory) (to count : ℕ) → tag_beside (given_to kind w to count) rest ≡ given_to kind (tag_beside w rest) to count
  unfolding given_to
  given_to-beside w rest to count =
      let out : World → TagWorld D = λ v. record { ring = v; tag = record w.tag { chunk = drop count w.tag.chunk; gave = true }; device = w.device } in
      ap out (poured-beside w.ring rest to (take count w.tag.chunk))

  closed-beside : (w : TagWorld D) (rest : Memory) (front : Front) (buffer : Buffer) → tag_beside (closed kind w front buffer) rest ≡ closed kind (tag_beside w rest) front buffer
  unfolding closed
  closed-beside w rest front buffer =
      let out : World → TagWorld D = λ v. record { ring = v; tag = record w.tag { gave = true }; device = w.device } in
      ap out (shortened-beside w.ring rest front (buffer.length - w.ring.consumer.progress.moved) buffer.flags)

  moved_in-beside : (w : TagWorld D) (rest : Memory) (front : Front) (buffer : Buffer)
      → is_there w.ring.memory (buffer.pointer + w.ring.consumer.progress.moved) (moved_count kind w buffer) ≡ true
      → tag_beside (moved_in kind w front buffer) rest ≡ moved_in kind (tag_beside w rest) front buffer
  unfolding moved_in
  moved_in-beside w rest front buffer there =
      let to = buffer.pointer + w.ring.consumer.progress.moved in
      let count = moved_count kind w buffer in
      let full = w.ring.consumer.progress.moved + count == buffer.length in
      let next : TagWorld D → TagWorld D = λ v. filled_ring kind full v front buffer in
      rw (there, there-beside w.ring.memory rest to count there)
      (filled_ring-beside full (given_to kind w to count) rest front buffer ∙ ap next (given_to-beside w rest to count))

  moved_if-beside : (some : Bool) (w : TagWorld D) (rest : Memory) (front : Front) (buffer : Buffer)
      → is_there w.ring.memory (buffer.pointer + w.ring.consumer.progress.moved) (moved_count kind w buffer) ≡ true
      → tag_beside (moved_if kind some w front buffer) rest ≡ moved_if kind some (tag_beside w rest) front buffer
  moved_if-beside true w rest front buffer there = moved_in-beside w rest front buffer there
  moved_if-beside false w rest front buffer there = refl

  closed_if-beside : (closes : Bool) (w : TagWorld D) (rest : Memory) (front : Front) (buffer : Buffer)
      → done_beside (closed_if kind closes w front buffer) rest ≡ closed_if kind closes (tag_beside w rest) front buffer
  closed_if-beside true w rest front buffer =
      let out : TagWorld D → TagWorld D × Acted = λ v. (v, Worked) in ap out (closed-beside w rest front buffer)
  closed_if-beside false w rest front buffer = refl

  -- so many bytes of the chunk fit where room for at least as many is there
  part_of : (memory : Memory) (at n m : ℕ) → m ≤ n → is_there memory at n ≡ true → is_there memory at m ≡ true
  part_of memory at n m fewer there = there_by_each memory at m (λ k below. there_each memory at n there k (omega (arith, fewer, below)))

  gave_by-beside : (phase : Phase) (w : TagWorld D) (rest : Memory) (number : ℕ) (front : Front) (buffer : Buffer)
      → list_length (unwrap_or (kind.given w.device number) []) ≤ given_next phase
      → is_there w.ring.memory (buffer.pointer + w.ring.consumer.progress.moved) (min (given_next phase) (buffer.length - w.ring.consumer.progress.moved)) ≡ true
      → done_beside (gave_by kind phase w number front buffer) rest ≡ gave_by kind phase (tag_beside w rest) number front buffer
  unfolding refilled
  gave_by-beside Absent w rest number front buffer whole there = refl
  gave_by-beside (Gives count) w rest number front buffer whole there =
      let v = refilled kind w number in
      let out : TagWorld D → TagWorld D × Acted = λ u. (u, Worked) in
      let left = buffer.length - w.ring.consumer.progress.moved in
      let fewer : min (list_length (unwrap_or (kind.given w.device number) [])) left ≤ min count left = omega (arith, whole) in
      ap out (moved_if-beside (has_chunk v.tag) v rest front buffer
      (part_of w.ring.memory (buffer.pointer + w.ring.consumer.progress.moved) (min count left) (min (list_length (unwrap_or (kind.given w.device number) [])) left) fewer there))
  gave_by-beside (Takes count) w rest number front buffer whole there = refl
  gave_by-beside (Ended end) w rest number front buffer whole there =
      closed_if-beside (is_status end && ends_td w.tag w.ring.consumer.progress.fed) w rest front buffer

  ran-beside : (w : TagWorld D) (rest : Memory) (number : ℕ) (front : Front) (buffer : Buffer) → GivesAtMost kind w.device number
      → is_there w.ring.memory (buffer.pointer + w.ring.consumer.progress.moved) (min (coming_in kind w.tag w.device number) (buffer.length - w.ring.consumer.progress.moved)) ≡ true
      → done_beside (ran kind w number front buffer) rest ≡ ran kind (tag_beside w rest) number front buffer
  unfolding ran
  ran-beside w rest number front buffer whole there = by_tests (nat_le buffer.length w.ring.consumer.progress.moved) (has_chunk w.tag) refl there
    where
      by_tests : (full some : Bool) → has_chunk w.tag ≡ some
          → is_there w.ring.memory (buffer.pointer + w.ring.consumer.progress.moved) (min (if some then list_length w.tag.chunk else given_next (kind.phase w.device number)) (buffer.length - w.ring.consumer.progress.moved)) ≡ true
          → done_beside (if full then (with_ring kind w (filled w.ring front buffer.flags), Worked)
          else if some then (moved_in kind w front buffer, Worked)
          else gave_by kind (kind.phase w.device number) w number front buffer) rest
          ≡ (if full then (with_ring kind (tag_beside w rest) (filled (ring_beside w.ring rest) front buffer.flags), Worked)
          else if some then (moved_in kind (tag_beside w rest) front buffer, Worked)
          else gave_by kind (kind.phase w.device number) (tag_beside w rest) number front buffer)
      by_tests true some is there = with_worked w _ _ (filled-beside w.ring rest front buffer.flags)
      by_tests false true is there =
          let out : TagWorld D → TagWorld D × Acted = λ u. (u, Worked) in
          ap out (moved_in-beside w rest front buffer there)
      by_tests false false is there = gave_by-beside (kind.phase w.device number) w rest number front buffer whole there

  normal-beside : (ending : Ending) (w : TagWorld D) (rest : Memory) (number : ℕ) (front : Front) (buffer : Buffer) → GivesAtMost kind w.device number
      → (if runs ending then moved_part w.ring.memory w.ring.consumer (coming_in kind w.tag w.device number) (Some buffer) else None) ≡ None
      → done_beside (normal kind ending w number front buffer) rest ≡ normal kind ending (tag_beside w rest) number front buffer
  normal-beside Runs w rest number front buffer whole none =
      ran-beside w rest number front buffer whole
      (part_there w.ring.memory buffer.pointer w.ring.consumer.progress.moved (min (coming_in kind w.tag w.device number) (buffer.length - w.ring.consumer.progress.moved)) none)
  normal-beside (Told code) w rest number front buffer whole none = with_worked w _ _ (skipped-beside w.ring rest front buffer.length buffer.flags)
  normal-beside Owed w rest number front buffer whole none = with_worked w _ _ (skipped-beside w.ring rest front buffer.length buffer.flags)

  pub acted-beside : (found : Found) (w : TagWorld D) (rest : Memory) (number : ℕ) (front : Front) → GivesAtMost kind w.device number
      → moved_part w.ring.memory w.ring.consumer (coming_in kind w.tag w.device number) (if runs w.ring.consumer.progress.ending then buffer_of found else None) ≡ None
      → done_beside (acted kind w number front found) rest ≡ acted kind (tag_beside w rest) number front found
  acted-beside WrongKind w rest number front whole none = with_worked w _ _ (refused-beside w.ring rest 10)
  acted-beside NotYet w rest number front whole none = refl
  acted-beside (Item (Normal pointer length flags)) w rest number front whole none =
      normal-beside w.ring.consumer.progress.ending w rest number front (record { pointer = pointer; length = length; flags = flags }) whole
      (by_ending (runs w.ring.consumer.progress.ending) none)
    where
      by_ending : (moves : Bool) → moved_part w.ring.memory w.ring.consumer (coming_in kind w.tag w.device number) (if moves then Some (record { pointer = pointer; length = length; flags = flags }) else None) ≡ None
          → (if moves then moved_part w.ring.memory w.ring.consumer (coming_in kind w.tag w.device number) (Some (record { pointer = pointer; length = length; flags = flags })) else None) ≡ None
      by_ending true none = none
      by_ending false none = refl
  acted-beside (Item (Link pointer toggle flags)) w rest number front whole none = with_worked w _ _ (took_other-beside w.ring rest front (Link pointer toggle flags))
  acted-beside (Item (NoOp flags)) w rest number front whole none = with_worked w _ _ (took_other-beside w.ring rest front (NoOp flags))
  acted-beside (Item (EventData parameter flags)) w rest number front whole none = with_worked w _ _ (took_other-beside w.ring rest front (EventData parameter flags))
  acted-beside (Item Foreign) w rest number front whole none = with_worked w _ _ (took_other-beside w.ring rest front Foreign)
