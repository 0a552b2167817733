-- TDs that are no CBW, or too short, and endpoints that aren't served.
use Rattle.std.proofs.Common.{◌≡◌, ℕ, Bool, true, false, Option, Some, None, refl, sym, ap, ◌∙◌}
use Rattle.std.specs.Prelude.{not, ◌&&◌, option_map}
use Rattle.std.proofs.lemmas.Bool.{false≢true}
use Rattle.guest_memory.specs.declared.rings.context.Found.{Found}
use Rattle.guest_memory.specs.declared.rings.context.Found.TheVariants.{WrongKind, NotYet, Item}
use Rattle.guest_memory.specs.declared.rings.context.Front.{Front}
use Rattle.guest_memory.specs.declared.rings.trb.PipeTrb.TheVariants.{Normal, Link, NoOp, EventData, Foreign}
use Rattle.guest_memory.specs.rings.Ends.{looked}
use Rattle.guest_pipes.specs.declared.progress.Ending.{Ending}
use Rattle.guest_pipes.specs.declared.progress.Ending.TheVariants.{Runs, Told, Owed}
use Rattle.guest_pipes.specs.Gate.{gate, took_other}
use Rattle.guest_pipes.specs.Progress.{runs}
use Rattle.guest_pipes.specs.Unserved.{unserved_bytes}
use Rattle.guest_tags.specs.declared.buffer.Buffer.{Buffer}
use Rattle.guest_tags.specs.Devices.{Kind}
use Rattle.bulk_only.specs.Command.{cbw_in}
use Rattle.guest_bulk.specs.declared.bulk.Stepped.{Stepped}
use Rattle.guest_bulk.specs.Commands.{BulkWorld, cbw_taken, received_if, with_ring}
use Rattle.guest_bulk.specs.Outgoing.{halting, is_awaiting, worked}
use Rattle.guest_bulk.specs.Steps.{bulk_through, in_acted, in_at, in_normal, out_acted, out_at, out_normal}
use Rattle.guest_bulk.specs.Laws.{EmptyIsFaulty, EndedIsTaken, OthersAreNone, RunningIsStuck}

module _ {D : Type 0} (kind : Kind D) where
  pub empty_faulty : EmptyIsFaulty kind
  empty_faulty w front trb flags ends none =
      let now : BulkWorld D = with_ring w (took_other w.ring front trb) in
      ap (λ b. halting kind (received_if kind b now)) ends ∙ ap (λ taken. halting kind (cbw_taken kind (cbw_in taken) now)) none

  pub others_none : OthersAreNone kind
  others_none w front trb flags none =
      let now : BulkWorld D = with_ring w (took_other w.ring front trb) in
      ap (λ b. halting kind (received_if kind b now)) (by_stage (is_awaiting w.bulk.stage) w.bulk.gathers none)
    where
      by_stage : (awaits gathers : Bool) → gathers ≡ false
          → (awaits && gathers && runs w.ring.consumer.progress.ending && not flags.chain) ≡ false
      by_stage false gathers none = refl
      by_stage true false none = refl
      by_stage true true none = absurd (false≢true (sym none))

  -- a Normal TRB behind its TD's end
  in_skipped : (ending : Ending) (w : BulkWorld D) (front : Front) (buffer : Buffer) (code : ℕ) → runs ending ≡ false
      → (let after : BulkWorld D × Stepped = (with_ring w (unserved_bytes ending w.ring front code buffer.length buffer.flags), worked) in after)
      ≡ in_normal kind ending w front buffer
  in_skipped Runs w front buffer code over = absurd (false≢true (sym over))
  in_skipped (Told told) w front buffer code over = refl
  in_skipped Owed w front buffer code over = refl

  out_skipped : (ending : Ending) (w : BulkWorld D) (front : Front) (buffer : Buffer) (code : ℕ) → runs ending ≡ false
      → (let after : BulkWorld D × Stepped = (with_ring w (unserved_bytes ending w.ring front code buffer.length buffer.flags), worked) in after)
      ≡ out_normal kind ending w front buffer
  out_skipped Runs w front buffer code over = absurd (false≢true (sym over))
  out_skipped (Told told) w front buffer code over = refl
  out_skipped Owed w front buffer code over = refl

  in_same : (w : BulkWorld D) (front : Front) (code : ℕ) (found : Found) → runs w.ring.consumer.progress.ending ≡ false
      → in_acted kind (Some code) w front found ≡ in_acted kind None w front found
  in_same w front code WrongKind over = refl
  in_same w front code NotYet over = refl
  in_same w front code (Item (Normal pointer length flags)) over =
      in_skipped w.ring.consumer.progress.ending w front (record { pointer = pointer; length = length; flags = flags }) code over
  in_same w front code (Item (Link pointer toggle flags)) over = refl
  in_same w front code (Item (NoOp flags)) over = refl
  in_same w front code (Item (EventData parameter flags)) over = refl
  in_same w front code (Item Foreign) over = refl

  out_same : (w : BulkWorld D) (front : Front) (code : ℕ) (found : Found) → runs w.ring.consumer.progress.ending ≡ false
      → out_acted kind (Some code) w front found ≡ out_acted kind None w front found
  out_same w front code WrongKind over = refl
  out_same w front code NotYet over = refl
  out_same w front code (Item (Normal pointer length flags)) over =
      out_skipped w.ring.consumer.progress.ending w front (record { pointer = pointer; length = length; flags = flags }) code over
  out_same w front code (Item (Link pointer toggle flags)) over = refl
  out_same w front code (Item (NoOp flags)) over = refl
  out_same w front code (Item (EventData parameter flags)) over = refl
  out_same w front code (Item Foreign) over = refl

  pub ended_taken : EndedIsTaken kind
  ended_taken w home code over = (
    ap (λ step. bulk_through w (gate w.ring.memory w.ring.events w.ring.consumer) step) (in_found (looked w.ring.memory home)),
    ap (λ step. bulk_through w (gate w.ring.memory w.ring.events w.ring.consumer) step) (out_found (looked w.ring.memory home)),
  )
    where
      in_found : (found : Option Front) → option_map (in_at kind (Some code) w) found ≡ option_map (in_at kind None w) found
      in_found None = refl
      in_found (Some front) = ap (λ (done : BulkWorld D × Stepped). Some done) (in_same w front code front.found over)

      out_found : (found : Option Front) → option_map (out_at kind (Some code) w) found ≡ option_map (out_at kind None w) found
      out_found None = refl
      out_found (Some front) = ap (λ (done : BulkWorld D × Stepped). Some done) (out_same w front code front.found over)

  stuck_at : (ending : Ending) (w : BulkWorld D) (front : Front) (buffer : Buffer) (code left : ℕ) → runs ending ≡ true
      → unserved_bytes ending w.ring front code buffer.length buffer.flags ≡ unserved_bytes Runs w.ring front code buffer.length buffer.flags
  stuck_at Runs w front buffer code left moves = refl
  stuck_at (Told told) w front buffer code left moves = absurd (false≢true moves)
  stuck_at Owed w front buffer code left moves = absurd (false≢true moves)

  pub running_stuck : RunningIsStuck kind
  running_stuck w front buffer code moves =
      let same = ap (λ ring. (let after : BulkWorld D × Stepped = (with_ring w ring, worked) in after)) (stuck_at w.ring.consumer.progress.ending w front buffer code 0 moves) in
      (same, same)
