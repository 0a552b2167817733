-- A step of Bulk-Out and one of Bulk-In: one equation over memory, event ring, consumer, transport and device. Where the endpoint
-- isn't served, as one that the disk has halted (USB 3.2, 9.4.5), the TDs whose bytes move are told with a code, and any other TRB is taken as ever.
use Rattle.std.specs.Prelude.{ℕ, Option, None, Some, option_map}
use Rattle.guest_memory.specs.declared.rings.context.Home.{Home}
use Rattle.guest_memory.specs.declared.rings.context.Front.{Front}
use Rattle.guest_memory.specs.declared.rings.context.Found.{Found}
use Rattle.guest_memory.specs.declared.rings.context.Found.TheVariants.{WrongKind, NotYet, Item}
use Rattle.guest_memory.specs.declared.rings.trb.PipeTrb.{PipeTrb}
use Rattle.guest_memory.specs.declared.rings.trb.PipeTrb.TheVariants.{Normal, Link, NoOp, EventData, Foreign}
use Rattle.guest_memory.specs.rings.Ends.{looked}
use Rattle.guest_pipes.specs.declared.acted.Acted.{Acted}
use Rattle.guest_pipes.specs.declared.acted.Acted.TheVariants.{Emptied}
use Rattle.guest_pipes.specs.declared.progress.Ending.{Ending}
use Rattle.guest_pipes.specs.declared.progress.Ending.TheVariants.{Runs, Told, Owed}
use Rattle.guest_pipes.specs.Gate.{gate, took_other}
use Rattle.guest_pipes.specs.Step.{refused, skipped, used_up}
use Rattle.guest_pipes.specs.Unserved.{unserved_bytes}
use Rattle.guest_tags.specs.declared.buffer.Buffer.{Buffer}
use Rattle.guest_tags.specs.Devices.{Kind}
use Rattle.guest_bulk.specs.declared.bulk.Stepped.{Stepped}
use Rattle.guest_bulk.specs.Commands.{BulkWorld, with_ring}
use Rattle.guest_bulk.specs.Incoming.{in_last_by, in_staged}
use Rattle.guest_bulk.specs.Outgoing.{out_last, out_staged, plain, worked}

-- a step that nothing holds back
abbrev pub bulk_through : {D : Type 0} → BulkWorld D → Option (Option Acted) → Option (BulkWorld D × Stepped) → Option (BulkWorld D × Stepped)
bulk_through w None step = None
bulk_through w (Some None) step = step
bulk_through w (Some (Some acted)) step = Some (w, plain acted)

-- a refused step leaves the world
abbrev pub bulk_after : {D : Type 0} → BulkWorld D → Option (BulkWorld D × Stepped) → BulkWorld D × Option Stepped
bulk_after w None = (w, None)
bulk_after w (Some done) = (done.0, Some done.1)

-- a Normal TRB where the endpoint isn't served: one whose TD's bytes move is told with this code, and what is left of a TD that has
-- ended is skipped, and tells its end
abbrev pub unserved_step : {D : Type 0} → BulkWorld D → Front → Buffer → ℕ → BulkWorld D × Stepped
unserved_step w front buffer code =
    (with_ring w (unserved_bytes w.ring.consumer.progress.ending w.ring front code buffer.length buffer.flags), worked)

module _ {D : Type 0} (kind : Kind D) where
  -- BULK-OUT

  abbrev pub out_normal : Ending → BulkWorld D → Front → Buffer → BulkWorld D × Stepped
  out_normal Runs w front buffer = out_staged kind w.bulk.stage w front buffer
  out_normal (Told code) w front buffer = (with_ring w (skipped w.ring front buffer.length buffer.flags), worked)
  out_normal Owed w front buffer = (with_ring w (skipped w.ring front buffer.length buffer.flags), worked)

  -- a Normal TRB, by what is told of the endpoint's where it isn't served
  abbrev pub out_bytes : Option ℕ → BulkWorld D → Front → Buffer → BulkWorld D × Stepped
  out_bytes None w front buffer = out_normal w.ring.consumer.progress.ending w front buffer
  out_bytes (Some code) w front buffer = unserved_step w front buffer code

  abbrev pub out_took : Option ℕ → BulkWorld D → Front → PipeTrb → BulkWorld D × Stepped
  out_took fault w front (Normal pointer length flags) = out_bytes fault w front (record { pointer = pointer; length = length; flags = flags })
  out_took fault w front (Link pointer toggle flags) = (with_ring w (took_other w.ring front (Link pointer toggle flags)), worked)
  out_took fault w front (NoOp flags) = out_last kind w front (NoOp flags) flags
  out_took fault w front (EventData parameter flags) = out_last kind w front (EventData parameter flags) flags
  out_took fault w front Foreign = (with_ring w (took_other w.ring front Foreign), worked)

  abbrev pub out_acted : Option ℕ → BulkWorld D → Front → Found → BulkWorld D × Stepped
  out_acted fault w front WrongKind = (with_ring w (refused w.ring 10), worked)
  out_acted fault w front NotYet = (with_ring w (used_up w.ring), plain Emptied)
  out_acted fault w front (Item trb) = out_took fault w front trb

  abbrev pub out_at : Option ℕ → BulkWorld D → Front → BulkWorld D × Stepped
  out_at fault w front = out_acted fault w front front.found

  -- the ring's end is kept there; None where a byte of the controller's own structures isn't there
  abbrev pub out_stepped : Option ℕ → BulkWorld D → Home → Option (BulkWorld D × Stepped)
  out_stepped fault w home = bulk_through w (gate w.ring.memory w.ring.events w.ring.consumer) (option_map (out_at fault w) (looked w.ring.memory home))

  -- BULK-IN

  abbrev pub in_normal : Ending → BulkWorld D → Front → Buffer → BulkWorld D × Stepped
  in_normal Runs w front buffer = in_staged kind w.bulk.stage w front buffer
  in_normal (Told code) w front buffer = (with_ring w (skipped w.ring front buffer.length buffer.flags), worked)
  in_normal Owed w front buffer = (with_ring w (skipped w.ring front buffer.length buffer.flags), worked)

  -- a Normal TRB, by what is told of the endpoint's where it isn't served
  abbrev pub in_bytes : Option ℕ → BulkWorld D → Front → Buffer → BulkWorld D × Stepped
  in_bytes None w front buffer = in_normal w.ring.consumer.progress.ending w front buffer
  in_bytes (Some code) w front buffer = unserved_step w front buffer code

  abbrev pub in_took : Option ℕ → BulkWorld D → Front → PipeTrb → BulkWorld D × Stepped
  in_took fault w front (Normal pointer length flags) = in_bytes fault w front (record { pointer = pointer; length = length; flags = flags })
  in_took fault w front (Link pointer toggle flags) = (with_ring w (took_other w.ring front (Link pointer toggle flags)), worked)
  in_took fault w front (NoOp flags) = (in_last_by kind w.bulk.stage w front (NoOp flags) flags, worked)
  in_took fault w front (EventData parameter flags) = (in_last_by kind w.bulk.stage w front (EventData parameter flags) flags, worked)
  in_took fault w front Foreign = (with_ring w (took_other w.ring front Foreign), worked)

  abbrev pub in_acted : Option ℕ → BulkWorld D → Front → Found → BulkWorld D × Stepped
  in_acted fault w front WrongKind = (with_ring w (refused w.ring 10), worked)
  in_acted fault w front NotYet = (with_ring w (used_up w.ring), plain Emptied)
  in_acted fault w front (Item trb) = in_took fault w front trb

  abbrev pub in_at : Option ℕ → BulkWorld D → Front → BulkWorld D × Stepped
  in_at fault w front = in_acted fault w front front.found

  abbrev pub in_stepped : Option ℕ → BulkWorld D → Home → Option (BulkWorld D × Stepped)
  in_stepped fault w home = bulk_through w (gate w.ring.memory w.ring.events w.ring.consumer) (option_map (in_at fault w) (looked w.ring.memory home))
