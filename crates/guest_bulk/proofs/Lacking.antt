-- A step that lacks nothing isn't refused, and what a step lacks isn't there.
use Rattle.std.proofs.Common.{◌≡◌, ℕ, ◌-◌, Bool, true, false, length as list_length, Option, Some, None, refl, sym, arith}
use Rattle.std.proofs.lemmas.Bool.{false≢true}
use Rattle.std.proofs.lemmas.Option.{none-some}
use Rattle.std.specs.Prelude.{is_some, if◌then◌else◌, min, option_map}
use Rattle.guest_memory.specs.Bytes.{Memory}
use Rattle.guest_memory.specs.declared.rings.context.Front.{Front}
use Rattle.guest_memory.specs.declared.rings.context.Home.{Home}
use Rattle.guest_memory.specs.declared.rings.wanting.Range.{Range}
use Rattle.guest_memory.specs.rings.Ends.{looked}
use Rattle.guest_memory.specs.rings.Wanted.{LacksIt, look_wanted, part_wanted}
use Rattle.guest_memory.specs.rings.WantedLaws.{look_lacks, look_there, part_lacks}
use Rattle.guest_pipes.specs.declared.acted.Acted.{Acted}
use Rattle.guest_pipes.specs.declared.consumer.Consumer.{Consumer}
use Rattle.guest_pipes.specs.Gate.{gate}
use Rattle.guest_pipes.specs.Wanted.{wanted_of, wanted_through}
use Rattle.guest_pipes.specs.WantedLaws.{gate_lacks}
use Rattle.guest_tags.specs.declared.buffer.Buffer.{Buffer}
use Rattle.guest_tags.specs.Devices.{Kind}
use Rattle.guest_tags.specs.Wanted.{moved_part, moving}
use Rattle.guest_out.specs.Immediate.{is_immediate}
use Rattle.guest_out.specs.Wanted.{drawn_part}
use Rattle.guest_bulk.specs.declared.bulk.BulkStage.{BulkStage}
use Rattle.guest_bulk.specs.declared.bulk.BulkStage.TheVariants.{Awaits, Faulty, Moves, Tells}
use Rattle.guest_bulk.specs.declared.bulk.Stepped.{Stepped}
use Rattle.guest_bulk.specs.Commands.{BulkWorld, takes_bytes}
use Rattle.guest_bulk.specs.Steps.{bulk_after, bulk_through, in_at, in_stepped, out_at, out_stepped}
use Rattle.guest_bulk.specs.Wanted.{coming_by, in_part, in_wanted, out_part, out_part_by, out_wanted, taken_data}

moved_lacks : (memory : Memory) (consumer : Consumer) (coming : ℕ) (buffer : Option Buffer) → LacksIt memory (moved_part memory consumer coming buffer)
moved_lacks memory consumer coming None = tt
moved_lacks memory consumer coming (Some buffer) =
    part_lacks memory buffer.pointer consumer.progress.moved (min coming (buffer.length - consumer.progress.moved))

drawn_lacks : (memory : Memory) (buffer : Buffer) (moved count : ℕ) → LacksIt memory (drawn_part memory buffer moved count)
drawn_lacks memory buffer moved count = by_place (is_immediate buffer)
  where
    by_place : (immediate : Bool) → LacksIt memory (if immediate then None else part_wanted memory buffer.pointer moved count)
    by_place true = tt
    by_place false = part_lacks memory buffer.pointer moved count

module _ {D : Type 0} where
  -- whatever is done at the ring's end
  step_there : (w : BulkWorld D) (home : Home) (part : Front → Option Range) (act : Front → BulkWorld D × Stepped)
      → wanted_through (gate w.ring.memory w.ring.events w.ring.consumer) w.ring.events
      (wanted_of (looked w.ring.memory home) (look_wanted w.ring.memory home) part) ≡ None
      → is_some (bulk_through w (gate w.ring.memory w.ring.events w.ring.consumer) (option_map act (looked w.ring.memory home))) ≡ true
  step_there w home part act none =
      by_gate (gate w.ring.memory w.ring.events w.ring.consumer) (looked w.ring.memory home) (look_there w.ring.memory home) none
    where
      by_gate : (opens : Option (Option Acted)) (found : Option Front) → (look_wanted w.ring.memory home ≡ None → is_some found ≡ true)
          → wanted_through opens w.ring.events (wanted_of found (look_wanted w.ring.memory home) part) ≡ None
          → is_some (bulk_through w opens (option_map act found)) ≡ true
      by_gate None found there none = absurd (none-some _ (sym none))
      by_gate (Some None) None there none = absurd (false≢true (there none))
      by_gate (Some None) (Some front) there none = refl
      by_gate (Some (Some acted)) found there none = refl

  step_lacks : (w : BulkWorld D) (home : Home) (part : Front → Option Range) → ((front : Front) → LacksIt w.ring.memory (part front))
      → LacksIt w.ring.memory (wanted_through (gate w.ring.memory w.ring.events w.ring.consumer) w.ring.events
      (wanted_of (looked w.ring.memory home) (look_wanted w.ring.memory home) part))
  step_lacks w home part parts = by_gate (gate w.ring.memory w.ring.events w.ring.consumer) refl (looked w.ring.memory home)
    where
      by_gate : (opens : Option (Option Acted)) → gate w.ring.memory w.ring.events w.ring.consumer ≡ opens → (found : Option Front)
          → LacksIt w.ring.memory (wanted_through opens w.ring.events (wanted_of found (look_wanted w.ring.memory home) part))
      by_gate None is found = (omega arith, gate_lacks w.ring.memory w.ring.events w.ring.consumer is)
      by_gate (Some None) is None = look_lacks w.ring.memory home
      by_gate (Some None) is (Some front) = parts front
      by_gate (Some (Some acted)) is found = tt

  after_there : (w : BulkWorld D) (step : Option (BulkWorld D × Stepped)) → is_some step ≡ true → is_some (bulk_after w step).1 ≡ true
  after_there w None some = absurd (false≢true some)
  after_there w (Some done) some = refl

module _ {D : Type 0} (kind : Kind D) where
  pub in_there : (fault : Option ℕ) (w : BulkWorld D) (home : Home) → in_wanted kind fault w home ≡ None
      → is_some (bulk_after w (in_stepped kind fault w home)).1 ≡ true
  in_there fault w home none = after_there w (in_stepped kind fault w home) (step_there w home (in_part kind fault w) (in_at kind fault w) none)

  pub out_there : (fault : Option ℕ) (w : BulkWorld D) (home : Home) → out_wanted kind fault w home ≡ None
      → is_some (bulk_after w (out_stepped kind fault w home)).1 ≡ true
  out_there fault w home none = after_there w (out_stepped kind fault w home) (step_there w home (out_part kind fault w) (out_at kind fault w) none)

  in_lacking : (fault : Option ℕ) (w : BulkWorld D) (front : Front) → LacksIt w.ring.memory (in_part kind fault w front)
  in_lacking (Some code) w front = tt
  in_lacking None w front =
      moved_lacks w.ring.memory w.ring.consumer (coming_by kind w.bulk.stage w.ring.consumer.progress.fed w.bulk w.device) (moving w.ring.consumer front)

  pub in_lacks : (fault : Option ℕ) (w : BulkWorld D) (home : Home) → LacksIt w.ring.memory (in_wanted kind fault w home)
  in_lacks fault w home = step_lacks w home (in_part kind fault w) (λ front. in_lacking fault w front)

  part_lacking : (stage : BulkStage) (w : BulkWorld D) (buffer : Option Buffer) → LacksIt w.ring.memory (out_part_by kind stage w buffer)
  part_lacking Awaits w None = tt
  part_lacking Faulty w None = tt
  part_lacking (Moves command) w None = tt
  part_lacking (Tells csw sent) w None = tt
  part_lacking Awaits w (Some buffer) = by_fed w.ring.consumer.progress.fed
    where
      by_fed : (fed : Bool)
          → LacksIt w.ring.memory (if fed then None else drawn_part w.ring.memory buffer 0 (min buffer.length (1024 - list_length w.bulk.taken)))
      by_fed true = tt
      by_fed false = drawn_lacks w.ring.memory buffer 0 (min buffer.length (1024 - list_length w.bulk.taken))
  part_lacking Faulty w (Some buffer) = tt
  part_lacking (Moves command) w (Some buffer) = by_way (takes_bytes command)
    where
      by_way : (takes : Bool)
          → LacksIt w.ring.memory (if takes then drawn_part w.ring.memory buffer w.ring.consumer.progress.moved (taken_data kind w.bulk w.device command (buffer.length - w.ring.consumer.progress.moved)) else None)
      by_way true = drawn_lacks w.ring.memory buffer w.ring.consumer.progress.moved (taken_data kind w.bulk w.device command (buffer.length - w.ring.consumer.progress.moved))
      by_way false = tt
  part_lacking (Tells csw sent) w (Some buffer) = tt

  out_lacking : (fault : Option ℕ) (w : BulkWorld D) (front : Front) → LacksIt w.ring.memory (out_part kind fault w front)
  out_lacking (Some code) w front = tt
  out_lacking None w front = part_lacking w.bulk.stage w (moving w.ring.consumer front)

  pub out_lacks : (fault : Option ℕ) (w : BulkWorld D) (home : Home) → LacksIt w.ring.memory (out_wanted kind fault w home)
  out_lacks fault w home = step_lacks w home (out_part kind fault w) (λ front. out_lacking fault w front)
