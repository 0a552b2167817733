-- A step that lacks nothing isn't refused, and what a step lacks isn't there.
use Rattle.std.proofs.Common.{◌≡◌, ℕ, ◌-◌, Bool, true, false, length as list_length, Option, Some, None, refl, sym, arith}
use Rattle.std.proofs.lemmas.Bool.{false≢true}
use Rattle.std.proofs.lemmas.Option.{none-some}
use Rattle.std.specs.Prelude.{is_some, if◌then◌else◌, min, option_map}
use Rattle.guest_memory.specs.Bytes.{Memory, IsWithinAddresses}
use Rattle.guest_memory.specs.declared.rings.context.Front.{Front}
use Rattle.guest_memory.specs.declared.rings.context.Home.{Home}
use Rattle.guest_memory.specs.declared.rings.context.Home.TheVariants.{Endpoint}
use Rattle.guest_memory.specs.rings.Ends.{looked}
use Rattle.guest_memory.specs.rings.Wanted.{LacksIt, look_wanted, part_wanted}
use Rattle.guest_memory.specs.rings.WantedLaws.{look_lacks, look_there, part_lacks}
use Rattle.guest_pipes.specs.declared.acted.Acted.{Acted}
use Rattle.guest_pipes.specs.declared.consumer.Consumer.{Consumer}
use Rattle.guest_pipes.specs.Gate.{after, gate}
use Rattle.guest_pipes.specs.Pipe.{home_of}
use Rattle.guest_pipes.specs.Wanted.{wanted_of, wanted_through}
use Rattle.guest_pipes.specs.WantedLaws.{gate_lacks, step_lacks, step_there}
use Rattle.guest_tags.specs.declared.buffer.Buffer.{Buffer}
use Rattle.guest_tags.specs.declared.device.Received.{Received}
use Rattle.guest_tags.specs.Devices.{Kind}
use Rattle.guest_tags.specs.DataIn.{acted_at, stepped_in}
use Rattle.guest_tags.specs.Status.{status_at, stepped_status}
use Rattle.guest_tags.specs.Wanted.{coming_in, coming_status, moved_part, moving}
use Rattle.guest_out.specs.Command.{command_after, command_at, command_through, stepped_command}
use Rattle.guest_out.specs.DataOut.{out_at, stepped_out}
use Rattle.guest_out.specs.Immediate.{is_immediate}
use Rattle.guest_out.specs.Wanted.{command_part, drawn_part, out_part, taken_next}
use Rattle.guest_out.specs.Worlds.{OutWorld}
use Rattle.guest_transfers.specs.State.{TransfersWorld}
use Rattle.guest_transfers.specs.Steps.{command_done, command_stepped, command_world, due_by, in_stepped, in_world, out_stepped, out_world, status_stepped, status_world}
use Rattle.guest_transfers.specs.Wanted.{command_wanted, in_wanted, out_wanted, status_wanted}

moved_lacks : (memory : Memory) (consumer : Consumer) (coming : ℕ) (buffer : Option Buffer) → LacksIt memory (moved_part memory consumer coming buffer)
moved_lacks memory consumer coming None = tt
moved_lacks memory consumer coming (Some buffer) =
    part_lacks memory buffer.pointer consumer.progress.moved (min coming (buffer.length - consumer.progress.moved))

drawn_lacks : (memory : Memory) (buffer : Buffer) (moved count : ℕ) → LacksIt memory (drawn_part memory buffer moved count)
drawn_lacks memory buffer moved count = by_place (is_immediate buffer)
  where
    by_place : (immediate : Bool) → LacksIt memory (if immediate then None else part_wanted memory buffer.pointer moved count)
    by_place true = tt
    by_place false = part_lacks memory buffer.pointer moved count

out_lacks_part : (memory : Memory) (consumer : Consumer) (lacking : ℕ) (buffer : Option Buffer) → LacksIt memory (out_part memory consumer lacking buffer)
out_lacks_part memory consumer lacking None = tt
out_lacks_part memory consumer lacking (Some buffer) =
    drawn_lacks memory buffer consumer.progress.moved (min lacking (buffer.length - consumer.progress.moved))

command_lacks_part : (memory : Memory) (held : ℕ) (buffer : Option Buffer) → LacksIt memory (command_part memory held buffer)
command_lacks_part memory held None = tt
command_lacks_part memory held (Some buffer) = drawn_lacks memory buffer 0 (min buffer.length (1024 - held))

after_there : {S : Type 0} (s : S) (step : Option (S × Acted)) → is_some step ≡ true → is_some (after s step).1 ≡ true
after_there s None some = absurd (false≢true some)
after_there s (Some done) some = refl

module _ {D : Type 0} (kind : Kind D) where
  pub in_there : (w : TransfersWorld D) (tag : ℕ) → in_wanted kind w tag ≡ None → is_some (in_stepped kind w tag).1 ≡ true
  in_there w tag none =
      let v = in_world kind w tag in
      after_there v (stepped_in kind v tag (home_of w.transfers.data_in tag))
      (step_there v v.ring w.transfers.data_in tag (λ front. moved_part v.ring.memory v.ring.consumer (coming_in kind v.tag v.device tag) (moving v.ring.consumer front)) (acted_at kind v tag) none)

  pub in_lacks : (w : TransfersWorld D) (tag : ℕ) → IsWithinAddresses w.memory → LacksIt w.memory (in_wanted kind w tag)
  in_lacks w tag ends =
      let v = in_world kind w tag in
      step_lacks v.ring w.transfers.data_in tag (λ front. moved_part v.ring.memory v.ring.consumer (coming_in kind v.tag v.device tag) (moving v.ring.consumer front)) ends
      (λ front. moved_lacks v.ring.memory v.ring.consumer (coming_in kind v.tag v.device tag) (moving v.ring.consumer front))

  pub out_there : (w : TransfersWorld D) (tag : ℕ) → out_wanted kind w tag ≡ None → is_some (out_stepped kind w tag).1 ≡ true
  out_there w tag none =
      let v = out_world kind w tag in
      let lacking = taken_next (kind.phase w.device tag) - list_length v.taken in
      after_there v (stepped_out kind v tag (home_of w.transfers.data_out tag))
      (step_there v v.ring w.transfers.data_out tag (λ front. out_part v.ring.memory v.ring.consumer lacking (moving v.ring.consumer front)) (out_at kind v tag) none)

  pub out_lacks : (w : TransfersWorld D) (tag : ℕ) → IsWithinAddresses w.memory → LacksIt w.memory (out_wanted kind w tag)
  out_lacks w tag ends =
      let v = out_world kind w tag in
      let lacking = taken_next (kind.phase w.device tag) - list_length v.taken in
      step_lacks v.ring w.transfers.data_out tag (λ front. out_part v.ring.memory v.ring.consumer lacking (moving v.ring.consumer front)) ends
      (λ front. out_lacks_part v.ring.memory v.ring.consumer lacking (moving v.ring.consumer front))

  pub status_there : (w : TransfersWorld D) (tag : ℕ) → status_wanted kind w tag ≡ None → is_some (status_stepped kind w tag).1 ≡ true
  status_there w tag none =
      let v = status_world kind w tag in
      let due = due_by w.transfers tag (kind.phase w.device tag) in
      after_there v (stepped_status kind v tag due (home_of w.transfers.status tag))
      (step_there v v.ring w.transfers.status tag (λ front. moved_part v.ring.memory v.ring.consumer (coming_status kind v tag due) (moving v.ring.consumer front)) (status_at kind v tag due) none)

  pub status_lacks : (w : TransfersWorld D) (tag : ℕ) → IsWithinAddresses w.memory → LacksIt w.memory (status_wanted kind w tag)
  status_lacks w tag ends =
      let v = status_world kind w tag in
      let coming = coming_status kind v tag (due_by w.transfers tag (kind.phase w.device tag)) in
      step_lacks v.ring w.transfers.status tag (λ front. moved_part v.ring.memory v.ring.consumer coming (moving v.ring.consumer front)) ends
      (λ front. moved_lacks v.ring.memory v.ring.consumer coming (moving v.ring.consumer front))

  command_some : (w : TransfersWorld D) (v : OutWorld D) (step : Option (OutWorld D × (Acted × Received))) → is_some step ≡ true
      → is_some (command_done kind w (command_after kind v step)).1 ≡ true
  command_some w v None some = absurd (false≢true some)
  command_some w v (Some done) some = refl

  pub command_there : (w : TransfersWorld D) → command_wanted kind w ≡ None → is_some (command_stepped kind w).1 ≡ true
  command_there w none = command_some w v (stepped_command kind v home) (by_gate (gate v.ring.memory v.ring.events v.ring.consumer) (looked v.ring.memory home) (look_there v.ring.memory home) none)
    where
      v : OutWorld D
      v = command_world kind w

      home : Home
      home = Endpoint w.transfers.home

      by_gate : (opens : Option (Option Acted)) (found : Option Front) → (look_wanted w.memory (Endpoint w.transfers.home) ≡ None → is_some found ≡ true)
          → wanted_through opens w.events (wanted_of found (look_wanted w.memory (Endpoint w.transfers.home)) (λ front. command_part w.memory (list_length w.transfers.gathered) (moving w.transfers.command front))) ≡ None
          → is_some (command_through kind (command_world kind w) opens (option_map (command_at kind (command_world kind w)) found)) ≡ true
      by_gate None found there none = absurd (none-some _ (sym none))
      by_gate (Some None) None there none = absurd (false≢true (there none))
      by_gate (Some None) (Some front) there none = refl
      by_gate (Some (Some acted)) found there none = refl

  pub command_lacks : (w : TransfersWorld D) → LacksIt w.memory (command_wanted kind w)
  command_lacks w = by_gate (gate w.memory w.events w.transfers.command) refl (looked w.memory (Endpoint w.transfers.home))
    where
      by_gate : (opens : Option (Option Acted)) → gate w.memory w.events w.transfers.command ≡ opens → (found : Option Front)
          → LacksIt w.memory (wanted_through opens w.events (wanted_of found (look_wanted w.memory (Endpoint w.transfers.home)) (λ front. command_part w.memory (list_length w.transfers.gathered) (moving w.transfers.command front))))
      by_gate None is found = (omega arith, gate_lacks w.memory w.events w.transfers.command is)
      by_gate (Some None) is None = look_lacks w.memory (Endpoint w.transfers.home)
      by_gate (Some None) is (Some front) = command_lacks_part w.memory (list_length w.transfers.gathered) (moving w.transfers.command front)
      by_gate (Some (Some acted)) is found = tt
