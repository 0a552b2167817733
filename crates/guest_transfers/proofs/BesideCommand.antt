-- A step of the command pipe that lacks nothing is the same with another memory beside this one.
use Rattle.std.proofs.Common.{◌≡◌, ℕ, Bool, true, false, List, [], length as list_length, ◌++◌, Option, Some, None, refl, sym, ap, ◌∙◌, ◌&&◌}
use Rattle.std.specs.Prelude.{is_some, not, if◌then◌else◌, option_map}
use Rattle.std.proofs.lemmas.Bool.{false≢true}
use Rattle.std.proofs.lemmas.Option.{none-some}
use Rattle.guest_memory.specs.Bytes.{Memory}
use Rattle.guest_memory.specs.declared.rings.context.Home.{Home}
use Rattle.guest_memory.specs.declared.rings.context.Front.{Front}
use Rattle.guest_memory.specs.declared.rings.context.Found.{Found}
use Rattle.guest_memory.specs.declared.rings.context.Found.TheVariants.{WrongKind, NotYet, Item}
use Rattle.guest_memory.specs.declared.rings.trb.Flags.{Flags}
use Rattle.guest_memory.specs.declared.rings.trb.PipeTrb.{PipeTrb}
use Rattle.guest_memory.specs.declared.rings.trb.PipeTrb.TheVariants.{Normal, Link, NoOp, EventData, Foreign}
use Rattle.guest_memory.specs.rings.Ends.{looked}
use Rattle.guest_memory.specs.rings.Wanted.{look_wanted}
use Rattle.guest_memory.specs.rings.WantedLaws.{look_there}
use Rattle.guest_pipes.specs.declared.acted.Acted.{Acted}
use Rattle.guest_pipes.specs.declared.progress.Ending.{Ending}
use Rattle.guest_pipes.specs.declared.progress.Ending.TheVariants.{Runs, Told, Owed}
use Rattle.guest_pipes.specs.Progress.{runs}
use Rattle.guest_pipes.specs.Step.{World, with_progress}
use Rattle.guest_pipes.specs.Gate.{gate}
use Rattle.guest_pipes.specs.Wanted.{wanted_of, wanted_through}
use Rattle.guest_tags.specs.declared.buffer.Buffer.{Buffer}
use Rattle.guest_tags.specs.declared.device.Received.{Received}
use Rattle.guest_tags.specs.declared.device.Received.TheVariants.{Dropped}
use Rattle.guest_tags.specs.Devices.{Kind}
use Rattle.guest_tags.specs.Wanted.{buffer_of, moving}
use Rattle.guest_out.specs.Command.{command_acted, command_at, command_count, command_drawn, command_gathered, command_last, command_lost, command_normal, command_other, command_ran, command_through}
use Rattle.guest_out.specs.Command.{command_with, received_if, stepped_command, unit_received, worked}
use Rattle.guest_out.specs.Immediate.{bytes_out, tallied}
use Rattle.guest_out.specs.Wanted.{command_part, drawn_part, wanted_command}
use Rattle.guest_out.specs.Worlds.{OutWorld}
use Rattle.guest_transfers.proofs.BesideLook.{gate-beside, looked-beside}
use Rattle.guest_transfers.proofs.BesideOut.{bytes_out-beside, out_beside}
use Rattle.guest_transfers.specs.Beside.{beside}
use Rattle.guest_transfers.proofs.BesideRing.{failed-beside, filled-beside, refused-beside, skipped-beside, took_other-beside}

module _ {D : Type 0} (kind : Kind D) where
  abbrev unit_beside : OutWorld D × Received → Memory → OutWorld D × Received
  unit_beside done rest = (out_beside kind done.0 rest, done.1)

  abbrev pub command_beside : OutWorld D × (Acted × Received) → Memory → OutWorld D × (Acted × Received)
  command_beside done rest = (out_beside kind done.0 rest, done.1)

  with_same : (w : OutWorld D) (a b : World) → a ≡ b → command_with kind w a ≡ command_with kind w b
  with_same w a b same = let out : World → OutWorld D = λ v. command_with kind w v in ap out same

  told : (received : Received) (a b : OutWorld D) → a ≡ b → ◌≡◌ {A = OutWorld D × Received} (a, received) (b, received)
  told received a b same = let out : OutWorld D → OutWorld D × Received = λ v. (v, received) in ap out same

  received_if-beside : (last : Bool) (w : OutWorld D) (rest : Memory) → unit_beside (received_if kind last w) rest ≡ received_if kind last (out_beside kind w rest)
  unfolding unit_received
  received_if-beside true w rest = refl
  received_if-beside false w rest = refl

  lost-beside : (w : OutWorld D) (rest : Memory) (front : Front) (buffer : Buffer) → out_beside kind (command_lost kind w front buffer) rest ≡ command_lost kind (out_beside kind w rest) front buffer
  unfolding command_lost
  lost-beside w rest front buffer =
      let out : World → OutWorld D = λ v. record { ring = v; taken = []; device = w.device } in
      ap out (failed-beside w.ring rest front buffer.length buffer.flags)

  gathered-beside : (w : OutWorld D) (rest : Memory) (bytes : List ℕ) (front : Front) (buffer : Buffer)
      → out_beside kind (command_gathered kind w bytes front buffer) rest ≡ command_gathered kind (out_beside kind w rest) bytes front buffer
  unfolding command_gathered
  gathered-beside w rest bytes front buffer =
      let out : World → OutWorld D = λ v. record { ring = v; taken = w.taken ++ bytes; device = w.device } in
      ap out (filled-beside (with_progress w.ring (tallied w.ring.consumer.progress buffer.length)) rest front buffer.flags)

  drawn-beside : (bytes : Option (List ℕ)) (w : OutWorld D) (rest : Memory) (front : Front) (buffer : Buffer)
      → unit_beside (command_drawn kind bytes w front buffer) rest ≡ command_drawn kind bytes (out_beside kind w rest) front buffer
  drawn-beside None w rest front buffer = told Dropped _ _ (lost-beside w rest front buffer)
  drawn-beside (Some bytes) w rest front buffer =
      let next : OutWorld D → OutWorld D × Received = λ v. received_if kind (not buffer.flags.chain) v in
      received_if-beside (not buffer.flags.chain) (command_gathered kind w bytes front buffer) rest ∙ ap next (gathered-beside w rest bytes front buffer)

  ran-beside : (w : OutWorld D) (rest : Memory) (front : Front) (buffer : Buffer)
      → drawn_part w.ring.memory buffer 0 (command_count kind w buffer) ≡ None
      → unit_beside (command_ran kind w front buffer) rest ≡ command_ran kind (out_beside kind w rest) front buffer
  unfolding command_ran
  ran-beside w rest front buffer none =
      let next : Option (List ℕ) → OutWorld D × Received = λ bytes. command_drawn kind bytes (out_beside kind w rest) front buffer in
      drawn-beside (bytes_out w.ring.memory buffer 0 (command_count kind w buffer)) w rest front buffer
      ∙ ap next (sym (bytes_out-beside w.ring.memory rest buffer 0 (command_count kind w buffer) none))

  normal-beside : (ending : Ending) (w : OutWorld D) (rest : Memory) (front : Front) (buffer : Buffer)
      → (if runs ending then command_part w.ring.memory (list_length w.taken) (Some buffer) else None) ≡ None
      → unit_beside (command_normal kind ending w front buffer) rest ≡ command_normal kind ending (out_beside kind w rest) front buffer
  normal-beside Runs w rest front buffer none = ran-beside w rest front buffer none
  normal-beside (Told code) w rest front buffer none = told Dropped _ _ (with_same w _ _ (skipped-beside w.ring rest front buffer.length buffer.flags))
  normal-beside Owed w rest front buffer none = told Dropped _ _ (with_same w _ _ (skipped-beside w.ring rest front buffer.length buffer.flags))

  other-beside : (w : OutWorld D) (rest : Memory) (front : Front) (trb : PipeTrb) → out_beside kind (command_other kind w front trb) rest ≡ command_other kind (out_beside kind w rest) front trb
  other-beside w rest front trb = with_same w _ _ (took_other-beside w.ring rest front trb)

  last-beside : (w : OutWorld D) (rest : Memory) (front : Front) (trb : PipeTrb) (flags : Flags)
      → unit_beside (command_last kind w front trb flags) rest ≡ command_last kind (out_beside kind w rest) front trb flags
  last-beside w rest front trb flags =
      let last = runs w.ring.consumer.progress.ending && not flags.chain in
      let next : OutWorld D → OutWorld D × Received = λ v. received_if kind last v in
      received_if-beside last (command_other kind w front trb) rest ∙ ap next (other-beside w rest front trb)

  told_worked : (a b : OutWorld D × Received) → a ≡ b → worked kind a ≡ worked kind b
  told_worked a b same = let out : OutWorld D × Received → OutWorld D × (Acted × Received) = λ v. worked kind v in ap out same

  acted-beside : (found : Found) (w : OutWorld D) (rest : Memory) (front : Front)
      → command_part w.ring.memory (list_length w.taken) (if runs w.ring.consumer.progress.ending then buffer_of found else None) ≡ None
      → command_beside (command_acted kind w front found) rest ≡ command_acted kind (out_beside kind w rest) front found
  acted-beside WrongKind w rest front none = told_worked _ _ (told Dropped _ _ (with_same w _ _ (refused-beside w.ring rest 10)))
  acted-beside NotYet w rest front none = refl
  acted-beside (Item (Normal pointer length flags)) w rest front none =
      told_worked _ _ (normal-beside w.ring.consumer.progress.ending w rest front (record { pointer = pointer; length = length; flags = flags })
      (by_ending (runs w.ring.consumer.progress.ending) none))
    where
      by_ending : (moves : Bool) → command_part w.ring.memory (list_length w.taken) (if moves then Some (record { pointer = pointer; length = length; flags = flags }) else None) ≡ None
          → (if moves then command_part w.ring.memory (list_length w.taken) (Some (record { pointer = pointer; length = length; flags = flags })) else None) ≡ None
      by_ending true none = none
      by_ending false none = refl
  acted-beside (Item (Link pointer toggle flags)) w rest front none = told_worked _ _ (told Dropped _ _ (other-beside w rest front (Link pointer toggle flags)))
  acted-beside (Item (NoOp flags)) w rest front none = told_worked _ _ (last-beside w rest front (NoOp flags) flags)
  acted-beside (Item (EventData parameter flags)) w rest front none = told_worked _ _ (last-beside w rest front (EventData parameter flags) flags)
  acted-beside (Item Foreign) w rest front none = told_worked _ _ (told Dropped _ _ (other-beside w rest front Foreign))

  pub stepped_command-beside : (w : OutWorld D) (rest : Memory) (home : Home) → wanted_command w.ring (list_length w.taken) home ≡ None
      → stepped_command kind (out_beside kind w rest) home ≡ option_map (λ done. command_beside done rest) (stepped_command kind w home)
  stepped_command-beside w rest home none =
      by_gate (gate w.ring.memory w.ring.events w.ring.consumer) (gate (beside w.ring.memory rest) w.ring.events w.ring.consumer)
      (looked w.ring.memory home) (looked (beside w.ring.memory rest) home)
      (gate-beside w.ring.memory rest w.ring.events w.ring.consumer) (look_there w.ring.memory home) (looked-beside w.ring.memory rest home) none
    where
      by_gate : (opens both : Option (Option Acted)) (found finds : Option Front) → (is_some opens ≡ true → both ≡ opens)
          → (look_wanted w.ring.memory home ≡ None → is_some found ≡ true) → (is_some found ≡ true → finds ≡ found)
          → wanted_through opens w.ring.events (wanted_of found (look_wanted w.ring.memory home) (λ front. command_part w.ring.memory (list_length w.taken) (moving w.ring.consumer front))) ≡ None
          → command_through kind (out_beside kind w rest) both (option_map (command_at kind (out_beside kind w rest)) finds)
          ≡ option_map (λ (done : OutWorld D × (Acted × Received)). command_beside done rest) (command_through kind w opens (option_map (command_at kind w) found))
      by_gate None both found finds same_gate there same_front none = absurd (none-some _ (sym none))
      by_gate (Some None) both None finds same_gate there same_front none = absurd (false≢true (there none))
      by_gate (Some None) both (Some front) finds same_gate there same_front none =
          let e : both ≡ Some None = same_gate refl in
          let f : finds ≡ Some front = same_front refl in
          rw (e, f) (ap Some (sym (acted-beside front.found w rest front none)))
      by_gate (Some (Some acted)) both found finds same_gate there same_front none =
          let e : both ≡ Some (Some acted) = same_gate refl in
          rw e refl
