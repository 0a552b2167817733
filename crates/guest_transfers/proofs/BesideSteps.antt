-- A step that lacks nothing does the same with another memory beside this one: the copies that a caller lends stand for all of his
-- memory. What it writes goes into the copies.
use Rattle.std.proofs.Common.{◌≡◌, ℕ, ◌-◌, length as list_length, Option, Some, None, refl, ap, ◌∙◌}
use Rattle.std.specs.Prelude.{option_map}
use Rattle.guest_memory.specs.Bytes.{Memory}
use Rattle.guest_memory.specs.declared.rings.context.Home.TheVariants.{Endpoint}
use Rattle.guest_pipes.specs.declared.acted.Acted.{Acted}
use Rattle.guest_pipes.specs.Gate.{after}
use Rattle.guest_pipes.specs.Pipe.{home_of}
use Rattle.guest_tags.specs.declared.device.Received.{Received}
use Rattle.guest_tags.specs.Devices.{Kind}
use Rattle.guest_tags.specs.Tags.{TagWorld}
use Rattle.guest_tags.specs.DataIn.{acted_at, stepped_in}
use Rattle.guest_tags.specs.Status.{status_at, stepped_status}
use Rattle.guest_tags.specs.Wanted.{coming_in, coming_status, moved_part, moving}
use Rattle.guest_out.specs.Command.{command_after, stepped_command}
use Rattle.guest_out.specs.DataOut.{out_at, stepped_out}
use Rattle.guest_out.specs.Wanted.{out_part, taken_next}
use Rattle.guest_out.specs.Worlds.{OutWorld}
use Rattle.guest_transfers.specs.State.{TransfersWorld}
use Rattle.guest_transfers.specs.Steps.{command_done, command_stepped, command_world, due_by, in_kept, in_stepped, in_world, out_kept, out_stepped, out_world, status_kept, status_stepped, status_world}
use Rattle.guest_transfers.specs.Wanted.{command_wanted, in_wanted, out_wanted, status_wanted}
use Rattle.guest_transfers.proofs.BesideCommand.{command_beside, stepped_command-beside}
use Rattle.guest_transfers.proofs.BesideLook.{after-beside, through-beside}
use Rattle.guest_transfers.proofs.BesideOut.{out_acted-beside, out_beside}
use Rattle.guest_transfers.specs.Beside.{GivesAtMost, step_beside, world_beside}
use Rattle.guest_transfers.proofs.BesideStatus.{status_acted-beside}
use Rattle.guest_transfers.proofs.BesideTags.{acted-beside, tag_beside}

module _ {D : Type 0} (kind : Kind D) where
  pub in-beside : (w : TransfersWorld D) (rest : Memory) (tag : ℕ) → GivesAtMost kind w.device tag → in_wanted kind w tag ≡ None
      → in_stepped kind (world_beside w rest) tag ≡ step_beside (in_stepped kind w tag) rest
  in-beside w rest tag whole none =
      let v = in_world kind w tag in
      let out : TagWorld D → TagWorld D = λ u. tag_beside kind u rest in
      let keep : TagWorld D × Option Acted → TransfersWorld D × Option Acted = λ done. in_kept kind (world_beside w rest) tag done in
      let back : Option (TagWorld D × Acted) → TagWorld D × Option Acted = λ step. after (out v) step in
      ap keep (ap back (through-beside out v v.ring rest w.transfers.data_in tag
      (λ front. moved_part v.ring.memory v.ring.consumer (coming_in kind v.tag v.device tag) (moving v.ring.consumer front))
      (acted_at kind v tag) (acted_at kind (out v) tag)
      (λ front nothing. acted-beside kind front.found v rest tag front whole nothing) none)
      ∙ after-beside out v (stepped_in kind v tag (home_of w.transfers.data_in tag)))

  pub out-beside : (w : TransfersWorld D) (rest : Memory) (tag : ℕ) → out_wanted kind w tag ≡ None
      → out_stepped kind (world_beside w rest) tag ≡ step_beside (out_stepped kind w tag) rest
  out-beside w rest tag none =
      let v = out_world kind w tag in
      let out : OutWorld D → OutWorld D = λ u. out_beside kind u rest in
      let keep : OutWorld D × Option Acted → TransfersWorld D × Option Acted = λ done. out_kept kind (world_beside w rest) tag done in
      let back : Option (OutWorld D × Acted) → OutWorld D × Option Acted = λ step. after (out v) step in
      ap keep (ap back (through-beside out v v.ring rest w.transfers.data_out tag
      (λ front. out_part v.ring.memory v.ring.consumer (taken_next (kind.phase w.device tag) - list_length v.taken) (moving v.ring.consumer front))
      (out_at kind v tag) (out_at kind (out v) tag)
      (λ front nothing. out_acted-beside kind front.found v rest tag front nothing) none)
      ∙ after-beside out v (stepped_out kind v tag (home_of w.transfers.data_out tag)))

  pub status-beside : (w : TransfersWorld D) (rest : Memory) (tag : ℕ) → status_wanted kind w tag ≡ None
      → status_stepped kind (world_beside w rest) tag ≡ step_beside (status_stepped kind w tag) rest
  status-beside w rest tag none =
      let v = status_world kind w tag in
      let due = due_by w.transfers tag (kind.phase w.device tag) in
      let out : TagWorld D → TagWorld D = λ u. tag_beside kind u rest in
      let keep : TagWorld D × Option Acted → TransfersWorld D × Option Acted = λ done. status_kept kind (world_beside w rest) tag done in
      let back : Option (TagWorld D × Acted) → TagWorld D × Option Acted = λ step. after (out v) step in
      ap keep (ap back (through-beside out v v.ring rest w.transfers.status tag
      (λ front. moved_part v.ring.memory v.ring.consumer (coming_status kind v tag due) (moving v.ring.consumer front))
      (status_at kind v tag due) (status_at kind (out v) tag due)
      (λ front nothing. status_acted-beside kind front.found v rest tag due front nothing) none)
      ∙ after-beside out v (stepped_status kind v tag due (home_of w.transfers.status tag)))

  command_after-beside : (w : TransfersWorld D) (rest : Memory) (v : OutWorld D) (step : Option (OutWorld D × (Acted × Received)))
      → command_done kind (world_beside w rest) (command_after kind (out_beside kind v rest) (option_map (λ done. command_beside kind done rest) step))
      ≡ step_beside (command_done kind w (command_after kind v step)) rest
  command_after-beside w rest v None = refl
  command_after-beside w rest v (Some done) = refl

  pub command-beside : (w : TransfersWorld D) (rest : Memory) → command_wanted kind w ≡ None
      → command_stepped kind (world_beside w rest) ≡ step_beside (command_stepped kind w) rest
  command-beside w rest none =
      let v = command_world kind w in
      let keep : Option (OutWorld D × (Acted × Received)) → TransfersWorld D × Option Acted = λ step. command_done kind (world_beside w rest) (command_after kind (out_beside kind v rest) step) in
      ap keep (stepped_command-beside kind v rest (Endpoint w.transfers.home) none)
      ∙ command_after-beside w rest v (stepped_command kind v (Endpoint w.transfers.home))
