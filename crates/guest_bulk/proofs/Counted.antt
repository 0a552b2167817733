-- What a step moves is counted, and where nothing is left of H no data move.
use Rattle.std.proofs.Common.{◌≡◌, ℕ, ◌+◌, ◌-◌, ◌==◌, ◌&&◌, not, Bool, true, false, refl, ap, arith}
use Rattle.std.specs.Prelude.{min, if◌then◌else◌}
use Rattle.guest_memory.specs.declared.rings.context.Front.{Front}
use Rattle.guest_tags.specs.declared.buffer.Buffer.{Buffer}
use Rattle.guest_tags.specs.Devices.{Kind}
use Rattle.guest_bulk.specs.declared.bulk.BulkCommand.{BulkCommand}
use Rattle.guest_bulk.specs.declared.bulk.BulkStage.TheVariants.{Moves}
use Rattle.guest_bulk.specs.Commands.{BulkWorld, gives_bytes, takes_bytes}
use Rattle.guest_bulk.specs.Incoming.{in_beside, in_ran, in_staged}
use Rattle.guest_bulk.specs.Outgoing.{out_beside, out_ran, out_staged}

pub counted : (n left : ℕ) → (left - min n left) + min n left ≡ left
counted n left = omega arith

gives_none : (command : BulkCommand) → command.left ≡ 0 → gives_bytes command ≡ false
gives_none command none = rw none (by_flag command.is_in)
  where
    by_flag : (flag : Bool) → (flag && not (0 == 0)) ≡ false
    by_flag true = refl
    by_flag false = refl

takes_none : (command : BulkCommand) → command.left ≡ 0 → takes_bytes command ≡ false
takes_none command none = rw none (by_flag command.is_in)
  where
    by_flag : (flag : Bool) → (not flag && not (0 == 0)) ≡ false
    by_flag true = refl
    by_flag false = refl

module _ {D : Type 0} (kind : Kind D) where
  pub none_to_host : (w : BulkWorld D) (command : BulkCommand) (front : Front) (buffer : Buffer) → command.left ≡ 0
      → in_staged kind (Moves command) w front buffer ≡ in_beside kind w command front buffer
  none_to_host w command front buffer none =
      ap (λ (gives : Bool). if gives then in_ran kind w command front buffer else in_beside kind w command front buffer) (gives_none command none)

  pub none_to_device : (w : BulkWorld D) (command : BulkCommand) (front : Front) (buffer : Buffer) → command.left ≡ 0
      → out_staged kind (Moves command) w front buffer ≡ out_beside kind w front buffer
  none_to_device w command front buffer none =
      ap (λ (takes : Bool). if takes then out_ran kind w command front buffer else out_beside kind w front buffer) (takes_none command none)
