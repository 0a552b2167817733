-- No step changes how many tags the device has.
use Rattle.std.proofs.Common.{◌≡◌, ℕ, zero, suc, List, length, length-set, Option, Some, None, refl}
use Rattle.std.specs.Prelude.{option_and_then}
use Rattle.std.specs.Option.{option_map_or}
use Rattle.scsi_cmd.specs.Held.{with_held_under}
use Rattle.xhci_trb.specs.declared.Trb.{Trb}
use Rattle.uas_iu.specs.declared.Iu.{Iu}
use Rattle.uas_iu.specs.Units.{unit_text}
use Rattle.uas_target.specs.Device.{Device, Receive, answered, received, wanted}
use Rattle.uas_target.specs.declared.Phase.{Phase}
use Rattle.uas_target.specs.declared.Phase.TheVariants.{Absent, Gives, Takes, Ends}
use Rattle.uas_target.proofs.Kept.{tags_kept}
use Rattle.xhci_ctl.specs.declared.Acted.{Acted}
use Rattle.xhci_ctl.specs.declared.Acted.TheVariants.{Idle}
use Rattle.xhci_ctl.specs.Pipes.{ControllerState}
use Rattle.xhci_ctl.specs.Steps.{Sides, Front, front_in, on_front, received_at, gave_at, took_at, sent_at, commanded, moved, moved_by, sent_by, sent_as}

tags-set : {T : Type 0} (places : List (Option T)) (tag : ℕ) (now : Option T) → length (with_held_under places tag now) ≡ length places
tags-set places zero now = refl
tags-set places (suc slot) now = length-set places slot now

-- RECEIVING

pub tags-received : (device : Device) (bytes : List ℕ) → length (received device bytes).0.tasks ≡ length device.tasks
tags-received device bytes = tags_kept device (Receive bytes)

-- STEPS

abbrev KeepsTags : Sides → Sides × Acted → Type 0
KeepsTags sides after = length after.0.device.tasks ≡ length sides.device.tasks

at-front : (sides : Sides) (step : Front → Sides × Acted) (front : Option Front) → ((at : Front) → KeepsTags sides (step at))
    → KeepsTags sides (option_map_or step front (sides, Idle))
at-front sides step None keeps = refl
at-front sides step (Some at) keeps = keeps at

tags-front : (sides : Sides) (step : Front → Sides × Acted) (front : Option (ℕ × Option Trb)) → ((at : Front) → KeepsTags sides (step at))
    → KeepsTags sides (on_front sides step front)
tags-front sides step front keeps = at-front sides step (option_and_then front_in front) keeps

pub tags-commanded : (sides : Sides) → KeepsTags sides (commanded sides)
tags-commanded sides = tags-front sides (received_at sides) _ (λ at. tags-received sides.device _)

moved-by : (controller : ControllerState) (sides : Sides) (tag : ℕ) (phase : Phase) → KeepsTags sides (moved_by controller sides tag phase)
moved-by controller sides tag Absent = refl
moved-by controller sides tag (Gives size) = tags-front sides (gave_at sides tag size) _ (λ at. tags-set sides.device.tasks tag _)
moved-by controller sides tag (Takes size) = tags-front sides (took_at sides tag size) _ (λ at. tags-set sides.device.tasks tag _)
moved-by controller sides tag Ends = refl

pub tags-moved : (controller : ControllerState) (sides : Sides) (tag : ℕ) → KeepsTags sides (moved controller sides tag)
tags-moved controller sides tag = moved-by controller sides tag (wanted sides.device tag)

sent-as : (controller : ControllerState) (sides : Sides) (tag : ℕ) (phase : Phase) (answer : Option Iu)
    → KeepsTags sides (sent_as controller sides tag phase answer)
sent-as controller sides tag Ends (Some unit) = tags-front sides (sent_at sides tag (unit_text unit)) _ (λ at. tags-set sides.device.tasks tag _)
sent-as controller sides tag Ends None = refl
sent-as controller sides tag Absent answer = refl
sent-as controller sides tag (Gives size) answer = refl
sent-as controller sides tag (Takes size) answer = refl

pub tags-sent : (controller : ControllerState) (sides : Sides) (tag : ℕ) → KeepsTags sides (sent_by controller sides tag)
tags-sent controller sides tag = sent-as controller sides tag (wanted sides.device tag) (answered sides.device tag)
