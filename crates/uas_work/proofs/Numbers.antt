-- A pump keeps its number, whatever it books and finishes.
use Rattle.std.proofs.Common.{◌≡◌, ℕ, Bool, true, false, Option, Some, None, Result, Ok, Err, IfOk, IfErr, if◌then◌else◌, refl, ap, ◌∙◌}
use Rattle.std.specs.Prelude.{◌-◌, slice_index_or}
use Rattle.scsi_cmd.specs.declared.Reply.{Reply}
use Rattle.scsi_cmd.specs.Replies.{reply_tag}
use Rattle.shared_machine.specs.declared.Refusal.{Refusal}
use Rattle.tag_desk.specs.Seats.{MadeDesk, HeldClaim}
use Rattle.uas_work.specs.declared.Booking.{Booking}
use Rattle.uas_work.specs.Booked.{BookedState}
use Rattle.uas_work.specs.Held.{Pump, GaveUp, answered, answered_at}
use Rattle.uas_work.specs.Pumps.{GaveUpIn, TookInOrLeft, submitted}
use Rattle.uas_work.proofs.Passing.{passed_number}

if_number : (b : Bool) (one other : Pump) (n : ℕ) → one.seat.pump ≡ n → other.seat.pump ≡ n → (if b then one else other).seat.pump ≡ n
if_number true one other n left right = left
if_number false one other n left right = right

submitted_number : (refused : Option Refusal) (claim : HeldClaim) (old : Pump) → (submitted refused claim old).seat.pump ≡ old.seat.pump
submitted_number None claim old = refl
submitted_number (Some refusal) claim old = refl

answered_at_number : (claim : Option HeldClaim) (reply : Reply) (old : Pump) → (answered_at claim reply old).seat.pump ≡ old.seat.pump
answered_at_number None reply old = refl
answered_at_number (Some claim) reply old = if_number _ _ _ _ refl refl

answered_number : (reply : Option Reply) (old : Pump) → (answered reply old).seat.pump ≡ old.seat.pump
answered_number None old = refl
answered_number (Some reply) old = answered_at_number (slice_index_or old.held (reply_tag reply - 1) None) reply old

left_number : (took : Bool) (desk : MadeDesk) (client ticket : ℕ) (before after : BookedState) (old new : Pump)
    → TookInOrLeft desk client ticket before after old new took → new.seat.pump ≡ old.seat.pump
left_number true desk client ticket before after old new took = ap (λ (p : Pump). p.seat.pump) took.pump ∙ submitted_number _ _ _ ∙ passed_number desk client ticket _ old
left_number false desk client ticket before after old new left = ap (λ (p : Pump). p.seat.pump) left.1 ∙ passed_number desk client ticket desk.tags old

pub in_number : (result : Result Bool Booking) (desk : MadeDesk) (client ticket : ℕ) (before after : BookedState) (old new : Pump)
    → IfOk result (TookInOrLeft desk client ticket before after old new) → IfErr result (λ booking. GaveUpIn desk client ticket old new)
    → new.seat.pump ≡ old.seat.pump
in_number (Ok took) desk client ticket before after old new done gave_up = left_number took desk client ticket before after old new done
in_number (Err booking) desk client ticket before after old new done gave_up = gave_up.ends.ends.pump ∙ passed_number desk client ticket _ old

pub out_number : (result : Result Bool Booking) (reply : Option Reply) (old new : Pump)
    → IfOk result (λ took. new ≡ answered reply old) → IfErr result (λ booking. GaveUp old new) → new.seat.pump ≡ old.seat.pump
out_number (Ok took) reply old new done gave_up = ap (λ (p : Pump). p.seat.pump) done ∙ answered_number reply old
out_number (Err booking) reply old new done gave_up = gave_up.ends.pump
