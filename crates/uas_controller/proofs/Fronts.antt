-- A step of the controller, which says what it does of an own front and of a foreign one, as one equation.
use Rattle.std.proofs.Common.{◌≡◌, ℕ, Bool, true, Option, Some, None, refl, subst, inl, inr}
use Rattle.std.specs.Prelude.{IfSome}
use Rattle.std.specs.Option.{option_map_or}
use Rattle.std.proofs.lemmas.Bool.{cases_Bool, false≢true}
use Rattle.xhci_trb.specs.declared.Trb.{Trb}
use Rattle.frame_store.specs.Buffers.{IsWhole}
use Rattle.uas_profile.specs.declared.Pipe.TheVariants.{Command, Status, DataIn, DataOut}
use Rattle.uas_profile.specs.declared.TheConstants.{COMMAND_RING_PLACES}
use Rattle.uas_target.specs.Device.{answered, wanted}
use Rattle.xhci_ctl.specs.declared.Acted.{Acted}
use Rattle.xhci_ctl.specs.Own.{IsOwnAnswer, IsOwnCommand, IsOwnCommandFront, IsOwnDataFront, IsOwnIn, IsOwnOut, IsOwnStatusFront}
use Rattle.xhci_ctl.specs.Steps.{Sides, armed_front, commanded, front_at, has_event_room, moved, room_front, sent_by, stepped_over}
use Rattle.uas_controller.specs.Machine.{MachineState, sides}
use Rattle.uas_controller.specs.Own.{foreign, is_own_answer, is_own_command, is_own_in, is_own_out}
use Rattle.uas_controller.specs.Steps.{foreign_in, foreign_out, foreign_status, over_or}
use Rattle.uas_controller.proofs.OwnLaws.{Tells, is_own_answer-tells, is_own_command-tells, is_own_in-tells, is_own_out-tells}

-- what comes of a front: of an own one, or of none, this, and of a foreign one that of its address
pub front_by : {A : Type 0} (test : Option Trb → Bool) (Own : Option Trb → Type 0) (tells : (trb : Option Trb) → Tells (test trb) (Own trb))
    (found : Option (ℕ × Option Trb)) (over : ℕ → A) (own after : A) → (IfSome found (λ front. Own front.1) → own ≡ after)
    → ((front : ℕ × Option Trb) → found ≡ Some front → (Own front.1 → ⊥) → over front.0 ≡ after) → option_map_or over (foreign test found) own ≡ after
front_by test Own tells None over own after by_own by_foreign = by_own tt
front_by test Own tells (Some (address, trb)) over own after by_own by_foreign =
    elim (cases_Bool (test trb)) as (λ _. option_map_or over (foreign test (Some (address, trb))) own ≡ after) [
      | inl is ↦ rw is (by_own ((tells trb).0 is))
      | inr other ↦ rw other (by_foreign (address, trb) refl (λ is. false≢true (rw other at ((tells trb).1 is))))
    ]

-- the rules by which a step says what it does: of an own front, and of a foreign one
pub command-made : (machine : MachineState) (after : Sides × Acted) → IsWhole machine.frames → has_event_room machine.lines ≡ true
    → (IsOwnCommandFront machine.lines machine.frames → commanded (sides machine) ≡ after)
    → ((front : ℕ × Option Trb) → room_front machine.lines Command 0 ≡ Some front → (IsOwnCommand machine.frames front.1 → ⊥)
    → stepped_over (sides machine) Command 0 front.0 0 ≡ after)
    → over_or machine Command 0 0 (commanded (sides machine)) (foreign (is_own_command machine.frames) (room_front machine.lines Command 0)) ≡ after
command-made machine after whole room own foreign =
    let here : room_front machine.lines Command 0 ≡ front_at COMMAND_RING_PLACES machine.lines.command = rw room refl in
    front_by (is_own_command machine.frames) (IsOwnCommand machine.frames) (λ trb. is_own_command-tells machine.frames trb whole)
    (room_front machine.lines Command 0) (λ address. stepped_over (sides machine) Command 0 address 0) (commanded (sides machine)) after
    (λ is. own (subst (λ (found : Option (ℕ × Option Trb)). IfSome found (λ front. IsOwnCommand machine.frames front.1)) here is)) foreign

pub data-made : (machine : MachineState) (tag : ℕ) (after : Sides × Acted) → IsWhole machine.frames
    → (IsOwnDataFront machine.controller machine.lines machine.frames tag (wanted machine.device tag)
    → moved machine.controller (sides machine) tag ≡ after)
    → ((front : ℕ × Option Trb) → armed_front machine.controller machine.lines DataIn tag ≡ Some front
    → (IsOwnIn machine.frames (wanted machine.device tag) front.1 → ⊥) → stepped_over (sides machine) DataIn tag front.0 tag ≡ after)
    → ((front : ℕ × Option Trb) → armed_front machine.controller machine.lines DataOut tag ≡ Some front
    → (IsOwnOut machine.frames (wanted machine.device tag) front.1 → ⊥)
    → IfSome (armed_front machine.controller machine.lines DataIn tag) (λ before. IsOwnIn machine.frames (wanted machine.device tag) before.1)
    → stepped_over (sides machine) DataOut tag front.0 tag ≡ after)
    → over_or machine DataIn tag tag
    (over_or machine DataOut tag tag (moved machine.controller (sides machine) tag) (foreign_out machine tag)) (foreign_in machine tag) ≡ after
data-made machine tag after whole own in_foreign out_foreign =
    let phase = wanted machine.device tag in
    front_by (is_own_in machine.frames phase) (IsOwnIn machine.frames phase) (λ trb. is_own_in-tells machine.frames phase trb whole)
    (armed_front machine.controller machine.lines DataIn tag) (λ address. stepped_over (sides machine) DataIn tag address tag)
    (over_or machine DataOut tag tag (moved machine.controller (sides machine) tag) (foreign_out machine tag)) after
    (λ first.
    front_by (is_own_out machine.frames phase) (IsOwnOut machine.frames phase) (λ trb. is_own_out-tells machine.frames phase trb whole)
    (armed_front machine.controller machine.lines DataOut tag) (λ address. stepped_over (sides machine) DataOut tag address tag)
    (moved machine.controller (sides machine) tag) after (λ second. own (record { data_in = first; data_out = second }))
    (λ front is other. out_foreign front is other first)) in_foreign

pub status-made : (machine : MachineState) (tag : ℕ) (after : Sides × Acted) → IsWhole machine.frames
    → (IsOwnStatusFront machine.controller machine.lines machine.frames tag (wanted machine.device tag) (answered machine.device tag)
    → sent_by machine.controller (sides machine) tag ≡ after)
    → ((front : ℕ × Option Trb) → armed_front machine.controller machine.lines Status tag ≡ Some front
    → (IsOwnAnswer machine.frames (wanted machine.device tag) (answered machine.device tag) front.1 → ⊥)
    → stepped_over (sides machine) Status tag front.0 tag ≡ after)
    → over_or machine Status tag tag (sent_by machine.controller (sides machine) tag) (foreign_status machine tag) ≡ after
status-made machine tag after whole own foreign =
    let phase = wanted machine.device tag in
    let answer = answered machine.device tag in
    front_by (is_own_answer machine.frames phase answer) (IsOwnAnswer machine.frames phase answer)
    (λ trb. is_own_answer-tells machine.frames phase answer trb whole) (armed_front machine.controller machine.lines Status tag)
    (λ address. stepped_over (sides machine) Status tag address tag) (sent_by machine.controller (sides machine) tag) after own foreign
