-- A step of the command pipe, by what was read in front of it and what the device made of its bytes. Cited by the answer of command_step.
use Rattle.std.proofs.Common.{◌≡◌, ℕ, List, Option, Some, refl, take, drop, ap, sym, ◌∙◌}
use Rattle.xhci_trb.specs.declared.Trb.{Trb}
use Rattle.xhci_trb.specs.declared.Trb.TheVariants.{Normal}
use Rattle.xhci_trb.specs.declared.TrbFlags.{TrbFlags}
use Rattle.uas_profile.specs.declared.Pipe.TheVariants.{Command}
use Rattle.uas_profile.specs.declared.TheConstants.{SUCCESS}
use Rattle.stream_array.specs.Rings.{LinesState}
use Rattle.frame_store.specs.declared.Place.{Place}
use Rattle.frame_store.specs.Buffers.{bytes_at, bytes_of}
use Rattle.uas_target.specs.Device.{Device, received}
use Rattle.xhci_ctl.specs.declared.Acted.{Acted}
use Rattle.xhci_ctl.specs.declared.Acted.TheVariants.{Acted as ActedOn}
use Rattle.xhci_ctl.specs.Own.{StartsAt}
use Rattle.xhci_ctl.specs.Steps.{Sides, began_tag, commanded, completed, on_front, received_at, room_front, sides_of}

-- the bytes that a TRB names were read where they begin
named : (sides : Sides) (pointer length td : ℕ) (flags : TrbFlags) (start : Place) (bytes : List ℕ)
    → StartsAt sides.frames (Some (Normal pointer length td flags)) start → bytes ≡ take length (drop start.offset (bytes_of sides.frames start))
    → bytes ≡ bytes_at sides.frames pointer length
named sides pointer length td flags start bytes starts read =
    read ∙ ap (λ (at : Place). take length (drop at.offset (bytes_of sides.frames at))) starts.0

-- what the device made of these bytes
abbrev made_of : Sides → ℕ → List ℕ → Sides × Acted
made_of sides address bytes =
    (sides_of (completed sides.lines Command 0 address 0 SUCCESS) sides.frames (received sides.device bytes).0, ActedOn (began_tag (received sides.device bytes).1))

pub commanded_received : (sides : Sides) (address pointer length td : ℕ) (flags : TrbFlags) (trb : Option Trb) (one : Trb) (start : Place) (bytes : List ℕ)
    (lines : LinesState) (device : Device) (tag : ℕ) → Some (address, trb) ≡ room_front sides.lines Command 0 → trb ≡ Some one
    → one ≡ Normal pointer length td flags → StartsAt sides.frames trb start → bytes ≡ take length (drop start.offset (bytes_of sides.frames start))
    → lines ≡ completed sides.lines Command 0 address 0 SUCCESS → device ≡ (received sides.device bytes).0 → tag ≡ began_tag (received sides.device bytes).1
    → commanded sides ≡ (sides_of lines sides.frames device, ActedOn tag)
commanded_received sides address pointer length td flags trb one start bytes lines device tag front some one_is starts read lines_is device_is tag_is =
    let normal : trb ≡ Some (Normal pointer length td flags) = some ∙ ap Some one_is in
    let here : room_front sides.lines Command 0 ≡ Some (address, Some (Normal pointer length td flags)) =
    sym front ∙ ap (λ (found : Option Trb). Some (address, found)) normal in
    let same : bytes ≡ bytes_at sides.frames pointer length = named sides pointer length td flags start bytes (rw normal at starts) read in
    let lines_was = sym lines_is in
    let device_was = sym device_is in
    let tag_was = sym tag_is in
    ap (on_front sides (received_at sides)) here
    ∙ ap (made_of sides address) (sym same)
    ∙ (λ i. (sides_of (lines_was i) sides.frames (device_was i), ActedOn (tag_was i)))
