-- The packets of a guest's side.
use Rattle.std.proofs.Common.{◌≡◌, ◌≢◌, ℕ, ◌<◌, List, length, drop, slice_index, Option, Some, None, Err, refl, ap, subst, ◌∙◌, ◌⊎◌, inl, inr, arith, rules}
use Rattle.byteorder.specs.Endian.{little_number}
use Rattle.usbredir.specs.declared.PacketFault.TheVariants as fault
use Rattle.usbredir.specs.declared.kinds.Kind.{Kind}
use Rattle.usbredir.specs.declared.kinds.Kind.TheVariants as kind
use Rattle.usbredir.specs.declared.packets.GuestPacket.{GuestPacket}
use Rattle.usbredir.specs.declared.packets.GuestPacket.TheVariants as guest
use Rattle.usbredir.specs.Guest.{bulk_request_in, bulk_request_text, control_request_in, control_request_text, fields_of_guest, guest_fields_text, guest_of, whole_guest}
use Rattle.usbredir.specs.Kinds.{most_bytes}

-- the packet that a kind has, with as many bytes of fields
abbrev pub Sized : Option ℕ → Option GuestPacket → Type 0
Sized None packet = packet ≡ None
Sized (Some count) packet = (p : GuestPacket) × (packet ≡ Some p) × (length (guest_fields_text p) ≡ count)

pub sized : (k : Option Kind) (bytes : List ℕ) → Sized (fields_of_guest k) (guest_of k bytes)
unfolding control_request_text bulk_request_text
sized None bytes = refl
sized (Some kind.Hello) bytes = refl
sized (Some kind.DeviceConnect) bytes = refl
sized (Some kind.Reset) bytes = (guest.Reset, refl, refl)
sized (Some kind.InterfaceInfo) bytes = refl
sized (Some kind.EndpointInfo) bytes = refl
sized (Some kind.SetConfiguration) bytes = (guest.SetConfiguration (slice_index bytes 0), refl, refl)
sized (Some kind.GetConfiguration) bytes = (guest.GetConfiguration, refl, refl)
sized (Some kind.ConfigurationStatus) bytes = refl
sized (Some kind.SetAltSetting) bytes = (guest.SetAltSetting (slice_index bytes 0) (slice_index bytes 1), refl, refl)
sized (Some kind.GetAltSetting) bytes = (guest.GetAltSetting (slice_index bytes 0), refl, refl)
sized (Some kind.AltSettingStatus) bytes = refl
sized (Some kind.AllocBulkStreams) bytes = (guest.AllocBulkStreams (little_number 4 bytes) (little_number 4 (drop 4 bytes)), refl, refl)
sized (Some kind.FreeBulkStreams) bytes = (guest.FreeBulkStreams (little_number 4 bytes), refl, refl)
sized (Some kind.BulkStreamsStatus) bytes = refl
sized (Some kind.CancelDataPacket) bytes = (guest.CancelDataPacket, refl, refl)
sized (Some kind.FilterReject) bytes = (guest.FilterReject, refl, refl)
sized (Some kind.FilterFilter) bytes = (guest.FilterFilter, refl, refl)
sized (Some kind.Control) bytes = (guest.Control (control_request_in bytes), refl, refl)
sized (Some kind.Bulk) bytes = (guest.Bulk (bulk_request_in bytes), refl, refl)

refused : (following fields : ℕ) (p : GuestPacket) (count : ℕ) → length (guest_fields_text p) ≡ count
    → (most_bytes < following) ⊎ (fields ≢ count) → whole_guest following fields (Some p) ≡ Err fault.BadLength
refused following fields p count e (inl many) = search (rules, arith)
refused following fields p count e (inr other) = search (rules, arith)

-- fields of another length, or too much behind the head
pub wrong_length : (following count : ℕ) (k : Option Kind) (bytes : List ℕ) → fields_of_guest k ≡ Some count
    → (most_bytes < following) ⊎ (length bytes ≢ count) → whole_guest following (length bytes) (guest_of k bytes) ≡ Err fault.BadLength
wrong_length following count k bytes e wrong =
    let known = subst (λ (n : Option ℕ). Sized n (guest_of k bytes)) e (sized k bytes) in
    ap (whole_guest following (length bytes)) known.1 ∙ refused following (length bytes) known.0 count known.2 wrong
