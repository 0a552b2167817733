-- The bytes that are read as a packet of the device's side are its bytes.
use Rattle.std.proofs.Common.{◌≡◌, ℕ, ◌+◌, ◌*◌, ◌/◌, ◌%◌, ◌^◌, ◌<◌, List, [], ◌∷◌, ◌++◌, length, take, drop, slice_index, Option, Some, None, Result, Ok, Err, refl, ap, sym, ◌∙◌, arith, rules}
use Rattle.std.specs.Prelude.{IfOk, IfSome, flat_map}
use Rattle.std.proofs.lemmas.Bool.{and_parts, cond_both, eqb-true}
use Rattle.std.proofs.lemmas.List.{length-drop, length-take-le, take_all}
use Rattle.std.proofs.lemmas.Result.{IfOk-weaker}
use Rattle.byteorder.specs.Endian.{little_bytes, little_number}
use Rattle.byteorder.specs.Numbers.{little_from-lt}
use Rattle.byte_numbers.specs.Bytes.{AreBytes}
use Rattle.byte_numbers.proofs.Bytes.{bytes_dropped, bytes_taken}
use Rattle.usbredir.specs.declared.PacketFault.{PacketFault}
use Rattle.usbredir.specs.declared.PacketFault.TheVariants as fault
use Rattle.usbredir.specs.declared.kinds.Head.{Head}
use Rattle.usbredir.specs.declared.kinds.Kind.{Kind}
use Rattle.usbredir.specs.declared.kinds.Kind.TheVariants as kind
use Rattle.usbredir.specs.declared.kinds.Status.{Status}
use Rattle.usbredir.specs.declared.packets.DevicePacket.{DevicePacket}
use Rattle.usbredir.specs.Device.{alt_setting_status_of, bulk_answer_of, bulk_answer_text, bulk_streams_status_of, configuration_status_of, control_answer_of, control_answer_text}
use Rattle.usbredir.specs.Device.{data_of_device, device_connect_in, device_connect_text, device_fields_text, device_head, device_in, device_of, endpoint_info_in, endpoint_info_text}
use Rattle.usbredir.specs.Device.{fields_of_device, fitting_device, interface_info_in, interface_info_text, kind_of_device, numbers_in, whole_device}
use Rattle.usbredir.specs.Kinds.{kind_of, number_of_status, status_of}
use Rattle.usbredir.proofs.Heads.{same_head}
use Rattle.usbredir.proofs.Numbers.{byte, last, middle}
use Rattle.usbredir.proofs.Requests.{high_of, low_of, nothing, number_of-kind}
use Rattle.usbredir.proofs.Tables.{part, text-numbers_in}

named_status : (n : ℕ) → IfSome (status_of n) (λ name. number_of_status name ≡ n)
named_status n = search (rules, eqb-true)

device_connect_text-in : (bytes : List ℕ) → length bytes ≡ 10 → AreBytes bytes → device_connect_text (device_connect_in bytes) ≡ bytes
unfolding device_connect_in device_connect_text
device_connect_text-in bytes long is =
    byte 0 bytes _ (omega arith) (byte 1 bytes _ (omega arith) (byte 2 bytes _ (omega arith) (byte 3 bytes _ (omega arith)
    (middle 2 4 bytes _ (omega arith) is (middle 2 6 bytes _ (omega arith) is (last 2 8 bytes (omega arith) is))))))

interface_info_text-in : (bytes : List ℕ) → length bytes ≡ 132 → AreBytes bytes → interface_info_text (interface_info_in bytes) ≡ bytes
unfolding interface_info_in interface_info_text
interface_info_text-in bytes long is =
    let at100 : take 32 (drop 100 bytes) ≡ drop 100 bytes = take_all 32 (drop 100 bytes) (omega (arith, length-drop 100 bytes)) in
    middle 4 0 bytes _ (omega arith) is (part 32 4 bytes _ (part 32 36 bytes _ (part 32 68 bytes _ at100)))

endpoint_info_text-in : (bytes : List ℕ) → length bytes ≡ 288 → AreBytes bytes → endpoint_info_text (endpoint_info_in bytes) ≡ bytes
unfolding endpoint_info_in endpoint_info_text
endpoint_info_text-in bytes long is =
    let sizes : List ℕ = take 64 (drop 96 bytes) in
    let streams : List ℕ = take 128 (drop 160 bytes) in
    let sizes_long : length sizes ≡ 64 = length-take-le 64 (drop 96 bytes) (omega (arith, length-drop 96 bytes)) in
    let streams_long : length streams ≡ 128 = length-take-le 128 (drop 160 bytes) (omega (arith, length-drop 160 bytes)) in
    let sizes_back : flat_map (little_bytes 2) (numbers_in 2 32 sizes) ≡ sizes =
    text-numbers_in 2 32 sizes (omega (arith, sizes_long)) (bytes_taken 64 (drop 96 bytes) (bytes_dropped 96 bytes is)) in
    let streams_back : flat_map (little_bytes 4) (numbers_in 4 32 streams) ≡ streams =
    text-numbers_in 4 32 streams (omega (arith, streams_long)) (bytes_taken 128 (drop 160 bytes) (bytes_dropped 160 bytes is)) in
    let at160 : streams ≡ drop 160 bytes = take_all 128 (drop 160 bytes) (omega (arith, length-drop 160 bytes)) in
    let front : List ℕ → List ℕ = λ back. take 32 bytes ++ (take 32 (drop 32 bytes) ++ (take 32 (drop 64 bytes) ++ back)) in
    ap (λ (back : List ℕ). front (back ++ flat_map (little_bytes 4) (numbers_in 4 32 streams))) sizes_back
    ∙ ap (λ (back : List ℕ). front (sizes ++ back)) streams_back
    ∙ part 32 0 bytes _ (part 32 32 bytes _ (part 32 64 bytes _ (part 64 96 bytes _ at160)))

-- the packet of a kind, whose fields are these bytes
abbrev IsOf : Option Kind → List ℕ → DevicePacket → Type 0
IsOf k bytes p = (k ≡ Some (kind_of_device p)) × (device_fields_text p ≡ bytes)

control_back : (m : Option Status) (bytes : List ℕ) → IfSome m (λ s. number_of_status s ≡ slice_index bytes 3) → length bytes ≡ 10 → AreBytes bytes
    → IfSome (control_answer_of m bytes) (IsOf (Some kind.Control) bytes)
unfolding control_answer_text
control_back None bytes known long is = tt
control_back (Some s) bytes known long is =
    let at4 : little_bytes 2 (little_number 2 (drop 4 bytes)) ++ little_bytes 2 (little_number 2 (drop 6 bytes)) ++ little_bytes 2 (little_number 2 (drop 8 bytes)) ≡ drop 4 bytes =
    middle 2 4 bytes _ (omega arith) is (middle 2 6 bytes _ (omega arith) is (last 2 8 bytes (omega arith) is)) in (
      refl,
      ap (λ (n : ℕ). slice_index bytes 0 ∷ slice_index bytes 1 ∷ slice_index bytes 2 ∷ n
          ∷ little_bytes 2 (little_number 2 (drop 4 bytes)) ++ little_bytes 2 (little_number 2 (drop 6 bytes)) ++ little_bytes 2 (little_number 2 (drop 8 bytes))) known
          ∙ byte 0 bytes _ (omega arith) (byte 1 bytes _ (omega arith) (byte 2 bytes _ (omega arith) (byte 3 bytes _ (omega arith) at4))),
    )

bulk_back : (m : Option Status) (bytes : List ℕ) → IfSome m (λ s. number_of_status s ≡ slice_index bytes 1) → length bytes ≡ 10 → AreBytes bytes
    → IfSome (bulk_answer_of m bytes) (IsOf (Some kind.Bulk) bytes)
unfolding bulk_answer_text
bulk_back None bytes known long is = tt
bulk_back (Some s) bytes known long is =
    let low : ℕ = little_number 2 (drop 2 bytes) in
    let high : ℕ = little_number 2 (drop 8 bytes) in
    let fits : low < 2 ^ 16 = little_from-lt 0 2 (drop 2 bytes) (bytes_dropped 2 bytes is) in
    let stream : List ℕ = little_bytes 4 (little_number 4 (drop 4 bytes)) in
    let at2 : little_bytes 2 low ++ stream ++ little_bytes 2 high ≡ drop 2 bytes =
    middle 2 2 bytes _ (omega arith) is (middle 4 4 bytes _ (omega arith) is (last 2 8 bytes (omega arith) is)) in (
      refl,
      ap (λ (n : ℕ). slice_index bytes 0 ∷ n ∷ little_bytes 2 ((low + 2 ^ 16 * high) % 2 ^ 16) ++ stream ++ little_bytes 2 ((low + 2 ^ 16 * high) / 2 ^ 16)) known
          ∙ ap (λ (n : ℕ). slice_index bytes 0 ∷ slice_index bytes 1 ∷ little_bytes 2 n ++ stream ++ little_bytes 2 ((low + 2 ^ 16 * high) / 2 ^ 16)) (low_of low high fits)
          ∙ ap (λ (n : ℕ). slice_index bytes 0 ∷ slice_index bytes 1 ∷ little_bytes 2 low ++ stream ++ little_bytes 2 n) (high_of low high fits)
          ∙ byte 0 bytes _ (omega arith) (byte 1 bytes _ (omega arith) at2),
    )

configuration_back : (m : Option Status) (bytes : List ℕ) → IfSome m (λ s. number_of_status s ≡ slice_index bytes 0) → length bytes ≡ 2
    → IfSome (configuration_status_of m bytes) (IsOf (Some kind.ConfigurationStatus) bytes)
configuration_back None bytes known long = tt
configuration_back (Some s) bytes known long =
    (refl, ap (λ (n : ℕ). n ∷ slice_index bytes 1 ∷ []) known ∙ byte 0 bytes _ (omega arith) (byte 1 bytes [] (omega arith) (nothing 2 bytes long)))

alt_setting_back : (m : Option Status) (bytes : List ℕ) → IfSome m (λ s. number_of_status s ≡ slice_index bytes 0) → length bytes ≡ 3
    → IfSome (alt_setting_status_of m bytes) (IsOf (Some kind.AltSettingStatus) bytes)
alt_setting_back None bytes known long = tt
alt_setting_back (Some s) bytes known long = (
  refl,
  ap (λ (n : ℕ). n ∷ slice_index bytes 1 ∷ slice_index bytes 2 ∷ []) known
      ∙ byte 0 bytes _ (omega arith) (byte 1 bytes _ (omega arith) (byte 2 bytes [] (omega arith) (nothing 3 bytes long))),
)

streams_back : (m : Option Status) (bytes : List ℕ) → IfSome m (λ s. number_of_status s ≡ slice_index bytes 8) → length bytes ≡ 9 → AreBytes bytes
    → IfSome (bulk_streams_status_of m bytes) (IsOf (Some kind.BulkStreamsStatus) bytes)
streams_back None bytes known long is = tt
streams_back (Some s) bytes known long is = (
  refl,
  ap (λ (n : ℕ). little_bytes 4 (little_number 4 bytes) ++ little_bytes 4 (little_number 4 (drop 4 bytes)) ++ n ∷ []) known
      ∙ middle 4 0 bytes _ (omega arith) is (middle 4 4 bytes _ (omega arith) is (byte 8 bytes [] (omega arith) (nothing 9 bytes long))),
)

-- where there are as many bytes as the kind has
text-device_of : (k : Option Kind) (bytes : List ℕ) → AreBytes bytes → IfSome (fields_of_device k) (λ n. length bytes ≡ n → IfSome (device_of k bytes) (IsOf k bytes))
text-device_of None bytes is = tt
text-device_of (Some kind.Hello) bytes is = tt
text-device_of (Some kind.DeviceConnect) bytes is = λ e. (refl, device_connect_text-in bytes e is)
text-device_of (Some kind.Reset) bytes is = tt
text-device_of (Some kind.InterfaceInfo) bytes is = λ e. (refl, interface_info_text-in bytes e is)
text-device_of (Some kind.EndpointInfo) bytes is = λ e. (refl, endpoint_info_text-in bytes e is)
text-device_of (Some kind.SetConfiguration) bytes is = tt
text-device_of (Some kind.GetConfiguration) bytes is = tt
text-device_of (Some kind.ConfigurationStatus) bytes is = λ e. configuration_back (status_of (slice_index bytes 0)) bytes (named_status (slice_index bytes 0)) e
text-device_of (Some kind.SetAltSetting) bytes is = tt
text-device_of (Some kind.GetAltSetting) bytes is = tt
text-device_of (Some kind.AltSettingStatus) bytes is = λ e. alt_setting_back (status_of (slice_index bytes 0)) bytes (named_status (slice_index bytes 0)) e
text-device_of (Some kind.AllocBulkStreams) bytes is = tt
text-device_of (Some kind.FreeBulkStreams) bytes is = tt
text-device_of (Some kind.BulkStreamsStatus) bytes is = λ e. streams_back (status_of (slice_index bytes 8)) bytes (named_status (slice_index bytes 8)) e is
text-device_of (Some kind.CancelDataPacket) bytes is = tt
text-device_of (Some kind.FilterReject) bytes is = tt
text-device_of (Some kind.FilterFilter) bytes is = tt
text-device_of (Some kind.Control) bytes is = λ e. control_back (status_of (slice_index bytes 3)) bytes (named_status (slice_index bytes 3)) e is
text-device_of (Some kind.Bulk) bytes is = λ e. bulk_back (status_of (slice_index bytes 1)) bytes (named_status (slice_index bytes 1)) e is

abbrev IsRead : ℕ → ℕ → Option Kind → List ℕ → DevicePacket → Type 0
IsRead following fields k bytes p = (following ≡ fields + data_of_device p) × IsOf k bytes p

fitting_of : (following fields : ℕ) (k : Option Kind) (bytes : List ℕ) (m : Option DevicePacket) → IfSome m (IsOf k bytes)
    → IfOk (fitting_device following fields m) (IsRead following fields k bytes)
fitting_of following fields k bytes None known = tt
fitting_of following fields k bytes (Some p) known =
    cond_both _ (Ok p) (Err fault.BadLength) (λ (r : Result DevicePacket PacketFault). IfOk r (IsRead following fields k bytes))
    (λ yes. (eqb-true following (fields + data_of_device p) yes, known)) (λ no. tt)

whole_of : (following fields : ℕ) (k : Option Kind) (bytes : List ℕ) (c : Option ℕ) (m : Option DevicePacket)
    → IfSome c (λ n. fields ≡ n → IfSome m (IsOf k bytes)) → IfOk (whole_device following fields c m) (IsRead following fields k bytes)
whole_of following fields k bytes None m known = tt
whole_of following fields k bytes (Some n) m known =
    cond_both _ (fitting_device following fields m) (Err fault.BadLength) (λ (r : Result DevicePacket PacketFault). IfOk r (IsRead following fields k bytes))
    (λ yes. fitting_of following fields k bytes m (known (eqb-true fields n (and_parts _ _ yes).0))) (λ no. tt)

read_of : (h : Head) (bytes : List ℕ) → AreBytes bytes → IfOk (device_in h bytes) (IsRead h.length (length bytes) (kind_of h.kind) bytes)
read_of h bytes is = whole_of h.length (length bytes) (kind_of h.kind) bytes _ _ (text-device_of (kind_of h.kind) bytes is)

-- fields that are read as a packet
pub text-device_in : (h : Head) (bytes : List ℕ) → AreBytes bytes → IfOk (device_in h bytes) (λ p. device_fields_text p ≡ bytes)
text-device_in h bytes is = IfOk-weaker (device_in h bytes) _ _ (λ p known. known.1.1) (read_of h bytes is)

-- and the head in front of them
pub head-device_in : (h : Head) (bytes : List ℕ) → AreBytes bytes → IfOk (device_in h bytes) (λ p. device_head h.id p ≡ h)
head-device_in h bytes is =
    IfOk-weaker (device_in h bytes) _ _
    (λ p known. same_head _ _ _ h (number_of-kind h.kind (kind_of_device p) known.1.0)
    (ap (λ (l : List ℕ). length l + data_of_device p) known.1.1 ∙ sym known.0) refl) (read_of h bytes is)
