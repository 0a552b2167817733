-- The packets of the device's side and their bytes give each other back.
use Rattle.std.proofs.Common.{◌≡◌, ℕ, ◌+◌, ◌/◌, ◌%◌, ◌^◌, ◌≤◌, List, [], ◌∷◌, ◌++◌, length, take, drop, Option, Some, Ok, Err, refl, ap, sym, ◌∙◌, arith, rules}
use Rattle.std.specs.Prelude.{flat_map}
use Rattle.std.proofs.lemmas.Bool.{and_from, cond-true, eq-eqb, le-leb}
use Rattle.std.proofs.lemmas.List.{length-append, take_all}
use Rattle.byteorder.specs.Endian.{little_bytes}
use Rattle.byteorder.specs.Numbers.{little_number-reads_back}
use Rattle.usbredir.specs.declared.PacketFault.TheVariants as fault
use Rattle.usbredir.specs.declared.fields.BulkAnswer.{BulkAnswer}
use Rattle.usbredir.specs.declared.fields.ControlAnswer.{ControlAnswer}
use Rattle.usbredir.specs.declared.fields.DeviceConnect.{DeviceConnect}
use Rattle.usbredir.specs.declared.fields.EndpointInfo.{EndpointInfo}
use Rattle.usbredir.specs.declared.fields.InterfaceInfo.{InterfaceInfo}
use Rattle.usbredir.specs.declared.kinds.Kind.{Kind}
use Rattle.usbredir.specs.declared.kinds.Status.{Status}
use Rattle.usbredir.specs.declared.packets.DevicePacket.{DevicePacket}
use Rattle.usbredir.specs.declared.packets.DevicePacket.TheVariants as device
use Rattle.usbredir.specs.Device.{FitsBulkAnswer, FitsConnect, FitsControlAnswer, FitsDevice, FitsEndpoints, FitsInterfaces, bulk_answer_of, bulk_answer_text}
use Rattle.usbredir.specs.Device.{control_answer_of, control_answer_text, data_of_device, device_connect_in, device_connect_text, device_fields_text, device_head}
use Rattle.usbredir.specs.Device.{alt_setting_status_of, bulk_streams_status_of, configuration_status_of, device_in, device_of, endpoint_info_in, endpoint_info_text}
use Rattle.usbredir.specs.Device.{fields_of_device, fitting_device, interface_info_in, interface_info_text, kind_of_device, numbers_in, whole_device}
use Rattle.usbredir.specs.Kinds.{kind_of, most_bytes, number_of_kind, number_of_status, status_of}
use Rattle.usbredir.proofs.Requests.{halves, high_fits, kind_of-number, low_fits}
use Rattle.usbredir.proofs.Tables.{gone, length-table, placed, table_in-text}

pub status_of-number : (s : Status) → status_of (number_of_status s) ≡ Some s
status_of-number s = search rules

same_connect : (s c u r v p n : ℕ) (d : DeviceConnect) → s ≡ d.speed → c ≡ d.class → u ≡ d.subclass → r ≡ d.protocol → v ≡ d.vendor → p ≡ d.product → n ≡ d.version
    → ◌≡◌ {A = DeviceConnect} (record { speed = s; class = c; subclass = u; protocol = r; vendor = v; product = p; version = n }) d
same_connect s c u r v p n d a b e f g h i = rw (a, b, e, f, g, h, i) refl

device_connect_in-text : (d : DeviceConnect) → FitsConnect d → device_connect_in (device_connect_text d) ≡ d
unfolding device_connect_in device_connect_text
device_connect_in-text d fits =
    let version_text : List ℕ = little_bytes 2 d.version in
    let product_text : List ℕ = little_bytes 2 d.product ++ version_text in
    same_connect _ _ _ _ _ _ _ d refl refl refl refl (little_number-reads_back 2 d.vendor product_text fits.vendor)
    (little_number-reads_back 2 d.product version_text fits.product) (little_number-reads_back 2 d.version [] fits.version)

same_interfaces : (c : ℕ) (n l s p : List ℕ) (i : InterfaceInfo) → c ≡ i.count → n ≡ i.numbers → l ≡ i.classes → s ≡ i.subclasses → p ≡ i.protocols
    → ◌≡◌ {A = InterfaceInfo} (record { count = c; numbers = n; classes = l; subclasses = s; protocols = p }) i
same_interfaces c n l s p i a b d e f = rw (a, b, d, e, f) refl

interface_info_in-text : (i : InterfaceInfo) → FitsInterfaces i → interface_info_in (interface_info_text i) ≡ i
unfolding interface_info_in interface_info_text
interface_info_in-text i fits =
    let at3 : List ℕ = i.subclasses ++ i.protocols in
    let at2 : List ℕ = i.classes ++ at3 in
    let at1 : List ℕ = i.numbers ++ at2 in
    let second : drop 32 at1 ≡ at2 = gone 32 0 i.numbers at2 fits.numbers in
    let third : drop 64 at1 ≡ at3 = gone 32 32 i.numbers at2 fits.numbers ∙ gone 32 0 i.classes at3 fits.classes in
    let fourth : drop 96 at1 ≡ i.protocols =
    gone 32 64 i.numbers at2 fits.numbers ∙ gone 32 32 i.classes at3 fits.classes ∙ gone 32 0 i.subclasses i.protocols fits.subclasses in
    same_interfaces _ _ _ _ _ i (little_number-reads_back 4 i.count at1 fits.count)
    (placed 32 i.numbers at2 fits.numbers)
    (ap (take 32) second ∙ placed 32 i.classes at3 fits.classes)
    (ap (take 32) third ∙ placed 32 i.subclasses i.protocols fits.subclasses)
    (ap (take 32) fourth ∙ take_all 32 i.protocols (omega (arith, fits.protocols)))

same_endpoints : (t i f p s : List ℕ) (e : EndpointInfo) → t ≡ e.types → i ≡ e.intervals → f ≡ e.interfaces → p ≡ e.packet_sizes → s ≡ e.streams
    → ◌≡◌ {A = EndpointInfo} (record { types = t; intervals = i; interfaces = f; packet_sizes = p; streams = s }) e
same_endpoints t i f p s e a b c d g = rw (a, b, c, d, g) refl

endpoint_info_in-text : (e : EndpointInfo) → FitsEndpoints e → endpoint_info_in (endpoint_info_text e) ≡ e
unfolding endpoint_info_in endpoint_info_text
endpoint_info_in-text e fits =
    let at4 : List ℕ = flat_map (little_bytes 4) e.streams in
    let sizes : List ℕ = flat_map (little_bytes 2) e.packet_sizes in
    let at3 : List ℕ = sizes ++ at4 in
    let at2 : List ℕ = e.interfaces ++ at3 in
    let at1 : List ℕ = e.intervals ++ at2 in
    let at0 : List ℕ = e.types ++ at1 in
    let sizes_long : length sizes ≡ 64 = omega (arith, length-table 2 e.packet_sizes, fits.packet_sizes.0) in
    let streams_long : length at4 ≡ 128 = omega (arith, length-table 4 e.streams, fits.streams.0) in
    let first : drop 32 at0 ≡ at1 = gone 32 0 e.types at1 fits.types in
    let second : drop 64 at0 ≡ at2 = gone 32 32 e.types at1 fits.types ∙ gone 32 0 e.intervals at2 fits.intervals in
    let third : drop 96 at0 ≡ at3 =
    gone 32 64 e.types at1 fits.types ∙ gone 32 32 e.intervals at2 fits.intervals ∙ gone 32 0 e.interfaces at3 fits.interfaces in
    let fourth : drop 160 at0 ≡ at4 =
    gone 32 128 e.types at1 fits.types ∙ gone 32 96 e.intervals at2 fits.intervals ∙ gone 32 64 e.interfaces at3 fits.interfaces
    ∙ gone 64 0 sizes at4 sizes_long in
    same_endpoints _ _ _ _ _ e
    (placed 32 e.types at1 fits.types)
    (ap (take 32) first ∙ placed 32 e.intervals at2 fits.intervals)
    (ap (take 32) second ∙ placed 32 e.interfaces at3 fits.interfaces)
    (ap (λ (l : List ℕ). numbers_in 2 32 (take 64 l)) third ∙ ap (numbers_in 2 32) (placed 64 sizes at4 sizes_long)
    ∙ table_in-text 2 32 e.packet_sizes fits.packet_sizes.0 fits.packet_sizes.1)
    (ap (λ (l : List ℕ). numbers_in 4 32 (take 128 l)) fourth ∙ ap (numbers_in 4 32) (take_all 128 at4 (omega (arith, streams_long)))
    ∙ table_in-text 4 32 e.streams fits.streams.0 fits.streams.1)

same_control : (e r t v i l : ℕ) (s : Status) (a : ControlAnswer) → e ≡ a.endpoint → r ≡ a.request → t ≡ a.request_type → s ≡ a.status → v ≡ a.value → i ≡ a.index → l ≡ a.length
    → Some (device.Control (record { endpoint = e; request = r; request_type = t; status = s; value = v; index = i; length = l })) ≡ Some (device.Control a)
same_control e r t v i l s a p q u w x y z = rw (p, q, u, w, x, y, z) refl

control_answer_in-text : (a : ControlAnswer) → FitsControlAnswer a → control_answer_of (Some a.status) (control_answer_text a) ≡ Some (device.Control a)
unfolding control_answer_text
control_answer_in-text a fits =
    let length_text : List ℕ = little_bytes 2 a.length in
    let index_text : List ℕ = little_bytes 2 a.index ++ length_text in
    same_control _ _ _ _ _ _ a.status a refl refl refl refl (little_number-reads_back 2 a.value index_text fits.value)
    (little_number-reads_back 2 a.index length_text fits.index) (little_number-reads_back 2 a.length [] fits.length)

same_bulk : (e l t : ℕ) (s : Status) (a : BulkAnswer) → e ≡ a.endpoint → s ≡ a.status → l ≡ a.length → t ≡ a.stream
    → Some (device.Bulk (record { endpoint = e; status = s; length = l; stream = t })) ≡ Some (device.Bulk a)
same_bulk e l t s a p q r u = rw (p, q, r, u) refl

bulk_answer_in-text : (a : BulkAnswer) → FitsBulkAnswer a → bulk_answer_of (Some a.status) (bulk_answer_text a) ≡ Some (device.Bulk a)
unfolding bulk_answer_text
bulk_answer_in-text a fits =
    let high_text : List ℕ = little_bytes 2 (a.length / 2 ^ 16) in
    let stream_text : List ℕ = little_bytes 4 a.stream ++ high_text in
    same_bulk _ _ _ a.status a refl refl
    (halves _ _ a.length (little_number-reads_back 2 (a.length % 2 ^ 16) stream_text (low_fits a.length))
    (little_number-reads_back 2 (a.length / 2 ^ 16) [] (high_fits a.length fits.length)))
    (little_number-reads_back 4 a.stream high_text fits.stream)

same_streams : (e s endpoints streams : ℕ) (status : Status) → e ≡ endpoints → s ≡ streams
    → Some (device.BulkStreamsStatus e s status) ≡ Some (device.BulkStreamsStatus endpoints streams status)
same_streams e s endpoints streams status p q = rw (p, q) refl

-- the fields of a packet are read as it
device_of-text : (p : DevicePacket) → FitsDevice p → device_of (Some (kind_of_device p)) (device_fields_text p) ≡ Some p
unfolding control_answer_text bulk_answer_text
device_of-text (device.DeviceConnect d) fits = ap (λ (x : DeviceConnect). Some (device.DeviceConnect x)) (device_connect_in-text d fits)
device_of-text (device.InterfaceInfo i) fits = ap (λ (x : InterfaceInfo). Some (device.InterfaceInfo x)) (interface_info_in-text i fits)
device_of-text (device.EndpointInfo e) fits = ap (λ (x : EndpointInfo). Some (device.EndpointInfo x)) (endpoint_info_in-text e fits)
device_of-text (device.ConfigurationStatus status value) fits =
    ap (λ (s : Option Status). configuration_status_of s (number_of_status status ∷ value ∷ [])) (status_of-number status)
device_of-text (device.AltSettingStatus status interface setting) fits =
    ap (λ (s : Option Status). alt_setting_status_of s (number_of_status status ∷ interface ∷ setting ∷ [])) (status_of-number status)
device_of-text (device.BulkStreamsStatus endpoints streams status) fits =
    let streams_text : List ℕ = little_bytes 4 streams ++ number_of_status status ∷ [] in
    ap (λ (s : Option Status). bulk_streams_status_of s (little_bytes 4 endpoints ++ streams_text)) (status_of-number status)
    ∙ same_streams _ _ endpoints streams status (little_number-reads_back 4 endpoints streams_text fits.0)
    (little_number-reads_back 4 streams (number_of_status status ∷ []) fits.1)
device_of-text (device.Control a) fits =
    ap (λ (s : Option Status). control_answer_of s (control_answer_text a)) (status_of-number a.status) ∙ control_answer_in-text a fits
device_of-text (device.Bulk a) fits =
    ap (λ (s : Option Status). bulk_answer_of s (bulk_answer_text a)) (status_of-number a.status) ∙ bulk_answer_in-text a fits

-- so many bytes
length-interfaces : (i : InterfaceInfo) → FitsInterfaces i → length (interface_info_text i) ≡ 132
unfolding interface_info_text
length-interfaces i fits =
    let at3 : List ℕ = i.subclasses ++ i.protocols in
    let at2 : List ℕ = i.classes ++ at3 in
    omega (arith, length-append i.numbers at2, length-append i.classes at3, length-append i.subclasses i.protocols, fits.numbers, fits.classes, fits.subclasses, fits.protocols)

length-endpoints : (e : EndpointInfo) → FitsEndpoints e → length (endpoint_info_text e) ≡ 288
unfolding endpoint_info_text
length-endpoints e fits =
    let at4 : List ℕ = flat_map (little_bytes 4) e.streams in
    let sizes : List ℕ = flat_map (little_bytes 2) e.packet_sizes in
    let at2 : List ℕ = e.interfaces ++ (sizes ++ at4) in
    omega (
      arith,
      length-append e.types (e.intervals ++ at2),
      length-append e.intervals at2,
      length-append e.interfaces (sizes ++ at4),
      length-append sizes at4,
      length-table 4 e.streams,
      length-table 2 e.packet_sizes,
      fits.types,
      fits.intervals,
      fits.interfaces,
      fits.packet_sizes.0,
      fits.streams.0,
    )

fields_of-text : (p : DevicePacket) → FitsDevice p → fields_of_device (Some (kind_of_device p)) ≡ Some (length (device_fields_text p))
unfolding control_answer_text bulk_answer_text device_connect_text
fields_of-text (device.DeviceConnect d) fits = refl
fields_of-text (device.InterfaceInfo i) fits = ap (λ (n : ℕ). Some n) (sym (length-interfaces i fits))
fields_of-text (device.EndpointInfo e) fits = ap (λ (n : ℕ). Some n) (sym (length-endpoints e fits))
fields_of-text (device.ConfigurationStatus status value) fits = refl
fields_of-text (device.AltSettingStatus status interface setting) fits = refl
fields_of-text (device.BulkStreamsStatus endpoints streams status) fits = refl
fields_of-text (device.Control a) fits = refl
fields_of-text (device.Bulk a) fits = refl

pub device_in-text : (id : ℕ) (p : DevicePacket) → FitsDevice p → length (device_fields_text p) + data_of_device p ≤ most_bytes
    → device_in (device_head id p) (device_fields_text p) ≡ Ok p
device_in-text id p fits few =
    let text : List ℕ = device_fields_text p in
    let fields : ℕ = length text in
    let all : ℕ = fields + data_of_device p in
    let named : kind_of (number_of_kind (kind_of_device p)) ≡ Some (kind_of_device p) = kind_of-number (kind_of_device p) in
    ap (λ (k : Option Kind). whole_device all fields (fields_of_device k) (device_of k text)) named
    ∙ ap (λ (n : Option ℕ). whole_device all fields n (device_of (Some (kind_of_device p)) text)) (fields_of-text p fits)
    ∙ ap (whole_device all fields (Some fields)) (device_of-text p fits)
    ∙ cond-true _ (fitting_device all fields (Some p)) (Err fault.BadLength) (and_from _ _ (eq-eqb fields fields refl) (le-leb all most_bytes few))
    ∙ cond-true _ (Ok p) (Err fault.BadLength) (eq-eqb all all refl)
