-- The packets of a guest's side and their bytes give each other back.
use Rattle.std.proofs.Common.{◌≡◌, ℕ, ◌+◌, ◌-◌, ◌*◌, ◌/◌, ◌%◌, ◌^◌, ◌<◌, ◌≤◌, List, [], ◌∷◌, ◌++◌, length, take, drop, slice_index, Option, Some, None, Result, Ok, Err, refl, ap, sym, subst, ◌∙◌, arith, rules}
use Rattle.std.specs.Prelude.{IfOk, IfSome}
use Rattle.std.proofs.Math.Nat.{mod-lt, mod-add-div}
use Rattle.std.proofs.lemmas.Bool.{and_from, and_parts, cond-true, cond_both, eq-eqb, eqb-true, le-leb}
use Rattle.byteorder.specs.Endian.{little_bytes, little_number}
use Rattle.byteorder.specs.Numbers.{little_from-lt, little_number-reads_back}
use Rattle.byte_numbers.specs.Bytes.{AreBytes}
use Rattle.byte_numbers.proofs.Bytes.{bytes_dropped}
use Rattle.std.proofs.lemmas.List.{drop_all}
use Rattle.std.proofs.lemmas.Result.{IfOk-weaker}
use Rattle.usbredir.proofs.Heads.{same_head}
use Rattle.usbredir.proofs.Numbers.{byte, last, middle}
use Rattle.usbredir.specs.declared.PacketFault.{PacketFault}
use Rattle.usbredir.specs.declared.PacketFault.TheVariants as fault
use Rattle.usbredir.specs.declared.fields.BulkRequest.{BulkRequest}
use Rattle.usbredir.specs.declared.fields.ControlRequest.{ControlRequest}
use Rattle.usbredir.specs.declared.kinds.Head.{Head}
use Rattle.usbredir.specs.declared.kinds.Kind.{Kind}
use Rattle.usbredir.specs.declared.kinds.Kind.TheVariants as kind
use Rattle.usbredir.specs.declared.packets.GuestPacket.{GuestPacket}
use Rattle.usbredir.specs.declared.packets.GuestPacket.TheVariants as guest
use Rattle.usbredir.specs.Guest.{FitsBulk, FitsControl, FitsGuest, bulk_request_in, bulk_request_text, control_request_in, control_request_text, data_of_guest}
use Rattle.usbredir.specs.Guest.{guest_fields_text, guest_head, guest_in, guest_of, kind_of_guest, whole_guest, without_status}
use Rattle.usbredir.specs.Kinds.{kind_of, most_bytes, number_of_kind}

pub named : (n : ℕ) → IfSome (kind_of n) (λ name. number_of_kind name ≡ n)
named n = search (rules, eqb-true)

pub kind_of-number : (k : Kind) → kind_of (number_of_kind k) ≡ Some k
kind_of-number k = search rules

same_control : (e r t v i l : ℕ) (c : ControlRequest) → e ≡ c.endpoint → r ≡ c.request → t ≡ c.request_type → v ≡ c.value → i ≡ c.index → l ≡ c.length
    → ◌≡◌ {A = ControlRequest} (record { endpoint = e; request = r; request_type = t; value = v; index = i; length = l }) c
same_control e r t v i l c p q s u w x = rw (p, q, s, u, w, x) refl

control_request_in-text : (c : ControlRequest) → FitsControl c → control_request_in (control_request_text c) ≡ c
unfolding control_request_in control_request_text
control_request_in-text c fits =
    let length_text : List ℕ = little_bytes 2 c.length in
    let index_text : List ℕ = little_bytes 2 c.index ++ length_text in
    same_control _ _ _ _ _ _ c refl refl refl (little_number-reads_back 2 c.value index_text fits.value)
    (little_number-reads_back 2 c.index length_text fits.index) (little_number-reads_back 2 c.length [] fits.length)

same_bulk : (e l s : ℕ) (b : BulkRequest) → e ≡ b.endpoint → l ≡ b.length → s ≡ b.stream
    → ◌≡◌ {A = BulkRequest} (record { endpoint = e; length = l; stream = s }) b
same_bulk e l s b p q r = rw (p, q, r) refl

-- the halves of a length
pub halves : (low high n : ℕ) → low ≡ n % 2 ^ 16 → high ≡ n / 2 ^ 16 → low + 2 ^ 16 * high ≡ n
halves low high n a b = rw (a, b) (mod-add-div n (2 ^ 16))

pub low_fits : (n : ℕ) → n % 2 ^ 16 < 2 ^ 16
low_fits n = mod-lt n (omega arith)

pub high_fits : (n : ℕ) → n < 2 ^ 32 → n / 2 ^ 16 < 2 ^ 16
high_fits n h = omega (arith, mod-add-div n (2 ^ 16))

bulk_request_in-text : (b : BulkRequest) → FitsBulk b → bulk_request_in (bulk_request_text b) ≡ b
unfolding bulk_request_in bulk_request_text
bulk_request_in-text b fits =
    let high_text : List ℕ = little_bytes 2 (b.length / 2 ^ 16) in
    let stream_text : List ℕ = little_bytes 4 b.stream ++ high_text in
    same_bulk _ _ _ b refl
    (halves _ _ b.length (little_number-reads_back 2 (b.length % 2 ^ 16) stream_text (low_fits b.length))
    (little_number-reads_back 2 (b.length / 2 ^ 16) [] (high_fits b.length fits.length)))
    (little_number-reads_back 4 b.stream high_text fits.stream)

same_alloc : (e s endpoints streams : ℕ) → e ≡ endpoints → s ≡ streams
    → Some (guest.AllocBulkStreams e s) ≡ Some (guest.AllocBulkStreams endpoints streams)
same_alloc e s endpoints streams p q = rw (p, q) refl

-- the fields of a packet are read as it
guest_of-text : (p : GuestPacket) → FitsGuest p → guest_of (Some (kind_of_guest p)) (guest_fields_text p) ≡ Some p
guest_of-text guest.Reset fits = refl
guest_of-text (guest.SetConfiguration value) fits = refl
guest_of-text guest.GetConfiguration fits = refl
guest_of-text (guest.SetAltSetting interface setting) fits = refl
guest_of-text (guest.GetAltSetting interface) fits = refl
guest_of-text (guest.AllocBulkStreams endpoints streams) fits =
    same_alloc _ _ endpoints streams (little_number-reads_back 4 endpoints (little_bytes 4 streams) fits.0) (little_number-reads_back 4 streams [] fits.1)
guest_of-text (guest.FreeBulkStreams endpoints) fits =
    ap (λ (e : ℕ). Some (guest.FreeBulkStreams e)) (little_number-reads_back 4 endpoints [] fits)
guest_of-text guest.CancelDataPacket fits = refl
guest_of-text guest.FilterReject fits = refl
guest_of-text guest.FilterFilter fits = refl
guest_of-text (guest.Control c) fits = ap (λ (x : ControlRequest). Some (guest.Control x)) (control_request_in-text c fits)
guest_of-text (guest.Bulk b) fits = ap (λ (x : BulkRequest). Some (guest.Bulk x)) (bulk_request_in-text b fits)

pub guest_in-text : (id count : ℕ) (p : GuestPacket) → FitsGuest p → count ≡ data_of_guest p (length (guest_fields_text p) + count)
    → length (guest_fields_text p) + count ≤ most_bytes → guest_in (guest_head id p count) (guest_fields_text p) ≡ Ok p
guest_in-text id count p fits known few =
    let fields : ℕ = length (guest_fields_text p) in
    let read : guest_of (kind_of (number_of_kind (kind_of_guest p))) (guest_fields_text p) ≡ Some p =
    ap (λ (k : Option Kind). guest_of k (guest_fields_text p)) (kind_of-number (kind_of_guest p)) ∙ guest_of-text p fits in
    ap (whole_guest (fields + count) fields) read
    ∙ cond-true _ (Ok p) (Err fault.BadLength)
    (and_from _ _ (and_from _ _ (le-leb (fields + count) most_bytes few) (eq-eqb fields fields refl))
    (eq-eqb (fields + count) (fields + data_of_guest p (fields + count)) (ap (λ (n : ℕ). fields + n) known)))

-- THE OTHER WAY

pub nothing : (at : ℕ) (bytes : List ℕ) → length bytes ≡ at → [] ≡ drop at bytes
nothing at bytes e = sym (drop_all at bytes (omega arith))

pub three : (bytes : List ℕ) → 4 ≤ length bytes → take 3 bytes ≡ slice_index bytes 0 ∷ slice_index bytes 1 ∷ slice_index bytes 2 ∷ []
three [] h = absurd (omega arith)
three (a ∷ []) h = absurd (omega arith)
three (a ∷ b ∷ []) h = absurd (omega arith)
three (a ∷ b ∷ c ∷ rest) h = refl

pub one : (bytes : List ℕ) → 1 ≤ length bytes → take 1 bytes ≡ slice_index bytes 0 ∷ []
one [] h = absurd (omega arith)
one (a ∷ rest) h = refl

control_request_text-in : (bytes : List ℕ) → length bytes ≡ 10 → AreBytes bytes → control_request_text (control_request_in bytes) ≡ take 3 bytes ++ 0 ∷ drop 4 bytes
unfolding control_request_in control_request_text
control_request_text-in bytes long is =
    let at4 : little_bytes 2 (little_number 2 (drop 4 bytes)) ++ little_bytes 2 (little_number 2 (drop 6 bytes)) ++ little_bytes 2 (little_number 2 (drop 8 bytes)) ≡ drop 4 bytes =
    middle 2 4 bytes _ (omega arith) is (middle 2 6 bytes _ (omega arith) is (last 2 8 bytes (omega arith) is)) in
    ap (λ (back : List ℕ). slice_index bytes 0 ∷ slice_index bytes 1 ∷ slice_index bytes 2 ∷ 0 ∷ back) at4
    ∙ ap (λ (front : List ℕ). front ++ 0 ∷ drop 4 bytes) (sym (three bytes (omega arith)))

-- the halves that a length was joined of
pub low_of : (low high : ℕ) → low < 2 ^ 16 → (low + 2 ^ 16 * high) % 2 ^ 16 ≡ low
low_of low high fits = omega (arith, mod-add-div (low + 2 ^ 16 * high) (2 ^ 16), low_fits (low + 2 ^ 16 * high), fits)

pub high_of : (low high : ℕ) → low < 2 ^ 16 → (low + 2 ^ 16 * high) / 2 ^ 16 ≡ high
high_of low high fits = omega (arith, mod-add-div (low + 2 ^ 16 * high) (2 ^ 16), low_fits (low + 2 ^ 16 * high), fits)

bulk_request_text-in : (bytes : List ℕ) → length bytes ≡ 10 → AreBytes bytes → bulk_request_text (bulk_request_in bytes) ≡ take 1 bytes ++ 0 ∷ drop 2 bytes
unfolding bulk_request_in bulk_request_text
bulk_request_text-in bytes long is =
    let low : ℕ = little_number 2 (drop 2 bytes) in
    let high : ℕ = little_number 2 (drop 8 bytes) in
    let fits : low < 2 ^ 16 = little_from-lt 0 2 (drop 2 bytes) (bytes_dropped 2 bytes is) in
    let stream : List ℕ = little_bytes 4 (little_number 4 (drop 4 bytes)) in
    let at2 : little_bytes 2 low ++ stream ++ little_bytes 2 high ≡ drop 2 bytes =
    middle 2 2 bytes _ (omega arith) is (middle 4 4 bytes _ (omega arith) is (last 2 8 bytes (omega arith) is)) in
    ap (λ (n : ℕ). slice_index bytes 0 ∷ 0 ∷ little_bytes 2 n ++ stream ++ little_bytes 2 ((low + 2 ^ 16 * high) / 2 ^ 16)) (low_of low high fits)
    ∙ ap (λ (n : ℕ). slice_index bytes 0 ∷ 0 ∷ little_bytes 2 low ++ stream ++ little_bytes 2 n) (high_of low high fits)
    ∙ ap (λ (back : List ℕ). slice_index bytes 0 ∷ 0 ∷ back) at2
    ∙ ap (λ (front : List ℕ). front ++ 0 ∷ drop 2 bytes) (sym (one bytes (omega arith)))

-- the packet of a kind, whose fields are these bytes
abbrev IsOf : Option Kind → List ℕ → GuestPacket → Type 0
IsOf k bytes p = (k ≡ Some (kind_of_guest p)) × (length bytes ≡ length (guest_fields_text p) → guest_fields_text p ≡ without_status p bytes)

text-guest_of : (k : Option Kind) (bytes : List ℕ) → AreBytes bytes → IfSome (guest_of k bytes) (IsOf k bytes)
unfolding control_request_text bulk_request_text
text-guest_of None bytes is = tt
text-guest_of (Some kind.Hello) bytes is = tt
text-guest_of (Some kind.DeviceConnect) bytes is = tt
text-guest_of (Some kind.Reset) bytes is = (refl, λ e. nothing 0 bytes e)
text-guest_of (Some kind.InterfaceInfo) bytes is = tt
text-guest_of (Some kind.EndpointInfo) bytes is = tt
text-guest_of (Some kind.SetConfiguration) bytes is = (refl, λ e. byte 0 bytes [] (omega arith) (nothing 1 bytes e))
text-guest_of (Some kind.GetConfiguration) bytes is = (refl, λ e. nothing 0 bytes e)
text-guest_of (Some kind.ConfigurationStatus) bytes is = tt
text-guest_of (Some kind.SetAltSetting) bytes is =
    (refl, λ e. byte 0 bytes _ (omega arith) (byte 1 bytes [] (omega arith) (nothing 2 bytes e)))
text-guest_of (Some kind.GetAltSetting) bytes is = (refl, λ e. byte 0 bytes [] (omega arith) (nothing 1 bytes e))
text-guest_of (Some kind.AltSettingStatus) bytes is = tt
text-guest_of (Some kind.AllocBulkStreams) bytes is =
    (refl, λ e. middle 4 0 bytes _ (omega arith) is (last 4 4 bytes (omega arith) is))
text-guest_of (Some kind.FreeBulkStreams) bytes is = (refl, λ e. last 4 0 bytes (omega arith) is)
text-guest_of (Some kind.BulkStreamsStatus) bytes is = tt
text-guest_of (Some kind.CancelDataPacket) bytes is = (refl, λ e. nothing 0 bytes e)
text-guest_of (Some kind.FilterReject) bytes is = (refl, λ e. nothing 0 bytes e)
text-guest_of (Some kind.FilterFilter) bytes is = (refl, λ e. nothing 0 bytes e)
text-guest_of (Some kind.Control) bytes is = (refl, λ e. control_request_text-in bytes e is)
text-guest_of (Some kind.Bulk) bytes is = (refl, λ e. bulk_request_text-in bytes e is)

-- what a whole packet is known by
abbrev IsWhole : ℕ → ℕ → GuestPacket → Type 0
IsWhole following fields p = (fields ≡ length (guest_fields_text p)) × (fields ≤ following)

whole_of : (following fields : ℕ) (k : Option Kind) (bytes : List ℕ) (m : Option GuestPacket) → IfSome m (IsOf k bytes)
    → IfOk (whole_guest following fields m) (λ p. IsOf k bytes p × IsWhole following fields p)
whole_of following fields k bytes None known = tt
whole_of following fields k bytes (Some p) known =
    cond_both _ (Ok p) (Err fault.BadLength) (λ (r : Result GuestPacket PacketFault). IfOk r (λ q. IsOf k bytes q × IsWhole following fields q))
    (λ yes.
    (let parts = and_parts _ _ yes in
    let front = and_parts _ _ parts.0 in
    let same : fields ≡ length (guest_fields_text p) = eqb-true fields (length (guest_fields_text p)) front.1 in
    let all : following ≡ fields + data_of_guest p following = eqb-true following (fields + data_of_guest p following) parts.1 in
    (known, (same, omega arith))))
    (λ no. tt)

pub number_of-kind : (n : ℕ) (k : Kind) → kind_of n ≡ Some k → number_of_kind k ≡ n
number_of-kind n k e = subst (λ (m : Option Kind). IfSome m (λ name. number_of_kind name ≡ n)) e (named n)

read_of : (h : Head) (bytes : List ℕ) → AreBytes bytes
    → IfOk (guest_in h bytes) (λ p. IsOf (kind_of h.kind) bytes p × IsWhole h.length (length bytes) p)
read_of h bytes is = whole_of h.length (length bytes) (kind_of h.kind) bytes _ (text-guest_of (kind_of h.kind) bytes is)

-- fields that are read as a packet
pub text-guest_in : (h : Head) (bytes : List ℕ) → AreBytes bytes → IfOk (guest_in h bytes) (λ p. guest_fields_text p ≡ without_status p bytes)
text-guest_in h bytes is = IfOk-weaker (guest_in h bytes) _ _ (λ p known. known.0.1 known.1.0) (read_of h bytes is)

-- and the head in front of them
pub head-guest_in : (h : Head) (bytes : List ℕ) → AreBytes bytes → IfOk (guest_in h bytes) (λ p. guest_head h.id p (h.length - length bytes) ≡ h)
head-guest_in h bytes is =
    IfOk-weaker (guest_in h bytes) _ _
    (λ p known. same_head _ _ _ h (number_of-kind h.kind (kind_of_guest p) known.0.0) (omega (arith, known.1.0, known.1.1)) refl) (read_of h bytes is)
