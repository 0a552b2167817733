-- The 18 bytes of a device descriptor, by the bytes at their places.
use Rattle.std.proofs.Common.{◌≡◌, ℕ, ◌+◌, ◌*◌, ◌/◌, ◌%◌, ◌<◌, ◌^◌, ◌==◌, ◌&&◌, true, List, [], ◌∷◌, length, slice_index, refl, arith}
use Rattle.std.proofs.lemmas.Bool.{and_parts, eqb-true}
use Rattle.usb_descriptors.specs.Device.{is_device}
use Rattle.usb_descriptors.specs.Fields.{word}

pub record DeviceBytes (bytes : List ℕ) : Type 0 where
  pub size : length bytes ≡ 18
  pub told : slice_index bytes 0 ≡ 18
  pub kind : slice_index bytes 1 ≡ 1

pub device_bytes : (bytes : List ℕ) → is_device bytes ≡ true → DeviceBytes bytes
device_bytes bytes e =
    let three = and_parts ((length bytes == 18) && (slice_index bytes 0 == 18) && (slice_index bytes 1 == 1)) (slice_index bytes 7 == 9) e in
    let two = and_parts ((length bytes == 18) && (slice_index bytes 0 == 18)) (slice_index bytes 1 == 1) three.0 in
    let one = and_parts (length bytes == 18) (slice_index bytes 0 == 18) two.0 in
    record { size = eqb-true _ _ one.0; told = eqb-true _ _ one.1; kind = eqb-true _ _ two.1 }

low_byte : (n low high : ℕ) → low < 2 ^ 8 → n ≡ low + 256 * high → n % 256 ≡ low
low_byte n low high small e = omega arith

high_byte : (n low high : ℕ) → low < 2 ^ 8 → n ≡ low + 256 * high → n / 256 ≡ high
high_byte n low high small e = omega arith

listed : (bytes : List ℕ) → length bytes ≡ 18 →
    bytes ≡ slice_index bytes 0 ∷ slice_index bytes 1 ∷ slice_index bytes 2 ∷ slice_index bytes 3 ∷ slice_index bytes 4 ∷ slice_index bytes 5
    ∷ slice_index bytes 6 ∷ slice_index bytes 7 ∷ slice_index bytes 8 ∷ slice_index bytes 9 ∷ slice_index bytes 10 ∷ slice_index bytes 11
    ∷ slice_index bytes 12 ∷ slice_index bytes 13 ∷ slice_index bytes 14 ∷ slice_index bytes 15 ∷ slice_index bytes 16 ∷ slice_index bytes 17 ∷ []
listed (a ∷ b ∷ c ∷ d ∷ e ∷ f ∷ g ∷ h ∷ i ∷ j ∷ k ∷ l ∷ m ∷ n ∷ o ∷ p ∷ q ∷ r ∷ []) size = refl
listed _ size = absurd (omega arith)

-- a device descriptor's bytes are those of its fields
pub eighteen : (bytes : List ℕ) (release vendor product device : ℕ) → is_device bytes ≡ true → ((k : ℕ) → slice_index bytes k < 2 ^ 8)
    → release ≡ word bytes 2 → vendor ≡ word bytes 8 → product ≡ word bytes 10 → device ≡ word bytes 12
    → 18 ∷ 1 ∷ release % 256 ∷ release / 256 ∷ slice_index bytes 4 ∷ slice_index bytes 5 ∷ slice_index bytes 6 ∷ slice_index bytes 7
    ∷ vendor % 256 ∷ vendor / 256 ∷ product % 256 ∷ product / 256 ∷ device % 256 ∷ device / 256
    ∷ slice_index bytes 14 ∷ slice_index bytes 15 ∷ slice_index bytes 16 ∷ slice_index bytes 17 ∷ [] ≡ bytes
eighteen bytes release vendor product device e small r v p d =
    let known = device_bytes bytes e in
    let told = known.told in
    let kind = known.kind in
    let all = listed bytes known.size in
    let r0 = low_byte release (slice_index bytes 2) (slice_index bytes 3) (small 2) r in
    let r1 = high_byte release (slice_index bytes 2) (slice_index bytes 3) (small 2) r in
    let v0 = low_byte vendor (slice_index bytes 8) (slice_index bytes 9) (small 8) v in
    let v1 = high_byte vendor (slice_index bytes 8) (slice_index bytes 9) (small 8) v in
    let p0 = low_byte product (slice_index bytes 10) (slice_index bytes 11) (small 10) p in
    let p1 = high_byte product (slice_index bytes 10) (slice_index bytes 11) (small 10) p in
    let d0 = low_byte device (slice_index bytes 12) (slice_index bytes 13) (small 12) d in
    let d1 = high_byte device (slice_index bytes 12) (slice_index bytes 13) (small 12) d in
    cc
