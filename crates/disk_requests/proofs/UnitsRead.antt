-- The units of a device, read.
use Rattle.std.proofs.Common.{◌≡◌, ℕ, ◌+◌, ◌*◌, ◌/◌, ◌%◌, ◌^◌, ◌<◌, ◌≤◌, List, length, take, min, refl, ap, ◌∙◌, arith, Some, true}
use Rattle.std.specs.Prelude.{nat_le}
use Rattle.std.proofs.lemmas.Bool.{le-leb}
use Rattle.std.proofs.lemmas.List.{take_all}
use Rattle.uas_iu.specs.Units.{unit_text}
use Rattle.uas_iu.specs.declared.TheConstants.{MAX_SENSE_BYTES}
use Rattle.disk_requests.specs.declared.StatusKind.TheVariants as kind
use Rattle.disk_requests.specs.Statuses.{status_in}
use Rattle.disk_requests.specs.Units.{response_text, sense_text}

-- a number of 16 bits by its two bytes
two_bytes_back : (n : ℕ) → n < 2 ^ 16 → 256 * (n / 256 % 256) + n % 256 ≡ n
two_bytes_back n small = omega arith

pub response_read : (tag code : ℕ) → tag < 2 ^ 16 → status_in (response_text tag code) ≡ Some (record { tag = tag; kind = kind.Response code })
unfolding unit_text
response_read tag code small =
    let tagged = two_bytes_back tag small in rw tagged refl

pub sense_read : (tag status : ℕ) (sense : List ℕ) → tag < 2 ^ 16 → length sense ≤ MAX_SENSE_BYTES
    → status_in (sense_text tag status sense) ≡ Some (record { tag = tag; kind = kind.Sense status (record { items = sense }) })
unfolding unit_text
sense_read tag status sense small few =
    let tagged = two_bytes_back tag small in
    let told : 256 * (length sense / 256 % 256) + length sense % 256 ≡ length sense = two_bytes_back (length sense) (omega arith) in
    let all : take (min (length sense) MAX_SENSE_BYTES) sense ≡ sense = ap (λ n. take n sense) (omega arith) ∙ take_all (length sense) sense (omega arith) in
    let long : nat_le 16 (length (sense_text tag status sense)) ≡ true = le-leb _ _ (omega arith) in
    rw (long, tagged, told, all) refl
