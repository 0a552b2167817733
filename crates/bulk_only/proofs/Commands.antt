-- CBWs and their bytes give each other back.
use Rattle.std.proofs.Common.{◌≡◌, ℕ, ◌+◌, ◌-◌, ◌*◌, ◌/◌, ◌%◌, ◌^◌, ◌<◌, ◌≤◌, ◌==◌, Bool, true, false, List, [], ◌∷◌, ◌++◌, length, take, drop, slice_index}
use Rattle.std.proofs.Common.{Result, Ok, Err, refl, sym, ap, ap₂, subst, ◌∙◌, arith}
use Rattle.std.specs.Prelude.{IfOk, nat_le, not, replicate, if◌then◌else◌}
use Rattle.std.proofs.Math.Nat.{mod-lt}
use Rattle.std.proofs.lemmas.Bool.{and_from, and_parts, cond_both, eq-eqb, eqb-true, le-leb, leb-true, leb-false, not-false}
use Rattle.std.proofs.lemmas.List.{drop_at, length-append, length-drop, length-replicate, length-take-le, take-append-drop}
use Rattle.byteorder.specs.Endian.{little_bytes, little_number}
use Rattle.byteorder.specs.Numbers.{little_from-lt, little_number-reads_back}
use Rattle.byte_numbers.specs.Bytes.{AreBytes}
use Rattle.byte_numbers.proofs.Bytes.{bytes_dropped}
use Rattle.bulk_only.specs.declared.command.Cbw.{Cbw}
use Rattle.bulk_only.specs.declared.command.CbwFault.{CbwFault}
use Rattle.bulk_only.specs.declared.command.CbwFault.TheVariants.{Length, Signature, CommandLength}
use Rattle.bulk_only.specs.Command.{FitsCbw, cbw_in, cbw_of, cbw_text, cdb_in, flags_of, is_cdb_length}
use Rattle.bulk_only.specs.Laws.{without_reserved}

same_cbw : (t h : ℕ) (i : Bool) (l : ℕ) (c : List ℕ) (n : ℕ) (cbw : Cbw) → t ≡ cbw.tag → h ≡ cbw.length → i ≡ cbw.is_in → l ≡ cbw.lun → c ≡ cbw.cdb
    → n ≡ cbw.cdb_length → ◌≡◌ {A = Cbw} (record { tag = t; length = h; is_in = i; lun = l; cdb = c; cdb_length = n }) cbw
same_cbw t h i l c n cbw a b d e f g = rw (a, b, d, e, f, g) refl

flag_back : (is_in : Bool) → nat_le (2 ^ 7) (flags_of is_in) ≡ is_in
flag_back true = refl
flag_back false = refl

-- a CDB and the zeros behind it
cdb_back : (cdb : List ℕ) (count : ℕ) → drop count cdb ≡ replicate (16 - count) 0 → take count cdb ++ replicate (16 - count) 0 ≡ cdb
cdb_back cdb count zeros = ap (λ (back : List ℕ). take count cdb ++ back) (sym zeros) ∙ take-append-drop count cdb

pub cbw_back : (cbw : Cbw) → FitsCbw cbw → cbw_of (cbw_text cbw) ≡ cbw
unfolding cbw_text cdb_in
cbw_back cbw fits =
    let count : cbw.cdb_length % 2 ^ 5 ≡ cbw.cdb_length = omega (arith, fits.few) in
    let tail : List ℕ = flags_of cbw.is_in ∷ cbw.lun % 2 ^ 4 ∷ cbw.cdb_length % 2 ^ 5 ∷ cbw.cdb in
    same_cbw _ _ _ _ _ _ cbw (little_number-reads_back 4 cbw.tag (little_bytes 4 cbw.length ++ tail) fits.tag)
    (little_number-reads_back 4 cbw.length tail fits.data_length) (flag_back cbw.is_in) (omega (arith, fits.lun))
    (rw (count, count) (cdb_back cbw.cdb cbw.cdb_length fits.zeros)) (rw (count, count) refl)

pub cbw_read_back : (cbw : Cbw) → FitsCbw cbw → cbw_in (cbw_text cbw) ≡ Ok cbw
unfolding cbw_text
cbw_read_back cbw fits =
    let size : (length (cbw_text cbw) == 31) ≡ true = eq-eqb (length (cbw_text cbw)) 31 (omega (arith, fits.place)) in
    let count : is_cdb_length (cbw.cdb_length % 2 ^ 5 % 2 ^ 5) ≡ true =
    and_from (nat_le 1 (cbw.cdb_length % 2 ^ 5 % 2 ^ 5)) (nat_le (cbw.cdb_length % 2 ^ 5 % 2 ^ 5) 16) (le-leb 1 (cbw.cdb_length % 2 ^ 5 % 2 ^ 5) (omega (arith, fits.some, fits.few)))
    (le-leb (cbw.cdb_length % 2 ^ 5 % 2 ^ 5) 16 (omega (arith, fits.few))) in
    rw (size, count) (ap (λ (c : Cbw). Ok c) (cbw_back cbw fits))

four_back : (a b c d : ℕ) → a < 256 → b < 256 → c < 256 → d < 256
    → little_bytes 4 (a + 256 * (b + 256 * (c + 256 * (d + 256 * 0)))) ≡ a ∷ b ∷ c ∷ d ∷ []
four_back a b c d p q r s =
    let n : ℕ = a + 256 * (b + 256 * (c + 256 * (d + 256 * 0))) in
    let first : n % 256 ≡ a = omega arith in
    let second : n / 256 % 256 ≡ b = omega arith in
    let third : n / 65536 % 256 ≡ c = omega arith in
    let fourth : n / 16777216 % 256 ≡ d = omega arith in
    ap₂ ◌∷◌ first (ap₂ ◌∷◌ second (ap₂ ◌∷◌ third (ap₂ ◌∷◌ fourth refl)))

-- the first twelve bytes, by their three numbers
pub twelve_back : (bytes : List ℕ) → 12 ≤ length bytes → AreBytes bytes
    → little_bytes 4 (little_number 4 bytes) ++ little_bytes 4 (little_number 4 (drop 4 bytes)) ++ little_bytes 4 (little_number 4 (drop 8 bytes)) ≡ take 12 bytes
twelve_back (a ∷ b ∷ c ∷ d ∷ e ∷ f ∷ g ∷ h ∷ i ∷ j ∷ k ∷ l ∷ rest) long are =
    let one = four_back a b c d (are 0) (are 1) (are 2) (are 3) in
    let two = four_back e f g h (are 4) (are 5) (are 6) (are 7) in
    let three = four_back i j k l (are 8) (are 9) (are 10) (are 11) in
    ap₂ ◌++◌ (ap₂ ◌++◌ one two) three
twelve_back _ long are = absurd (omega arith)

flags_back : (byte : ℕ) → byte < 256 → flags_of (nat_le (2 ^ 7) byte) ≡ 2 ^ 7 * (byte / 2 ^ 7)
flags_back byte small =
    cond_both (nat_le (2 ^ 7) byte) (2 ^ 7) 0 (λ (n : ℕ). n ≡ 2 ^ 7 * (byte / 2 ^ 7))
    (λ yes. omega (arith, leb-true (2 ^ 7) byte yes)) (λ no. omega (arith, leb-false (2 ^ 7) byte no))

pub small_number : (at : ℕ) (bytes : List ℕ) → AreBytes bytes → little_number 4 (drop at bytes) < 2 ^ 32
small_number at bytes are = let small = little_from-lt 0 4 (drop at bytes) (bytes_dropped at bytes are) in omega (arith, small)

fits_read : (bytes : List ℕ) → length bytes ≡ 31 → is_cdb_length (slice_index bytes 14 % 2 ^ 5) ≡ true → AreBytes bytes → FitsCbw (cbw_of bytes)
unfolding cdb_in
fits_read bytes size told are =
    let count : ℕ = slice_index bytes 14 % 2 ^ 5 in
    let parts = and_parts (nat_le 1 count) (nat_le count 16) told in
    let some : 1 ≤ count = leb-true 1 count parts.0 in
    let few : count ≤ 16 = leb-true count 16 parts.1 in
    let taken : length (take count (drop 15 bytes)) ≡ count = length-take-le count (drop 15 bytes) (omega (arith, length-drop 15 bytes, few, size)) in
    record {
      tag = small_number 4 bytes are;
      data_length = small_number 8 bytes are;
      lun = mod-lt (slice_index bytes 13) (omega arith);
      some = some;
      few = few;
      place = omega (arith, length-append (take count (drop 15 bytes)) (replicate (16 - count) 0), length-replicate {A = ℕ} (16 - count) 0, taken, few);
      zeros = drop_at (take count (drop 15 bytes)) (replicate (16 - count) 0) count taken;
    }

written : (bytes : List ℕ) → length bytes ≡ 31 → little_number 4 bytes ≡ 0x43425355 → AreBytes bytes → cbw_text (cbw_of bytes) ≡ without_reserved bytes
unfolding cbw_text
written bytes size signature are =
    let count : slice_index bytes 14 % 2 ^ 5 % 2 ^ 5 ≡ slice_index bytes 14 % 2 ^ 5 = omega arith in
    let lun : slice_index bytes 13 % 2 ^ 4 % 2 ^ 4 ≡ slice_index bytes 13 % 2 ^ 4 = omega arith in
    let flags = flags_back (slice_index bytes 12) (are 12) in
    let front : little_bytes 4 0x43425355 ++ little_bytes 4 (little_number 4 (drop 4 bytes)) ++ little_bytes 4 (little_number 4 (drop 8 bytes)) ≡ take 12 bytes =
    subst (λ (n : ℕ). little_bytes 4 n ++ little_bytes 4 (little_number 4 (drop 4 bytes)) ++ little_bytes 4 (little_number 4 (drop 8 bytes)) ≡ take 12 bytes)
    signature (twelve_back bytes (omega (arith, size)) are) in
    ap₂ ◌++◌ (ap₂ ◌++◌ front (ap₂ ◌∷◌ flags (ap₂ ◌∷◌ lun (ap₂ ◌∷◌ count refl)))) refl

pub cbw_written_back : (bytes : List ℕ) → AreBytes bytes → IfOk (cbw_in bytes) (λ cbw. FitsCbw cbw × (cbw_text cbw ≡ without_reserved bytes))
cbw_written_back bytes are =
    let P : Result Cbw CbwFault → Type 0 = λ r. IfOk r (λ cbw. FitsCbw cbw × (cbw_text cbw ≡ without_reserved bytes)) in
    let count : Bool = is_cdb_length (slice_index bytes 14 % 2 ^ 5) in
    let good : Result Cbw CbwFault = Ok (cbw_of bytes) in
    let third : Result Cbw CbwFault = if not count then Err CommandLength else good in
    let second : Result Cbw CbwFault = if not (little_number 4 bytes == 0x43425355) then Err Signature else third in
    cond_both (not (length bytes == 31)) (Err Length) second P (λ bad. tt)
    (λ sized. cond_both (not (little_number 4 bytes == 0x43425355)) (Err Signature) third P (λ bad. tt)
    (λ signed. cond_both (not count) (Err CommandLength) good P (λ bad. tt)
    (λ told.
    (let size = eqb-true (length bytes) 31 (not-false _ sized) in
    let signature = eqb-true (little_number 4 bytes) 0x43425355 (not-false _ signed) in
    (fits_read bytes size (not-false _ told) are, written bytes size signature are)))))
