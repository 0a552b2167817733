-- A record is found, and what is found is a record.
use Rattle.std.proofs.Common.{◌≡◌, ℕ, ◌+◌, ◌^◌, ◌<◌, ◌≤◌, ◌==◌, ◌&&◌, ◌||◌, Bool, true, false, cond, List, [], ◌∷◌, ◌++◌, length, take, refl, sym, ap, ◌∙◌, arith}
use Rattle.std.specs.Prelude.{nat_le}
use Rattle.std.proofs.lemmas.Bool.{and_parts, eq-eqb, eqb-true, leb-true, lt-leb}
use Rattle.std.proofs.Math.Dec.{eqb-suc-zero}
use Rattle.std.proofs.lemmas.List.{append-nil, length-take, nil_from_length}
use Rattle.byteorder.specs.Endian.{big_bytes}
use Rattle.byteorder.specs.Numbers.{big_from-lt, big_from-take}
use Rattle.byte_numbers.specs.Bytes.{AreBytes}
use Rattle.byte_numbers.proofs.Bytes.{bytes_joined}
use Rattle.log_records.proofs.Fits.{checksum_fits}
use Rattle.log_records.specs.declared.First.{First}
use Rattle.log_records.specs.declared.First.TheVariants.{Nothing, Whole, Torn, Wrong}
use Rattle.log_records.specs.Finding.{behind, body_len, body_of, first_record, is_followed, is_long_enough, is_whole, sum_of}
use Rattle.log_records.specs.Records.{record_text, sum_after}
use Rattle.log_records.proofs.Framing.{IsLong, are_framed, are_long, body_size, framed, framed_body, framed_len, framed_long, framed_size, framed_sum, record_framed}
use Rattle.byte_numbers.proofs.Numbers.{number_is_bytes}

-- a record's checksum has 32 bits
pub sum_fits : (before : ℕ) (body : List ℕ) → AreBytes body → sum_after before body < 2 ^ 32
sum_fits before body are =
    checksum_fits (big_bytes 4 (length body) ++ body ++ big_bytes 4 before)
    (bytes_joined (big_bytes 4 (length body) ++ body) (big_bytes 4 before)
    (bytes_joined (big_bytes 4 (length body)) body (number_is_bytes 4 (length body)) are) (number_is_bytes 4 before))

-- what there is at the front of bytes that aren't none
some_there : (bytes : List ℕ) → 1 ≤ length bytes → (length bytes == 0) ≡ false
some_there [] some = absurd (omega arith)
some_there (byte ∷ bytes) some = eqb-suc-zero (length bytes)

-- WHICH ANSWER IS CHOSEN

chosen_whole : (empty whole followed : Bool) (found : First) → empty ≡ false → whole ≡ true
    → cond empty Nothing (cond whole found (cond followed Wrong Torn)) ≡ found
chosen_whole true whole followed found p q = absurd cc
chosen_whole false true followed found p q = refl
chosen_whole false false followed found p q = absurd cc

chosen_torn : (empty whole followed : Bool) (found : First) → empty ≡ false → whole ≡ false → followed ≡ false
    → cond empty Nothing (cond whole found (cond followed Wrong Torn)) ≡ Torn
chosen_torn true whole followed found p q r = absurd cc
chosen_torn false true followed found p q r = absurd cc
chosen_torn false false true found p q r = absurd cc
chosen_torn false false false found p q r = refl

whole_chosen : (empty whole followed : Bool) (len sum l s : ℕ) → cond empty Nothing (cond whole (Whole len sum) (cond followed Wrong Torn)) ≡ Whole l s
    → (whole ≡ true) × (len ≡ l) × (sum ≡ s)
whole_chosen true whole followed len sum l s e = absurd cc
whole_chosen false true followed len sum l s e = (refl, cc, cc)
whole_chosen false false true len sum l s e = absurd cc
whole_chosen false false false len sum l s e = absurd cc

-- A RECORD

both_true : (a b : Bool) → a ≡ true → b ≡ true → (a && b) ≡ true
both_true true true p q = refl
both_true true false p q = absurd cc
both_true false b p q = absurd cc

first_framed : (before : ℕ) (body : List ℕ) (sum : ℕ) (rest : List ℕ) → length body < 2 ^ 32 → sum < 2 ^ 32 → sum ≡ sum_after before body
    → first_record before (framed body sum rest) ≡ Whole (length body) sum
unfolding first_record
first_framed before body sum rest few small right =
    let bytes : List ℕ = framed body sum rest in
    let some : (length bytes == 0) ≡ false = some_there bytes (omega (arith, framed_size body sum rest)) in
    let long : is_long_enough bytes ≡ true = framed_long body sum rest few in
    let same : (sum_of bytes == sum_after before (body_of bytes)) ≡ true =
    eq-eqb _ _ (framed_sum body sum rest few small ∙ right ∙ ap (sum_after before) (sym (framed_body body sum rest few))) in
    let whole : is_whole before bytes ≡ true = both_true (is_long_enough bytes) (sum_of bytes == sum_after before (body_of bytes)) long same in
    chosen_whole (length bytes == 0) (is_whole before bytes) (is_followed before bytes) (Whole (body_len bytes) (sum_of bytes)) some whole
    ∙ ap (λ len. Whole len (sum_of bytes)) (framed_len body sum rest few) ∙ ap (Whole (length body)) (framed_sum body sum rest few small)

first_false : (a b : Bool) → a ≡ false → (a && b) ≡ false
first_false true b p = absurd cc
first_false false b p = refl

-- a record is found, whatever follows
pub record_found : (before : ℕ) (body rest : List ℕ) → length body < 2 ^ 32 → AreBytes body
    → first_record before (record_text before body ++ rest) ≡ Whole (length body) (sum_after before body)
record_found before body rest few are =
    ap (first_record before) (record_framed before body rest) ∙ first_framed before body (sum_after before body) rest few (sum_fits before body are) refl

-- WHAT IS FOUND

-- what is at the front where a whole record is found
pub record IsRecordAt (before : ℕ) (bytes : List ℕ) (len sum : ℕ) : Type 0 where
  pub long : IsLong bytes
  pub len_is : length (body_of bytes) ≡ len
  pub sum_is : sum ≡ sum_after before (body_of bytes)
  pub text : bytes ≡ record_text before (body_of bytes) ++ behind bytes
  pub few : length (body_of bytes) < 2 ^ 32

pub found_record : (before : ℕ) (bytes : List ℕ) (len sum : ℕ) → AreBytes bytes → first_record before bytes ≡ Whole len sum → IsRecordAt before bytes len sum
unfolding first_record
found_record before bytes len sum are e =
    let chosen = whole_chosen (length bytes == 0) (is_whole before bytes) (is_followed before bytes) (body_len bytes) (sum_of bytes) len sum e in
    let parts = and_parts (is_long_enough bytes) (sum_of bytes == sum_after before (body_of bytes)) chosen.0 in
    let long : IsLong bytes = are_long bytes parts.0 in
    let right : sum_of bytes ≡ sum_after before (body_of bytes) = eqb-true (sum_of bytes) (sum_after before (body_of bytes)) parts.1 in
    record {
      long = long;
      len_is = body_size bytes long ∙ chosen.1;
      sum_is = sym chosen.2 ∙ right;
      text = are_framed bytes are long ∙ ap (λ n. framed (body_of bytes) n (behind bytes)) right ∙ sym (record_framed before (body_of bytes) (behind bytes));
      few = omega (arith, body_size bytes long, big_from-lt 0 4 bytes are);
    }

nothing_chosen : (empty whole followed : Bool) (len sum : ℕ) → cond empty Nothing (cond whole (Whole len sum) (cond followed Wrong Torn)) ≡ Nothing → empty ≡ true
nothing_chosen true whole followed len sum e = refl
nothing_chosen false true followed len sum e = absurd cc
nothing_chosen false false true len sum e = absurd cc
nothing_chosen false false false len sum e = absurd cc

pub nothing_there : (before : ℕ) (bytes : List ℕ) → first_record before bytes ≡ Nothing → bytes ≡ []
unfolding first_record
nothing_there before bytes e =
    nil_from_length bytes
    (eqb-true (length bytes) 0 (nothing_chosen (length bytes == 0) (is_whole before bytes) (is_followed before bytes) (body_len bytes) (sum_of bytes) e))

-- WHAT IS CUT

short_torn : (before : ℕ) (bytes : List ℕ) → 1 ≤ length bytes → is_long_enough bytes ≡ false → first_record before bytes ≡ Torn
unfolding first_record
short_torn before bytes some short =
    chosen_torn (length bytes == 0) (is_whole before bytes) (is_followed before bytes) (Whole (body_len bytes) (sum_of bytes)) (some_there bytes some)
    (first_false (is_long_enough bytes) (sum_of bytes == sum_after before (body_of bytes)) short)
    (first_false (is_long_enough bytes) (is_whole (sum_of bytes) (behind bytes) || is_whole (sum_after before (body_of bytes)) (behind bytes)) short)

not_long : (a b : Bool) → (a ≡ true → b ≡ false) → (a && b) ≡ false
not_long true b shown = shown refl
not_long false b shown = refl

-- a part of what is framed is shorter than its length asks for
cut_short : (body : List ℕ) (sum n : ℕ) → length body < 2 ^ 32 → n < 8 + length body → is_long_enough (take n (framed body sum [])) ≡ false
cut_short body sum n few cut =
    let bytes : List ℕ = take n (framed body sum []) in
    not_long (nat_le 4 (length bytes)) (nat_le (8 + body_len bytes) (length bytes)) (λ some.
    let size : length bytes ≡ n = omega (arith, length-take n (framed body sum []), framed_size body sum [], cut) in
    let at-least : 4 ≤ n = omega (arith, leb-true 4 (length bytes) some, size) in
    let len : body_len bytes ≡ length body = big_from-take 0 4 n (framed body sum []) at-least ∙ framed_len body sum [] few in
    lt-leb (8 + body_len bytes) (length bytes) (omega (arith, size, len, cut)))

pub cut_torn : (before n : ℕ) (body : List ℕ) → length body < 2 ^ 32 → 1 ≤ n → n < length (record_text before body)
    → first_record before (take n (record_text before body)) ≡ Torn
cut_torn before n body few some cut =
    let text : record_text before body ≡ framed body (sum_after before body) [] = sym (append-nil (record_text before body)) ∙ record_framed before body [] in
    let size : length (record_text before body) ≡ 8 + length body = ap length text ∙ framed_size body (sum_after before body) [] ∙ omega arith in
    let taken : length (take n (framed body (sum_after before body) [])) ≡ n =
    omega (arith, length-take n (framed body (sum_after before body) []), framed_size body (sum_after before body) [], cut, size) in
    ap (λ (bytes : List ℕ). first_record before (take n bytes)) text
    ∙ short_torn before (take n (framed body (sum_after before body) [])) (omega (arith, taken, some))
    (cut_short body (sum_after before body) n few (omega (arith, size, cut)))
