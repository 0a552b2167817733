-- What is embedded reads back, and stays inside of what it stands in.
use Rattle.std.proofs.Common.{◌≡◌, ◌∙◌, ℕ, zero, suc, ◌+◌, ◌*◌, ◌/◌, ◌%◌, ◌<◌, ◌==◌, nat_le, Bool, true, false, not, ◌&&◌, if◌then◌else◌, List, [], ◌∷◌, ◌++◌}
use Rattle.std.proofs.Common.{slice_index, Some, refl, ap, sym, codes, arith, inl, inr}
use Rattle.std.specs.List.{flat_map, list_all}
use Rattle.std.proofs.lemmas.List.Folds.{list_all-append}
use Rattle.std.proofs.lemmas.Bool.{and_parts, cases_lt, eqb-true}
use Rattle.hex.specs.Hex.{IsBytes, encode_lower, encode_with, hex_digit_value, lower_digits}
use Rattle.hex.proofs.HexLemmas.{IsDigits-lower_digits}
use Rattle.draw_run.specs.page.Embedded.{embedded, escaped, is_plain, is_safe, read, read_from, with_first}

-- WHAT A READER MAKES OF ONE BYTE

plain_read : (byte : ℕ) (rest : List ℕ) → (byte == 92) ≡ false → (nat_le 32 byte && not (byte == 34)) ≡ true
    → read (byte ∷ rest) ≡ with_first byte (read rest)
unfolding read_from
plain_read byte rest other printed = rw (other, printed) refl

feed_read : (rest : List ℕ) → read (codes "\\n" ++ rest) ≡ with_first 10 (read rest)
unfolding read_from
feed_read rest = refl

-- two digits behind \u00
hex_read : (high low : ℕ) (h l : ℕ) (rest : List ℕ) → hex_digit_value high ≡ Some h → hex_digit_value low ≡ Some l
    → read (codes "\\u00" ++ (high ∷ low ∷ rest)) ≡ with_first (16 * h + l) (read rest)
unfolding read_from
hex_read high low h l rest p q =
    let same : 16 * (0 + h) + l ≡ 16 * h + l = omega arith in
    rw (p, q) (ap (λ character. with_first character (read rest)) same)

-- what the tests of a plain byte say that a reader asks
plain_parts : (low high quote slash and less greater : Bool)
    → ((low && high) && (not quote && (not slash && (not and && (not less && not greater))))) ≡ true → (slash ≡ false) × ((low && not quote) ≡ true)
plain_parts true true false false and less greater is = (refl, refl)
plain_parts false high quote slash and less greater is = cc
plain_parts true false quote slash and less greater is = cc
plain_parts true true true slash and less greater is = cc
plain_parts true true false true and less greater is = cc

escaped_read : (byte : ℕ) (rest : List ℕ) → byte < 256 → read (escaped byte ++ rest) ≡ with_first byte (read rest)
unfolding escaped is_plain encode_with
escaped_read byte rest fits = go (is_plain byte) refl (byte == 10) refl
  where
    go : (plain : Bool) → is_plain byte ≡ plain → (feed : Bool) → (byte == 10) ≡ feed
        → read ((if plain then byte ∷ [] else (if feed then codes "\\n" else codes "\\u00" ++ encode_lower (byte ∷ []))) ++ rest) ≡ with_first byte (read rest)
    go true is feed e =
        let parts = plain_parts (nat_le 32 byte) (nat_le byte 126) (byte == 34) (byte == 92) (byte == 38) (byte == 60) (byte == 62) is in
        plain_read byte rest parts.0 parts.1
    go false is true e = feed_read rest ∙ ap (λ character. with_first character (read rest)) (sym (eqb-true byte 10 e))
    go false is false e =
        let whole : 16 * (byte / 16) + byte % 16 ≡ byte = omega arith in
        hex_read (slice_index lower_digits (byte / 16)) (slice_index lower_digits (byte % 16)) (byte / 16) (byte % 16) rest
        (IsDigits-lower_digits (byte / 16) (omega arith)) (IsDigits-lower_digits (byte % 16) (omega arith))
        ∙ ap (λ character. with_first character (read rest)) whole

-- all bytes read back
pub reads_back : (bytes : List ℕ) → IsBytes bytes → read (embedded bytes) ≡ Some bytes
unfolding embedded read_from
reads_back [] are = refl
reads_back (byte ∷ bytes) are =
    escaped_read byte (flat_map escaped bytes) (are 0) ∙ ap (with_first byte) (reads_back bytes (λ k. are (suc k)))

-- WHAT STAYS INSIDE

-- what holds of every number below another by a test that computes
abbrev all_below : (ℕ → Bool) → ℕ → Bool
all_below passes zero = true
all_below passes (suc n) = passes n && all_below passes n

below-at : (passes : ℕ → Bool) (n k : ℕ) → all_below passes n ≡ true → k < n → passes k ≡ true
below-at passes zero k all below = absurd (omega (arith, below))
below-at passes (suc n) k all below =
    let parts = and_parts (passes n) (all_below passes n) all in
    elim (cases_lt k n) [
      | inl less ↦ below-at passes n k parts.1 less
      | inr top ↦
          let same : k ≡ n = omega (arith, below, top) in
          rw same parts.0
    ]

safe_digit : (k : ℕ) → k < 16 → is_safe (slice_index lower_digits k) ≡ true
safe_digit k below = below-at (λ n. is_safe (slice_index lower_digits n)) 16 k refl below

safe_parts : (printed quote slash and less greater : Bool)
    → (printed && (not quote && (not slash && (not and && (not less && not greater))))) ≡ true
    → (printed && (not quote && (not and && (not less && not greater)))) ≡ true
safe_parts true false false and less greater is = is
safe_parts false quote slash and less greater is = cc
safe_parts true true slash and less greater is = cc
safe_parts true false true and less greater is = cc

two_safe : (high low : ℕ) → is_safe high ≡ true → is_safe low ≡ true → list_all is_safe (codes "\\u00" ++ (high ∷ low ∷ [])) ≡ true
two_safe high low p q = rw (p, q) refl

one_safe : (byte : ℕ) → is_safe byte ≡ true → list_all is_safe (byte ∷ []) ≡ true
one_safe byte p = rw p refl

escaped_safe : (byte : ℕ) → byte < 256 → list_all is_safe (escaped byte) ≡ true
unfolding escaped is_plain encode_with
escaped_safe byte fits = go (is_plain byte) refl (byte == 10)
  where
    go : (plain : Bool) → is_plain byte ≡ plain → (feed : Bool)
        → list_all is_safe (if plain then byte ∷ [] else (if feed then codes "\\n" else codes "\\u00" ++ encode_lower (byte ∷ []))) ≡ true
    go true is feed = one_safe byte (safe_parts (nat_le 32 byte && nat_le byte 126) (byte == 34) (byte == 92) (byte == 38) (byte == 60) (byte == 62) is)
    go false is true = refl
    go false is false =
        two_safe (slice_index lower_digits (byte / 16)) (slice_index lower_digits (byte % 16)) (safe_digit (byte / 16) (omega arith))
        (safe_digit (byte % 16) (omega arith))

-- all that is embedded
pub stays_inside : (bytes : List ℕ) → IsBytes bytes → list_all is_safe (embedded bytes) ≡ true
unfolding embedded
stays_inside [] are = refl
stays_inside (byte ∷ bytes) are =
    list_all-append is_safe (escaped byte) (flat_map escaped bytes)
    ∙ (ap (λ first. first && list_all is_safe (flat_map escaped bytes)) (escaped_safe byte (are 0)) ∙ stays_inside bytes (λ k. are (suc k)))
