-- A checksum of a command line, as std reads it.
use Rattle.std.proofs.Common.{◌≡◌, ◌<◌, ◌≤◌, ◌^◌, ◌&&◌, ◌==◌, ℕ, Bool, cond, true, false, [], ◌∷◌, length, Some, None, Result, Ok, Err, refl, sym, ap, subst, drop, ◌∙◌, arith}
use Rattle.std.specs.Prelude.{nat_le}
use Rattle.std.specs.List.{list_all}
use Rattle.std.specs.Result.{result_ok}
use Rattle.std.specs.Char.{digit_value, is_ascii_hexdigit}
use Rattle.std.specs.Str.Parse.{AllDigits, IsNumeral, ParsesUnsigned, digits_value, without_leading_plus}
use Rattle.std.proofs.Math.Nat.{pow-le-pow_right}
use Rattle.std.proofs.lemmas.Bool.{leb-true}
use Rattle.std.proofs.lemmas.Grind.{common_steps}
use Rattle.std.proofs.lemmas.Int.Digits.{digits_value-lt}
use Rattle.clap.specs.Words.{Text}
use Rattle.uas_words.specs.CommandLine.{hex_number, is_hex}

hex_value : (c : ℕ) → is_ascii_hexdigit c ≡ true → digit_value c < 16
hex_value c is = grind (arith, common_steps, is)

hex_hyphen : (c : ℕ) → is_ascii_hexdigit c ≡ true → (c == 45) ≡ false
hex_hyphen c is = grind (arith, common_steps, is)

hex_plus : (c : ℕ) → is_ascii_hexdigit c ≡ true → (c == 43) ≡ false
hex_plus c is = grind (arith, common_steps, is)

both : (a b : Bool) → (a && b) ≡ true → (a ≡ true) × (b ≡ true)
both true b is = (refl, is)
both false b is = absurd cc

all_digits : (word : Text) → list_all is_ascii_hexdigit word ≡ true → AllDigits 16 word
all_digits [] is = tt
all_digits (c ∷ cs) is = (hex_value c (both (is_ascii_hexdigit c) (list_all is_ascii_hexdigit cs) is).0, all_digits cs (both (is_ascii_hexdigit c) (list_all is_ascii_hexdigit cs) is).1)

small : (word : Text) → AllDigits 16 word → length word ≤ 8 → digits_value 16 word < 2 ^ 32
small word digits few = omega (arith, digits_value-lt 16 word digits, pow-le-pow_right {n = 16} (omega arith) {i = length word} {j = 8} few)

-- where no plus stands first
parsed : {E : Type 0} (c : ℕ) (cs : Text) (r : Result ℕ E) → (c == 43) ≡ false → AllDigits 16 (c ∷ cs) → digits_value 16 (c ∷ cs) < 2 ^ 32
    → ParsesUnsigned 32 16 (c ∷ cs) r → result_ok r ≡ Some (digits_value 16 (c ∷ cs))
parsed c cs (Ok n) plus digits low is =
    let bare : without_leading_plus (c ∷ cs) ≡ c ∷ cs = ap (λ (b : Bool). drop (cond b 1 0) (c ∷ cs)) plus in
    ap (λ (number : ℕ). Some number) (is.1 ∙ ap (digits_value 16) bare)
parsed c cs (Err e) plus digits low is =
    let bare : without_leading_plus (c ∷ cs) ≡ c ∷ cs = ap (λ (b : Bool). drop (cond b 1 0) (c ∷ cs)) plus in
    absurd (is (subst (λ (ds : Text). IsNumeral 16 ds × (digits_value 16 ds < 2 ^ 32)) (sym bare) ((omega arith, digits), low)))

record IsHex (c : ℕ) (cs : Text) : Type 0 where
  pub few : length (c ∷ cs) ≤ 8
  pub first : is_ascii_hexdigit c ≡ true
  pub digits : AllDigits 16 (c ∷ cs)

hex_parts : (c : ℕ) (cs : Text) → is_hex (c ∷ cs) ≡ true → IsHex c cs
hex_parts c cs is =
    let some = both (nat_le 1 (length (c ∷ cs))) (nat_le (length (c ∷ cs)) 8 && list_all is_ascii_hexdigit (c ∷ cs)) is in
    let few = both (nat_le (length (c ∷ cs)) 8) (list_all is_ascii_hexdigit (c ∷ cs)) some.1 in
    record {
      few = leb-true (length (c ∷ cs)) 8 few.0;
      first = (both (is_ascii_hexdigit c) (list_all is_ascii_hexdigit cs) few.1).0;
      digits = all_digits (c ∷ cs) few.1;
    }

-- std reads it as its number
pub hex_read : {E : Type 0} (word : Text) (r : Result ℕ E) → is_hex word ≡ true → ParsesUnsigned 32 16 word r → result_ok r ≡ hex_number word
hex_read [] r is parse = absurd cc
hex_read (c ∷ cs) r is parse =
    let it = hex_parts c cs is in
    parsed c cs r (hex_plus c it.first) it.digits (small (c ∷ cs) it.digits it.few) parse
    ∙ sym (ap (λ (yes : Bool). cond yes (Some (digits_value 16 (c ∷ cs))) None) is)

-- it has a first digit, which is no hyphen
pub hex_begins : (word : Text) (head : ℕ) → hex_number word ≡ Some head → (d : ℕ) × (ds : Text) × (word ≡ d ∷ ds) × ((d == 45) ≡ false)
hex_begins [] head is = absurd cc
hex_begins (d ∷ ds) head is = go (is_hex (d ∷ ds)) refl is
  where
    go : (b : Bool) → is_hex (d ∷ ds) ≡ b → cond b (Some (digits_value 16 (d ∷ ds))) None ≡ Some head
        → (first : ℕ) × (rest : Text) × (d ∷ ds ≡ first ∷ rest) × ((first == 45) ≡ false)
    go true hex found = (d, ds, refl, hex_hyphen d (hex_parts d ds hex).first)
    go false hex found = absurd cc
