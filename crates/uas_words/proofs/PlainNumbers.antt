-- The numbers of a plain command line, as the words' parser tests them.
use Rattle.std.proofs.Common.{◌≡◌, ◌<◌, ◌≤◌, ◌^◌, ◌&&◌, ℕ, ◌==◌, Bool, cond, not, true, false, [], ◌∷◌, length, Some, None, refl, sym, arith, lt-ltb}
use Rattle.std.specs.Prelude.{pos, nat_lt, nat_le, int_le}
use Rattle.std.specs.List.{list_all}
use Rattle.std.specs.Char.{digit_value}
use Rattle.std.specs.Str.Parse.{AllDigits, digits_value}
use Rattle.std.proofs.lemmas.Bool.{leb-true, le-leb, ne_eqb}
use Rattle.std.proofs.lemmas.Str.Parse.{digit_from_value}
use Rattle.clap.specs.Words.{Text}
use Rattle.uas_profile.specs.declared.TheConstants.{MAX_CLIENTS, USUAL_CLIENTS}
use Rattle.byte_io.specs.Words.{is_number, number_in, value_of}
use Rattle.uas_words.proofs.NumberWords.{numeral-is_number, numerals}

-- a word of digits is a number in the range of the words' parser
pub record IsIn (least most : ℕ) (d : ℕ) (ds : Text) : Type 0 where
  pub hyphen : (d == 45) ≡ false
  pub plus : (d == 43) ≡ false
  pub some : nat_lt 0 (length (d ∷ ds)) ≡ true
  pub first : nat_lt (digit_value d) 10 ≡ true
  pub rest : list_all (λ x. nat_lt (digit_value x) 10) ds ≡ true
  pub fits : nat_lt (digits_value 10 (d ∷ ds)) (2 ^ 63) ≡ true
  pub low : int_le (pos least) (pos (digits_value 10 (d ∷ ds))) ≡ true
  pub high : int_le (pos (digits_value 10 (d ∷ ds))) (pos most) ≡ true

pub not-true : (b : Bool) → not b ≡ true → b ≡ false
not-true true is = sym is
not-true false is = refl

-- what a number in a range is
number_in-Some : (least most n : ℕ) (text : Text) → number_in least most text ≡ Some n
    → (is_number text ≡ true) × (least ≤ value_of text) × (value_of text ≤ most)
number_in-Some least most n text is = go (is_number text) refl (nat_le least (value_of text)) refl (nat_le (value_of text) most) refl is
  where
    go : (a : Bool) → is_number text ≡ a → (b : Bool) → nat_le least (value_of text) ≡ b → (c : Bool) → nat_le (value_of text) most ≡ c
        → cond (a && (b && c)) (Some (value_of text)) None ≡ Some n → (is_number text ≡ true) × (least ≤ value_of text) × (value_of text ≤ most)
    go true x true y true z e = (x, leb-true least (value_of text) y, leb-true (value_of text) most z)
    go false x b y c z e = cc
    go true x false y c z e = cc
    go true x true y false z e = cc

digits_pass : (ds : Text) → AllDigits 10 ds → list_all (λ x. nat_lt (digit_value x) 10) ds ≡ true
digits_pass [] h = refl
digits_pass (d ∷ ds) h = rw (lt-ltb (digit_value d) 10 h.0) (digits_pass ds h.1)

in_range : (least most n d : ℕ) (ds : Text) → most < 2 ^ 63 → (is_number (d ∷ ds) ≡ true) × (least ≤ value_of (d ∷ ds)) × (value_of (d ∷ ds) ≤ most)
    → IsIn least most d ds
in_range least most n d ds small h =
    let numeral = numeral-is_number (d ∷ ds) h.0 in
    let range = digit_from_value d numeral.1.0 in
    let same : value_of (d ∷ ds) ≡ digits_value 10 (d ∷ ds) = numerals.same (d ∷ ds) numeral.1 in
    record {
      hyphen = ne_eqb d 45 (λ e. omega (arith, range));
      plus = ne_eqb d 43 (λ e. omega (arith, range));
      some = lt-ltb 0 (length (d ∷ ds)) numeral.0;
      first = lt-ltb (digit_value d) 10 numeral.1.0;
      rest = digits_pass ds numeral.1.1;
      fits = lt-ltb _ _ (omega (arith, same, h.2));
      low = le-leb _ _ (omega (arith, same, h.1));
      high = le-leb _ _ (omega (arith, same, h.2));
    }

-- a number has a first digit, which is no sign
pub number_is_in : (least most n : ℕ) (text : Text) → most < 2 ^ 63 → number_in least most text ≡ Some n
    → (d : ℕ) × (ds : Text) × (text ≡ d ∷ ds) × IsIn least most d ds
number_is_in least most n [] small is =
    let none : number_in least most [] ≡ None = refl in
    cc
number_is_in least most n (d ∷ ds) small is = (d, ds, refl, in_range least most n d ds small (number_in-Some least most n (d ∷ ds) is))

-- clients of the usual number of tags are in the range that the words' parser takes
pub clients_are_in : (n : ℕ) (text : Text) → number_in 1 USUAL_CLIENTS text ≡ Some n → (d : ℕ) × (ds : Text) × (text ≡ d ∷ ds) × IsIn 1 MAX_CLIENTS d ds
clients_are_in n [] is =
    let none : number_in 1 USUAL_CLIENTS [] ≡ None = refl in
    cc
clients_are_in n (d ∷ ds) is =
    let h = number_in-Some 1 USUAL_CLIENTS n (d ∷ ds) is in
    (d, ds, refl, in_range 1 MAX_CLIENTS n d ds (omega arith) (h.0, h.1, omega (arith, h.2)))
