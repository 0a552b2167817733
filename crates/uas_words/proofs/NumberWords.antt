-- A number of a command line, as a getter of the words' parser reads it.
use Rattle.std.proofs.Common.{◌≡◌, ◌∙◌, ℕ, ◌<◌, ◌≤◌, ◌&&◌, ◌^◌, Bool, option_map, cond, true, false, List, fold, length, Option, Some, None, Result, Ok, Err}
use Rattle.std.proofs.Common.{refl, ap, ap₂, sym, zero, suc, rules, arith}
use Rattle.std.specs.Prelude.{nat_le, not, ◌==◌, option_and_then}
use Rattle.std.specs.List.{list_all}
use Rattle.std.specs.Result.{result_ok}
use Rattle.std.specs.Char.{is_ascii_digit}
use Rattle.std.specs.Str.Parse.{ExplainsUnsignedError, HasUnsignedDigitsIfOk, IsNumeral, ParsesUnsigned, digits_value, without_leading_plus}
use Rattle.std.proofs.lemmas.Str.Parse.{IsNumeralModel, numerals_by_fold}
use Rattle.std.proofs.lemmas.Bool.{leb-true, eqb-true, eqb-false}
use Rattle.clap.specs.Words.{ReadsOne, TriesOne, one_of, one_text, rows_of}
use Rattle.clap.specs.declared.parser.matches.Found.{Found}
use Rattle.clap.proofs.WalkLemmas.{one_text-rows}
use Rattle.byte_io.specs.Words.{is_number, number_in, value_of, with_digit}
use Rattle.uas_words.specs.CommandLine.{number_of, optional_number}

abbrev pub within : ℕ → ℕ → ℕ → Option ℕ
within least most n = cond (nat_le least n && nat_le n most) (Some n) None

-- our words for digits and their value are those of std
pub numerals : IsNumeralModel (λ ds. list_all is_ascii_digit ds ≡ true) (fold with_digit 0)
numerals = numerals_by_fold _ (search rules) (fold with_digit) (search rules)

number_in-numeral : (least most n : ℕ) (ds : List ℕ) → is_number ds ≡ true → value_of ds ≡ n → number_in least most ds ≡ within least most n
number_in-numeral least most n ds is value = ap₂ (λ (b : Bool) (m : ℕ). cond (b && (nat_le least m && nat_le m most)) (Some m) None) is value

number_in-none : (least most : ℕ) (ds : List ℕ) → (is_number ds ≡ true → value_of ds ≤ most → ⊥) → number_in least most ds ≡ None
number_in-none least most ds never = go (is_number ds) refl (nat_le least (value_of ds)) (nat_le (value_of ds) most) refl
  where
    go : (a : Bool) → is_number ds ≡ a → (b c : Bool) → nat_le (value_of ds) most ≡ c → cond (a && (b && c)) (Some (value_of ds)) None ≡ None
    go false is b c fits = refl
    go true is false c fits = refl
    go true is true false fits = refl
    go true is true true fits = absurd (never is (leb-true _ _ fits))

is_number-numeral : (ds : List ℕ) → IsNumeral 10 ds → is_number ds ≡ true
is_number-numeral ds numeral = go (length ds == 0) refl (numerals.from ds numeral.1)
  where
    go : (b : Bool) → (length ds == 0) ≡ b → list_all is_ascii_digit ds ≡ true → (not b && list_all is_ascii_digit ds) ≡ true
    go false empty digits = digits
    go true empty digits = absurd (omega (arith, numeral.0, eqb-true (length ds) 0 empty))

above_zero : (n : ℕ) → (n ≡ 0 → ⊥) → 0 < n
above_zero zero some = absurd (some refl)
above_zero (suc n) some = omega arith

pub numeral-is_number : (ds : List ℕ) → is_number ds ≡ true → IsNumeral 10 ds
numeral-is_number ds is = go (length ds == 0) refl is
  where
    go : (b : Bool) → (length ds == 0) ≡ b → (not b && list_all is_ascii_digit ds) ≡ true → IsNumeral 10 ds
    go false some digits = (above_zero (length ds) (eqb-false (length ds) 0 some), numerals.to ds digits)
    go true some digits = cc

parsed_number : {E : Type 0} (k least most : ℕ) (text : List ℕ) (r : Result ℕ E) → ParsesUnsigned k 10 text r → most < 2 ^ k
    → number_of least most text ≡ option_and_then (within least most) (result_ok r)
parsed_number k least most text (Ok n) parsed fits =
    let ds = without_leading_plus text in
    number_in-numeral least most n ds (is_number-numeral ds parsed.0.0) (numerals.same ds parsed.0.0.1 ∙ sym parsed.1)
parsed_number k least most text (Err e) parsed fits =
    number_in-none least most (without_leading_plus text) (λ is small.
    let numeral = numeral-is_number (without_leading_plus text) is in
    let same : value_of (without_leading_plus text) ≡ digits_value 10 (without_leading_plus text) = numerals.same _ numeral.1 in
    parsed (numeral, omega (arith, same, small, fits)))

-- what `get_one` gives of a text, where it is in the range
one_number : {E : Type 0} (G : List ℕ → Result ℕ E → Type 0) (k least most : ℕ) (one : Option (List ℕ)) (r : Option ℕ)
    → ((u : List ℕ) (x : Result ℕ E) → G u x → ParsesUnsigned k 10 u x) → most < 2 ^ k
    → (one ≡ None → r ≡ None) → ((t : List ℕ) → one ≡ Some t → ReadsOne G t r)
    → option_and_then (number_of least most) one ≡ option_and_then (within least most) r
one_number {E} G k least most None r only fits none value = ap (option_and_then (within least most)) (sym (none refl))
one_number {E} G k least most (Some t) None only fits none value =
    let given = value t refl in
    parsed_number {E = E} k least most t (Err given.0) (only t (Err given.0) given.1) fits
one_number {E} G k least most (Some t) (Some n) only fits none value =
    parsed_number {E = E} k least most t (Ok n) (only t (Ok n) (value t refl)) fits

-- what an option's number comes to, of the number that it names
abbrev pub optional_within : ℕ → ℕ → Option ℕ → Option (Option ℕ)
optional_within least most None = Some None
optional_within least most (Some n) = option_map (λ (number : ℕ). Some number) (within least most n)

-- what `try_get_one` gives of a text
tried_number : {E : Type 0} (G : List ℕ → Result ℕ E → Type 0) (k least most : ℕ) (one : Option (List ℕ)) (r : Result (Option ℕ) E)
    → ((u : List ℕ) (x : Result ℕ E) → G u x → ParsesUnsigned k 10 u x) → most < 2 ^ k
    → (one ≡ None → r ≡ Ok None) → ((t : List ℕ) → one ≡ Some t → TriesOne G t r)
    → optional_number least most one ≡ option_and_then (optional_within least most) (result_ok r)
tried_number {E} G k least most None r only fits none value =
    ap (λ (x : Result (Option ℕ) E). option_and_then (optional_within least most) (result_ok x)) (sym (none refl))
tried_number {E} G k least most (Some t) (Ok None) only fits none value = absurd (value t refl)
tried_number {E} G k least most (Some t) (Ok (Some n)) only fits none value =
    ap (option_map (λ (number : ℕ). Some number)) (parsed_number {E = E} k least most t (Ok n) (only t (Ok n) (value t refl)) fits)
tried_number {E} G k least most (Some t) (Err e) only fits none value =
    ap (option_map (λ (number : ℕ). Some number)) (parsed_number {E = E} k least most t (Err e) (only t (Err e) (value t refl)) fits)

-- and of an argument, by its rows
pub number_read : (k least most : ℕ) (id : List ℕ) (f : Found) (r : Option ℕ) → most < 2 ^ k
    → (one_text f id ≡ None → r ≡ None)
    → ((t : List ℕ) → one_text f id ≡ Some t
    → ReadsOne (λ bs x. ParsesUnsigned k 10 bs x × ExplainsUnsignedError 10 bs x × HasUnsignedDigitsIfOk bs x) t r)
    → option_and_then (number_of least most) (one_of id (rows_of f)) ≡ option_and_then (within least most) r
number_read k least most id f r fits none value =
    ap (option_and_then (number_of least most)) (sym (one_text-rows f id))
    ∙ one_number (λ bs x. ParsesUnsigned k 10 bs x × ExplainsUnsignedError 10 bs x × HasUnsignedDigitsIfOk bs x) k least most _ r (λ u x g. g.0) fits none value

-- and of an option, by its rows
pub option_read : (least most : ℕ) (id : List ℕ) (f : Found) (r : Result (Option ℕ) _) → most < 2 ^ 32 → (one_text f id ≡ None → r ≡ Ok None)
    → ((t : List ℕ) → one_text f id ≡ Some t
    → TriesOne (λ bs x. ParsesUnsigned 32 10 bs x × ExplainsUnsignedError 10 bs x × HasUnsignedDigitsIfOk bs x) t r)
    → optional_number least most (one_of id (rows_of f)) ≡ option_and_then (optional_within least most) (result_ok r)
option_read least most id f r fits none value =
    ap (optional_number least most) (sym (one_text-rows f id))
    ∙ tried_number (λ bs x. ParsesUnsigned 32 10 bs x × ExplainsUnsignedError 10 bs x × HasUnsignedDigitsIfOk bs x) 32 least most _ r (λ u x g. g.0) fits none value
