-- Laws of the unit grammar: a text has no fault, and determines its unit.
use Rattle.std.proofs.Common.{◌≡◌, ℕ, ◌^◌, ◌<◌, ◌/◌, ◌%◌, List, ◌++◌, length, take, drop, get_or, arith, sym, ◌∙◌, ap, None, Result, Ok}
use Rattle.std.proofs.Common.{Err, IfOk, length-append}
use Rattle.std.specs.Result.{result_err}
use Rattle.std.proofs.lemmas.List.{take_at, drop_at}
use Rattle.std.proofs.lemmas.Grind.{common_steps}
use Rattle.arrayvec.specs.ArrayVec.{ArrayVec}
use Rattle.uas_iu.specs.declared.Iu.{Iu}
use Rattle.uas_iu.specs.declared.Iu.TheVariants.{Command, Sense, Response, Task}
use Rattle.uas_iu.specs.declared.IuFault.{IuFault}
use Rattle.uas_iu.specs.Units.{unit_text, Fits, IsTextOf, unit_size}
use Rattle.uas_iu.specs.Faults.{first_fault}

-- a number below 2^16 by its two bytes
number_by_bytes : (m n : ℕ) → m < 2 ^ 16 → n < 2 ^ 16 → m / 256 % 256 ≡ n / 256 % 256 → m % 256 ≡ n % 256 → m ≡ n
number_by_bytes m n m_fits n_fits high low = omega arith

-- the front and the rest of a list that is joined of parts of known length
front_by_length : (n : ℕ) (xs ys zs ws : List ℕ) → length xs ≡ n → length zs ≡ n → xs ++ ys ≡ zs ++ ws → xs ≡ zs
front_by_length n xs ys zs ws xs_length zs_length same =
    sym (take_at xs ys n xs_length) ∙ ap (take n) same ∙ take_at zs ws n zs_length

rest_by_length : (n : ℕ) (xs ys zs ws : List ℕ) → length xs ≡ n → length zs ≡ n → xs ++ ys ≡ zs ++ ws → ys ≡ ws
rest_by_length n xs ys zs ws xs_length zs_length same =
    sym (drop_at xs ys n xs_length) ∙ ap (drop n) same ∙ drop_at zs ws n zs_length

-- the texts of two units that fit are equal only where the units are
pub unit_text-injective : (unit other : Iu) → Fits unit → Fits other → unit_text unit ≡ unit_text other → unit ≡ other
unfolding unit_text
unit_text-injective (Command tag lun cdb) (Command tag' lun' cdb') fits fits' same =
    let tags : tag ≡ tag' = number_by_bytes tag tag' fits.0 fits'.0 (ap (λ bytes. get_or bytes 2 0) same) (ap (λ bytes. get_or bytes 3 0) same) in
    let luns : lun ≡ lun' = front_by_length 8 lun cdb lun' cdb' fits.1 fits'.1 (ap (drop 8) same) in
    let cdbs : cdb ≡ cdb' = rest_by_length 8 lun cdb lun' cdb' fits.1 fits'.1 (ap (drop 8) same) in
    cc
unit_text-injective (Sense tag status sense) (Sense tag' status' sense') fits fits' same =
    let tags : tag ≡ tag' = number_by_bytes tag tag' fits.0 fits'.0 (ap (λ bytes. get_or bytes 2 0) same) (ap (λ bytes. get_or bytes 3 0) same) in
    let statuses : status ≡ status' = ap (λ bytes. get_or bytes 6 0) same in
    let senses : sense ≡ sense' = ap (λ bytes. let v : ArrayVec ℕ = record { items = drop 16 bytes } in v) same in
    cc
unit_text-injective (Response tag code) (Response tag' code') fits fits' same =
    let tags : tag ≡ tag' = number_by_bytes tag tag' fits fits' (ap (λ bytes. get_or bytes 2 0) same) (ap (λ bytes. get_or bytes 3 0) same) in
    let codes : code ≡ code' = ap (λ bytes. get_or bytes 7 0) same in
    cc
unit_text-injective (Task tag function task_tag lun) (Task tag' function' task_tag' lun') fits fits' same =
    let tags : tag ≡ tag' = number_by_bytes tag tag' fits.0 fits'.0 (ap (λ bytes. get_or bytes 2 0) same) (ap (λ bytes. get_or bytes 3 0) same) in
    let functions : function ≡ function' = ap (λ bytes. get_or bytes 4 0) same in
    let task_tags : task_tag ≡ task_tag' =
    number_by_bytes task_tag task_tag' fits.1 fits'.1 (ap (λ bytes. get_or bytes 6 0) same) (ap (λ bytes. get_or bytes 7 0) same) in
    let luns : lun ≡ lun' = ap (drop 8) same in
    cc
unit_text-injective unit other fits fits' same = absurd (omega (arith, ap (λ bytes. get_or bytes 0 0) same))

-- how long the text of a unit that fits is
pub length-unit_text : (unit : Iu) → Fits unit → length (unit_text unit) ≡ unit_size unit
unfolding unit_text
length-unit_text (Command tag lun cdb) fits = omega (arith, length-append lun cdb)
length-unit_text (Sense tag status sense) fits = omega arith
length-unit_text (Response tag code) fits = omega arith
length-unit_text (Task tag function task_tag lun) fits = omega arith

-- the text of a unit that fits has no fault
pub first_fault-unit_text : (unit : Iu) → Fits unit → first_fault (unit_text unit) ≡ None
unfolding unit_text first_fault
first_fault-unit_text (Command tag lun cdb) fits =
    let size : length (lun ++ cdb) ≡ 24 = omega (arith, length-append lun cdb) in grind (arith, common_steps)
first_fault-unit_text (Sense tag status sense) fits = grind (arith, common_steps)
first_fault-unit_text (Response tag code) fits = grind (arith, common_steps)
first_fault-unit_text (Task tag function task_tag lun) fits = grind (arith, common_steps)

-- what finds a fault of every list but texts, and the unit of what it finds, finds every unit
pub every_text_found : (bytes : List ℕ) (found : Result Iu IuFault) → result_err found ≡ first_fault bytes
    → IfOk found (λ unit. IsTextOf bytes unit) → (unit : Iu) → Fits unit → bytes ≡ unit_text unit → found ≡ Ok unit
every_text_found bytes (Ok other) fault is_text unit fits text =
    ap (λ u. Ok u) (unit_text-injective other unit is_text.0 fits (sym is_text.1 ∙ text))
every_text_found bytes (Err e) fault is_text unit fits text =
    let none = fault ∙ ap first_fault text ∙ first_fault-unit_text unit fits in cc
